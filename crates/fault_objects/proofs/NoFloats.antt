-- The object of a fault has no float, so its text is known byte for byte.
use Rattle.std.proofs.Common.{◌≡◌, ◌||◌, Bool, true, false, List, [], ◌∷◌, Option, None, Some, String, map, refl}
use Rattle.std.specs.declared.alloc.Global.{Global}
use Rattle.fault_objects.specs.Objects.{members_at, object_of, related_data, rule_data}
use Rattle.fault_objects.specs.declared.details.FaultDetails.{FaultDetails}
use Rattle.message_texts.specs.declared.grammar_text.Span.{Span}
use Rattle.message_texts.specs.declared.grammars.related.RelatedPlace.{RelatedPlace}
use Rattle.messages.specs.declared.report.FaultReport.{FaultReport}
use Rattle.serde_json.specs.Data.{Members}
use Rattle.serde_json.specs.View.{items_of}
use Rattle.serde_json.specs.Written.{has_float, items_have_float, members_have_float}

of_related : (places : List RelatedPlace) → items_have_float (items_of (map related_data places)) ≡ false
of_related [] = refl
of_related (place ∷ places) = of_related places

of_rules : (rules : List (String Global)) → items_have_float (items_of (map rule_data rules)) ≡ false
of_rules [] = refl
of_rules (rule ∷ rules) = of_rules rules

either : (a b : Bool) → a ≡ false → b ≡ false → (a || b) ≡ false
either false b first second = second
either true b first second = cc

at_place : (place : Option Span) (ms : Members) → members_have_float ms ≡ false → members_have_float (members_at place ms) ≡ false
at_place None ms is = is
at_place (Some span) ms is = is

pub of_object : (report : FaultReport) (details : FaultDetails) → has_float (object_of report details) ≡ false
of_object report details =
    at_place details.place _ (either _ _ (of_related details.related.items) (either _ _ (of_rules details.rules.items) refl))
