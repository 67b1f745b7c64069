use Rattle.std.proofs.Common.{rules, ◌≡◌, subst, sym, true, false}
use Rattle.std.specs.Str.{IsUtf8}
use Rattle.std.proofs.lemmas.Str.{IsUtf8-from_is_utf8}
use Rattle.ag_carried.proofs.shared_text.SharedText.to_text.Goals as goal

pub unreachable-requires : goal.unreachable-requires
unreachable-requires c =
    let copied : c.append_to.new.out.items ≡ c.self.inside.rope = search rules in
    let utf8 : IsUtf8 c.append_to.new.out.items =
    subst IsUtf8 (sym copied) (IsUtf8-from_is_utf8 c.self.inside.rope c.self.invariant.utf8) in
    let converted : false ≡ true = c.in_default.ensures.succeeds utf8 in
    absurd cc
