use Rattle.std.proofs.Common.{◌≡◌, string_bytes}
use Rattle.agoutput.specs.Listings.{plan_text}
use Rattle.agoutput.proofs.plan_listing.plan_lines.Given as goal

abbrev pub invariant-loop-before : goal.invariant-loop-before
invariant-loop-before l = string_bytes l.out ≡ plan_text l.grammar l.assignment l.before
