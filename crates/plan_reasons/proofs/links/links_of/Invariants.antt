use Rattle.std.proofs.Common.{◌≤◌, length}
use Rattle.ag_grammar.specs.Lists.{Each}
use Rattle.plan_reasons.specs.Links.{NamesAttribute}
use Rattle.plan_reasons.proofs.Linked.{AreLinksUpTo}
use Rattle.plan_reasons.proofs.links.links_of.Given as goal

abbrev pub invariant-loop-strike : goal.invariant-loop-strike
invariant-loop-strike l = record {
  within : l.strike-index ≤ length l.strikes;
  linked : Each (NamesAttribute l.grammar) l.strikes → AreLinksUpTo l.grammar l.strikes l.strike-index l.links.items;
}
