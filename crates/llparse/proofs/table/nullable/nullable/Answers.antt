-- The remaining goals of `nullable`.
use Rattle.llparse.proofs.Common.{ap, ◌∙◌, Clauses}
use Rattle.llparse.proofs.look_ahead.Edges.{iff_on}
use Rattle.llparse.proofs.look_ahead.Nullables.{clauses_below, nullable_iff}
use Rattle.llparse.proofs.table.nullable.nullable.Goals as goal

pub new-requires : goal.new-requires
new-requires c =
    rw (c.nodes.ensures, c.of.ensures.symbols, c.of.ensures.literals, c.in_ok-clauses.ensures)
    (clauses_below c.args.grammar.now c.of.ensures.accepted)

pub returns : goal.returns
returns c =
    λ s.
    iff_on
    (rw (ap (λ (k : Clauses). k.clauses) c.in_ok-over_nodes.ensures ∙ c.in_ok-clauses.ensures) at
    c.in_ok-marks.ensures.marks s) (nullable_iff c.args.grammar.now c.of.ensures.accepted s)
