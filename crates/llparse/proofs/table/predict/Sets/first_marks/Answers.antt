-- The remaining goals of `Sets::first_marks`.
use Rattle.llparse.proofs.Common.{ap, Clauses, is_marked}
use Rattle.llparse.proofs.look_ahead.Edges.{iff_on}
use Rattle.llparse.proofs.look_ahead.Firsts.{first_iff}
use Rattle.llparse.proofs.table.predict.Sets.first_marks.Goals as goal

pub returns : goal.returns
returns c = λ y named.
    let w = c.requires.sets.first_exact in
    iff_on
    (rw (ap (λ (k : Clauses). k.clauses) w.1, c.of-sizes.ensures.symbols, c.index.ensures, c.of-sizes.ensures.literals) at
    c.in_ok-marks.ensures.marks _)
    (first_iff c.args.grammar.now c.of-sizes.ensures.accepted
    (is_marked c.args.self.now.nullable.items) c.requires.sets.nullable_exact w.0 w.2 c.args.ahead c.requires.known y named)
