-- The remaining goals of `Sets::follow_marks`.
use Rattle.llparse.proofs.Common.{ap, Clauses, is_marked}
use Rattle.llparse.proofs.look_ahead.Edges.{iff_on}
use Rattle.llparse.proofs.look_ahead.Follows.{all_seeds, follow_iff, seeds_below}
use Rattle.llparse.proofs.table.predict.Sets.follow_marks.Goals as goal

pub closure-requires : goal.closure-requires
closure-requires c =
    let nullable = is_marked c.args.self.now.nullable.items in
    let known =
    all_seeds c.args.grammar.now c.start.ensures.accepted nullable (is_marked c.args.in_first.now) c.args.ahead c.is_end.result
    c.start.result _ _ c.is_end.ensures c.start.ensures.value
    (rw c.as_slice-nullable.ensures.value at c.in_ok-seeds.ensures) c.in_ok-add_seed_if.ensures in
    rw (ap (λ (k : Clauses). k.count) c.requires.sets.follow_exact.1, c.as_slice.ensures.value)
    (seeds_below c.args.grammar.now c.start.ensures.accepted nullable (is_marked c.args.in_first.now) c.args.ahead _
    (λ t. (known t).0))

pub returns : goal.returns
returns c = λ s lt.
    let w = c.requires.sets.follow_exact in
    let nullable = is_marked c.args.self.now.nullable.items in
    let known =
    all_seeds c.args.grammar.now c.start.ensures.accepted nullable (is_marked c.args.in_first.now) c.args.ahead c.is_end.result
    c.start.result _ _ c.is_end.ensures c.start.ensures.value
    (rw c.as_slice-nullable.ensures.value at c.in_ok-seeds.ensures) c.in_ok-add_seed_if.ensures in
    iff_on (rw (ap (λ (k : Clauses). k.clauses) w.1, c.as_slice.ensures.value) at c.in_ok-marks.ensures.marks s)
    (follow_iff c.args.grammar.now c.start.ensures.accepted nullable c.requires.sets.nullable_exact c.args.ahead
    (is_marked c.args.in_first.now) c.requires.first w.0 _ w.2 known s lt)
