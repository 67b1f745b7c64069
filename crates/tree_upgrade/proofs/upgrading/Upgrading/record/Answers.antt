use Rattle.std.proofs.Common.{ℕ, List, Bor, Err, ap, arith}
use Rattle.std.specs.Option.{option_map}
use Rattle.std.proofs.lemmas.Result.{err_from_is_err_and}
use Rattle.tree_upgrade.proofs.upgrades.Converted.{one_fault, one_missing, one_too_deep, one_too_many, one_wrong}
use Rattle.tree_upgrade.proofs.upgrading.Upgrading.record.Goals as goal

pub returns-then-level-gt-MAX_REVERSED_LEVELS-clause-refused : goal.returns-then-level-gt-MAX_REVERSED_LEVELS-clause-refused
returns-then-level-gt-MAX_REVERSED_LEVELS-clause-refused g c honest =
    one_too_deep c.args.grammar.now c.requires.accepted
    (g.D.Device.content c.args.from.now) c.args.subtree.item c.args.subtree.level c.args.self.now.back.progress c.requires.place
    (omega (arith, c.if-level-gt-MAX_REVERSED_LEVELS.true))

pub returns-then-records-ge-MAX_REVERSED_RECORDS-clause-refused : goal.returns-then-records-ge-MAX_REVERSED_RECORDS-clause-refused
returns-then-records-ge-MAX_REVERSED_RECORDS-clause-refused g c honest =
    one_too_many c.args.grammar.now c.requires.accepted
    (g.D.Device.content c.args.from.now) c.args.subtree.item c.args.subtree.level c.args.self.now.back.progress c.requires.place
    (omega (arith, c.if-level-gt-MAX_REVERSED_LEVELS.false))
    (omega (arith, c.if-records-ge-MAX_REVERSED_RECORDS.true, c.records.ensures))

pub returns-in_err-body-clause-refused : goal.returns-in_err-body-clause-refused
returns-in_err-body-clause-refused g c =
    let p = err_from_is_err_and c.from_residual.result c.from_residual.ensures.1 in
    rw (p.1, p.2)
    (λ honest. one_fault c.args.grammar.now c.requires.accepted
    (g.D.Device.content c.args.from.now) c.args.subtree.item c.args.subtree.level c.args.self.now.back.progress c.requires.place
    (omega (arith, c.if-level-gt-MAX_REVERSED_LEVELS.false))
    (omega (arith, c.if-records-ge-MAX_REVERSED_RECORDS.false, c.records.ensures))
    (option_map (λ (body : Bor (List ℕ)). body.now)) c.in_err-body.field-0.0
    (rw c.requires.ready.version at (c.in_err-body.ensures.exact c.requires.ready.unbroken honest)))

pub returns-in_default-clause-refused : goal.returns-in_default-clause-refused
returns-in_default-clause-refused g c honest =
    let exact = rw (c.in_default.is, c.requires.ready.version) at (c.in_ok-body.ensures.exact c.requires.ready.unbroken honest) in
    one_missing c.args.grammar.now c.requires.accepted
    (g.D.Device.content c.args.from.now) c.args.subtree.item c.args.subtree.level c.args.self.now.back.progress c.requires.place
    (omega (arith, c.if-level-gt-MAX_REVERSED_LEVELS.false))
    (omega (arith, c.if-records-ge-MAX_REVERSED_RECORDS.false, c.records.ensures)) c.end-end.result c.end-end.ensures
    exact

pub returns-in-Err-Damaged-clause-refused : goal.returns-in-Err-Damaged-clause-refused
returns-in-Err-Damaged-clause-refused g c honest =
    let exact = rw (c.in-Some.is, c.requires.ready.version) at (c.in_ok-body.ensures.exact c.requires.ready.unbroken honest) in
    one_wrong c.args.grammar.now c.requires.accepted
    (g.D.Device.content c.args.from.now) c.args.subtree.item c.args.subtree.level c.args.self.now.back.progress c.requires.place
    (omega (arith, c.if-level-gt-MAX_REVERSED_LEVELS.false))
    (omega (arith, c.if-records-ge-MAX_REVERSED_RECORDS.false, c.records.ensures)) c.end-end.result c.in-Some.body.now
    c.end-end.ensures exact (c.in-Err-Damaged.ensures.none (ap Err c.in-Err-Damaged.field-0-is))
