use Rattle.std.proofs.Common.{Bool, List, ℕ, subst, sym}
use Rattle.std.proofs.lemmas.Result.{err_from_is_err_and}
use Rattle.treefile.specs.framing.Beginning.{LeavesBeginning}
use Rattle.tree_upgrade.specs.upgrading.Upgrading.{IsConverted, IsUpgraded}
use Rattle.tree_upgrade.proofs.upgrades.Upgraded.{turned_fault, turned_tree}
use Rattle.tree_upgrade.proofs.upgrading.upgrade.Goals as goal

pub returns-in_err-count-clause-refused : goal.returns-in_err-count-clause-refused
returns-in_err-count-clause-refused g c =
    let p = err_from_is_err_and c.from_residual-in_err-count.result c.from_residual-in_err-count.ensures.1 in
    let grammar = c.args.grammar.now in
    let content = g.D.Device.content c.args.old.now in
    let mid = g.E.Device.content c.convert.new.to in
    rw (p.1, p.2) (λ honest mid_honest.
    turned_fault grammar c.in_ok-convert.ensures.accepted content mid (g.F.Device.is_honest c.turn.new.to)
    (g.F.Device.content c.turn.new.to)
    (subst (λ (b : Bool). IsConverted grammar content b mid) (c.in_err-count.ensures.devices.first.honest mid_honest)
    (c.in_ok-convert.ensures.converted honest)) c.in_err-count.field-0.0 (c.in_err-count.ensures.exact mid_honest))

pub returns-clause-upgraded : goal.returns-clause-upgraded
returns-clause-upgraded g c honest mid_honest =
    let grammar = c.args.grammar.now in
    let content = g.D.Device.content c.args.old.now in
    let mid = g.E.Device.content c.convert.new.to in
    subst
    (λ (between : List ℕ). IsUpgraded grammar content between (g.F.Device.is_honest c.turn.new.to)
    (g.F.Device.content c.turn.new.to) c.in_ok-count.count) (sym (c.turn.ensures.content mid_honest))
    (turned_tree grammar c.in_ok-convert.ensures.accepted content mid (g.F.Device.is_honest c.turn.new.to)
    (g.F.Device.content c.turn.new.to)
    (subst (λ (b : Bool). IsConverted grammar content b mid) (c.in_ok-count.ensures.devices.first.honest mid_honest)
    (c.in_ok-convert.ensures.converted honest)) c.in_ok-count.count (c.in_ok-count.ensures.exact mid_honest))

-- The intermediate file is kept while it is reversed.
pub returns-in_err-count-clause-mid_left : goal.returns-in_err-count-clause-mid_left
returns-in_err-count-clause-mid_left g c = λ h.
    subst (LeavesBeginning 1 (g.E.Device.content c.args.mid.now)) (sym (c.turn.ensures.content h))
    (c.convert.ensures.left (c.in_err-count.ensures.devices.first.honest h))

pub returns-clause-mid_left : goal.returns-clause-mid_left
returns-clause-mid_left g c = λ h.
    subst (LeavesBeginning 1 (g.E.Device.content c.args.mid.now)) (sym (c.turn.ensures.content h))
    (c.convert.ensures.left (c.in_ok-count.ensures.devices.first.honest h))
