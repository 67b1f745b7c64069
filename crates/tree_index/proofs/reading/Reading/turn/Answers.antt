use Rattle.std.proofs.Common.{ap, reverse}
use Rattle.std.proofs.lemmas.List.{reverse-append}
use Rattle.std.specs.Global.{Vec}
use Rattle.tree_index.specs.declared.reading.OpenRecord.{OpenRecord}
use Rattle.tree_index.proofs.Steps.{leaves, visits}
use Rattle.tree_index.proofs.reading.Reading.turn.Goals as goal

pub returns-then-node-clause-come : goal.returns-then-node-clause-come
returns-then-node-clause-come g c = λ honest.
    let old = c.args.self.now in
    let new = c.close.new.self in
    leaves c.args.mode.now.format.grammar.now (g.D.Device.content c.args.device.now) old.back new.back c.args.node
    (reverse old.nodes.items) (reverse new.nodes.items) old.index new.index c.close.ensures.back
    (ap (λ (v : Vec OpenRecord). reverse v.items) c.close.ensures.nodes) c.if-node.true c.close.ensures.closed
    (c.requires.come honest)

pub read-requires-clause-next : goal.read-requires-clause-next
read-requires-clause-next g c = λ honest.
    let old = c.args.self.now in
    rw (c.in-Ok.ensures.items, reverse-append)
    (visits c.args.mode.now.format.grammar.now (g.D.Device.content c.args.device.now) old.back c.args.mode.now.format.pass
    c.args.node (reverse old.nodes.items) c.in-Some.expected.item old.index c.requires.pass c.if-node.false c.in-Some.ensures
    (c.requires.come honest))
