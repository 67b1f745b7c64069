use Rattle.std.proofs.lemmas.Result.{on_ok_weaker}
use Rattle.tree_index.proofs.Steps.{reads}
use Rattle.tree_index.proofs.reading.Reading.read.Goals as goal

pub returns-clause-come : goal.returns-clause-come
returns-clause-come g c = on_ok_weaker c.open.result (λ opened honest.
    let grammar = c.args.mode.now.format.grammar.now in
    let content = g.D.Device.content c.args.device.now in
    let old = c.args.self.now in
    let new = c.open.new.self in
    let f = c.in_ok-fetched.ensures in
    rw c.open.ensures.back
    (reads grammar content (g.D.Device.is_honest c.fetch.new.device) old.back c.fetch.new.back c.args.expected.item
    c.in_ok-fetched.fetched old.nodes.items new.nodes.items old.index new.index f.fetched opened honest
    (c.requires.ready.over (f.persists.honest honest)).window.within (c.requires.next (f.persists.honest honest))))
    c.open.ensures.opened
