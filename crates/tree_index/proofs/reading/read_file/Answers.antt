use Rattle.std.proofs.Common.{◌≡◌, ◌-◌, ℕ, [], ap, subst, sym, ◌∙◌, reverse, take}
use Rattle.std.proofs.lemmas.List.{append-nil, reverse-append}
use Rattle.std.proofs.lemmas.Result.{IfOk-weaker}
use Rattle.treefile.specs.devices.Device.{WhenHonest}
use Rattle.tree_index.specs.Nodes.{IsIndexIn}
use Rattle.tree_index.specs.declared.index.TreeIndex.{TreeIndex}
use Rattle.tree_index.proofs.Steps.{begins_reading, ends_reading}
use Rattle.tree_index.proofs.reading.read_file.Goals as goal

pub read-requires-clause-next : goal.read-requires-clause-next
read-requires-clause-next g c = λ honest.
    rw (c.in_ok-back.ensures.content honest)
    (begins_reading c.args.grammar.now (g.D.Device.content c.args.device.now) c.in_ok-back.back c.start-2.result
    (reverse c.new-2.result.items) c.new.result c.start-2.ensures.accepted (c.in_ok-back.ensures.started.end honest)
    c.in_ok-back.ensures.started.fresh (c.in_ok-back.ensures.exact honest) c.start-2.ensures.value
    (ap reverse c.new-2.ensures.items) (c.new.ensures.pass ∙ c.pass-pass.ensures) c.new.ensures.ends c.new.ensures.kinds
    c.new.ensures.sizes)

pub returns-in_default-clause-indexed : goal.returns-in_default-clause-indexed
returns-in_default-clause-indexed g c =
    let h = c.in_default.ensures in
    let reading = c.loop-turn.reading in
    let nothing : reading.nodes.items ≡ [] = h.items ∙ append-nil c.pop.new.self.items ∙ h.rest
    ∙ ap (λ (n : ℕ). take (n - 1) reading.nodes.items) h.cases.0 in
    let content = g.D.Device.content c.args.device.now in
    IfOk-weaker c.end-in_default.result (λ (index : TreeIndex). index ≡ reading.index)
    (λ (index : TreeIndex). WhenHonest (g.D.Device.is_honest c.end-in_default.new.device)
    (IsIndexIn c.args.grammar.now content index))
    (λ index same honest. subst (IsIndexIn c.args.grammar.now content) (sym same)
    (ends_reading c.args.grammar.now content reading.back (reverse reading.nodes.items) reading.index (ap reverse nothing)
    (c.loop-turn.invariant.come (c.end-in_default.ensures.persists.honest honest)))) c.end-in_default.ensures.index

pub turn-requires-clause-come : goal.turn-requires-clause-come
turn-requires-clause-come g c = λ honest.
    let so_far = c.loop-turn.invariant in
    let reading = c.loop-turn.reading in
    let come = rw (c.in-Some.ensures.items, reverse-append) at (so_far.come honest) in
    rw (so_far.content honest) come
