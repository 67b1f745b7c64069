use Rattle.std.proofs.Common.{◌≡◌, ℕ, List, [], ◌∷◌, Option, Bor, Ok, Err, None, Some, inl, inr, refl, sym, ap, subst, ◌∙◌}
use Rattle.std.specs.Option.{option_map}
use Rattle.std.proofs.lemmas.Result.{err_from_is_err_and}
use Rattle.ag_grammar.specs.declared.grammar.Item.TheVariants as item
use Rattle.treefile.specs.framing.Backward.{next_before}
use Rattle.treefile.specs.framing.Ending.{ReadsAs}
use Rattle.treefile.specs.records.TreeFile.{version_one}
use Rattle.treefile.proofs.framing.Beginning as beginning
use Rattle.treefile.proofs.framing.Beginning.{frames_begin}
use Rattle.pass_rows.specs.declared.run_fault.RunFault.{RunFault}
use Rattle.backreader.specs.BackState.{IsOver, BackState}
use Rattle.tree_upgrade.specs.upgrading.Upgrading.{Converted, IsUnconverted, text_list}
use Rattle.passrun.proofs.course.Ending.{none_lent}
use Rattle.passrun.proofs.Refusing.{some_lent}
use Rattle.tree_upgrade.proofs.upgrades.Upgraded.{begins_at, fault_after, left_over, not_begun, of_other_pass, whole_converted}
use Rattle.tree_upgrade.proofs.upgrading.convert.Goals as goal

abbrev body_of : Option (Bor (List ℕ)) → Option (List ℕ)
body_of = option_map (λ (body : Bor (List ℕ)). body.now)

pub returns-in_err-back-clause-refused : goal.returns-in_err-back-clause-refused
returns-in_err-back-clause-refused g c =
    let p = err_from_is_err_and c.from_residual.result c.from_residual.ensures.1 in
    rw (p.1, p.2)
    (λ honest. not_begun c.args.grammar.now c.start.ensures.accepted (λ (back : BackState). back.progress.pass)
    (g.D.Device.content c.args.from.now) c.in_err-back.field-0.0 (c.in_err-back.ensures.exact honest))

pub returns-then-pass-ne0-clause-refused : goal.returns-then-pass-ne0-clause-refused
returns-then-pass-ne0-clause-refused g c honest =
    of_other_pass c.args.grammar.now c.start.ensures.accepted (g.D.Device.content c.args.from.now) c.in_ok-back.back.progress.pass
    (c.in_ok-back.ensures.exact honest) (λ same. c.if-pass-ne0.true (c.pass.ensures ∙ same))

pub returns-in_err-tree-clause-refused : goal.returns-in_err-tree-clause-refused
returns-in_err-tree-clause-refused g c =
    let p = err_from_is_err_and c.from_residual-in_err-tree.result c.from_residual-in_err-tree.ensures.1 in
    let grammar = c.args.grammar.now in
    let start = c.in_ok-back.ensures in
    let content = g.D.Device.content c.args.from.now in
    rw (p.1, p.2) (λ honest.
    let z = c.in_err-tree.ensures.devices.first.honest honest in
    let here =
    begins_at grammar c.start.ensures.accepted content c.in_ok-back.back.progress.pass c.in_ok-back.back.progress
    (start.exact z) (sym c.pass.ensures ∙ c.if-pass-ne0.false) (start.started.end z) start.started.fresh in
    let refused =
    subst
    (λ (bytes : List ℕ). IsUnconverted grammar bytes
    (item.Symbol c.start.result ∷ []) 1 c.in_ok-back.back.progress c.in_err-tree.field-0.0) (start.content z)
    (c.in_err-tree.ensures.refused honest) in
    subst (λ (s : ℕ). IsUnconverted grammar content (item.Symbol s ∷ []) 1 c.in_ok-back.back.progress c.in_err-tree.field-0.0)
    c.start.ensures.value refused [] here)

-- No frame can be read after the tree.
pub returns-in_err-back-2-clause-refused : goal.returns-in_err-back-2-clause-refused
returns-in_err-back-2-clause-refused g c =
    let p = err_from_is_err_and c.from_residual-in_err-back-2.result c.from_residual-in_err-back-2.ensures.1 in
    let grammar = c.args.grammar.now in
    let content = g.D.Device.content c.args.from.now in
    let start = c.in_ok-back.ensures in
    let tree = c.in_ok-tree.ensures in
    let before = c.in_ok-back.back.progress in
    let now = c.tree.new.self.back.progress in
    let fault = c.in_err-back-2.field-0.0 in
    rw (p.1, p.2) (λ honest.
    let is = c.in_err-back-2.ensures.persists.honest honest in
    let z = tree.devices.first.honest is in
    let same = tree.content is ∙ start.content z in
    let converted =
    subst
    (λ (s : ℕ). Converted grammar content [] (item.Symbol s ∷ []) 1 before now (g.E.Device.is_honest c.tree.new.to)
    (g.E.Device.content c.begin.new.device) (g.E.Device.content c.tree.new.to)
    (text_list c.in_ok-tree.field-0)) c.start.ensures.value
    (subst
    (λ (bytes : List ℕ). Converted grammar bytes [] (item.Symbol c.start.result ∷ []) 1 before now
    (g.E.Device.is_honest c.tree.new.to) (g.E.Device.content c.begin.new.device) (g.E.Device.content c.tree.new.to)
    (text_list c.in_ok-tree.field-0)) (start.content z) (tree.converted is)) in
    let here =
    begins_at grammar c.start.ensures.accepted content before.pass before (start.exact z)
    (sym c.pass.ensures ∙ c.if-pass-ne0.false) (start.started.end z) start.started.fresh in
    let exact = rw tree.ready.version at (c.in_err-back-2.ensures.exact tree.ready.unbroken honest) in
    fault_after grammar c.start.ensures.accepted body_of content now fault (converted.on [] here)
    (subst (λ (bytes : List ℕ). ReadsAs body_of (Err fault) (next_before version_one bytes now.at)) same exact))

-- A frame is left.
pub returns-then-is_some-clause-refused : goal.returns-then-is_some-clause-refused
returns-then-is_some-clause-refused g c honest =
    let grammar = c.args.grammar.now in
    let content = g.D.Device.content c.args.from.now in
    let start = c.in_ok-back.ensures in
    let tree = c.in_ok-tree.ensures in
    let before = c.in_ok-back.back.progress in
    let now = c.tree.new.self.back.progress in
    let is = c.in_ok-back-2.ensures.persists.honest honest in
    let z = tree.devices.first.honest is in
    let same = tree.content is ∙ start.content z in
    let converted =
    subst
    (λ (s : ℕ). Converted grammar content [] (item.Symbol s ∷ []) 1 before now (g.E.Device.is_honest c.tree.new.to)
    (g.E.Device.content c.begin.new.device) (g.E.Device.content c.tree.new.to)
    (text_list c.in_ok-tree.field-0)) c.start.ensures.value
    (subst
    (λ (bytes : List ℕ). Converted grammar bytes [] (item.Symbol c.start.result ∷ []) 1 before now
    (g.E.Device.is_honest c.tree.new.to) (g.E.Device.content c.begin.new.device) (g.E.Device.content c.tree.new.to)
    (text_list c.in_ok-tree.field-0)) (start.content z) (tree.converted is)) in
    let here =
    begins_at grammar c.start.ensures.accepted content before.pass before (start.exact z)
    (sym c.pass.ensures ∙ c.if-pass-ne0.false) (start.started.end z) start.started.fresh in
    let some = some_lent c.in_ok-back-2.field-0 (sym c.is_some.ensures ∙ c.if-is_some.true) in
    let exact = rw tree.ready.version at (c.in_ok-back-2.ensures.exact tree.ready.unbroken honest) in
    left_over grammar c.start.ensures.accepted content now c.end-end.result some.0 c.end-end.ensures (converted.on [] here)
    (subst (λ (bytes : List ℕ). next_before version_one bytes now.at ≡ Ok (Some some.0)) same (exact ∙ ap Ok some.1))

-- The whole tree was converted.
pub returns-clause-converted : goal.returns-clause-converted
returns-clause-converted g c honest =
    let grammar = c.args.grammar.now in
    let content = g.D.Device.content c.args.from.now in
    let start = c.in_ok-back.ensures in
    let begin = c.in_ok-writer.ensures in
    let tree = c.in_ok-tree.ensures in
    let before = c.in_ok-back.back.progress in
    let back = c.tree.new.self.back in
    let to = g.E.Device.is_honest c.tree.new.to in
    let out_old = g.E.Device.content c.begin.new.device in
    let out = g.E.Device.content c.tree.new.to in
    let texts = text_list c.in_ok-tree.field-0 in
    let is = c.in_ok-back-2.ensures.persists.honest honest in
    let z = tree.devices.first.honest is in
    let same = tree.content is ∙ start.content z in
    let there =
    subst
    (λ (bytes : List ℕ). Converted grammar bytes [] (item.Symbol c.start.result ∷ []) 1 before back.progress
    (g.E.Device.is_honest c.tree.new.to) out_old out texts) (start.content z) (tree.converted is) in
    let converted =
    subst (λ (s : ℕ). Converted grammar content [] (item.Symbol s ∷ []) 1 before back.progress to out_old out texts)
    c.start.ensures.value there in
    let here =
    begins_at grammar c.start.ensures.accepted content before.pass before (start.exact z)
    (sym c.pass.ensures ∙ c.if-pass-ne0.false) (start.started.end z) start.started.fresh in
    let none = none_lent c.in_ok-back-2.field-0 (sym c.is_some.ensures ∙ c.if-is_some.false) in
    let exact = rw tree.ready.version at (c.in_ok-back-2.ensures.exact tree.ready.unbroken honest) in
    whole_converted grammar c.start.ensures.accepted content before back to out_old out texts here
    (start.started.end z) start.started.fresh converted
    (subst (λ (bytes : List ℕ). IsOver bytes back) (start.content z) (tree.ready.over is)) tree.ready.few
    (subst (λ (bytes : List ℕ). next_before version_one bytes back.progress.at ≡ Ok None) same (exact ∙ ap Ok none))
    (λ h. begin.header (tree.devices.second.honest h))

-- ---- the content of the second device

pub returns-in_err-back-clause-left : goal.returns-in_err-back-clause-left
returns-in_err-back-clause-left g c = λ h. inl refl

pub returns-then-pass-ne0-clause-left : goal.returns-then-pass-ne0-clause-left
returns-then-pass-ne0-clause-left g c = λ h. inl refl

pub returns-in_err-writer-clause-left : goal.returns-in_err-writer-clause-left
returns-in_err-writer-clause-left g c = λ h.
    beginning.not_begun 1 (g.E.Device.content c.args.to.now) (g.E.Device.content c.begin.new.device) c.in_err-writer.field-0.0
    (λ failed. c.in_err-writer.ensures.device (ap Err failed) h)
    (λ resource. c.in_err-writer.ensures.memory (ap Err resource) h)

pub returns-in_err-tree-clause-left : goal.returns-in_err-tree-clause-left
returns-in_err-tree-clause-left g c = λ h.
    inr
    (frames_begin RunFault 1 (g.E.Device.content c.begin.new.device) (g.E.Device.content c.tree.new.to)
    (Err c.in_err-tree.field-0.0) (c.in_ok-writer.ensures.header (c.in_err-tree.ensures.devices.second.honest h))
    (c.in_err-tree.ensures.left h))

pub returns-in_err-back-2-clause-left : goal.returns-in_err-back-2-clause-left
returns-in_err-back-2-clause-left g c = λ h.
    inr
    (frames_begin RunFault 1 (g.E.Device.content c.begin.new.device) (g.E.Device.content c.tree.new.to) (Ok tt)
    (c.in_ok-writer.ensures.header (c.in_ok-tree.ensures.devices.second.honest h)) (c.in_ok-tree.ensures.added h))

pub returns-then-is_some-clause-left : goal.returns-then-is_some-clause-left
returns-then-is_some-clause-left g c = λ h.
    inr
    (frames_begin RunFault 1 (g.E.Device.content c.begin.new.device) (g.E.Device.content c.tree.new.to) (Ok tt)
    (c.in_ok-writer.ensures.header (c.in_ok-tree.ensures.devices.second.honest h)) (c.in_ok-tree.ensures.added h))

pub returns-clause-left : goal.returns-clause-left
returns-clause-left g c = λ h.
    inr
    (frames_begin RunFault 1 (g.E.Device.content c.begin.new.device) (g.E.Device.content c.tree.new.to) (Ok tt)
    (c.in_ok-writer.ensures.header (c.in_ok-tree.ensures.devices.second.honest h)) (c.in_ok-tree.ensures.added h))
