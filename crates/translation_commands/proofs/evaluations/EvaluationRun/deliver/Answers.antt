use Rattle.std.proofs.Common.{ℕ, List, ◌∷◌, ◌∙◌, true, ap, inl, inr, sym, subst}
use Rattle.std.specs.Prelude.{is_ok}
use Rattle.ag_fault.specs.declared.fault.Fault.{Fault}
use Rattle.command_line.specs.declared.input.InputPath.{InputPath}
use Rattle.program_io.specs.Sessions.{State, path_of}
use Rattle.run_record.specs.Events.{standard_event}
use Rattle.translation_commands.proofs.Evaluated.{file_written, has_evaluated, is_written, not_written, of_file, passed_on}
use Rattle.translation_commands.specs.Evaluations.{Evaluated, IsUnevaluated, IsUnevaluatedFile, IsWritten, OfTree}
use Rattle.translation_commands.specs.Runs.{opened}
use Rattle.treefile.specs.devices.Files.{content_of, is_honest_of}
use Rattle.translation_commands.proofs.evaluations.EvaluationRun.deliver.Goals as goal

pub returns-in_err-text-in-File-clause-refused : goal.returns-in_err-text-in-File-clause-refused
returns-in_err-text-in-File-clause-refused g c =
    let made = c.translate-translated in
    let told = c.in_err-text-in-File.field-0.0 in
    let translator = c.args.self.translator.now in
    let work = path_of c.args.self.work in
    let closed = c.close_tree.new.self in
    let content = content_of c.in_ok-tree-in-File.tree in
    let honest = is_honest_of made.new.tree in
    passed_on (λ (e : Fault). IsUnevaluatedFile translator work c.args.self.tree (path_of c.args.output) c.args.session.now.events
    closed e) c.from_residual-in_err-text-in-File.result told c.from_residual-in_err-text-in-File.ensures.1
    (inr (inl (
    of_file c.args.self.tree c.in-File.path c.args.session.now.events closed made.new.tree.events content made.new.tree.buffered
    (λ h bytes events. IsUnevaluated translator work h bytes events closed told.fault) c.in-File.is
    (ap (λ (s : State). s.tree) c.close_tree.ensures) made.ensures.content
    (subst (λ (s : State). IsUnevaluated translator work honest content s.events closed told.fault)
    c.in_ok-tree-in-File.ensures.opened
    (subst (λ (s : State). IsUnevaluated translator work honest content c.open_tree.new.self.events s told.fault)
    (sym c.close_tree.ensures) c.in_err-text-in-File.ensures.refused))
    )))

pub returns-in_ok-text-in-File-clause-ran : goal.returns-in_ok-text-in-File-clause-ran
returns-in_ok-text-in-File-clause-ran g c =
    let made = c.translate-translated in
    let translator = c.args.self.translator.now in
    let work = path_of c.args.self.work in
    let output = path_of c.args.output in
    let old = c.args.session.now in
    has_evaluated translator work output c.args.self.tree old.events c.write.new.self c.write.result
    (file_written (is_ok c.write.result) translator work output c.args.self.tree c.in-File.path old c.open_tree.new.self
    made.new.session c.close_tree.new.self c.write.new.self made.new.tree.events (content_of c.in_ok-tree-in-File.tree)
    made.new.tree.buffered c.in_ok-text-in-File.text.items c.as_slice.result.now c.in-File.is c.in_ok-tree-in-File.ensures.opened
    c.in_ok-text-in-File.ensures.opened c.in_ok-text-in-File.ensures.evaluated made.ensures.content c.close_tree.ensures
    c.as_slice.ensures.value c.write.ensures.written)

pub returns-in_ok-text-in-File-clause-refused : goal.returns-in_ok-text-in-File-clause-refused
returns-in_ok-text-in-File-clause-refused g c =
    let made = c.translate-translated in
    let translator = c.args.self.translator.now in
    let work = path_of c.args.self.work in
    let output = path_of c.args.output in
    let old = c.args.session.now in
    not_written translator work output c.args.self.tree old.events c.write.new.self c.write.result
    (file_written (is_ok c.write.result) translator work output c.args.self.tree c.in-File.path old c.open_tree.new.self
    made.new.session c.close_tree.new.self c.write.new.self made.new.tree.events (content_of c.in_ok-tree-in-File.tree)
    made.new.tree.buffered c.in_ok-text-in-File.text.items c.as_slice.result.now c.in-File.is c.in_ok-tree-in-File.ensures.opened
    c.in_ok-text-in-File.ensures.opened c.in_ok-text-in-File.ensures.evaluated made.ensures.content c.close_tree.ensures
    c.as_slice.ensures.value c.write.ensures.written) c.write.ensures.refused

pub returns-in_ok-text-in-Standard-clause-refused : goal.returns-in_ok-text-in-Standard-clause-refused
returns-in_ok-text-in-Standard-clause-refused g c =
    let made = c.translate.new.session in
    let translator = c.args.self.translator.now in
    let work = path_of c.args.self.work in
    let output = path_of c.args.output in
    let old = c.args.session.now in
    let new = c.write-in-Standard.new.self in
    let written = is_ok c.write-in-Standard.result in
    let bytes = c.in_ok-bytes-in-Standard.bytes.items in
    let text = c.in_ok-text-in-Standard.text.items in
    not_written translator work output c.args.self.tree old.events new c.write-in-Standard.result
    (subst (λ (x : InputPath). OfTree x old.events new (IsWritten written translator work output new)) (sym c.in-Standard.is) (
      bytes,
      is_written written translator work output true bytes text c.as_slice-in-Standard.result.now (standard_event bytes ∷ old.events)
          made new c.as_slice-in-Standard.ensures.value
          (c.in_ok-text-in-Standard.ensures.opened ∙ ap (λ (s : State). opened work s.events) c.in_ok-bytes-in-Standard.ensures.read)
          c.write-in-Standard.ensures.written
          (subst (λ (w : List ℕ). Evaluated translator work true w made text) c.from_bytes.ensures
          c.in_ok-text-in-Standard.ensures.evaluated),
    )) c.write-in-Standard.ensures.refused
