use Rattle.passrun.proofs.Common
use Common.{◌∙◌, Some, ap, refl, drop, length, length-drop, arith, All-drop, All-same, slice_get_within, IsWell}
use Common.{setting, few_values}
use Rattle.passrun.proofs.steps.MachineSteps.{ended_leads, waited_within, own_of, put_room, root_leads}
use Rattle.passrun.proofs.steps.MachineSteps.{some_is, waited_for, waited_place}
use Rattle.passrun.proofs.course.Working.{ended_less}
use Rattle.passrun.proofs.passing.machine.Machine.finish_node.Goals as goal

pub returns-in_default-clause-runs : goal.returns-in_default-clause-runs
returns-in_default-clause-runs g c =
    λ _ r. root_leads c.requires.context.sound c.requires.next c.pop.ensures.root (c.pop.ensures.empty c.in_default.is) r

pub put_record-requires-clause-few : goal.put_record-requires-clause-few
put_record-requires-clause-few g c =
    let context = setting c.args.context.now in
    let m = c.args.self.now in
    let own = own_of c.requires.runs.1 c.requires.next in
    omega (
      arith,
      few_values context c.requires.context.sound c.args.node.production own.production own.there,
      ap length (c.following-values.ensures ∙ ap (drop c.args.node.base) c.as_slice.ensures.value)
          ∙ length-drop c.args.node.base m.values.items,
      own.within,
    )

pub put_record-requires-clause-well : goal.put_record-requires-clause-well
put_record-requires-clause-well g c =
    All-same IsWell c.following-values.result.now (drop c.args.node.base c.args.self.now.values.items)
    (cc)
    (All-drop IsWell c.args.node.base c.args.self.now.values.items c.requires.runs.1.well)

pub put_record-requires-clause-room : goal.put_record-requires-clause-room
put_record-requires-clause-room g c = put_room c.requires.context.sound c.requires.runs.1

pub row-layout-requires-clause-there : goal.row-layout-requires-clause-there
row-layout-requires-clause-there g c =
    let h = waited_for c.pop.new.self.nodes c.requires.runs.1 c.requires.next c.in-Some.ensures.nodes in
    slice_get_within c.args.context.now.setting.grammar.now.productions c.in-Some.outer.production h.production h.there

pub place-row-requires-clause-there : goal.place-row-requires-clause-there
place-row-requires-clause-there g c =
    let h = waited_for c.pop.new.self.nodes c.requires.runs.1 c.requires.next c.in-Some.ensures.nodes in
    waited_within c.row-layout.result.now h c.row-layout.ensures

pub move_copies-requires-clause-prefix : goal.move_copies-requires-clause-prefix
move_copies-requires-clause-prefix g c =
    let h = waited_for c.pop.new.self.nodes c.requires.runs.1 c.requires.next c.in-Some.ensures.nodes in
    (waited_place h c.place-row.ensures).0

pub move_copies-requires-clause-row : goal.move_copies-requires-clause-row
move_copies-requires-clause-row g c =
    let h = waited_for c.pop.new.self.nodes c.requires.runs.1 c.requires.next c.in-Some.ensures.nodes in
    (waited_place h c.place-row.ensures).1

pub returns-clause-runs : goal.returns-clause-runs
returns-clause-runs g c =
    ended_leads c.requires.context.sound c.requires.next c.pop.ensures.root c.in-Some.ensures.nodes c.place-row.ensures refl
    (cc) c.in_ok-put_record.ensures.put c.in_ok-put_record.ensures.persists.honest c.move_copies.ensures

pub returns-clause-less : goal.returns-clause-less
returns-clause-less g c =
    ended_less c.requires.context.sound c.move_copies.new.values c.pop.new.self
    c.put_record.new.writer (Some c.in-Some.outer) c.requires.runs.1 c.in-Some.ensures.nodes
    (λ is. absurd (some_is c.in-Some.outer is))
