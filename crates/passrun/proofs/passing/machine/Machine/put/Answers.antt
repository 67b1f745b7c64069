use Rattle.passrun.proofs.Common.{ap, ◌+◌, drop, take, length, arith, All-drop, All-take, All-same, IsWell}
use Rattle.passrun.proofs.steps.MachineSteps.{left_leads, row_within, put_room, put_leads, symbol_there, text_within}
use Rattle.passrun.proofs.course.Working.{put_less}
use Rattle.passrun.proofs.passing.machine.Machine.put.Goals as goal

pub place-row-requires-clause-there : goal.place-row-requires-clause-there
place-row-requires-clause-there g c = row_within c.row-layout.result.now c.requires.runs.1 c.requires.next c.row-layout.ensures

pub returns-in_default-clause-runs : goal.returns-in_default-clause-runs
returns-in_default-clause-runs g c =
    let s = symbol_there c.place-row.result.item c.in_default.not-Terminal in
    λ _ r. left_leads c.requires.context.sound s.0 c.requires.next c.place-row.ensures s.1 c.after_step.ensures r

pub returns-in_default-clause-less : goal.returns-in_default-clause-less
returns-in_default-clause-less g c =
    put_less c.requires.context.sound c.args.self.now.writer c.requires.runs.1 c.requires.next c.after_step.ensures

pub single_value-values-requires : goal.single_value-values-requires
single_value-values-requires g c =
    omega (
      arith,
      text_within c.in-Terminal.field-0 c.requires.runs.1 c.requires.next c.place-row.ensures c.in-Terminal.is,
      ap length c.as_slice.ensures.value,
    )

pub put_record-requires-clause-well : goal.put_record-requires-clause-well
put_record-requires-clause-well g c =
    let text = c.args.node.base + c.place-row.result.start in
    All-same IsWell c.single_value-values.result.now (take 1 (drop text c.args.self.now.values.items))
    (cc)
    (All-take IsWell 1 (drop text c.args.self.now.values.items)
    (All-drop IsWell text c.args.self.now.values.items c.requires.runs.1.well))

pub put_record-requires-clause-room : goal.put_record-requires-clause-room
put_record-requires-clause-room g c = put_room c.requires.context.sound c.requires.runs.1

pub returns-clause-runs : goal.returns-clause-runs
returns-clause-runs g c =
    put_leads c.requires.context.sound c.in-Terminal.field-0 c.requires.next c.place-row.ensures c.in-Terminal.is
    (cc) c.in_ok-put_record.ensures.put c.in_ok-put_record.ensures.persists.honest c.after_step-2.ensures

pub returns-clause-less : goal.returns-clause-less
returns-clause-less g c =
    put_less c.requires.context.sound c.put_record.new.writer c.requires.runs.1 c.requires.next c.after_step-2.ensures
