use Rattle.passrun.proofs.Common.{pos, refl, arith, Num, slots_less}
use Rattle.passrun.proofs.steps.MachineSteps.{are_slots, rule_leads, giver, meter_of, rule_less, slots_within}
use Rattle.passrun.proofs.course.Working.{given_less}
use Rattle.passrun.proofs.passing.machine.Machine.run_rule.Goals as goal

pub bounds-as_slice-rule : goal.bounds-as_slice-rule
bounds-as_slice-rule c =
    rule_less c.requires.context.sound c.args.rule c.productions.ensures.lent
    c.index-productions-node.is c.as_slice.ensures c.requires.runs.1 c.requires.next

pub bounds-as_slice-rule-2 : goal.bounds-as_slice-rule-2
bounds-as_slice-rule-2 c =
    let h =
    giver c.requires.context.sound c.productions.ensures.lent c.index-productions-node.is c.as_slice.ensures
    c.index-as_slice-rule.is c.requires.runs.1 c.requires.next in
    slots_less _ _ _ _ _ _ _ (c.row-layout.ensures _ h.there) h.numbered c.as_slice-2.ensures

pub put_rule_value-requires-clause-slots : goal.put_rule_value-requires-clause-slots
put_rule_value-requires-clause-slots c =
    let h =
    giver c.requires.context.sound c.productions.ensures.lent c.index-productions-node.is c.as_slice.ensures
    c.index-as_slice-rule.is c.requires.runs.1 c.requires.next in
    let are = are_slots h (c.row-layout.ensures _ h.there) c.as_slice-2.ensures c.index-as_slice-rule-2.is in cc

pub put_rule_value-requires-clause-well : goal.put_rule_value-requires-clause-well
put_rule_value-requires-clause-well c = c.requires.runs.1.well

pub put_rule_value-requires-clause-not_full : goal.put_rule_value-requires-clause-not_full
put_rule_value-requires-clause-not_full c = meter_of c.requires.context.sound c.requires.runs.1

pub put_rule_value-requires-clause-target : goal.put_rule_value-requires-clause-target
put_rule_value-requires-clause-target c =
    let h =
    giver c.requires.context.sound c.productions.ensures.lent c.index-productions-node.is c.as_slice.ensures
    c.index-as_slice-rule.is c.requires.runs.1 c.requires.next in
    let are = are_slots h (c.row-layout.ensures _ h.there) c.as_slice-2.ensures c.index-as_slice-rule-2.is in
    omega (arith, are.target, h.within, c.args.self.now.values.ok.0)

pub put_rule_value-requires-clause-arguments : goal.put_rule_value-requires-clause-arguments
put_rule_value-requires-clause-arguments c =
    let h =
    giver c.requires.context.sound c.productions.ensures.lent c.index-productions-node.is c.as_slice.ensures
    c.index-as_slice-rule.is c.requires.runs.1 c.requires.next in
    let are = are_slots h (c.row-layout.ensures _ h.there) c.as_slice-2.ensures c.index-as_slice-rule-2.is in
    slots_within h are

pub returns-clause-runs : goal.returns-clause-runs
returns-clause-runs c =
    let h =
    giver c.requires.context.sound c.productions.ensures.lent c.index-productions-node.is c.as_slice.ensures
    c.index-as_slice-rule.is c.requires.runs.1 c.requires.next in
    let are = are_slots h (c.row-layout.ensures _ h.there) c.as_slice-2.ensures c.index-as_slice-rule-2.is in
    rule_leads c.requires.context.sound c.args.rule
    (Num (pos 0)) c.requires.next h.there h.numbered are refl c.in_ok-put_rule_value.ensures.well
    c.in_ok-put_rule_value.ensures.value c.in_ok-put_rule_value.ensures.counted c.after_step.ensures

pub returns-clause-less : goal.returns-clause-less
returns-clause-less c =
    given_less c.requires.context.sound c.args.self.now c.put_rule_value.new.values
    c.args.node c.args.rule c.requires.next c.after_step.ensures
