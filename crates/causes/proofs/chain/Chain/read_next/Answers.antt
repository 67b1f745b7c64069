use Rattle.causes.proofs.Common.{inr, IfSome_then, WhenHonest}
use Rattle.causes.proofs.Damaged.{fault_from, no_frame, no_record, read_before}
use Rattle.causes.proofs.InIndex.{read_in_tree}
use Rattle.causes.proofs.Stops.{none_then}
use Rattle.causes.specs.Indexed.{IsChainFault}
use Rattle.causes.proofs.chain.Chain.read_next.Goals as goal

pub returns-in-Ok-Node-clause-next : goal.returns-in-Ok-Node-clause-next
returns-in-Ok-Node-clause-next g c =
    let node = rw (c.in-Ok-Node.field-0-is, c.as_slice.ensures.value) at c.in-Ok-Node.ensures.found in
    let of_node = c.in_ok-next_at-in-Ok-Node.ensures in
    IfSome_then c.in_ok-next_at-in-Ok-Node.field-0 of_node.next (λ does next honest.
    read_in_tree of_node.accepted c.in-Some.ensures.end.at
    (read_before (g.D.Device.content c.args.device.now) c.in-Some.end (c.in_ok-body.ensures.exact honest)) node.0
    (rw c.as_slice-in-Ok-Node.ensures at next))

pub returns-in-Ok-Node-clause-none : goal.returns-in-Ok-Node-clause-none
returns-in-Ok-Node-clause-none g c =
    let node = rw (c.in-Ok-Node.field-0-is, c.as_slice.ensures.value) at c.in-Ok-Node.ensures.found in
    none_then c.in_ok-next_at-in-Ok-Node.field-0 (λ none honest. inr (record {
      end = c.in-Some.end;
      ends = c.in-Some.ensures.end.at;
      body = c.in_ok-body.body.items;
      there = read_before (g.D.Device.content c.args.device.now) c.in-Some.end (c.in_ok-body.ensures.exact honest);
      production = c.in-Ok-Node.number;
      values = c.in-Ok-Node.values;
      is_node = node.0;
      none = rw c.as_slice-in-Ok-Node.ensures at none;
    })) c.in_ok-next_at-in-Ok-Node.ensures.none

pub returns-in_err-body-clause-fault : goal.returns-in_err-body-clause-fault
returns-in_err-body-clause-fault g c =
    fault_from (λ fault. WhenHonest (g.D.Device.is_honest c.body_before.new.device)
    (IsChainFault c.args.self.now.grammar.now c.args.self.now.index.now (g.D.Device.content c.args.device.now) fault))
    c.from_residual.result c.from_residual.ensures.1
    (λ honest. no_frame (g.D.Device.content c.args.device.now) c.in-Some.ensures.end c.in_err-body.field-0.0
    (c.in_err-body.ensures.exact honest))

pub returns-in-Ok-Token-clause-fault : goal.returns-in-Ok-Token-clause-fault
returns-in-Ok-Token-clause-fault g c =
    let token = rw c.in-Ok-Token.field-0-is at c.in-Ok-Token.ensures.found in λ honest. absurd (cc (token.2))

pub returns-in-Err-Damaged-clause-fault : goal.returns-in-Err-Damaged-clause-fault
returns-in-Err-Damaged-clause-fault g c = λ honest.
    no_record (g.D.Device.content c.args.device.now) c.in-Some.ensures.end (c.in_ok-body.ensures.exact honest)
    (rw c.as_slice.ensures.value at (c.record_of.ensures.damaged (cc (c.in-Err-Damaged.is, c.in-Err-Damaged.field-0-is))))
