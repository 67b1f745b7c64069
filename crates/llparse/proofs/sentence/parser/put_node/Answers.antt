use Rattle.llparse.proofs.Common
use Common.{[], Err, ap, arith, All-nil, IsWell, err_from_is_err_and, body_of, version_two, one_added, one_refused, is_body}
use Common.{ParseFault}
use Rattle.treefile.specs.declared.body.Kind.TheVariants.{Node}
use Rattle.llparse.specs.sentence.Refusals.{parse_fault_of}
use Rattle.llparse.proofs.sentence.parser.put_node.Goals as goal

-- the bytes that are appended, after success and after a failure, if the node has no texts
pub returns-in_err-put-clause-adds : goal.returns-in_err-put-clause-adds
returns-in_err-put-clause-adds g c h =
    let put = c.in_err-put.ensures in
    rw (err_from_is_err_and c.from_residual.result c.from_residual.ensures.1).1
    (one_refused ParseFault (g.D.Device.content c.args.device.now) (g.D.Device.content c.put.new.device)
    (body_of Node c.args.production []) c.in_err-put.field-0.0 (parse_fault_of c.in_err-put.field-0.0)
    (is_body version_two Node c.args.production [] (omega arith) (All-nil IsWell)) (λ failed. put.device (ap Err failed) h)
    (λ resource. put.memory (ap Err resource) h))

pub returns-then-is_empty-clause-adds : goal.returns-then-is_empty-clause-adds
returns-then-is_empty-clause-adds g c h =
    one_added ParseFault (g.D.Device.content c.args.device.now) (g.D.Device.content c.put.new.device)
    (body_of Node c.args.production [])
    (is_body version_two Node c.args.production [] (omega arith) (All-nil IsWell)) (c.in_ok-put.ensures.frame h)

-- the same if the node has texts
pub returns-in_err-put-2-clause-adds : goal.returns-in_err-put-2-clause-adds
returns-in_err-put-2-clause-adds g c h =
    let put = c.in_err-put-2.ensures in
    rw (err_from_is_err_and c.from_residual-in_err-put-2.result c.from_residual-in_err-put-2.ensures.1).1
    (one_refused ParseFault (g.D.Device.content c.args.device.now) (g.D.Device.content c.put-2.new.device)
    (body_of Node c.args.production c.args.texts.now) c.in_err-put-2.field-0.0 (parse_fault_of c.in_err-put-2.field-0.0)
    (is_body version_two Node c.args.production c.args.texts.now c.requires.few c.requires.well)
    (λ failed. put.device (ap Err failed) h) (λ resource. put.memory (ap Err resource) h))

pub returns-clause-adds : goal.returns-clause-adds
returns-clause-adds g c h =
    one_added ParseFault (g.D.Device.content c.args.device.now) (g.D.Device.content c.put-2.new.device)
    (body_of Node c.args.production c.args.texts.now)
    (is_body version_two Node c.args.production c.args.texts.now c.requires.few c.requires.well) (c.in_ok-put-2.ensures.frame h)
