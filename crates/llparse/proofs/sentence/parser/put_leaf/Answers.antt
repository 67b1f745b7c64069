use Rattle.llparse.proofs.Common
use Common.{◌≡◌, Err, ap, err_from_is_err_and, token_body, none_added, one_added, one_refused, ParseFault, text_well}
use Rattle.llparse.proofs.answers.Putting.{of_leaf, stopped}
use Rattle.llparse.proofs.sentence.parser.put_leaf.Goals as goal

pub returns-in_err-from_str-clause-adds : goal.returns-in_err-from_str-clause-adds
returns-in_err-from_str-clause-adds g c h = none_added ParseFault (g.D.Device.content c.args.device.now) c.from_residual.result

pub returns-in_err-put-clause-adds : goal.returns-in_err-put-clause-adds
returns-in_err-put-clause-adds g c h =
    let p = err_from_is_err_and c.from_residual-in_err-put.result c.from_residual-in_err-put.ensures.1 in
    let x = c.in_ok-from_str.field-0 in
    let same : x ≡ c.args.leaf.now.lex.now = cc c.in_ok-from_str.ensures in
    rw p.1
    (one_refused ParseFault (g.D.Device.content c.args.device.now) (g.D.Device.content c.put.new.device)
    (token_body c.args.leaf.now.class x) c.in_err-put.field-0.0 p.0
    (of_leaf c.args.leaf.now.class x (text_well x (rw same c.requires.text)))
    (λ failed. c.in_err-put.ensures.device (ap Err failed) h)
    (λ resource. c.in_err-put.ensures.memory (ap Err resource) h))

pub returns-in_err-map_err-clause-adds : goal.returns-in_err-map_err-clause-adds
returns-in_err-map_err-clause-adds g c h =
    let p = err_from_is_err_and c.from_residual-in_err-map_err.result c.from_residual-in_err-map_err.ensures.1 in
    let x = c.in_ok-from_str.field-0 in
    let same : x ≡ c.args.leaf.now.lex.now = cc c.in_ok-from_str.ensures in
    rw p.1 (stopped (g.D.Device.content c.args.device.now) (g.D.Device.content c.put.new.device) p.0
    (one_added ParseFault (g.D.Device.content c.args.device.now) (g.D.Device.content c.put.new.device)
    (token_body c.args.leaf.now.class x)
    (of_leaf c.args.leaf.now.class x (text_well x (rw same c.requires.text))) (c.in_ok-put.ensures.frame h)))

pub returns-clause-adds : goal.returns-clause-adds
returns-clause-adds g c h =
    let x = c.in_ok-from_str.field-0 in
    let same : x ≡ c.args.leaf.now.lex.now = cc c.in_ok-from_str.ensures in
    one_added ParseFault (g.D.Device.content c.args.device.now) (g.D.Device.content c.put.new.device)
    (token_body c.args.leaf.now.class x)
    (of_leaf c.args.leaf.now.class x (text_well x (rw same c.requires.text))) (c.in_ok-put.ensures.frame h)
