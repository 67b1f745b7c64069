use Rattle.std.proofs.Common.{◌-◌, ◌<◌, ◌≤◌, length, ap, arith}
use Rattle.std.proofs.lemmas.List.{length-append}
use Rattle.std.proofs.lemmas.Result.{err_from_is_err_and}
use Rattle.ag_value.specs.Measure.{max_weight}
use Rattle.ag_value.specs.Spelling.{spelling_of}
use Rattle.ag_value.proofs.Codec.{prefix_is, only_memory, read_is_spelled, read_is_well, read_whole, too_long}
use Rattle.ag_value.proofs.spelling.decoding.decode.Goals as goal

pub overflow_sub-len : goal.overflow_sub-len
overflow_sub-len c =
    let takes = (read_is_spelled 64 c.args.input.now _ (λ i. omega (arith, c.type_inv.input i)) c.in_ok-value.ensures).takes in
    let len = ap length takes.parts in
    omega (arith, len, length-append (spelling_of c.in_ok-value.value) c.in_ok-value.rest.now)

pub returns-clause-well : goal.returns-clause-well
returns-clause-well c =
    let fits = c.if-len-gt-MAX_WEIGHT.false in
    let short : length c.args.input.now - length c.in_ok-value.rest.now ≤ max_weight = omega (arith, fits) in
    read_is_well c.args.input.now (c.in_ok-value.value, c.in_ok-value.rest.now)
    (λ i. omega (arith, c.type_inv.input i)) c.in_ok-value.ensures short

pub returns-then-len-gt-MAX_WEIGHT-clause-read : goal.returns-then-len-gt-MAX_WEIGHT-clause-read
returns-then-len-gt-MAX_WEIGHT-clause-read c = λ value rest well spelled.
    let more = c.if-len-gt-MAX_WEIGHT.true in
    let long : max_weight < length c.args.input.now - length c.in_ok-value.rest.now = omega (arith, more) in
    absurd
    (too_long c.args.input.now (c.in_ok-value.value, c.in_ok-value.rest.now) c.in_ok-value.ensures long value rest well
    spelled)

pub returns-clause-spelled : goal.returns-clause-spelled
returns-clause-spelled c =
    let takes = (read_is_spelled 64 c.args.input.now _ (λ i. omega (arith, c.type_inv.input i)) c.in_ok-value.ensures).takes in
    prefix_is c.args.input.now (spelling_of c.in_ok-value.value) c.in_ok-value.rest.now takes.parts

pub returns-in_err-value-clause-read : goal.returns-in_err-value-clause-read
returns-in_err-value-clause-read c = λ value rest well spelled.
    let p = err_from_is_err_and c.from_residual.result c.from_residual.ensures.1 in
    rw (p.1, p.2) (only_memory c.args.input.now c.in_err-value.field-0.0 c.in_err-value.ensures value rest well spelled)

pub returns-clause-read : goal.returns-clause-read
returns-clause-read c =
    λ value rest well spelled. read_whole c.args.input.now
    (c.in_ok-value.value, c.in_ok-value.rest.now) c.in_ok-value.ensures value rest well spelled
