use Rattle.std.proofs.Common.{◌≡◌}
use Rattle.aggen_c.specs.Operations.{IsRefusalOf, IsResultOf}
use Rattle.aggen_c.specs.Refusals.{HasReason, no_fields, numbers}
use Rattle.aggen_c.proofs.Answered.{of_handle, refused_of_handle}
use Rattle.aggen_c.proofs.answer.answer_by_handle.Goals as goal

pub returns-in-Some-clause-bytes : goal.returns-in-Some-clause-bytes
returns-in-Some-clause-bytes c =
    of_handle _ _ (λ g v. IsResultOf c.args.operation g c.args.input.now v.items) c.args.handle.now.value
    c.in-Some.translator.value c.deref.result.now
    c.answer_of-answer.result c.in-Some.ensures.taken c.deref.ensures c.answer_of-answer.ensures.bytes

pub returns-in-Some-clause-refused : goal.returns-in-Some-clause-refused
returns-in-Some-clause-refused c =
    refused_of_handle _ _ (λ r. numbers r.status r.fields ≡ numbers 1 no_fields)
    (λ g r. HasReason (IsRefusalOf c.args.operation g c.args.input.now) r.status r.fields)
    c.args.handle.now.value c.in-Some.translator.value c.deref.result.now c.answer_of-answer.result c.in-Some.ensures.taken
    c.deref.ensures
    c.answer_of-answer.ensures.refused
