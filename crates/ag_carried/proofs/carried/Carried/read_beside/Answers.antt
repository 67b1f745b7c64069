use Rattle.std.proofs.Common.{◌≡◌, ◌∙◌, length, sym, ap}
use Rattle.std.proofs.lemmas.List.{length-take-le}
use Rattle.ag_value.specs.Spelling.{spelling_of}
use Rattle.ag_value.specs.declared.value.Value.{Value}
use Rattle.ag_carried.proofs.Encodings.{prefix_determines}
use Rattle.ag_carried.proofs.carried.Carried.read_beside.Goals as goal

pub returns-in_ok-share_any-in-Some-clause-read : goal.returns-in_ok-share_any-in-Some-clause-read
returns-in_ok-share_any-in-Some-clause-read c value rest well e =
    let prefix = c.in-Some.ensures in
    let own : c.args.self.now ≡ value =
    prefix_determines c.args.input.now c.in-Some.len c.args.self.now value rest prefix.well well prefix.encoded e in
    let len : c.in-Some.len ≡ length (spelling_of value) =
    sym (length-take-le c.in-Some.len c.args.input.now prefix.within)
    ∙ (ap length prefix.encoded ∙ ap (λ (v : Value). length (spelling_of v)) own) in
    let found : c.in_ok-share_any-in-Some.field-0 ≡ value = c.in_ok-share_any-in-Some.ensures ∙ own in
    cc
