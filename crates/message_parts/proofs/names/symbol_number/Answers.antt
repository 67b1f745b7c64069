use Rattle.std.proofs.Common.{◌≡◌, ◌∙◌, Some, slice_get, ap, sym}
use Rattle.std.proofs.lemmas.Option.{slice_get-get_or}
use Rattle.std.proofs.lemmas.Slice.Eq.{bytes_eq-Decides}
use Rattle.message_parts.proofs.names.symbol_number.Goals as goal

pub returns-then-eq : goal.returns-then-eq
returns-then-eq c =
    let y = c.index-symbols-number.result in
    let there : slice_get c.args.symbols.now c.loop-number.number ≡ Some y =
    slice_get-get_or c.args.symbols.now c.loop-number.number y c.loop-number-test.true
    ∙ ap Some (sym c.index-symbols-number.is) in
    let same : c.as_str.result.now ≡ c.args.name.now =
    (bytes_eq-Decides c.as_str.result.now c.args.name.now).0 (sym c.eq.ensures ∙ c.if-eq.true) in
    (y, there, sym c.as_str.ensures ∙ same)
