use Rattle.std.proofs.Common.{◌≡◌, Some, slice_get, ap, sym, subst, ◌∙◌, arith}
use Rattle.std.proofs.lemmas.Option.{slice_get-get_or, slice_get_within}
use Rattle.std.proofs.lemmas.Str.Pattern.{split_parts}
use Rattle.message_parts.specs.Names.{IsSymbolNamed}
use Rattle.message_parts.proofs.Named.{named}
use Rattle.message_parts.proofs.names.attribute_named.Goals as goal

pub returns-in-Some-attribute_number : goal.returns-in-Some-attribute_number
returns-in-Some-attribute_number c =
    let xs = c.symbols-symbols.result.now in
    let lent = c.symbols-symbols.ensures.lent in
    let i = c.in-Some-symbol_number.number in
    let y = c.index-symbols-number.result in
    let before = c.in-Some.symbol_name.now in
    let one : IsSymbolNamed xs i before = c.in-Some-symbol_number.ensures in
    let at : slice_get xs i ≡ Some y =
    slice_get-get_or xs i y (slice_get_within xs i one.0 one.1) ∙ ap Some (sym c.index-symbols-number.is) in
    let parts = split_parts 46 c.args.name.now c.split_once.result c.split_once.ensures.cases (omega arith) in
    let here = rw c.in-Some.is at parts in
    named c.args.grammar.now c.args.name.now i c.in-Some-attribute_number.attr before c.in-Some.attribute_name.now y
    (subst (λ zs. IsSymbolNamed zs i before) lent one)
    (subst (λ zs. slice_get zs i ≡ Some y) lent at) c.in-Some-attribute_number.ensures here.0
