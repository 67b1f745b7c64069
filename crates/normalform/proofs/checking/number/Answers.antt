-- The remaining goals of `number`.
use Rattle.normalform.proofs.Common
use Common.{◌≡◌, map, ap, ◌∙◌, symbol_of, declared_names, number_in, production_of, literals_of, classes_of}
use Rattle.normalform.proofs.numbered.Accepting.{small, made}
use Rattle.normalform.proofs.numbered.Ordered.{made_in_order}
use Rattle.normalform.proofs.found.Reduced.{symbols}
use Rattle.normalform.proofs.checking.number.Goals as goal

pub number_productions-requires : goal.number_productions-requires
number_productions-requires c =
    rw (c.as_slice-3.ensures, c.as_slice-4.ensures, c.in_ok-literals.ensures, c.as_slice-2.ensures)
    (small c.args.raw c.requires.right)

pub new-requires-clause-accepted : goal.new-requires-clause-accepted
new-requires-clause-accepted c =
    let raw = c.args.raw in
    let syms : c.as_slice-3.result.now ≡ raw.symbols = c.as_slice-3.ensures in
    let lits : c.as_slice-4.result.now ≡ literals_of raw.productions =
    c.as_slice-4.ensures ∙ c.in_ok-literals.ensures ∙ ap literals_of c.as_slice-2.ensures in
    made raw c.requires.readable c.requires.right _ _ _ _ _
    c.in_ok-symbols.ensures
    (c.in_ok-start.ensures.numbered
    ∙ ap (λ ss. map (production_of (map symbol_of ss) c.as_slice-4.result.now) raw.productions) syms
    ∙ ap (λ ls. map (production_of (symbols raw) ls) raw.productions) lits)
    c.in_ok-start.ensures.listed
    (c.in_ok-literals.ensures ∙ ap literals_of c.as_slice-2.ensures)
    (c.in_ok-classes.ensures ∙ ap classes_of c.as_slice.ensures)
    (c.in_ok-start.ensures.start ∙ ap (λ ss. number_in (declared_names (map symbol_of ss)) raw.start.name) syms)

pub new-requires-clause-in_order : goal.new-requires-clause-in_order
new-requires-clause-in_order c =
    let raw = c.args.raw in
    let syms : c.as_slice-3.result.now ≡ raw.symbols = c.as_slice-3.ensures in
    let lits : c.as_slice-4.result.now ≡ literals_of raw.productions =
    c.as_slice-4.ensures ∙ c.in_ok-literals.ensures ∙ ap literals_of c.as_slice-2.ensures in
    made_in_order raw _ _ _ _ _
    c.in_ok-symbols.ensures
    (c.in_ok-start.ensures.numbered
    ∙ ap (λ ss. map (production_of (map symbol_of ss) c.as_slice-4.result.now) raw.productions) syms
    ∙ ap (λ ls. map (production_of (symbols raw) ls) raw.productions) lits)
    (c.in_ok-literals.ensures ∙ ap literals_of c.as_slice-2.ensures)
    (c.in_ok-classes.ensures ∙ ap classes_of c.as_slice.ensures)
    (c.in_ok-start.ensures.start ∙ ap (λ ss. number_in (declared_names (map symbol_of ss)) raw.start.name) syms)
