use Rattle.std.proofs.Common.{◌≡◌, ◌∙◌, Some, slice_get, get_or, inl, inr, ap, sym, true, arith}
use Rattle.std.proofs.lemmas.Bool.{cases_eq}
use Rattle.std.proofs.lemmas.Option.{slice_get-get_or, slice_get_within}
use Rattle.std.proofs.lemmas.Slice.Eq.{bytes_eq-Decides}
use Rattle.ag_grammar.specs.grammars.Accepted.{out_name}
use Rattle.roottext.proofs.root.out_among.Goals as goal

-- the name at the index
pub returns-then-eq-clause-some : goal.returns-then-eq-clause-some
returns-then-eq-clause-some c =
    let there = slice_get-get_or c.args.names.now c.loop-index.index c.index-names-index.result c.loop-index-test.true in
    let same : c.as_str.result.now ≡ out_name =
    (bytes_eq-Decides c.as_str.result.now out_name).0 (sym c.eq.ensures ∙ c.if-eq.true) in
    there ∙ ap Some (sym c.index-names-index.is ∙ sym c.as_str.ensures ∙ same)

pub loop-index-preserved : goal.loop-index-preserved
loop-index-preserved c = λ j less is. elim (cases_eq j c.loop-index.index) [
  | inl last ↦ (
      let there = slice_get-get_or c.args.names.now c.loop-index.index c.index-names-index.result c.loop-index-test.true in
      let both : Some (get_or c.args.names.now c.loop-index.index c.index-names-index.result) ≡ Some out_name =
      sym there ∙ ap (slice_get c.args.names.now) (sym last) ∙ is in
      let name : get_or c.args.names.now c.loop-index.index c.index-names-index.result ≡ out_name = cc in
      let yes = (bytes_eq-Decides c.as_str.result.now out_name).1 (c.as_str.ensures ∙ c.index-names-index.is ∙ name) in
      let test : c.eq.result ≡ true = c.eq.ensures ∙ yes in
      let no = c.if-eq.false in
      cc)
  | inr apart ↦ c.loop-index.invariant j (omega arith) is
]

pub returns-clause-none : goal.returns-clause-none
returns-clause-none c =
    λ none has. c.loop-index.invariant has.0
    (let within = slice_get_within c.args.names.now has.0 out_name has.1 in let end = c.loop-index-test.false in omega arith)
    has.1
