use Rattle.ag_eval.proofs.Common
use Common.{◌≡◌, ◌∙◌, true, ap, arith, sym, refl, join_by, list_all, fit, bytes_of, is_text, big_text}
use Common.value
use Rattle.ag_eval.proofs.builtins.texts.join_items.Goals as goal

pub returns-then-weight-gt-MAX_WEIGHT : goal.returns-then-weight-gt-MAX_WEIGHT
returns-then-weight-gt-MAX_WEIGHT c =
    let all : list_all is_text c.args.items.now ≡ true = sym c.are_texts.ensures ∙ c.if-not-are_texts.false in
    let big =
    big_text (join_by bytes_of c.args.separator.now c.args.items.now) c.joined_length.result c.joined_length.ensures
    (omega arith) in
    c.new-then-weight-gt-MAX_WEIGHT.ensures ∙ rw all (sym big)

pub returns : goal.returns
returns c =
    let all : list_all is_text c.args.items.now ≡ true = sym c.are_texts.ensures ∙ c.if-not-are_texts.false in
    c.fit.ensures ∙ ap (λ t. fit (value.Text t)) (c.from_string-text.ensures ∙ c.in_ok-joined.ensures) ∙ rw all refl
