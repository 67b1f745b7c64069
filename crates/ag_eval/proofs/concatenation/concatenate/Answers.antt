use Rattle.ag_eval.proofs.Common.{◌≡◌, ◌++◌, ◌∷◌, [], true, None, ap, arith, sym, ◌∙◌, leftmost, bytes_of, is_text, operand_value}
use Rattle.ag_eval.proofs.Texts.{both_texts, join_is, too_long}
use Rattle.ag_eval.proofs.concatenation.concatenate.Goals as goal

pub returns-in-Some-joined_len-clause-value : goal.returns-in-Some-joined_len-clause-value
returns-in-Some-joined_len-clause-value c =
    let s = c.args.bindings.now in
    let a = operand_value s c.args.left in
    let b = operand_value s c.args.right in
    let none : leftmost (a ∷ b ∷ []) ≡ None = cc in
    let texts : (is_text a ≡ true) × (is_text b ≡ true) = c.in-Some-joined_len.ensures.texts in
    let big = too_long (bytes_of a ++ bytes_of b) (omega (arith, c.in-Some-joined_len.ensures.len)) in
    ap (operand_value s) c.fault-in-Some-joined_len.ensures
    ∙ sym (join_is a b none ∙ both_texts a b texts.0 texts.1 ∙ big)
