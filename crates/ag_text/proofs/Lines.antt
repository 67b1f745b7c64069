-- The number of a line, from that of an earlier offset.
use Rattle.std.proofs.Common.{◌≡◌, ◌==◌, ◌+◌, ◌-◌, ◌≤◌, ℕ, cond, List, ◌++◌, length, take, drop, refl, ap, sym, ◌∙◌, arith}
use Rattle.std.proofs.lemmas.List.{take-append-drop, take-take, drop-take}
use Rattle.std.proofs.lemmas.List.Sums.{sum_by-append}
use Rattle.ag_text.specs.Answers.{line_feeds, line_of}

-- the line feeds before an offset are those before an earlier one and those between the two
pub lines_more : (text : List ℕ) (from at : ℕ) → from ≤ at
    → line_of text from + line_feeds (take (at - from) (drop from text)) ≡ line_of text at
lines_more text from at before =
    let whole : from + (at - from) ≡ at = omega arith in
    let cut : take at text ≡ take from text ++ take (at - from) (drop from text) =
    sym (take-append-drop from (take at text))
    ∙ ap (λ xs. xs ++ drop from (take at text)) (take-take from at text before)
    ∙ ap (λ ys. take from text ++ ys) (ap (λ n. drop from (take n text)) (sym whole) ∙ drop-take from (at - from) text) in
    let sums = ap line_feeds cut ∙ sum_by-append (λ c. cond (c == 10) 1 0) (take from text) (take (at - from) (drop from text)) in
    omega (arith, sums)
