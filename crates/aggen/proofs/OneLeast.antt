-- Two least assignments give each attribute the same pass.
use Rattle.aggen.proofs.Common
use Common.{ℕ, ◌≡◌, sym, ◌∙◌, arith, Grammar, Passes, IsLeast}
use Rattle.std.proofs.lemmas.List.{same_lists}
use Rattle.std.proofs.lemmas.Option.{slice_get-get_or}

pub least_is_one : {g : Grammar} {m n : Passes} → IsLeast g m → IsLeast g n → (s : ℕ) → m s ≡ n s
least_is_one {m} {n} first second s =
    let len = first.legal.whole s ∙ sym (second.legal.whole s) in
    same_lists (m s) (n s) len (λ k d less.
    let e = slice_get-get_or (m s) k d less in
    let f = slice_get-get_or (n s) k d (omega arith) in
    omega (arith, first.least n second.legal s k _ _ e f, second.least m first.legal s k _ _ f e))
