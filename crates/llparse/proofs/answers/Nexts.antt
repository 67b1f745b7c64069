-- The remaining words, by the tokens.
use Rattle.llparse.proofs.Common
use Common.{◌≡◌, ℕ, zero, suc, ◌+◌, ◌<◌, ◌≤◌, true, false, List, [], ◌∷◌, drop, length, slice_get, Option, Some, None, is_some}
use Common.{option_map, refl, sym, add-one, slice_get_within, token_of, Token, rest_none, ended, Terminal, ahead_of, words_of}
use Common.ahead
use Rattle.ag_scan.specs.declared.token.Token as lent

pub next_is : (xs : List Token) (i : ℕ) (x : Token) → slice_get xs i ≡ Some x
    → drop i (words_of xs) ≡ (x.kind, x.lex) ∷ drop (i + 1) (words_of xs)
next_is [] i x e = absurd (cc)
next_is (y ∷ ys) zero x e = let same : y ≡ x = cc in cc
next_is (y ∷ ys) (suc i) x e = cc (next_is ys i x e, add-one i, add-one (suc i))

pub no_next : (xs : List Token) (i : ℕ) → slice_get xs i ≡ None → drop i (words_of xs) ≡ []
no_next [] zero e = refl
no_next [] (suc i) e = refl
no_next (y ∷ ys) zero e = absurd (cc)
no_next (y ∷ ys) (suc i) e = no_next ys i e

-- the next token is of another terminal
pub other_next : (xs : List Token) (i : ℕ) (x : Token) (a : Terminal) → slice_get xs i ≡ Some x → (x.kind ≡ a → ⊥)
    → ahead_of (drop i (words_of xs)) ≡ ahead.Terminal a → ⊥
other_next xs i x a there other e =
    let same : ahead.Terminal x.kind ≡ ahead.Terminal a = cc (next_is xs i x there) in
    other (cc)

-- after the last token, the look-ahead is not a terminal
pub none_is : (xs : List Token) (i : ℕ) (a : Terminal) → slice_get xs i ≡ None
    → ahead_of (drop i (words_of xs)) ≡ ahead.Terminal a → ⊥
none_is xs i a none e = let bad : ahead.End ≡ ahead.Terminal a = cc (no_next xs i none) in cc

-- whether tokens are left at an index, by the token there or by what `Tokens::ahead` returns
pub is_left : (xs : List Token) (i : ℕ) (x : Token) → slice_get xs i ≡ Some x → i < length xs
is_left xs i x e = slice_get_within xs i x e

pub none_left : (xs : List Token) (i : ℕ) → slice_get xs i ≡ None → length xs ≤ i
none_left xs i e = (ended xs i (rest_none xs i e)).1

pub some_left : (xs : List Token) (i : ℕ) (o : Option lent.Token) → option_map (λ t. token_of t) o ≡ slice_get xs i
    → is_some o ≡ true → i < length xs
some_left xs i None e is = absurd (cc)
some_left xs i (Some t) e is = slice_get_within xs i (token_of t) (sym e)

pub all_taken : (xs : List Token) (i : ℕ) (o : Option lent.Token) → option_map (λ t. token_of t) o ≡ slice_get xs i
    → is_some o ≡ false → length xs ≤ i
all_taken xs i None e is = none_left xs i (sym e)
all_taken xs i (Some t) e is = absurd (cc)
