-- Parts that are parsed one after the other, for the proofs of loops.
use Rattle.ag_expr.proofs.Common
use Common.{◌≡◌, ◌<◌, ℕ, zero, suc, Bool, true, false, List, [], ◌∷◌, ◌++◌, length, Ok, Err, refl, arith, Input, Outcome, sees}
use Common.{item_bound, further_from, GrammarToken}
use Rattle.ag_tokens.specs.Parsing.{Parser, many_from}
use Rattle.ag_expr.proofs.reading.Steady.{Shortens, many_turn}

-- A loop invariant: the parts found so far, with the further ones, are the whole. Each part has at least
-- one token.
pub record Going {Fault A : Type 0} (single : Bool) (begins : GrammarToken → Bool) (item : Parser Fault A) (found : List A)
    (i : Input) (whole : Outcome Fault (List A)) : Type 0 where
  pub same : further_from single begins item found i ≡ whole
  pub short : Shortens item

-- if the next token begins no further part, there are none
pub none_further : {Fault A : Type 0} (single : Bool) (begins : GrammarToken → Bool) (item : Parser Fault A) (found : List A)
    (i : Input) → sees begins i ≡ false → further_from single begins item found i ≡ Ok (found, i)
unfolding many_from
none_further {Fault} {A} single begins item found i none = go (item_bound single i.left)
  where
    go : (n : ℕ) → many_from begins item n found i ≡ Ok (found, i)
    go zero = refl
    go (suc n) = rw none refl

module _ {Fault A : Type 0} (single : Bool) (begins : GrammarToken → Bool) (item : Parser Fault A) (found : List A) (i : Input)
    (whole : Outcome Fault (List A)) where
  pub stopped : Going single begins item found i whole → sees begins i ≡ false → whole ≡ Ok (found, i)
  stopped so_far none = cc (none_further single begins item found i none)

  pub goes_on : (j : Input) (x : A) → Going single begins item found i whole → single ≡ false → sees begins i ≡ true
      → item i ≡ Ok (x, j) → Going single begins item (found ++ x ∷ []) j whole
  goes_on j x so_far more leads is = let turn = many_turn begins item so_far.short found i in let same = so_far.same in
      record { same = grind arith; short = so_far.short }

  pub ends : (j : Input) (x : A) → Going single begins item found i whole → single ≡ true → sees begins i ≡ true
      → item i ≡ Ok (x, j) → whole ≡ Ok (found ++ x ∷ [], j)
  unfolding many_from
  ends j x so_far last leads is = let same = so_far.same in grind arith

  pub failed : (e : Fault) → Going single begins item found i whole → sees begins i ≡ true → item i ≡ Err e → whole ≡ Err e
  unfolding many_from
  failed e so_far leads is = let turn = many_turn begins item so_far.short found i in let same = so_far.same in grind arith

  -- the remaining input is shorter
  pub shorter : (j : Input) (x : A) → Going single begins item found i whole → item i ≡ Ok (x, j) → length j.left < length i.left
  shorter j x so_far is = so_far.short i j x is
