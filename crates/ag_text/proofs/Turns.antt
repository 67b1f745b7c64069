-- Parts that are parsed one after the other, for the proofs of loops: the theory of parsers, applied to
-- grammars.
use Rattle.std.proofs.Common.{◌≡◌, Bool, true, false, List, [], ◌∷◌, ◌++◌, Ok, Err, refl}
use Rattle.ag_tokens.specs.PlacedToken.{Input}
use Rattle.ag_tokens.specs.Parsing.{sees}
use Rattle.ag_tokens.specs.GrammarToken.{GrammarToken}
use Rattle.ag_expr.proofs.reading.Turns as turns
use Rattle.ag_expr.proofs.reading.Turns.{Going, shorter}
use Rattle.ag_text.specs.Reading.{Outcome, Parser}
use Rattle.ag_text.specs.declared.stop.Stop.{Stop}

module _ {A : Type 0} (begins : GrammarToken → Bool) (item : Parser A) (found : List A) (i : Input)
    (whole : Outcome (List A)) where
  pub stopped : Going false begins item found i whole → sees begins i ≡ false → whole ≡ Ok (found, i)
  stopped so_far none = turns.stopped false begins item found i whole so_far none

  pub goes_on : (j : Input) (x : A) → Going false begins item found i whole → sees begins i ≡ true → item i ≡ Ok (x, j)
      → Going false begins item (found ++ x ∷ []) j whole
  goes_on j x so_far leads is = turns.goes_on false begins item found i whole j x so_far refl leads is

  pub failed : (e : Stop) → Going false begins item found i whole → sees begins i ≡ true → item i ≡ Err e → whole ≡ Err e
  failed e so_far leads is = turns.failed false begins item found i whole e so_far leads is

-- the lemmas for a loop over parts
pub ruleset looped = (goes_on, stopped, failed, shorter)
