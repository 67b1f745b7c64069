-- Parts of an expression that are parsed one after the other, and one level more.
use Rattle.ag_expr.proofs.Common
use Common.{◌≡◌, ◌≢◌, ℕ, zero, suc, ◌-◌, ◌<◌, Bool, true, false, List, [], ◌∷◌, ◌++◌, length, Result, Ok, Err, subst, arith, sees}
use Common.{Input, GrammarToken, IsErrAnd, ExprFault, Node, Occ, Names, State, KeepsContext, complete_list, input}
use Common.fault
use Rattle.ag_expr.proofs.reading.Turns as turns
use Rattle.ag_expr.proofs.reading.Turns.{Going}
use Rattle.ag_expr.specs.language.Reading.{Parser, whole_from, expr_in}
use Rattle.ag_expr.specs.language.State.{Reads, ReadsAs}

-- a fault of a part that is passed on
pub answered : {X Y : Type 0} (view : X → Y) (read : List Occ → Names → Parser Y) (old new : State) (r : Result X ExprFault)
    (e : ExprFault) → IsErrAnd r (λ x. x ≡ e) → (e ≢ fault.NoMemory → read (complete_list old) old.scope (input old) ≡ Err e)
    → ReadsAs view read old r new
answered view read old new (Ok x) e is refuses = absurd is
answered view read old new (Err x) e is refuses =
    rw is refuses

-- one level more
pub one_level : (n : ℕ) → 0 < n → (old new : State) (r : Result Node ExprFault)
    → Reads (λ all names. whole_from (expr_in all (n - 1)) names all) old r new → Reads (λ all. expr_in all n) old r new
unfolding expr_in
one_level zero some old new r is = absurd (omega arith)
one_level (suc n) some old new r is =
    subst (λ k. Reads (λ all names. whole_from (expr_in all k) names all) old r new)
    (let one : suc n - 1 ≡ n = omega arith in one) is

-- ---- for the proofs of loops

-- A loop invariant: parts are parsed one after the other from the state `first`, and the parts found so far,
-- with the further ones, are the whole.
pub record Looping {A : Type 0} (single : Bool) (begins : GrammarToken → Bool) (item : List Occ → Names → Parser A)
    (whole : List Occ → Names → Parser (List A)) (first s : State) (found : List A) : Type 0 where
  pub keeps : KeepsContext first s
  pub going : Going single begins (item (complete_list first) first.scope) found (input s)
      (whole (complete_list first) first.scope (input first))

module _ {A : Type 0} {single : Bool} {begins : GrammarToken → Bool} {item : List Occ → Names → Parser A}
    {whole : List Occ → Names → Parser (List A)} {first s : State} {found : List A}
    (so_far : Looping single begins item whole first s found) where
  pub stopped : sees begins (input s) ≡ false → whole (complete_list first) first.scope (input first) ≡ Ok (found, input s)
  stopped none = turns.stopped single begins _ found (input s) _ so_far.going none

  still : (t : State) → KeepsContext s t → KeepsContext first t
  still t kept = record {
    occurrences = cc;
    names = cc;
    kind = cc;
    following = cc;
  }

  pub goes_on : single ≡ false → sees begins (input s) ≡ true → (t : State) (x : A)
      → item (complete_list s) s.scope (input s) ≡ Ok (x, input t) → KeepsContext s t
      → Looping single begins item whole first t (found ++ x ∷ [])
  goes_on more leads t x is kept = record {
    keeps = still t kept;
    going = turns.goes_on single begins _ found (input s) _ (input t) x so_far.going more leads (cc);
  }

  pub ends : single ≡ true → sees begins (input s) ≡ true → (t : State) (x : A)
      → item (complete_list s) s.scope (input s) ≡ Ok (x, input t) → KeepsContext s t
      → (whole (complete_list first) first.scope (input first) ≡ Ok (found ++ x ∷ [], input t)) × KeepsContext first t
  ends last leads t x is kept =
      (turns.ends single begins _ found (input s) _ (input t) x so_far.going last leads (cc), still t kept)

  pub failed : sees begins (input s) ≡ true → (e : ExprFault) → item (complete_list s) s.scope (input s) ≡ Err e
      → whole (complete_list first) first.scope (input first) ≡ Err e
  failed leads e is = turns.failed single begins _ found (input s) _ e so_far.going leads (cc)

pub shorter : {A : Type 0} (single : Bool) (begins : GrammarToken → Bool) (item : List Occ → Names → Parser A)
    (whole : List Occ → Names → Parser (List A)) (first s : State) (found : List A)
    → Looping single begins item whole first s found → (j : Input) (x : A)
    → item (complete_list s) s.scope (input s) ≡ Ok (x, j) → length j.left < length (input s).left
shorter single begins item whole first s found so_far j x is =
    turns.shorter single begins _ found (input s) _ j x so_far.going (cc)
