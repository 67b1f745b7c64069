-- A chain of operators, parsed as its first atom and the rest after it.
use Rattle.ag_expr.proofs.Common
use Common.{◌≡◌, true, false, not, List, [], ◌∷◌, Option, Some, None, Ok, Err, refl, ◌∙◌, arith, is_some, and_then, sees, Input}
use Common.{GrammarToken, Node, Operator, Precedence}
use Common.precedence
use Rattle.ag_expr.proofs.reading.Exact.{both_without}
use Rattle.ag_expr.proofs.reading.Turns.{none_further}
use Rattle.ag_expr.specs.language.Chains.{chain_after, is_among, is_operator_among, ranked_after}
use Rattle.ag_expr.specs.language.Reading.{Outcome, Parser, chain_from, is_operator_of, other_from, ranked_from}
use Rattle.ag_expr.specs.language.Syntax.{binary_operator, closer, precedences, same_precedence, takes_one}

-- ---- operators that bind more strongly

pub others_closer : (other : Precedence)
    → is_among (closer precedence.Comparison) other ≡ not (same_precedence other precedence.Comparison)
others_closer precedence.Comparison = refl
others_closer _ = refl

all_among : (other : Precedence) → is_among precedences other ≡ true
all_among precedence.Comparison = refl
all_among _ = refl

pub operator_among : (ks : List Precedence) (t : GrammarToken) (other : Precedence) (o : Operator)
    → binary_operator t ≡ Some (other, o) → is_operator_among ks t ≡ is_among ks other
operator_among [] t other o is = refl
operator_among (k ∷ ks) t other o is = let more = operator_among ks t other o is in grind (arith, more)

pub no_operator : (ks : List Precedence) (t : GrammarToken) → binary_operator t ≡ None → is_operator_among ks t ≡ false
no_operator [] t is = refl
no_operator (k ∷ ks) t is = let more = no_operator ks t is in grind (arith, more)

pub any_operator : (t : GrammarToken) → is_operator_among precedences t ≡ is_some (binary_operator t)
any_operator t = go (binary_operator t) refl
  where
    go : (o : Option (Precedence × Operator)) → binary_operator t ≡ o
        → is_operator_among precedences t ≡ is_some (binary_operator t)
    go None is = no_operator precedences t is ∙ rw is refl
    go (Some x) is = operator_among precedences t x.0 x.1 is ∙ all_among x.0 ∙ rw is refl

-- ---- the first atom

in_turn : (o : Outcome Node) (f g : Node → Parser Node) → and_then (and_then o f) g ≡ and_then o (λ a j. and_then (f a j) g)
in_turn (Ok p) f g = refl
in_turn (Err e) f g = refl

same_outcome : (o : Outcome Node) → o ≡ and_then o (λ a j. Ok (a, j))
same_outcome (Ok p) = refl
same_outcome (Err e) = refl

-- nested chains are their first atom and the rest after it
pub by_atom : (atom : Parser Node) (ks : List Precedence) (i : Input)
    → ranked_from atom ks i ≡ and_then (atom i) (ranked_after atom ks)
unfolding ranked_from ranked_after chain_from chain_after
by_atom atom [] i = same_outcome (atom i)
by_atom atom (k ∷ ks) i = cc (by_atom atom ks i, in_turn (atom i) (ranked_after atom ks) (chain_after k (ranked_from atom ks)))

-- and if none of their operators follows, the rest is empty
only_atom : (atom : Parser Node) (ks : List Precedence) (first : Node) (j : Input) → sees (is_operator_among ks) j ≡ false
    → ranked_after atom ks first j ≡ Ok (first, j)
unfolding ranked_after chain_after
only_atom atom [] first j none = refl
only_atom atom (k ∷ ks) first j none =
    let parts = both_without (is_operator_of k) (is_operator_among ks) j.left none in
    rw (
      only_atom atom ks first j parts.1,
      none_further (takes_one k) (is_operator_of k) (other_from k (ranked_from atom ks)) [] j parts.0,
    ) refl

pub atom_alone : (atom : Parser Node) (ks : List Precedence) (i j : Input) (first : Node) → atom i ≡ Ok (first, j)
    → sees (is_operator_among ks) j ≡ false → ranked_from atom ks i ≡ Ok (first, j)
atom_alone atom ks i j first is none = cc (by_atom atom ks i, only_atom atom ks first j none)

-- the same for an operand that no operator of the precedence follows
pub operand_alone : (atom : Parser Node) (k : Precedence) (i j : Input) (first operand : Node)
    → ranked_after atom (closer k) first i ≡ Ok (operand, j) → sees (is_operator_of k) j ≡ false
    → ranked_after atom (k ∷ closer k) first i ≡ Ok (operand, j)
unfolding ranked_after chain_after
operand_alone atom k i j first operand is none =
    rw (is, none_further (takes_one k) (is_operator_of k) (other_from k (ranked_from atom (closer k))) [] j none) refl
