-- Reasons that keep attributes out of a pass, and certificates that attributes can have no pass.
use Rattle.std.specs.Prelude.{ℕ, ◌≡◌, ◌≤◌, ◌⊎◌, List, [], ◌∷◌, Option, Some, None, slice_get}
use Rattle.ag_grammar.specs.Lists.{Has, Differ}
use Rattle.ag_grammar.specs.declared.grammar.Item.TheVariants as item
use Rattle.ag_grammar.specs.declared.grammar.Item.{Item}
use Rattle.ag_grammar.specs.declared.grammar.Production.{Production}
use Rattle.ag_grammar.specs.declared.grammar.Rule.{Rule}
use Rattle.ag_grammar.specs.declared.grammar.Target.{Target}
use Rattle.ag_grammar.specs.grammars.AttributeGrammar.{Grammar, IsProduction, item_at}
use Rattle.ag_grammar.specs.declared.direction.Direction.{Direction}
use Rattle.ag_grammar.specs.declared.direction.Direction.TheVariants.{LeftToRight, RightToLeft}
use Rattle.ag_grammar.specs.grammars.Passes.{IsBefore}
use Rattle.passassign.specs.declared.stuck.Strike.{Strike}
use Rattle.passassign.specs.declared.stuck.Stuck.{Stuck}

-- some attributes, by the numbers of their symbols and of themselves
abbrev pub Attributes : Type 1
Attributes = ℕ → ℕ → Type 0

-- the attributes of a list
abbrev pub Members : List (ℕ × ℕ) → ℕ → ℕ → Type 0
Members set s a = Has set (s, a)

-- the attributes that a list strikes
abbrev pub IsStruckBy : List Strike → ℕ → ℕ → Type 0
IsStruckBy [] s a = ⊥
IsStruckBy (x ∷ xs) s a = ((x.symbol ≡ s) × (x.attr ≡ a)) ⊎ IsStruckBy xs s a

-- attribute a of an item is one of these attributes; an attribute of a terminal never is
abbrev pub IsOneOf : Attributes → Option Item → ℕ → Type 0
IsOneOf some None a = ⊥
IsOneOf some (Some (item.Symbol s)) a = some s a
IsOneOf some (Some (item.Terminal t)) a = ⊥

-- The child at place i is the one at place j, or a pass of this direction visits it later. Place 0 is not a child.
abbrev pub IsSameOrLater : Direction → (j i : ℕ) → Type 0
IsSameOrLater d j i = (1 ≤ j) × (1 ≤ i) × ((i ≡ j) ⊎ IsBefore d j i)

-- Argument o is a reason why a pass of direction d can't compute the target, at place j, of a rule of production q. `candidate`
-- are the attributes that have no earlier pass, and `struck` those of them that are struck. There are two cases: the argument is
-- struck; or it is a candidate, and is at the target's child or at one that the pass visits later. In the second case it is not
-- computed before the pass enters the target's child. (After Jazayeri and Walter 1975: there every argument at a later child is a
-- reason; here an argument that an earlier pass has computed is not a reason.)
abbrev pub IsReasonWhere : Direction → (candidate struck : Attributes) → Production → ℕ → Target → Type 0
IsReasonWhere d candidate struck q j o =
    IsOneOf struck (item_at q o.place) o.attr
    ⊎ (IsSameOrLater d j o.place × IsOneOf candidate (item_at q o.place) o.attr)

-- the same, where the struck attributes are those that a list strikes
abbrev pub IsReason : Direction → Attributes → List Strike → Production → ℕ → Target → Type 0
IsReason d candidate struck q j o = IsReasonWhere d candidate (IsStruckBy struck) q j o

-- A strike that is good if these attributes are struck: its production, rule and argument exist, the target
-- of its rule is its attribute, and the argument is a reason (this project's).
pub record IsGoodWhere (g : Grammar) (d : Direction) (candidate struck : Attributes) (x : Strike) : Type 0 where
  pub production : Production
  pub rule : Rule
  pub argument : Target
  pub is_production : IsProduction g x.production production
  pub is_rule : slice_get production.rules x.rule ≡ Some rule
  pub is_argument : slice_get rule.args x.arg ≡ Some argument
  pub symbol : item_at production rule.target.place ≡ Some (item.Symbol x.symbol)
  pub attr : rule.target.attr ≡ x.attr
  pub reason : IsReasonWhere d candidate struck production rule.target.place argument

-- a strike that is good after the strikes `struck`
abbrev pub IsGood : Grammar → Direction → Attributes → List Strike → Strike → Type 0
IsGood g d candidate struck x = IsGoodWhere g d candidate (IsStruckBy struck) x

-- Strikes one after the other, after the strikes `struck`: each is of a candidate that is not struck before, and is good after
-- those before it.
abbrev pub AreGood : Grammar → Direction → Attributes → List Strike → List Strike → Type 0
AreGood g d candidate struck [] = Unit {0}
AreGood g d candidate struck (x ∷ xs) =
    candidate x.symbol x.attr × (IsStruckBy struck x.symbol x.attr → ⊥) × IsGood g d candidate struck x
    × AreGood g d candidate (x ∷ struck) xs

-- A list of good strikes in a pass of this direction with these candidates. It strikes exactly the attributes of `later`, which
-- therefore can't have this pass (this project's).
pub record StrikesExactly (g : Grammar) (d : Direction) (candidate later : Attributes) (xs : List Strike) : Type 0 where
  pub good : AreGood g d candidate [] xs
  pub all : (s a : ℕ) → later s a → IsStruckBy xs s a
  pub only : (s a : ℕ) → IsStruckBy xs s a → later s a

-- the list strikes all candidates: the pass is assigned to none of them
abbrev pub StrikesAll : Grammar → Direction → Attributes → List Strike → Type 0
StrikesAll g d candidate xs = StrikesExactly g d candidate candidate xs

-- A certificate: some attributes, none of them listed twice, all of which are struck in a pass of either
-- direction (this project's).
pub record IsCertificate (g : Grammar) (c : Stuck) : Type 0 where
  pub some : (x : ℕ × ℕ) × Has c.set x
  pub single : Differ c.set
  pub odd : StrikesAll g RightToLeft (Members c.set) c.odd
  pub even : StrikesAll g LeftToRight (Members c.set) c.even

-- the certificate of two consecutive passes, the first of this direction, that strike the same attributes
abbrev pub stuck_of : Direction → List (ℕ × ℕ) → (first second : List Strike) → Stuck
stuck_of RightToLeft set first second = record { set = set; odd = first; even = second }
stuck_of LeftToRight set first second = record { set = set; odd = second; even = first }
