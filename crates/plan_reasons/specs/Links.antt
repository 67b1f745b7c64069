-- Links of chains: a strike with the parts that it names, and where its argument is, seen from the target of its rule. In this
-- file x is a strike, l a link, d a direction of passes, q a production, u a rule of q, s the number of a symbol, and o a target:
-- a place of q with the number of an attribute there. `Names g x q u o` says that x names q, u and the argument o.
use Rattle.std.specs.Prelude.{ℕ, ◌≡◌, List, [], ◌∷◌, ◌++◌, Option, Some, None}
use Rattle.ag_grammar.specs.Lists.{AreRelated, Has}
use Rattle.ag_grammar.specs.declared.direction.Direction.{Direction}
use Rattle.ag_grammar.specs.declared.grammar.Item.TheVariants as item
use Rattle.ag_grammar.specs.declared.grammar.Production.{Production}
use Rattle.ag_grammar.specs.declared.grammar.Rule.{Rule}
use Rattle.ag_grammar.specs.declared.grammar.Target.{Target}
use Rattle.ag_grammar.specs.grammars.AttributeGrammar.{Grammar, item_at}
use Rattle.ag_grammar.specs.grammars.Passes.{IsBefore}
use Rattle.passassign.specs.Certificate.{Attributes, IsSameOrLater}
use Rattle.passassign.specs.Chains.{IsChainOf, Names}
use Rattle.passassign.specs.declared.stuck.Strike.{Strike}
use Rattle.plan_reasons.specs.declared.links.Geometry.{Geometry}
use Rattle.plan_reasons.specs.declared.links.Geometry.TheVariants as geometry
use Rattle.plan_reasons.specs.declared.links.Link.{Link}

-- l is the link of strike x. It has the target of the strike's rule, the argument that x names, and the same argument as an
-- attribute of a symbol (`l.used`: the symbol's number and the attribute's).
pub record IsLinkOf (g : Grammar) (x : Strike) (l : Link) : Type 0 where
  pub production : Production
  pub rule : Rule
  pub named : Names g x production rule l.argument
  pub strike : l.strike ≡ x
  pub target : l.target ≡ rule.target
  pub symbol : item_at production l.argument.place ≡ Some (item.Symbol l.used.0)
  pub attr : l.argument.attr ≡ l.used.1

-- a strike names an argument that is an attribute of a symbol
pub record NamesAttribute (g : Grammar) (x : Strike) : Type 0 where
  pub production : Production
  pub rule : Rule
  pub argument : Target
  pub symbol : ℕ
  pub named : Names g x production rule argument
  pub item : item_at production argument.place ≡ Some (item.Symbol symbol)

-- the option is the link of strike x; `None` means that the strike names no argument that is an attribute of a symbol
abbrev pub IsLinkOrNone : Grammar → Strike → Option Link → Type 0
IsLinkOrNone g x None = NamesAttribute g x → ⊥
IsLinkOrNone g x (Some l) = IsLinkOf g x l

-- the option is the link of strike x by argument o of rule u; `None` means that the argument is not an attribute of a symbol
abbrev pub IsLinkAt : Production → Rule → Target → Strike → Option Link → Type 0
IsLinkAt q u o x None = (s : ℕ) → item_at q o.place ≡ Some (item.Symbol s) → ⊥
IsLinkAt q u o x (Some l) =
    (l.strike ≡ x) × (l.target ≡ u.target) × (l.argument ≡ o) × (item_at q o.place ≡ Some (item.Symbol l.used.0))
    × (o.attr ≡ l.used.1)

-- the link of strike x is appended to the list `old`, if x names an argument that is an attribute of a symbol; otherwise nothing
-- is claimed
abbrev pub AppendsLink : Grammar → Strike → (old new : List Link) → Type 0
AppendsLink g x old new = NamesAttribute g x → (l : Link) × IsLinkOf g x l × (new ≡ old ++ l ∷ [])

-- The links of a chain, in the chain's order. The chain begins with a strike of attribute a of symbol s. `candidate` holds of the
-- attributes that no earlier pass computes (for a certificate: of those in its set).
pub record AreChainLinks (g : Grammar) (d : Direction) (candidate : Attributes) (s a : ℕ) (links : List Link) : Type 0 where
  pub chain : List Strike
  pub is_chain : IsChainOf g d candidate s a chain
  pub are_links : AreRelated (IsLinkOf g) chain links

-- l is the link of strike x, and it is an obstacle in passes of direction d: its argument is at the target's child or at a child
-- that is visited later. So strike x waits for no other.
abbrev pub IsObstacleOf : Grammar → Direction → Strike → Link → Type 0
IsObstacleOf g d x l = IsLinkOf g x l × IsSameOrLater d l.target.place l.argument.place

-- l is the link of one of the strikes of a list, and it is an obstacle
abbrev pub IsObstacle : Grammar → Direction → List Strike → Link → Type 0
IsObstacle g d strikes l = (x : Strike) × Has strikes x × IsObstacleOf g d x l

-- The result of `Link::geometry` for a pass of direction d, if the target of the rule is at place j, and the argument at place i.
-- Place 0 is the left side, and `IsSameOrLater` is false if i or j is 0.
abbrev pub IsGeometry : Direction → (j i : ℕ) → Geometry → Type 0
IsGeometry d j i geometry.Within = IsSameOrLater d j i × (i ≡ j)
IsGeometry d j i geometry.Later = IsSameOrLater d j i × IsBefore d j i
IsGeometry d j i geometry.AtHand = IsSameOrLater d j i → ⊥
