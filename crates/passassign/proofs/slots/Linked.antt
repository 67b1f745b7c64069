-- The slots of a table and the dependencies in a list, for a grammar's attributes and arguments.
use Rattle.passassign.proofs.Common
use Common.{ℕ, ◌≡◌, ◌<◌, ◌*◌, List, Option, Some, None, slice_get, length, map, refl, ap, ◌∙◌, arith, lt-ltb}
use Common.{slice_get_within, length-map, length-append, Has, Item, Production, Rule, Symbol, Target, IsAccepted, Grammar}
use Common.{Synthesized, Inherited, IsProduction, item_at, used_kind, defined_kind, symbol_kinds, symbol_names}
use Common.{dependencies_of, dependencies_of_production, dependencies_of_rule, dependency_of, dependency_on, symbol_of}
use Common.{IsAttribute, IsOpen, BelongTo, target_of, slot_of, state_at, state_of, pass_of_state, table_passes, Dependency, State}
use Common.{Absent, Open, Assigned}
use Common.item
use Rattle.std.proofs.lemmas.Option.{option_and_then_some}
use Rattle.closure.proofs.Positions.{element_at, position_of_element}
use Rattle.passassign.proofs.slots.Lists.{found_from, found_has, joined_from, joined_has, numbered_at, numbered_has}

-- a symbol has as many kinds as names
pub kinds_names : (s : Option Symbol) → length (symbol_kinds s) ≡ length (symbol_names s)
kinds_names None = refl
kinds_names (Some s) =
    length-append (map (λ n. Synthesized) s.syn) (map (λ n. Inherited) s.inh)
    ∙ (let a = length-map s.syn (λ n. Synthesized) in let b = length-map s.inh (λ n. Inherited) in
    omega (arith, length-append s.syn s.inh))

-- an attribute's numbers are within the limits
pub attribute_within : (g : Grammar) (s a : ℕ) → IsAccepted g → IsAttribute g s a → (a < 16) × (s < length g.symbols)
attribute_within g s a accepted is = go (slice_get g.symbols s) refl
  where
    go : (o : Option Symbol) → slice_get g.symbols s ≡ o → (a < 16) × (s < length g.symbols)
    go None e = let bad = rw e at is.1 in cc
    go (Some x) e = (
      omega (
        arith,
        slice_get_within (symbol_kinds (Some x)) a is.0 (rw e at is.1),
        kinds_names (Some x),
        accepted.limits.attribute_count s x e,
      ),
      slice_get_within g.symbols s x e,
    )

-- two attributes of the same place and number are the same
pub same_parts : (o t : Target) → o.place ≡ t.place → o.attr ≡ t.attr → o ≡ t
same_parts o t e f = ap (λ j. record { place = j; attr = o.attr }) e ∙ ap (λ a. record { place = t.place; attr = a }) f

-- two attributes have one slot only if they are the same
pub slot_same : (s a t b : ℕ) → a < 16 → b < 16 → slot_of s a ≡ slot_of t b → (s ≡ t) × (a ≡ b)
slot_same s a t b la lb e = (omega arith, omega arith)

pub state_in : (states : List State) (s a : ℕ) → a < 16 → state_of states s a ≡ state_at states (slot_of s a)
state_in states s a lt = rw (lt-ltb a 16 lt)

is_open_state : (x : State) → pass_of_state x ≡ None → (x ≡ Absent → ⊥) → x ≡ Open
is_open_state Absent e there = absurd (there refl)
is_open_state Open e there = refl
is_open_state (Assigned p) e there = cc

-- an attribute has no pass if the table has it as open
pub open_there : {g : Grammar} {all : List Dependency} {states : List State} → BelongTo g all states → (s a : ℕ) → a < 16
    → state_at states (slot_of s a) ≡ Open → IsOpen g (table_passes states) s a
open_there {states} of s a lt e =
    let f : state_of states s a ≡ Open = cc (state_in states s a lt) in ((of.table.there s a).0 (λ bad. cc), rw f)

pub open_state : {g : Grammar} {all : List Dependency} {states : List State} → BelongTo g all states → (s a : ℕ)
    → IsOpen g (table_passes states) s a → (a < 16) × (state_at states (slot_of s a) ≡ Open)
open_state {g} {states = states} of s a i =
    let lt = (attribute_within g s a of.accepted i.0).0 in
    let now = is_open_state (state_of states s a) i.1 ((of.table.there s a).1 i.0) in (lt, cc (state_in states s a lt))

pub symbol_is : (x : Option Item) (s : ℕ) → symbol_of x ≡ Some s → x ≡ Some (item.Symbol s)
symbol_is None s e = cc
symbol_is (Some (item.Symbol t)) s e = let f : t ≡ s = cc in cc
symbol_is (Some (item.Terminal t)) s e = cc

-- The parts of a dependency in its grammar.
pub record Parts (g : Grammar) (u : Dependency) : Type 0 where
  pub production : Production
  pub rule : Rule
  pub argument : Target
  pub of : ℕ
  pub is_production : IsProduction g u.strike.production production
  pub is_rule : slice_get production.rules u.strike.rule ≡ Some rule
  pub is_argument : slice_get rule.args u.strike.arg ≡ Some argument
  pub symbol : item_at production rule.target.place ≡ Some (item.Symbol u.strike.symbol)
  pub attr : rule.target.attr ≡ u.strike.attr
  pub place : u.place ≡ rule.target.place
  pub from : u.from ≡ argument.place
  pub is_symbol : item_at production argument.place ≡ Some (item.Symbol of)
  pub at : u.argument ≡ slot_of of argument.attr

pub parts : (g : Grammar) (u : Dependency) → Has (dependencies_of g.productions) u → Parts g u
parts g u (n, at) =
    let (x, in_all, of_q) = joined_from dependencies_of_production _ u (element_at _ n u at) in
    let (y, in_q, of_rule) = joined_from (dependencies_of_rule x.0 x.1) _ u of_q in
    let (z, in_rule, is) = found_from (dependency_on x.0 x.1 y) _ u of_rule in
    option_and_then_some _ (symbol_of (item_at x.1 y.1.target.place)) u is (λ s is_s of_s.
    option_and_then_some _ (symbol_of (item_at x.1 z.1.place)) u of_s (λ t is_t of_t.
    let same : dependency_of x.0 y z s t ≡ u = cc in
    rw (← same) (record {
      production = x.1;
      rule = y.1;
      argument = z.1;
      of = t;
      is_production = numbered_at g.productions x in_all;
      is_rule = numbered_at x.1.rules y in_q;
      is_argument = numbered_at y.1.args z in_rule;
      symbol = symbol_is (item_at x.1 y.1.target.place) s is_s;
      attr = refl;
      place = refl;
      from = refl;
      is_symbol = symbol_is (item_at x.1 z.1.place) t is_t;
      at = refl;
    })))

-- the dependency of a rule's target, an attribute of symbol s, on an argument of the rule, an attribute of symbol t
pub has_dependency : (g : Grammar) (x : ℕ × Production) (y : ℕ × Rule) (z : ℕ × Target) (s t : ℕ)
    → IsProduction g x.0 x.1 → slice_get x.1.rules y.0 ≡ Some y.1 → slice_get y.1.args z.0 ≡ Some z.1
    → item_at x.1 y.1.target.place ≡ Some (item.Symbol s) → item_at x.1 z.1.place ≡ Some (item.Symbol t)
    → Has (dependencies_of g.productions) (dependency_of x.0 y z s t)
has_dependency g x y z s t is_q is_rule is_argument target argument =
    let u = dependency_of x.0 y z s t in
    position_of_element _ u
    (joined_has dependencies_of_production _ u x (numbered_has g.productions x is_q)
    (joined_has (dependencies_of_rule x.0 x.1) _ u y (numbered_has x.1.rules y is_rule)
    (found_has (dependency_on x.0 x.1 y) _ u z (numbered_has y.1.args z is_argument) (rw (target, argument) refl))))

module _ {g : Grammar} {u : Dependency} (accepted : IsAccepted g) (p : Parts g u) where
  -- the target of a dependency is an attribute, and so is its argument
  pub target_is : IsAttribute g u.strike.symbol u.strike.attr
  target_is = (
    defined_kind p.rule.target.place,
    rw (p.symbol, p.attr) at
        ((accepted.complete u.strike.production p.production p.is_production).no_other u.strike.rule p.rule p.is_rule),
  )

  argument_is : IsAttribute g p.of p.argument.attr
  argument_is = (
    used_kind p.argument.place,
    rw p.is_symbol at
        (accepted.normal u.strike.production p.production p.is_production u.strike.rule p.rule p.is_rule u.strike.arg p.argument
        p.is_argument),
  )

  pub argument_within : p.argument.attr < 16
  argument_within = (attribute_within g p.of p.argument.attr accepted argument_is).0

  -- both are in a table of all attributes
  pub in_table : (count : ℕ) → count ≡ length g.symbols * 16 → (u.argument < count) × (target_of u < count)
  in_table count e =
      let t = attribute_within g u.strike.symbol u.strike.attr accepted target_is in
      let a = attribute_within g p.of p.argument.attr accepted argument_is in
      let at = p.at in
      (omega arith, omega arith)

pub all_in_table : (g : Grammar) (all : List Dependency) → IsAccepted g → all ≡ dependencies_of g.productions → (count : ℕ)
    → count ≡ length g.symbols * 16 → (u : Dependency) → Has all u → (u.argument < count) × (target_of u < count)
all_in_table g all accepted are count e u h = in_table accepted (parts g u (rw are at h)) count e
