-- The items at the places of a numbered production, and their attributes by name, by kind and by role.
use Rattle.normalform.proofs.Common
use Common.{ℕ, zero, suc, ◌≡◌, ◌∙◌, ◌<◌, ◌≤◌, ◌++◌, not, true, List, [], ◌∷◌, length, map, flat_map, Some, None, Option, slice_get, get_or}
use Common.{bytes_eq, refl, sym, ap, append-nil, drop}
use Common.{length-append, length-map, passes_at_first, slice_get-get_or, slice_get_within, bytes_eq-Decides, list_any, Item}
use Common.{Symbol, Target, Literal, Class, Occ, Kind, Synthesized, Inherited, stored_items, item_at, item_names, item_kinds}
use Common.{symbol_kinds, names_of_symbol, defined_kind, used_kind, HasKind, RefersTo, RawGrammar, RawItem, RawProduction}
use Common.{number_in, declared_names, declared, item_of, stored_of, names_at, placed, target_of, numbered, literals_of}
use Common.{Role, PlacedItem, item_placed, place_of, places_of, role_of, symbol_role, item_role, is_unknown, is_there, is_used}
use Common.{is_defined}
use Common.item
use Common.raw_item
use Rattle.std.proofs.lemmas.List.{at_drop_all}
use Rattle.normalform.proofs.found.Reduced.{symbols, produces, places, known, below_known}

pub stored_same : (ns lits : List (List ℕ)) (xs : List RawItem) → stored_items (map (item_of ns lits) xs) ≡ stored_of ns xs
stored_same ns lits [] = refl
stored_same ns lits (raw_item.Name name ∷ xs) = cc (stored_same ns lits xs)
stored_same ns lits (raw_item.Literal text ∷ xs) = stored_same ns lits xs
stored_same ns lits (raw_item.Class c ∷ xs) = cc (stored_same ns lits xs)

-- the items of a resolved production are those of the numbered one
stored_places : (ns : List (List ℕ)) (xs : List RawItem) → map item_placed (flat_map (place_of ns) xs) ≡ stored_of ns xs
stored_places ns [] = refl
stored_places ns (raw_item.Name name ∷ xs) = cc (stored_places ns xs)
stored_places ns (raw_item.Literal text ∷ xs) = stored_places ns xs
stored_places ns (raw_item.Class c ∷ xs) = cc (stored_places ns xs)

pub places_same : (ss : List Symbol) (q : RawProduction) → map item_placed (places_of ss q) ≡ placed ss q
places_same ss q = cc (stored_places (declared_names ss) q.items)

-- the same of a list that has the place of each item
pub all_placed : (ss : List Symbol) (q : RawProduction) (xs : List PlacedItem) (i : ℕ) → length q.items ≤ i
    → xs ++ flat_map (place_of (declared_names ss)) (drop i q.items) ≡ places_of ss q → map item_placed xs ≡ placed ss q
all_placed ss q xs i le all =
    let rest = at_drop_all (λ (ys : List RawItem). xs ++ flat_map (place_of (declared_names ss)) ys) q.items i le in
    ap (map item_placed) (sym (append-nil xs) ∙ sym rest ∙ all) ∙ places_same ss q

pub at_place : (raw : RawGrammar) (q : RawProduction) (place : ℕ)
    → item_at (produces raw q) place ≡ slice_get (places raw q) place
at_place raw q zero = refl
at_place raw q (suc i) = rw (stored_same (declared_names (symbols raw)) (literals_of raw.productions) q.items)

names_same : (raw : RawGrammar) (o : Option Item) → item_names (numbered raw) o ≡ item_names (declared (symbols raw)) o
names_same raw None = refl
names_same raw (Some (item.Symbol s)) = refl
names_same raw (Some (item.Terminal (Class c))) = refl
names_same raw (Some (item.Terminal (Literal l))) = refl

kinds_same : (raw : RawGrammar) (o : Option Item) → item_kinds (numbered raw) o ≡ item_kinds (declared (symbols raw)) o
kinds_same raw None = refl
kinds_same raw (Some (item.Symbol s)) = refl
kinds_same raw (Some (item.Terminal (Class c))) = refl
kinds_same raw (Some (item.Terminal (Literal l))) = refl

pub kinds_at : (raw : RawGrammar) (q : RawProduction) (place : ℕ)
    → item_kinds (numbered raw) (item_at (produces raw q) place) ≡ item_kinds (declared (symbols raw))
    (slice_get (places raw q) place)
kinds_at raw q place = cc (kinds_same raw (item_at (produces raw q) place), at_place raw q place)

names_of : (raw : RawGrammar) (q : RawProduction) (place : ℕ)
    → item_names (numbered raw) (item_at (produces raw q) place) ≡ names_at (symbols raw) (places raw q) place
names_of raw q place = cc (names_same raw (item_at (produces raw q) place), at_place raw q place)

-- the role of an attribute that has a kind
role_some : (ss : List Symbol) (x : Option Item) (a place : ℕ) (k : Kind) → slice_get (item_kinds (declared ss) x) a ≡ Some k
    → item_role ss x a place ≡ role_of (Some k) place
role_some ss None a place k e = absurd (cc)
role_some ss (Some (item.Symbol s)) a place k e = go (slice_get ss s) e
  where
    go : (o : Option Symbol) → slice_get (symbol_kinds o) a ≡ Some k → symbol_role o a place ≡ role_of (Some k) place
    go None e = absurd (cc)
    go (Some y) e = ap (λ (o : Option Kind). role_of o place) e
role_some ss (Some (item.Terminal t)) a place k e = ap (λ (o : Option Kind). role_of o place) e

-- an attribute without N1 has a kind, if its symbol is declared
some_kind : (o : Option Kind) (place : ℕ) → not (is_unknown (role_of o place)) ≡ true → (k : Kind) × (o ≡ Some k)
some_kind None place h = absurd (cc)
some_kind (Some k) place h = (k, refl)

shown_kind : (ss : List Symbol) (x : Option Item) (a place : ℕ) → ((s : ℕ) → x ≡ Some (item.Symbol s) → s < length ss)
    → not (is_unknown (item_role ss x a place)) ≡ true → (k : Kind) × (slice_get (item_kinds (declared ss) x) a ≡ Some k)
shown_kind ss None a place shown h = absurd (cc)
shown_kind ss (Some (item.Symbol s)) a place shown h = go (slice_get ss s) refl h
  where
    go : (o : Option Symbol) → slice_get ss s ≡ o → not (is_unknown (symbol_role o a place)) ≡ true
        → (k : Kind) × (slice_get (symbol_kinds o) a ≡ Some k)
    go None e h = absurd (cc (e, slice_get-get_or ss s (record { name = []; syn = []; inh = [] }) (shown s refl)))
    go (Some y) e h = some_kind (slice_get (symbol_kinds (Some y)) a) place h
shown_kind ss (Some (item.Terminal t)) a place shown h = some_kind _ place h

-- what the checks say of an attribute of this kind
pub kind_known : (k : Kind) (place : ℕ) → not (is_unknown (role_of (Some k) place)) ≡ true
kind_known Synthesized zero = refl
kind_known Synthesized (suc i) = refl
kind_known Inherited zero = refl
kind_known Inherited (suc i) = refl

pub kind_there : (k : Kind) (place : ℕ) → is_there (role_of (Some k) place) ≡ true
kind_there Synthesized zero = refl
kind_there Synthesized (suc i) = refl
kind_there Inherited zero = refl
kind_there Inherited (suc i) = refl

pub not_used : (k : Kind) (place : ℕ) → not (is_used (role_of (Some k) place)) ≡ true → k ≡ defined_kind place
not_used Synthesized zero h = refl
not_used Synthesized (suc i) h = absurd (cc)
not_used Inherited zero h = absurd (cc)
not_used Inherited (suc i) h = refl

pub not_defined : (k : Kind) (place : ℕ) → not (is_defined (role_of (Some k) place)) ≡ true → k ≡ used_kind place
not_defined Synthesized zero h = absurd (cc)
not_defined Synthesized (suc i) h = refl
not_defined Inherited zero h = refl
not_defined Inherited (suc i) h = absurd (cc)

pub defined_passes : (place : ℕ) → not (is_used (role_of (Some (defined_kind place)) place)) ≡ true
defined_passes zero = refl
defined_passes (suc i) = refl

pub used_passes : (place : ℕ) → not (is_defined (role_of (Some (used_kind place)) place)) ≡ true
used_passes zero = refl
used_passes (suc i) = refl

-- a listed text is the one with its number
pub text_at : (texts : List (List ℕ)) (text : List ℕ) → list_any (bytes_eq text) texts ≡ true
    → slice_get texts (number_in texts text) ≡ Some text
text_at texts text h =
    let n = number_in texts text in
    let lt : n < length texts = known texts text h in
    let e : text ≡ get_or texts n [] =
    (bytes_eq-Decides text (get_or texts n [])).0 (passes_at_first (bytes_eq text) texts [] lt) in
    cc (slice_get-get_or texts n [] lt)

-- there are as many kinds as names
symbol_long : (o : Option Symbol) → length (symbol_kinds o) ≡ length (names_of_symbol o)
symbol_long None = refl
symbol_long (Some s) = simp (length-append, length-map)

kinds_long : (ss : List Symbol) (o : Option Item) → length (item_kinds (declared ss) o) ≡ length (item_names (declared ss) o)
kinds_long ss None = refl
kinds_long ss (Some (item.Symbol s)) = symbol_long (slice_get ss s)
kinds_long ss (Some (item.Terminal (Class c))) = refl
kinds_long ss (Some (item.Terminal (Literal l))) = refl

-- the occurrences in a production
module _ (raw : RawGrammar) (q : RawProduction) (o : Occ) where
  abbrev names : List (List ℕ)
  names = names_at (symbols raw) (places raw q) o.place

  abbrev number : ℕ
  number = number_in names o.attr

  abbrev kinds : List Kind
  kinds = item_kinds (declared (symbols raw)) (slice_get (places raw q) o.place)

  abbrev attribute : Target
  attribute = target_of (symbols raw) (places raw q) o

  abbrev pub role_in : Role
  role_in = item_role (symbols raw) (slice_get (places raw q) o.place) number o.place

  -- the attribute has a kind in the numbered grammar
  abbrev pub IsThere : Type 0
  IsThere = (k : Kind) × HasKind (numbered raw) (produces raw q) attribute k

  pub role_is : (k : Kind) → HasKind (numbered raw) (produces raw q) attribute k → role_in ≡ role_of (Some k) o.place
  role_is k h = role_some (symbols raw) (slice_get (places raw q) o.place) number o.place k (rw (kinds_at raw q o.place) at h)

  pub there_if : ((s : ℕ) → slice_get (places raw q) o.place ≡ Some (item.Symbol s) → s < length (symbols raw))
      → not (is_unknown role_in) ≡ true → IsThere
  there_if shown h =
      let w = shown_kind (symbols raw) (slice_get (places raw q) o.place) number o.place shown h in
      (w.0, rw (kinds_at raw q o.place) w.1)

  -- the attribute is referred to by its name, and the converse
  pub stands_for : IsThere → RefersTo (numbered raw) (produces raw q) o attribute
  stands_for (k, h) =
      let e : slice_get kinds number ≡ Some k = rw (kinds_at raw q o.place) at h in
      let there = below_known names o.attr
      (rw (← kinds_long (symbols raw) (slice_get (places raw q) o.place)) (slice_get_within _ _ _ e)) in
      record { place = refl; name = rw (names_of raw q o.place) (text_at names o.attr there) }

  pub name_there : RefersTo (numbered raw) (produces raw q) o attribute → IsThere
  name_there refers =
      let within : number < length names = slice_get_within _ _ _ (rw (names_of raw q o.place) at refers.name) in
      let lt : number < length kinds = rw (kinds_long (symbols raw) (slice_get (places raw q) o.place)) within in
      (get_or kinds number Synthesized, rw (kinds_at raw q o.place) (slice_get-get_or kinds number Synthesized lt))
