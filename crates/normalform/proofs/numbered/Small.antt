-- Within the limits the numbers have 16 bits.
use Rattle.normalform.proofs.Common
use Common.{ℕ, zero, suc, ◌≡◌, ◌<◌, ◌≤◌, Bool, true, not, List, [], ◌∷◌, length, Some, None, Option, slice_get, bytes_eq, refl}
use Common.{arith, and_parts, leb-true, length-map, prefix_len-le-length, list_all, Item, Symbol, Literal, Class, Occ, item_names}
use Common.{names_of_symbol, few_attributes, number_in, declared_names, declared, names_at, target_of}
use Common.item

pub number_within : (texts : List (List ℕ)) (text : List ℕ) → number_in texts text ≤ length texts
number_within texts text = prefix_len-le-length (λ x. not (bytes_eq text x)) texts

-- the number of a symbol has 16 bits
pub symbol_small : (ss : List Symbol) (name : List ℕ) → length ss ≤ 256 → number_in (declared_names ss) name < 65536
symbol_small ss name few = omega (arith, number_within (declared_names ss) name, length-map ss (λ (s : Symbol). s.name))

-- the number of a literal has 16 bits
pub text_small : (texts : List (List ℕ)) (text : List ℕ) → length texts ≤ 1024 → number_in texts text < 65536
text_small texts text few = omega (arith, number_within texts text)

-- if all elements of a list pass a test, each one does
pub passes_at : {X : Type 0} (p : X → Bool) (xs : List X) (i : ℕ) (x : X) → list_all p xs ≡ true → slice_get xs i ≡ Some x
    → p x ≡ true
passes_at p [] i x all e = absurd (cc)
passes_at p (y ∷ ys) zero x all e = let same : y ≡ x = cc in rw (← same) (and_parts _ _ all).0
passes_at p (y ∷ ys) (suc i) x all e = passes_at p ys i x (and_parts _ _ all).1 e

names_few : (ss : List Symbol) → list_all few_attributes ss ≡ true → (o : Option Item) → length (item_names (declared ss) o) ≤ 16
names_few ss few None = omega arith
names_few ss few (Some (item.Symbol s)) = go (slice_get ss s) refl
  where
    go : (o : Option Symbol) → slice_get ss s ≡ o → length (names_of_symbol o) ≤ 16
    go None e = omega arith
    go (Some x) e = leb-true _ _ (passes_at few_attributes ss s x few e)
names_few ss few (Some (item.Terminal (Class c))) = omega arith
names_few ss few (Some (item.Terminal (Literal l))) = omega arith

-- the number of an attribute has 16 bits
pub attribute_small : (ss : List Symbol) (items : List Item) (o : Occ) → list_all few_attributes ss ≡ true
    → (target_of ss items o).attr < 65536
attribute_small ss items o few =
    omega (arith, number_within (names_at ss items o.place) o.attr, names_few ss few (slice_get items o.place))
