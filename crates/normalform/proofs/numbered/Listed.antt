-- The literals and classes of a numbered grammar: each once, each from a production, and all of them.
use Rattle.normalform.proofs.Common
use Common.{ℕ, zero, suc, ◌≡◌, ◌≤◌, ◌⊎◌, inl, inr, Bool, true, false, cond, List, [], ◌∷◌, ◌++◌, fold, filter, length, Some, None}
use Common.{Option, slice_get, bytes_eq, refl, sym, subst, arith, nat_tests, map-id, list_any_at, fold-append, slice_get_within}
use Common.{get_or_from_slice_get, bytes_eq-Decides, list_any, filter_map, Has, RawItem, RawProduction, get_push_end}
use Common.{get_push_cases, number_in, with_text, with_item, with_production, literals_of, is_class}
use Common.raw_item
use Rattle.std.proofs.lemmas.List.Elements.{filter_map-append}
use Rattle.std.specs.List.{flat_map}
use Rattle.closure.proofs.Positions.{get_push_front}
use Rattle.normalform.proofs.found.Apart.{Apart, DecidesBy, apart_push, apart_differ, none_apart}
use Rattle.normalform.proofs.found.Reduced.{known, flat_has}
use Rattle.normalform.proofs.found.Right.{has_flat}
use Rattle.normalform.proofs.numbered.Placing.{text_at}

pub decides_texts : DecidesBy bytes_eq
decides_texts = record { sound = λ a b. (bytes_eq-Decides a b).0; whole = λ a b. (bytes_eq-Decides a b).1 }

-- an element that passes the test, if `list_any` finds one
pub any_at : {X : Type 0} (test : X → Bool) (xs : List X) → list_any test xs ≡ true
    → (i : ℕ) × (x : X) × (slice_get xs i ≡ Some x) × (test x ≡ true)
any_at test [] h = absurd (cc)
any_at {X = X} test (x ∷ xs) h = go (test x) refl (any_at test xs)
  where
    go : (b : Bool) → test x ≡ b → (list_any test xs ≡ true → (i : ℕ) × (y : X) × (slice_get xs i ≡ Some y) × (test y ≡ true))
        → (i : ℕ) × (y : X) × (slice_get (x ∷ xs) i ≡ Some y) × (test y ≡ true)
    go true e rest = (zero, x, refl, e)
    go false e rest = let w = rest (rw e at h) in (suc w.0, w.1, w.2, w.3)

pub at_any : {X : Type 0} (test : X → Bool) (xs : List X) (i : ℕ) (x : X) → slice_get xs i ≡ Some x → test x ≡ true
    → list_any test xs ≡ true
at_any test xs i x e h = list_any_at test xs i x (slice_get_within _ _ _ e) (rw (get_or_from_slice_get xs i x x e, h))

pub any_has : (texts : List (List ℕ)) (text : List ℕ) → list_any (bytes_eq text) texts ≡ true → Has texts text
any_has texts text h = (number_in texts text, text_at texts text h)

pub has_any : (texts : List (List ℕ)) (text : List ℕ) → Has texts text → list_any (bytes_eq text) texts ≡ true
has_any texts text (i, e) = at_any (bytes_eq text) texts i text e ((bytes_eq-Decides text text).1 refl)

-- a text keeps its index when another one is listed
with_stays : (texts : List (List ℕ)) (text : List ℕ) (k : ℕ) (x : List ℕ) → slice_get texts k ≡ Some x
    → slice_get (with_text texts text) k ≡ Some x
with_stays texts text k x e = go (list_any (bytes_eq text) texts)
  where
    go : (b : Bool) → slice_get (cond b texts (texts ++ text ∷ [])) k ≡ Some x
    go true = e
    go false = get_push_front texts text x k e

pub stays : (ts texts : List (List ℕ)) (k : ℕ) (x : List ℕ) → slice_get texts k ≡ Some x
    → slice_get (fold with_text texts ts) k ≡ Some x
stays [] texts k x e = e
stays (t ∷ ts) texts k x e = stays ts (with_text texts t) k x (with_stays texts t k x e)

-- the index of a text after it is listed: at most just after the texts so far
pub placed : (texts : List (List ℕ)) (text : List ℕ) → (k : ℕ) × (k ≤ length texts)
    × (slice_get (with_text texts text) k ≡ Some text)
placed texts text = go (list_any (bytes_eq text) texts) refl
  where
    go : (b : Bool) → list_any (bytes_eq text) texts ≡ b
        → (k : ℕ) × (k ≤ length texts) × (slice_get (cond b texts (texts ++ text ∷ [])) k ≡ Some text)
    go true e = let lt = known texts text e in (number_in texts text, omega arith, text_at texts text e)
    go false e = (length texts, omega arith, get_push_end texts text)

has_with : (texts : List (List ℕ)) (text x : List ℕ) → Has (with_text texts text) x → Has texts x ⊎ (text ≡ x)
has_with texts text x h = go (list_any (bytes_eq text) texts) h
  where
    go : (b : Bool) → Has (cond b texts (texts ++ text ∷ [])) x → Has texts x ⊎ (text ≡ x)
    go true h = inl h
    go false (i, e) = elim (get_push_cases texts text x i e) [
      | inl old ↦ inl (i, old)
      | inr new ↦ inr new.1
    ]

apart_with : (texts : List (List ℕ)) (text : List ℕ) → Apart texts → Apart (with_text texts text)
apart_with texts text apart = go (list_any (bytes_eq text) texts) refl
  where
    go : (b : Bool) → list_any (bytes_eq text) texts ≡ b → Apart (cond b texts (texts ++ text ∷ []))
    go true e = apart
    go false e = apart_push bytes_eq decides_texts texts text apart e

-- listing texts one by one
texts_add : (ts texts : List (List ℕ)) (i : ℕ) (x : List ℕ) → slice_get ts i ≡ Some x → Has (fold with_text texts ts) x
texts_add [] texts i x e = absurd (cc)
texts_add (t ∷ ts) texts zero x e = let w = placed texts t in (w.0, stays ts (with_text texts t) w.0 x (cc))
texts_add (t ∷ ts) texts (suc i) x e = texts_add ts (with_text texts t) i x e

texts_from : (ts texts : List (List ℕ)) (x : List ℕ) → Has (fold with_text texts ts) x → Has texts x ⊎ Has ts x
texts_from [] texts x h = inl h
texts_from (t ∷ ts) texts x h = elim (texts_from ts (with_text texts t) x h) [
  | inl old ↦ elim (has_with texts t x old) [
    | inl before ↦ inl before
    | inr here ↦ inr (zero, cc)
  ]
  | inr w ↦ inr (suc w.0, w.1)
]

texts_apart : (ts texts : List (List ℕ)) → Apart texts → Apart (fold with_text texts ts)
texts_apart [] texts apart = apart
texts_apart (t ∷ ts) texts apart = texts_apart ts (with_text texts t) (apart_with texts t apart)

-- the text of an item that is a literal
abbrev pub literal_text : RawItem → Option (List ℕ)
literal_text (raw_item.Literal text) = Some text
literal_text (raw_item.Name name) = None
literal_text (raw_item.Class c) = None

-- the texts of the literals among items, and of productions
abbrev pub texts_among : List RawItem → List (List ℕ)
texts_among xs = filter_map literal_text xs

abbrev pub texts_in : List RawProduction → List (List ℕ)
texts_in qs = texts_among (flat_map (λ q. q.items) qs)

-- listing the literals of items, or of productions, is listing these texts
among_listed : (xs : List RawItem) (texts : List (List ℕ)) → fold with_item texts xs ≡ fold with_text texts (texts_among xs)
among_listed [] texts = refl
among_listed (raw_item.Literal text ∷ xs) texts = among_listed xs (with_text texts text)
among_listed (raw_item.Name name ∷ xs) texts = among_listed xs texts
among_listed (raw_item.Class c ∷ xs) texts = among_listed xs texts

pub listed : (qs : List RawProduction) (texts : List (List ℕ))
    → fold with_production texts qs ≡ fold with_text texts (texts_in qs)
listed [] texts = refl
listed (q ∷ qs) texts =
    let rest = flat_map (λ (r : RawProduction). r.items) qs in
    cc (
      listed qs (with_production texts q),
      among_listed q.items texts,
      fold-append with_text texts (texts_among q.items) (texts_in qs),
      filter_map-append literal_text q.items rest,
    )

literal_among : (xs : List RawItem) (i : ℕ) (x : List ℕ) → slice_get xs i ≡ Some (raw_item.Literal x) → Has (texts_among xs) x
literal_among [] i x e = absurd (cc)
literal_among (raw_item.Literal text ∷ xs) zero x e = (zero, cc)
literal_among (raw_item.Literal text ∷ xs) (suc i) x e = let w = literal_among xs i x e in (suc w.0, w.1)
literal_among (raw_item.Name name ∷ xs) zero x e = absurd (cc)
literal_among (raw_item.Name name ∷ xs) (suc i) x e = literal_among xs i x e
literal_among (raw_item.Class c ∷ xs) zero x e = absurd (cc)
literal_among (raw_item.Class c ∷ xs) (suc i) x e = literal_among xs i x e

among_literal : (xs : List RawItem) (i : ℕ) (x : List ℕ) → slice_get (texts_among xs) i ≡ Some x → Has xs (raw_item.Literal x)
among_literal [] i x e = absurd (cc)
among_literal (raw_item.Literal text ∷ xs) zero x e = (zero, cc)
among_literal (raw_item.Literal text ∷ xs) (suc i) x e = let w = among_literal xs i x e in (suc w.0, w.1)
among_literal (raw_item.Name name ∷ xs) i x e = let w = among_literal xs i x e in (suc w.0, w.1)
among_literal (raw_item.Class c ∷ xs) i x e = let w = among_literal xs i x e in (suc w.0, w.1)

-- a literal occurs in a production
abbrev pub OccursIn : List RawProduction → List ℕ → Type 0
OccursIn qs text = (p : ℕ) × (q : RawProduction) × (slice_get qs p ≡ Some q) × Has q.items (raw_item.Literal text)

pub literals_apart : (qs : List RawProduction) → Apart (literals_of qs)
literals_apart qs = subst Apart (sym (listed qs [])) (texts_apart (texts_in qs) [] none_apart)

pub literal_occurs : (qs : List RawProduction) (x : List ℕ) → Has (literals_of qs) x → OccursIn qs x
literal_occurs qs x (i, e) = elim (texts_from (texts_in qs) [] x (i, cc (listed qs []))) [
  | inl none ↦ absurd (cc (none.1))
  | inr (j, f) ↦ let w = among_literal (flat_map (λ q. q.items) qs) j x f in
      flat_has (λ (q : RawProduction). q.items) qs w.0 (raw_item.Literal x) w.1
]

pub literal_listed : (qs : List RawProduction) (p : ℕ) (q : RawProduction) (i : ℕ) (x : List ℕ) → slice_get qs p ≡ Some q
    → slice_get q.items i ≡ Some (raw_item.Literal x) → list_any (bytes_eq x) (literals_of qs) ≡ true
literal_listed qs p q i x e f =
    let w = has_flat (λ (q : RawProduction). q.items) qs p q (raw_item.Literal x) e (i, f) in
    let v = literal_among (flat_map (λ q. q.items) qs) w.0 x w.1 in
    let u = texts_add (texts_in qs) [] v.0 x v.1 in
    has_any (literals_of qs) x (u.0, cc (listed qs []))

-- in a list without repetition, equal elements have the same index
pub apart_same : {X : Type 0} (xs : List X) → Apart xs → (i j : ℕ) (x y : X) → slice_get xs i ≡ Some x → slice_get xs j ≡ Some y
    → x ≡ y → i ≡ j
apart_same xs apart = apart_differ (λ x. x) xs (rw (map-id xs) apart)

-- the number of a text is its index
pub number_at : (texts : List (List ℕ)) → Apart texts → (i : ℕ) (x : List ℕ) → slice_get texts i ≡ Some x → number_in texts x ≡ i
number_at texts apart i x e = apart_same texts apart (number_in texts x) i x x (text_at texts x (has_any texts x (i, e))) e refl

-- the elements that a filter keeps
pub filter_has : {X : Type 0} (test : X → Bool) (xs : List X) (x : X) → Has xs x → test x ≡ true → Has (filter test xs) x
filter_has test [] x (i, e) h = absurd (cc)
filter_has test (y ∷ ys) x (zero, e) h = let z : y ≡ x = cc in rw (z, h) (zero, refl)
filter_has test (y ∷ ys) x (suc i, e) h = go (test y) (filter_has test ys x (i, e) h)
  where
    go : (b : Bool) → Has (filter test ys) x → Has (cond b (y ∷ filter test ys) (filter test ys)) x
    go true k = (suc k.0, k.1)
    go false k = k

pub has_filter : {X : Type 0} (test : X → Bool) (xs : List X) (x : X) → Has (filter test xs) x → Has xs x × (test x ≡ true)
has_filter test [] x h = absurd (cc (h.1))
has_filter {X = X} test (y ∷ ys) x h = go (test y) refl h (has_filter test ys x)
  where
    go : (b : Bool) → test y ≡ b → Has (cond b (y ∷ filter test ys) (filter test ys)) x
        → (Has (filter test ys) x → Has ys x × (test x ≡ true)) → Has (y ∷ ys) x × (test x ≡ true)
    go true e (zero, f) rest = let z : y ≡ x = cc in ((zero, f), rw z at e)
    go true e (suc i, f) rest = let w = rest (i, f) in ((suc w.0.0, w.0.1), w.1)
    go false e h rest = let w = rest h in ((suc w.0.0, w.0.1), w.1)

-- an item is a token of a class
class_is : (c : ℕ) (x : RawItem) → is_class c x ≡ true → x ≡ raw_item.Class c
class_is c (raw_item.Name name) h = absurd (cc)
class_is c (raw_item.Literal text) h = absurd (cc)
class_is c (raw_item.Class d) h = let e : d ≡ c = grind (arith, nat_tests) in cc

pub is_its_class : (c : ℕ) → is_class c (raw_item.Class c) ≡ true
is_its_class c = grind (arith, nat_tests)

pub class_occurs : (qs : List RawProduction) (c : ℕ) → list_any (λ q. list_any (is_class c) q.items) qs ≡ true
    → (p : ℕ) × (q : RawProduction) × (slice_get qs p ≡ Some q) × Has q.items (raw_item.Class c)
class_occurs qs c h =
    let (p, q, at, passes) = any_at (λ (q : RawProduction). list_any (is_class c) q.items) qs h in
    let (i, x, found, is) = any_at (is_class c) q.items passes in (p, q, at, (i, cc (class_is c x is)))

pub occurs_class : (qs : List RawProduction) (p : ℕ) (q : RawProduction) (i c : ℕ) → slice_get qs p ≡ Some q
    → slice_get q.items i ≡ Some (raw_item.Class c) → list_any (λ r. list_any (is_class c) r.items) qs ≡ true
occurs_class qs p q i c e f =
    at_any (λ (r : RawProduction). list_any (is_class c) r.items) qs p q e
    (at_any (is_class c) q.items i (raw_item.Class c) f (is_its_class c))
