-- A numbered grammar is in order: its classes ascend, and its literals are in the order of their first appearance.
use Rattle.normalform.proofs.Common
use Common.{ℕ, zero, suc, ◌≡◌, ◌<◌, ◌⊎◌, inl, inr, Bool, true, false, cond, List, [], ◌∷◌, ◌++◌, length, length-append, map, fold}
use Common.{take, Some, slice_get, bytes_eq, refl, ap, sym, ◌∙◌, arith, cases_lt, map-append, list_any, filter_map, Production}
use Common.{Symbol, RawGrammar, RawItem, RawProduction, at_mapped, mapped_at, get_push_end, number_in, with_text, item_of}
use Common.{declared_names, is_class, classes_of, literals_of, numbered}
use Common.raw_item
use Rattle.std.proofs.lemmas.List.Kept.{IsStrictlyIncreasing-filter}
use Rattle.std.specs.List.{flat_map}
use Rattle.std.specs.List.Sorted.{IsStrictlyIncreasing}
use Rattle.ag_grammar.specs.grammars.Order.{IsInOrder, IsInOrderOfAppearance, literal_number, literal_numbers}
use Rattle.normalform.proofs.found.Apart.{Apart}
use Rattle.normalform.proofs.found.Reduced.{symbols, produces}
use Rattle.normalform.proofs.numbered.Listed.{literals_apart, number_at, texts_among, texts_in, listed, stays, placed}

-- the literal numbers on the right sides are the numbers of these texts
numbers_among : (names texts : List (List ℕ)) (xs : List RawItem)
    → filter_map literal_number (map (item_of names texts) xs) ≡ map (number_in texts) (texts_among xs)
numbers_among names texts [] = refl
numbers_among names texts (raw_item.Literal text ∷ xs) = cc (numbers_among names texts xs)
numbers_among names texts (raw_item.Name name ∷ xs) = numbers_among names texts xs
numbers_among names texts (raw_item.Class c ∷ xs) = numbers_among names texts xs

items_produced : (raw : RawGrammar) (qs : List RawProduction)
    → flat_map (λ (q : Production). q.items) (map (produces raw) qs)
    ≡ map (item_of (declared_names (symbols raw)) (literals_of raw.productions)) (flat_map (λ (q : RawProduction). q.items) qs)
items_produced raw [] = refl
items_produced raw (q ∷ qs) =
    let made = item_of (declared_names (symbols raw)) (literals_of raw.productions) in
    cc (items_produced raw qs, map-append made q.items (flat_map (λ (r : RawProduction). r.items) qs))

numbers_of : (raw : RawGrammar)
    → literal_numbers (numbered raw) ≡ map (number_in (literals_of raw.productions)) (texts_in raw.productions)
numbers_of raw =
    ap (λ xs. filter_map literal_number xs) (items_produced raw raw.productions)
    ∙ numbers_among (declared_names (symbols raw)) (literals_of raw.productions)
    (flat_map (λ (q : RawProduction). q.items) raw.productions)

-- an index of the longer list is one of the shorter, or that of the text
old_or_new : (texts : List (List ℕ)) (text : List ℕ) (m : ℕ) → m < length (with_text texts text)
    → (m < length texts) ⊎ (slice_get (with_text texts text) m ≡ Some text)
old_or_new texts text m lt = go (list_any (bytes_eq text) texts) lt
  where
    go : (b : Bool) → m < length (cond b texts (texts ++ text ∷ []))
        → (m < length texts) ⊎ (slice_get (cond b texts (texts ++ text ∷ [])) m ≡ Some text)
    go true h = inl h
    go false h = elim (cases_lt m (length texts)) [
      | inl less ↦ inl less
      | inr le ↦ inr (let last : m ≡ length texts = omega (arith, length-append texts (text ∷ [])) in
          cc (get_push_end texts text))
    ]

-- one of the first i texts has the number m
abbrev IsBefore : List (List ℕ) → List (List ℕ) → ℕ → ℕ → Type 0
IsBefore all ts i m = (j : ℕ) × (u : List ℕ) × (j < i) × (slice_get ts j ≡ Some u) × (number_in all u ≡ m)

-- each number below that of a text is that of a text that was listed already, or appears earlier
ordered : (all ts texts : List (List ℕ)) → fold with_text texts ts ≡ all → Apart all
    → (i : ℕ) (t : List ℕ) (m : ℕ) → slice_get ts i ≡ Some t → m < number_in all t
    → (m < length texts) ⊎ IsBefore all ts i m
ordered all [] texts e apart i t m at lt = absurd (cc)
ordered all (x ∷ ts) texts e apart zero t m at lt =
    let same : x ≡ t = cc in
    let (k, le, there) = placed texts x in
    let n : number_in all x ≡ k = number_at all apart k x (rw e at (stays ts (with_text texts x) k x there)) in
    let below : m < number_in all x = rw same lt in
    inl (omega arith)
ordered all (x ∷ ts) texts e apart (suc i) t m at lt = elim (ordered all ts (with_text texts x) e apart i t m at lt) [
  | inl old ↦ elim (old_or_new texts x m old) [
    | inl less ↦ inl less
    | inr here ↦ inr (0, x, omega arith, refl, number_at all apart m x (rw e at (stays ts (with_text texts x) m x here)))
  ]
  | inr w ↦ let lt = w.2 in inr (suc w.0, w.1, omega arith, w.3, w.4)
]

taken : {X : Type 0} (xs : List X) (i j : ℕ) (x : X) → j < i → slice_get xs j ≡ Some x → slice_get (take i xs) j ≡ Some x
taken xs zero j x lt e = absurd (omega arith)
taken [] (suc i) j x lt e = absurd (cc)
taken (z ∷ zs) (suc i) zero x lt e = e
taken (z ∷ zs) (suc i) (suc j) x lt e = taken zs i j x (omega arith) e

literals_in_order : (raw : RawGrammar)
    → IsInOrderOfAppearance (map (number_in (literals_of raw.productions)) (texts_in raw.productions))
literals_in_order raw i n m e lt =
    let all = literals_of raw.productions in
    let ts = texts_in raw.productions in
    let v = mapped_at (number_in all) ts i n e in
    elim (ordered all ts [] (sym (listed raw.productions [])) (literals_apart raw.productions) i v.0 m v.1 (rw v.2 lt)) [
      | inl none ↦ absurd (omega arith)
      | inr (j, u, before, there, number) ↦
          (j, taken (map (number_in all) ts) i j m before (cc (at_mapped (number_in all) ts j u there)))
    ]

ascending : IsStrictlyIncreasing (0 ∷ 1 ∷ 2 ∷ [])
ascending zero lt = omega arith
ascending (suc zero) lt = omega arith
ascending (suc (suc k)) lt = absurd (omega arith)

pub in_order : (raw : RawGrammar) → IsInOrder (numbered raw)
in_order raw = record {
  classes = IsStrictlyIncreasing-filter (λ c. list_any (λ q. list_any (is_class c) q.items) raw.productions)
      (0 ∷ 1 ∷ 2 ∷ []) ascending;
  literals = rw (numbers_of raw) (literals_in_order raw);
}

-- the grammar that is made of the numbered parts is in order
pub made_in_order : (raw : RawGrammar) (ss : List Symbol) (ps : List Production) (ls : List (List ℕ)) (cs : List ℕ) (st : ℕ)
    → ss ≡ symbols raw → ps ≡ map (produces raw) raw.productions → ls ≡ literals_of raw.productions
    → cs ≡ classes_of raw.productions → st ≡ number_in (declared_names (symbols raw)) raw.start.name
    → IsInOrder (record { symbols = ss; productions = ps; literals = ls; classes = cs; start = st })
made_in_order raw ss ps ls cs st e f g h k = rw (e, f, g, h, k) (in_order raw)
