-- The bytes of a record determine its production and its values.
use Rattle.treefile.proofs.Common
use Common.{◌≡◌, ℕ, zero, suc, ◌^◌, ◌<◌, ◌≤◌, Bool, true, false, List, [], ◌∷◌, ◌++◌, length, inl, inr, ap, All, Option, Some}
use Common.{slice_get, refl, append_assoc, arith, w16, to_be_bytes, flat_map, leb_tells, flat_map-append, drop_at, take_at}
use Common.{All-head, All-tail, slice_get_within, Value, Text, spelling_of, IsWell, well_is_read, Item, Grammar, stored_items}
use Common.{Passes, SameAt, WellAt, left_passes, AreCopies, node_body, token_body, values_up_to, with_copies, Version}
use Rattle.std.proofs.lemmas.Nat.{from_be_bytes-to_be_bytes_2}
use Rattle.treefile.specs.Laws.{OneNode}

-- the spelling of a well value followed by bytes determines the value and these bytes
pub spelled_apart : (v w : Value) (xs ys : List ℕ) → IsWell v → IsWell w → spelling_of v ++ xs ≡ spelling_of w ++ ys
    → (v ≡ w) × (xs ≡ ys)
spelled_apart v w xs ys a b e =
    let p : ◌≡◌ {A = Option (Value × List ℕ)} (Some (v, xs)) (Some (w, ys)) = cc (well_is_read v xs a, well_is_read w ys b) in
    let q : ◌≡◌ {A = Value × List ℕ} (v, xs) (w, ys) = cc in
    (ap (λ (z : Value × List ℕ). z.0) q, ap (λ (z : Value × List ℕ). z.1) q)

-- values are the same up to pass k if those of the first attribute are (or its pass is later) and those of the others are
same_first : (k p : ℕ) (ps : List ℕ) (e f : ℕ → Value) → (p ≤ k → e 0 ≡ f 0)
    → SameAt (λ n. n ≤ k) ps (λ a. e (suc a)) (λ a. f (suc a)) → SameAt (λ n. n ≤ k) (p ∷ ps) e f
same_first k p ps e f h r zero q is le = let same : p ≡ q = cc in h (omega arith)
same_first k p ps e f h r (suc a) q is le = r a q is le

-- the spellings of a record's values followed by bytes determine the values and these bytes
spelled_values : (k : ℕ) (ps : List ℕ) (e f : ℕ → Value) (xs ys : List ℕ) → WellAt (λ n. n ≤ k) ps e e
    → WellAt (λ n. n ≤ k) ps f f → flat_map spelling_of (values_up_to k ps e) ++ xs ≡ flat_map spelling_of (values_up_to k ps f)
    ++ ys → SameAt (λ n. n ≤ k) ps e f × (xs ≡ ys)
spelled_values k [] e f xs ys a b same = ((λ i p is le. cc), same)
spelled_values k (p ∷ ps) e f xs ys a b same =
    let later = spelled_values k ps (λ i. e (suc i)) (λ i. f (suc i)) xs ys (λ i. a (suc i)) (λ i. b (suc i)) in
    elim (leb_tells p k) [
      | inl within ↦
          let apart =
          spelled_apart (e 0) (f 0) (flat_map spelling_of (values_up_to k ps (λ i. e (suc i))) ++ xs)
          (flat_map spelling_of (values_up_to k ps (λ i. f (suc i))) ++ ys) (a 0 p refl within.1) (b 0 p refl within.1)
          (simp append_assoc at (rw within.0 at same)) in
          let rest = later apart.1 in
          (same_first k p ps e f (λ le. apart.0) rest.0, rest.1)
      | inr past ↦
          let rest = later (rw past.0 at same) in
          (same_first k p ps e f (λ le. absurd (omega arith)) rest.0, rest.1)
    ]

-- a number in two bytes followed by bytes determines the number and these bytes
numbered_apart : (p r : ℕ) (xs ys : List ℕ) → p < 2 ^ 16 → r < 2 ^ 16 → to_be_bytes w16 p ++ xs ≡ to_be_bytes w16 r ++ ys
    → (p ≡ r) × (xs ≡ ys)
numbered_apart p r xs ys a b e = (
  cc (
    from_be_bytes-to_be_bytes_2 p a,
    take_at (to_be_bytes w16 p) xs 2 refl,
    take_at (to_be_bytes w16 r) ys 2 refl,
    from_be_bytes-to_be_bytes_2 r b,
  ),
  cc (drop_at (to_be_bytes w16 p) xs 2 refl, drop_at (to_be_bytes w16 r) ys 2 refl),
)

-- lists of well values with equal spellings are equal
same_lists : (vs ws : List Value) → All IsWell vs → All IsWell ws → length vs ≡ length ws
    → flat_map spelling_of vs ≡ flat_map spelling_of ws → vs ≡ ws
same_lists [] [] a b n e = refl
same_lists (v ∷ vs) (w ∷ ws) a b n e =
    let apart =
    spelled_apart v w (flat_map spelling_of vs) (flat_map spelling_of ws) (All-head IsWell v vs a)
    (All-head IsWell w ws b) e in
    cc (same_lists vs ws (All-tail IsWell v vs a) (All-tail IsWell w ws b) (omega arith) apart.1)
same_lists vs ws a b n e = absurd (omega arith)

-- the spellings of a record's values and copies determine the values, and the spellings of the copies if the version has copies
stored_apart : (has : Bool) (k : ℕ) (ps : List ℕ) (e f : ℕ → Value) (cs ds : List Value) → WellAt (λ n. n ≤ k) ps e e
    → WellAt (λ n. n ≤ k) ps f f → flat_map spelling_of (with_copies has (values_up_to k ps e) cs) ≡ flat_map spelling_of
    (with_copies has (values_up_to k ps f) ds)
    → SameAt (λ n. n ≤ k) ps e f × (has ≡ true → flat_map spelling_of cs ≡ flat_map spelling_of ds)
stored_apart false k ps e f cs ds a b same = ((spelled_values k ps e f [] [] a b (cc)).0, λ bad. cc)
stored_apart true k ps e f cs ds a b same =
    let apart =
    spelled_values k ps e f (flat_map spelling_of cs) (flat_map spelling_of ds) a b
    (cc (flat_map-append spelling_of (values_up_to k ps e) cs, flat_map-append spelling_of (values_up_to k ps f) ds)) in
    (apart.0, λ yes. apart.1)

-- the spellings of a node's values and of its copies
abbrev spelled : Version → Grammar → Passes → ℕ → ℕ → (ℕ → Value) → List Value → List ℕ
spelled version g m k p e cs =
    flat_map spelling_of (with_copies version.has_copies (values_up_to k (left_passes m (slice_get g.productions p)) e) cs)

-- the body of a node determines the production's number, the values, and the spellings of the copies if the version has copies
pub one_node : (version : Version) (g : Grammar) (m : Passes) (k p r : ℕ) (e f : ℕ → Value) (cs ds : List Value) → p < 2 ^ 16
    → r < 2 ^ 16 → WellAt (λ n. n ≤ k) (left_passes m (slice_get g.productions p)) e e
    → WellAt (λ n. n ≤ k) (left_passes m (slice_get g.productions r)) f f
    → node_body version g m k p e cs ≡ node_body version g m k r f ds
    → (p ≡ r) × SameAt (λ n. n ≤ k) (left_passes m (slice_get g.productions p)) e f
    × (version.has_copies ≡ true → flat_map spelling_of cs ≡ flat_map spelling_of ds)
one_node version g m k p r e f cs ds a b well_e well_f same =
    let apart = numbered_apart p r (spelled version g m k p e cs) (spelled version g m k r f ds) a b (cc) in
    let ps = left_passes m (slice_get g.productions p) in
    let stored = stored_apart version.has_copies k ps e f cs ds well_e (rw apart.0 well_f) (cc) in
    (apart.0, stored.0, stored.1)

-- copies with equal spellings are equal
same_copies : (has : Bool) (g : Grammar) (m : Passes) (k : ℕ) (xs : List Item) (cs ds : List Value) → AreCopies has g m k xs cs
    → AreCopies has g m k xs ds → (has ≡ true → flat_map spelling_of cs ≡ flat_map spelling_of ds) → cs ≡ ds
same_copies false g m k xs cs ds a b same = cc
same_copies true g m k xs cs ds a b same = same_lists cs ds a.1 b.1 (cc) (same refl)

pub same_node : OneNode
same_node version g m k s z p r body q w e f few a b =
    let i = slice_get_within g.productions p q a.production in
    let j = slice_get_within g.productions r w b.production in
    let one =
    one_node version g m k p r e f a.copies b.copies (omega arith) (omega arith) (rw (a.production, a.left) a.well)
    (rw (b.production, b.left) b.well) (cc) in
    let production : w ≡ q = cc in (
      one.0,
      rw (a.production, a.left) at one.1,
      same_copies version.has_copies g m k (stored_items q.items) a.copies b.copies a.are_copies
          (rw production at b.are_copies) one.2,
    )

-- the body of a token of a class determines its text
pub one_token : (c : ℕ) (x y : List ℕ) → IsWell (Text x) → IsWell (Text y) → token_body c x ≡ token_body c y → Text x ≡ Text y
one_token c x y a b same = (spelled_apart (Text x) (Text y) [] [] a b (cc)).0
