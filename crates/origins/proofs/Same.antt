-- The body of a node's record determines its number and its values.
use Rattle.origins.proofs.Common
use Common.{◌≡◌, ℕ, ◌^◌, ◌<◌, List, [], ◌∷◌, ◌++◌, All, refl, ap, sym, ◌∙◌, flat_map, none-some, Value, spelling_of, IsWell}
use Common.{body_from, body_of}
use Rattle.std.specs.Int.{w16, to_be_bytes}
use Rattle.std.proofs.Common.{append_assoc}
use Rattle.std.proofs.lemmas.List.{drop_at, take_at}
use Rattle.std.proofs.lemmas.List.Elements.{All-head, All-tail}
use Rattle.std.proofs.lemmas.Nat.{from_be_bytes-to_be_bytes_2}
use Rattle.ag_value.specs.Reading.{value_at as read_at}
use Rattle.ag_value.proofs.Codec.{well_is_read}
use Rattle.treefile.specs.declared.body.Kind.TheVariants.{Node, Token}
use Rattle.treefile.proofs.records.Spelled.{spelled_apart}

-- equal lists of bytes that begin with a number of two bytes have the same number, and the same bytes after it
numbered_apart : (p r : ℕ) (xs ys : List ℕ) → p < 2 ^ 16 → r < 2 ^ 16 → to_be_bytes w16 p ++ xs ≡ to_be_bytes w16 r ++ ys
    → (p ≡ r) × (xs ≡ ys)
numbered_apart p r xs ys a b e = (
  cc (
    from_be_bytes-to_be_bytes_2 p a,
    take_at (to_be_bytes w16 p) xs 2 refl,
    take_at (to_be_bytes w16 r) ys 2 refl,
    from_be_bytes-to_be_bytes_2 r b,
  ),
  cc (drop_at (to_be_bytes w16 p) xs 2 refl, drop_at (to_be_bytes w16 r) ys 2 refl),
)

-- the spelling of a well value is not empty; after this lemma: lists of well values with the same spellings are equal
not_empty : (v : Value) (bytes : List ℕ) → IsWell v → spelling_of v ++ bytes ≡ [] → ⊥
unfolding read_at
not_empty v bytes well e = none-some (v, bytes) (sym (ap (read_at 64) e) ∙ well_is_read v bytes well)

spelled_once : (vs ws : List Value) → All IsWell vs → All IsWell ws → flat_map spelling_of vs ≡ flat_map spelling_of ws → vs ≡ ws
spelled_once [] [] a b e = refl
spelled_once [] (w ∷ ws) a b e = absurd (not_empty w (flat_map spelling_of ws) (All-head IsWell w ws b) (sym e))
spelled_once (v ∷ vs) [] a b e = absurd (not_empty v (flat_map spelling_of vs) (All-head IsWell v vs a) e)
spelled_once (v ∷ vs) (w ∷ ws) a b e =
    let apart = spelled_apart v w _ _ (All-head IsWell v vs a) (All-head IsWell w ws b) e in
    cc (spelled_once vs ws (All-tail IsWell v vs a) (All-tail IsWell w ws b) apart.1)

-- if well values begin with the spellings of others, they are the others and some more
pub rest_of : (xs vs : List Value) (rest : List ℕ) → All IsWell xs → All IsWell vs
    → flat_map spelling_of xs ++ rest ≡ flat_map spelling_of vs
    → (ws : List Value) × (vs ≡ xs ++ ws) × All IsWell ws × (rest ≡ flat_map spelling_of ws)
rest_of [] vs rest a b e = (vs, refl, b, e)
rest_of (x ∷ xs) [] rest a b e = absurd (not_empty x (flat_map spelling_of xs ++ rest) (All-head IsWell x xs a)
    (cc (append_assoc (spelling_of x) (flat_map spelling_of xs) rest)))
rest_of (x ∷ xs) (v ∷ vs) rest a b e =
    let apart = spelled_apart x v (flat_map spelling_of xs ++ rest) (flat_map spelling_of vs) (All-head IsWell x xs a)
    (All-head IsWell v vs b) (cc (append_assoc (spelling_of x) (flat_map spelling_of xs) rest)) in
    let further = rest_of xs vs rest (All-tail IsWell x xs a) (All-tail IsWell v vs b) apart.1 in
    (further.0, cc (apart.0, further.1), further.2, further.3)

pub one_body : (p r : ℕ) (vs ws : List Value) → p < 2 ^ 16 → r < 2 ^ 16 → All IsWell vs → All IsWell ws
    → body_of Node p vs ≡ body_of Node r ws → (p ≡ r) × (vs ≡ ws)
one_body p r vs ws a b well_v well_w e =
    let apart = numbered_apart p r (flat_map spelling_of vs) (flat_map spelling_of ws) a b (cc) in
    (apart.0, spelled_once vs ws well_v well_w apart.1)

pub node_is_no_token : (p c : ℕ) (xs ys : List ℕ) → body_from Node p xs ≡ body_from Token c ys → ⊥
node_is_no_token p c xs ys e = cc
