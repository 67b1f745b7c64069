-- Own bytes with shared ones between them: what is appended, and where they may be cut.
use Rattle.std.proofs.Common.{◌≡◌, ◌≤◌, ◌<◌, ◌+◌, ◌-◌, ℕ, zero, suc, List, ◌++◌, ◌∷◌, [], length, take, drop, get_or, refl, sym}
use Rattle.std.proofs.Common.{ap, ◌∙◌, arith, length-append, append_assoc, subst, map}
use Rattle.std.proofs.lemmas.List.{take-append-le, drop-append-le, take_all, drop_all, append-nil, length-drop, length-take-le}
use Rattle.std.proofs.lemmas.List.{take-append-drop, take-take, drop-drop, drop-take, take_at, drop_at}
use Rattle.shared_bytes.specs.Spliced.{AreSplices, CutAt, shift, spliced}
use Rattle.shared_bytes.specs.declared.splice.Splice.{Splice}

-- how far the bytes reach
pub spliced_length : (base at end total : ℕ) (own : List ℕ) (gs : List Splice) → AreSplices base at end total gs
    → base + length own ≡ end
    → at + length (spliced base own gs) ≡ total
spliced_length base at end total own [] h e = omega arith
spliced_length base at end total own (g ∷ gs) h e =
    let rest : length (drop (g.own - base) own) ≡ length own - (g.own - base) = length-drop (g.own - base) own in
    let more : (g.at + length g.bytes) + length (spliced g.own (drop (g.own - base) own) gs) ≡ total =
    spliced_length g.own (g.at + length g.bytes) end total (drop (g.own - base) own) gs h.3 (omega (arith, h.0, h.1)) in
    let prefix : length (take (g.own - base) own) ≡ g.own - base = length-take-le (g.own - base) own (omega (arith, h.0, h.1)) in
    simp (length-append) (omega (arith, h.0, h.1, h.2))

-- own bytes at the end
pub bytes_appended : (base at end total : ℕ) (own more : List ℕ) (gs : List Splice) → AreSplices base at end total gs
    → base + length own ≡ end
    → spliced base (own ++ more) gs ≡ spliced base own gs ++ more
bytes_appended base at end total own more [] h e = refl
bytes_appended base at end total own more (g ∷ gs) h e =
    let n : g.own - base ≤ length own = omega (arith, h.0, h.1) in
    let a : take (g.own - base) (own ++ more) ≡ take (g.own - base) own = take-append-le (g.own - base) own more n in
    let b : drop (g.own - base) (own ++ more) ≡ drop (g.own - base) own ++ more = drop-append-le (g.own - base) own more n in
    let rest : length (drop (g.own - base) own) ≡ length own - (g.own - base) = length-drop (g.own - base) own in
    let r : spliced g.own (drop (g.own - base) own ++ more) gs ≡ spliced g.own (drop (g.own - base) own) gs ++ more =
    bytes_appended g.own (g.at + length g.bytes) end total (drop (g.own - base) own) more gs h.3 (omega (arith, h.0, h.1)) in
    rw (a, b, r) (simp append_assoc)

pub splices_kept : (base at end total n : ℕ) (gs : List Splice) → AreSplices base at end total gs
    → AreSplices base at (end + n) (total + n) gs
splices_kept base at end total n [] h = (omega arith, omega arith)
splices_kept base at end total n (g ∷ gs) h =
    (h.0, omega (arith, h.1), h.2, splices_kept g.own (g.at + length g.bytes) end total n gs h.3)

-- a splice at the end
pub splice_appended : (base at end total : ℕ) (own : List ℕ) (gs : List Splice) (g : Splice) → AreSplices base at end total gs
    → base + length own ≡ end → g.own ≡ end
    → spliced base own (gs ++ g ∷ []) ≡ spliced base own gs ++ g.bytes
splice_appended base at end total own [] g h e f =
    let a : take (g.own - base) own ≡ own = take_all (g.own - base) own (omega arith) in
    let b : drop (g.own - base) own ≡ [] = drop_all (g.own - base) own (omega arith) in
    rw (a, b) (ap (λ (t : List ℕ). own ++ t) (append-nil g.bytes))
splice_appended base at end total own (x ∷ gs) g h e f =
    let rest : length (drop (x.own - base) own) ≡ length own - (x.own - base) = length-drop (x.own - base) own in
    let r : spliced x.own (drop (x.own - base) own) (gs ++ g ∷ []) ≡ spliced x.own (drop (x.own - base) own) gs ++ g.bytes =
    splice_appended x.own (x.at + length x.bytes) end total (drop (x.own - base) own) gs g h.3 (omega (arith, h.0, h.1)) f in
    rw r (simp append_assoc)

pub splices_more : (base at end total : ℕ) (gs : List Splice) (g : Splice) → AreSplices base at end total gs → g.own ≡ end
    → g.at ≡ total
    → AreSplices base at end (total + length g.bytes) (gs ++ g ∷ [])
splices_more base at end total [] g h e f = (omega arith, omega arith, omega arith, (omega arith, omega arith))
splices_more base at end total (x ∷ gs) g h e f =
    (h.0, h.1, h.2, splices_more x.own (x.at + length x.bytes) end total gs g h.3 e f)

-- a cut is not before the first own byte
pub cut_after : (base at end total : ℕ) (gs : List Splice) (k o pos : ℕ) → AreSplices base at end total gs
    → CutAt base at gs k o pos → base ≤ o
cut_after base at end total [] zero o pos h c = c.0
cut_after base at end total (g ∷ gs) zero o pos h c = c.0
cut_after base at end total [] (suc k) o pos h c = absurd c
cut_after base at end total (g ∷ gs) (suc k) o pos h c =
    let more : g.own ≤ o = cut_after g.own (g.at + length g.bytes) end total gs k o pos h.3 c in omega (arith, h.0)

-- the splices before a cut, and those after it
pub splices_before : (base at end total : ℕ) (gs : List Splice) (k o pos : ℕ) → AreSplices base at end total gs
    → CutAt base at gs k o pos → AreSplices base at o pos (take k gs)
splices_before base at end total [] zero o pos h c = c
splices_before base at end total (g ∷ gs) zero o pos h c = (c.0, c.1)
splices_before base at end total [] (suc k) o pos h c = absurd c
splices_before base at end total (g ∷ gs) (suc k) o pos h c = (
  h.0,
  cut_after g.own (g.at + length g.bytes) end total gs k o pos h.3 c,
  h.2,
  splices_before g.own (g.at + length g.bytes) end total gs k o pos h.3 c,
)

pub splices_after : (base at end total : ℕ) (gs : List Splice) (k o pos : ℕ) → AreSplices base at end total gs
    → CutAt base at gs k o pos → o ≤ end → AreSplices o pos end total (drop k gs)
splices_after base at end total [] zero o pos h c le = (le, omega (arith, h.0, h.1, c.0, c.1))
splices_after base at end total (g ∷ gs) zero o pos h c le = (c.2, h.1, omega (arith, h.0, h.2, c.0, c.1, c.2), h.3)
splices_after base at end total [] (suc k) o pos h c le = absurd c
splices_after base at end total (g ∷ gs) (suc k) o pos h c le =
    splices_after g.own (g.at + length g.bytes) end total gs k o pos h.3 c le

take_sum : (n m : ℕ) (xs : List ℕ) → take (n + m) xs ≡ take n xs ++ take m (drop n xs)
take_sum n m xs =
    sym (take-append-drop n (take (n + m) xs))
    ∙ (ap (λ (t : List ℕ). t ++ drop n (take (n + m) xs)) (take-take n (n + m) xs (omega arith))
    ∙ ap (λ (t : List ℕ). take n xs ++ t) (drop-take n m xs))

-- the bytes are those before the cut, and those after it
pub cut_splices : (base at end total : ℕ) (own : List ℕ) (gs : List Splice) (k o pos : ℕ) → AreSplices base at end total gs
    → base + length own ≡ end → CutAt base at gs k o pos → o ≤ end
    → spliced base own gs ≡ spliced base (take (o - base) own) (take k gs) ++ spliced o (drop (o - base) own) (drop k gs)
cut_splices base at end total own [] zero o pos h e c le = sym (take-append-drop (o - base) own)
cut_splices base at end total own [] (suc k) o pos h e c le = absurd c
cut_splices base at end total own (g ∷ gs) zero o pos h e c le =
    let n : g.own - base ≡ (o - base) + (g.own - o) = omega (arith, h.0, c.0, c.2) in
    let a : take (g.own - base) own ≡ take (o - base) own ++ take (g.own - o) (drop (o - base) own) =
    ap (λ i. take i own) n ∙ take_sum (o - base) (g.own - o) own in
    let b : drop (g.own - base) own ≡ drop (g.own - o) (drop (o - base) own) =
    ap (λ i. drop i own) n ∙ sym (drop-drop (g.own - o) (o - base) own) in
    rw (a, b) (simp append_assoc)
cut_splices base at end total own (g ∷ gs) (suc k) o pos h e c le =
    let following : g.own ≤ o = cut_after g.own (g.at + length g.bytes) end total gs k o pos h.3 c in
    let n : o - base ≡ (g.own - base) + (o - g.own) = omega (arith, h.0) in
    let a : take (g.own - base) (take (o - base) own) ≡ take (g.own - base) own =
    take-take (g.own - base) (o - base) own (omega arith) in
    let b : drop (g.own - base) (take (o - base) own) ≡ take (o - g.own) (drop (g.own - base) own) =
    ap (λ i. drop (g.own - base) (take i own)) n ∙ drop-take (g.own - base) (o - g.own) own in
    let d : drop (o - base) own ≡ drop (o - g.own) (drop (g.own - base) own) =
    ap (λ i. drop i own) n ∙ sym (drop-drop (o - g.own) (g.own - base) own) in
    let rest : length (drop (g.own - base) own) ≡ length own - (g.own - base) = length-drop (g.own - base) own in
    let r : spliced g.own (drop (g.own - base) own) gs ≡ spliced g.own (take (o - g.own) (drop (g.own - base) own)) (take k gs)
    ++ spliced o (drop (o - g.own) (drop (g.own - base) own)) (drop k gs) =
    cut_splices g.own (g.at + length g.bytes) end total (drop (g.own - base) own) gs k o pos h.3 (omega (arith, h.0, h.1)) c le in
    rw (a, b, d, r) (simp append_assoc)

-- where a cut is found: before all splices, or after one
pub cut_first : (base at : ℕ) (gs : List Splice) (o pos : ℕ) → base ≤ o → pos ≡ at + (o - base)
    → ((x : Splice) → 0 < length gs → x ≡ get_or gs 0 x → o ≤ x.own) → CutAt base at gs 0 o pos
cut_first base at [] o pos le e next = (le, e)
cut_first base at (g ∷ gs) o pos le e next = (le, e, next g (omega arith) refl)

pub cut_next : (base at : ℕ) (gs : List Splice) (j o pos : ℕ) (g : Splice) → j < length gs → g ≡ get_or gs j g → g.own ≤ o
    → pos ≡ (g.at + length g.bytes) + (o - g.own)
    → ((x : Splice) → suc j < length gs → x ≡ get_or gs (suc j) x → o ≤ x.own) → CutAt base at gs (suc j) o pos
cut_next base at [] j o pos g lt is le e next = absurd (omega arith)
cut_next base at (y ∷ gs) zero o pos g lt is le e next =
    cut_first y.own (y.at + length y.bytes) gs o pos (subst (λ (t : Splice). t.own ≤ o) is le)
    (subst (λ (t : Splice). pos ≡ (t.at + length t.bytes) + (o - t.own)) is e)
    (λ x more there. next x (omega arith) there)
cut_next base at (y ∷ gs) (suc j) o pos g lt is le e next =
    cut_next y.own (y.at + length y.bytes) gs j o pos g (omega arith) is le e (λ x more there. next x (omega arith) there)

pub cut_after_splice : (base at : ℕ) (gs : List Splice) (k o pos start : ℕ) (g : Splice) → 1 ≤ k → k ≤ length gs
    → g ≡ get_or gs (k - 1) g → start ≡ g.at + length g.bytes → g.own ≤ o
    → pos ≡ start + (o - g.own) → ((x : Splice) → k < length gs → x ≡ get_or gs k x → o ≤ x.own) → CutAt base at gs k o pos
cut_after_splice base at gs k o pos start g one few is begins le e next =
    let n : k ≡ suc (k - 1) = omega arith in
    subst (λ (i : ℕ). CutAt base at gs i o pos) (sym n)
    (cut_next base at gs (k - 1) o pos g (omega arith) is le (e ∙ ap (λ (t : ℕ). t + (o - g.own)) begins)
    (λ x more there. next x (omega arith) (there ∙ ap (λ (i : ℕ). get_or gs i x) (sym n))))

-- splices after other bytes
shifted_same : (b n m : ℕ) (own : List ℕ) (gs : List Splice) → spliced (n + b) own (map (shift n m) gs) ≡ spliced b own gs
shifted_same b n m own [] = refl
shifted_same b n m own (g ∷ gs) =
    let e : (n + g.own) - (n + b) ≡ g.own - b = omega arith in
    let r : spliced (n + g.own) (drop (g.own - b) own) (map (shift n m) gs) ≡ spliced g.own (drop (g.own - b) own) gs =
    shifted_same g.own n m (drop (g.own - b) own) gs in
    ap (λ i. take i own ++ (g.bytes ++ spliced (n + g.own) (drop i own) (map (shift n m) gs))) e
    ∙ ap (λ (t : List ℕ). take (g.own - b) own ++ (g.bytes ++ t)) r

shifted_splices : (base at end total n m : ℕ) (gs : List Splice) → AreSplices base at end total gs
    → AreSplices (n + base) (m + at) (n + end) (m + total) (map (shift n m) gs)
shifted_splices base at end total n m [] h = (omega (arith, h.0), omega (arith, h.1))
shifted_splices base at end total n m (g ∷ gs) h = (
  omega (arith, h.0),
  omega (arith, h.1),
  omega (arith, h.2),
  subst (λ (a : ℕ). AreSplices (n + g.own) a (n + end) (m + total) (map (shift n m) gs)) (omega arith)
      (shifted_splices g.own (g.at + length g.bytes) end total n m gs h.3),
)

take_past : (k : ℕ) (xs ys : List ℕ) → take (length xs + k) (xs ++ ys) ≡ xs ++ take k ys
take_past k xs ys =
    take_sum (length xs) k (xs ++ ys)
    ∙ (ap (λ (t : List ℕ). t ++ take k (drop (length xs) (xs ++ ys))) (take_at xs ys (length xs) refl)
    ∙ ap (λ (t : List ℕ). xs ++ take k t) (drop_at xs ys (length xs) refl))

drop_past : (k : ℕ) (xs ys : List ℕ) → drop (length xs + k) (xs ++ ys) ≡ drop k ys
drop_past k xs ys = sym (drop-drop k (length xs) (xs ++ ys)) ∙ ap (λ (t : List ℕ). drop k t) (drop_at xs ys (length xs) refl)

-- all bytes of one list, and then those of another
pub all_appended : (base at end total : ℕ) (own more : List ℕ) (gs hs : List Splice) → AreSplices base at end total gs
    → base + length own ≡ end
    → spliced base (own ++ more) (gs ++ map (shift end total) hs) ≡ spliced base own gs ++ spliced 0 more hs
all_appended base at end total own more [] [] h e = refl
all_appended base at end total own more [] (x ∷ hs) h e =
    let n : (end + x.own) - base ≡ length own + x.own = omega arith in
    let z : x.own - 0 ≡ x.own = omega arith in
    let a : take ((end + x.own) - base) (own ++ more) ≡ own ++ take x.own more =
    ap (λ i. take i (own ++ more)) n ∙ take_past x.own own more in
    let b : drop ((end + x.own) - base) (own ++ more) ≡ drop x.own more =
    ap (λ i. drop i (own ++ more)) n ∙ drop_past x.own own more in
    let r : spliced (end + x.own) (drop x.own more) (map (shift end total) hs) ≡ spliced x.own (drop x.own more) hs =
    shifted_same x.own end total (drop x.own more) hs in
    rw (a, b, r, z) (simp append_assoc)
all_appended base at end total own more (g ∷ gs) hs h e =
    let n : g.own - base ≤ length own = omega (arith, h.0, h.1) in
    let a : take (g.own - base) (own ++ more) ≡ take (g.own - base) own = take-append-le (g.own - base) own more n in
    let b : drop (g.own - base) (own ++ more) ≡ drop (g.own - base) own ++ more = drop-append-le (g.own - base) own more n in
    let rest : length (drop (g.own - base) own) ≡ length own - (g.own - base) = length-drop (g.own - base) own in
    let r : spliced g.own (drop (g.own - base) own ++ more) (gs ++ map (shift end total) hs) ≡ spliced g.own
    (drop (g.own - base) own) gs ++ spliced 0 more hs =
    all_appended g.own (g.at + length g.bytes) end total (drop (g.own - base) own) more gs hs h.3 (omega (arith, h.0, h.1)) in
    rw (a, b, r) (simp append_assoc)

pub splices_joined : (base at end total n sum : ℕ) (gs hs : List Splice) → AreSplices base at end total gs
    → AreSplices 0 0 n sum hs → AreSplices base at (end + n) (total + sum) (gs ++ map (shift end total) hs)
splices_joined base at end total n sum [] [] h k = (omega (arith, h.0, k.0), omega (arith, h.0, h.1, k.0, k.1))
splices_joined base at end total n sum [] (x ∷ hs) h k = (
  omega (arith, h.0),
  omega (arith, k.1),
  omega (arith, h.0, h.1, k.2),
  subst (λ (a : ℕ). AreSplices (end + x.own) a (end + n) (total + sum) (map (shift end total) hs)) (omega arith)
      (shifted_splices x.own (x.at + length x.bytes) n sum end total hs k.3),
)
splices_joined base at end total n sum (g ∷ gs) hs h k =
    (h.0, omega (arith, h.1), h.2, splices_joined g.own (g.at + length g.bytes) end total n sum gs hs h.3 k)

-- no offset is greater than the last one
pub splices_within : (base at end total : ℕ) (gs : List Splice) → AreSplices base at end total gs → at ≤ total
splices_within base at end total [] h = omega (arith, h.1)
splices_within base at end total (g ∷ gs) h = let more = splices_within g.own (g.at + length g.bytes) end total gs h.3 in
    omega (arith, h.2)

-- the own bytes before a splice and the splice are copied
pub one_copied : (base from next : ℕ) (own out : List ℕ) (g : Splice) (rest : List Splice) → base + from ≤ g.own
    → next ≡ g.own - base
    → ((out ++ take (next - from) (drop from own)) ++ g.bytes) ++ spliced (base + next) (drop next own) rest ≡ out ++ spliced
    (base + from) (drop from own) (g ∷ rest)
one_copied base from next own out g rest le n =
    let a : base + next ≡ g.own = omega arith in
    let b : g.own - (base + from) ≡ next - from = omega arith in
    let d : drop (g.own - (base + from)) (drop from own) ≡ drop next own =
    drop-drop (g.own - (base + from)) from own ∙ ap (λ i. drop i own) (omega arith) in
    rw (a, d, b) (simp append_assoc)
