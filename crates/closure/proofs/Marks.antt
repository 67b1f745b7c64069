-- Lemmas on a search: what stays true when a number is marked, a clause visited, or a number taken from the queue.
use Rattle.std.proofs.Common.{ℕ, zero, suc, ◌⊎◌, Contains, ◌+◌, ◌≡◌, ◌<◌, ◌≤◌, ◌↔◌, Bool, true, false, ◌&&◌, List, [], ◌∷◌, ◌++◌}
use Rattle.std.proofs.Common.{length, get_or, take, replicate, count_by, Some, slice_get, slice_index, nat_eq, refl, sym, subst}
use Rattle.std.proofs.Common.{◌∙◌, inl, inr, set, arith, length-set}
use Rattle.std.proofs.lemmas.Bool.{cases_eq, cases_lt, false≢true}
use Rattle.std.proofs.lemmas.Bool.Decides.{nat_tests}
use Rattle.std.proofs.lemmas.Grind.{common_steps}
use Rattle.std.proofs.lemmas.List.{get_or-set_other, get_or-set_same, get_or_default, take_more}
use Rattle.std.proofs.lemmas.List.Elements.{Contains-push_cases, Contains-get_or, All-contains}
use Rattle.std.proofs.lemmas.List.Sums.{AllPass-from_list_all}
use Rattle.std.proofs.lemmas.Option.{slice_get-get_or, slice_get_within, slice_get_read, get_or_from_slice_get}
use Rattle.std.proofs.Math.ListN.{length-append, get_or-eq_default}
use Rattle.std.specs.List.{list_all}
use Rattle.closure.specs.Additions.{IsAdded, IsReason}
use Rattle.closure.specs.declared.addition.Addition.{Addition}
use Rattle.closure.specs.declared.addition.Reason.{Reason}
use Rattle.closure.specs.declared.addition.Reason.TheVariants as reason
use Rattle.closure.specs.declared.clause.Clause.{Clause}
use Rattle.closure.specs.Following.{Follows, seed, is_marked}
use Rattle.closure.specs.Search.{IsSearch, IsSettled, Grows}
use Rattle.closure.specs.Waiting.{row}
use Rattle.closure.proofs.Additions.{added_here, added_more, order_more}
use Rattle.closure.proofs.Following.{follows_in, head_follows}
use Rattle.closure.proofs.Positions.{get_push_cases, get_push_end, get_push_front}

both : (a b : Bool) → (a && b) ≡ true → (a ≡ true) × (b ≡ true)
both true b h = (refl, h)
both false b h = absurd (cc)

-- if all elements of a list pass the test s, and s implies t, they all pass t
pub list_all-within : (s t : ℕ → Bool) → ((n : ℕ) → s n ≡ true → t n ≡ true) → (xs : List ℕ) → list_all s xs ≡ true
    → list_all t xs ≡ true
list_all-within s t le [] h = refl
list_all-within s t le (x ∷ xs) h = let p = both (s x) (list_all s xs) h in rw (le x p.0) (list_all-within s t le xs p.1)

-- a clause is settled if a number of its body is not marked
pub waits : (marks : List Bool) (added : List Addition) (v : ℕ) (q : Clause) (n : ℕ) (d : ℕ) → n < length q.body
    → is_marked marks (get_or q.body n d) ≡ false → IsSettled marks added v q
waits marks added v q n d lt h = inr (get_or q.body n d, Contains-get_or q.body n d lt, inl h)

-- the same for `advance`: n is the length of the body's marked prefix, and the body is longer
pub waits_at : (marks : List Bool) (added : List Addition) (v : ℕ) (clauses : List Clause) (clause : ℕ) (q : Clause)
    (body : List ℕ) (n : ℕ) (d : Clause) → clause < length clauses → body ≡ (get_or clauses clause q).body → n ≤ length body
    → ((e : ℕ) → n < length body → is_marked marks (get_or body n e) ≡ false) → nat_eq n (length body) ≡ false
    → IsSettled marks added v (get_or clauses clause d)
waits_at marks added v clauses clause q body n d inside is most stops differs =
    let lt : n < length body = grind (arith, nat_tests) in
    rw (get_or_default clauses clause d q inside)
    (waits marks added v (get_or clauses clause q) n 0 (rw (← is) lt) (rw (← is) (stops 0 lt)))

marks_stay : (marks : List Bool) (u : ℕ) → u < length marks → (t : ℕ) → is_marked marks t ≡ true
    → is_marked (set marks u true) t ≡ true
marks_stay marks u lt t h = elim (cases_eq t u) [
  | inl same ↦ rw same (get_or-set_same marks u true false lt)
  | inr other ↦ get_or-set_other marks u t true false other ∙ h
]

count_one : (marks : List Bool) (k : ℕ) → k < length marks → is_marked marks k ≡ false
    → count_by (λ b. b) (set marks k true) ≡ count_by (λ b. b) marks + 1
count_one marks k lt e = grind (arith, common_steps)

-- a number n with a reason follows, if each number with the property `there` does
reason_follows : (clauses : List Clause) (seeds : List ℕ) (there : ℕ → Type 0) → ((t : ℕ) → there t → Follows clauses seeds t)
    → (n : ℕ) (r : Reason) → IsReason clauses seeds there n r → Follows clauses seeds n
reason_follows clauses seeds there follow n (reason.Seed i) h =
    seed (i, slice_get_within seeds i n h, get_or_from_slice_get seeds i n n h)
reason_follows clauses seeds there follow n (reason.Clause p) h =
    subst (Follows clauses seeds) h.2 (head_follows clauses seeds p h.0 h.1 (λ k d lt. follow (get_or h.0.body k d) (h.3 k d lt)))

-- a search continues with a new number, added for a reason
pub marked_more : (clauses : List Clause) (seeds : List ℕ) (marks : List Bool) (added : List Addition) (v : ℕ) (passed : List ℕ)
    (x : Addition) → x.number < length marks → is_marked marks x.number ≡ false
    → IsReason clauses seeds (IsAdded added) x.number x.reason → IsSearch clauses seeds marks added v passed
    → IsSearch clauses seeds (set marks x.number true) (added ++ x ∷ []) v passed
marked_more clauses seeds marks added v passed x lt new why search = record {
  below = rw length-set search.below;
  count = search.count;
  visited_within = let w = search.visited_within in let l = length-append added (x ∷ []) in omega arith;
  len = length-append added (x ∷ []) ∙ (let c = count_one marks x.number lt new in let l = search.len in omega arith);
  is_added = λ t. (
    (λ h. elim (cases_eq t x.number) [
      | inl same ↦ rw same (added_here added x)
      | inr other ↦ added_more added x t ((search.is_added t).0 (sym (get_or-set_other marks x.number t true false other) ∙ h))
    ]),
    (λ h. elim (get_push_cases added x h.1 h.0 h.2) [
      | inl old ↦ marks_stay marks x.number lt t ((search.is_added t).1 (h.0, h.1, old, h.3))
      | inr last ↦ rw (← h.3, ← last.1) (get_or-set_same marks x.number true false lt)
    ]),
  );
  order = order_more clauses seeds added x (λ h. false≢true (sym new ∙ (search.is_added x.number).1 h)) why search.order;
  sound = λ t h. elim (cases_eq t x.number) [
    | inl same ↦ rw same
        (reason_follows clauses seeds (IsAdded added) (λ u k. search.sound u ((search.is_added u).1 k)) x.number x.reason why)
    | inr other ↦ search.sound t (sym (get_or-set_other marks x.number t true false other) ∙ h)
  ];
  within = search.within;
  marked =
      λ p d inside. list_all-within (is_marked marks) (is_marked (set marks x.number true)) (marks_stay marks x.number lt)
      (take (slice_index passed p) (get_or clauses p d).body) (search.marked p d inside);
}

-- open numbers stay open if one more number is marked and added
pub grows_one : (marks : List Bool) (added : List Addition) (v : ℕ) (x : Addition) → x.number < length marks → v ≤ length added
    → Grows v marks added (set marks x.number true) (added ++ x ∷ [])
grows_one marks added v x lt most = record {
  count = length-set marks x.number true;
  marked = marks_stay marks x.number lt;
  open_stays = λ t h. elim h [
    | inl unmarked ↦ elim (cases_eq t x.number) [
      | inl same ↦ inr (length added, x, most, get_push_end added x, cc)
      | inr other ↦ inl (get_or-set_other marks x.number t true false other ∙ unmarked)
    ]
    | inr w ↦ inr (w.0, w.1, w.2, get_push_front added x w.1 w.0 w.3, w.4)
  ];
}

-- a clause whose body is marked is a reason to add its head
pub clause_reason : (clauses : List Clause) (seeds : List ℕ) (marks : List Bool) (added : List Addition)
    → ((t : ℕ) → is_marked marks t ≡ true ↔ IsAdded added t) → (p : ℕ) (d : Clause) → p < length clauses
    → list_all (is_marked marks) (get_or clauses p d).body ≡ true
    → IsReason clauses seeds (IsAdded added) (get_or clauses p d).head (reason.Clause p)
clause_reason clauses seeds marks added is p d lt h = (
  get_or clauses p d,
  slice_get-get_or clauses p d lt,
  refl,
  λ k e inside. (is (get_or (get_or clauses p d).body k e)).0
      (AllPass-from_list_all (is_marked marks) (get_or clauses p d).body h k e inside),
)

-- a settled clause stays settled while no further visit begins
pub settled_stays : (v : ℕ) (marks : List Bool) (added : List Addition) (marks' : List Bool) (added' : List Addition)
    → Grows v marks added marks' added' → (q : Clause) → IsSettled marks added v q → IsSettled marks' added' v q
settled_stays v marks added marks' added' grows q (inl h) = inl (grows.marked q.head h)
settled_stays v marks added marks' added' grows q (inr w) = inr (w.0, w.1, grows.open_stays w.0 w.2)

pub grows_on : (v : ℕ) (a : List Bool) (x : List Addition) (b : List Bool) (y : List Addition) (c : List Bool) (z : List Addition)
    → Grows v a x b y → Grows v b y c z → Grows v a x c z
grows_on v a x b y c z m n =
    record {
      count = cc;
      marked = λ t h. n.marked t (m.marked t h);
      open_stays = λ t h. n.open_stays t (m.open_stays t h);
    }

-- if the first i seeds are marked, and seed i too, then the first i + 1 seeds are
pub seeded_more : (marks marks' : List Bool) (seeds : List ℕ) (i : ℕ) → i < length seeds
    → ((t : ℕ) → is_marked marks t ≡ true → is_marked marks' t ≡ true)
    → ((t : ℕ) → Contains (take i seeds) t → is_marked marks t ≡ true) → is_marked marks' (get_or seeds i 0) ≡ true
    → (t : ℕ) → Contains (take (i + 1) seeds) t → is_marked marks' t ≡ true
seeded_more marks marks' seeds i lt kept before here t h =
    elim (Contains-push_cases (take i seeds) (get_or seeds i 0) t (rw (← take_more seeds i 0 lt) h)) [
      | inl old ↦ kept t (before t old)
      | inr e ↦ rw (← e) here
    ]

-- clause q with the index p is settled if p is among the first i + 1 of `visited`: it was before if p is among the first i
pub settled_more : (B : Type 0) (v : ℕ) (marks : List Bool) (added : List Addition) (marks' : List Bool) (added' : List Addition)
    (q : Clause) (visited : List ℕ) (i p : ℕ) → i < length visited → Grows v marks added marks' added'
    → (B ⊎ Contains (take i visited) p → IsSettled marks added v q) → (get_or visited i 0 ≡ p → IsSettled marks' added' v q)
    → B ⊎ Contains (take (i + 1) visited) p → IsSettled marks' added' v q
settled_more B v marks added marks' added' q visited i p lt grows before here (inl b) =
    settled_stays v marks added marks' added' grows q (before (inl b))
settled_more B v marks added marks' added' q visited i p lt grows before here (inr h) =
    elim (Contains-push_cases (take i visited) (get_or visited i 0) p (rw (← take_more visited i 0 lt) h)) [
      | inl old ↦ settled_stays v marks added marks' added' grows q (before (inr old))
      | inr e ↦ here e
    ]

-- if nothing is left to visit, all clauses are settled and the seeds are marked, then the marked numbers are closed under the
-- clauses, so all numbers that follow are marked
pub complete : (clauses : List Clause) (seeds : List ℕ) (marks : List Bool) (added : List Addition) (v : ℕ) → length added ≤ v
    → ((p : ℕ) (d : Clause) → p < length clauses → IsSettled marks added v (get_or clauses p d))
    → ((t : ℕ) → Contains seeds t → is_marked marks t ≡ true)
    → (s : ℕ) → Follows clauses seeds s → is_marked marks s ≡ true
complete clauses seeds marks added v most settled seeded =
    follows_in clauses seeds (λ t. is_marked marks t ≡ true) seeded
    (λ p q e all. elim (rw (get_or_from_slice_get clauses p q q e) at (settled p q (slice_get_within clauses p q e))) [
      | inl m ↦ m
      | inr w ↦ elim w.2 [
        | inl no_mark ↦ absurd (false≢true (cc (All-contains (λ t. is_marked marks t ≡ true) q.body w.0 all w.1)))
        | inr among ↦ absurd (let w = slice_get_within added among.0 among.1 among.3 in let l = among.2 in omega arith)
      ]
    ])

-- if no number is marked, a clause is settled, or it is one of the facts
pub settled_first : (marks : List Bool) (added : List Addition) (v : ℕ) (q : Clause) (facts : List ℕ) (p : ℕ)
    → ((t : ℕ) → is_marked marks t ≡ false) → (q.body ≡ [] → Contains facts p) → IsSettled marks added v q ⊎ Contains facts p
settled_first marks added v q facts p blank listed = go q.body refl
  where
    go : (xs : List ℕ) → q.body ≡ xs → IsSettled marks added v q ⊎ Contains facts p
    go [] e = inr (listed e)
    go (x ∷ xs) e = inl (inr (x, rw e (Contains-get_or (x ∷ xs) 0 0 (omega arith)), inl (blank x)))

-- in a list of false no number is marked
pub unmarked : (n t : ℕ) → is_marked (replicate n false) t ≡ false
unmarked zero t = refl
unmarked (suc n) zero = refl
unmarked (suc n) (suc t) = unmarked n t

-- a marked number is below the count
pub marked_within : (marks : List Bool) (t : ℕ) → is_marked marks t ≡ true → t < length marks
marked_within marks t h = elim (cases_lt t (length marks)) [
  | inl lt ↦ lt
  | inr past ↦ absurd (false≢true (sym (get_or-eq_default marks false past) ∙ h))
]

-- the next number to be visited is below the count
pub next_within : (clauses : List Clause) (seeds : List ℕ) (marks : List Bool) (added : List Addition) (v : ℕ) (passed : List ℕ)
    (x : Addition) (count : ℕ) → length marks ≡ count → v < length added → x ≡ get_or added v x
    → IsSearch clauses seeds marks added v passed → x.number < count
next_within clauses seeds marks added v passed x count len lt is search =
    rw (← len)
    (marked_within marks x.number
    ((search.is_added x.number).1 (v, x, slice_get_read added (length added) v x refl lt is, refl)))

-- the invariant still holds when the visit of the next number begins
pub search_taken : (clauses : List Clause) (seeds : List ℕ) (marks : List Bool) (added : List Addition) (v : ℕ) (passed : List ℕ)
    → v < length added → IsSearch clauses seeds marks added v passed → IsSearch clauses seeds marks added (v + 1) passed
search_taken clauses seeds marks added v passed lt search = record {
  below = search.below;
  count = search.count;
  visited_within = omega arith;
  len = search.len;
  is_added = search.is_added;
  order = search.order;
  sound = search.sound;
  within = search.within;
  marked = search.marked;
}

-- when the visit of the number at index v begins, a settled clause stays settled, or its index is in the number's row
pub settled_taken : (marks : List Bool) (added : List Addition) (v p : ℕ) (x : Addition) (q : Clause) (uses : List (List ℕ))
    → slice_get added v ≡ Some x → ((t : ℕ) → Contains q.body t → Contains (row uses t) p)
    → IsSettled marks added v q → IsSettled marks added (v + 1) q ⊎ Contains (row uses x.number) p
settled_taken marks added v p x q uses is listed (inl m) = inl (inl m)
settled_taken marks added v p x q uses is listed (inr w) = elim w.2 [
  | inl no_mark ↦ inl (inr (w.0, w.1, inl no_mark))
  | inr o ↦ elim (cases_eq o.0 v) [
    | inl here ↦ inr (let e : Some o.1 ≡ Some x = sym o.3 ∙ rw here is in let f : o.1 ≡ x = cc in rw (← f, o.4) (listed w.0 w.1))
    | inr other ↦ (let l = o.2 in inl (inr (w.0, w.1, inr (o.0, o.1, omega arith, o.3, o.4))))
  ]
]
