-- The copies of the values at a node's children: their use in reading, and their changes.
use Rattle.passrun.proofs.Common
use Common.{ℕ, zero, suc, ◌≡◌, ◌≢◌, ◌<◌, ◌≤◌, inl, inr, true, List, [], ◌∷◌, Some, slice_get, length, drop, refl, ap, ◌∙◌, sym}
use Common.{arith, cases_eq, le-leb, drop_at, take_at, Value, Item, Production, Rule, Literal, Class, stored_items, HasPass}
use Common.{Solves, SolvesAll, Valuation, rest, Tree, Forest, leaf, node, none, more, Fits, FitsAll, children_with_copies}
use Common.{copies_of, copy_of, values_up_to, count_of_values, Setting, with_row, IsReached, AgreesSoFar, Table, copied_passes}
use Common.{copies, in_children, AgreeAt, count_copied}
use Common.item
use Rattle.passrun.specs.passing.Change.{set}
use Rattle.passrun.proofs.places.Slots.{copied_is, copies_same, same_at}
use Rattle.passrun.proofs.places.Tables.{same_values, set_other, with_here, with_other}

pub copies_length : (c : Setting) (k : ℕ) (xs : List Item) (vs : List Value)
    → length (children_with_copies true c.grammar c.passes k xs vs) ≡ length xs
copies_length c k [] vs = refl
copies_length c k (x ∷ xs) vs = ap suc (copies_length c k xs (drop _ vs))

-- The copy of a child's values in the record of its parent.
pub copies_at : (c : Setting) (k : ℕ) (xs : List Item) (e : Table) (j : ℕ) (x : Item) → slice_get xs j ≡ Some x
    → slice_get (children_with_copies true c.grammar c.passes k xs (copies c k xs e)) j ≡ Some
    (x, Some (values_up_to k (copied_passes c x) (e j)))
copies_at c k [] e j x at = let bad : ⊥ = cc in absurd bad
copies_at c k (y ∷ xs) e zero x at =
    let same : y ≡ x = cc in
    let prefix = values_up_to k (copied_passes c y) (e 0) in
    let long = count_of_values k (copied_passes c y) (e 0) ∙ sym (count_copied c k y) in
    cc (take_at prefix (copies c k xs (λ j. e (suc j))) _ long, same)
copies_at c k (y ∷ xs) e (suc j) x at =
    let prefix = values_up_to k (copied_passes c y) (e 0) in
    let long = count_of_values k (copied_passes c y) (e 0) ∙ sym (count_copied c k y) in
    cc (drop_at prefix (copies c k xs (λ j. e (suc j))) _ long, copies_at c k xs (λ j. e (suc j)) j x at)

-- The copy of a tree consists of the values at its root.
copy_is : (c : Setting) (W : Production → Rule → Type 0) (k : ℕ) (x : Item) (t : Tree) (w : Valuation) → Fits c.grammar x t
    → Solves W c.grammar t w → copy_of c.grammar c.passes k t w ≡ values_up_to k (copied_passes c x) (w [])
copy_is c W k (item.Symbol s) (leaf d text) w fits solved = elim fits [ ]
copy_is c W k (item.Terminal (Literal l)) (leaf d text) w fits solved = elim fits [ ]
copy_is c W k (item.Terminal a) (node p ts) w fits solved = elim fits [ ]
copy_is c W k (item.Terminal (Class d)) (leaf e text) w fits solved = cc (le-leb 0 k (omega arith))
copy_is c W k (item.Symbol s) (node p ts) w fits solved = cc

-- The copies of the children consist of the values at their roots.
pub copies_are : (c : Setting) (W : Production → Rule → Type 0) (k : ℕ) (xs : List Item) (ts : Forest) (ws : ℕ → Valuation)
    (e : Table) → FitsAll c.grammar xs ts → SolvesAll W c.grammar ts ws
    → ((b a p : ℕ) (x : Item) → slice_get xs b ≡ Some x → slice_get (copied_passes c x) a ≡ Some p → p ≤ k → ws b [] a ≡ e b a)
    → copies_of c.grammar c.passes k ts ws ≡ copies c k xs e
copies_are c W k [] none ws e fits solved roots = refl
copies_are c W k (x ∷ xs) none ws e fits solved roots = elim fits [ ]
copies_are c W k [] (more t ts) ws e fits solved roots = elim fits [ ]
copies_are c W k (x ∷ xs) (more t ts) ws e fits solved roots =
    cc (
      copy_is c W k x t (ws 0) fits.0 solved.0,
      same_values k (copied_passes c x) (ws 0 []) (e 0) (λ a p is le. roots 0 a p x refl is le),
      copies_are c W k xs ts (rest ws) (λ j. e (suc j)) fits.1 solved.1 (λ b a p y at is le. roots (suc b) a p y at is le),
    )

-- An attribute of the pass that is written has no copy of an earlier pass.
written_there : (c : Setting) (q : Production) (b n p j a : ℕ) (x : Item)
    → HasPass c.passes q (record { place = j; attr = a }) c.write → slice_get (stored_items q.items) b ≡ Some x
    → slice_get (copied_passes c x) n ≡ Some p → suc b ≡ j → n ≡ a → p ≡ c.write
written_there c q b n p j a x pass at is bj na =
    let e : Some p ≡ Some c.write = cc (pass, copied_is c x n p is) in
    cc

-- A value of the pass that is written does not change the copies of earlier passes.
pub copies_set : (c : Setting) (q : Production) (e : Table) (j a : ℕ) (v : Value) → c.write ≡ suc c.read
    → HasPass c.passes q (record { place = j; attr = a }) c.write
    → copies c c.read (stored_items q.items) (in_children (set e j a v)) ≡ copies c c.read (stored_items q.items) (in_children e)
copies_set c q e j a v next pass =
    copies_same c c.read (stored_items q.items) (in_children (set e j a v)) (in_children e)
    (λ b n p x at is le. set_other e j a v (suc b) n (λ both.
    omega (arith, written_there c q b n p j a x pass at is both.0 both.1)))

-- Other values at a child that agree with its copy do not change the copies.
pub copies_row : (c : Setting) (q : Production) (e : Table) (j : ℕ) {x : Item} (h : ℕ → Value)
    → slice_get (stored_items q.items) j ≡ Some x → AgreeAt c x (e (suc j)) h
    → copies c c.read (stored_items q.items) (in_children (with_row e (suc j) h)) ≡ copies c c.read (stored_items q.items)
    (in_children e)
copies_row c q e j {x} h at agree =
    copies_same c c.read (stored_items q.items) (in_children (with_row e (suc j) h)) (in_children e) same
  where
    same : (b n p : ℕ) (y : Item) → slice_get (stored_items q.items) b ≡ Some y → slice_get (copied_passes c y) n ≡ Some p
        → p ≤ c.read → with_row e (suc j) h (suc b) n ≡ e (suc b) n
    same b n p y at' is le = elim (cases_eq b j) [
      | inl here ↦ (
          let items : Some y ≡ Some x = cc in
          let yx : y ≡ x = cc in
          let is' = rw yx at is in
          cc (with_here e (suc j) h n, same_at c.read (copied_passes c x) (e (suc j)) h agree n p is' le))
      | inr apart ↦ with_other e (suc j) h (suc b) n (λ z. apart (omega arith))
    ]

-- The copies still agree with the table as far as they did (`AgreesSoFar`) if the table gets a value of this pass at the node
-- itself, or at a child that the pass has not reached.
pub shown_set : (c : Setting) (q : Production) (n : ℕ) (e s : Table) (j a : ℕ) (v : Value)
    → HasPass c.passes q (record { place = j; attr = a }) c.write → (IsReached c q n j → j ≡ 0) → AgreesSoFar c q n e s
    → AgreesSoFar c q n (set e j a v) s
shown_set c q n e s j a v pass fault_unless shown b m p x at is le when =
    cc (
      shown b m p x at is le when,
      set_other e j a v (suc b) m (λ both. let w = written_there c q b m p j a x pass at is both.0 both.1 in
          elim when [
            | inl less ↦ omega arith
            | inr known ↦ (omega (arith, fault_unless (rw both.0 at known), both.0))
          ]),
    )

-- The copies also agree so far if the table gets the values of a child's record that agree with the copies.
pub shown_row : (c : Setting) (q : Production) (n n' : ℕ) (e s : Table) (j : ℕ) (x : Item) (h : ℕ → Value)
    → slice_get (stored_items q.items) j ≡ Some x → AgreeAt c x (s (suc j)) h → c.write ≡ suc c.read
    → ((b : ℕ) → b ≢ j → IsReached c q n' (suc b) → IsReached c q n (suc b))
    → ((a p : ℕ) → slice_get (copied_passes c x) a ≡ Some p → IsReached c q n' (suc j) → p < c.write)
    → AgreesSoFar c q n e s → AgreesSoFar c q n' (with_row e (suc j) h) s
shown_row c q n n' e s j x h at agree next others never shown b m p y at' is le when = elim (cases_eq b j) [
  | inl here ↦ (
      let items : Some y ≡ Some x = cc in
      let yx : y ≡ x = cc in
      let is' = rw yx at is in
      let less : p < c.write = elim when [ inl l ↦ l | inr k ↦ never m p is' (rw here at k) ] in
      cc (same_at c.read (copied_passes c x) (s (suc j)) h agree m p is' (omega arith), with_here e (suc j) h m))
  | inr apart ↦ cc (
    shown b m p y at' is le (elim when [ inl l ↦ inl l | inr k ↦ inr (others b apart k) ]),
    with_other e (suc j) h (suc b) m (λ z. apart (omega arith)),
  )
]

-- The copies also agree so far if both tables get the values that the pass computed at a child.
pub shown_both : (c : Setting) (q : Production) (n n' : ℕ) (e s : Table) (j : ℕ) (h : ℕ → Value)
    → ((b : ℕ) → b ≢ j → IsReached c q n' (suc b) → IsReached c q n (suc b)) → AgreesSoFar c q n e s
    → AgreesSoFar c q n' (with_row e (suc j) h) (with_row s (suc j) h)
shown_both c q n n' e s j h others shown b m p y at is le when = elim (cases_eq b j) [
  | inl here ↦ cc (with_here s (suc j) h m, with_here e (suc j) h m)
  | inr apart ↦ cc (
    with_other s (suc j) h (suc b) m (λ z. apart (omega arith)),
    shown b m p y at is le (elim when [ inl l ↦ inl l | inr k ↦ inr (others b apart k) ]),
    with_other e (suc j) h (suc b) m (λ z. apart (omega arith)),
  )
]

-- Values that agree with the copy agree with the table.
pub agree_table : (c : Setting) (q : Production) (n : ℕ) (e s : Table) (j : ℕ) (x : Item) (h : ℕ → Value)
    → slice_get (stored_items q.items) j ≡ Some x → c.write ≡ suc c.read → AgreesSoFar c q n e s → AgreeAt c x (s (suc j)) h
    → AgreeAt c x (e (suc j)) h
agree_table c q n e s j x h at next shown agree =
    cc (same_values c.read (copied_passes c x) (e (suc j)) (s (suc j))
    (λ a p is le. sym (shown j a p x at is (omega arith) (inl (omega arith)))))
