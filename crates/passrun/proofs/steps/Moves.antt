-- The effect of the steps of a pass on one node.
use Rattle.passrun.proofs.Common
use Common.{ℕ, zero, suc, ◌≡◌, ◌≢◌, ◌+◌, ◌<◌, ◌≤◌, ◌⊎◌, inl, inr, List, [], ◌∷◌, ◌++◌, Option, Some, None, All, slice_get, refl}
use Common.{ap, ◌∙◌, sym, arith, append_assoc, cases_eq, slice_get_within, Value, IsWell, Item, Production, Rule, Target}
use Common.{Direction, LeftToRight, RightToLeft, IsArgument, HasKind, Synthesized, Inherited, used_kind, defined_kind, item_at}
use Common.{item_kinds, stored_items, HasPass, item_passes, nth, Valuation, at, graft, RulesHold, OfPass, WellAt, left_passes}
use Common.{Tree, Forest, node, FitsAll, depth_of, max_depth, BodyTree, prefix, prefix_all, postfix, postfix_all, Node, bodies_of}
use Common.{bodies_of_all, copies_of, node_body, values_up_to, body_of, version_two, Phase, Between, Got, Gone, Setting}
use Common.{pass_direction, IsSound, with_row, Keeps, IsHeld, Entry, IsOpenNode, IsReady, IsGone, after_reading, root_body}
use Common.{state_of, IsReached, AgreesSoFar, Table, copied_passes, copies, in_children, leftmost, Roots, stored, AgreeAt}
use Common.{Transcript}
use Common.item
use Rattle.passcode.specs.Course.{AreDone, arity, place_of, read_count, run_count}
use Rattle.passcode.proofs.Turns.{one_turn, turn_of}
use Rattle.passrun.proofs.course.Forests.{add_tree, add_values, fits_add, solves_add, each_add, prefix_add, postfix_add}
use Rattle.passrun.proofs.course.Forests.{deepest_add, roots_add, all_visited}
use Rattle.passrun.proofs.steps.RuleRuns.{holds_same, seen_differs}
use Rattle.passrun.proofs.places.Copies.{copies_are, copies_row}
use Rattle.passrun.proofs.places.Slots.{copied_is, has_copy, same_at}
use Rattle.passrun.proofs.places.Tables.{with_here, with_other, same_values, in_row, body_same}
use Rattle.passrun.proofs.steps.RuleTargets.{argument_kind, target_kind}

pub known_differs : (c : Setting) (q : Production) (i j : ℕ) → i < arity q → IsReached c q i j → j ≢ place_of q c.write i
known_differs c q i j h k z = elim k [
  | inl x ↦ omega arith
  | inr x ↦ (omega (arith, x.1, one_turn q c.write x.0 i (omega arith) h (cc)))
]

pub known_more : (c : Setting) (q : Production) (i n j : ℕ) → i ≤ n → IsReached c q i j → IsReached c q n j
known_more c q i n j more k = elim k [ inl x ↦ inl x | inr x ↦ inr (x.0, (omega (arith, x.1)), x.2) ]

-- The complete children were read in any phase, and the pass has run in them.
no_fewer : (ph : Phase) (i : ℕ) → (i ≤ read_count ph i) × (i ≤ run_count ph i)
no_fewer ph i = (grind arith, grind arith)

pub known_last : (c : Setting) (q : Production) (i j : ℕ) → IsReached c q (suc i) j
    → IsReached c q i j ⊎ (j ≡ place_of q c.write i)
known_last c q i j k = elim k [ inl x ↦ inl (inl x) | inr x ↦ last x.0 x.1 x.2 ]
  where
    split : (b i : ℕ) → b < suc i → (b < i) ⊎ (b ≡ i)
    split b i h = grind arith

    last : (b : ℕ) → b < suc i → j ≡ place_of q c.write b → IsReached c q i j ⊎ (j ≡ place_of q c.write i)
    last b l e = elim (split b i l) [ inl x ↦ inl (inr (b, x, e)) | inr x ↦ inr (cc) ]

-- The rules that were run have the same values at the next place, if the child there gets these values.
abbrev AreKept : Setting → Production → ℕ → List ℕ → Table → Phase → (ℕ → Value) → Type 0
AreKept c q i done e ph h = (r : ℕ) (u : Rule) (o : Target) → slice_get q.rules r ≡ Some u → IsHeld c q (state_of ph i done) e u
    → (o ≡ u.target) ⊎ IsArgument u o → o.place ≡ place_of q c.write i → e (place_of q c.write i) o.attr ≡ h o.attr

module _ {c : Setting} (sound : IsSound c) where
  -- The values that a child keeps in its row agree with its copy.
  pub kept_copy : (s : ℕ) (f h : ℕ → Value) → Keeps c s f h → AgreeAt c (item.Symbol s) f h
  kept_copy s f h keeps =
      same_values c.read (copied_passes c (item.Symbol s)) f h
      (λ a p is le. let n = sound.next in
      sym (keeps a p (copied_is c (item.Symbol s) a p is) (omega arith) (λ z. omega (arith, z.0))))

  module _ {entry : Entry} {level p : ℕ} {q : Production} {i : ℕ} {done : List ℕ} {e : Table} {ts : Forest}
      {ws : ℕ → Valuation} where
    -- The table of a node gets other values at the next child, which agree with the copy there, and the phase changes.
    changed : {ph ph' : Phase} {new : Transcript} {x' : Item} (h : ℕ → Value)
        → i < arity q → item_at q (place_of q c.write i) ≡ Some x' → AgreeAt c x' (e (place_of q c.write i)) h
        → read_count ph i ≤ read_count ph' i → run_count ph i ≤ run_count ph' i → AreKept c q i done e ph h
        → IsOpenNode c entry level p q (state_of ph i done) e ts ws new
        → IsOpenNode c entry level p q (state_of ph' i done) (with_row e (place_of q c.write i) h) ts ws new
    changed {ph} {ph'} {new} h within occurs agree reads runs kept is_open =
        record {
          there = is_open.there;
          left = is_open.left;
          entered = λ b n is le other. with_other e pl h 0 b (λ z. omega arith) ∙ is_open.entered b n is le other;
          visits =
              rw (copies_row c q e (nth (pass_direction c) (arity q) i) h occurs agree) is_open.visits;
          roots = λ b a l. is_open.roots b a l
              ∙ sym (with_other e pl h (suc (leftmost (pass_direction c) (arity q) i + b)) a
              (seen_differs (pass_direction c) (arity q) i b l within));
          held = λ r u has num.
              let x = is_open.held r u has num in
              record {
                holds =
                    holds_same u e (with_row e pl h) (same u.target (kept r u u.target num x (inl refl)))
                    (λ o arg. same o (kept r u o num x (inr arg))) x.holds;
                passed = x.passed;
                target = known_more c q (read_count ph i) (read_count ph' i) u.target.place reads x.target;
                available = λ o arg.
                    let z = x.available o arg in (
                      z.0,
                      z.1,
                      z.2,
                      elim z.3 [
                        | inl l ↦ inl l
                        | inr k ↦ inr (known_more c q (run_count ph i) (run_count ph' i) o.place runs k)
                      ],
                    );
              };
        }
      where
        pl : ℕ
        pl = place_of q c.write i

        same : (o : Target) → (o.place ≡ pl → e pl o.attr ≡ h o.attr) → e o.place o.attr ≡ with_row e pl h o.place o.attr
        same o here = elim (cases_eq o.place pl) [
          | inl is ↦ cc (here is, with_here e pl h o.attr)
          | inr apart ↦ sym (with_other e pl h o.place o.attr apart)
        ]

    -- The row of a child was read, and agrees with its copy.
    pub met_child : {ph' : Phase} {new : Transcript} {x' : Item} (h : ℕ → Value)
        → i < arity q → item_at q (place_of q c.write i) ≡ Some x' → AgreeAt c x' (e (place_of q c.write i)) h
        → IsOpenNode c entry level p q (state_of Between i done) e ts ws new
        → IsOpenNode c entry level p q (state_of ph' i done) (with_row e (place_of q c.write i) h) ts ws new
    met_child {ph'} {x' = x'} h within occurs agree is_open =
        let more = no_fewer ph' i in changed h within occurs agree more.0 more.1 kept is_open
      where
        -- An argument there was computed by an earlier pass, and agrees with the copy.
        kept : AreKept c q i done e Between h
        kept r u o num x (inl is) here = absurd (known_differs c q i u.target.place within x.target (cc))
        kept r u o num x (inr arg) here =
            let z = x.available o arg in
            let less : z.0 < c.write = elim z.3 [ inl l ↦ l | inr k ↦ absurd (known_differs c q i o.place within k here) ] in
            let item : item_at q o.place ≡ Some x' = cc in
            let kind : slice_get (item_kinds c.grammar (Some x')) o.attr ≡ Some Synthesized =
            cc (item, argument_kind c.grammar sound.accepted p q is_open.there r u o num arg, found o.place here) in
            let pass : slice_get (item_passes c.passes (Some x')) o.attr ≡ Some z.0 = cc item in
            let next = sound.next in
            same_at c.read (copied_passes c x') (e (place_of q c.write i)) h agree o.attr z.0 (has_copy c x' o.attr z.0 kind pass)
            (omega arith)
          where
            found : (j : ℕ) → j ≡ place_of q c.write i → used_kind j ≡ Synthesized
            found zero z = absurd (omega arith)
            found (suc j) z = refl

    -- The child's node is done.
    pub returned : {new : Transcript} {s' : ℕ} {h : ℕ → Value}
        → i < arity q → item_at q (place_of q c.write i) ≡ Some (item.Symbol s') → Keeps c s' (e (place_of q c.write i)) h
        → IsOpenNode c entry level p q (state_of Got i done) e ts ws new
        → IsOpenNode c entry level p q (state_of Gone i done) (with_row e (place_of q c.write i) h) ts ws new
    returned {s' = s'} {h = h} within occurs keeps is_open =
        changed h within occurs (kept_copy s' (e (place_of q c.write i)) h keeps) (omega arith) (omega arith) kept is_open
      where
        -- The values that the child keeps in its row.
        keep : (o : Target) (n : ℕ) → o.place ≡ place_of q c.write i → HasPass c.passes q o n → n ≤ c.write
            → ((n ≡ c.write) × HasKind c.grammar q o Synthesized → ⊥) → e (place_of q c.write i) o.attr ≡ h o.attr
        keep o n is pass le fault_unless =
            let here : item_at q o.place ≡ Some (item.Symbol s') = ap (item_at q) is ∙ occurs in
            sym (keeps o.attr n (rw here at pass) le (λ z. fault_unless (z.0, rw here z.1)))

        inherited : (j : ℕ) → j ≡ place_of q c.write i → defined_kind j ≡ Inherited
        inherited zero z = absurd (omega arith)
        inherited (suc j) z = refl

        kept : AreKept c q i done e Got h
        kept r u o num x (inl is) here = keep o c.write here (rw (← is) at x.passed) (omega arith) (λ z.
            let k = target_kind c.grammar sound.accepted p q is_open.there r u num in
            let y : Some Inherited ≡ Some Synthesized = cc (k, z.1, inherited o.place here) in
            absurd cc)
        kept r u o num x (inr arg) here =
            let z = x.available o arg in
            elim z.3 [
              | inr k ↦ absurd (known_differs c q i o.place within k here)
              | inl l ↦ keep o z.0 here z.1 z.2 (λ w. let e = w.0 in absurd (omega arith))
            ]

    -- The pass leaves the tree at the next place: all of it was written.
    pub put_child : {child count : ℕ} {mid cur new : Transcript}
        → i < arity q → (gone : IsGone c q i level child e mid cur count)
        → new.read ≡ cur.read → new.put ≡ mid.put ++ postfix (pass_direction c)
        (bodies_of version_two c.grammar c.passes c.write gone.tree gone.values)
        → IsOpenNode c entry level p q (state_of Gone i done) e ts ws mid
        → IsOpenNode c entry level p q (state_of Between (suc i) done) e (add_tree (pass_direction c) ts gone.tree)
        (add_values (pass_direction c) ts ws gone.values) new
    put_child within gone reads puts is_open =
        record {
          there = is_open.there;
          left = is_open.left;
          entered = is_open.entered;
          visits = record {
            fits =
                fits_add d c.grammar (stored_items q.items) i ts gone.item t gone.occurs within is_open.visits.fits
                gone.evaluated.fits;
            solved = solves_add d (OfPass c.passes c.write) c.grammar ts ws t w is_open.visits.solved gone.evaluated.solved;
            well = each_add d (WellAt (λ n. n ≤ c.write)) c.grammar c.passes ts ws t w is_open.visits.well gone.evaluated.well;
            read =
                cc (
                  append_assoc (after_reading c p entry.own copied entry.old).read (prefix_all d
                      (bodies_of_all version_two c.grammar c.passes c.read ts ws))
                      (prefix d (bodies_of version_two c.grammar c.passes c.read t w)),
                  prefix_add d c.grammar c.passes c.read ts ws t w,
                );
            put =
                cc (
                  append_assoc entry.old.put (postfix_all d (bodies_of_all version_two c.grammar c.passes c.write ts ws))
                      (postfix d bt),
                  postfix_add d c.grammar c.passes c.write ts ws t w,
                );
            deep = deepest_add d max_depth ts t level is_open.visits.deep gone.deep;
          };
          roots = roots_add d c.grammar (stored_items q.items) i ts ws w e within is_open.visits.fits is_open.roots gone.root;
          held = λ r u has num. let h = is_open.held r u has num in
              record { holds = h.holds; passed = h.passed; target = h.target; available = h.available };
        }
      where
        d : Direction
        d = pass_direction c

        t : Tree
        t = gone.tree

        w : Valuation
        w = gone.values

        bt : BodyTree
        bt = bodies_of version_two c.grammar c.passes c.write t w

        copied : List Value
        copied = copies c c.read (stored_items q.items) (in_children e)

    -- A node is done, and the values of its record are its row.
    pub ended : (shows : Table) {new : Transcript}
        → i ≡ arity q → ((j : ℕ) → AreDone c.passes q c.write (state_of Between i done) j)
        → All IsWell (values_up_to c.write (c.passes q.left) (e 0)) → AgreesSoFar c q i e shows
        → IsOpenNode c entry (suc level) p q (state_of Between i done) e ts ws new
        → IsReady c (item.Symbol entry.symbol) p (e 0) (node p ts) (graft (e 0) ws) entry.old new
        × (depth_of (node p ts) + level ≤ max_depth)
        × (root_body (bodies_of version_two c.grammar c.passes c.write (node p ts) (graft (e 0) ws)) ≡ body_of Node p
        (stored c q (e 0) shows))
    ended shows full given well shown is_open = (
      record {
        evaluated = record {
          fits = (q, is_open.there, is_open.left, fits);
          solved = (
            rw is_open.there rules,
            is_open.visits.solved,
          );
          well = (
            rw is_open.there (in_row IsWell c.write (c.passes q.left) (e 0) well),
            is_open.visits.well,
          );
        };
        number = refl;
        root = λ a. refl;
        read =
            cc (
              append_assoc entry.old.read (node_body version_two c.grammar c.passes c.read p entry.own before_copies ∷ []) below,
              body,
            );
        put = is_open.visits.put;
      },
      (omega (arith, is_open.visits.deep)),
      cc written,
    )
      where
        fits : FitsAll c.grammar (stored_items q.items) ts
        fits =
            rw (full, all_visited (pass_direction c) (stored_items q.items)) at is_open.visits.fits

        below : List (List ℕ)
        below = prefix_all (pass_direction c) (bodies_of_all version_two c.grammar c.passes c.read ts ws)

        before_copies : List Value
        before_copies = copies c c.read (stored_items q.items) (in_children e)

        roots : Roots (pass_direction c) (arity q) (arity q) ws e
        roots = rw full at is_open.roots

        left : (d : Direction) (n : ℕ) → leftmost d n n ≡ 0
        left LeftToRight n = refl
        left RightToLeft n = omega arith

        at_root : (b a : ℕ) → b < arity q → ws b [] a ≡ e (suc b) a
        at_root b a less =
            let z = left (pass_direction c) (arity q) in
            let n : suc (leftmost (pass_direction c) (arity q) (arity q) + b) ≡ suc b = omega arith in cc (roots b a less)

        -- Every child was visited.
        all_known : (b : ℕ) (y : Item) → slice_get (stored_items q.items) b ≡ Some y → IsReached c q i (suc b)
        all_known b y is =
            let z = turn_of q c.write (suc b) (y, (omega arith, is)) in let less = z.1 in inr (z.0, omega arith, z.2)

        read_copies : before_copies ≡ copies_of c.grammar c.passes c.read ts ws
        read_copies =
            cc (copies_are c (OfPass c.passes c.write) c.read (stored_items q.items) ts ws
            (in_children e) fits is_open.visits.solved (λ b a p y is of le. at_root b a
            (slice_get_within (stored_items q.items) b y is)))

        written : copies_of c.grammar c.passes c.write ts ws ≡ copies c c.write (stored_items q.items) (in_children shows)
        written =
            copies_are c (OfPass c.passes c.write) c.write (stored_items q.items) ts ws
            (in_children shows) fits is_open.visits.solved (λ b a p y is of le.
            let less = slice_get_within (stored_items q.items) b y is in
            at_root b a less ∙ sym (shown b a p y is of le (inr (all_known b y is))))

        in_right : (b a p : ℕ) → slice_get (item_passes c.passes (slice_get (stored_items q.items) b)) a ≡ Some p → b < arity q
        in_right b a p h = go (slice_get (stored_items q.items) b) refl h
          where
            go : (z : Option Item) → slice_get (stored_items q.items) b ≡ z → slice_get (item_passes c.passes z) a ≡ Some p
                → b < arity q
            go None is h = cc
            go (Some y) is h = slice_get_within (stored_items q.items) b y is

        value : (j a p : ℕ) → slice_get (item_passes c.passes (item_at q j)) a ≡ Some p → e j a ≡ at (graft (e 0) ws) j a
        value zero a p h = refl
        value (suc b) a p h = sym (at_root b a (in_right b a p h))

        rules : RulesHold (OfPass c.passes c.write) (Some q) (at (graft (e 0) ws))
        rules u (r, num) pass =
            let h = is_open.held r u (given u.target.place r u num refl pass) num in
            holds_same u e (at (graft (e 0) ws)) (value u.target.place u.target.attr c.write h.passed)
            (λ o arg. let z = h.available o arg in value o.place o.attr z.0 z.1) h.holds

        passes_are : left_passes c.passes (slice_get c.grammar.productions p) ≡ c.passes entry.symbol
        passes_are = cc

        body : node_body version_two c.grammar c.passes c.read p entry.own before_copies
            ≡ node_body version_two c.grammar c.passes c.read p (e 0) (copies_of c.grammar c.passes c.read ts ws)
        body =
            cc (
              body_same c.read c.grammar c.passes p entry.symbol entry.own (e 0) before_copies passes_are
                  (λ a p is le. sym (is_open.entered a p is (omega (arith, sound.next))
                  (λ z. omega (arith, sound.next, z.0)))),
              read_copies,
            )
