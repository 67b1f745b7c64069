-- The records of a tree's file: there is one for each node, and the length of each body is within the limits, so that the file is
-- read back.
use Rattle.treefile.proofs.Common
use Common.{◌≡◌, ℕ, suc, ◌≤◌, Bool, true, false, List, [], ◌∷◌, length, slice_get, All, refl, ap, subst, arith, All-append}
use Common.{All-cons, All-nil, All-push, Value, Text, spelling_of, IsWell, Item, Production, Grammar, stored_items, Direction}
use Common.{LeftToRight, RightToLeft, Passes, direction_of, other, AtEachNodeOf, IsWellOn, NoRule, Solves, SolvesAll, Valuation}
use Common.{WellAt, children, left_passes, rest, Forest, Tree, Fits, FitsAll, IsTreeOf, leaf, more, node, node_count, node_counts}
use Common.{none, flat_map, w16, to_be_bytes, Kind, Node, Token, IsBody, IsUsable, joined, postfix, postfix_all, prefix}
use Common.{FitsVersion, IsFileOfTree, bodies_of, bodies_of_all, copies_of, max_stored_values, values_up_to, with_copies, Version}
use Common.{body_of}
use Common.item
use Common.orders
use Rattle.std.proofs.lemmas.List.{length-append}
use Rattle.treefile.specs.framing.Backward.{ReadsBack}
use Rattle.treefile.proofs.framing.Backward.{read_back}
use Rattle.treefile.proofs.records.Copies.{copies_few, copies_well, stored_well}
use Rattle.treefile.proofs.records.Orders.{turned}
use Rattle.treefile.proofs.records.Sizes.{body_size}
use Rattle.treefile.proofs.records.Values.{values_few, values_well}

pub is_body : (version : Version) (kind : Kind) (number : ℕ) (values : List Value) → length values ≤ version.max_values
    → All IsWell values → IsBody version (body_of kind number values)
is_body version kind number values few well = record {
  least = omega (arith, length-append (to_be_bytes w16 number) (flat_map spelling_of values));
  greatest = body_size version kind number values few well;
}

-- a node of a production has no more values than a record can have
stored_few : (has : Bool) (g : Grammar) (m : Passes) (k : ℕ) (ps : List ℕ) (q : Production) (e : ℕ → Value) (ts : Forest)
    (vs : ℕ → Valuation) → ps ≡ m q.left → FitsAll g (stored_items q.items) ts
    → length (with_copies has (values_up_to k ps e) (copies_of g m k ts vs)) ≤ max_stored_values has g m q
stored_few false g m k ps q e ts vs same f = omega (arith, values_few k ps e, ap length same)
stored_few true g m k ps q e ts vs same f =
    omega (
      arith,
      length-append (values_up_to k ps e) (copies_of g m k ts vs),
      values_few k ps e,
      ap length same,
      copies_few g m k (stored_items q.items) ts vs f,
    )

-- there is one body for each node of a tree
module _ (version : Version) (g : Grammar) (m : Passes) (k : ℕ) where
  mutual
    pub bodies_count : (t : Tree) (v : Valuation) → orders.node_count (bodies_of version g m k t v) ≡ node_count t
    bodies_count (leaf c x) v = refl
    bodies_count (node p ts) v = ap suc (bodies_counts ts (children v))

    pub bodies_counts : (ts : Forest) (vs : ℕ → Valuation)
        → orders.node_counts (bodies_of_all version g m k ts vs) ≡ node_counts ts
    bodies_counts none vs = refl
    bodies_counts (more t ts) vs = omega (arith, bodies_count t (vs 0), bodies_counts ts (rest vs))

All-joined : (P : List ℕ → Type 0) (d : Direction) (xs ys : List (List ℕ)) → All P xs → All P ys → All P (joined d xs ys)
All-joined P LeftToRight xs ys f g = All-append P xs ys f g
All-joined P RightToLeft xs ys f g = All-append P ys xs g f

module _ (version : Version) (g : Grammar) (m : Passes) (k : ℕ) (d : Direction) (fits : FitsVersion version g m) where
  mutual
    pub bodies_fit : (x : Item) (t : Tree) (v : Valuation) → Fits g x t → Solves NoRule g t v → IsWellOn (λ p. p ≤ k) g m t v
        → All (IsBody version) (postfix d (bodies_of version g m k t v))
    bodies_fit x (leaf c text) v f texts well =
        let is : IsWell (Text text) = subst IsWell texts (well 0 0 refl (omega arith)) in
        All-cons (IsBody version) (body_of Token c (Text text ∷ [])) []
        (is_body version Token c (Text text ∷ []) fits.tokens (All-cons IsWell (Text text) [] is (All-nil IsWell)))
        (All-nil (IsBody version))
    bodies_fit (item.Symbol s) (node p ts) v f texts well =
        let ps = left_passes m (slice_get g.productions p) in
        let stored = with_copies version.has_copies (values_up_to k ps (v [])) (copies_of g m k ts (children v)) in
        let few = stored_few version.has_copies g m k ps f.0 (v []) ts (children v) (rw f.1) f.3 in
        All-push (IsBody version) (postfix_all d (bodies_of_all version g m k ts (children v))) (body_of Node p stored)
        (all_fit (stored_items f.0.items) ts (children v) f.3 texts.1 well.1)
        (is_body version Node p stored (omega (arith, few, fits.nodes p f.0 f.1))
        (stored_well version.has_copies (values_up_to k ps (v [])) (copies_of g m k ts (children v))
        (values_well k ps (v []) well.0) (copies_well g m k ts (children v) texts.1 well.1)))
    bodies_fit (item.Terminal a) (node p ts) v f texts well = elim f [ ]

    all_fit : (xs : List Item) (ts : Forest) (vs : ℕ → Valuation) → FitsAll g xs ts → SolvesAll NoRule g ts vs
        → AtEachNodeOf (WellAt (λ p. p ≤ k)) g m ts vs vs
        → All (IsBody version) (postfix_all d (bodies_of_all version g m k ts vs))
    all_fit xs none vs f texts well = All-nil (IsBody version)
    all_fit [] (more t ts) vs f texts well = elim f [ ]
    all_fit (x ∷ xs) (more t ts) vs f texts well =
        All-joined (IsBody version) d (postfix d (bodies_of version g m k t (vs 0)))
        (postfix_all d (bodies_of_all version g m k ts (rest vs))) (bodies_fit x t (vs 0) f.0 texts.0 well.0)
        (all_fit xs ts (rest vs) f.1 texts.1 well.1)

module _ (version : Version) (g : Grammar) (m : Passes) (k : ℕ) (t : Tree) (v : Valuation) (content : List ℕ)
    (fits : FitsVersion version g m) (tree : IsTreeOf g t) (is : IsFileOfTree version g m k t v content) where
  pub file_fits : All (IsBody version) (postfix (direction_of k) (bodies_of version g m k t v))
  file_fits = bodies_fit version g m k (direction_of k) fits (item.Symbol g.start) t v tree is.texts is.well

  pub file_back : IsUsable version
      → ReadsBack version content (length content) (prefix (other (direction_of k)) (bodies_of version g m k t v))
  file_back usable =
      let bodies = bodies_of version g m k t v in
      rw (is.occurs, ← turned (direction_of k) bodies) (read_back version k usable (postfix (direction_of k) bodies) file_fits)
