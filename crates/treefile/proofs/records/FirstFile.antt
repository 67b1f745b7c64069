-- The file of pass 0 of a tree has the records of the tree alone.
use Rattle.treefile.proofs.Common
use Common.{◌≡◌, ℕ, zero, suc, ◌≤◌, List, [], ◌∷◌, Option, Some, None, slice_get, refl, ap, arith, nat_tests, Value, IsWell, Item}
use Common.{Production, Class, Grammar, stored_items, Passes, AtEachNodeOf, IsWellOn, NoRule, Solves, SolvesAll, Valuation}
use Common.{WellAt, children, left_passes, rest, Fits, FitsAll, Forest, IsTokenText, IsTreeOf, Tree, leaf, node, none, more}
use Common.{well_text, IsFileOfTree, bodies_of, bodies_of_all, copies_of, left_synthesized, node_body, values_up_to, with_copies}
use Common.{Version, body_of, Node}
use Common.value
use Common.item
use Common.orders
use Rattle.ag_grammar.specs.Lists.{Each}
use Rattle.ag_grammar.specs.grammars.Tree as tree
use Rattle.treefile.specs.records.FirstFile.{AreFromOne, IsFirstFile, first_bodies, first_bodies_all, first_file, leaf_texts}
use Rattle.treefile.specs.records.FirstFile.{no_passes}
use Rattle.treefile.proofs.records.Copies.{synthesized_is}
use Rattle.treefile.proofs.records.Texts.{texts_are_given}

-- a token's text is a well value
pub text_well : (x : List ℕ) → IsTokenText x → IsWell (value.Text x)
text_well x text = well_text x text.utf8 (omega (arith, text.short))

-- the list of values of pass 0 is empty
pub no_values : (ps : List ℕ) (values : ℕ → Value) → Each (λ k. 1 ≤ k) ps → values_up_to 0 ps values ≡ []
no_values [] values each = refl
no_values (p ∷ ps) values each =
    grind (arith, nat_tests, each 0 p refl, no_values ps (λ a. values (suc a)) (λ i. each (suc i)))

-- an assignment without passes has no pass below 1
pub unassigned_from_one : AreFromOne no_passes
unassigned_from_one s i x e = cc

module _ (version : Version) (g : Grammar) (m : Passes) (from_one : AreFromOne m) where
  left_from_one : (q : Option Production) → Each (λ k. 1 ≤ k) (left_passes m q)
  left_from_one None = λ i x e. cc
  left_from_one (Some q) = from_one q.left

  -- the copies of children are their leaves' texts,
  copies : (ts : Forest) (vs : ℕ → Valuation) → copies_of g m 0 ts vs ≡ leaf_texts ts
  copies none vs = refl
  copies (more (leaf c x) ts) vs = cc (copies ts (rest vs))
  copies (more (node p us) ts) vs =
      let q = slice_get g.productions p in
      rw (no_values (left_synthesized g m q) (vs 0 []) (λ i x e. left_from_one q i x (synthesized_is g m q i x e)))
      (copies ts (rest vs))

  -- and a record has nothing else
  pub first_body : (p : ℕ) (values : ℕ → Value) (texts : List Value)
      → node_body version g m 0 p values texts ≡ body_of Node p (with_copies version.has_copies [] texts)
  first_body p values texts =
      let q = slice_get g.productions p in
      cc (no_values (left_passes m q) values (left_from_one q))

  mutual
    pub bodies_are : (t : Tree) (v : Valuation) → bodies_of version g m 0 t v ≡ first_bodies version t
    bodies_are (leaf c x) v = refl
    bodies_are (node p ts) v =
        let texts = copies_of g m 0 ts (children v) in
        cc (first_body p (v []) texts, copies ts (children v), bodies_are_all ts (children v))

    bodies_are_all : (ts : Forest) (vs : ℕ → Valuation) → bodies_of_all version g m 0 ts vs ≡ first_bodies_all version ts
    bodies_are_all none vs = refl
    bodies_are_all (more t ts) vs = cc (bodies_are t (vs 0), bodies_are_all ts (rest vs))

  mutual
    well : (x : Item) (t : Tree) (v : Valuation) → Fits g x t → Solves NoRule g t v → IsWellOn (λ p. p ≤ 0) g m t v
    well (item.Terminal (Class d)) (leaf c x) v fits texts = λ a p e le. own a e
      where
        own : (a : ℕ) {p : ℕ} → slice_get (0 ∷ []) a ≡ Some p → IsWell (v [] a)
        own zero e = rw texts (text_well x fits.1)
        own (suc a) e = cc
    well (item.Symbol s) (node p ts) v fits texts = (
      (λ a q e le. absurd (omega (arith, left_from_one (slice_get g.productions p) a q e))),
      well_all (stored_items fits.0.items) ts (children v) fits.3 texts.1,
    )
    well x (leaf c y) v fits texts = absurd fits
    well x (node p ts) v fits texts = absurd fits

    well_all : (xs : List Item) (ts : Forest) (vs : ℕ → Valuation) → FitsAll g xs ts → SolvesAll NoRule g ts vs
        → AtEachNodeOf (WellAt (λ p. p ≤ 0)) g m ts vs vs
    well_all xs none vs fits texts = tt
    well_all [] (more t ts) vs fits texts = absurd fits
    well_all (x ∷ xs) (more t ts) vs fits texts = (well x t (vs 0) fits.0 texts.0, well_all xs ts (rest vs) fits.1 texts.1)

-- `first_file` of a tree is the tree's file of pass 0, and no other content is
pub is_first_file : (version : Version) (g : Grammar) (t : Tree) (content : List ℕ) → IsTreeOf g t
    → content ≡ first_file version t → IsFirstFile version g t content
is_first_file version g t content fits is m v from_one texts = record {
  occurs = cc (bodies_are version g m from_one t v);
  texts = texts;
  well = well version g m from_one (item.Symbol g.start) t v fits texts;
}

pub first_file_is : (version : Version) (g : Grammar) (t : Tree) (content : List ℕ) → IsFirstFile version g t content
    → content ≡ first_file version t
first_file_is version g t content is =
    let texts = texts_are_given g t in
    let it = is no_passes texts.0 unassigned_from_one texts.1 in
    cc (bodies_are version g no_passes unassigned_from_one t texts.0)

-- a file of pass 0 for one assignment with passes from 1 on, and for some values, is the file for all such assignments and values
pub first_file_of : (version : Version) (g : Grammar) (m : Passes) (t : Tree) (v : Valuation) (content : List ℕ) → AreFromOne m
    → IsTreeOf g t → IsFileOfTree version g m 0 t v content → IsFirstFile version g t content
first_file_of version g m t v content from_one tree is =
    is_first_file version g t content tree (cc (is.occurs, bodies_are version g m from_one t v))

-- the trees of records are as deep and as large as the tree
module _ (version : Version) where
  mutual
    pub same_depth : (t : Tree) → orders.depth_of (first_bodies version t) ≡ tree.depth_of t
    same_depth (leaf c x) = refl
    same_depth (node p ts) = ap suc (same_depths ts)

    same_depths : (ts : Forest) → orders.deepest (first_bodies_all version ts) ≡ tree.deepest ts
    same_depths none = refl
    same_depths (more t ts) = cc (same_depth t, same_depths ts)

  mutual
    pub same_count : (t : Tree) → orders.node_count (first_bodies version t) ≡ tree.node_count t
    same_count (leaf c x) = refl
    same_count (node p ts) = ap suc (same_counts ts)

    same_counts : (ts : Forest) → orders.node_counts (first_bodies_all version ts) ≡ tree.node_counts ts
    same_counts none = refl
    same_counts (more t ts) = cc (same_count t, same_counts ts)
