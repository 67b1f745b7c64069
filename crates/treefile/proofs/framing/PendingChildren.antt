-- The expected items, and that expected bodies are the records of trees.
use Rattle.treefile.proofs.Common
use Common.{◌≡◌, ℕ, zero, suc, ◌+◌, ◌-◌, ◌≤◌, pos, List, [], ◌∷◌, ◌++◌, length, take, drop, Some, slice_get, refl, append_assoc}
use Common.{arith, drop_all, take_all, Text, Direction, LeftToRight, RightToLeft, Literal, Class, Grammar, stored_items, Passes}
use Common.{AtEachNodeOf, NoRule, SolvesAll, Valuation, WellAt, at, graft, left_passes, Forest, deepest, leaf, node, none, more}
use Common.{no_rules, well_text, AreThere, Expects, Child, IsRecordOf, Pending, before_others, children_with_copies, prefix_all}
use Common.{bodies_of_all, values_up_to, Version}
use Common.value
use Common.item
use Rattle.treefile.specs.Laws.{AllPending, ExpectedAreThere, NextPending}
use Rattle.treefile.proofs.records.Copies.{MatchCopies, fits_exact, stored_exact}
use Rattle.treefile.proofs.framing.Way.{tree_expected}

-- from left to right the children from index i on begin with the child i; from right to left the first i + 1 children do
next_left : (level i : ℕ) (xs : List Child) (x : Child) (todo : Pending) → slice_get xs i ≡ Some x
    → before_others LeftToRight level (drop i xs) todo ≡ (level, x) ∷ before_others LeftToRight level (drop (suc i) xs) todo
next_left level i [] x todo e = cc
next_left level zero (y ∷ xs) x todo e = cc
next_left level (suc i) (y ∷ xs) x todo e = next_left level i xs x todo e

next_right : (level i : ℕ) (xs : List Child) (x : Child) (todo : Pending) → slice_get xs i ≡ Some x
    → before_others RightToLeft level (take (suc i) xs) todo ≡ (level, x) ∷ before_others RightToLeft level (take i xs) todo
next_right level i [] x todo e = cc
next_right level zero (y ∷ xs) x todo e = cc
next_right level (suc i) (y ∷ xs) x todo e = next_right level i xs x ((level, y) ∷ todo) e

pub next_pending : NextPending
next_pending LeftToRight level i xs x todo less e = next_left level i xs x todo e
next_pending RightToLeft level i xs x todo less e =
    let one : length xs - i ≡ suc (length xs - suc i) = omega arith in
    cc (next_right level (length xs - suc i) xs x todo e)

pub all_pending : AllPending
all_pending LeftToRight level xs todo = (refl, rw (drop_all (length xs) xs (omega arith)))
all_pending RightToLeft level xs todo =
    let none : length xs - length xs ≡ 0 = omega arith in
    (take_all (length xs - 0) xs (omega arith), rw none)

-- the values of the children of a node without children: any will do
no_values : ℕ → Valuation
no_values i path a = value.Num (pos 0)

module _ (version : Version) (g : Grammar) (m : Passes) (k most : ℕ) where
  -- The bodies begin with the records of trees of the children `xs` of one node, and after these come the records of trees of the
  -- children `todo`.
  record Gathered (d : Direction) (level : ℕ) (xs : List Child) (todo : Pending) (bodies : List (List ℕ)) : Type 0 where
    trees : Forest
    values : ℕ → Valuation
    others : List (List ℕ)
    matching : MatchCopies g m k xs trees values
    texts : SolvesAll NoRule g trees values
    well : AtEachNodeOf (WellAt (λ p. p ≤ k)) g m trees values values
    deep : level + deepest trees ≤ suc most
    split : bodies ≡ prefix_all d (bodies_of_all version g m k trees values) ++ others
    there : AreThere version g m k d most todo others

  -- the values in a first child before those in the others
  abbrev before_all : Valuation → (ℕ → Valuation) → ℕ → Valuation
  before_all v vs zero = v
  before_all v vs (suc i) = vs i

  -- if the bodies are the records of trees of `xs` and then of `todo`, child by child, they are so with one forest for `xs`
  gather : (d : Direction) (level : ℕ) (xs : List Child) (todo : Pending) (bodies : List (List ℕ)) → level ≤ suc most
      → AreThere version g m k d most (before_others d level xs todo) bodies → Gathered d level xs todo bodies
  gather d level [] todo bodies low are =
      record {
        trees = none;
        values = no_values;
        others = bodies;
        matching = tt;
        texts = tt;
        well = tt;
        deep = omega arith;
        split = refl;
        there = are;
      }
  gather LeftToRight level (x ∷ xs) todo bodies low are =
      let on = gather LeftToRight level xs todo are.2 low are.6 in
      record {
        trees = more are.0 on.trees;
        values = before_all are.1 on.values;
        others = on.others;
        matching = (are.3.fits, are.7, on.matching);
        texts = (are.3.texts, on.texts);
        well = (are.3.well, on.well);
        deep = omega (arith, are.4, on.deep);
        split = rw append_assoc (cc);
        there = on.there;
      }
  gather RightToLeft level (x ∷ xs) todo bodies low are =
      let on = gather RightToLeft level xs ((level, x) ∷ todo) bodies low are in
      let one = on.there in
      record {
        trees = more one.0 on.trees;
        values = before_all one.1 on.values;
        others = one.2;
        matching = (one.3.fits, one.7, on.matching);
        texts = (one.3.texts, on.texts);
        well = (one.3.well, on.well);
        deep = omega (arith, one.4, on.deep);
        split = rw append_assoc (cc);
        there = one.6;
      }

  -- if a body is a record of a child, and the bodies after it are the records of trees of its children and of the others, then
  -- all these bodies are the records of a tree of the child and of trees of the others
  by_record : (d : Direction) (level : ℕ) (x : Child) (todo : Pending) (body : List ℕ) (bodies : List (List ℕ)) (ys : List Child)
      → level ≤ most → IsRecordOf version g m k x body ys
      → AreThere version g m k d most (before_others d (suc level) ys todo) bodies
      → AreThere version g m k d most ((level, x) ∷ todo) (body ∷ bodies)
  by_record d level (item.Terminal (Literal l), copy) todo body bodies ys low is are = elim is [ ]
  by_record d level (item.Terminal (Class c), copy) todo body bodies ys low is are = (
    leaf c is.0,
    (λ path a. Text is.0),
    bodies,
    record {
      fits = (refl, is.1);
      texts = refl;
      well = λ a p e le. well_text is.0 is.1.utf8 (omega (arith, is.1.short));
    },
    omega arith,
    cc,
    rw is.3 at are,
    is.4,
  )
  by_record d level (item.Symbol s, copy) todo body bodies ys low is are =
      let p = is.0 in
      let q = is.1 in
      let e = is.2 in
      let has = version.has_copies in
      let xs = stored_items q.items in
      let on =
      gather d (suc level) (children_with_copies has g m k xs is.3.copies) todo bodies (omega arith) (rw is.4 at are) in
      let own = values_up_to k (left_passes m (slice_get g.productions p)) e in
      let same = stored_exact g m k has xs own is.3.copies on.trees on.values is.3.are_copies on.matching in (
        node p on.trees,
        graft e on.values,
        on.others,
        record {
          fits = (q, is.3.production, is.3.left, fits_exact g m k has xs is.3.copies on.trees on.values on.matching);
          texts = (no_rules (slice_get g.productions p) (at (graft e on.values)), on.texts);
          well = (rw (is.3.production, is.3.left) is.3.well, on.well);
        },
        omega (arith, on.deep),
        cc,
        on.there,
        rw (is.3.production, is.3.left) is.5,
      )

  -- expected bodies are records of trees, and such records are expected
  from_awaited : (d : Direction) (todo : Pending) (bodies : List (List ℕ)) → Expects version g m k d most todo bodies
      → AreThere version g m k d most todo bodies
  from_awaited d [] [] a = refl
  from_awaited d [] (body ∷ bodies) a = elim a [ ]
  from_awaited d (x ∷ todo) [] a = elim a [ ]
  from_awaited d (x ∷ todo) (body ∷ bodies) a =
      by_record d x.0 x.1 todo body bodies a.1.0 a.0 a.1.1 (from_awaited d (before_others d (suc x.0) a.1.0 todo) bodies a.1.2)

  to_awaited : (d : Direction) (todo : Pending) (bodies : List (List ℕ)) → AreThere version g m k d most todo bodies
      → Expects version g m k d most todo bodies
  to_awaited d [] bodies e = rw e tt
  to_awaited d (x ∷ todo) bodies are =
      rw are.5
      (tree_expected version g m k most d x.1.0 x.1.1 are.0 are.1 x.0 todo are.2 are.3.fits are.7 are.3.texts are.3.well are.4
      (to_awaited d todo are.2 are.6))

pub awaited_are_there : ExpectedAreThere
awaited_are_there version g m k most d todo bodies =
    (from_awaited version g m k most d todo bodies, to_awaited version g m k most d todo bodies)
