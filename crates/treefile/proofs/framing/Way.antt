-- Reading from the end of a file: the records of a tree are expected, and a body that is found is one of them
-- or contradicts them.
use Rattle.treefile.proofs.Common
use Common.{◌≡◌, ℕ, suc, ◌+◌, ◌≤◌, List, [], ◌∷◌, ◌++◌, length, Option, Some, None, Result, Ok, slice_get, refl, append_assoc}
use Common.{append-nil, arith, flat_map, Value, Direction, LeftToRight, RightToLeft, Item, Literal, Class, Grammar, stored_items}
use Common.{Passes, direction_of, other, AtEachNodeOf, IsWellOn, NoRule, Solves, SolvesAll, Valuation, WellAt, children}
use Common.{left_passes, rest, Tree, Forest, Fits, deepest, depth_of, leaf, node, none, more, node_count, Expects, Breaks, Child}
use Common.{MatchesCopy, IsNodeRecord, IsTooLarge, Pending, before_others, children_with_copies, postfix, prefix, prefix_all}
use Common.{bodies_of, bodies_of_all, copies_of, copy_of, node_body, values_up_to, Version, frame, FrameFault}
use Common.item
use Rattle.treefile.specs.framing.Backward.{ReadsBack, before_frame, next_before}
use Rattle.treefile.specs.Laws.{NoFileHasNoTree, OneRecord, ReadingBegins, ReadingBreaks, ReadingEnds, ReadingContinues}
use Rattle.treefile.specs.Laws.{ReadingIsTooLong}
use Rattle.treefile.proofs.framing.Backward.{pass_of_file}
use Rattle.treefile.proofs.records.Copies.{MatchCopies, match_copies, are_copies, kept, kept_same}
use Rattle.treefile.proofs.framing.Files.{begins}
use Rattle.treefile.proofs.records.Orders.{length-prefix}
use Rattle.treefile.proofs.records.Records.{bodies_count, file_back}
use Rattle.treefile.proofs.records.Spelled.{same_node}

-- the records of a tree are expected if the tree is
module _ (version : Version) (g : Grammar) (m : Passes) (k most : ℕ) where
  mutual
    pub tree_expected : (d : Direction) (x : Item) (copy : Option (List Value)) (t : Tree) (v : Valuation) (level : ℕ)
        (todo : Pending) (following : List (List ℕ)) → Fits g x t → MatchesCopy copy (copy_of g m k t v) → Solves NoRule g t v
        → IsWellOn (λ p. p ≤ k) g m t v → level + depth_of t ≤ suc most → Expects version g m k d most todo following
        → Expects version g m k d most ((level, (x, copy)) ∷ todo) (prefix d (bodies_of version g m k t v) ++ following)
    tree_expected d (item.Terminal (Class c)) copy (leaf a x) v level todo following f matching texts well deep later =
        (omega arith, ([], (x, f.1, cc, refl, matching), later))
    tree_expected d (item.Symbol s) copy (node p ts) v level todo following f matching texts well deep later =
        let has = version.has_copies in
        let copies = kept g m k has (copies_of g m k ts (children v)) in
        let own = values_up_to k (left_passes m (slice_get g.productions p)) (v []) in
        let is : IsNodeRecord version g m k s (node_body version g m k p (v []) (copies_of g m k ts (children v))) p f.0 (v []) =
        record {
          production = f.1;
          left = f.2;
          well = rw (f.1, f.2) at well.0;
          copies = copies;
          are_copies = are_copies g m k has (stored_items f.0.items) ts (children v) f.3 texts.1 well.1;
          occurs = cc (kept_same g m k has own (copies_of g m k ts (children v)));
        } in
        let ys = children_with_copies has g m k (stored_items f.0.items) copies in (
          omega arith,
          (
            ys,
            (p, f.0, v [], is, refl, rw (f.1, f.2) at matching),
            forest_awaited d ys ts (children v) (suc level) todo following
                (match_copies g m k has (stored_items f.0.items) ts (children v) f.3) texts.1 well.1 (omega arith) later,
          ),
        )
    tree_expected d x copy (leaf a y) v level todo following f matching texts well deep later = elim f [ ]
    tree_expected d x copy (node p ts) v level todo following f matching texts well deep later = elim f [ ]

    forest_awaited : (d : Direction) (xs : List Child) (ts : Forest) (vs : ℕ → Valuation) (level : ℕ) (todo : Pending)
        (following : List (List ℕ)) → MatchCopies g m k xs ts vs → SolvesAll NoRule g ts vs
        → AtEachNodeOf (WellAt (λ p. p ≤ k)) g m ts vs vs → level + deepest ts ≤ suc most
        → Expects version g m k d most todo following
        → Expects version g m k d most (before_others d level xs todo)
        (prefix_all d (bodies_of_all version g m k ts vs) ++ following)
    forest_awaited d [] none vs level todo following f texts well deep later = later
    forest_awaited LeftToRight (x ∷ xs) (more t ts) vs level todo following f texts well deep later =
        let others = forest_awaited LeftToRight xs ts (rest vs) level todo following f.2 texts.1 well.1 (omega arith) later in
        let first =
        tree_expected LeftToRight x.0 x.1 t (vs 0) level (before_others LeftToRight level xs todo)
        (prefix_all LeftToRight (bodies_of_all version g m k ts (rest vs)) ++ following) f.0 f.1 texts.0 well.0
        (omega arith) others in
        rw append_assoc first
    forest_awaited RightToLeft (x ∷ xs) (more t ts) vs level todo following f texts well deep later =
        let first = tree_expected RightToLeft x.0 x.1 t (vs 0) level todo following f.0 f.1 texts.0 well.0 (omega arith) later in
        let others =
        forest_awaited RightToLeft xs ts (rest vs) level ((level, x) ∷ todo)
        (prefix RightToLeft (bodies_of version g m k t (vs 0)) ++ following) f.2 texts.1 well.1 (omega arith) first in
        rw append_assoc others
    forest_awaited d xs ts vs level todo following f texts well deep later = elim f [ ]

pub one_record : OneRecord
one_record version g m k (item.Terminal (Literal l), copy) body ys zs few a b = elim a [ ]
one_record version g m k (item.Terminal (Class c), copy) body ys zs few a b = cc
one_record version g m k (item.Symbol s, copy) body ys zs few a b =
    let one = same_node version g m k s s a.0 b.0 body a.1 b.1 a.2 b.2 few a.3 b.3 in
    let same : a.1 ≡ b.1 = cc in
    cc

pub reading_begins : ReadingBegins
reading_begins version g m k content usable fits depth nodes t v tree within is =
    let d = other (direction_of k) in
    let bodies = prefix d (bodies_of version g m k t v) in
    let expected =
    tree_expected version g m k depth d (item.Symbol g.start) None t v 1 [] [] tree tt is.texts is.well
    (omega (arith, within.deep)) tt in (
      bodies,
      file_back version g m k t v content fits tree is usable,
      rw append-nil at expected,
      omega (arith, within.large, length-prefix d (bodies_of version g m k t v), bodies_count version g m k t v),
    )

pub reading_continues : ReadingContinues
reading_continues version g m k content body at count level x ys todo few way found is depth nodes t v tree within file =
    let here = way depth nodes t v tree within file in
    go here.0 here.1 here.2 here.3
  where
    go : (bodies : List (List ℕ)) → ReadsBack version content at bodies
        → Expects version g m k (other (direction_of k)) depth ((level, x) ∷ todo) bodies → count + length bodies ≤ nodes
        → (bodies : List (List ℕ)) × ReadsBack version content (before_frame at body) bodies
        × Expects version g m k (other (direction_of k)) depth
        (before_others (other (direction_of k)) (suc level) ys todo) bodies × (suc count + length bodies ≤ nodes)
    go [] back expects count_is = elim expects [ ]
    go (first ∷ bodies) back expects count_is =
        let same : first ≡ body = cc in
        let items = one_record version g m k x body expects.1.0 ys few (rw same at expects.1.1) is in
        (bodies, rw same at back.1, rw items at expects.1.2, omega arith)

pub way_ends : ReadingEnds
way_ends version g m k content at count t v way tree is =
    let here = way (depth_of t) (node_count t) t v tree (record { deep = omega arith; large = omega arith }) is in
    go here.0 here.1 here.2
  where
    go : (bodies : List (List ℕ)) → ReadsBack version content at bodies
        → Expects version g m k (other (direction_of k)) (depth_of t) [] bodies → next_before version content at ≡ Ok None
    go [] back expects = back
    go (body ∷ bodies) back expects = elim expects [ ]

pub way_breaks : ReadingBreaks
way_breaks version g m k content at count todo way so t v tree is =
    let here = way (depth_of t) (node_count t) t v tree (record { deep = omega arith; large = omega arith }) is in
    go todo (next_before version content at) here.0 refl here.1 here.2 so
  where
    -- no expected bodies end at the offset if the result of reading there contradicts them
    go : (todo : Pending) (found : Result (Option (List ℕ)) FrameFault) (bodies : List (List ℕ))
        → next_before version content at ≡ found → ReadsBack version content at bodies
        → Expects version g m k (other (direction_of k)) (depth_of t) todo bodies → Breaks version g m k todo found → ⊥
    go [] (Ok None) bodies is back expects so = so
    go (x ∷ todo) found [] is back expects so = expects
    go [] found (body ∷ bodies) is back expects so = expects
    go (x ∷ todo) (Ok (Some found)) (body ∷ bodies) is back expects so =
        let same : body ≡ found = cc in
        so expects.1.0 (rw same at expects.1.1)
    go todo found bodies is back expects so = cc

pub reading_is_too_long : ReadingIsTooLong
reading_is_too_long version g m k content at count level depth nodes x todo way large t v tree within is =
    let here = way depth nodes t v tree within is in
    go here.0 here.2 here.3 large
  where
    go : (bodies : List (List ℕ)) → Expects version g m k (other (direction_of k)) depth ((level, x) ∷ todo) bodies
        → count + length bodies ≤ nodes → IsTooLarge depth nodes level count → ⊥
    go [] expects few large = expects
    go (body ∷ bodies) expects few large = let le = expects.0 in omega arith

pub no_file_has_no_tree : NoFileHasNoTree
no_file_has_no_tree version g m k content usable small otherwise t v tree is =
    let frames = flat_map frame (postfix (direction_of k) (bodies_of version g m k t v)) in
    otherwise (
      cc (begins version k frames usable),
      cc (pass_of_file version k frames usable small),
    )
