-- Reading the file of pass 0 of `1` from its end, worked out.
use Rattle.treefile.proofs.Common
use Common.{◌≡◌, ℕ, inl, inr, pos, false, List, [], ◌∷◌, None, refl, ap, sym, arith, same_Some, Value, Num, spellings}
use Common.{RightToLeft, Production, Class, stored_items, iffy, token_sample, depth_of, max_depth, max_nodes, token_text}
use Common.{AreThere, Expects, HasNoTree, HasNoTreeWithin, IsNoRecord, IsNodeRecord, ReadSoFar, IsRecordOf, pending_root}
use Common.{children_with_copies, version_one_usable, node_body, file, header, version_one}
use Common.item
use Rattle.ag_grammar.specs.grammars.AttributeGrammar.{IsProduction}
use Rattle.treefile.specs.framing.Backward.{next_before}
use Rattle.treefile.specs.framing.Ending.{body_before, fits_before}
use Rattle.treefile.specs.Worked.{binary, binary_passes, bodies_of_one, iffy_passes, pass_0_of_one, production_of, record_of_iffy}
use Rattle.treefile.specs.Worked.{record_of_t, tree_of_one, values_of_one}
use Rattle.treefile.proofs.framing.PendingChildren.{awaited_are_there}
use Rattle.treefile.proofs.records.OneTree.{leading_tree}
use Rattle.treefile.proofs.records.Spelled.{same_node}
use Rattle.treefile.proofs.framing.Way.{no_file_has_no_tree, tree_expected, reading_begins, way_breaks, reading_continues}
use Rattle.treefile.proofs.framing.Way.{reading_is_too_long}
use Rattle.treefile.proofs.WorkedRecords.{binary_fits, binary_numbered, one_recorded, well_number}

-- 65536 for each attribute of a node
abbrev numbers : ℕ → Value
numbers a = Num (pos 65536)

-- a record of a node with these values
abbrev recorded : (k p s : ℕ) (q : Production) (body : List ℕ) → IsProduction binary p q → q.left ≡ s
    → body ≡ node_body version_one binary binary_passes k p numbers []
    → IsRecordOf version_one binary binary_passes k (item.Symbol s, None) body
    (children_with_copies false binary binary_passes k (stored_items q.items) [])
recorded k p s q body is left occurs =
    let known : IsNodeRecord version_one binary binary_passes k s body p q numbers = record {
      production = is;
      left = left;
      well = λ a n has le. well_number 65536 (omega arith);
      copies = [];
      are_copies = refl;
      occurs = occurs;
    } in
    (p, q, numbers, known, refl, tt)

pub t_is_record : IsRecordOf version_one binary binary_passes 1 (item.Symbol 3, None) record_of_t []
t_is_record = recorded 1 4 3 (production_of 3 []) record_of_t refl refl (simp spellings)

pub iffy_is_record : IsRecordOf version_one token_sample iffy_passes 0 (item.Terminal (Class 0), None) record_of_iffy []
iffy_is_record = (iffy, token_text, simp spellings, refl, tt)

-- Q's record is not one of N
pub q_is_none : IsNoRecord version_one binary binary_passes 0 (item.Symbol 0, None) (0 ∷ 0 ∷ 1 ∷ [])
q_is_none ys is =
    let one =
    same_node version_one binary binary_passes 0 0 1 is.0 1 (0 ∷ 0 ∷ 1 ∷ []) is.1
    (production_of 1 []) is.2 numbers binary_numbered is.3
    (recorded 0 1 1 (production_of 1 []) (0 ∷ 0 ∷ 1 ∷ []) refl refl refl).3 in
    let same = same_Some (production_of 1 []) is.1 (rw one.0 at is.3.production) in
    omega (arith, rw (← same) at is.3.left)

pub one_awaited : Expects version_one binary binary_passes 0 RightToLeft 3 (pending_root binary) bodies_of_one
one_awaited =
    let is = one_recorded 0 in
    tree_expected version_one binary binary_passes 0 3 RightToLeft (item.Symbol 0) None tree_of_one values_of_one 1 []
    [] is.fits tt is.texts is.well (omega arith) tt

pub one_is_there : AreThere version_one binary binary_passes 0 RightToLeft 3 (pending_root binary) bodies_of_one
one_is_there =
    (awaited_are_there version_one binary binary_passes 0 3 RightToLeft (pending_root binary) bodies_of_one).0 one_awaited

pub one_is_deep : Expects version_one binary binary_passes 0 RightToLeft 2 (pending_root binary) bodies_of_one → ⊥
one_is_deep expected =
    let are =
    (awaited_are_there version_one binary binary_passes 0 2 RightToLeft (pending_root binary) bodies_of_one).0 expected in
    let one =
    leading_tree version_one binary binary_passes 0 RightToLeft (item.Symbol 0) are.0 tree_of_one are.1 values_of_one are.2
    [] binary_numbered are.3 (one_recorded 0) (sym are.5) in
    omega (arith, ap depth_of one.0, are.4)

pub root_comes : ReadSoFar version_one binary binary_passes 0 pass_0_of_one 41 0 (pending_root binary)
root_comes = reading_begins version_one binary binary_passes 0 pass_0_of_one version_one_usable binary_fits

pub children_come : ReadSoFar version_one binary binary_passes 0 pass_0_of_one 34 1
    ((2, (item.Symbol 1, None)) ∷ (2, (item.Symbol 2, None)) ∷ [])
unfolding next_before body_before fits_before
children_come =
    let q = production_of 0 (item.Symbol 2 ∷ item.Symbol 1 ∷ []) in
    reading_continues version_one binary binary_passes 0 pass_0_of_one (0 ∷ 0 ∷ 0 ∷ []) 41 0 1 (item.Symbol 0, None)
    ((item.Symbol 2, None) ∷ (item.Symbol 1, None) ∷ []) [] binary_numbered root_comes refl
    (recorded 0 0 0 q (0 ∷ 0 ∷ 0 ∷ []) refl refl refl)

l_comes : ReadSoFar version_one binary binary_passes 0 pass_0_of_one 27 2 ((2, (item.Symbol 2, None)) ∷ [])
unfolding next_before body_before fits_before
l_comes =
    reading_continues version_one binary binary_passes 0 pass_0_of_one (0 ∷ 0 ∷ 1 ∷ []) 34 1 2 (item.Symbol 1, None) []
    ((2, (item.Symbol 2, None)) ∷ []) binary_numbered children_come refl
    (recorded 0 1 1 (production_of 1 []) (0 ∷ 0 ∷ 1 ∷ []) refl refl refl)

t_comes : ReadSoFar version_one binary binary_passes 0 pass_0_of_one 20 3
    ((3, (item.Symbol 3, None)) ∷ (3, (item.Symbol 4, None)) ∷ [])
unfolding next_before body_before fits_before
t_comes =
    let q = production_of 2 (item.Symbol 4 ∷ item.Symbol 3 ∷ []) in
    reading_continues version_one binary binary_passes 0 pass_0_of_one (0 ∷ 0 ∷ 3 ∷ []) 27 2 2 (item.Symbol 2, None)
    ((item.Symbol 4, None) ∷ (item.Symbol 3, None) ∷ []) [] binary_numbered l_comes refl
    (recorded 0 3 2 q (0 ∷ 0 ∷ 3 ∷ []) refl refl refl)

pub none_within_levels : HasNoTreeWithin 2 max_nodes version_one binary binary_passes 0 pass_0_of_one
none_within_levels =
    reading_is_too_long version_one binary binary_passes 0 pass_0_of_one 20 3 3 2 max_nodes (item.Symbol 3, None)
    ((3, (item.Symbol 4, None)) ∷ []) t_comes (inl (omega arith))

pub none_within_nodes : HasNoTreeWithin max_depth 3 version_one binary binary_passes 0 pass_0_of_one
none_within_nodes =
    reading_is_too_long version_one binary binary_passes 0 pass_0_of_one 20 3 3 max_depth 3 (item.Symbol 3, None)
    ((3, (item.Symbol 4, None)) ∷ []) t_comes (inr (omega arith))

pub header_alone : HasNoTree version_one binary binary_passes 0 (header version_one 0)
unfolding next_before
header_alone =
    way_breaks version_one binary binary_passes 0 (header version_one 0) 6 0 (pending_root binary)
    (reading_begins version_one binary binary_passes 0 (header version_one 0) version_one_usable binary_fits)
    tt

pub q_alone : HasNoTree version_one binary binary_passes 0 (file version_one 0 ((0 ∷ 0 ∷ 1 ∷ []) ∷ []))
unfolding next_before body_before fits_before
q_alone =
    let content = file version_one 0 ((0 ∷ 0 ∷ 1 ∷ []) ∷ []) in
    way_breaks version_one binary binary_passes 0 content 13 0 (pending_root binary)
    (reading_begins version_one binary binary_passes 0 content version_one_usable binary_fits)
    q_is_none

pub other_pass : HasNoTree version_one binary binary_passes 1 pass_0_of_one
other_pass =
    no_file_has_no_tree version_one binary binary_passes 1 pass_0_of_one version_one_usable (omega arith)
    (λ is. omega (arith, is.1))
