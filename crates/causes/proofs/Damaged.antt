-- The index has the end of a node's record. If no record of the node's symbol is there, the content is the file of no tree.
use Rattle.causes.proofs.Common
use Common.{ℕ, ◌≡◌, ◌<◌, ◌≤◌, ◌⊎◌, inl, inr, List, [], ◌++◌, ap, length, Bool, true, false, cond, Some, refl, arith}
use Common.{slice_get, slice_get_within, stored_items, length-append, Result, Ok, Err, Value, Item, IsLegal, Passes, Grammar}
use Common.{Valuation, children, left_passes, IsTreeOf, Tree, leaf, node, version_two, values_at, IsNode, TreeIndex}
use Common.item
use Rattle.std.proofs.lemmas.Bool.{le-ltb}
use Rattle.std.specs.Global.{Vec}
use Rattle.std.proofs.Common.{◌^◌, subst}
use Rattle.std.specs.Prelude.{IfErr, nat_lt}
use Rattle.std.specs.Result.{IsErrAnd}
use Rattle.treefile.specs.declared.reading.FrameFault.{FrameFault}
use Rattle.treefile.specs.declared.reading.FrameFault.TheVariants as frame_fault
use Rattle.treefile.specs.framing.Backward.{next_before}
use Rattle.treefile.specs.framing.Ending.{ReadsAs, body_before}
use Rattle.treefile.specs.records.OneTree.{IsRecorded}
use Rattle.treefile.specs.records.Records.{IsFileOfTree, copies_of, values_up_to}
use Rattle.treefile.proofs.records.Copies.{copies_few, copies_well, stored_well}
use Rattle.treefile.proofs.records.Fitting.{fits_version_two, numbered}
use Rattle.treefile.proofs.records.Frames.{answers}
use Rattle.treefile.proofs.records.Values.{values_few, values_well}
use Rattle.origins.specs.Records.{IsNoNode, IsNoRecord}
use Rattle.tree_index.specs.Bodies.{body_at}
use Rattle.tree_index.specs.Faults.{tree_fault_of}
use Rattle.tree_index.specs.Nodes.{IsIndexOf, kind_in, kind_of, record_of}
use Rattle.tree_index.specs.declared.fault.TreeFault.{TreeFault}
use Rattle.tree_index.specs.declared.fault.TreeFault.TheVariants as fault
use Rattle.tree_index.proofs.Kids.{kind_there, record_there}
use Rattle.causes.specs.Indexed.{IsChainFault, IsSymbolAt}
use Rattle.causes.proofs.InIndex.{body_there, recorded_at}

-- The frame that ends at an offset has the record of a node of a symbol.
record IsNodeThere (g : Grammar) (content : List ℕ) (end symbol : ℕ) : Type 0 where
  body : List ℕ
  there : body_at content end ≡ Ok body
  number : ℕ
  values : List Value
  is_node : IsNode g body number values
  small : number < 2 ^ 16
  left_is : is_node.production.left ≡ symbol
  few : length values ≤ version_two.max_values

-- a body that is read at an offset within the content
within_content : (content : List ℕ) (end : ℕ) {body : List ℕ} → end ≤ length content
    → next_before version_two content end ≡ Ok (Some body) → body_at content end ≡ Ok body
within_content content end within found = rw (le-ltb (length content) end within) (body_there content end found)

-- a body that is read is the one before the offset
pub read_before : (content : List ℕ) (end : ℕ) {body : List ℕ} → body_at content end ≡ Ok body
    → body_before version_two content end ≡ Ok body
read_before content end = by_test (nat_lt (length content) end)
  where
    by_test : (past : Bool) {read : Result (List ℕ) FrameFault} {body : List ℕ}
        → cond past (Err (frame_fault.Damaged end)) read ≡ Ok body → read ≡ Ok body
    by_test true e = cc
    by_test false e = e

-- a body that is not read is reported at the offset
not_read : (content : List ℕ) (end : ℕ) {other : FrameFault} → body_at content end ≡ Err other → other ≡ frame_fault.Damaged end
not_read content end = by_tests (nat_lt (length content) end) (answers version_two content end)
  where
    by_tests : (past : Bool) {read : Result (List ℕ) FrameFault} {other : FrameFault}
        → ((body : List ℕ) × (read ≡ Ok body)) ⊎ (read ≡ Err (frame_fault.Damaged end))
        → cond past (Err (frame_fault.Damaged end)) read ≡ Err other → other ≡ frame_fault.Damaged end
    by_tests true read e = cc
    by_tests false (inl body) e = cc (body.1)
    by_tests false (inr damaged) e = cc

module _ {g : Grammar} {index : TreeIndex} (content : List ℕ) {places : List ℕ} {end symbol : ℕ}
    (at : IsSymbolAt g index places end symbol) where
  -- a tree of the file has a node of the symbol there
  node_in_tree : {m : Passes} {k : ℕ} {t : Tree} {v : Valuation} → IsLegal g m → IsTreeOf g t
      → IsFileOfTree version_two g m k t v content → IsIndexOf g m k t v content index → IsNodeThere g content end symbol
  node_in_tree {m} {k} {t} {v} legal fits file indexed =
      let here = at.at.numbered k t v indexed.nodes fits in
      let recorded = recorded_at here.path fits file here.there in
      let w = values_at v here.path in
      let there = record_there g m k t v content index at.at.number end here.tree w indexed here.occurs at.at.ends in
      by_tree here.tree w recorded.0 recorded.1 (kind_there k t v index at.at.number here.tree w indexed.nodes here.occurs)
      (within_content content end there.0 there.1)
    where
      by_tree : (tree : Tree) (w : Valuation) (x : Item) → IsRecorded g m k x tree w
          → kind_in index at.at.number ≡ Some (kind_of tree) → body_at content end ≡ Ok (record_of g m k tree w)
          → IsNodeThere g content end symbol
      by_tree (leaf c y) w x recorded what there = absurd (cc (at.node.is_node))
      by_tree (node r ts) w (item.Terminal a) recorded what there = elim recorded.fits [ ]
      by_tree (node r ts) w (item.Symbol s) recorded what there =
          let f = recorded.fits in
          let n = at.node in
          let passes = left_passes m (slice_get g.productions r) in
          let own = values_up_to k passes (w []) in
          let copies = copies_of g m k ts (children w) in
          let within = slice_get_within g.productions r f.0 f.1 in
          let of_left : passes ≡ m f.0.left = rw f.1 refl in
          record {
            body = record_of g m k (node r ts) w;
            there = there;
            number = r;
            values = own ++ copies;
            is_node = record {
              production = f.0;
              there = f.1;
              well =
                  stored_well true own copies (values_well k passes (w []) recorded.well.0)
                  (copies_well g m k ts (children w) recorded.texts.1 recorded.well.1);
              same = refl;
            };
            small = omega (arith, numbered g n.accepted);
            left_is = cc (n.is_node, n.there, n.left_is, f.1);
            few = omega (
              arith,
              length-append own copies,
              values_few k passes (w []),
              ap length of_left,
              copies_few g m k (stored_items f.0.items) ts (children w) f.3,
              (fits_version_two g m n.accepted legal).1.nodes r f.0 f.1,
            );
          }

  -- no frame ends where the record should end
  pub no_frame : (other : FrameFault)
      → ReadsAs (λ (body : Vec ℕ). body.items) (Err other) (body_at content end)
      → IsChainFault g index content (tree_fault_of other)
  no_frame frame_fault.NotATreeFile read = absurd (cc (not_read content end read))
  no_frame (frame_fault.Damaged other) read =
      let same : end ≡ other = cc (not_read content end read) in
      rw (← same) (
        places,
        at.at,
        λ indexed m k t v small legal fits file.
            let n = node_in_tree legal fits file (indexed m k t v small legal fits file) in cc (n.there, read),
      )
  no_frame frame_fault.Device read = tt
  no_frame frame_fault.NoMemory read = tt

  -- the body is no record of the symbol
  pub no_record : {body : List ℕ} → body_at content end ≡ Ok body → IsNoRecord g (item.Symbol symbol) body
      → IsChainFault g index content (fault.Damaged end)
  no_record {body} read none = (
    places,
    at.at,
    λ indexed m k t v small legal fits file.
        let n = node_in_tree legal fits file (indexed m k t v small legal fits file) in
        let same : body ≡ n.body = cc (n.there) in
        subst (IsNoNode g symbol) same none n.number n.values n.is_node n.small n.left_is n.few,
  )

-- a fault that is passed on
pub fault_from : {T : Type 0} (P : TreeFault → Type 0) (result : Result T TreeFault) {fault : TreeFault}
    → IsErrAnd result (λ e. e ≡ fault) → P fault → IfErr result P
fault_from P (Ok x) is holds = elim is [ ]
fault_from P (Err e) is holds = rw is holds
