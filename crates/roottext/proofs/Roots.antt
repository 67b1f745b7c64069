-- The root's record in the last file, and the value of `out` in it.
use Rattle.std.proofs.Common.{ℕ, ◌≡◌, ◌+◌, ◌-◌, ◌<◌, ◌≤◌, inl, inr, List, [], None, Some, slice_get, get_or, length, map, true}
use Rattle.std.proofs.Common.{Result, Ok, Err, refl, ap, sym, subst, ◌∙◌, arith, length-append}
use Rattle.std.proofs.lemmas.Bool.{cases_lt}
use Rattle.std.proofs.lemmas.List.{get_or_past, length-map}
use Rattle.std.proofs.lemmas.Option.{slice_get-get_or, slice_get_within}
use Rattle.ag_value.specs.Well.{IsWell}
use Rattle.ag_value.specs.declared.value.Value.{Value, Text}
use Rattle.ag_grammar.specs.declared.grammar.Item.TheVariants as item
use Rattle.ag_grammar.specs.Lists.{Each}
use Rattle.ag_grammar.specs.grammars.Accepted.{IsAccepted, IsOut, out_name}
use Rattle.ag_grammar.specs.grammars.AttributeGrammar.{Grammar, Inherited, Synthesized, stored_items, symbol_kinds}
use Rattle.ag_grammar.specs.grammars.Passes.{IsLegal, Passes}
use Rattle.ag_grammar.specs.grammars.Solution.{IsTranslation, Valuation, WellAt, children, left_passes}
use Rattle.ag_grammar.specs.grammars.Tree.{IsTreeOf, Tree, leaf, node}
use Rattle.passassign.specs.Rows.{AreAtMost, IsGreatest, passes_of}
use Rattle.passcode.specs.Rows.{Lists}
use Rattle.passcode.proofs.lists.Shaped.{greatest_most}
use Rattle.planchecker.specs.Plans.{IsPlan}
use Rattle.passcode.specs.Settings.{EvaluationPlan, Setting, setting_of}
use Rattle.pass_rows.specs.reading.Reading.{IsNoNode, IsNodeRead}
use Rattle.pass_rows.specs.Places.{copies}
use Rattle.passrun.proofs.course.Ahead.{no_record}
use Rattle.pass_rows.proofs.Recorded.{copies_counted, copies_well}
use Rattle.passrun.proofs.places.Slots.{get_left}
use Rattle.treefile.specs.framing.ExpectedRecords.{IsNodeRecord}
use Rattle.treefile.specs.framing.Ending.{ReadsAs, last_body_of, version_two_usable}
use Rattle.treefile.specs.records.Records.{IsFileOfTree, copies_of, node_body, values_up_to}
use Rattle.treefile.proofs.records.Copies.{are_copies}
use Rattle.treefile.specs.records.TreeFile.{version_two}
use Rattle.treefile.specs.declared.reading.FrameFault.{FrameFault}
use Rattle.treefile.specs.declared.reading.FrameFault.TheVariants as frame_fault
use Rattle.treefile.proofs.framing.Files.{damaged_at_end}
use Rattle.treefile.proofs.records.Fitting.{fits_version_two}
use Rattle.treefile.proofs.framing.Root.{root_is_last, values_are_whole}
use Rattle.treefile.proofs.records.Spelled.{same_node}
use Rattle.agoutput.specs.declared.out_fault.OutFault.{OutFault}
use Rattle.agoutput.specs.declared.out_fault.OutFault.TheVariants as out_fault
use Rattle.agoutput.specs.OutFaults.{out_fault_of}
use Rattle.roottext.specs.Roots.{EndsWithNoRoot, EndsWithRoot, FindsText, FindsValue, IsRootRecord, MatchesRoot}

-- no attribute of a symbol is of a later pass than the greatest
pub at_most : (assignment : List (List ℕ)) (last s : ℕ) → AreAtMost last assignment
    → Each (λ p. p ≤ last) (passes_of assignment s)
at_most assignment last s most i p is = elim (cases_lt s (length assignment)) [
  | inl lt ↦ most s (passes_of assignment s) (slice_get-get_or assignment s [] lt) i p is
  | inr le ↦ absurd (let bad : slice_get {X = ℕ} [] i ≡ Some p =
      subst (λ row. slice_get row i ≡ Some p) (get_or_past assignment s [] le) is in let worse : ⊥ = cc in worse)
]

one_greatest : (assignment : List (List ℕ)) (a b : ℕ) → IsGreatest a assignment → IsGreatest b assignment → a ≡ b
one_greatest assignment a b h g = let u = greatest_most assignment a b h g in let w = greatest_most assignment b a g h in
    omega arith

-- the start symbol's `out` has a pass
out_pass : (g : Grammar) (m : Passes) (a : ℕ) → IsLegal g m → IsOut g a → (p : ℕ) × (slice_get (m g.start) a ≡ Some p)
out_pass g m a legal out =
    let s = out.0 in
    let within : a < length s.syn = slice_get_within s.syn a out_name out.2 in
    let whole : length (m g.start) ≡ length (symbol_kinds (Some s)) =
    legal.whole g.start ∙ ap (λ o. length (symbol_kinds o)) out.1 in
    let parts = length-append (map (λ (n : List ℕ). Synthesized) s.syn) (map (λ (n : List ℕ). Inherited) s.inh) in
    let prefix = length-map s.syn (λ (n : List ℕ). Synthesized) in
    let less : a < length (m g.start) = omega (arith, whole, parts, prefix, within) in
    (get_or (m g.start) a 0, slice_get-get_or (m g.start) a 0 less)

-- the start symbol has an `out`
some_out : (g : Grammar) → IsAccepted g → (a : ℕ) × IsOut g a
some_out g accepted = let start = accepted.start in (start.out.0, (start.symbol, start.declared, start.out.1))

-- equal faults are equal as results of another type
pub same_fault : {A B F : Type 0} (e f : F) → ◌≡◌ {A = Result A F} (Err e) (Err f) → ◌≡◌ {A = Result B F} (Err e) (Err f)
same_fault e f is = let same : e ≡ f = cc in ap Err same

-- the values of the start symbol read into an empty row
pub started : (c : Setting) (s p : ℕ) (body : List ℕ) (old new : List Value) → s ≡ c.grammar.start → old ≡ []
    → IsNodeRead c s p body old new → IsNodeRead c c.grammar.start p body [] new
started c s p body old new start empty read =
    subst (λ xs. IsNodeRead c c.grammar.start p body xs new) empty (subst (λ n. IsNodeRead c n p body old new) start read)

-- in the row read from the root's record the value of `out` is at its number
pub out_in_row : (g : Grammar) (plan : EvaluationPlan) (last a p : ℕ) (body : List ℕ) (new : List Value)
    → IsPlan g plan.assignment plan.code → IsGreatest last plan.assignment → IsOut g a
    → (read : IsNodeRead (setting_of g plan (last + 1)) g.start p body [] new)
    → slice_get new a ≡ Some (read.values a)
out_in_row g plan last a p body new planned greatest out read =
    let pass = out_pass g (passes_of plan.assignment) a planned.legal out in
    let own = values_up_to (last + 1) (passes_of plan.assignment g.start) read.values in
    let copied = copies (setting_of g plan (last + 1)) (last + 1) (stored_items read.production.items) read.table in
    ap (λ xs. slice_get xs a) read.row
    ∙ get_left own copied a (read.values a)
    (values_are_whole (last + 1) (passes_of plan.assignment g.start) read.values a pass.0
    (λ i n is. let le = at_most plan.assignment last g.start greatest.most i n is in omega arith) pass.1)

pub out_within : (g : Grammar) (plan : EvaluationPlan) (last a p : ℕ) (body : List ℕ) (new : List Value)
    → IsPlan g plan.assignment plan.code → IsGreatest last plan.assignment → IsOut g a
    → IsNodeRead (setting_of g plan (last + 1)) g.start p body [] new → a < length new
out_within g plan last a p body new planned greatest out read =
    slice_get_within new a (read.values a) (out_in_row g plan last a p body new planned greatest out read)

-- the record that was read with the setting of pass `last` + 1 is one of the file of pass `last`
record_of : (g : Grammar) (plan : EvaluationPlan) (last p : ℕ) (body : List ℕ) (new : List Value)
    → (read : IsNodeRead (setting_of g plan (last + 1)) g.start p body [] new)
    → IsNodeRecord version_two g (passes_of plan.assignment) (last + 1 - 1) g.start body p read.production read.values
record_of g plan last p body new read =
    let c = setting_of g plan (last + 1) in
    let xs = stored_items read.production.items in
    record {
      production = read.there;
      left = read.left;
      well = λ i n e le. read.well i;
      copies = copies c (last + 1 - 1) xs read.table;
      are_copies =
          (copies_counted c (last + 1 - 1) xs read.table, copies_well c (last + 1 - 1) xs read.table read.table_well);
      occurs = read.same;
    }

-- the record that was read is the root's, with the value at the number of `out`
pub root_read : (g : Grammar) (plan : EvaluationPlan) (last a p : ℕ) (body : List ℕ) (new : List Value)
    (x : Value) → IsPlan g plan.assignment plan.code → IsGreatest last plan.assignment → IsOut g a
    → IsNodeRead (setting_of g plan (last + 1)) g.start p body [] new → x ≡ get_or new a x
    → IsRootRecord g plan.assignment body x
root_read g plan last a p body new x planned greatest out read is =
    let here = out_in_row g plan last a p body new planned greatest out read in
    let there = slice_get-get_or new a x (slice_get_within new a (read.values a) here) in
    let both : Some (read.values a) ≡ Some (get_or new a x) = sym here ∙ there in
    let same : read.values a ≡ get_or new a x = cc in
    let back : last + 1 - 1 ≡ last = omega arith in
    record {
      last = last;
      greatest = greatest;
      number = p;
      production = read.production;
      values = read.values;
      node =
          subst (λ k. IsNodeRecord version_two g (passes_of plan.assignment) k g.start body p read.production read.values) back
          (record_of g plan last p body new read);
      attribute = a;
      out = out;
      value = same ∙ sym is;
    }

-- if the body is not the record of a node of the start symbol in the file of pass `last`, it is not a root's record
pub no_root : (g : Grammar) (plan : EvaluationPlan) (last : ℕ) (body : List ℕ) → IsGreatest last plan.assignment
    → IsNoNode (setting_of g plan (last + 1)) g.start body → (x : Value) → IsRootRecord g plan.assignment body x → ⊥
no_root g plan last body greatest nothing x root =
    let m = passes_of plan.assignment in
    let n = root.number in
    let same : root.last ≡ last + 1 - 1 = one_greatest plan.assignment root.last last root.greatest greatest ∙ omega arith in
    let it : IsNodeRecord version_two g m (last + 1 - 1) g.start body n root.production root.values =
    subst (λ k. IsNodeRecord version_two g m k g.start body n root.production root.values) same root.node in
    no_record (setting_of g plan (last + 1)) (item.Symbol g.start) body None nothing _
    (n, root.production, root.values, it, refl, tt)

-- the value of `out` in the root's record is well
pub out_well : (g : Grammar) (assignment : List (List ℕ)) (code : Lists) (body : List ℕ) (x : Value) → IsPlan g assignment code
    → IsRootRecord g assignment body x → IsWell x
out_well g assignment code body x plan root =
    let pass = out_pass g (passes_of assignment) root.attribute plan.legal root.out in
    let few = at_most assignment root.last g.start root.greatest.most root.attribute pass.0 pass.1 in
    subst IsWell root.value (root.node.well root.attribute pass.0 pass.1 few)

-- The last record of a tree's file is the root's.
root_of_tree : (g : Grammar) (assignment : List (List ℕ)) (code : Lists) (last : ℕ) (t : Tree) (v : Valuation) (content : List ℕ)
    → IsAccepted g → IsPlan g assignment code → IsTreeOf g t → IsFileOfTree version_two g (passes_of assignment) last t v content
    → (body : List ℕ) × (p : ℕ) × (q : _) × (last_body_of version_two content ≡ Ok body)
    × IsNodeRecord version_two g (passes_of assignment) last g.start body p q (v [])
root_of_tree g assignment code last (leaf c x) v content accepted plan fits is = absurd fits
root_of_tree g assignment code last (node p ts) v content accepted plan fits is =
    let m = passes_of assignment in
    let usable = fits_version_two g m accepted plan.legal in
    let passes : left_passes m (slice_get g.productions p) ≡ m g.start = ap (left_passes m) fits.1 ∙ ap m fits.2 in (
      node_body version_two g m last p (v []) (copies_of g m last ts (children v)),
      p,
      fits.0,
      root_is_last version_two g m last p ts v content version_two_usable usable.1 fits is,
      record {
        production = fits.1;
        left = fits.2;
        well = subst (λ ps. WellAt (λ n. n ≤ last) ps (v []) (v [])) passes is.well.0;
        copies = copies_of g m last ts (children v);
        are_copies = are_copies g m last true (stored_items fits.0.items) ts (children v) fits.3 is.texts.1 is.well.1;
        occurs = refl;
      },
    )

-- the value that a content ends with is the translation of the tree whose file it is
found_is_translation : (g : Grammar) (assignment : List (List ℕ)) (code : Lists) (last : ℕ) (t : Tree) (v : Valuation)
    (content : List ℕ) (x : Value) → IsAccepted g → IsPlan g assignment code → IsGreatest last assignment → IsTreeOf g t
    → IsFileOfTree version_two g (passes_of assignment) last t v content → EndsWithRoot g assignment content x
    → IsTranslation g v x
found_is_translation g assignment code last t v content x accepted plan greatest fits is found =
    let m = passes_of assignment in
    let tree = root_of_tree g assignment code last t v content accepted plan fits is in
    let root = found.root in
    let ok : Ok found.body ≡ Ok tree.0 = sym found.last ∙ tree.3 in
    let bodies : found.body ≡ tree.0 = cc in
    let lasts = one_greatest assignment root.last last root.greatest greatest in
    let mine : IsNodeRecord version_two g m last g.start tree.0 root.number root.production root.values =
    subst (λ k. IsNodeRecord version_two g m k g.start tree.0 root.number root.production root.values) lasts
    (subst (λ b. IsNodeRecord version_two g m root.last g.start b root.number root.production root.values) bodies
    root.node) in
    let one =
    same_node version_two g m last g.start g.start root.number tree.1 tree.0 root.production tree.2 root.values (v [])
    (fits_version_two g m accepted plan.legal).0 mine tree.4 in
    let pass = out_pass g m root.attribute plan.legal root.out in
    let few = at_most assignment last g.start greatest.most root.attribute pass.0 pass.1 in
    (root.attribute, root.out, sym (one.1 root.attribute pass.0 pass.1 few) ∙ root.value)

-- a tree's file ends with the root's record
tree_is_found : (g : Grammar) (assignment : List (List ℕ)) (code : Lists) (last : ℕ) (t : Tree) (v : Valuation) (content : List ℕ)
    → IsAccepted g → IsPlan g assignment code → IsGreatest last assignment → IsTreeOf g t
    → IsFileOfTree version_two g (passes_of assignment) last t v content → (x : Value) × EndsWithRoot g assignment content x
tree_is_found g assignment code last t v content accepted plan greatest fits is =
    let tree = root_of_tree g assignment code last t v content accepted plan fits is in
    let out = some_out g accepted in (
      v [] out.0,
      record {
        body = tree.0;
        last = tree.3;
        root =
            record {
              last = last;
              greatest = greatest;
              number = tree.1;
              production = tree.2;
              values = v [];
              node = tree.4;
              attribute = out.0;
              out = out.1;
              value = refl;
            };
      },
    )

-- What the result means for any content (`FindsText`) implies what it means for the file of a tree (`MatchesRoot`).
pub found_matches_root : (g : Grammar) (assignment : List (List ℕ)) (code : Lists) (content : List ℕ)
    (r : Result (List ℕ) OutFault) → IsAccepted g → IsPlan g assignment code → FindsText g assignment content r
    → MatchesRoot g assignment content r
found_matches_root g assignment code content (Ok text) accepted plan found last greatest t v fits is =
    found_is_translation g assignment code last t v content (Text text) accepted plan greatest fits is found
found_matches_root g assignment code content (Err (out_fault.NoText x)) accepted plan found last greatest t v fits is =
    (found_is_translation g assignment code last t v content x accepted plan greatest fits is found.0, found.1)
found_matches_root g assignment code content (Err out_fault.NotATreeFile) accepted plan found last greatest t v fits is =
    let tree = root_of_tree g assignment code last t v content accepted plan fits is in
    let both : Ok tree.0 ≡ Err frame_fault.NotATreeFile = sym tree.3 ∙ found in
    cc
found_matches_root g assignment code content (Err (out_fault.Damaged at)) accepted plan found last greatest t v fits is =
    let tree = tree_is_found g assignment code last t v content accepted plan greatest fits is in
    found.none tree.0 tree.1
found_matches_root g assignment code content (Err out_fault.Device) accepted plan found last greatest t v fits is = tt
found_matches_root g assignment code content (Err out_fault.NoMemory) accepted plan found last greatest t v fits is = tt

-- A fault in finding the last body of a content is one that `FindsValue` allows.
pub body_refused : {A : Type 0} (g : Grammar) (assignment : List (List ℕ)) (content : List ℕ) (view : A → List ℕ) (e : FrameFault)
    → ReadsAs view (Err e) (last_body_of version_two content) → FindsValue g assignment content (Err e)
body_refused g assignment content view frame_fault.NotATreeFile exact = exact
body_refused g assignment content view (frame_fault.Damaged at) exact = record {
  end = damaged_at_end version_two content at exact;
  begins = λ other. let both : Err (frame_fault.Damaged at) ≡ Err frame_fault.NotATreeFile = sym exact ∙ other in cc;
  none = λ x found. let both : Ok found.body ≡ Err (frame_fault.Damaged at) = sym found.last ∙ exact in cc;
}
body_refused g assignment content view frame_fault.Device exact = tt
body_refused g assignment content view frame_fault.NoMemory exact = tt

-- If the last body of a content is not the root's record, there is no root at the content's end.
pub no_root_at_end : (g : Grammar) (assignment : List (List ℕ)) (content body : List ℕ) (at : ℕ) → at ≡ length content
    → last_body_of version_two content ≡ Ok body → ((x : Value) → IsRootRecord g assignment body x → ⊥)
    → EndsWithNoRoot g assignment content at
no_root_at_end g assignment content body at end last nothing = record {
  end = end;
  begins = λ other. let both : Ok body ≡ Err frame_fault.NotATreeFile = sym last ∙ other in cc;
  none = λ x found. let both : Ok found.body ≡ Ok body = sym found.last ∙ last in let same : found.body ≡ body = cc in
      nothing x (subst (λ b. IsRootRecord g assignment b x) same found.root);
}

-- a fault of reading has the same meaning as the fault of the text
pub fault_found : (g : Grammar) (assignment : List (List ℕ)) (content : List ℕ) (e : FrameFault)
    → FindsValue g assignment content (Err e) → FindsText g assignment content (Err (out_fault_of e))
fault_found g assignment content frame_fault.NotATreeFile found = found
fault_found g assignment content (frame_fault.Damaged at) found = found
fault_found g assignment content frame_fault.Device found = tt
fault_found g assignment content frame_fault.NoMemory found = tt
