-- Converting the records of a file of version 1: those read and those to be read, one tree after the other.
use Rattle.std.proofs.Common.{◌≡◌, ℕ, suc, ◌+◌, ◌-◌, ◌<◌, ◌≤◌, Bool, true, List, [], ◌∷◌, ◌++◌, All, length, reverse, pos, get_or}
use Rattle.std.proofs.Common.{take, drop, Option, Some, None, Ok, Err, refl, ap, sym, subst, ◌∙◌, append_assoc, append-nil}
use Rattle.std.proofs.Common.{length-append, arith}
use Rattle.std.specs.List.{flat_map}
use Rattle.std.specs.Option.{IfSome}
use Rattle.ag_value.specs.Well.{IsWell}
use Rattle.std.proofs.lemmas.List.Elements.{All-cons, All-nil}
use Rattle.std.proofs.lemmas.Grind.{flat_map-append}
use Rattle.std.proofs.lemmas.List.{drop_more, reverse-append, reverse-reverse, take-append-drop, take_more}
use Rattle.ag_value.specs.declared.value.Value.{Value, Num, Text}
use Rattle.ag_grammar.specs.declared.direction.Direction.TheVariants.{RightToLeft}
use Rattle.ag_grammar.specs.declared.grammar.Item.{Item}
use Rattle.ag_grammar.specs.declared.grammar.Item.TheVariants as item
use Rattle.ag_grammar.specs.declared.grammar.Production.{Production}
use Rattle.ag_grammar.specs.declared.grammar.Terminal.TheVariants.{Literal, Class}
use Rattle.ag_grammar.specs.grammars.Accepted.{IsAccepted}
use Rattle.ag_grammar.specs.grammars.AttributeGrammar.{Grammar, IsProduction, stored_items}
use Rattle.ag_grammar.specs.grammars.Tree as tree
use Rattle.ag_grammar.specs.grammars.Tree.{FitsAll, Forest, deepest, node_counts}
use Rattle.treefile.specs.framing.ExpectedRecords.{Breaks, Child, HasNoTree, HasNoTreeWithin, IsNoRecord, IsRecordOf, Pending}
use Rattle.treefile.specs.framing.ExpectedRecords.{before_others, pending_root, children_with_copies}
use Rattle.treefile.specs.framing.Backward.{ReadsTo, before_frame, next_before}
use Rattle.treefile.specs.framing.Ending.{ReadsAs, version_one_usable}
use Rattle.treefile.specs.devices.Device.{WhenHonest}
use Rattle.treefile.specs.records.FirstFile.{HasNoFirstTree, HasNoFirstTreeWithin, first_bodies, first_bodies_all, leaf_texts}
use Rattle.treefile.specs.records.FirstFile.{no_passes}
use Rattle.treefile.specs.records.Orders.{postfix, postfix_all, prefix, prefix_all}
use Rattle.treefile.specs.records.Records.{token_body}
use Rattle.treefile.specs.records.TreeFile.{Version, body_of, frame, version_one, version_two}
use Rattle.treefile.specs.declared.body.Kind.TheVariants.{Node, Token}
use Rattle.treefile.specs.declared.reading.FrameFault.{FrameFault}
use Rattle.treefile.specs.declared.reading.FrameFault.TheVariants as frame_fault
use Rattle.treefile.proofs.framing.Backward.{damage_is_there, never_no_file, reads_on}
use Rattle.treefile.proofs.records.FirstFile.{first_body, unassigned_from_one}
use Rattle.treefile.proofs.records.Fitting.{numbered}
use Rattle.treefile.proofs.records.Texts.{texts_are_given}
use Rattle.backreader.specs.BackState.{Progress}
use Rattle.backreader.specs.turning.Turning.{max_reversed_levels, max_reversed_records}
use Rattle.pass_rows.specs.Faults.{run_fault_of_frame}
use Rattle.tree_upgrade.specs.upgrading.Upgrading.{Converted, IsAt, IsOf, IsUnconverted, IsUpgradeFault, body_in, pending_items}
use Rattle.tree_upgrade.specs.upgrading.Upgrading.{old_file, text_list, upcoming}
use Rattle.tree_upgrade.specs.declared.upgrading.old_record.OldRecord.{OldRecord}
use Rattle.tree_upgrade.specs.declared.upgrading.old_record.OldRecord.TheVariants as old
use Rattle.pass_rows.specs.declared.run_fault.RunFault.{RunFault}
use Rattle.pass_rows.specs.declared.run_fault.RunFault.TheVariants as fault
use Rattle.passrun.specs.Damage.{IsWithin}
use Rattle.passrun.proofs.Damage.{IsDecidable, broken, leaves_on, too_deep, too_many}

-- ---- children to be read

-- The children of two right sides, one after the other.
pub stored_both : (xs ys : List Item) → stored_items (xs ++ ys) ≡ stored_items xs ++ stored_items ys
stored_both [] ys = refl
stored_both (item.Symbol s ∷ xs) ys = ap (λ zs. item.Symbol s ∷ zs) (stored_both xs ys)
stored_both (item.Terminal (Class c) ∷ xs) ys = ap (λ zs. item.Terminal (Class c) ∷ zs) (stored_both xs ys)
stored_both (item.Terminal (Literal l) ∷ xs) ys = stored_both xs ys

copies_of_both : (g : Grammar) (xs ys : List Item)
    → children_with_copies version_one.has_copies g no_passes 0 (xs ++ ys) []
    ≡ children_with_copies version_one.has_copies g no_passes 0 xs []
    ++ children_with_copies version_one.has_copies g no_passes 0 ys []
copies_of_both g [] ys = refl
copies_of_both g (x ∷ xs) ys = ap (λ zs. (x, None) ∷ zs) (copies_of_both g xs ys)

before_both : (level : ℕ) (xs ys : List Child) (others : Pending)
    → before_others RightToLeft level (xs ++ ys) others ≡ before_others RightToLeft level ys
    (before_others RightToLeft level xs others)
before_both level [] ys others = refl
before_both level (x ∷ xs) ys others = before_both level xs ys ((level, x) ∷ others)

-- Of two right sides, one after the other, the children of the second are read first.
pub coming_both : (g : Grammar) (level : ℕ) (xs ys : List Item) (others : Pending)
    → pending_items g level (xs ++ ys) others ≡ pending_items g level ys (pending_items g level xs others)
coming_both g level xs ys others =
    ap (λ zs. before_others RightToLeft level (children_with_copies version_one.has_copies g no_passes 0 zs []) others)
    (stored_both xs ys)
    ∙ ap (λ zs. before_others RightToLeft level zs others) (copies_of_both g (stored_items xs) (stored_items ys))
    ∙ before_both level (upcoming g xs) (upcoming g ys) others

-- The pending list of one item that is a child begins with this child.
pub coming_one : (g : Grammar) (level : ℕ) (x : Item) (others : Pending) → stored_items (x ∷ []) ≡ x ∷ []
    → pending_items g level (x ∷ []) others ≡ (level, (x, None)) ∷ others
coming_one g level x others progress =
    ap (λ zs. before_others RightToLeft level (children_with_copies version_one.has_copies g no_passes 0 zs []) others) progress

-- ---- records

-- The children of the node of a record.
abbrev pub children_in : (g : Grammar) (x : Item) (r : OldRecord) → IsOf g x r → List Child
children_in g (item.Symbol s) (old.Node p) is = upcoming g is.0.items
children_in g (item.Symbol s) (old.Token d v) is = []
children_in g (item.Terminal a) r is = []

pub is_record : (g : Grammar) (x : Item) (r : OldRecord) (is : IsOf g x r)
    → IsRecordOf version_one g no_passes 0 (x, None) (body_in r) (children_in g x r is)
is_record g (item.Symbol s) (old.Node p) is = (
  p,
  is.0,
  (λ a. Num (pos 0)),
  record {
    production = is.1;
    left = is.2;
    well = λ a n e le. absurd (cc);
    copies = [];
    are_copies = refl;
    occurs = sym (first_body version_one g no_passes unassigned_from_one p (λ a. Num (pos 0)) []);
  },
  refl,
  tt,
)
is_record g (item.Symbol s) (old.Token d v) is = elim is [ ]
is_record g (item.Terminal (Class c)) (old.Token d v) is =
    (is.1.0, is.1.1, ap (λ n. body_of Token n (v ∷ [])) is.0 ∙ ap (λ w. body_of Token c (w ∷ [])) is.1.2, refl, tt)
is_record g (item.Terminal (Class c)) (old.Node p) is = elim is [ ]
is_record g (item.Terminal (Literal l)) r is = elim is [ ]

pub no_record : (g : Grammar) (x : Item) (body : List ℕ) → ((r : OldRecord) → IsOf g x r → body ≡ body_in r → ⊥)
    → IsNoRecord version_one g no_passes 0 (x, None) body
no_record g (item.Symbol s) body nothing ys (p, q, e, is, children, matching) =
    nothing (old.Node p) (q, is.production, is.left)
    (is.occurs ∙ first_body version_one g no_passes unassigned_from_one p e is.copies)
no_record g (item.Terminal (Class c)) body nothing ys (x, text, same, none, matching) =
    nothing (old.Token c (Text x)) (refl, (x, text, refl)) same
no_record g (item.Terminal (Literal l)) body nothing ys is = is

-- ---- faults

module _ (g : Grammar) (accepted : IsAccepted g) where
  pub decidable : IsDecidable (old_file g)
  decidable =
      record {
        few = numbered g accepted;
        usable = version_one_usable;
        fits = record { tokens = omega arith; nodes = λ p q is. omega arith };
      }

  -- A content that is the file of no tree under the empty assignment is the file of pass 0 of no tree under any.
  pub no_first : (content : List ℕ) → HasNoTree version_one g no_passes 0 content → HasNoFirstTree version_one g content
  no_first content none t tree is = let texts = texts_are_given g t in
      none t texts.0 tree (is no_passes texts.0 unassigned_from_one texts.1)

  pub no_first_within : (levels nodes : ℕ) (content : List ℕ) → HasNoTreeWithin levels nodes version_one g no_passes 0 content
      → HasNoFirstTreeWithin levels nodes version_one g content
  no_first_within levels nodes content none t tree within is = let texts = texts_are_given g t in
      none t texts.0 tree within (is no_passes texts.0 unassigned_from_one texts.1)

  -- Reading meets damage.
  pub breaks_at : (content : List ℕ) (progress : Progress) (todo : Pending) → IsAt g content progress todo
      → IsWithin (old_file g) todo progress.records
      → Breaks version_one g no_passes 0 todo (next_before version_one content progress.at)
      → IsUpgradeFault g content (fault.Damaged progress.at)
  breaks_at content progress todo is within so =
      let damaged =
      broken (old_file g) decidable content progress.at is.readable
      (todo, is.arrival, subst (IsWithin (old_file g) todo) is.counted within, so) in
      (no_first content damaged.none, damaged.shown)

  -- Reading exceeds a limit.
  pub goes_too_deep : (content : List ℕ) (progress : Progress) (level : ℕ) (x : Child) (todo : Pending)
      → IsAt g content progress ((level, x) ∷ todo) → max_reversed_levels < level → IsUpgradeFault g content fault.TooDeep
  goes_too_deep content progress level x todo is deep =
      let far =
      too_deep (old_file g) decidable content
      (record {
        readable = is.readable;
        at = progress.at;
        level = level;
        next = x;
        others = todo;
        arrival = is.arrival;
        deep = deep;
      }) in
      ((λ nodes. no_first_within max_reversed_levels nodes content (far.none nodes)), far.shown)

  pub goes_too_far : (content : List ℕ) (progress : Progress) (level : ℕ) (x : Child) (todo : Pending)
      → IsAt g content progress ((level, x) ∷ todo) → level ≤ max_reversed_levels → max_reversed_records ≤ progress.records
      → IsUpgradeFault g content fault.TooManyNodes
  goes_too_far content progress level x todo is deep many =
      let most = is.arrival.few in
      let counted = is.counted in
      let far =
      too_many (old_file g) decidable content
      (record {
        readable = is.readable;
        at = progress.at;
        level = level;
        next = x;
        others = todo;
        arrival = is.arrival;
        within = deep;
        full = omega arith;
      }) in
      ((λ levels. no_first_within levels max_reversed_records content (far.none levels)), far.shown)

  -- One more record was read.
  pub one_more : (content : List ℕ) (before now : Progress) (level : ℕ) (x : Item) (others : Pending) (r : OldRecord)
      (is : IsOf g x r) → level ≤ max_reversed_levels → before.records < max_reversed_records
      → next_before version_one content before.at ≡ Ok (Some (body_in r)) → now.at ≡ before_frame before.at (body_in r)
      → now.records ≡ before.records + 1
      → IsAt g content before ((level, (x, None)) ∷ others)
      → IsAt g content now (before_others RightToLeft (suc level) (children_in g x r is) others)
  one_more content before now level x others r is deep less found at records here =
      let bodies = here.arrival.bodies ++ body_in r ∷ [] in
      record {
        readable = here.readable;
        arrival = record {
          bodies = bodies;
          read =
              subst (ReadsTo version_one content (length content) bodies) (sym at)
              (reads_on version_one content here.arrival.bodies (body_in r ∷ []) (length content) before.at
              (before_frame before.at (body_in r)) here.arrival.read (found, refl));
          records =
              leaves_on (old_file g) RightToLeft here.arrival.bodies (body_in r) level (x, None) (children_in g x r is)
              (pending_root g) others here.arrival.records deep (is_record g x r is);
          few = omega (arith, less, here.counted, length-append here.arrival.bodies (body_in r ∷ []));
        };
        counted = omega (arith, records, here.counted, length-append here.arrival.bodies (body_in r ∷ []));
      }

  -- ---- an item whose record is to be read

  module _ (content : List ℕ) (x : Item) (level : ℕ) (progress : Progress) (stored : stored_items (x ∷ []) ≡ x ∷ []) where
    here : (others : Pending) → IsAt g content progress (pending_items g level (x ∷ []) others)
        → IsAt g content progress ((level, (x, None)) ∷ others)
    here others is = subst (IsAt g content progress) (coming_one g level x others stored) is

    pub one_too_deep : max_reversed_levels < level → IsUnconverted g content (x ∷ []) level progress fault.TooDeep
    one_too_deep deep others is = goes_too_deep content progress level (x, None) others (here others is) deep

    pub one_too_many : level ≤ max_reversed_levels → max_reversed_records ≤ progress.records
        → IsUnconverted g content (x ∷ []) level progress fault.TooManyNodes
    one_too_many deep many others is = goes_too_far content progress level (x, None) others (here others is) deep many

  module _ (content : List ℕ) (x : Item) (level : ℕ) (progress : Progress) (stored : stored_items (x ∷ []) ≡ x ∷ [])
      (deep : level ≤ max_reversed_levels) (less : progress.records < max_reversed_records) where
    -- The frame that ends at the reader's offset is damage, or none ends there.
    pub one_breaks : (at : ℕ) → at ≡ progress.at
        → ((others : Pending) → Breaks version_one g no_passes 0 ((level, (x, None)) ∷ others)
        (next_before version_one content progress.at)) → IsUnconverted g content (x ∷ []) level progress (fault.Damaged at)
    one_breaks at same so others is =
        subst (λ n. IsUpgradeFault g content (fault.Damaged n)) (sym same)
        (breaks_at content progress ((level, (x, None)) ∷ others) (here content x level progress stored others is)
        (deep, less) (so others))

    pub one_missing : (at : ℕ) → at ≡ progress.at → next_before version_one content progress.at ≡ Ok None
        → IsUnconverted g content (x ∷ []) level progress (fault.Damaged at)
    one_missing at same found =
        one_breaks at same (λ others. subst (Breaks version_one g no_passes 0 ((level, (x, None)) ∷ others)) (sym found) tt)

    pub one_wrong : (at : ℕ) (body : List ℕ) → at ≡ progress.at → next_before version_one content progress.at ≡ Ok (Some body)
        → ((r : OldRecord) → IsOf g x r → body ≡ body_in r → ⊥)
        → IsUnconverted g content (x ∷ []) level progress (fault.Damaged at)
    one_wrong at body same found nothing =
        one_breaks at same
        (λ others. subst (Breaks version_one g no_passes 0 ((level, (x, None)) ∷ others)) (sym found)
        (no_record g x body nothing))

    pub one_fault : {X : Type 0} (view : X → Option (List ℕ)) (f : FrameFault)
        → ReadsAs view (Err f) (next_before version_one content progress.at)
        → IsUnconverted g content (x ∷ []) level progress (run_fault_of_frame f)
    one_fault view frame_fault.NotATreeFile found = absurd (never_no_file version_one content progress.at found)
    one_fault view (frame_fault.Damaged at) found =
        one_breaks at (damage_is_there version_one content progress.at at found)
        (λ others. subst (Breaks version_one g no_passes 0 ((level, (x, None)) ∷ others)) (sym found) tt)
    one_fault view frame_fault.Device found = λ others is. tt
    one_fault view frame_fault.NoMemory found = λ others is. tt

-- A record with a production is a node's.
pub node_of : (g : Grammar) (x : Item) (p : ℕ) → IsOf g x (old.Node p) → (q : Production) × IsProduction g p q
node_of g (item.Symbol s) p is = (is.0, is.1)
node_of g (item.Terminal (Class c)) p is = elim is [ ]
node_of g (item.Terminal (Literal l)) p is = elim is [ ]

-- The children of a node are those of its production.
pub children_are : (g : Grammar) (x : Item) (p : ℕ) (items : List Item) (is : IsOf g x (old.Node p))
    → ((q : Production) → IsProduction g p q → items ≡ q.items) → children_in g x (old.Node p) is ≡ upcoming g items
children_are g (item.Symbol s) p items is all = ap (upcoming g) (sym (all is.0 is.1))
children_are g (item.Terminal (Class c)) p items is all = elim is [ ]
children_are g (item.Terminal (Literal l)) p items is all = elim is [ ]

-- ---- converted trees

-- The trees of one forest, followed by those of another.
abbrev pub beside : Forest → Forest → Forest
beside tree.none ts = ts
beside (tree.more u us) ts = tree.more u (beside us ts)

fits_both : (g : Grammar) (xs ys : List Item) (us ts : Forest) → FitsAll g xs us → FitsAll g ys ts
    → FitsAll g (xs ++ ys) (beside us ts)
fits_both g [] ys tree.none ts f h = h
fits_both g [] ys (tree.more u us) ts f h = elim f [ ]
fits_both g (x ∷ xs) ys tree.none ts f h = elim f [ ]
fits_both g (x ∷ xs) ys (tree.more u us) ts f h = (f.0, fits_both g xs ys us ts f.1 h)

deepest_both : (us ts : Forest) (n : ℕ) → deepest us ≤ n → deepest ts ≤ n → deepest (beside us ts) ≤ n
deepest_both tree.none ts n p q = q
deepest_both (tree.more u us) ts n p q =
    let rest = deepest_both us ts n (omega arith) q in
    omega arith

counts_both : (us ts : Forest) → node_counts (beside us ts) ≡ node_counts us + node_counts ts
counts_both tree.none ts = omega arith
counts_both (tree.more u us) ts = omega (arith, counts_both us ts)

texts_both : (us ts : Forest) → leaf_texts (beside us ts) ≡ leaf_texts us ++ leaf_texts ts
texts_both tree.none ts = refl
texts_both (tree.more (tree.leaf c x) us) ts = ap (λ vs. Text x ∷ vs) (texts_both us ts)
texts_both (tree.more (tree.node p ws) us) ts = texts_both us ts

-- From right to left, the trees of the second forest come first.
prefix_both : (version : Version) (us ts : Forest)
    → prefix_all RightToLeft (first_bodies_all version (beside us ts)) ≡ prefix_all RightToLeft (first_bodies_all version ts)
    ++ prefix_all RightToLeft (first_bodies_all version us)
prefix_both version tree.none ts = sym (append-nil (prefix_all RightToLeft (first_bodies_all version ts)))
prefix_both version (tree.more u us) ts =
    ap (λ (bodies : List (List ℕ)). bodies ++ prefix RightToLeft (first_bodies version u)) (prefix_both version us ts)
    ∙ append_assoc (prefix_all RightToLeft (first_bodies_all version ts)) (prefix_all RightToLeft (first_bodies_all version us))
    (prefix RightToLeft (first_bodies version u))

postfix_both : (version : Version) (us ts : Forest)
    → postfix_all RightToLeft (first_bodies_all version (beside us ts)) ≡ postfix_all RightToLeft (first_bodies_all version ts)
    ++ postfix_all RightToLeft (first_bodies_all version us)
postfix_both version tree.none ts = sym (append-nil (postfix_all RightToLeft (first_bodies_all version ts)))
postfix_both version (tree.more u us) ts =
    ap (λ (bodies : List (List ℕ)). bodies ++ postfix RightToLeft (first_bodies version u)) (postfix_both version us ts)
    ∙ append_assoc (postfix_all RightToLeft (first_bodies_all version ts)) (postfix_all RightToLeft (first_bodies_all version us))
    (postfix RightToLeft (first_bodies version u))

module _ (g : Grammar) (accepted : IsAccepted g) (content : List ℕ) where
  -- Nothing was converted if no item is a child.
  pub none_converted : (leading xs : List Item) (level : ℕ) (progress : Progress) (honest : Bool) (out : List ℕ)
      → stored_items xs ≡ [] → Converted g content leading xs level progress progress honest out out []
  none_converted leading xs level progress honest out none =
      let same : (others : Pending) → pending_items g level (leading ++ xs) others ≡ pending_items g level leading others =
      λ others. coming_both g level leading xs others
      ∙ ap
      (λ zs. before_others RightToLeft level (children_with_copies version_one.has_copies g no_passes 0 zs [])
      (pending_items g level leading others)) none in
      record {
        trees = tree.none;
        fits = subst (λ zs. FitsAll g zs tree.none) (sym none) tt;
        deep = omega arith;
        read = refl;
        nodes = omega arith;
        on = λ others is. subst (IsAt g content progress) (same others) is;
        written = λ h. sym (append-nil out);
        texts_are = refl;
      }

  -- If `honest` implies `then`, what `Converted` claims under the premise `then` holds under the premise `honest` too.
  abbrev pub converted_supposed : (leading xs : List Item) (level : ℕ) (before now : Progress) (honest then : Bool)
      (out_old out_now : List ℕ) (texts : List Value) → (honest ≡ true → then ≡ true)
      → Converted g content leading xs level before now then out_old out_now texts
      → Converted g content leading xs level before now honest out_old out_now texts
  converted_supposed leading xs level before now honest then out_old out_now texts supposed converted =
      record {
        trees = converted.trees;
        fits = converted.fits;
        deep = converted.deep;
        read = converted.read;
        nodes = converted.nodes;
        on = converted.on;
        written = λ h. converted.written (supposed h);
        texts_are = converted.texts_are;
      }

  -- More trees were converted, those of the items before the ones converted so far.
  pub more_converted : (leading xs ys : List Item) (level : ℕ) (before between now : Progress) (honest : Bool)
      (out_old out_between out_now : List ℕ) (texts others : List Value)
      → Converted g content (leading ++ xs) ys level before between honest out_old out_between texts
      → Converted g content [] xs level between now honest out_between out_now others
      → Converted g content leading (xs ++ ys) level before now honest out_old out_now (texts ++ others)
  more_converted leading xs ys level before between now honest out_old out_between out_now texts others following next =
      let us = next.trees in
      let ts = following.trees in
      let bodies = first_bodies_all version_two in
      record {
        trees = beside us ts;
        fits =
            subst (λ zs. FitsAll g zs (beside us ts)) (sym (stored_both xs ys))
            (fits_both g (stored_items xs) (stored_items ys) us ts next.fits following.fits);
        deep = deepest_both us ts (suc max_reversed_levels - level) next.deep following.deep;
        read =
            subst (λ (read : List (List ℕ)). ReadsTo version_one content before.at read now.at)
            (sym (prefix_both version_one us ts))
            (reads_on version_one content (prefix_all RightToLeft (first_bodies_all version_one ts))
            (prefix_all RightToLeft (first_bodies_all version_one us)) before.at between.at now.at following.read
            next.read);
        nodes = omega (arith, next.nodes, following.nodes, counts_both us ts);
        on =
            λ later is. next.on (pending_items g level leading later)
            (subst (IsAt g content between) (coming_both g level leading xs later)
            (following.on later
            (subst (λ zs. IsAt g content before (pending_items g level zs later))
            (sym (append_assoc leading xs ys)) is)));
        written = λ h.
            next.written h ∙ ap (λ (bytes : List ℕ). bytes ++ flat_map frame (postfix_all RightToLeft (bodies us)))
            (following.written h)
            ∙ append_assoc out_old (flat_map frame (postfix_all RightToLeft (bodies ts)))
            (flat_map frame (postfix_all RightToLeft (bodies us)))
            ∙ ap (λ (bytes : List ℕ). out_old ++ bytes)
            (sym (flat_map-append frame (postfix_all RightToLeft (bodies ts)) (postfix_all RightToLeft (bodies us)))
            ∙ ap (flat_map frame) (sym (postfix_both version_two us ts)));
        texts_are =
            ap (λ vs. vs ++ others) following.texts_are ∙ ap (λ vs. reverse (leaf_texts ts) ++ vs) next.texts_are
            ∙ sym (reverse-append (leaf_texts us) (leaf_texts ts)) ∙ ap reverse (sym (texts_both us ts));
      }

  -- The fault with which a child fails is also true as the fault of its parent.
  pub child_refused : (x child : Item) (leading ys : List Item) (level : ℕ) (before first now : Progress) (r : OldRecord)
      (is : IsOf g x r) (honest : Bool) (out_old out_now : List ℕ) (texts : List Value) (f : RunFault)
      → stored_items (x ∷ []) ≡ x ∷ [] → level ≤ max_reversed_levels → before.records < max_reversed_records
      → next_before version_one content before.at ≡ Ok (Some (body_in r)) → first.at ≡ before_frame before.at (body_in r)
      → first.records ≡ before.records + 1
      → children_in g x r is ≡ upcoming g ((leading ++ child ∷ []) ++ ys)
      → Converted g content (leading ++ child ∷ []) ys (suc level) first now honest out_old out_now texts
      → IsUnconverted g content (child ∷ []) (suc level) now f → IsUnconverted g content (x ∷ []) level before f
  child_refused x child leading ys level before first now r is honest out_old out_now texts f stored deep less found at records
      children converted refused others here =
      let one =
      one_more g accepted content before first level x others r is deep less found at records
      (subst (IsAt g content before) (coming_one g level x others stored) here) in
      let all : IsAt g content first (pending_items g (suc level) ((leading ++ child ∷ []) ++ ys) others) =
      subst (λ zs. IsAt g content first (before_others RightToLeft (suc level) zs others)) children one in
      refused (pending_items g (suc level) leading others)
      (subst (IsAt g content now) (coming_both g (suc level) leading (child ∷ []) others) (converted.on others all))

  -- One more item was converted, from right to left.
  pub next_converted : (items : List Item) (at level : ℕ) (d : Item) (before between now : Progress) (honest : Bool)
      (out_old out_between out_now : List ℕ) (texts text all : List Value) → 0 < at → at ≤ length items
      → Converted g content (take at items) (drop at items) level before between honest out_old out_between texts
      → Converted g content [] (get_or items (at - 1) d ∷ []) level between now honest out_between out_now text
      → all ≡ texts ++ text
      → Converted g content (take (at - 1) items) (drop (at - 1) items) level before now honest out_old out_now all
  next_converted items at level d before between now honest out_old out_between out_now texts text all some within so_far next
      same =
      let x = get_or items (at - 1) d in
      let step : at - 1 + 1 ≡ at = omega arith in
      let leading : take at items ≡ take (at - 1) items ++ x ∷ [] =
      ap (λ n. take n items) (sym step) ∙ take_more items (at - 1) d (omega arith) in
      let following : drop (at - 1) items ≡ x ∷ drop at items =
      drop_more items (at - 1) d (omega arith) ∙ ap (λ n. x ∷ drop n items) step in
      let here =
      subst (λ xs. Converted g content xs (drop at items) level before between honest out_old out_between texts) leading
      so_far in
      subst (λ vs. Converted g content (take (at - 1) items) (drop (at - 1) items) level before now honest out_old out_now vs)
      (sym same)
      (subst (λ ys. Converted g content (take (at - 1) items) ys level before now honest out_old out_now (texts ++ text))
      (sym following)
      (more_converted (take (at - 1) items) (x ∷ [])
      (drop at items) level before between now honest out_old out_between out_now texts text here next))

  -- As `child_refused`, for the next item of the parent's right side, from right to left.
  pub next_refused : (x : Item) (p : ℕ) (items : List Item) (at level : ℕ) (d : Item) (before first now : Progress)
      (is : IsOf g x (old.Node p)) (honest : Bool) (out_old out_now : List ℕ) (texts : List Value) (f : RunFault)
      → stored_items (x ∷ []) ≡ x ∷ [] → level ≤ max_reversed_levels → before.records < max_reversed_records
      → next_before version_one content before.at ≡ Ok (Some (body_of Node p []))
      → first.at ≡ before_frame before.at (body_of Node p []) → first.records ≡ before.records + 1
      → ((q : Production) → IsProduction g p q → items ≡ q.items) → 0 < at → at ≤ length items
      → Converted g content (take at items) (drop at items) (suc level) first now honest out_old out_now texts
      → IsUnconverted g content (get_or items (at - 1) d ∷ []) (suc level) now f → IsUnconverted g content (x ∷ []) level before f
  next_refused x p items at level d before first now is honest out_old out_now texts f stored deep less found begins records all
      some within so_far refused =
      let child = get_or items (at - 1) d in
      let step : at - 1 + 1 ≡ at = omega arith in
      let leading : take at items ≡ take (at - 1) items ++ child ∷ [] =
      ap (λ n. take n items) (sym step) ∙ take_more items (at - 1) d (omega arith) in
      let whole : items ≡ (take (at - 1) items ++ child ∷ []) ++ drop at items =
      sym (take-append-drop at items) ∙ ap (λ xs. xs ++ drop at items) leading in
      let here =
      subst (λ xs. Converted g content xs (drop at items) (suc level) first now honest out_old out_now texts) leading
      so_far in
      child_refused x child (take (at - 1) items) (drop at items) level before first now
      (old.Node p) is honest out_old out_now texts f stored deep less found begins records
      (children_are g x p items is all ∙ ap (upcoming g) whole) here refused

  -- A token was converted.
  pub token_converted : (x : Item) (level d : ℕ) (v : Value) (before now : Progress) (honest : Bool) (out_old out_now : List ℕ)
      → stored_items (x ∷ []) ≡ x ∷ [] → IsOf g x (old.Token d v) → level ≤ max_reversed_levels
      → before.records < max_reversed_records
      → next_before version_one content before.at ≡ Ok (Some (body_in (old.Token d v)))
      → now.at ≡ before_frame before.at (body_in (old.Token d v)) → now.records ≡ before.records + 1
      → WhenHonest honest (out_now ≡ out_old ++ frame (body_in (old.Token d v)))
      → Converted g content [] (x ∷ []) level before now honest out_old out_now (v ∷ [])
  token_converted (item.Symbol s) level d v before now honest out_old out_now stored is deep less found at records put =
      elim is [ ]
  token_converted (item.Terminal (Literal l)) level d v before now honest out_old out_now stored is deep less found at records
      put = elim is [ ]
  token_converted (item.Terminal (Class c)) level d v before now honest out_old out_now stored is deep less found at records put =
      let text = is.1.0 in
      let same : body_in (old.Token d v) ≡ token_body c text =
      ap (λ n. body_of Token n (v ∷ [])) is.0 ∙ ap (λ w. body_of Token c (w ∷ [])) is.1.2 in
      record {
        trees = tree.more (tree.leaf c text) tree.none;
        fits = ((refl, is.1.1), tt);
        deep = omega arith;
        read = subst (λ (body : List ℕ). ReadsTo version_one content before.at (body ∷ []) now.at) same (found, sym at);
        nodes = records;
        on =
            λ others here. one_more g accepted content before now level (item.Terminal (Class c)) others
            (old.Token d v) is deep less found at records here;
        written =
            λ h. put h ∙ ap (λ (bytes : List ℕ). out_old ++ bytes) (ap frame same ∙ sym (append-nil (frame (token_body c text))));
        texts_are = ap (λ w. w ∷ []) is.1.2;
      }

  -- A node was converted after its children.
  pub node_converted : (x : Item) (level p : ℕ) (before first now : Progress) (honest : Bool)
      (out_old out_between out_now : List ℕ) (texts : List Value)
      → stored_items (x ∷ []) ≡ x ∷ [] → (is : IsOf g x (old.Node p)) → level ≤ max_reversed_levels
      → before.records < max_reversed_records → next_before version_one content before.at ≡ Ok (Some (body_of Node p []))
      → first.at ≡ before_frame before.at (body_of Node p []) → first.records ≡ before.records + 1
      → (items : List Item) → ((q : Production) → IsProduction g p q → items ≡ q.items)
      → Converted g content [] items (suc level) first now honest out_old out_between texts
      → WhenHonest honest (out_now ≡ out_between ++ frame (body_of Node p (reverse texts)))
      → Converted g content [] (x ∷ []) level before now honest out_old out_now []
  node_converted (item.Terminal (Class c)) level p before first now honest out_old out_between out_now texts stored is deep less
      found at records items all converted put = elim is [ ]
  node_converted (item.Terminal (Literal l)) level p before first now honest out_old out_between out_now texts stored is deep less
      found at records items all converted put = elim is [ ]
  node_converted (item.Symbol s) level p before first now honest out_old out_between out_now texts stored is deep less found at
      records items all converted put =
      let ts = converted.trees in
      let q = is.0 in
      let same = all q is.1 in
      let below = converted.deep in
      let texts_back : reverse texts ≡ leaf_texts ts = ap reverse converted.texts_are ∙ reverse-reverse (leaf_texts ts) in
      let body = body_of Node p (leaf_texts ts) in
      record {
        trees = tree.more (tree.node p ts) tree.none;
        fits = ((q, is.1, is.2, subst (λ zs. FitsAll g (stored_items zs) ts) same converted.fits), tt);
        deep = omega arith;
        read = (
          found,
          subst (λ n. ReadsTo version_one content n (prefix_all RightToLeft (first_bodies_all version_one ts)) now.at) at
              converted.read,
        );
        nodes = omega (arith, records, converted.nodes);
        on =
            λ others here. converted.on others
            (subst (λ zs. IsAt g content first (pending_items g (suc level) zs others)) (sym same)
            (one_more g accepted content before first level (item.Symbol s) others
            (old.Node p) is deep less found at records here));
        written = λ h.
            put h ∙ ap (λ vs. out_between ++ frame (body_of Node p vs)) texts_back
            ∙ ap (λ (bytes : List ℕ). bytes ++ frame body) (converted.written h)
            ∙ append_assoc out_old (flat_map frame (postfix_all RightToLeft (first_bodies_all version_two ts))) (frame body)
            ∙ ap (λ (bytes : List ℕ). out_old ++ bytes)
            (sym (flat_map-append frame (postfix_all RightToLeft (first_bodies_all version_two ts)) (body ∷ [])
            ∙ ap (λ (bytes : List ℕ). flat_map frame (postfix_all RightToLeft (first_bodies_all version_two ts)) ++ bytes)
            (append-nil (frame body))));
        texts_are = refl;
      }

-- A text, if there is one, is well.
pub text_is_well : (text : Option Value) → IfSome text IsWell → All IsWell (text_list text)
text_is_well None well = All-nil IsWell
text_is_well (Some v) well = All-cons IsWell v [] well (All-nil IsWell)

pub one_text : (text : Option Value) → length (text_list text) ≤ 1
one_text None = omega arith
one_text (Some v) = omega arith
