-- Converting a file of version 1: the whole content.
use Rattle.std.proofs.Common.{◌≡◌, ◌≢◌, ℕ, suc, ◌+◌, ◌-◌, ◌≤◌, Bool, true, List, [], ◌∷◌, ◌++◌, All, length, reverse, slice_get}
use Rattle.std.proofs.Common.{Option, Some, None, Result, Ok, Err, refl, ap, sym, subst, ◌∙◌, arith, length-take}
use Rattle.std.specs.List.{flat_map}
use Rattle.std.specs.Option.{option_map}
use Rattle.std.proofs.lemmas.Nat.{from_be_bytes-to_be_bytes_2}
use Rattle.std.proofs.lemmas.Option.{slice_get_within}
use Rattle.ag_value.specs.declared.value.Value.{Value}
use Rattle.ag_grammar.specs.declared.direction.Direction.TheVariants.{LeftToRight, RightToLeft}
use Rattle.ag_grammar.specs.declared.grammar.Item.{Item}
use Rattle.ag_grammar.specs.declared.grammar.Item.TheVariants as item
use Rattle.ag_grammar.specs.declared.grammar.Production.{Production}
use Rattle.ag_grammar.specs.declared.grammar.Terminal.TheVariants.{Literal, Class}
use Rattle.ag_grammar.specs.grammars.Accepted.{IsAccepted}
use Rattle.ag_grammar.specs.grammars.AttributeGrammar.{Grammar, stored_items}
use Rattle.ag_grammar.specs.grammars.Tree as tree
use Rattle.ag_grammar.specs.grammars.Tree.{Fits, FitsAll, Forest, IsTreeOf, Tree}
use Rattle.treefile.specs.framing.ExpectedRecords.{Breaks}
use Rattle.treefile.specs.framing.Backward.{ReadsTo, next_before, pass_in}
use Rattle.treefile.specs.devices.Device.{WhenHonest}
use Rattle.treefile.specs.framing.Ending.{IsBody, IsBytes, ReadsAs, version_one_usable}
use Rattle.treefile.specs.records.FirstFile.{IsFirstFile, first_bodies, first_bodies_all, first_file, no_passes}
use Rattle.treefile.specs.records.Orders as orders
use Rattle.treefile.specs.records.Orders.{AllMatchArity, MatchesArity, postfix, prefix}
use Rattle.treefile.specs.records.Records.{FitsVersion, max_copied, max_copies, synthesized_count}
use Rattle.treefile.specs.records.TreeFile.{file, frame, header, version_one, version_two}
use Rattle.treefile.specs.declared.body.Kind.TheVariants.{Node}
use Rattle.treefile.specs.declared.reading.FrameFault.{FrameFault}
use Rattle.treefile.specs.declared.reading.FrameFault.TheVariants as frame_fault
use Rattle.treefile.proofs.framing.Backward.{back_is_file, damage_is_there, never_no_file, none_at_header, reads_whole}
use Rattle.treefile.proofs.records.FirstFile.{bodies_are, is_first_file, same_count, same_depth, unassigned_from_one}
use Rattle.treefile.proofs.records.Fitting.{numbered}
use Rattle.treefile.proofs.records.OneTree.{one_file}
use Rattle.treefile.proofs.records.Records.{bodies_fit}
use Rattle.treefile.proofs.records.Texts.{texts_are_given}
use Rattle.backreader.specs.BackState.{IsOver, BackState, Progress}
use Rattle.backreader.specs.Arities.{arity_of}
use Rattle.backreader.specs.turning.Turning.{IsFileOf, IsWithinLimits, ReversesTree, Reverses, max_reversed_records}
use Rattle.backreader.specs.declared.turning.TurnFault.{TurnFault}
use Rattle.backreader.specs.declared.turning.TurnFault.TheVariants as turn_fault
use Rattle.backreader.proofs.turnings.Mirror.{postfix-reverse}
use Rattle.backreader.proofs.turnings.OneTurning.{tree_exact}
use Rattle.backreader.proofs.EndingAt.{all_bytes}
use Rattle.pass_rows.specs.Faults.{run_fault_of_frame, run_fault_of_turn}
use Rattle.tree_upgrade.specs.upgrading.Upgrading.{Converted, IsAt, IsConverted, IsUpgradeFault, IsUpgraded, old_file}
use Rattle.tree_upgrade.specs.upgrading.Upgrading.{stored_count}
use Rattle.pass_rows.specs.declared.run_fault.RunFault.TheVariants as fault
use Rattle.tree_upgrade.proofs.upgrades.Converted.{breaks_at, no_first, decidable}
use Rattle.passrun.proofs.Damage.{other_pass, readable, unstarted}

module _ (g : Grammar) (accepted : IsAccepted g) where
  -- ---- the beginning of the file

  pub not_begun : {X : Type 0} (view : X → ℕ) (content : List ℕ) (f : FrameFault)
      → ReadsAs view (Err f) (pass_in version_one content) → IsUpgradeFault g content (run_fault_of_frame f)
  not_begun view content frame_fault.NotATreeFile found =
      let damaged = (unstarted (old_file g) (decidable g accepted) content frame_fault.NotATreeFile found).1 in
      (no_first g accepted content damaged.none, damaged.shown)
  not_begun view content (frame_fault.Damaged at) found =
      let other = (unstarted (old_file g) (decidable g accepted) content (frame_fault.Damaged at) found).0 in
      absurd cc
  not_begun view content frame_fault.Device found = tt
  not_begun view content frame_fault.NoMemory found = tt

  pub of_other_pass : (content : List ℕ) (pass : ℕ) → pass_in version_one content ≡ Ok pass → pass ≢ 0
      → IsUpgradeFault g content (fault.Damaged 4)
  of_other_pass content pass found not =
      let damaged = other_pass (old_file g) (decidable g accepted) content pass (omega arith) found not in
      (no_first g accepted content damaged.none, damaged.shown)

  pub begins_at : (content : List ℕ) (pass : ℕ) (progress : Progress) → pass_in version_one content ≡ Ok pass → pass ≡ 0
      → progress.at ≡ length content → progress.records ≡ 0 → IsAt g content progress ((1, (item.Symbol g.start, None)) ∷ [])
  begins_at content pass progress found first end fresh = record {
    readable = readable (old_file g) (decidable g accepted) content pass found first;
    arrival = record { bodies = []; read = sym end; records = refl; few = omega arith };
    counted = fresh;
  }

  -- ---- the end of the file

  pub left_over : (content : List ℕ) (progress : Progress) (at : ℕ) (body : List ℕ) → at ≡ progress.at
      → IsAt g content progress [] → next_before version_one content progress.at ≡ Ok (Some body)
      → IsUpgradeFault g content (fault.Damaged at)
  left_over content progress at body same here found =
      subst (λ n. IsUpgradeFault g content (fault.Damaged n)) (sym same)
      (breaks_at g accepted content progress [] here tt (subst (Breaks version_one g no_passes 0 []) (sym found) tt))

  pub fault_after : {X : Type 0} (view : X → Option (List ℕ)) (content : List ℕ) (progress : Progress) (f : FrameFault)
      → IsAt g content progress [] → ReadsAs view (Err f) (next_before version_one content progress.at)
      → IsUpgradeFault g content (run_fault_of_frame f)
  fault_after view content progress frame_fault.NotATreeFile here found =
      absurd (never_no_file version_one content progress.at found)
  fault_after view content progress (frame_fault.Damaged at) here found =
      subst (λ n. IsUpgradeFault g content (fault.Damaged n)) (sym (damage_is_there version_one content progress.at at found))
      (breaks_at g accepted content progress [] here tt (subst (Breaks version_one g no_passes 0 []) (sym found) tt))
  fault_after view content progress frame_fault.Device here found = tt
  fault_after view content progress frame_fault.NoMemory here found = tt

  -- The root's tree was converted, and nothing is left after it.
  pub whole_converted : (content : List ℕ) (before : Progress) (now : BackState) (honest : Bool) (out_old out : List ℕ)
      (texts : List Value) → IsAt g content before ((1, (item.Symbol g.start, None)) ∷ []) → before.at ≡ length content
      → before.records ≡ 0
      → Converted g content [] (item.Symbol g.start ∷ []) 1 before now.progress honest out_old out texts → IsOver content now
      → now.progress.records ≤ max_reversed_records → next_before version_one content now.progress.at ≡ Ok None
      → WhenHonest honest (out_old ≡ header version_two 1)
      → IsConverted g content honest out
  whole_converted content before now honest out_old out texts here end fresh converted over few none begun =
      go converted.trees converted.fits converted.deep converted.read converted.nodes converted.written
    where
      bytes : IsBytes content
      bytes = all_bytes content now over (none_at_header version_one content now.progress.at none)

      go : (ts : Forest) → FitsAll g (item.Symbol g.start ∷ []) ts → tree.deepest ts ≤ 257 - 1
          → ReadsTo version_one content before.at
          (orders.prefix_all RightToLeft (first_bodies_all version_one ts)) now.progress.at
          → now.progress.records ≡ before.records + tree.node_counts ts
          → WhenHonest honest (out ≡ out_old ++ flat_map frame (orders.postfix_all RightToLeft (first_bodies_all version_two ts)))
          → IsConverted g content honest out
      go tree.none fits deep read nodes written = elim fits [ ]
      go (tree.more t (tree.more u ts)) fits deep read nodes written = elim fits.1 [ ]
      go (tree.more t tree.none) fits deep read nodes written =
          let bodies = prefix RightToLeft (first_bodies version_one t) in
          let from_end : ReadsTo version_one content (length content) bodies now.progress.at =
          subst (λ n. ReadsTo version_one content n bodies now.progress.at) end read in
          let occurs : content ≡ first_file version_one t =
          back_is_file version_one content bytes bodies version_one_usable here.readable.begins
          (reads_whole version_one content bodies (length content) now.progress.at from_end none)
          ∙ ap (λ n. file version_one n (reverse bodies)) here.readable.number
          ∙ ap (file version_one 0) (sym (postfix-reverse LeftToRight (first_bodies version_one t))) in
          record {
            tree = t;
            fits = fits.0;
            within = record { deep = omega arith; large = omega arith };
            from = is_first_file version_one g t content fits.0 occurs;
            to =
                λ h. written h ∙ ap (λ (xs : List ℕ). xs ++ flat_map frame (postfix RightToLeft (first_bodies version_two t)))
                (begun h);
          }

  -- A content is the file of version 1 and pass 0 of at most one tree.
  first_tree : (content : List ℕ) (t s : Tree) → IsTreeOf g t → IsTreeOf g s → IsFirstFile version_one g t content
      → IsFirstFile version_one g s content → t ≡ s
  first_tree content t s fits also file other =
      let telling = decidable g accepted in
      let texts = texts_are_given g t in
      let words = texts_are_given g s in
      (one_file version_one g no_passes 0 t s texts.0 words.0 content telling.usable telling.fits telling.few fits also
      (file no_passes texts.0 unassigned_from_one texts.1) (other no_passes words.0 unassigned_from_one words.1)).0

  -- ---- reversing the intermediate file

  -- The number of a record determines the number of children of its node.
  mutual
    arities : (x : Item) (t : Tree) → Fits g x t → MatchesArity (arity_of (stored_count g)) (first_bodies version_two t)
    arities (item.Symbol s) (tree.leaf c x) fits = elim fits [ ]
    arities (item.Terminal (Literal l)) (tree.leaf c x) fits = elim fits [ ]
    arities (item.Terminal a) (tree.node p ts) fits = elim fits [ ]
    arities (item.Terminal (Class d)) (tree.leaf c x) fits = (refl, tt)
    arities (item.Symbol s) (tree.node p ts) (q, there, left, fits) =
        let within = slice_get_within g.productions p q there in
        let few = numbered g accepted in
        let many : length (stored_items q.items) ≡ orders.tree_count (first_bodies_all version_two ts) =
        tree_many (stored_items q.items) ts fits in
        let number = from_be_bytes-to_be_bytes_2 p (omega arith) in (
          ap (stored_count g Node) number ∙ ap (option_map (λ (q : Production). length (stored_items q.items))) there
              ∙ ap Some many,
          all_arities (stored_items q.items) ts fits,
        )

    all_arities : (xs : List Item) (ts : Forest) → FitsAll g xs ts
        → AllMatchArity (arity_of (stored_count g)) (first_bodies_all version_two ts)
    all_arities xs tree.none fits = tt
    all_arities [] (tree.more t ts) fits = elim fits [ ]
    all_arities (x ∷ xs) (tree.more t ts) fits = (arities x t fits.0, all_arities xs ts fits.1)

    tree_many : (xs : List Item) (ts : Forest) → FitsAll g xs ts → length xs ≡ orders.tree_count (first_bodies_all version_two ts)
    tree_many [] tree.none fits = refl
    tree_many [] (tree.more t ts) fits = elim fits [ ]
    tree_many (x ∷ xs) tree.none fits = elim fits [ ]
    tree_many (x ∷ xs) (tree.more t ts) fits = ap suc (tree_many xs ts fits.1)

  -- The records fit in frames.
  few_copies : (xs : List Item) → max_copies g no_passes xs ≤ length xs
  few_copies [] = omega arith
  few_copies (x ∷ xs) = omega (arith, few_copied x, few_copies xs)
    where
      few_copied : (x : Item) → max_copied g no_passes x ≤ 1
      few_copied (item.Symbol s) = omega (arith, length-take (synthesized_count (slice_get g.symbols s)) (no_passes s))
      few_copied (item.Terminal (Class c)) = omega arith
      few_copied (item.Terminal (Literal l)) = omega arith

  pub room : FitsVersion version_two g no_passes
  room =
      record {
        tokens = omega arith;
        nodes = λ p q is. let stored = accepted.limits.stored_count p q is in omega (arith, few_copies (stored_items q.items));
      }

  between : (t : Tree) (mid : List ℕ) → IsTreeOf g t → mid ≡ file version_two 1 (postfix RightToLeft (first_bodies version_two t))
      → IsFileOf (arity_of (stored_count g)) RightToLeft (first_bodies version_two t) mid
  between t mid fits is =
      let texts = texts_are_given g t in
      let first =
      is_first_file version_two g t (first_file version_two t) fits refl no_passes texts.0 unassigned_from_one texts.1 in
      record {
        arities = arities (item.Symbol g.start) t fits;
        bodies =
            subst (λ b. All (IsBody version_two) (postfix RightToLeft b))
            (bodies_are version_two g no_passes unassigned_from_one t texts.0)
            (bodies_fit version_two g no_passes 0 RightToLeft room
            (item.Symbol g.start) t texts.0 fits first.texts first.well);
        pass = 1;
        occurs = is;
      }

  module _ (content mid : List ℕ) (honest : Bool) (turned : List ℕ) (is : IsConverted g content true mid) where
    exact : (result : Result ℕ TurnFault) → Reverses (arity_of (stored_count g)) 0 mid honest turned result
        → ReversesTree 0 RightToLeft (first_bodies version_two is.tree) honest turned result
    exact result so =
        tree_exact (arity_of (stored_count g)) 0 mid honest turned RightToLeft (first_bodies version_two is.tree)
        (between is.tree mid is.fits (is.to refl)) result so

    within : IsWithinLimits (first_bodies version_two is.tree)
    within =
        let deep = is.within.deep in
        let large = is.within.large in
        record { deep = omega (arith, same_depth version_two is.tree); large = omega (arith, same_count version_two is.tree) }

    -- The intermediate file can be reversed, so only D1 and NoMemory are possible.
    pub turned_fault : (f : TurnFault) → Reverses (arity_of (stored_count g)) 0 mid honest turned (Err f)
        → IsUpgradeFault g content (run_fault_of_turn f)
    turned_fault turn_fault.NotATreeFile so = absurd (exact (Err turn_fault.NotATreeFile) so)
    turned_fault (turn_fault.Damaged at) so = absurd (exact (Err (turn_fault.Damaged at)) so)
    turned_fault (turn_fault.NotATree at) so = absurd (exact (Err (turn_fault.NotATree at)) so)
    turned_fault turn_fault.TooLarge so = absurd (exact (Err turn_fault.TooLarge) so within)
    turned_fault turn_fault.Device so = tt
    turned_fault turn_fault.NoMemory so = tt

    -- The reversed file is that of version 2.
    pub turned_tree : (count : ℕ) → Reverses (arity_of (stored_count g)) 0 mid honest turned (Ok count)
        → IsUpgraded g content mid honest turned count
    turned_tree count so =
        let it = exact (Ok count) so in
        record {
          tree = is.tree;
          fits = is.fits;
          within = is.within;
          from = is.from;
          only = λ another fits file. first_tree content another is.tree fits is.fits file is.from;
          halfway = is.to refl;
          to = λ h. is_first_file version_two g is.tree turned is.fits (it.2 h);
          nodes = it.1 ∙ same_count version_two is.tree;
        }
