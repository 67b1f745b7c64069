-- The faults that the search finds are all, and the head of their list is the first fault.
use Rattle.normalform.proofs.Common
use Common.{◌≡◌, ◌∙◌, Bool, true, false, List, [], ◌∷◌, ◌++◌, Option, Some, None, refl, sym, ap, subst, append_assoc, take}
use Common.{slice_get}
use Common.{RawGrammar, NormalFault, Check, first_wrong, naming_checks, AreAll, HasNoFault, IsFirstFault, in_names}
use Common.{in_productive, in_reached, in_rules, numbered, option_or, doubled_checks, missing_checks, later_kinds, limit_checks}
use Common.{resolved_productions}
use Rattle.ag_grammar.specs.grammars.Accepted.{IsProductive, IsReached}
use Rattle.normalform.specs.declared.faults.structure.SymbolCheck.TheVariants as symbol_check
use Rattle.normalform.specs.faults.Faults.{further_checks}
use Rattle.normalform.specs.faults.FaultList.{Found, wrong, kept, is_empty, is_full, after_checks}
use Rattle.normalform.specs.faults.AllFaults.{AreChecks, AreFaults, AreMarked, IsSearched, IsHead, nothing, checks_of_rules}
use Rattle.normalform.specs.faults.AllFaults.{all_checks, structure_checks, marked_checks, if_none}
use Rattle.normalform.proofs.Listing.{two_parts, after_full, after_none, first_is_head, none_wrong, wrong_none}
use Rattle.normalform.proofs.found.Founds.{naming_parts}
use Rattle.normalform.proofs.found.Reduced.{symbols}
use Rattle.normalform.proofs.found.Marks.{first_not, are_all, all_are, all_true, marked_all, true_at, same_marked, same_marks}
use Rattle.normalform.proofs.found.Right.{wrong-append}

-- a list with a fault is not empty
full_some : (b : Bool) (fs : List NormalFault) → is_full (record { only_first = b; items = kept b [] fs }) ≡ true → fs ≡ [] → ⊥
full_some false fs h e = absurd (cc)
full_some true [] h e = absurd (cc)
full_some true (f ∷ fs) h e = absurd (cc)

same_empty : (b : Bool) (fs : List NormalFault) → is_empty (kept b [] fs) ≡ is_empty fs
same_empty false fs = refl
same_empty true [] = refl
same_empty true (f ∷ fs) = refl

-- what is found is empty exactly if no name is wrong
pub names_empty : (raw : RawGrammar) (b : Bool) (found : Found) → found ≡ after_checks (nothing b) (naming_checks raw)
    → is_empty found.items ≡ is_empty (wrong (naming_checks raw))
names_empty raw b found e = rw e (same_empty b (wrong (naming_checks raw)))

pub none_if_empty : (fs : List NormalFault) → is_empty fs ≡ true → fs ≡ []
none_if_empty [] h = refl
none_if_empty (f ∷ fs) h = absurd (cc)

some_if : (fs : List NormalFault) → is_empty fs ≡ false → fs ≡ [] → ⊥
some_if [] h e = absurd (cc)
some_if (f ∷ fs) h e = absurd (cc)

not_made : (fs : List NormalFault) (cs : List Check) → is_empty fs ≡ false → if_none fs cs ≡ []
not_made fs cs h = rw h refl

-- if a name is wrong, no symbol is checked by its mark
pub unmarked : (raw : RawGrammar) (found : Found) → is_empty (wrong (naming_checks raw)) ≡ false → AreMarked raw found found
unmarked raw found h = record {
  productive = [];
  reached = [];
  marks_productive = λ none. absurd (some_if (wrong (naming_checks raw)) h none);
  marks_reached = λ none. absurd (some_if (wrong (naming_checks raw)) h none);
  list = sym (ap (after_checks found) (not_made (wrong (naming_checks raw)) (structure_checks [] [] raw.symbols) h)
      ∙ after_none found);
}

-- the search ends after the checks of names, if the list is full
pub searched_names : (raw : RawGrammar) (b : Bool) (found : Found) → found ≡ after_checks (nothing b) (naming_checks raw)
    → is_full found ≡ true → IsSearched raw b found
searched_names raw b found e h =
    let names = naming_checks raw in
    let full : is_full (after_checks (nothing b) names) ≡ true = rw e at h in
    let others = if_none (wrong names) (structure_checks [] [] raw.symbols) ++ checks_of_rules raw in (
      all_checks [] [] raw,
      record {
        productive = [];
        reached = [];
        marks_productive = λ none. absurd (full_some b (wrong names) full none);
        marks_reached = λ none. absurd (full_some b (wrong names) full none);
        list = refl;
      },
      two_parts names others (nothing b) found found e (after_full found others h),
    )

-- a search begins with an empty list
pub from_empty : (raw : RawGrammar) (old new : Found) → old.items ≡ [] → new ≡ after_checks old (naming_checks raw)
    → new ≡ after_checks (nothing old.only_first) (naming_checks raw)
from_empty raw old new none e =
    e ∙ ap (λ items. after_checks (record { only_first = old.only_first; items = items }) (naming_checks raw)) none

-- the search makes all checks
pub searched_all : (raw : RawGrammar) (b : Bool) (names mid found : Found) → names ≡ after_checks (nothing b) (naming_checks raw)
    → AreMarked raw names mid → found ≡ after_checks mid (checks_of_rules raw) → IsSearched raw b found
searched_all raw b names mid found e marked f =
    let structure =
    if_none (wrong (naming_checks raw)) (structure_checks marked.productive marked.reached raw.symbols) in (
      all_checks marked.productive marked.reached raw,
      record {
        productive = marked.productive;
        reached = marked.reached;
        marks_productive = marked.marks_productive;
        marks_reached = marked.marks_reached;
        list = refl;
      },
      two_parts (naming_checks raw) (structure ++ checks_of_rules raw) (nothing b) names found e
          (two_parts structure (checks_of_rules raw) names mid found marked.list f),
    )

pub all_found : (raw : RawGrammar) (found : Found) → IsSearched raw false found → AreFaults raw found.items
all_found raw found w = (w.0, w.1, ap (λ (f : Found). f.items) w.2)

first_kept : (fs : List NormalFault) → slice_get (take 1 fs) 0 ≡ slice_get fs 0
first_kept [] = refl
first_kept (f ∷ fs) = refl

pub head_found : (raw : RawGrammar) (found : Found) (o : Option NormalFault) → IsSearched raw true found
    → o ≡ slice_get found.items 0 → IsHead raw o
head_found raw found o w e =
    (wrong w.0, (w.0, w.1, refl), e ∙ ap (λ (f : Found). slice_get f.items 0) w.2 ∙ first_kept (wrong w.0))

-- the parts of an empty result
none_left : (a b : Option NormalFault) → None ≡ option_or a b → (a ≡ None) × (b ≡ None)
none_left None b e = (refl, sym e)
none_left (Some f) b e = absurd (cc)

-- The first fault of all checks.
module _ (raw : RawGrammar) (cs : List Check) (checks : AreChecks raw cs) where
  abbrev productive : List Check
  productive = marked_checks symbol_check.Productive checks.productive raw.symbols

  abbrev reached : List Check
  reached = marked_checks symbol_check.Reached checks.reached raw.symbols

  abbrev further : List Check
  further = further_checks raw

  -- if a name is wrong, it is that of the names
  of_names : (g : NormalFault) → first_wrong (naming_checks raw) ≡ Some g → first_wrong cs ≡ Some g
  of_names g e =
      let others = if_none (wrong (naming_checks raw)) (productive ++ reached) ++ checks_of_rules raw in
      ap first_wrong checks.list ∙ wrong-append (naming_checks raw) others ∙ ap (λ o. option_or o (first_wrong others)) e

  none_doubled : wrong (naming_checks raw) ≡ [] → wrong (doubled_checks raw.symbols) ≡ []
  none_doubled none = wrong_none (doubled_checks raw.symbols) (naming_parts raw (none_wrong (naming_checks raw) none)).1

  -- otherwise it is that of the other checks
  of_others : wrong (naming_checks raw) ≡ []
      → first_wrong cs ≡ option_or (option_or (first_wrong productive) (first_wrong reached)) (first_wrong further)
  of_others none =
      let ss = symbols raw in
      let missing = missing_checks ss (resolved_productions raw) in
      let later = later_kinds (resolved_productions raw) in
      let limits = limit_checks raw in
      ap first_wrong checks.list
      ∙ ap (λ fs. first_wrong (naming_checks raw ++ (if_none fs (productive ++ reached) ++ checks_of_rules raw))) none
      ∙ ap (λ fs. first_wrong (naming_checks raw ++ ((productive ++ reached) ++ (if_none fs missing ++ (later ++ limits)))))
      (none_doubled none)
      ∙ ap (λ rest. first_wrong (naming_checks raw ++ ((productive ++ reached) ++ rest)))
      (sym (append_assoc missing later limits))
      ∙ wrong-append (naming_checks raw) ((productive ++ reached) ++ further)
      ∙ ap (λ o. option_or o (first_wrong ((productive ++ reached) ++ further))) (none_wrong (naming_checks raw) none)
      ∙ wrong-append (productive ++ reached) further
      ∙ ap (λ o. option_or o (first_wrong further)) (wrong-append productive reached)

  in_further : (f : NormalFault) → wrong (naming_checks raw) ≡ [] → AreAll (IsProductive (numbered raw)) raw
      → (b : Option NormalFault) → first_wrong reached ≡ b → Some f ≡ option_or b (first_wrong further) → IsFirstFault raw f
  in_further f none all (Some g) e is =
      let w = first_not symbol_check.Reached (IsReached (numbered raw)) raw checks.reached g (checks.marks_reached none) e in
      let same : g ≡ f = cc in
      subst (IsFirstFault raw) (w.1 ∙ same) (in_reached (none_wrong (naming_checks raw) none) all w.2)
  in_further f none all None e is =
      in_rules (none_wrong (naming_checks raw) none) all
      (are_all symbol_check.Reached (IsReached (numbered raw)) raw checks.reached (checks.marks_reached none) e) (sym is)

  in_structure : (f : NormalFault) → wrong (naming_checks raw) ≡ [] → (a : Option NormalFault) → first_wrong productive ≡ a
      → Some f ≡ option_or (option_or a (first_wrong reached)) (first_wrong further) → IsFirstFault raw f
  in_structure f none (Some g) e is =
      let w = first_not symbol_check.Productive (IsProductive (numbered raw)) raw checks.productive g
      (checks.marks_productive none) e in
      let same : g ≡ f = cc in
      subst (IsFirstFault raw) (w.1 ∙ same) (in_productive (none_wrong (naming_checks raw) none) w.2)
  in_structure f none None e is =
      in_further f none (are_all symbol_check.Productive (IsProductive (numbered raw)) raw checks.productive
      (checks.marks_productive none) e) (first_wrong reached) refl is

  in_checks : (f : NormalFault) → Some f ≡ first_wrong cs → (o : Option NormalFault) → first_wrong (naming_checks raw) ≡ o
      → IsFirstFault raw f
  in_checks f h (Some g) e = let same : g ≡ f = cc (h, of_names g e) in in_names (rw same at e)
  in_checks f h None e =
      let none = wrong_none (naming_checks raw) e in
      in_structure f none (first_wrong productive) refl (h ∙ of_others none)

  -- the first fault of all checks is the first fault of the grammar
  pub first_of_checks : (f : NormalFault) → Some f ≡ first_wrong cs → IsFirstFault raw f
  first_of_checks f h = in_checks f h (first_wrong (naming_checks raw)) refl

  none_in : None ≡ first_wrong cs → (o : Option NormalFault) → first_wrong (naming_checks raw) ≡ o → HasNoFault raw
  none_in h (Some g) e = absurd (cc (h, of_names g e))
  none_in h None e =
      let none = wrong_none (naming_checks raw) e in
      let w = none_left (option_or (first_wrong productive) (first_wrong reached)) (first_wrong further) (h ∙ of_others none) in
      let v = none_left (first_wrong productive) (first_wrong reached) (sym w.0) in record {
        names = e;
        productive = are_all symbol_check.Productive (IsProductive (numbered raw)) raw checks.productive
            (checks.marks_productive none) v.0;
        reached = are_all symbol_check.Reached (IsReached (numbered raw)) raw checks.reached (checks.marks_reached none) v.1;
        rules = w.1;
      }

  -- without a fault of all checks the grammar has none
  pub none_of_checks : None ≡ first_wrong cs → HasNoFault raw
  none_of_checks h = none_in h (first_wrong (naming_checks raw)) refl

pub head_first : (raw : RawGrammar) (f : NormalFault) → IsHead raw (Some f) → IsFirstFault raw f
head_first raw f w =
    first_of_checks raw w.1.0 w.1.1 f (w.2 ∙ ap (λ fs. slice_get fs 0) w.1.2 ∙ sym (first_is_head w.1.0))

pub head_none : (raw : RawGrammar) → IsHead raw None → HasNoFault raw
head_none raw w =
    none_of_checks raw w.1.0 w.1.1 (w.2 ∙ ap (λ fs. slice_get fs 0) w.1.2 ∙ sym (first_is_head w.1.0))

pub listed_first : (raw : RawGrammar) (f : NormalFault) (fs : List NormalFault) → AreFaults raw (f ∷ fs) → IsFirstFault raw f
listed_first raw f fs w = head_first raw f (f ∷ fs, w, refl)

pub none_listed : (raw : RawGrammar) → AreFaults raw [] → HasNoFault raw
none_listed raw w = head_none raw ([], w, refl)

-- a grammar without a fault has the empty list
pub listed_none : (raw : RawGrammar) → HasNoFault raw → AreFaults raw []
listed_none raw none =
    let marks = all_true raw.symbols in
    let names = wrong_none (naming_checks raw) none.names in
    let all = all_checks marks marks raw in
    let checks : AreChecks raw all = record {
      productive = marks;
      reached = marks;
      marks_productive = λ e. all_are (IsProductive (numbered raw)) raw none.productive;
      marks_reached = λ e. all_are (IsReached (numbered raw)) raw none.reached;
      list = refl;
    } in (
      all,
      checks,
      sym (wrong_none all
          (of_others raw all checks names
          ∙ rw (
            marked_all symbol_check.Productive marks raw.symbols (true_at raw.symbols),
            marked_all symbol_check.Reached marks raw.symbols (true_at raw.symbols),
            none.rules,
          ) refl)),
    )

-- a raw grammar has one list of checks
same_checks : (raw : RawGrammar) (xs ys : List Check) → AreChecks raw xs → AreChecks raw ys → xs ≡ ys
same_checks raw xs ys a b = a.list ∙ go (wrong (naming_checks raw)) refl ∙ sym b.list
  where
    go : (fs : List NormalFault) → wrong (naming_checks raw) ≡ fs
        → all_checks a.productive a.reached raw ≡ all_checks b.productive b.reached raw
    go [] e =
        let p = same_marked symbol_check.Productive a.productive b.productive raw.symbols
        (same_marks (IsProductive (numbered raw)) raw a.productive b.productive (a.marks_productive e) (b.marks_productive e)) in
        let r = same_marked symbol_check.Reached a.reached b.reached raw.symbols
        (same_marks (IsReached (numbered raw)) raw a.reached b.reached (a.marks_reached e) (b.marks_reached e)) in
        let reached = marked_checks symbol_check.Reached a.reached raw.symbols in
        let productive = marked_checks symbol_check.Productive b.productive raw.symbols in
        ap (λ cs. naming_checks raw ++ (if_none (wrong (naming_checks raw)) (cs ++ reached) ++ checks_of_rules raw)) p
        ∙ ap (λ cs. naming_checks raw ++ (if_none (wrong (naming_checks raw)) (productive ++ cs) ++ checks_of_rules raw)) r
    go (f ∷ fs) e =
        let few = structure_checks a.productive a.reached raw.symbols in
        let others = structure_checks b.productive b.reached raw.symbols in
        let empty : if_none (wrong (naming_checks raw)) few ≡ if_none (wrong (naming_checks raw)) others = rw e refl in
        ap (λ cs. naming_checks raw ++ (cs ++ checks_of_rules raw)) empty

pub one_list : (raw : RawGrammar) (xs ys : List NormalFault) → AreFaults raw xs → AreFaults raw ys → xs ≡ ys
one_list raw xs ys a b = a.2 ∙ ap wrong (same_checks raw a.0 b.0 a.1 b.1) ∙ sym b.2
