-- Recorded trees, passes over a file, and the values of records, worked out.
use Rattle.treefile.proofs.Common
use Common.{◌≡◌, ℕ, zero, suc, ◌^◌, ◌<◌, ◌≤◌, pos, All, List, [], ◌∷◌, ◌++◌, length, None, Ok, IsUtf8, codes, lit<, refl, rules}
use Common.{ap, sym, ◌∙◌, arith, lt-ltb, All-cons, All-nil, Value, Num, Text, IsWell, well_is_read, depth-Num, item-Num}
use Common.{spellings, weight-Num, Literal, iffy, token_sample, token_tree, IsWellOn, NoRule, Same, Solves, Valuation, IsTreeOf}
use Common.{Tree, token_fits, token_text, formed, well_text, last_body_of, version_one_usable, IsNumbered, IsRecorded}
use Common.{FitsVersion, IsFileOfTree, node_body, version_one}
use Common.item
use Rattle.std.proofs.lemmas.Str.{encode_ascii, is_utf8-from_IsUtf8}
use Rattle.ag_value.specs.Reading.{value_at}
use Rattle.ag_grammar.specs.grammars.Sample.{sample, sample_passes, sample_tree, sample_values}
use Rattle.ag_grammar.specs.grammars.Sample.{token_values, values_of_a}
use Rattle.ag_grammar.proofs.grammars.samples.NumberSample.{fits as sample_fits}
use Rattle.ag_grammar.proofs.grammars.Running.{sample_ran}
use Rattle.treefile.specs.records.Listed.{AreSpelled, BeginsNoValue, HasReadValues, IsListedRecord}
use Rattle.treefile.specs.Runs.{RunsPass, RunsPasses}
use Rattle.treefile.specs.Worked.{binary, binary_passes, file_of_x_x, iffy_passes, pass_2_of_one, production_of, record_of_n}
use Rattle.treefile.specs.Worked.{record_of_t, spelled_number, tree_of_one, values_of_one, values_of_t}
use Rattle.treefile.proofs.records.Listing.{value_is_missing}
use Rattle.treefile.proofs.records.OneTree.{one_file, text_same}
use Rattle.treefile.proofs.framing.Root.{root_is_last}
use Rattle.treefile.proofs.WorkedFiles.{worked_2}

-- a number below 2^63 is well
pub well_number : (n : ℕ) → n < 2 ^ 63 → IsWell (Num (pos n))
well_number n small = record {
  formed = formed (Num (pos n)) (item-Num (pos n) ∙ lt-ltb n (2 ^ 63) small);
  shallow = omega (arith, depth-Num (pos n));
  light = omega (arith, weight-Num (pos n));
}

pub binary_numbered : IsNumbered binary
binary_numbered = omega arith

pub binary_fits : FitsVersion version_one binary binary_passes
binary_fits = record { tokens = omega arith; nodes = λ p q is. few q.left }
  where
    few : (s : ℕ) → length (binary_passes s) ≤ 16
    few zero = omega arith
    few (suc zero) = omega arith
    few (suc (suc zero)) = omega arith
    few (suc (suc (suc zero))) = omega arith
    few (suc (suc (suc (suc s)))) = omega arith

-- the premises on the tree of `1` and on its values
one_fits : IsTreeOf binary tree_of_one
one_fits = (
  production_of 0 (item.Symbol 2 ∷ item.Symbol 1 ∷ []),
  refl,
  refl,
  (
    (
      production_of 2 (item.Symbol 4 ∷ item.Symbol 3 ∷ []),
      refl,
      refl,
      ((production_of 4 (item.Terminal (Literal 2) ∷ []), refl, refl, tt), ((production_of 3 [], refl, refl, tt), tt)),
    ),
    ((production_of 1 [], refl, refl, tt), tt),
  ),
)

one_texts : Solves NoRule binary tree_of_one values_of_one
one_texts = search rules

well_of_t : (a : ℕ) → IsWell (values_of_t a)
well_of_t zero = well_number 65536 (omega arith)
well_of_t (suc zero) = well_number 0 (omega arith)
well_of_t (suc (suc a)) = well_number 32768 (omega arith)

out_utf8 : IsUtf8 (codes "65536")
out_utf8 = (codes "65536", (refl, rw (encode_ascii 54 (lit< tt), encode_ascii 53 (lit< tt), encode_ascii 51 (lit< tt)) refl))

out_well : IsWell (Text (codes "65536"))
out_well = well_text (codes "65536") (is_utf8-from_IsUtf8 (codes "65536") out_utf8) (omega arith)

one_well : (k : ℕ) → IsWellOn (λ p. p ≤ k) binary binary_passes tree_of_one values_of_one
one_well k = search (arith, out_well, well_of_t, well_number)

pub one_recorded : (k : ℕ) → IsRecorded binary binary_passes k (item.Symbol 0) tree_of_one values_of_one
one_recorded k = record { fits = one_fits; texts = one_texts; well = one_well k }

one_occurs : IsFileOfTree version_one binary binary_passes 2 tree_of_one values_of_one pass_2_of_one
one_occurs = record { occurs = sym worked_2; texts = one_texts; well = one_well 2 }

pub one_alone : (t : Tree) (v : Valuation) → IsTreeOf binary t → IsFileOfTree version_one binary binary_passes 2 t v pass_2_of_one
    → (tree_of_one ≡ t) × Same (λ p. p ≤ 2) binary binary_passes tree_of_one values_of_one v
one_alone t v tree is =
    one_file version_one binary binary_passes 2 tree_of_one t values_of_one v pass_2_of_one version_one_usable binary_fits
    binary_numbered one_fits tree one_occurs is

pub iffy_recorded : IsRecorded token_sample iffy_passes 0 (item.Symbol 0) token_tree (token_values iffy)
iffy_recorded = let text = well_text iffy token_text.utf8 (omega arith) in record {
  fits = token_fits;
  texts = search rules;
  well = ((λ a p is le. text), ((λ a p is le. text), tt));
}

-- values with an empty text for the leaf can't be recorded
pub iffy_unrecorded : IsRecorded token_sample iffy_passes 0 (item.Symbol 0) token_tree (λ path a. Text []) → ⊥
iffy_unrecorded is = cc (text_same [] iffy is.texts.1.0)

sample_numbered : IsNumbered sample
sample_numbered = omega arith

sample_fit : FitsVersion version_one sample sample_passes
sample_fit = record { tokens = omega arith; nodes = λ p q is. few q.left }
  where
    few : (s : ℕ) → length (sample_passes s) ≤ 16
    few zero = omega arith
    few (suc zero) = omega arith
    few (suc (suc s)) = omega arith

well_of_a : (s i a : ℕ) → s < 2 ^ 63 → i < 2 ^ 63 → IsWell (values_of_a s i a)
well_of_a s i zero x y = well_number s x
well_of_a s i (suc a) x y = well_number i y

-- the files of `x x`
sample_file : (k : ℕ) → IsFileOfTree version_one sample sample_passes k sample_tree (sample_values 2) (file_of_x_x k)
sample_file k = record {
  occurs = refl;
  texts = (sample_ran (sample_values 2)).texts;
  well = (
    (λ a p is le. well_number 2 (omega arith)),
    (
      ((λ a p is le. well_of_a 2 1 a (omega arith) (omega arith)), tt),
      (((λ a p is le. well_of_a 1 0 a (omega arith) (omega arith)), tt), tt),
    ),
  );
}

-- the first one is the file of no other tree
sample_alone : (t : Tree) (u : Valuation) → IsTreeOf sample t
    → IsFileOfTree version_one sample sample_passes 0 t u (file_of_x_x 0) → sample_tree ≡ t
sample_alone t u tree is =
    (one_file version_one sample sample_passes 0 sample_tree t (sample_values 2) u
    (file_of_x_x 0) version_one_usable sample_fit sample_numbered sample_fits tree (sample_file 0) is).0

pub sample_pass : RunsPass version_one sample sample_passes 0 (file_of_x_x 0) (file_of_x_x 1)
sample_pass t u tree is =
    rw (← sample_alone t u tree is) (record {
      values = sample_values 2;
      file = sample_file 1;
      kept = (sample_ran u).kept;
      solved = (sample_ran u).solved 1 (omega arith) (omega arith);
    })

pub sample_run : RunsPasses version_one sample sample_passes 0 1 (file_of_x_x 0) (file_of_x_x 1) (file_of_x_x 0)
sample_run t u tree is =
    rw (← sample_alone t u tree is) (record {
      values = sample_values 2;
      ran = sample_ran u;
      file = sample_file 1;
      other = λ k from e. let first : k ≡ 0 = omega arith in rw first (sample_file 0);
    })

-- the values of T's record in pass 1
abbrev number : List Value
number = Num (pos 65536) ∷ []

number_well : All IsWell number
number_well = All-cons IsWell (Num (pos 65536)) [] (well_number 65536 (omega arith)) (All-nil IsWell)

pub t_listed : IsListedRecord version_one binary binary_passes 1 3 record_of_t 4 (production_of 3 []) (Num (pos 65536) ∷ [])
t_listed = record { production = refl; left = refl; count = refl; well = number_well; occurs = simp spellings }

pub number_spelled : AreSpelled 1 spelled_number
number_spelled = (number, refl, number_well, simp spellings)

pub number_read : HasReadValues (spelled_number ++ 9 ∷ []) (Num (pos 65536) ∷ []) (9 ∷ [])
number_read = record { well = number_well; split = simp spellings }

-- 9 is the first byte of no spelling
nine_is_nothing : value_at 64 (9 ∷ []) ≡ None
unfolding value_at
nine_is_nothing = refl

pub nine_begins : BeginsNoValue (9 ∷ [])
nine_begins v rest well e = cc (nine_is_nothing, well_is_read v rest well)

pub number_alone : AreSpelled 2 (spelled_number ++ 9 ∷ []) → ⊥
number_alone = value_is_missing (spelled_number ++ 9 ∷ []) number (9 ∷ []) 2 number_read (omega arith) nine_begins

pub root_of_one : last_body_of version_one pass_2_of_one ≡ Ok record_of_n
root_of_one =
    let bytes : node_body version_one binary binary_passes 2 0 (values_of_one []) [] ≡ record_of_n = simp spellings in
    root_is_last version_one binary binary_passes 2 0 _ values_of_one pass_2_of_one version_one_usable binary_fits one_fits
    one_occurs ∙ ap Ok bytes
