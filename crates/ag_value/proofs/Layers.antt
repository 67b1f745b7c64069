-- Equations of the definitions by recursion on a value, such as `weight_of`: one for each variant of a value.
use mathlib.Core.List.{map-map}
use Rattle.std.proofs.Common.{◌≡◌, ℕ, ◌+◌, ℤ, Bool, true, false, ◌&&◌, List, [], ◌∷◌, ◌++◌, length, map, sum}
use Rattle.std.proofs.lemmas.List.{length-map}
use Rattle.std.specs.Int.{w32, w64, to_be_bytes, cast_unsigned}
use Rattle.ag_value.specs.declared.value.ErrorCode.{ErrorCode}
use Rattle.ag_value.specs.declared.value.Value.{Value}
use Rattle.ag_value.specs.declared.value.Value.TheOpen.{Value-F}
use Rattle.ag_value.specs.declared.value.Value.TheVariants as v
use Rattle.ag_value.specs.declared.value.Value.TheVariants.{rolls-Num, rolls-Text, rolls-List, rolls-Table, rolls-Fault}
use Rattle.ag_value.specs.declared.value.Value.TheFolds.{fold-roll-Value}
use Rattle.ag_value.specs.Measure.{weight_of, weight_of_pair, weight_step, depth_of, depth_step, greatest}
use Rattle.std.specs.Prelude.{codes}
use Rattle.std.specs.Fmt.{signed_decimal}
use Rattle.std.specs.Str.{is_utf8}
use Rattle.ag_value.specs.Shown.{name_of, quoted, separated, shown_of, shown_of_pair, shown_step}
use Rattle.ag_value.specs.Well.{all_true, are_keys, fault_step, is_fault, is_i64, is_item, is_item_pair, item_step, key_of}
use Rattle.ag_value.specs.Spelling.{counted, joined, number_of, spelling_of, spelling_of_pair, spelling_step}

pub weight-List : (vs : List Value) → weight_of (v.List vs) ≡ 5 + sum (map weight_of vs)
weight-List vs = cc (rolls-List vs, fold-roll-Value ℕ weight_step (Value-F.List vs))

pub weight-Table : (ps : List (List ℕ × Value)) → weight_of (v.Table ps) ≡ 5 + sum (map weight_of_pair ps)
weight-Table ps = cc (rolls-Table ps, fold-roll-Value ℕ weight_step (Value-F.Table ps), map-map _ _ ps)

pub weight-Num : (n : ℤ) → weight_of (v.Num n) ≡ 9
weight-Num n = cc (rolls-Num n, fold-roll-Value ℕ weight_step (Value-F.Num n))

pub weight-Fault : (c : ErrorCode) → weight_of (v.Fault c) ≡ 2
weight-Fault c = cc (rolls-Fault c, fold-roll-Value ℕ weight_step (Value-F.Fault c))

pub weight-Text : (text : List ℕ) → weight_of (v.Text text) ≡ 5 + length text
weight-Text text = cc (rolls-Text text, fold-roll-Value ℕ weight_step (Value-F.Text text))

pub depth-Num : (n : ℤ) → depth_of (v.Num n) ≡ 0
depth-Num n = cc (rolls-Num n, fold-roll-Value ℕ depth_step (Value-F.Num n))

pub depth-Text : (text : List ℕ) → depth_of (v.Text text) ≡ 0
depth-Text text = cc (rolls-Text text, fold-roll-Value ℕ depth_step (Value-F.Text text))

pub depth-List : (vs : List Value) → depth_of (v.List vs) ≡ 1 + greatest (map depth_of vs)
depth-List vs = cc (rolls-List vs, fold-roll-Value ℕ depth_step (Value-F.List vs))

pub depth-Table : (ps : List (List ℕ × Value)) → depth_of (v.Table ps) ≡ 1 + greatest (map (λ p. depth_of p.1) ps)
depth-Table ps = cc (rolls-Table ps, fold-roll-Value ℕ depth_step (Value-F.Table ps), map-map _ _ ps)

pub depth-Fault : (c : ErrorCode) → depth_of (v.Fault c) ≡ 0
depth-Fault c = cc (rolls-Fault c, fold-roll-Value ℕ depth_step (Value-F.Fault c))

pub spelling-Num : (n : ℤ) → spelling_of (v.Num n) ≡ 0 ∷ to_be_bytes w64 (cast_unsigned w64 n)
spelling-Num n = cc (rolls-Num n, fold-roll-Value (List ℕ) spelling_step (Value-F.Num n))

pub spelling-Text : (text : List ℕ) → spelling_of (v.Text text) ≡ 1 ∷ counted text
spelling-Text text = cc (rolls-Text text, fold-roll-Value (List ℕ) spelling_step (Value-F.Text text))

pub spelling-List : (vs : List Value) → spelling_of (v.List vs) ≡ 2 ∷ (to_be_bytes w32 (length vs) ++ joined (map spelling_of vs))
spelling-List vs = cc (rolls-List vs, fold-roll-Value (List ℕ) spelling_step (Value-F.List vs), length-map vs spelling_of)

pub spelling-Table : (ps : List (List ℕ × Value))
    → spelling_of (v.Table ps) ≡ 3 ∷ (to_be_bytes w32 (length ps) ++ joined (map spelling_of_pair ps))
spelling-Table ps =
    cc (rolls-Table ps, fold-roll-Value (List ℕ) spelling_step (Value-F.Table ps), length-map ps _, map-map _ _ ps)

pub spelling-Fault : (c : ErrorCode) → spelling_of (v.Fault c) ≡ 4 ∷ number_of c ∷ []
spelling-Fault c = cc (rolls-Fault c, fold-roll-Value (List ℕ) spelling_step (Value-F.Fault c))

pub fault-Num : (n : ℤ) → is_fault (v.Num n) ≡ false
fault-Num n = cc (rolls-Num n, fold-roll-Value Bool fault_step (Value-F.Num n))

pub fault-Text : (text : List ℕ) → is_fault (v.Text text) ≡ false
fault-Text text = cc (rolls-Text text, fold-roll-Value Bool fault_step (Value-F.Text text))

pub fault-List : (vs : List Value) → is_fault (v.List vs) ≡ false
fault-List vs = cc (rolls-List vs, fold-roll-Value Bool fault_step (Value-F.List vs))

pub fault-Table : (ps : List (List ℕ × Value)) → is_fault (v.Table ps) ≡ false
fault-Table ps = cc (rolls-Table ps, fold-roll-Value Bool fault_step (Value-F.Table ps))

pub fault-Fault : (c : ErrorCode) → is_fault (v.Fault c) ≡ true
fault-Fault c = cc (rolls-Fault c, fold-roll-Value Bool fault_step (Value-F.Fault c))

pub item-Num : (n : ℤ) → is_item (v.Num n) ≡ is_i64 n
item-Num n = cc (rolls-Num n, fold-roll-Value Bool item_step (Value-F.Num n))

pub item-Text : (text : List ℕ) → is_item (v.Text text) ≡ is_utf8 text
item-Text text = cc (rolls-Text text, fold-roll-Value Bool item_step (Value-F.Text text))

pub item-List : (vs : List Value) → is_item (v.List vs) ≡ all_true (map is_item vs)
item-List vs = cc (rolls-List vs, fold-roll-Value Bool item_step (Value-F.List vs))

pub item-Table : (ps : List (List ℕ × Value))
    → is_item (v.Table ps) ≡ (are_keys (map key_of ps) && all_true (map is_item_pair ps))
item-Table ps = cc (rolls-Table ps, fold-roll-Value Bool item_step (Value-F.Table ps), map-map _ _ ps)

pub item-Fault : (c : ErrorCode) → is_item (v.Fault c) ≡ false
item-Fault c = cc (rolls-Fault c, fold-roll-Value Bool item_step (Value-F.Fault c))

pub shown-Num : (n : ℤ) → shown_of (v.Num n) ≡ signed_decimal n
shown-Num n = cc (rolls-Num n, fold-roll-Value (List ℕ) shown_step (Value-F.Num n))

pub shown-Text : (text : List ℕ) → shown_of (v.Text text) ≡ quoted text
shown-Text text = cc (rolls-Text text, fold-roll-Value (List ℕ) shown_step (Value-F.Text text))

pub shown-List : (vs : List Value) → shown_of (v.List vs) ≡ codes "[" ++ separated (map shown_of vs) ++ codes "]"
shown-List vs = cc (rolls-List vs, fold-roll-Value (List ℕ) shown_step (Value-F.List vs))

pub shown-Table : (ps : List (List ℕ × Value))
    → shown_of (v.Table ps) ≡ codes "{" ++ separated (map shown_of_pair ps) ++ codes "}"
shown-Table ps = cc (rolls-Table ps, fold-roll-Value (List ℕ) shown_step (Value-F.Table ps), map-map _ _ ps)

pub shown-Fault : (c : ErrorCode) → shown_of (v.Fault c) ≡ codes "error " ++ name_of c
shown-Fault c = cc (rolls-Fault c, fold-roll-Value (List ℕ) shown_step (Value-F.Fault c))

pub ruleset shown = (shown-Num, shown-Text, shown-List, shown-Table, shown-Fault)

pub ruleset weights = (weight-List, weight-Table)

pub ruleset depths = (depth-Table)

pub ruleset items = (item-Text, item-List, item-Table)

pub ruleset spellings = (spelling-Num, spelling-Text, spelling-List, spelling-Table)
