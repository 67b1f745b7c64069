-- The length of a spelling is the weight of the value.
use Rattle.std.proofs.Common.{◌≡◌, ℕ, zero, suc, ◌≤◌, List, [], ◌∷◌, length, map, sum, refl, sym, ap, subst, ◌∙◌, arith}
use Rattle.std.proofs.lemmas.List.{length-append}
use Rattle.std.proofs.lemmas.List.Sums.{sum_by-cons}
use Rattle.std.specs.Int.{w32, to_be_bytes}
use Rattle.ag_value.specs.declared.value.Value.{Value, out-Value, roll-Value, roll-out-Value}
use Rattle.ag_value.specs.declared.value.Value.TheOpen.{Value-F}
use Rattle.ag_value.specs.declared.value.Value.TheVariants.{rolls-Num, rolls-Text, rolls-List, rolls-Table, rolls-Fault}
use Rattle.ag_value.specs.Measure.{weight_of, weight_of_pair, depth_of, greatest}
use Rattle.ag_value.specs.Spelling.{counted, joined, spelling_of, spelling_of_pair}
use Rattle.ag_value.proofs.Layers.{spelling-Num, spelling-Text, spelling-List, spelling-Table, spelling-Fault, weight-Num}
use Rattle.ag_value.proofs.Layers.{weight-Text, weight-List, weight-Table, weight-Fault, depth-List, depth-Table}

abbrev Says : Value → Type 0
Says w = length (spelling_of w) ≡ weight_of w

items_long : (levels : ℕ) → ((w : Value) → depth_of w ≤ levels → Says w) → (vs : List Value) → greatest (map depth_of vs) ≤ levels
    → length (joined (map spelling_of vs)) ≡ sum (map weight_of vs)
items_long levels says [] shallow = refl
items_long levels says (w ∷ ws) shallow =
    let low : depth_of w ≤ levels = omega arith in
    let lower : greatest (map depth_of ws) ≤ levels = omega arith in
    let here = says w low in
    let there = items_long levels says ws lower in
    let parts = sum_by-cons (λ n. n) (weight_of w) (map weight_of ws) in
    omega (arith, here, there, parts, length-append (spelling_of w) (joined (map spelling_of ws)))

pairs_long : (levels : ℕ) → ((w : Value) → depth_of w ≤ levels → Says w) → (ps : List (List ℕ × Value))
    → greatest (map (λ p. depth_of p.1) ps) ≤ levels → length (joined (map spelling_of_pair ps)) ≡ sum (map weight_of_pair ps)
pairs_long levels says [] shallow = refl
pairs_long levels says (p ∷ ps) shallow =
    let low : depth_of p.1 ≤ levels = omega arith in
    let lower : greatest (map (λ q. depth_of q.1) ps) ≤ levels = omega arith in
    let here = says p.1 low in
    let there = pairs_long levels says ps lower in
    let parts = sum_by-cons (λ n. n) (weight_of_pair p) (map weight_of_pair ps) in
    let key = length-append (to_be_bytes w32 (length p.0)) p.0 in
    let four : length (to_be_bytes w32 (length p.0)) ≡ 4 = refl in
    omega (
      arith,
      here,
      there,
      parts,
      key,
      four,
      length-append (counted p.0) (spelling_of p.1),
      length-append (spelling_of_pair p) (joined (map spelling_of_pair ps)),
    )

of_layers : (levels : ℕ) → ((layer : Value-F Value) → depth_of (roll-Value layer) ≤ levels → Says (roll-Value layer))
    → (w : Value) → depth_of w ≤ levels → Says w
of_layers levels says w = subst (λ (u : Value). depth_of u ≤ levels → Says u) (roll-out-Value w) (says (out-Value w))

layer_long : (levels : ℕ) (layer : Value-F Value) → depth_of (roll-Value layer) ≤ levels → Says (roll-Value layer)
layer_long levels (Value-F.Num n) =
    subst (λ (u : Value). depth_of u ≤ levels → Says u) (sym (rolls-Num n))
    (λ shallow. ap length (spelling-Num n) ∙ sym (weight-Num n))
layer_long levels (Value-F.Text text) = subst (λ (u : Value). depth_of u ≤ levels → Says u) (sym (rolls-Text text)) (λ shallow.
    let four : length (to_be_bytes w32 (length text)) ≡ 4 = refl in
    let spelled = ap length (spelling-Text text) in
    omega (arith, spelled, four, weight-Text text, length-append (to_be_bytes w32 (length text)) text))
layer_long levels (Value-F.Fault c) =
    subst (λ (u : Value). depth_of u ≤ levels → Says u) (sym (rolls-Fault c))
    (λ shallow. ap length (spelling-Fault c) ∙ sym (weight-Fault c))
layer_long zero (Value-F.List vs) =
    subst (λ (u : Value). depth_of u ≤ zero → Says u) (sym (rolls-List vs))
    (λ shallow. let deep = depth-List vs in absurd (omega arith))
layer_long (suc levels) (Value-F.List vs) =
    subst (λ (u : Value). depth_of u ≤ suc levels → Says u) (sym (rolls-List vs)) (λ shallow.
    let low : greatest (map depth_of vs) ≤ levels = let deep = depth-List vs in omega arith in
    let all = items_long levels (of_layers levels (layer_long levels)) vs low in
    let four : length (to_be_bytes w32 (length vs)) ≡ 4 = refl in
    let spelled = ap length (spelling-List vs) in
    omega (arith, all, spelled, four, weight-List vs, length-append (to_be_bytes w32 (length vs)) (joined (map spelling_of vs))))
layer_long zero (Value-F.Table ps) =
    subst (λ (u : Value). depth_of u ≤ zero → Says u) (sym (rolls-Table ps))
    (λ shallow. let deep = depth-Table ps in absurd (omega arith))
layer_long (suc levels) (Value-F.Table ps) =
    subst (λ (u : Value). depth_of u ≤ suc levels → Says u) (sym (rolls-Table ps)) (λ shallow.
    let low : greatest (map (λ p. depth_of p.1) ps) ≤ levels = let deep = depth-Table ps in omega arith in
    let all = pairs_long levels (of_layers levels (layer_long levels)) ps low in
    let four : length (to_be_bytes w32 (length ps)) ≡ 4 = refl in
    let spelled = ap length (spelling-Table ps) in
    omega (
      arith,
      all,
      spelled,
      four,
      weight-Table ps,
      length-append (to_be_bytes w32 (length ps)) (joined (map spelling_of_pair ps)),
    ))

pub length-spelling : (w : Value) → length (spelling_of w) ≡ weight_of w
length-spelling w = of_layers (depth_of w) (layer_long (depth_of w)) w (omega arith)
