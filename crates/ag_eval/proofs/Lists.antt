-- Lists within the limits and beyond them.
use Rattle.ag_eval.proofs.Common
use Common.{◌≡◌, ◌≤◌, ◌<◌, ◌+◌, List, [], ◌∷◌, ◌++◌, ap, arith, IsWell, Big, Deep, Value, Value-F, outs-List, fit, append_result}
use Common.{appended_at, depth-one, depth-together, weight-one, weight-together, big_next, deep_first, fits}
use Common.value
use Rattle.ag_value.specs.Measure.{depth_of, max_value_depth, max_weight, weight_of}

-- two lists together are not too deep if neither of them is
shallow : (xs ys : List Value) → IsWell (value.List xs) → IsWell (value.List ys)
    → depth_of (value.List (xs ++ ys)) ≤ max_value_depth
shallow xs ys is js =
    let p : depth_of (value.List xs) ≤ max_value_depth = is.shallow in
    let q : depth_of (value.List ys) ≤ max_value_depth = js.shallow in
    let e = depth-together xs ys in
    omega arith

pub heavy_lists : (xs ys : List Value) → IsWell (value.List xs) → IsWell (value.List ys)
    → max_weight < weight_of (value.List (xs ++ ys)) → fit (value.List (xs ++ ys)) ≡ value.Fault Big
heavy_lists xs ys is js heavy = big_next (value.List (xs ++ ys)) (shallow xs ys is js) heavy

pub light_lists : (xs ys : List Value) → IsWell (value.List xs) → IsWell (value.List ys)
    → weight_of (value.List (xs ++ ys)) ≤ max_weight → fit (value.List (xs ++ ys)) ≡ value.List (xs ++ ys)
light_lists xs ys is js light = fits (value.List (xs ++ ys)) (shallow xs ys is js) light

-- a list with one more item
pub appended : (xs : List Value) (x : Value) → append_result (value.List xs) x ≡ fit (value.List (xs ++ x ∷ []))
appended xs x = ap (λ (l : Value-F Value). appended_at l x) (outs-List xs)

pub deep_item : (xs : List Value) (x : Value) → max_value_depth ≤ depth_of x
    → fit (value.List (xs ++ x ∷ [])) ≡ value.Fault Deep
deep_item xs x deep =
    let e = depth-together xs (x ∷ []) in
    let one = depth-one x in
    deep_first (value.List (xs ++ x ∷ [])) (omega arith)

pub heavy_item : (xs : List Value) (x : Value) → IsWell (value.List xs) → depth_of x < max_value_depth
    → max_weight < weight_of (value.List xs) + weight_of x → fit (value.List (xs ++ x ∷ [])) ≡ value.Fault Big
heavy_item xs x is shallow heavy =
    let e = depth-together xs (x ∷ []) in
    let one = depth-one x in
    let p : depth_of (value.List xs) ≤ max_value_depth = is.shallow in
    let w = weight-together xs (x ∷ []) in
    let two = weight-one x in
    big_next (value.List (xs ++ x ∷ [])) (omega arith) (omega arith)

pub ruleset limits = (heavy_lists, light_lists)
