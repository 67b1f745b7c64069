-- Values that are texts, and their concatenation.
use Rattle.ag_eval.proofs.Common
use Common.{◌≡◌, ◌≤◌, ◌<◌, ◌+◌, ℕ, true, List, [], ◌∷◌, ◌++◌, length, None, ap, arith, refl, sym, ◌∙◌, Big, Value, out-Value}
use Common.{roll-Value, roll-out-Value, Value-F, rolls-Text, fault_or, leftmost, fit, concatenated_at, concatenation}
use Common.{operation_result, bytes_at, bytes_of, is_text, is_text_at, big_next, fits}
use Common.value
use Rattle.ag_value.specs.Measure.{max_weight, weight_of}
use Rattle.ag_value.proofs.Layers.{depth-Text, weight-Text}
use Rattle.ag_grammar.specs.declared.syntax.node.Operator.TheVariants as operator

layer : (x : Value-F Value) → is_text_at x ≡ true → x ≡ Value-F.Text (bytes_at x)
layer (Value-F.Text text) e = refl
layer x e = let bad : ⊥ = cc in absurd bad

-- a text is the text of its bytes
pub own_bytes : (v : Value) → is_text v ≡ true → v ≡ value.Text (bytes_of v)
own_bytes v text = sym (roll-out-Value v) ∙ ap roll-Value (layer (out-Value v) text) ∙ rolls-Text (bytes_of v)

-- the operator `++` for values none of which is an error
pub join_is : (a b : Value) → leftmost (a ∷ b ∷ []) ≡ None → operation_result operator.Join a b ≡ concatenation a b
join_is a b none = ap (λ f. fault_or f (concatenation a b)) none

both_at : (x y : Value-F Value) → is_text_at x ≡ true → is_text_at y ≡ true
    → concatenated_at x y ≡ fit (value.Text (bytes_at x ++ bytes_at y))
both_at (Value-F.Text a) (Value-F.Text b) p q = refl
both_at (Value-F.Text a) y p q = let bad : ⊥ = cc in absurd bad
both_at x y p q = let bad : ⊥ = cc in absurd bad

-- two texts are concatenated to the text of their bytes
pub both_texts : (a b : Value) → is_text a ≡ true → is_text b ≡ true
    → concatenation a b ≡ fit (value.Text (bytes_of a ++ bytes_of b))
both_texts a b p q = both_at (out-Value a) (out-Value b) p q

-- the result for a text whose weight exceeds the limit is the error `big`, and that for any other text is the text
pub too_heavy : (text : List ℕ) → max_weight < weight_of (value.Text text) → fit (value.Text text) ≡ value.Fault Big
too_heavy text heavy = big_next (value.Text text) (let d = depth-Text text in omega (arith, d)) heavy

pub light_enough : (text : List ℕ) → weight_of (value.Text text) ≤ max_weight → fit (value.Text text) ≡ value.Text text
light_enough text light = fits (value.Text text) (let d = depth-Text text in omega (arith, d)) light

pub too_long : (text : List ℕ) → max_weight < 5 + length text → fit (value.Text text) ≡ value.Fault Big
too_long text long = too_heavy text (let w = weight-Text text in omega (arith, w))

pub ruleset limits = (too_heavy, light_enough)

pub ruleset concatenations = (own_bytes, join_is, both_texts, too_long)
