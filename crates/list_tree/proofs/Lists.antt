-- Lists and their encodings.
use Rattle.std.proofs.Common.{◌≡◌, ◌∙◌, ℕ, ◌+◌, ◌≤◌, List, [], ◌∷◌, ◌++◌, length, map, refl, sym, ap}
use Rattle.std.proofs.Common.{append_assoc, arith, length-append}
use Rattle.std.proofs.lemmas.List.{append-nil, map-append}
use Rattle.std.specs.Int.{w32, to_be_bytes}
use Rattle.ag_value.specs.declared.value.Value.{Value, out-Value}
use Rattle.ag_value.specs.declared.value.Value.TheOpen.{Value-F}
use Rattle.ag_value.specs.declared.value.Value.TheVariants as v
use Rattle.ag_value.specs.declared.value.Value.TheVariants.{outs-List}
use Rattle.ag_value.specs.Measure.{max_weight, weight_of}
use Rattle.ag_value.specs.Spelling.{joined, spelling_of}
use Rattle.ag_value.proofs.Codec.{prefix_free}
use Rattle.ag_value.proofs.Layers.{spelling-List}
use Rattle.ag_value.proofs.Lengths.{length-spelling}
use Rattle.ag_value.proofs.operations.Growing.{depth-together, item-together, items_of}
use Rattle.ag_value.proofs.operations.Wells.{formed, short_list}
use Rattle.list_tree.specs.Lists.{IsList}

joined-append : (xs ys : List (List ℕ)) → joined (xs ++ ys) ≡ joined xs ++ joined ys
joined-append [] ys = refl
joined-append (x ∷ xs) ys = ap (λ (t : List ℕ). x ++ t) (joined-append xs ys) ∙ sym (append_assoc x (joined xs) (joined ys))

-- the encoding of a list has five bytes more than the encodings of all its items together
pub size : (items : List Value) (encodings : List ℕ) → IsList items encodings
    → 5 + length encodings ≡ weight_of (v.List items)
size items encodings is =
    let whole = length-spelling (v.List items) in
    let spelled = ap length (spelling-List items) in
    let four : length (to_be_bytes w32 (length items)) ≡ 4 = refl in
    let e = length-append (to_be_bytes w32 (length items)) (joined (map spelling_of items)) in
    let same = ap length is.encoded in
    omega arith

pub light : (items : List Value) (encodings : List ℕ) → IsList items encodings → 5 + length encodings ≤ max_weight
light items encodings is =
    let within : weight_of (v.List items) ≤ max_weight = is.well.light in
    let all = size items encodings is in
    omega arith

pub few : (items : List Value) (encodings : List ℕ) → IsList items encodings → length items ≤ max_weight
few items encodings is = short_list (v.List items) items refl is.well

-- two lists with encodings, one after the other, are a list with encodings, if the whole list is not too heavy
pub together : (xs ys : List Value) (a b : List ℕ) → IsList xs a → IsList ys b
    → weight_of (v.List (xs ++ ys)) ≤ max_weight → IsList (xs ++ ys) (a ++ b)
together xs ys a b is js light = record {
  well = record {
    formed = formed (v.List (xs ++ ys)) (item-together xs ys (items_of xs is.well) (items_of ys js.well));
    shallow = let p = is.well.shallow in let q = js.well.shallow in let e = depth-together xs ys in omega arith;
    light = light;
  };
  encoded = ap (λ (t : List ℕ). t ++ b) is.encoded
      ∙ (ap (λ (t : List ℕ). joined (map spelling_of xs) ++ t) js.encoded
      ∙ (sym (joined-append (map spelling_of xs) (map spelling_of ys))
      ∙ ap joined (sym (map-append spelling_of xs ys))));
}

equal_items : (xs ys : List Value) → v.List xs ≡ v.List ys → xs ≡ ys
equal_items xs ys e =
    let layer : Value-F.List xs ≡ Value-F.List ys = sym (outs-List xs) ∙ (ap out-Value e ∙ outs-List ys) in
    cc

-- lists of the same length with the same encodings are equal
pub equal_lists : (xs ys : List Value) (a b : List ℕ) → IsList xs a → IsList ys b → length xs ≡ length ys → a ≡ b → xs ≡ ys
equal_lists xs ys a b is js len e =
    let same : spelling_of (v.List xs) ≡ spelling_of (v.List ys) =
    spelling-List xs
    ∙ (ap (λ (n : ℕ). 2 ∷ (to_be_bytes w32 n ++ joined (map spelling_of xs))) len
    ∙ (ap (λ (t : List ℕ). 2 ∷ (to_be_bytes w32 (length ys) ++ t)) (sym is.encoded ∙ (e ∙ js.encoded))
    ∙ sym (spelling-List ys))) in
    equal_items xs ys
    (prefix_free (v.List xs) (v.List ys) [] is.well js.well (sym same ∙ sym (append-nil (spelling_of (v.List xs)))))
