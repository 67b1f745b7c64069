-- The text that a loop over an iterator has appended when it ends.
use Rattle.std.proofs.Common.{ℕ, ◌≡◌, List, [], ◌∷◌, ◌++◌, map, refl, ap, sym, ◌∙◌}
use Rattle.std.proofs.lemmas.List.Folds.{flat_map-map}
use Rattle.std.specs.List.{flat_map, zip}

-- A loop has appended to `start` the text `f (v x)` for each item x that its iterator has yielded. If v maps the yielded items to
-- the items of the list `all`, the loop has appended the text `f y` for each item y of this list.
pub shown_all : {A B : Type 0} (f : B → List ℕ) (v : A → B) (start out : List ℕ) (yielded : List A) (all : List B)
    → out ≡ start ++ flat_map (λ x. f (v x)) yielded → map v yielded ≡ all → out ≡ start ++ flat_map f all
shown_all f v start out yielded all e is =
    e ∙ ap (λ (text : List ℕ). start ++ text) (sym (flat_map-map f v yielded) ∙ ap (flat_map f) is)

-- the texts are the same whether h maps the second part of each pair from xs and ys, or the items of ys before they are paired
pub through : {A B C : Type 0} (f : A × C → List ℕ) (h : B → C) (xs : List A) (ys : List B)
    → flat_map (λ p. f (p.0, h p.1)) (zip xs ys) ≡ flat_map f (zip xs (map h ys))
through f h [] ys = refl
through f h (x ∷ xs) [] = refl
through f h (x ∷ xs) (y ∷ ys) = ap (λ (text : List ℕ). f (x, h y) ++ text) (through f h xs ys)
