use Rattle.std.proofs.Common.{◌≡◌, ◌≤◌, ◌∙◌, ◌++◌, List, ℕ, ap, arith, length, subst, sym}
use Rattle.ag_value.specs.Measure.{max_weight, weight_of}
use Rattle.ag_value.specs.declared.value.Value.{Value}
use Rattle.ag_value.specs.declared.value.Value.TheVariants as v
use Rattle.list_tree.specs.Lists.{IsList}
use Rattle.list_tree.specs.declared.list.ListParts.{ListParts}
use Rattle.list_tree.proofs.Lists.{few, light, together}
use Rattle.ag_value.proofs.operations.Growing.{weight-together}
use Rattle.list_tree.proofs.list.ListTree.join.Goals as goal

pub join-requires : goal.join-requires
join-requires c =
    let a = few _ _ c.parts-left.ensures.list in
    let b = few _ _ c.parts-right.ensures.list in
    omega arith

pub join-requires-2 : goal.join-requires-2
join-requires-2 c =
    let a = light _ _ c.parts-left.ensures.list in
    let b = light _ _ c.parts-right.ensures.list in
    let p = ap length c.in_ok-share.ensures in
    let q = ap length c.in_ok-share-2.ensures in
    omega arith

pub invariant_of-result : goal.invariant_of-result
invariant_of-result c =
    let left = c.parts-left in
    let right = c.parts-right in
    let xs = left.result.now.items in
    let ys = right.result.now.items in
    let both : c.args.left.now ++ c.args.right.now ≡ xs ++ ys =
    ap (λ (t : List Value). t ++ c.args.right.now) (sym left.ensures.items)
    ∙ ap (λ (t : List Value). xs ++ t) (sym right.ensures.items) in
    let total = weight-together c.args.left.now c.args.right.now in
    let one = c.weight.ensures.weight in
    let two = c.weight-2.ensures.weight in
    let test = c.if-weight.false in
    let light : weight_of (v.List (c.args.left.now ++ c.args.right.now)) ≤ max_weight = omega arith in
    let is =
    together xs ys left.result.now.encodings right.result.now.encodings left.ensures.list right.ensures.list
    (subst (λ (t : List Value). weight_of (v.List t) ≤ max_weight) both light) in
    let bytes : c.in_ok-encodings.encodings ≡ left.result.now.encodings ++ right.result.now.encodings =
    c.in_ok-encodings.ensures
    ∙ (ap (λ (t : List ℕ). t ++ c.in_ok-share-2.field-0) c.in_ok-share.ensures
    ∙ ap (λ (t : List ℕ). left.result.now.encodings ++ t) c.in_ok-share-2.ensures) in
    let joined : IsList c.in_ok-items.items c.in_ok-encodings.encodings =
    subst (λ (items : List Value). IsList items c.in_ok-encodings.encodings) (sym c.in_ok-items.ensures)
    (subst (λ (encodings : List ℕ). IsList (xs ++ ys) encodings) (sym bytes) is) in
    subst (λ (parts : ListParts). IsList parts.items parts.encodings) (sym c.in_ok-parts.ensures.ok) joined

pub returns-clause-some : goal.returns-clause-some
returns-clause-some c =
    let total = weight-together c.args.left.now c.args.right.now in
    let one = c.weight.ensures.weight in
    let two = c.weight-2.ensures.weight in
    let test = c.if-weight.false in (
      ap (λ (parts : ListParts). parts.items) c.in_ok-parts.ensures.ok
          ∙ (c.in_ok-items.ensures
          ∙ (ap (λ (t : List Value). t ++ c.parts-right.result.now.items) c.parts-left.ensures.items
          ∙ ap (λ (t : List Value). c.args.left.now ++ t) c.parts-right.ensures.items)),
      omega arith,
    )
