use Rattle.std.proofs.Common.{◌≡◌, ◌∙◌, List, length, map, sym, ap}
use Rattle.ag_value.specs.Spelling.{joined, spelling_of}
use Rattle.ag_value.specs.declared.value.Value.{Value}
use Rattle.list_tree.proofs.Lists.{equal_lists}
use Rattle.list_tree.proofs.list.ListTree.same.Goals as goal

pub returns-then-len : goal.returns-then-len
returns-then-len c =
    let a = c.parts.ensures in
    let b = c.parts-then-len.ensures in
    let len : length c.parts.result.now.items ≡ length c.parts-then-len.result.now.items =
    ap length a.items ∙ (sym c.len.ensures ∙ (c.if-len.true ∙ (c.len-2.ensures ∙ ap length (sym b.items)))) in (
      λ t. sym a.items ∙ (equal_lists _ _ _ _ a.list b.list len (c.same.ensures.0 t) ∙ b.items),
      λ e. let items : c.parts.result.now.items ≡ c.parts-then-len.result.now.items = a.items ∙ (e ∙ sym b.items) in
          c.same.ensures.1
          (a.list.encoded ∙ (ap (λ (xs : List Value). joined (map spelling_of xs)) items ∙ sym b.list.encoded)),
    )
