use Rattle.ag_eval.proofs.Common
use Common.{◌≡◌, sym, ap, ◌∙◌, ref_value}
use Common.value
use Rattle.ag_carried.proofs.Tables.{equal_items, equal_pairs}
use Rattle.ag_eval.proofs.builtins.comparing.same_values.Goals as goal

pub returns-in-Table-Table : goal.returns-in-Table-Table
returns-in-Table-Table c =
    let one = c.in-Table-Table.one.now in
    let other = c.in-Table-Table.other.now in
    let left : ref_value c.args.left ≡ value.Table one = ap ref_value c.in-Table-Table.is-0 in
    let right : ref_value c.args.right ≡ value.Table other = ap ref_value c.in-Table-Table.is-1 in (
      λ same. left ∙ (ap value.Table (c.same-in-Table-Table.ensures.0 same) ∙ sym right),
      λ equal. c.same-in-Table-Table.ensures.1 (equal_pairs one other (sym left ∙ (equal ∙ right))),
    )

pub returns-in-List-List : goal.returns-in-List-List
returns-in-List-List c =
    let one = c.in-List-List.one.now in
    let other = c.in-List-List.other.now in
    let left : ref_value c.args.left ≡ value.List one = ap ref_value c.in-List-List.is-0 in
    let right : ref_value c.args.right ≡ value.List other = ap ref_value c.in-List-List.is-1 in (
      λ same. left ∙ (ap value.List (c.same-in-List-List.ensures.0 same) ∙ sym right),
      λ equal. c.same-in-List-List.ensures.1 (equal_items one other (sym left ∙ (equal ∙ right))),
    )
