use Rattle.std.proofs.Common.{rules, ◌≡◌, sym, ap, ◌∙◌}
use Rattle.ag_value.specs.declared.value.Value.{List as ListValue, Table}
use Rattle.ag_carried.proofs.Tables.{equal_items, equal_pairs}
use Rattle.ag_carried.proofs.carried.Carried.same_of_any_kind.Goals as goal

pub returns-in-Table-Table : goal.returns-in-Table-Table
returns-in-Table-Table c =
    let one = c.in-Table-Table.one in
    let another = c.in-Table-Table.another in
    let a : c.args.self.now ≡ Table one = search rules in
    let b : c.args.other.now ≡ Table another = search rules in (
      λ t. a ∙ (ap Table (c.same-in-Table-Table.ensures.0 t) ∙ sym b),
      λ e. c.same-in-Table-Table.ensures.1 (equal_pairs one another (sym a ∙ (e ∙ b))),
    )

pub returns-in-List-List : goal.returns-in-List-List
returns-in-List-List c =
    let one = c.in-List-List.one in
    let another = c.in-List-List.another in
    let a : c.args.self.now ≡ ListValue one = search rules in
    let b : c.args.other.now ≡ ListValue another = search rules in (
      λ t. a ∙ (ap ListValue (c.same-in-List-List.ensures.0 t) ∙ sym b),
      λ e. c.same-in-List-List.ensures.1 (equal_items one another (sym a ∙ (e ∙ b))),
    )
