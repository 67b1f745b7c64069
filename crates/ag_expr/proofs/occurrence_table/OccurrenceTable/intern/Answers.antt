use Rattle.ag_expr.proofs.Common.{◌∙◌, refl, sym}
use Rattle.ag_expr.proofs.language.Numbered.{listed_where, unlisted_where, number_pushed, follows_pushed, pushed_apart}
use Rattle.ag_expr.proofs.occurrence_table.OccurrenceTable.intern.Goals as goal

pub returns-in-Some-clause-lists : goal.returns-in-Some-clause-lists
returns-in-Some-clause-lists c =
    rw (listed_where c.args.self.now c.args.place c.args.attr.now c.in-Some.number (sym c.in-Some.ensures)) refl

pub invariant_of-self-2 : goal.invariant_of-self-2
invariant_of-self-2 c =
    let none =
    rw (← c.self.view_is) at (unlisted_where c.args.self.now c.args.place c.args.attr.now (sym c.in_default.ensures)) in
    let name = c.from_string-copied.ensures ∙ c.in_ok-from_str.ensures.ok in (
      follows_pushed c.self.inside.indexes c.insert.new.self (c.args.place, c.args.attr) c.args.at none c.self.invariant.0
          c.in_ok-reserve.ensures.items c.len-number.ensures.value c.in_ok-insert.ensures.updates
          c.push_reserved.ensures.items name,
      pushed_apart c.args.place c.args.at none c.self.invariant.1 c.in_ok-reserve.ensures.items
          c.push_reserved.ensures.items name,
    )

pub returns-clause-lists : goal.returns-clause-lists
returns-clause-lists c =
    let none = unlisted_where c.args.self.now c.args.place c.args.attr.now (sym c.in_default.ensures) in
    let name = c.from_string-copied.ensures ∙ c.in_ok-from_str.ensures.ok in
    rw (none, c.push_reserved.ensures.items, c.in_ok-reserve.ensures.items, name, ← c.self.view_is) refl

pub returns-clause-number : goal.returns-clause-number
returns-clause-number c =
    let none = rw (← c.self.view_is) at (sym c.in_default.ensures) in
    let name = c.from_string-copied.ensures ∙ c.in_ok-from_str.ensures.ok in
    number_pushed c.args.place c.args.at none c.in_ok-reserve.ensures.items c.len-number.ensures.value
    c.push_reserved.ensures.items name
