use Rattle.std.proofs.Common.{◌≡◌, ◌∙◌, sym, ◌<◌, ℕ, List, Some, ap, get_or, length, refl, slice_get, arith}
use Rattle.std.proofs.lemmas.Option.{slice_get_read}
use Rattle.tree_index.proofs.Counts.{has_tokens, if_no_difference, if_tokens, no_count, no_difference, no_end, no_subtree}
use Rattle.tree_index.proofs.NoChild.{if_none}
use Rattle.tree_index.proofs.tokens.TokenCounts.of_subtree.Goals as goal

-- the number that `get` lent from a list
lent_number : {lent items : List ℕ} {i n : ℕ} → lent ≡ items → i < length lent → n ≡ get_or lent i n → slice_get items i ≡ Some n
lent_number {lent} {items} {i} {n} same less is = rw same at (slice_get_read lent (length lent) i n refl less is)

pub returns-clause-count : goal.returns-clause-count
returns-clause-count c =
    let first = c.in_ok-first.ensures.lookup in
    let last = c.in_ok-get.ensures.lookup in
    if_tokens c.checked_sub.result c.in_ok-first.field-0.now c.in_ok-get.field-0.now c.checked_sub.ensures
    (has_tokens c.args.index.now c.args.self.now c.args.node c.in_ok-size.field-0
    (sym c.size.ensures ∙ c.in_ok-size.was) c.in_ok-end.end c.in_ok-first.field-0.now
    c.in_ok-get.field-0.now c.in_ok-end.ensures.1 (lent_number c.deref.ensures.value first.3.0 first.1)
    (lent_number c.deref-2.ensures.value last.3.0 last.1))

pub returns-in_err-size-clause-complete : goal.returns-in_err-size-clause-complete
returns-in_err-size-clause-complete c =
    if_none c.from_residual.result (no_subtree c.args.index.now c.args.self.now c.args.node
    (sym c.size.ensures ∙ c.in_err-size.was))

pub returns-in_err-end-clause-complete : goal.returns-in_err-end-clause-complete
returns-in_err-end-clause-complete c =
    if_none c.from_residual-in_err-end.result
    (no_end c.args.index.now c.args.self.now c.args.node c.in_ok-size.field-0
    (sym c.size.ensures ∙ c.in_ok-size.was) c.in_err-end.ensures)

pub returns-in_err-first-clause-complete : goal.returns-in_err-first-clause-complete
returns-in_err-first-clause-complete c =
    if_none c.from_residual-in_err-first.result
    (no_count c.args.index.now c.args.self.now c.args.node c.in_ok-size.field-0
    (sym c.size.ensures ∙ c.in_ok-size.was) c.args.node (omega arith)
    (omega (arith, c.in_err-first.ensures.lookup.3, ap length c.deref.ensures.value)))

pub returns-in_err-get-clause-complete : goal.returns-in_err-get-clause-complete
returns-in_err-get-clause-complete c =
    if_none c.from_residual-in_err-get.result
    (no_count c.args.index.now c.args.self.now c.args.node c.in_ok-size.field-0
    (sym c.size.ensures ∙ c.in_ok-size.was) c.in_ok-end.end
    (omega (arith, c.in_ok-end.ensures.1)) (omega (arith, c.in_err-get.ensures.lookup.3, ap length c.deref-2.ensures.value)))

pub returns-clause-complete : goal.returns-clause-complete
returns-clause-complete c =
    let first = c.in_ok-first.ensures.lookup in
    let last = c.in_ok-get.ensures.lookup in
    if_no_difference c.checked_sub.result c.in_ok-first.field-0.now c.in_ok-get.field-0.now c.checked_sub.ensures
    (no_difference c.args.index.now c.args.self.now c.args.node c.in_ok-size.field-0
    (sym c.size.ensures ∙ c.in_ok-size.was) c.in_ok-end.end
    c.in_ok-first.field-0.now c.in_ok-get.field-0.now c.in_ok-end.ensures.1
    (lent_number c.deref.ensures.value first.3.0 first.1) (lent_number c.deref-2.ensures.value last.3.0 last.1))
