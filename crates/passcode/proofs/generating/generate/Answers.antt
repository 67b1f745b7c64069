use Rattle.std.proofs.lemmas.List.{length-map}
use Rattle.passcode.proofs.Common.{◌≡◌, length, ap, ◌∙◌, sym, arith, HasLists}
use Rattle.passcode.proofs.lists.Collected.{collected_lists, rows_more}
use Rattle.passcode.proofs.Lawful.{lists_agree, planned}
use Rattle.passcode.proofs.Slices.{read_at, length_pushed}
use Rattle.passcode.proofs.generating.generate.Goals as goal

pub lists_of-requires : goal.lists_of-requires
lists_of-requires c =
    planned _ _ c.productions-production-items.ensures.accepted c.requires _ _
    (read_at _ _ _ _ c.productions-production-items.ensures.lent c.loop-production-test.true c.production-item.is)

pub loop-production-preserved : goal.loop-production-preserved
loop-production-preserved c = record {
  len = length_pushed _ _ _ _ c.in_ok-push.ensures.items c.loop-production.invariant.len;
  collected = rows_more _ _ _ _ _ _ _ _ c.in_ok-push.ensures.items c.loop-production.invariant.len
      (read_at _ _ _ _ c.productions-production-items.ensures.lent c.loop-production-test.true c.production-item.is)
      c.in_ok-lists_of.ensures.len c.in_ok-lists_of.ensures.lists c.loop-production.invariant.collected;
}

pub returns : goal.returns
returns c =
    let end : c.loop-production.production-index ≡ length c.productions-production-items.result.now = omega arith in
    let many : length c.of_rows.result ≡ length c.args.grammar.now.productions = ap length c.of_rows.ensures ∙ length-map _ _
    ∙ c.loop-production.invariant.len ∙ end ∙ ap length c.productions-production-items.ensures.lent in
    let all = rw (sym c.of_rows.ensures) at c.loop-production.invariant.collected in
    let exact = collected_lists c.args.grammar.now _ _ _ many all in
    let lists : HasLists c.args.grammar.now c.args.assignment.now c.of_rows.result =
    record { pass_count = c.passes-passes.result; greatest = c.passes-passes.ensures; productions = many; lists = all.lengths } in
    record {
      agrees = lists_agree _ _ c.productions-production-items.ensures.accepted c.requires _ exact;
      lists = lists;
      shape = λ numbers. record { numbers = numbers; lists = lists };
      order = exact;
    }
