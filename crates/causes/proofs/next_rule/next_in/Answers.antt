use Rattle.causes.proofs.Common.{◌∙◌, sym, table_of}
use Rattle.causes.proofs.ChainSteps.{rule_there}
use Rattle.causes.proofs.Stops.{clean_of, no_other}
use Rattle.causes.proofs.next_rule.next_in.Goals as goal

pub returns-in-Some-2-clause-next : goal.returns-in-Some-2-clause-next
returns-in-Some-2-clause-next c =
    let lookup = c.in-Some-get.ensures.lookup in
    let is = rule_there c.as_slice-rules.ensures c.from.ensures lookup.3.0 lookup.1 c.in-Some.ensures.number in
    let source = rw c.in-Some-2.is at c.in_ok-argument.ensures in
    record {
      number = c.in-Some.number;
      rule = c.in-Some-get.rule.now;
      there = is.0;
      gives = is.1;
      index = source.0;
      takes = source.1;
      source = source.2;
    }

pub is_arising-requires : goal.is_arising-requires
is_arising-requires c =
    let rule = c.in-Some-get.rule.now in
    let lookup = c.in-Some-get.ensures.lookup in
    let is = rule_there c.as_slice-rules.ensures c.from.ensures lookup.3.0 lookup.1 c.in-Some.ensures.number in
    record { arguments = c.requires.arguments c.in-Some.number rule is.0 }

pub returns-then-branch-clause-next : goal.returns-then-branch-clause-next
returns-then-branch-clause-next c =
    let rule = c.in-Some-get.rule.now in
    let lookup = c.in-Some-get.ensures.lookup in
    let is = rule_there c.as_slice-rules.ensures c.from.ensures lookup.3.0 lookup.1 c.in-Some.ensures.number in
    record { rule = rule; there = is.0; gives = is.1; arises = sym c.in_ok-is_arising.ensures ∙ c.if-branch.true }

pub returns-clause-none : goal.returns-clause-none
returns-clause-none c =
    let row = c.args.row.now in
    let rule = c.in-Some-get.rule.now in
    let lookup = c.in-Some-get.ensures.lookup in
    let table = table_of row.grammar.now row.production.now row.values.now in
    let is = rule_there c.as_slice-rules.ensures c.from.ensures lookup.3.0 lookup.1 c.in-Some.ensures.number in
    let nothing = rw c.in_default-2.is at c.in_ok-argument.ensures in
    no_other row.production.now.rules table c.args.target c.in-Some.number rule c.requires.single is.0 is.1
    (clean_of rule table nothing (sym c.in_ok-is_arising.ensures ∙ c.if-branch.false))
