use Rattle.causes.proofs.Common
use Common.{◌≡◌, Bor, inl, inr, ap, true, ◌∙◌, arith, rules, IsCause, itself, places_of, in_file, Grammar, TreeIndex}
use Rattle.causes.proofs.ChainSteps.{arises_in, reads_on, stops_after}
use Rattle.causes.proofs.Complete.{none_complete}
use Rattle.causes.proofs.InIndex.{cause_in, cause_in_tree}
use Rattle.causes.proofs.chain.find_cause.Given as given
use Rattle.causes.proofs.chain.find_cause.Goals as goal

pub loop-steps-init : goal.loop-steps-init
loop-steps-init g c =
    let down = c.in_ok-go_down.ensures in
    let found = c.if-not-branch.false in
    let grammar = down.grammar in record {
      chain = λ honest. rw (down.places (search rules)) itself;
      grammar = cc;
      index = cc;
      leads = down.leads;
      content = search rules;
      persists = search rules;
    }

pub loop-steps-preserved : goal.loop-steps-preserved
loop-steps-preserved g c =
    let before = c.loop-steps.invariant in
    let now = c.in_ok-next.ensures in record {
      chain = λ honest.
          let honest_before = now.persists.honest honest in
          reads_on before.grammar before.index (before.content honest_before) (before.chain honest_before)
          (rw c.in-To.is at (now.step honest));
      grammar = cc (now.grammar, before.grammar);
      index = cc (now.index, before.index);
      leads = now.leads;
      content = λ honest. now.content honest ∙ before.content (now.persists.honest honest);
      persists = record {
        honest = λ h. before.persists.honest (now.persists.honest h);
        kept = omega (arith, before.persists.kept, now.persists.kept);
        bounded = λ h. now.persists.bounded (before.persists.bounded h);
        cause = λ failed. absurd failed;
      };
    }

found : (g : given.Over) (c : goal.After-drop-chain-in-Arises g) → g.D.Device.is_honest c.step.new.device ≡ true
    → IsCause (in_file c.args.grammar.now c.args.index.now (g.D.Device.content c.args.device.now)) c.args.start.now.places.now
    c.args.start.now.target c.in_ok-places-in-Arises.places.items c.in-Arises.rule c.loop-steps.steps
found g c honest =
    let before = c.loop-steps.invariant in
    let now = c.in_ok-next.ensures in
    let honest_before = now.persists.honest honest in
    arises_in before.grammar before.index (before.content honest_before) (before.chain honest_before)
    c.in_ok-places-in-Arises.ensures.places (rw c.in-Arises.is at (now.step honest))

pub returns-in-Arises-clause-found : goal.returns-in-Arises-clause-found
returns-in-Arises-clause-found g c = λ honest. cause_in (λ places target does read. read.0) (found g c honest)

pub returns-in-Arises-clause-in_tree : goal.returns-in-Arises-clause-in_tree
returns-in-Arises-clause-in_tree g c = λ honest.
    cause_in_tree c.args.grammar.now c.args.index.now (g.D.Device.content c.args.device.now) (found g c honest)

pub returns-in-Arises-clause-node : goal.returns-in-Arises-clause-node
returns-in-Arises-clause-node g c =
    let now = c.in_ok-next.ensures in
    let before = c.loop-steps.invariant in
    let of_index = ap (λ (i : Bor TreeIndex). i.now) now.index ∙ before.index in
    let of_grammar = ap (λ (x : Bor Grammar). x.now) now.grammar ∙ before.grammar in
    rw (c.in_ok-places-in-Arises.ensures.places, ← of_grammar, ← of_index) c.node.ensures

pub returns-in-Nothing-clause-none : goal.returns-in-Nothing-clause-none
returns-in-Nothing-clause-none g c = λ honest.
    let before = c.loop-steps.invariant in
    let now = c.in_ok-next.ensures in
    let honest_before = now.persists.honest honest in
    inr
    (stops_after before.grammar before.index (before.content honest_before) (before.chain honest_before)
    (now.stops c.in-Nothing.is honest))

pub returns-clause-none : goal.returns-clause-none
returns-clause-none g c = λ honest. inr (record {
  there = places_of c.loop-steps.chain.nodes.items;
  from = c.loop-steps.target;
  rules = c.loop-steps.steps;
  chain = c.loop-steps.invariant.chain honest;
  stops = inl c.loop-steps-test.false;
})

pub returns-then-not-branch-clause-complete : goal.returns-then-not-branch-clause-complete
returns-then-not-branch-clause-complete g c = λ honest.
    none_complete (inl (c.in_ok-go_down.ensures.none c.if-not-branch.true))

pub returns-in-Nothing-clause-complete : goal.returns-in-Nothing-clause-complete
returns-in-Nothing-clause-complete g c = λ honest. none_complete (returns-in-Nothing-clause-none g c honest)

pub returns-clause-complete : goal.returns-clause-complete
returns-clause-complete g c = λ honest. none_complete (returns-clause-none g c honest)
