use Rattle.ag_eval.proofs.Common
use Common.{◌≡◌, ◌∙◌, ◌++◌, ◌∷◌, [], List, ap, length, map, refl, rules, subst, sym, true, IfOk, OnOk, Value, Node, the_lemmas}
use Common.{Operator, Meaning, chain_value, value_in, operand_value, all_below, is_within, body_below, chain_below, chain_is}
use Common.{operand_below}
use Rattle.ag_eval.proofs.evaluation.Evaluation.+evaluating.Goals as goal

pub chain_of-operand_of-requires : goal.chain_of-operand_of-requires
chain_of-operand_of-requires g t c = λ κs le. (
  search (rules, the_lemmas),
  (
    le,
    operand_below (length c.args.self.now.expr.now.occurrences)
        (length c.loop-other.bindings) _ c.args.others.now c.loop-other.other-index c.other-item.result c.loop-other-test.true
        c.other-item.is refl c.loop-other.invariant.below,
  ),
)

pub operand_of-chain_of-requires : goal.operand_of-chain_of-requires
operand_of-chain_of-requires g t c = λ κs le.
    let n = length c.args.self.now.expr.now.occurrences in
    let outer =
    chain_below n (length c.args.bindings.now) c.args.node.now c.in-Chain.first c.in-Chain.others c.in-Chain.is
    c.requires.below in
    let below : all_below n (length c.operand_of.new.bindings) c.as_slice.result.now ≡ true =
    rw c.as_slice.ensures
    (subst (λ (s : List Value). all_below n (length s) c.in-Chain.others ≡ true)
    (sym c.in_ok-value-in-Chain.ensures.unchanged) outer) in
    (search (rules, the_lemmas), (le, (c.in_ok-value-in-Chain.ensures.within, below)))

pub operand_of-returns-in_ok-value-in-Chain-clause-value : goal.operand_of-returns-in_ok-value-in-Chain-clause-value
operand_of-returns-in_ok-value-in-Chain-clause-value g t c =
    let env = g.V.Lender.lent c.args.self.now.env.now in
    let s = c.args.bindings.now in
    let f : Operator × Node → Operator × Meaning = λ p. (p.0, value_in p.1) in
    let first = c.in_ok-value-in-Chain.ensures.value in
    let is = ap (λ (x : Value). chain_value env c.operand_of.new.bindings x (map f c.as_slice.result.now)) first
    ∙ ap (λ (b : List Value). chain_value env b (value_in c.get.result.now env s) (map f c.as_slice.result.now))
    c.in_ok-value-in-Chain.ensures.unchanged
    ∙ ap (λ (os : List (Operator × Node)). chain_value env s (value_in c.get.result.now env s) (map f os)) c.as_slice.ensures
    ∙ ap (λ (n : Node). chain_value env s (value_in n env s) (map f c.in-Chain.others)) c.get.ensures
    ∙ sym (chain_is c.args.node.now c.in-Chain.first c.in-Chain.others env s c.in-Chain.is) in
    subst (λ (v : Value). OnOk c.chain_of.result (IfOk c.chain_of.result (λ o. operand_value c.chain_of.new.bindings o ≡ v))) is
    c.chain_of.ensures.value

pub operand_of-body_of-requires : goal.operand_of-body_of-requires
operand_of-body_of-requires g t c = λ κs le.
    let n = length c.args.self.now.expr.now.occurrences in
    let s = c.operand_of-in-Let.new.bindings in
    let v = operand_value s c.in_ok-definition-in-Let.definition in
    let more : s ++ v ∷ [] ≡ c.args.bindings.now ++ v ∷ [] =
    ap (λ (b : List Value). b ++ v ∷ []) c.in_ok-definition-in-Let.ensures.unchanged in
    let below : is_within n c.get-in-Let-2.result.now (length (s ++ v ∷ [])) ≡ true =
    rw c.get-in-Let-2.ensures
    (body_below n c.args.node.now c.in-Let.definition c.in-Let.body c.args.bindings.now
    (s ++ v ∷ []) v c.in-Let.is c.requires.below more) in
    (search (rules, the_lemmas), (le, (c.in_ok-definition-in-Let.ensures.within, below)))
