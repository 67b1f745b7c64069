-- The parts of a tree, one lemma for each variant.
use Rattle.ag_grammar.proofs.Common
use Common.{◌≡◌, ℕ, zero, suc, ◌<◌, Bool, get_or, slice_get, drop, arith, true, ◌&&◌, List, [], ◌∷◌, ◌++◌, length, map, refl, sym}
use Common.{ap, ◌∙◌, subst, and_parts, Value, Operator, Node, Node-F, fold-roll-Node, fit, all_below, below_step, is_within}
use Rattle.ag_grammar.specs.declared.syntax.node.Node.TheVariants as node
use Rattle.ag_grammar.specs.declared.syntax.node.Node.TheVariants.{rolls-Bound, rolls-Chain, rolls-If, rolls-Let, rolls-Literal}
use Rattle.ag_grammar.specs.declared.syntax.node.Node.TheVariants.{rolls-Unary}
use Rattle.ag_grammar.specs.declared.syntax.node.UnaryCall.{UnaryCall}
use Rattle.ag_grammar.specs.values.Calls.{unary_call_result, choice_of}
use Rattle.ag_grammar.specs.expressions.Evaluation.{Meaning, bound_value, chain_value, value_in, value_step}

within-Chain : (n bound : ℕ) (first : Node) (others : List (Operator × Node))
    → is_within n (node.Chain first others) bound ≡ (is_within n first bound && all_below n bound others)
within-Chain n bound first others =
    ap (λ (f : ℕ → Bool). f bound)
    (ap (is_within n) (sym (rolls-Chain first others)) ∙ fold-roll-Node (ℕ → Bool) (below_step n) (Node-F.Chain first others))

within-Let : (n bound : ℕ) (e f : Node) → is_within n (node.Let e f) bound ≡ (is_within n e bound && is_within n f (suc bound))
within-Let n bound e f =
    ap (λ (g : ℕ → Bool). g bound)
    (ap (is_within n) (sym (rolls-Let e f)) ∙ fold-roll-Node (ℕ → Bool) (below_step n) (Node-F.Let e f))

pub value-Chain : (first : Node) (others : List (Operator × Node)) (env : ℕ → Value) (bound : List Value)
    → value_in (node.Chain first others) env bound ≡ chain_value env bound (value_in first env bound)
    (map (λ p. (p.0, value_in p.1)) others)
value-Chain first others env bound =
    ap (λ (m : Meaning). m env bound)
    (ap value_in (sym (rolls-Chain first others)) ∙ fold-roll-Node Meaning value_step (Node-F.Chain first others))

pub value-Literal : (v : Value) (env : ℕ → Value) (bound : List Value) → value_in (node.Literal v) env bound ≡ fit v
value-Literal v env bound =
    ap (λ (m : Meaning). m env bound) (ap value_in (sym (rolls-Literal v)) ∙ fold-roll-Node Meaning value_step (Node-F.Literal v))

pub value-Bound : (k : ℕ) (env : ℕ → Value) (bound : List Value)
    → value_in (node.Bound k) env bound ≡ bound_value (slice_get bound k)
value-Bound k env bound =
    ap (λ (m : Meaning). m env bound) (ap value_in (sym (rolls-Bound k)) ∙ fold-roll-Node Meaning value_step (Node-F.Bound k))

pub value-Let : (e f : Node) (env : ℕ → Value) (bound : List Value)
    → value_in (node.Let e f) env bound ≡ value_in f env (bound ++ value_in e env bound ∷ [])
value-Let e f env bound =
    ap (λ (m : Meaning). m env bound) (ap value_in (sym (rolls-Let e f)) ∙ fold-roll-Node Meaning value_step (Node-F.Let e f))

pub value-If : (c e f : Node) (env : ℕ → Value) (bound : List Value)
    → value_in (node.If c e f) env bound ≡ choice_of (value_in c env bound) (value_in e env bound) (value_in f env bound)
value-If c e f env bound =
    ap (λ (m : Meaning). m env bound) (ap value_in (sym (rolls-If c e f)) ∙ fold-roll-Node Meaning value_step (Node-F.If c e f))

pub value-Unary : (call : UnaryCall) (a : Node) (env : ℕ → Value) (bound : List Value)
    → value_in (node.Unary call a) env bound ≡ unary_call_result call (value_in a env bound)
value-Unary call a env bound =
    ap (λ (m : Meaning). m env bound)
    (ap value_in (sym (rolls-Unary call a)) ∙ fold-roll-Node Meaning value_step (Node-F.Unary call a))

-- the operands of a chain
pub chain_below : (n bound : ℕ) (tree first : Node) (others : List (Operator × Node)) → tree ≡ node.Chain first others
    → is_within n tree bound ≡ true → all_below n bound others ≡ true
chain_below n bound tree first others is h =
    (and_parts (is_within n first bound) (all_below n bound others)
    (sym (within-Chain n bound first others) ∙ ap (λ (t : Node). is_within n t bound) (sym is) ∙ h)).1

pub chain_is : (tree first : Node) (others : List (Operator × Node)) (env : ℕ → Value) (bound : List Value)
    → tree ≡ node.Chain first others
    → value_in tree env bound ≡ chain_value env bound (value_in first env bound) (map (λ p. (p.0, value_in p.1)) others)
chain_is tree first others env bound is = ap (λ (t : Node). value_in t env bound) is ∙ value-Chain first others env bound

longer : (s : List Value) (v : Value) → length (s ++ v ∷ []) ≡ suc (length s)
longer [] v = refl
longer (x ∷ xs) v = ap suc (longer xs v)

-- the body of a `let`
pub body_below : (n : ℕ) (tree e f : Node) (outer inner : List Value) (v : Value) → tree ≡ node.Let e f
    → is_within n tree (length outer) ≡ true → inner ≡ outer ++ v ∷ [] → is_within n f (length inner) ≡ true
body_below n tree e f outer inner v is h more =
    ap (λ (s : List Value). is_within n f (length s)) more ∙ ap (is_within n f) (longer outer v)
    ∙ (and_parts (is_within n e (length outer)) (is_within n f (suc (length outer)))
    (sym (within-Let n (length outer) e f) ∙ ap (λ (t : Node). is_within n t (length outer)) (sym is) ∙ h)).1

-- an operand of a chain, if the operands from its index on are within n
pub operand_below : (n bound bound' : ℕ) (others : List (Operator × Node)) (i : ℕ) (p : Operator × Node) → i < length others
    → p ≡ get_or others i p → bound ≡ bound' → all_below n bound (drop i others) ≡ true → is_within n p.1 bound' ≡ true
operand_below n bound bound' [] i p lt is same below = absurd (omega arith)
operand_below n bound bound' (x ∷ xs) zero p lt is same below =
    let here = (and_parts (is_within n x.1 bound) (all_below n bound xs) below).0 in
    subst (λ (q : Operator × Node). is_within n q.1 bound' ≡ true) (sym is) (subst (λ b. is_within n x.1 b ≡ true) same here)
operand_below n bound bound' (x ∷ xs) (suc i) p lt is same below = operand_below n bound bound' xs i p (omega arith) is same below

pub ruleset parts = (chain_below, chain_is, body_below)
