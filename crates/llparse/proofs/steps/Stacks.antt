-- The invariants of each step, over the stack of open nodes from its top.
use Rattle.llparse.proofs.Common
use Common.{◌≡◌, ℕ, zero, suc, ◌+◌, ◌-◌, ◌*◌, ◌<◌, ◌≤◌, List, [], ◌∷◌, ◌++◌, length, take, drop, slice_get, Some, None, ap, arith}
use Common.{Item, Production, Grammar, WhenHonest, Task, Output, Reading, Between, AtItem, right_side, node_frame, total_length}
use Common.{steps_left, advanced, OpenProduction, rest_at, rest_none}
use Rattle.std.proofs.Math.Nat.{mul-suc, mul-le-mul_left}
use Rattle.ag_grammar.specs.grammars.Yield as yields
use Rattle.llparse.proofs.steps.Closing as closing

module _ (k : Task) where
  -- an open node that has a next item moves past it
  pub faces : (node : OpenProduction) (x : Item) {fs : List OpenProduction} {i n : ℕ} {rs : Output}
      → slice_get (right_side k.grammar node.production) node.passed ≡ Some x
      → Between k (node ∷ fs) i n rs → AtItem k x (advanced node ∷ fs) i n rs
  faces node x next b = rw (rest_at (right_side k.grammar node.production) node.passed x next) at b

  -- an open node at its end has no item left
  pub ends : (node : OpenProduction) {fs : List OpenProduction} {i n : ℕ} {rs : Output}
      → slice_get (right_side k.grammar node.production) node.passed ≡ None
      → Between k (node ∷ fs) i n rs → Reading k node.production node.base [] fs i n rs
  ends node over b = rw (rest_none (right_side k.grammar node.production) node.passed over) at b

  -- when an open node at its end is closed, the node around it becomes the innermost one, or the tree is done
  pub closed : {p base : ℕ} (fs : List OpenProduction) {i n : ℕ} {rs : Output} (out : Output)
      → WhenHonest k.honest (out.bytes ≡ rs.bytes ++ node_frame p (drop base rs.texts)) → out.texts ≡ take base rs.texts
      → Reading k p base [] fs i n rs → Between k fs i n out
  closed [] out put cut r = closing.on_root k out put r
  closed (f ∷ fs) out put cut r = closing.on_close k out put cut r

-- after each step, the bound of the number of steps that remain is smaller

most_is : (ps : List Production) (p : ℕ) → length (yields.right_side (slice_get ps p)) ≤ total_length ps
most_is [] p = omega arith
most_is (q ∷ qs) zero = omega arith
most_is (q ∷ qs) (suc p) = let e = most_is qs p in omega arith

module _ (g : Grammar) (nodes : ℕ) where
  pub fewer_passed : (node : OpenProduction) (x : Item) (fs : List OpenProduction) (n : ℕ)
      → slice_get (right_side g node.production) node.passed ≡ Some x
      → steps_left g nodes (advanced node ∷ fs) n < steps_left g nodes (node ∷ fs) n
  fewer_passed node x fs n next = let c = ap length (rest_at (right_side g node.production) node.passed x next) in omega arith

  pub fewer_counted : (fs : List OpenProduction) (n m : ℕ) → n ≤ m → steps_left g nodes fs m ≤ steps_left g nodes fs n
  fewer_counted fs n m le =
      let smaller : nodes - m ≤ nodes - n = omega arith in
      let times = mul-le-mul_left {m = nodes - m} {n = nodes - n} (total_length g.productions + 2) smaller in
      omega arith

  pub fewer_opened : (fs : List OpenProduction) (p base n : ℕ) → n < nodes
      → steps_left g nodes (record { production = p; passed = 0; base = base } ∷ fs) (n + 1) < steps_left g nodes fs n
  fewer_opened fs p base n le =
      let longest = most_is g.productions p in
      let one : nodes - n ≡ suc (nodes - (n + 1)) = omega arith in
      let times : (total_length g.productions + 2) * (nodes - n) ≡ (total_length g.productions + 2) * (nodes - (n + 1))
      + (total_length g.productions + 2) = cc (mul-suc (total_length g.productions + 2) (nodes - (n + 1))) in
      omega arith
