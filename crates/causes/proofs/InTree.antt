-- If a cause is found along the nodes of a tree, the error has a cause.
use Rattle.causes.proofs.Common
use Common.{ℕ, suc, ◌≡◌, inl, inr, List, map, Target, Grammar, Valuation, at, Tree, HasCause, here, passed, place_path, values_at}
use Common.{GoesTo, IsChain, IsPassedFrom, itself, longer, IsInTree, in_tree}
use Common.rule_does
use Rattle.causes.specs.Laws.{FoundIsCause}
use Rattle.causes.proofs.Paths.{last_place, read_at, rule_at, same_path}

-- the instance that an argument stands for is the one that the rule for this argument computes
same_instance : (path beyond : List ℕ) (argument from : Target) → GoesTo (map suc path) argument (map suc beyond) from
    → place_path path argument.place ≡ place_path beyond from.place
same_instance path beyond argument from (attr, inl (own, up)) =
    let (before, _, counted, _, _, same) = last_place path (map suc beyond) up in
    rw own (cc (same_path beyond before counted, same))
same_instance path beyond argument from (attr, inr (child, down, own)) =
    let (before, _, counted, _, _, same) = last_place beyond (map suc path) down in
    rw own (cc (same_path path before counted, same))

module _ (g : Grammar) (t : Tree) (v : Valuation) where
  -- the error that the rule for a target, at the node at the end of a path, computes has a cause
  abbrev IsCaused : List ℕ → Target → Type 0
  IsCaused path target = HasCause g t v (place_path path target.place) target.attr

  -- the error that a rule computes has a cause if it arises in that rule,
  arises : (path : List ℕ) (target : Target) (number : ℕ) → IsInTree g t v (map suc path) target (rule_does.Arises number)
      → IsCaused path target
  arises path target number found =
      let (q, n, next) = read_at found in
      rw next.gives at (here path next.rule (at (values_at v path)) (rule_at n (number, next.there)) next.arises)

  -- and if it is passed on from an error that has a cause;
  passes : (path : List ℕ) (target : Target) (beyond : List ℕ) (from : Target)
      → IsPassedFrom (in_tree g t v) (map suc path) target (map suc beyond) from → IsCaused beyond from → IsCaused path target
  passes path target beyond from link cause =
      let (q, n, next) = read_at link.passes in
      rw next.gives at
      (passed path next.rule (at (values_at v path)) next.index link.argument (rule_at n (next.number, next.there)) next.source
      next.takes (rw (same_instance path beyond link.argument from link.goes, ← link.goes.0) cause))

  -- so the error at the beginning of a chain has a cause if the error at the end of the chain has a cause
  along : (path : List ℕ) (target : Target) {there : List ℕ} {from : Target} {n : ℕ}
      → IsChain (in_tree g t v) (map suc path) target there from n → (beyond : List ℕ) → there ≡ map suc beyond
      → IsCaused beyond from → IsCaused path target
  along path target itself beyond ends cause = rw (same_path path beyond ends) cause
  along path target (longer there from n beyond origin chain link) end ends cause =
      along path target chain link.passes.path link.passes.counted
      (passes link.passes.path from end origin (rw (link.passes.counted, ends) at link) cause)

pub found_is_cause : FoundIsCause
found_is_cause g t v path target there number n cause =
    let end = cause.arises in
    along g t v path target cause.chain end.path end.counted (arises g t v end.path cause.from number (rw end.counted at end))
