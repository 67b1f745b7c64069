-- The steps of a walk along a chain.
use Rattle.causes.proofs.Common
use Common.{◌≡◌, ◌+◌, ◌<◌, inr, Stops, StopsAfter, List, length, get_or, ℕ, true, ◌&&◌, Some, slice_get, sym, ◌∙◌, add-one}
use Common.{IfSome, Result, Ok, Err, nat_eq, OkIff, result_ok, slice_get-get_or, Rule, Target, Grammar, TreeIndex, Follows}
use Common.{IsCause, IsChain, IsNumberFor, IsPassedFrom, longer, in_file}
use Rattle.std.proofs.lemmas.Bool.{and_parts, eqb-true}
use Rattle.passassign.proofs.slots.Linked.{same_parts}
use Rattle.causes.specs.declared.chain.Step.TheVariants as step

-- if the conversion of the number of a rule for the target to two bytes succeeds, the result is the number of such a rule
pub number_found : {E : Type 0} (rules : List Rule) (target : Target) (number : ℕ) {rule : Rule} (converted : Result ℕ E)
    → slice_get rules number ≡ Some rule → (nat_eq rule.target.place target.place && nat_eq rule.target.attr target.attr) ≡ true
    → OkIff converted (number < 65536) number → IfSome (result_ok converted) (IsNumberFor rules target)
number_found rules target number (Err e) there same is = tt
number_found rules target number {rule} (Ok n) there same is =
    let o = rule.target in
    let parts = and_parts (nat_eq o.place target.place) (nat_eq o.attr target.attr) same in
    record {
      rule = rule;
      there = rw is.1 there;
      gives = same_parts o target (eqb-true o.place target.place parts.0) (eqb-true o.attr target.attr parts.1);
    }

-- the rule that is read at a number for the target is the one with this number, and its target is that target
pub rule_there : {rules list : List Rule} {at number : ℕ} {target : Target} {rule : Rule} → list ≡ rules → at ≡ number
    → at < length list → rule ≡ get_or list at rule → IsNumberFor list target number → (slice_get rules number ≡ Some rule)
    × (rule.target ≡ target)
rule_there {rules} {list} {at} {number} {rule = rule} same same_number within is found =
    let there : slice_get rules number ≡ Some rule = cc (slice_get-get_or list at rule within) in
    let one : rule ≡ found.rule = cc in
    (there, rw one found.gives)

-- The grammar of a chain has two names, g and h. So have the index and the content.
module _ {g h : Grammar} {i j : TreeIndex} {old new : List ℕ} (same_grammar : g ≡ h) (same_index : i ≡ j)
    (same_content : old ≡ new) {places : List ℕ} {target : Target} {there : List ℕ} {from : Target} {n : ℕ}
    (chain : IsChain (in_file h j new) places target there from n) where
  -- A chain that is read in a file goes on by one rule.
  pub reads_on : {beyond : List ℕ} {origin : Target} → IsPassedFrom (in_file g i old) there from beyond origin
      → IsChain (in_file h j new) places target beyond origin (n + 1)
  reads_on {beyond} {origin} link =
      rw add-one (longer there from n beyond origin chain (rw (same_grammar, same_index, same_content) at link))

  -- A chain that is read in a file ends in the rule in which the error arises.
  pub arises_in : {beyond at : List ℕ} {number : ℕ} → at ≡ beyond
      → Follows (in_file g i old) there from beyond (step.Arises number) → IsCause (in_file h j new) places target at number n
  arises_in {at = at} ends follows =
      let one : there ≡ at = sym (ends ∙ follows.0) in
      record {
        from = from;
        chain = rw one at chain;
        arises = rw (one, same_grammar, same_index, same_content) at follows.1;
      }

  -- A chain that is read in a file stops.
  pub stops_after : {limit : ℕ} → Stops g i old there from → StopsAfter h j new places target limit
  stops_after stops = record {
    there = there;
    from = from;
    rules = n;
    chain = chain;
    stops = inr (rw (same_grammar, same_index, same_content) at stops);
  }
