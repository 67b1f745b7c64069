-- In a solution, each rule of a chain has an error, and the chain is short.
use Rattle.causes.proofs.Common
use Common.{ℕ, zero, suc, ◌≡◌, ◌*◌, ◌-◌, ◌<◌, inl, inr, List, [], ◌∷◌, ◌++◌, map, Some, None, slice_get, refl, ap, sym, arith}
use Common.{map-append, slice_get_within, Production, Target, IsAccepted, Grammar, HasKind, Inherited, defined_kind, item_at}
use Common.{item_kinds, used_kind, IsLegal, Passes, AnyRule, RulesHold, Solves, Valuation, at, IsTreeOf, Tree, node_count}
use Common.{fault_of, Table, environment, place_path, values_at, GoesTo, HasNoError, IsChain, IsPassedFrom, itself, longer}
use Common.{in_tree, HasRule, IsNodeAt}
use Rattle.ag_value.specs.declared.value.Value.TheVariants.{outs-Text}
use Rattle.passassign.proofs.slots.Few.{few_rules}
use Rattle.origins.proofs.Caused.{not_clean}
use Rattle.causes.proofs.Dependence.{DependsOn, dependencies_short}
use Rattle.causes.proofs.Instances.{instance_at, item_of, item_there, node_there}
use Rattle.causes.proofs.Paths.{last_place, on_way, read_at, solves_at, values_further}
use Rattle.causes.proofs.Relations.{Reaches, further}

-- the value at a place of a node is that of the instance
at_instance : (v : Valuation) (path : List ℕ) (j a : ℕ) → values_at v (place_path path j) [] a ≡ at (values_at v path) j a
at_instance v path zero a = refl
at_instance v path (suc i) a = rw values_further

-- The rule for a target at the node of a path computes an error.
pub record IsErrorAt (g : Grammar) (t : Tree) (v : Valuation) (path : List ℕ) (target : Target) : Type 0 where
  pub has : HasRule g t path target
  pub error : fault_of (values_at v (place_path path target.place) [] target.attr) ≡ None → ⊥

-- If the first rule of a chain computes an error, so does the last one.
pub record IsLastError (g : Grammar) (t : Tree) (v : Valuation) (path : List ℕ) (target : Target) (there : List ℕ) (from : Target)
    (n : ℕ) : Type 0 where
  pub beyond : List ℕ
  pub counted : there ≡ map suc beyond
  pub last : IsErrorAt g t v beyond from
  pub depends : Reaches (DependsOn g t) n (place_path path target.place, target.attr) (place_path beyond from.place, from.attr)

module _ (g : Grammar) (t : Tree) (v : Valuation) (accepted : IsAccepted g) (fits : IsTreeOf g t)
    (solves : Solves AnyRule g t v) where
  has_rule : {path : List ℕ} {q : Production} → IsNodeAt g t path q → (target : Target)
      → HasKind g q target (defined_kind target.place) → HasRule g t path target
  has_rule {q = q} n target kind =
      let rule = (accepted.complete n.number q n.is).all target kind in
      record { of = q; here = n; rule = rule.0; is = rule.1; gives = rule.2 }

  -- an inherited attribute of a node has a rule at the node's parent
  up_rule : (path : List ℕ) (i : ℕ) {q : Production} → IsNodeAt g t (path ++ i ∷ []) q → (from : Target) → from.place ≡ suc i
      → slice_get (item_kinds g (item_at q 0)) from.attr ≡ Some Inherited → HasRule g t path from
  up_rule path i {q} n from placed kind =
      let (_, _, is, _, _, _) = on_way path (Some t) i [] n.there in
      let (of, here) = node_there fits path is in
      let (x, there, fit) = item_there fits here i n.there in
      let item : item_at of (suc i) ≡ item_at q 0 = cc (item_of g x n.number n.trees fit n.is).0 in
      has_rule here from (rw (placed, item) kind)

  -- if an argument is an error, there is a rule for it at the node to which the chain goes
  argument_rule : (path : List ℕ) {q : Production} → IsNodeAt g t path q → (argument : Target) (there : List ℕ) (from : Target)
      → HasKind g q argument (used_kind argument.place) → GoesTo (map suc path) argument there from
      → (fault_of (values_at v (place_path path argument.place) [] argument.attr) ≡ None → ⊥)
      → (beyond : List ℕ) × (there ≡ map suc beyond) × HasRule g t beyond from
      × (place_path path argument.place ≡ place_path beyond from.place)
  argument_rule path n argument there from kind (attr, inl (own, up)) error =
      let (beyond, number, counted, placed, split, same) = last_place path there up in (
        beyond,
        counted,
        up_rule beyond number (rw split at n) from placed (rw attr (rw own at kind)),
        rw own same,
      )
  argument_rule path n argument there from kind (attr, inr (child, down, own)) error =
      let i = argument.place - 1 in
      let is : argument.place ≡ suc i = omega arith in
      elim (instance_at fits n (suc i) argument.attr (rw is at kind)) [
        | inr token ↦ (let solution = solves_at AnyRule g (path ++ i ∷ []) t v solves token.there in
            absurd (error (rw (is, token.lex, solution) (cc (outs-Text token.text)))))
        | inl (r, m, of_kind) ↦ (
          path ++ i ∷ [],
          cc (map-append suc path (i ∷ [])),
          has_rule m from (rw (own, attr) of_kind),
          rw own (ap (place_path path) is),
        )
      ]

  -- The next rule of a chain computes an error too, and the instance that the last rule computes depends on that rule's instance.
  next_error : {path : List ℕ} {target : Target} {there : List ℕ} {from : Target} {n : ℕ}
      → IsLastError g t v path target there from n → {beyond : List ℕ} {origin : Target}
      → IsPassedFrom (in_tree g t v) there from beyond origin → IsLastError g t v path target beyond origin (suc n)
  next_error {from = from} {n} last {beyond} {origin} link =
      let path = last.beyond in
      let (q, here, next) = read_at (rw last.counted at link.passes) in
      let argument = link.argument in
      let (same_attr, _) = link.goes in
      let error : fault_of (values_at v (place_path path argument.place) [] argument.attr) ≡ None → ⊥ = λ clean.
      not_clean next.rule (at (values_at v path)) next.index next.source.before next.source.after
      (rw (next.takes, ← at_instance v path argument.place argument.attr) clean) in
      let kind = accepted.normal here.number q here.is next.number next.rule next.there next.index argument next.takes in
      let (end, counted, has, same) = argument_rule path here argument beyond origin kind (rw last.counted at link.goes) error in
      let step : DependsOn g t (place_path path from.place, from.attr) (place_path end origin.place, origin.attr) = record {
        path = path;
        of = q;
        here = here;
        rule = next.rule;
        is = (next.number, next.there);
        argument = argument;
        taken = (next.index, next.takes);
        from = rw next.gives refl;
        from_attr = rw next.gives refl;
        to = same;
        to_attr = sym same_attr;
      } in
      record {
        beyond = end;
        counted = counted;
        last = record { has = has; error = λ clean. error (cc (same, same_attr, clean)) };
        depends = further (DependsOn g t) n _ _ _ last.depends step;
      }

  pub last_error : {path : List ℕ} {target : Target} → IsErrorAt g t v path target → {there : List ℕ} {from : Target} {n : ℕ}
      → IsChain (in_tree g t v) (map suc path) target there from n → IsLastError g t v path target there from n
  last_error {path} first itself = record { beyond = path; counted = refl; last = first; depends = refl }
  last_error first (longer there from n beyond origin chain link) = next_error (last_error first chain) link

  -- A chain has fewer rules than 16 for each node of the tree.
  pub chain_short : (m : Passes) → IsLegal g m → {path : List ℕ} {target : Target} {there : List ℕ} {from : Target} {n : ℕ}
      → IsErrorAt g t v path target → IsChain (in_tree g t v) (map suc path) target there from n → n < 16 * node_count t
  chain_short m legal {path} {target} {there} {from} {n} first chain =
      let last = last_error first chain in
      dependencies_short g t accepted fits m legal path target first.has n (place_path last.beyond from.place, from.attr)
      last.depends

  -- If the rule for a target computes an error, the value of its expression is an error.
  pub rule_error : {path : List ℕ} {target : Target} (error : IsErrorAt g t v path target)
      → HasNoError error.has.of.rules (at (values_at v path)) target → ⊥
  rule_error {path} {target} error no_error =
      let has = error.has in
      let n = has.here in
      let e : Table = at (values_at v path) in
      let solution = solves_at AnyRule g path t v solves n.there in
      let rules : RulesHold AnyRule (Some has.of) e = rw n.is at solution.0 in
      let value = rules has.rule has.is tt (environment has.rule e) (λ k o arg. cc) in
      let few = few_rules g accepted n.number has.of n.is in
      let within = slice_get_within has.of.rules has.is.0 has.rule has.is.1 in
      let clean = no_error has.is.0 has.rule (omega arith) has.is.1 has.gives in
      error.error (cc (at_instance v path target.place target.attr, has.gives, value, clean))
