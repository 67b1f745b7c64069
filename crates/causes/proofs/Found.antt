-- Where an error has a cause, one is found along the nodes of the tree.
use Rattle.causes.proofs.Common
use Common.{IsCause, ℕ, zero, suc, ◌≡◌, inl, inr, List, [], ◌∷◌, map, refl, sym, arith, map-append, Production, Rule, Target}
use Common.{IsAccepted, Grammar, HasKind, Kind, used_kind, defined_kind, Valuation, Tree, HasCause, here, passed, place_path}
use Common.{GoesTo, IsChain, IsPassedFrom, Reading, itself, longer, in_tree, IsNodeAt, Table}
use Rattle.origins.specs.Causes.{IsRuleAt}
use Rattle.causes.proofs.Paths.{last_same, node_of, reads}
use Rattle.causes.specs.Laws.{CauseIsFound, IsFound}

-- a chain with one rule more at its beginning
prepend : {R : Reading} {places : List ℕ} {target : Target} {there : List ℕ} {from : Target}
    → IsPassedFrom R places target there from → {beyond : List ℕ} {origin : Target} {n : ℕ} → IsChain R there from beyond origin n
    → IsChain R places target beyond origin (suc n)
prepend {places = places} {target} {there} {from} link itself = longer places target 0 there from itself link
prepend link (longer between via n beyond origin chain last) = longer between via (suc n) beyond origin (prepend link chain) last

-- An attribute at a place of the node at the end of a path is of a kind.
record IsOfKind (g : Grammar) (t : Tree) (path : List ℕ) (o : Target) (kind : Kind) : Type 0 where
  of : Production
  here : IsNodeAt g t path of
  kind_is : HasKind g of o kind

-- An attribute at a place of a node has only one kind.
one_kind : {g : Grammar} {t : Tree} {path other : List ℕ} {o p : Target} {k l : Kind} → IsOfKind g t path o k
    → IsOfKind g t other p l → path ≡ other → o.place ≡ p.place → o.attr ≡ p.attr → k ≡ l
one_kind a b same place attr = cc

-- a chain goes from an argument to the rule that computes the argument's instance
goes : {g : Grammar} {t : Tree} (path beyond : List ℕ) (argument target : Target) (j i : ℕ) → argument.place ≡ j
    → target.place ≡ i → IsOfKind g t path argument (used_kind j) → IsOfKind g t beyond target (defined_kind i)
    → place_path path j ≡ place_path beyond i → argument.attr ≡ target.attr
    → GoesTo (map suc path) argument (map suc beyond) target
goes path beyond argument target zero zero ej ei taken given same attr = cc (one_kind taken given same (cc) attr)
goes path beyond argument target zero (suc i) ej ei taken given same attr =
    (sym attr, inl (ej, cc (map-append suc beyond (i ∷ []))))
goes path beyond argument target (suc j) zero ej ei taken given same attr =
    (sym attr, inr (omega arith, cc (map-append suc path (j ∷ [])), ei))
goes path beyond argument target (suc j) (suc i) ej ei taken given same attr =
    let both = last_same path beyond j i same in
    cc (one_kind taken given both.0 (cc both.1) attr)

-- a chain to the cause is found, and the target of its first rule is one that the node's production defines
record IsFoundAt (g : Grammar) (t : Tree) (v : Valuation) (instance : List ℕ) (attr : ℕ) : Type 0 where
  found : IsFound g t v instance attr
  given : IsOfKind g t found.path found.target (defined_kind found.target.place)

module _ {g : Grammar} {t : Tree} {v : Valuation} (accepted : IsAccepted g) where
  -- a cause that is found from a rule on is a cause of the attribute that this rule computes
  found_from : {path : List ℕ} {r : Rule} {e : Table} → IsRuleAt g t v path r e → {there : List ℕ} {number steps : ℕ}
      → IsCause (in_tree g t v) (map suc path) r.target there number steps
      → IsFoundAt g t v (place_path path r.target.place) r.target.attr
  found_from {path} {r} is {there} {number} {steps} cause = record {
    found = record {
      path = path;
      target = r.target;
      of_instance = refl;
      of_attr = refl;
      there = there;
      number = number;
      steps = steps;
      cause = cause;
    };
    given = record {
      of = is.of;
      here = node_of is;
      kind_is = (accepted.complete is.production is.of is.is).no_other is.rule.0 r is.rule.1;
    };
  }

  find : {instance : List ℕ} {attr : ℕ} → HasCause g t v instance attr → IsFoundAt g t v instance attr
  find (here path r e is on) = found_from is (record {
    from = r.target;
    chain = itself;
    arises = reads (node_of is) (record { rule = r; there = is.rule.1; gives = refl; arises = rw is.values at on });
  })
  find (passed path r e k o is source takes cause) =
      let f = find cause in
      let h = f.found in
      let normal = accepted.normal is.production is.of is.is is.rule.0 r is.rule.1 in
      let link : IsPassedFrom (in_tree g t v) (map suc path) r.target (map suc h.path) h.target = record {
        argument = o;
        passes = reads (node_of is) (record {
          number = is.rule.0;
          rule = r;
          there = is.rule.1;
          gives = refl;
          index = k;
          takes = takes;
          source = rw is.values at source;
        });
        goes = goes path h.path o h.target o.place h.target.place refl refl
            (record { of = is.of; here = node_of is; kind_is = normal k o takes }) f.given h.of_instance h.of_attr;
      } in
      found_from is (record { from = h.cause.from; chain = prepend link h.cause.chain; arises = h.cause.arises })

pub cause_is_found : CauseIsFound
cause_is_found g t v instance attr accepted cause = (find accepted cause).found
