-- Each error of a tree has a cause.
use Rattle.origins.proofs.Common
use Common.{ℕ, zero, suc, ◌≡◌, ◌+◌, ◌<◌, ◌≤◌, ◌⊎◌, inl, inr, Bool, true, false, cond, List, [], ◌∷◌, ◌++◌, length, Option, Some}
use Common.{None, slice_get, refl, ap, ◌∙◌, sym, zero-add, pos, arith, nat_lt, cases_Bool, cases_lt, eq-eqb, le-ltb, lt-ltb}
use Common.{ltb-false, ltb-true, slice_get_past, number_of, ErrorCode, Value, Num, Text, outs-Num, outs-Text, Rule, Target}
use Common.{value_of, fault_of, Grammar, IsArgument, SolvesAll, Valuation, at, below, children, rest, Forest, Tree, leaf, node}
use Common.{none, more, Table, environment, exchanged, is_arising, is_same_error, value_at, child_of}
use Rattle.ag_grammar.specs.grammars.Solution.{AnyRule, Holds, Solves}
use Rattle.origins.specs.Arising.{arises}
use Rattle.origins.specs.Causes.{ErrorsHaveCauses, HasCause, IsRuleAt, IsSource, exchanged_below, here, is_still, passed}
use Rattle.origins.specs.Causes.{place_path, tree_at, values_at}
use Rattle.origins.specs.Origins as origins
use Rattle.origins.proofs.Induction.{Closed, ClosedIn, attribute_induction}

number_clean : fault_of (Num (pos 0)) ≡ None
number_clean = cc (outs-Num (pos 0))

text_clean : (x : List ℕ) → fault_of (Text x) ≡ None
text_clean x = cc (outs-Text x)

-- a value that is not an error stays the same
stays_clean : (v : Value) → fault_of v ≡ None → exchanged v ≡ v
stays_clean v clean = cc

same_itself : (c : ErrorCode) → is_same_error (Some c) (Some c) ≡ true
same_itself c = eq-eqb (number_of c) (number_of c) refl

-- if a test is true of 0 and false of n, it turns from true to false at some k
turning : (f : ℕ → Bool) (n : ℕ) → f 0 ≡ true → f n ≡ false → (k : ℕ) × (f k ≡ true) × (f (suc k) ≡ false)
turning f zero on off = cc
turning f (suc n) on off = elim (cases_Bool (f n)) [ inl yet ↦ (n, yet, off) | inr no_more ↦ turning f n on no_more ]

-- no number is below k without being below k + 1
apart : (j k : ℕ) → nat_lt j k ≡ true → nat_lt j (suc k) ≡ false → ⊥
apart j k on off = let less = ltb-true j k on in let past = ltb-false j (suc k) off in omega arith

-- a number that is below k + 1, and not below k, is k
turn_at : (j k : ℕ) → nat_lt j k ≡ false → nat_lt j (suc k) ≡ true → j ≡ k
turn_at j k off on = let past = ltb-false j k off in let less = ltb-true j (suc k) on in omega arith

exchanged_next : (k : ℕ) (env : ℕ → Value) → fault_of (env k) ≡ None → (j : ℕ) (a b : Bool) → nat_lt j k ≡ a
    → nat_lt j (suc k) ≡ b → cond a (exchanged (env j)) (env j) ≡ cond b (exchanged (env j)) (env j)
exchanged_next k env clean j true true ea eb = refl
exchanged_next k env clean j false false ea eb = refl
exchanged_next k env clean j true false ea eb = absurd (apart j k ea eb)
exchanged_next k env clean j false true ea eb =
    let same : j ≡ k = turn_at j k ea eb in sym (stays_clean (env j) (cc))

module _ (r : Rule) (e : Table) where
  abbrev env : ℕ → Value
  env = environment r e

  still_by : (f h : ℕ → Value) → ((k : ℕ) → f k ≡ h k)
      → is_same_error (fault_of (value_of r.expr.tree env)) (fault_of (value_of r.expr.tree f))
      ≡ is_same_error (fault_of (value_of r.expr.tree env)) (fault_of (value_of r.expr.tree h))
  still_by f h same = let one : f ≡ h = λ i k. same k i in cc

  -- if a rule's value is an error, the rule has the same error with no argument's error exchanged
  pub still_none : (c : ErrorCode) → fault_of (value_of r.expr.tree (environment r e)) ≡ Some c → is_still r e 0 ≡ true
  unfolding is_still
  still_none c error =
      cc (still_by (exchanged_below 0 env) env (λ k. cc (le-ltb k 0 (omega arith))), error, same_itself c)

  -- if no error arises in a rule, the rule doesn't have the same error with the errors of all arguments exchanged
  still_all : is_arising e r ≡ false → is_still r e (length r.args) ≡ false
  unfolding arises is_still
  still_all quiet =
      still_by (exchanged_below (length r.args) env) (λ k. exchanged (env k)) (λ k. each k (cases_lt k (length r.args))) ∙ quiet
    where
      each : (k : ℕ) → (k < length r.args) ⊎ (length r.args ≤ k) → exchanged_below (length r.args) env k ≡ exchanged (env k)
      each k (inl less) = cc (lt-ltb k (length r.args) less)
      each k (inr past) =
          let nothing : env k ≡ Num (pos 0) = cc (slice_get_past r.args k past) in
          let clean : fault_of (env k) ≡ None = cc number_clean in
          cc (le-ltb k (length r.args) past, stays_clean (env k) clean)

  -- if a rule has the same error with the errors of all arguments exchanged, this error arises in the rule
  pub arises_here : is_still r e (length r.args) ≡ true → is_arising e r ≡ true
  arises_here on = elim (cases_Bool (is_arising e r)) [ inl arising ↦ arising | inr quiet ↦ cc (still_all quiet) ]

  -- the argument k at which `is_still` turns from true to false is an error
  pub not_clean : (k : ℕ) → is_still r e k ≡ true → is_still r e (suc k) ≡ false → fault_of (environment r e k) ≡ None → ⊥
  unfolding is_still
  not_clean k on off clean =
      let same : is_still r e k ≡ is_still r e (suc k) =
      still_by (exchanged_below k env) (exchanged_below (suc k) env)
      (λ j. exchanged_next k env clean j (nat_lt j k) (nat_lt j (suc k)) refl refl) in
      cc

  -- A rule whose value is an error that doesn't arise in it has a source, which is an argument that is an error.
  record HasSource : Type 0 where
    number : ℕ
    argument : Target
    source : IsSource r e number
    occurs : slice_get r.args number ≡ Some argument
    error : fault_of (e argument.place argument.attr) ≡ None → ⊥

  source_of : (c : ErrorCode) → fault_of (value_of r.expr.tree env) ≡ Some c → is_arising e r ≡ false → HasSource
  source_of c error quiet =
      let t = turning (is_still r e) (length r.args) (still_none c error) (still_all quiet) in
      by_argument t.0 t.1 t.2 (slice_get r.args t.0) refl
    where
      by_argument : (k : ℕ) → is_still r e k ≡ true → is_still r e (suc k) ≡ false → (o : Option Target) → slice_get r.args k ≡ o
          → HasSource
      by_argument k on off None is = absurd (not_clean k on off (cc number_clean))
      by_argument k on off (Some o) is = record {
        number = k;
        argument = o;
        source = record { before = on; after = off };
        occurs = is;
        error = λ clean. not_clean k on off (cc);
      }

-- the tree at the end of a path with one more child number is that child of the tree at the end of the path
tree_snoc : (t : Option Tree) (path : List ℕ) (i : ℕ) → tree_at t (path ++ i ∷ []) ≡ child_of (tree_at t path) i
tree_snoc t [] i = refl
tree_snoc t (j ∷ path) i = tree_snoc (child_of t j) path i

values_snoc : (v : Valuation) (path : List ℕ) (i : ℕ) → values_at v (path ++ i ∷ []) ≡ below i (values_at v path)
values_snoc v [] i = refl
values_snoc v (j ∷ path) i = values_snoc (below j v) path i

module _ (g : Grammar) (t : Tree) (v : Valuation) where
  -- an attribute instance is not an error, or its error has a cause
  abbrev pub Explained : List ℕ → ℕ → Type 0
  Explained path a = (fault_of (values_at v path [] a) ≡ None) ⊎ HasCause g t v path a

  -- the value of an attribute at a place of a node is that of the attribute of the node at this place
  at_instance : (path : List ℕ) (j a : ℕ) → values_at v (place_path path j) [] a ≡ at (values_at v path) j a
  at_instance path zero a = refl
  at_instance path (suc i) a = rw values_snoc

  rule_explains : (path : List ℕ) (r : Rule) → IsRuleAt g t v path r (at (values_at v path)) → Holds r (at (values_at v path))
      → ((o : Target) → IsArgument r o → Explained (place_path path o.place) o.attr)
      → Explained (place_path path r.target.place) r.target.attr
  rule_explains path r is holds args = elim (cases_Bool (is_arising (at (values_at v path)) r)) [
    | inl arising ↦ inr (here path r (at (values_at v path)) is arising)
    | inr quiet ↦ by_fault quiet (fault_of (value_of r.expr.tree (environment r (at (values_at v path))))) refl
  ]
    where
      by_fault : is_arising (at (values_at v path)) r ≡ false → (c : Option ErrorCode)
          → fault_of (value_of r.expr.tree (environment r (at (values_at v path)))) ≡ c
          → Explained (place_path path r.target.place) r.target.attr
      by_fault quiet None error =
          let e : Table = at (values_at v path) in
          let value_is = holds (environment r e) (λ k o arg. ap (value_at e) arg) in
          inl (cc (error, at_instance path r.target.place r.target.attr, value_is))
      by_fault quiet (Some c) error =
          let s = source_of r (at (values_at v path)) c error quiet in
          elim (args s.argument (s.number, s.occurs)) [
            | inl clean ↦ absurd (s.error (cc (at_instance path s.argument.place s.argument.attr)))
            | inr cause ↦ inr (passed path r (at (values_at v path)) s.number s.argument is s.source s.occurs cause)
          ]

  mutual
    closed : (s : Tree) (path : List ℕ) → tree_at (Some t) path ≡ Some s → Solves AnyRule g s (values_at v path)
        → Closed Explained g s path
    closed (leaf c x) path there solves = inl (cc (text_clean x))
    closed (node p ts) path there solves = (
      (λ q r eq rule args. rule_explains path r
          (record { production = p; trees = ts; there = there; of = q; is = eq; rule = rule; values = refl })
          ((rw eq at solves.0) r rule tt) args),
      closed_in ts path 0 (children (values_at v path)) (λ i. cc (zero-add i)) (λ i. cc (values_snoc v path (0 + i), zero-add i))
          solves.1,
    )

    closed_in : (ts : Forest) (path : List ℕ) (n : ℕ) (us : ℕ → Valuation)
        → ((i : ℕ) → child_of (tree_at (Some t) path) (n + i) ≡ origins.child ts i)
        → ((i : ℕ) → values_at v (path ++ (n + i) ∷ []) ≡ us i) → SolvesAll AnyRule g ts us → ClosedIn Explained g ts path n
    closed_in none path n us is same solves = tt
    closed_in (more s ts) path n us is same solves =
        let first : n + 0 ≡ n = omega arith in
        let there : tree_at (Some t) (path ++ n ∷ []) ≡ Some s = cc (tree_snoc (Some t) path n, is 0) in
        let values : us 0 ≡ values_at v (path ++ n ∷ []) = cc (same 0) in (
          closed s (path ++ n ∷ []) there (rw values at solves.0),
          closed_in ts path (suc n) (rest us)
              (λ i. let next : suc n + i ≡ n + suc i = omega arith in cc (is (suc i)))
              (λ i. let next : suc n + i ≡ n + suc i = omega arith in cc (same (suc i))) solves.1,
        )

pub errors_have_causes : ErrorsHaveCauses
errors_have_causes g m t v accepted legal fits solves =
    attribute_induction (Explained g t v) g m t accepted legal fits (closed g t v t [] refl solves)
