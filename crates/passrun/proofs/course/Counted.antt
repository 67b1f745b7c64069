-- The number of bodies read and written, and of rules run.
use Rattle.passrun.proofs.Common
use Common.{ℕ, suc, ◌≡◌, ◌+◌, ◌*◌, ◌<◌, ◌≤◌, List, [], ◌∷◌, Option, Some, None, slice_get, length, refl, ap, ◌∙◌, arith}
use Common.{length-append, Value, Production, Direction, max_rules, Grammar, stored_items, Passes, Valuation, children, Tree}
use Common.{Forest, leaf, node, none, more, node_count, node_counts, is_of_pass, pass_rule_count, rules_of_pass, totals, postfix}
use Common.{postfix_all, prefix, prefix_all, Pending, bodies_of, bodies_of_all, node_body, version_two, Phase, Between, Got, Gone}
use Common.{Ended, Setting, pass_direction, IsSound, OpenNode, Transcript, Entry, Expects, IsCurrent, RunInvariant, IsRootReady}
use Common.{IsOpenNode, below, after_reading, put_of, rules_at, Table, copies, in_children, bodies_count, bodies_counts}
use Rattle.std.proofs.lemmas.List.Sums.{count_by-le-length}
use Rattle.passcode.specs.Course.{State, place_of}
use Rattle.passassign.proofs.slots.Few.{few_rules}
use Rattle.treefile.proofs.records.Orders.{length-postfix, length-postfix_all, length-prefix_all}
use Rattle.passrun.proofs.course.Finish.{count_of}

-- One body is read and one is written for each node.
count_of_all : (d : Direction) (g : Grammar) (m : Passes) (k : ℕ) (ts : Forest) (vs : ℕ → Valuation)
    → length (prefix_all d (bodies_of_all version_two g m k ts vs)) ≡ node_counts ts
count_of_all d g m k ts vs = length-prefix_all d (bodies_of_all version_two g m k ts vs) ∙ bodies_counts version_two g m k ts vs

post_of : (d : Direction) (g : Grammar) (m : Passes) (k : ℕ) (t : Tree) (v : Valuation)
    → length (postfix d (bodies_of version_two g m k t v)) ≡ node_count t
post_of d g m k t v = length-postfix d (bodies_of version_two g m k t v) ∙ bodies_count version_two g m k t v

post_of_all : (d : Direction) (g : Grammar) (m : Passes) (k : ℕ) (ts : Forest) (vs : ℕ → Valuation)
    → length (postfix_all d (bodies_of_all version_two g m k ts vs)) ≡ node_counts ts
post_of_all d g m k ts vs = length-postfix_all d (bodies_of_all version_two g m k ts vs) ∙ bodies_counts version_two g m k ts vs

-- The list of a tree without its root's body has one body fewer.
below_count : (d : Direction) (g : Grammar) (m : Passes) (k : ℕ) (t : Tree) (v : Valuation)
    → suc (length (below d (bodies_of version_two g m k t v))) ≡ node_count t
below_count d g m k (leaf c x) v = refl
below_count d g m k (node p ts) v = ap suc (post_of_all d g m k ts (children v))

module _ {c : Setting} (sound : IsSound c) where
  few_of : (p : ℕ) (o : Option Production) → slice_get c.grammar.productions p ≡ o
      → pass_rule_count c.passes c.write o ≤ max_rules
  few_of p None e = omega arith
  few_of p (Some q) e =
      omega (arith, few_rules c.grammar sound.accepted p q e, count_by-le-length (is_of_pass c.passes c.write q) q.rules)

  mutual
    pub rules_bound : (t : Tree) → rules_of_pass c.passes c.write c.grammar t ≤ 65536 * node_count t
    rules_bound (leaf d x) = omega arith
    rules_bound (node p ts) =
        omega (arith, few_of p (slice_get c.grammar.productions p) refl, rules_bound_all ts)

    rules_bound_all : (ts : Forest) → totals (pass_rule_count c.passes c.write) c.grammar ts ≤ 65536 * node_counts ts
    rules_bound_all none = omega arith
    rules_bound_all (more t ts) =
        omega (arith, rules_bound t, rules_bound_all ts)

  -- The counts after the visited children of a node whose record was read.
  stays_counted : {entry : Entry} {level p : ℕ} {q : Production} {state : State} {e : Table} {ts : Forest}
      {ws : ℕ → Valuation} {new : Transcript} (opened : ℕ)
      → IsOpenNode c entry level p q state e ts ws new
      → length entry.old.put + opened ≡ length entry.old.read → entry.before ≤ 65536 * length entry.old.read
      → (length new.put + suc opened ≡ length new.read) × (entry.before + rules_at c q ts ≤ 65536 * length new.read)
  stays_counted {entry} {p = p} {q} {e = e} {ts} {ws} opened is_open balanced few =
      let pre = count_of_all (pass_direction c) c.grammar c.passes c.read ts ws in
      let post = post_of_all (pass_direction c) c.grammar c.passes c.write ts ws in
      let a = ap length is_open.visits.read in
      let b =
      length-append (after_reading c p entry.own (copies c c.read (stored_items q.items) (in_children e)) entry.old).read
      (prefix_all (pass_direction c) (bodies_of_all version_two c.grammar c.passes c.read ts ws)) in
      let d =
      length-append entry.old.read
      (node_body version_two c.grammar c.passes c.read p entry.own (copies c c.read (stored_items q.items) (in_children e))
      ∷ []) in
      let e' = ap length is_open.visits.put in
      let f' =
      length-append entry.old.put (postfix_all (pass_direction c) (bodies_of_all version_two c.grammar c.passes c.write ts ws)) in
      let rules = rules_bound_all ts in
      let most = few_of p (Some q) is_open.there in
      (omega arith, omega arith)

  waits_counted : (root : ℕ) (xs : List OpenNode) (p : ℕ) (entry : Entry) → Expects c root xs p entry
      → (length entry.old.put + length xs ≡ length entry.old.read) × (entry.before ≤ 65536 * length entry.old.read)
  waits_counted root [] p entry w =
      let a = ap (λ z. length z.put) w.3 in
      let b = ap (λ z. length z.read) w.3 in
      let n = w.4 in
      (omega arith, omega arith)
  waits_counted root (x ∷ xs) p entry (outer, waits, z) =
      let h = waits_counted root xs x.production outer waits in
      let k = stays_counted (length xs) z.is_open h.0 h.1 in
      let n = z.counted in
      let m = k.1 in
      (k.0, omega arith)

  current_counted : (q : Production) (ph : Phase) (i level p : ℕ) (e of_child : Table) (row : List Value) (old new : Transcript)
      (count : ℕ) → IsCurrent c q ph i level p e of_child row old new count
      → (length new.put + length old.read ≤ length new.read + length old.put)
      × (count + 65536 * length old.read ≤ 65536 * length new.read)
  current_counted q Between i level p e of_child row old new count h =
      let a = ap (λ z. length z.put) h.0 in
      let b = ap (λ z. length z.read) h.0 in
      let n = h.1 in
      (omega arith, omega arith)
  current_counted q Ended i level p e of_child row old new count h = absurd h
  current_counted q Got i level p e of_child row old new count h =
      let body =
      node_body version_two c.grammar c.passes c.read p (e (place_of q c.write i))
      (copies c c.read (stored_items h.0.production.items) (in_children of_child)) in
      let a = ap (λ z. length z.put) h.0.transcript in
      let b = ap (λ z. length z.read) h.0.transcript in
      let d = length-append old.read (body ∷ []) in
      let n = h.1 in
      (omega arith, omega arith)
  current_counted q Gone i level p e of_child row old new count (h, nothing) =
      let t = h.tree in
      let a = ap length h.read in
      let b = length-append old.read (prefix (pass_direction c) (bodies_of version_two c.grammar c.passes c.read t h.values)) in
      let d = count_of (pass_direction c) c.grammar c.passes c.read t h.values in
      let put = put_of (pass_direction c) t (bodies_of version_two c.grammar c.passes c.write t h.values) in
      let e' = ap length h.put in
      let f' = length-append old.put put in
      let g' = put_few t h.values in
      let rules = rules_bound t in
      let n = h.counted in
      (omega arith, omega arith)
    where
      put_few : (t : Tree) (w : Valuation)
          → length (put_of (pass_direction c) t (bodies_of version_two c.grammar c.passes c.write t w)) ≤ node_count t
      put_few (leaf d text) w = omega arith
      put_few (node p ts) w = omega (arith, post_of (pass_direction c) c.grammar c.passes c.write (node p ts) w)

  -- While nodes are open, fewer bodies were written than read, and no more rules were run than the bodies
  -- that were read allow.
  pub passing_counted : (root : ℕ) {x : OpenNode} (xs : List OpenNode) {values : List Value} {t : Transcript} {now : ℕ}
      {todo : Pending} → RunInvariant c root (x ∷ xs) values t now todo
      → (length t.put < length t.read) × (now ≤ 65536 * length t.read)
  passing_counted root {x} xs {t} (entry, waits, ph, o) =
      let h = waits_counted root xs x.production entry waits in
      let m = stays_counted (length xs) o.is_open h.0 h.1 in
      let k = current_counted o.production ph o.i (suc (length xs)) x.child o.table o.of_child o.row o.mid t o.count o.current in
      let n = o.counted in
      let a = m.0 in
      let b = m.1 in
      let d = k.0 in
      let e = k.1 in
      (omega arith, omega arith)

  pub ready_counted : {root : ℕ} {values : List Value} {t : Transcript} {now : ℕ} {todo : Pending}
      → IsRootReady c root values t now todo → suc (length t.put) ≡ length t.read
  ready_counted h =
      omega (
        arith,
        ap length h.ready.read,
        count_of (pass_direction c) c.grammar c.passes c.read h.tree h.valuation,
        ap length h.ready.put,
        below_count (pass_direction c) c.grammar c.passes c.write h.tree h.valuation,
      )
