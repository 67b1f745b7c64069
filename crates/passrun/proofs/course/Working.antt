-- Each instruction reduces the remaining work.
use Rattle.passrun.proofs.Common
use Common.{Vec, option_to_list, slice_index_or, ℕ, zero, suc, ◌≡◌, ◌+◌, ◌*◌, ◌-◌, ◌<◌, ◌≤◌, ◌⊎◌, inl, inr, Bool, true, false}
use Common.{if◌then◌else◌, List, [], ◌∷◌, ◌++◌, Option, Some, None, drop, length, reverse, refl, ap, arith, reverse-append, Value}
use Common.{Item, max_nodes, BackState, Instr, Lists, Setting, list_at, IsSound, Machine, OpenNode, goes_next, HasFetched}
use Common.{RootPath, rest_of, Runs, RunsRuleNext, World, stack_of, left_at, after_step}
use Common.writing
use Common.instr
use Rattle.std.proofs.Math.Nat.{mul-suc}
use Rattle.passrun.specs.passing.Working.{all_of, node_cost, reserved_work, remaining_work, measure}
use Rattle.passrun.proofs.steps.Facts.{put_stays, waits_stay}
use Rattle.passrun.proofs.steps.Going.{child_of}
use Rattle.passcode.specs.Course.{start}
use Rattle.passrun.proofs.steps.EntersNone.{goes_nowhere}
use Rattle.passrun.proofs.steps.Steps.{IsNext, next_is}
use Rattle.passrun.proofs.steps.MachineSteps.{popped}

-- No list is longer than all lists together.
list_within : (rows : Lists) (p k : ℕ) → length (slice_index_or (slice_index_or rows p []) k []) ≤ all_of rows k
list_within [] p k = none k
  where
    none : (k : ℕ) → length (slice_index_or (let xs : List (List Instr) = [] in xs) k []) ≤ 0
    none k = omega arith
list_within (row ∷ rows) zero k = omega arith
list_within (row ∷ rows) (suc p) k = omega (arith, list_within rows p k)

-- One instruction fewer remains.
fewer : (c : Setting) (x : OpenNode) {z : Instr} → IsNext c x z
    → length (rest_of c x) ≡ suc (length (drop (x.at + 1) (list_at c x.production)))
fewer c x {z} at = cc (next_is (list_at c x.production) x.at z at)

going_most : (c : Setting) (next : Option OpenNode) → reserved_work c next ≤ node_cost c
going_most c None = omega arith
going_most c (Some x) = go (goes_next (rest_of c x))
  where
    go : (b : Bool) → (if b then node_cost c else 0) ≤ node_cost c
    go true = omega arith
    go false = omega arith

going_none : (c : Setting) (x : OpenNode) → goes_next (rest_of c x) ≡ false → reserved_work c (Some x) ≡ 0
going_none c x e = cc

one_less : (b n : ℕ) → 0 < n → b * n ≡ b * (n - 1) + b
one_less b n h = let e : n ≡ suc (n - 1) = omega arith in cc (mul-suc b (n - 1))

module _ {c : Setting} (sound : IsSound c) where
  pub got_less : (m : Machine) {back : BackState} (values : Vec Value) {read : List Value} {honest : Bool} {content : List ℕ}
      (x : OpenNode) {next : OpenNode} {j p n : ℕ} {x' : Item}
      → IsNext c x (instr.Get j)
      → HasFetched c x' p n honest content m.back back m.values.items read → next ≡ after_step x p
      → measure c (record m { back = back; values = values }) (Some next) < measure c m (Some x)
  got_less m {back} values x {next} {n = n} at h on =
      let e : max_nodes - back.progress.records ≡ max_nodes - m.back.progress.records - 1 =
      omega (arith, ap (λ g. g.records) h.progress) in
      omega (
        arith,
        ap (λ g. g.records) h.progress,
        h.few,
        fewer c x at,
        ap (λ next. length (rest_of c next)) on,
        going_most c (Some next),
        one_less (node_cost c) (max_nodes - m.back.progress.records) (omega arith),
        ap (λ n. node_cost c * n) e,
      )

  pub put_less : {w : World} {m : Machine} (out : writing.Progress) {x next : OpenNode} {j : ℕ} → Runs c w m (Some x)
      → IsNext c x (instr.Put j) → next ≡ after_step x x.child
      → measure c (record m { writer = out }) (Some next) < measure c m (Some x)
  put_less {m} out {x} {next} r at on =
      omega (
        arith,
        fewer c x at,
        ap (λ next. length (rest_of c next)) on,
        going_none c next (cc (put_stays m.waiting.root (reverse m.waiting.nodes) at r.invariant)),
      )

  pub given_less : (m : Machine) (values : Vec Value) (x : OpenNode) {next : OpenNode} (rule : ℕ) → RunsRuleNext c x rule
      → next ≡ after_step x x.child
      → measure c (record m { values = values }) (Some next) < measure c m (Some x)
  given_less m values x {next} rule (j, a, z, giving, at) on =
      let same : goes_next (drop (x.at + 1) (list_at c x.production)) ≡ goes_next (rest_of c x) =
      cc (go z giving, next_is (list_at c x.production) x.at z at) in
      let g : reserved_work c (Some next) ≡ reserved_work c (Some x) = cc in
      omega (arith, fewer c x at, ap (λ next. length (rest_of c next)) on)
    where
      go : (z : Instr) → (z ≡ instr.Set j a rule) ⊎ ((z ≡ instr.Def a rule) × (j ≡ 0))
          → goes_next (drop (x.at + 1) (list_at c x.production)) ≡ goes_next (z ∷ drop (x.at + 1) (list_at c x.production))
      go z (inl e) = cc
      go z (inr e) = cc

  pub entered_less : {w : World} {m : Machine} (waiting : RootPath) {x : OpenNode} (child : OpenNode) {j : ℕ}
      → Runs c w m (Some x) → IsNext c x (instr.Go j)
      → child.production ≡ x.child → child.at ≡ 0 → waiting.nodes ≡ m.waiting.nodes ++ left_at x j ∷ []
      → measure c (record m { waiting = waiting }) (Some child) < measure c m (Some x)
  entered_less {w} {m} waiting {x} child {j} r at is first pushed =
      let stack : reverse waiting.nodes ≡ left_at x j ∷ reverse m.waiting.nodes =
      cc (reverse-append m.waiting.nodes (left_at x j ∷ [])) in
      let here : reserved_work c (Some x) ≡ node_cost c = cc (next_is (list_at c x.production) x.at (instr.Go j) at) in
      let h =
      child_of m.waiting.root (reverse m.waiting.nodes) at (r.transcript, w.meter - m.begun, r.todo, r.invariant) in
      let rest : rest_of c child ≡ list_at c x.child = cc in
      omega (
        arith,
        fewer c x at,
        ap (remaining_work c) stack,
        going_none c child (cc (goes_nowhere c h.production start (list_at c x.child) (λ e. cc)
            (sound.course x.child h.production h.there))),
        list_within c.code x.child c.read,
        ap length rest,
      )

  pub ended_less : {w : World} {m : Machine} (values : Vec Value) (waiting : RootPath) (out : writing.Progress) {x : OpenNode}
      (result : Option OpenNode) → Runs c w m (Some x)
      → m.waiting.nodes ≡ waiting.nodes ++ option_to_list result → (result ≡ None → length m.waiting.nodes ≡ 0)
      → measure c (record m { writer = out; values = values; waiting = waiting }) result < measure c m (Some x)
  ended_less {m} values waiting out result r popped_is none =
      let stack = popped result m.waiting.nodes waiting.nodes popped_is none in
      omega (arith, ap (remaining_work c) stack, is_open result stack)
    where
      is_open : (result : Option OpenNode) → reverse m.waiting.nodes ≡ stack_of result waiting.nodes → reserved_work c result ≡ 0
      is_open None e = refl
      is_open (Some y) e =
          going_none c y (waits_stay m.waiting.root (reverse m.waiting.nodes) e r.invariant)
