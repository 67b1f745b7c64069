-- An open node after a rule was run.
use Rattle.passrun.proofs.Common
use Common.{ℕ, zero, suc, ◌≡◌, ◌≢◌, ◌+◌, ◌<◌, ◌⊎◌, inl, inr, ◌∷◌, Some, slice_get, ap, ◌∙◌, sym, arith, Value, Production, Rule}
use Common.{Target, Direction, LeftToRight, RightToLeft, Has, value_of, IsArgument, symbol_kinds, Synthesized, HasPass, nth}
use Common.{Valuation, Holds, Supplies, Forest, Got, Setting, pass_direction, IsSound, Transcript, Keeps, IsHeld, AreHeld}
use Common.{Entry, IsOpenNode, IsReached, Table, leftmost}
use Rattle.passcode.specs.Course.{IsTurnOf, MayCompute, State, arity, place_of, read_count}
use Rattle.passrun.specs.passing.Change.{set}
use Rattle.passrun.proofs.places.Copies.{copies_set}
use Rattle.passrun.proofs.places.Tables.{set_here, set_other, set_target}
use Rattle.passrun.proofs.steps.RuleTargets.{target_kind, one_rule, no_argument}

-- A rule still holds if its target and its arguments have the same values.
pub holds_same : (r : Rule) (e f : Table) → e r.target.place r.target.attr ≡ f r.target.place r.target.attr
    → ((o : Target) → IsArgument r o → e o.place o.attr ≡ f o.place o.attr) → Holds r e → Holds r f
holds_same r e f t same h env is = sym t ∙ h env (λ k o at. is k o at ∙ sym (same o (k, at)))

-- The places of the visited children are neither the node's own nor the next one.
pub seen_differs : (d : Direction) (n i b : ℕ) → b < i → i < n → suc (leftmost d n i + b) ≢ suc (nth d n i)
seen_differs LeftToRight n i b h l e = omega arith
seen_differs RightToLeft n i b h l e = omega arith

-- The place of a rule's target: the node itself, or the child whose record was read.
abbrev pub IsPlaced : Setting → Production → State → ℕ → Type 0
IsPlaced c q state j = (j ≡ 0) ⊎ IsTurnOf q c.write state Got j

pub known_here : (c : Setting) (q : Production) (i j : ℕ) → j ≡ place_of q c.write i → IsReached c q (suc i) j
known_here c q i j e = inr (i, omega arith, e)

pub place_known : (c : Setting) (q : Production) (state : State) (j : ℕ) → IsPlaced c q state j
    → IsReached c q (read_count state.phase state.turn) j
place_known c q state j h = elim h [
  | inl own ↦ inl own
  | inr turn ↦ rw turn.phase_is (known_here c q state.turn j turn.place)
]

module _ {c : Setting} (sound : IsSound c) where
  pub open_after_rule : {entry : Entry} {level p : ℕ} {q : Production} {state : State} {e : Table} {ts : Forest}
      {ws : ℕ → Valuation} {new : Transcript} {j a r : ℕ} (v : Value)
      → (g : MayCompute c.passes q c.write state j a r)
      → ((env : ℕ → Value) → Supplies g.rule e env → v ≡ value_of g.rule.expr.tree env) → IsPlaced c q state j
      → IsOpenNode c entry level p q state e ts ws new
      → IsOpenNode c entry level p q (record state { done = r ∷ state.done }) (set e j a v) ts ws new
  open_after_rule {entry} {level} {p} {q} {state} {e} {ts} {ws} {new} {j} {a} {r} v g is placed is_open =
      record {
        there = is_open.there;
        left = is_open.left;
        entered = entered;
        visits =
            rw (copies_set c q e j a v sound.next passed_here) is_open.visits;
        roots =
            λ b m l. cc (
              is_open.roots b m l,
              set_other e j a v (suc (leftmost (pass_direction c) (arity q) state.turn + b)) m (λ z. not_open b l placed z.0),
            );
        held = held;
      }
    where
      passed_here : HasPass c.passes q (record { place = j; attr = a }) c.write
      passed_here = rw g.target at g.passed

      not_open : (b : ℕ) → b < state.turn → IsPlaced c q state j → suc (leftmost (pass_direction c) (arity q) state.turn + b) ≡ j
          → ⊥
      not_open b l o z =
          elim o [
            | inl own ↦ omega arith
            | inr turn ↦ seen_differs (pass_direction c) (arity q) state.turn b l turn.within
                (cc)
          ]

      target_place : g.rule.target.place ≡ j
      target_place = cc

      target_attr : g.rule.target.attr ≡ a
      target_attr = cc

      entered : Keeps c entry.symbol entry.own (set e j a v 0)
      entered b n at le other = cc (
        set_other e j a v 0 b (λ z.
            let here : g.rule.target ≡ record { place = 0; attr = b } =
            g.target ∙ ap (λ j. record { place = j; attr = a }) (sym z.0) ∙ ap (λ b. record { place = 0; attr = b }) (sym z.1) in
            let pass : slice_get (c.passes q.left) b ≡ Some c.write = rw here at g.passed in
            let kind : slice_get (symbol_kinds (slice_get c.grammar.symbols q.left)) b ≡ Some Synthesized =
            rw here at (target_kind c.grammar sound.accepted p q is_open.there r g.rule g.numbered) in
            let same : Some n ≡ Some c.write = cc (pass, is_open.left, at) in
            other (cc, rw is_open.left at kind)),
        is_open.entered b n at le other,
      )

      -- No argument is the target.
      argument : (r' : ℕ) (u : Rule) (o : Target) → slice_get q.rules r' ≡ Some u → IsArgument u o
          → e o.place o.attr ≡ set e j a v o.place o.attr
      argument r' u o num arg =
          cc (set_target e j a v o g.target
          (λ z. no_argument c.grammar sound.accepted p q is_open.there r r' g.rule u o g.numbered num arg z))

      own : IsHeld c q (record state { done = r ∷ state.done }) (set e j a v) g.rule
      own = record {
        holds = λ env lends.
            cc (
              target_place,
              target_attr,
              set_here e g.rule.target.place g.rule.target.attr v,
              is env (λ k o at. lends k o at ∙ sym (argument r g.rule o g.numbered (k, at))),
            );
        passed = g.passed;
        target = rw target_place (place_known c q state j placed);
        available = g.available;
      }

      older : (r' : ℕ) (u : Rule) → Has state.done r' → slice_get q.rules r' ≡ Some u
          → IsHeld c q (record state { done = r ∷ state.done }) (set e j a v) u
      older r' u has num =
          let h = is_open.held r' u has num in
          record {
            holds =
                holds_same u e (set e j a v)
                (cc (set_target e j a v u.target g.target
                (λ z. let w = one_rule c.grammar sound.accepted p q is_open.there r' r u g.rule num g.numbered z in g.fresh
                (rw w at has)))) (λ o arg. argument r' u o num arg) h.holds;
            passed = h.passed;
            target = h.target;
            available = h.available;
          }

      held : AreHeld c q (record state { done = r ∷ state.done }) (set e j a v)
      held r' u (zero, at) num =
          let z : r ≡ r' = cc in
          let w : Some g.rule ≡ Some u = cc in
          let y : g.rule ≡ u = cc in
          rw y at own
      held r' u (suc n, at) num = older r' u (n, at) num
