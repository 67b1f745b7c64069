-- The productions that a look-ahead predicts.
use Rattle.llparse.proofs.Common
use Common.{ℕ, ◌+◌, ◌≡◌, ◌<◌, ◌↔◌, Bool, true, false, List, [], ◌∷◌, ◌++◌, length, inl, inr, arith, cases_eq, get_or_append_left}
use Common.{get_or_push, Item, Production, Grammar, IsProduction, IsAccepted, IsNullable, Predicts, can_start_in, AreFollowMarks}
use Common.{node_in, is_nullable_item, is_marked, Ahead, element_at}
use Rattle.llparse.specs.table.Edges.{AreFirstMarks}
use Rattle.llparse.proofs.look_ahead.CanStart.{can_start_iff, next_after, next_cases, next_first, nullable_iff}
use Rattle.llparse.proofs.look_ahead.Firsts.{left_in, named_in}

-- a production is predicted exactly if its items can start with the look-ahead, or are all nullable and its left side has it in
-- FOLLOW
pub predicts_iff : (g : Grammar) (ok : IsAccepted g) (n : ℕ → Bool) (known : (s : ℕ) → n s ≡ true ↔ IsNullable g s) (x : Ahead)
    (begins follows : List Bool) → AreFirstMarks g x begins → AreFollowMarks g x follows
    → (p : ℕ) (q : Production) → IsProduction g p q
    → can_start_in (λ y. is_marked begins (node_in g y)) (is_nullable_item n) (is_marked follows q.left) q.items ≡ true
    ↔ Predicts g q x
predicts_iff g ok n known x begins follows first follow p q e =
    let hq = element_at g.productions p q e in
    let b = λ (y : Item). is_marked begins (node_in g y) in
    let can_start = can_start_iff g n known x b first q.items (λ y h. named_in g ok q y hq h) in
    let after = follow q.left (left_in g ok q hq) in
    let empty = nullable_iff g n known q.items in (
      λ h. elim (next_cases b (is_nullable_item n) (is_marked follows q.left) q.items h) [
        | inl prefix ↦ inl (can_start.0 prefix)
        | inr all ↦ inr (empty.0 all.0, after.0 all.1)
      ],
      λ h. elim h [
        | inl prefix ↦ next_first b (is_nullable_item n) (is_marked follows q.left) q.items (can_start.1 prefix)
        | inr all ↦ next_after b (is_nullable_item n) (is_marked follows q.left) q.items (empty.1 all.0) (after.1 all.1)
      ],
    )

-- the marks of the first productions, with the mark b of the next one, are right
pub predicted_more : (g : Grammar) (x : Ahead) (marks : List Bool) (b : Bool)
    → ((q : Production) → IsProduction g (length marks) q → b ≡ true ↔ Predicts g q x)
    → ((p : ℕ) (q : Production) → p < length marks → IsProduction g p q → is_marked marks p ≡ true ↔ Predicts g q x)
    → (p : ℕ) (q : Production) → p < length marks + 1 → IsProduction g p q → is_marked (marks ++ b ∷ []) p ≡ true ↔ Predicts g q x
predicted_more g x marks b this before p q lt e = elim (cases_eq p (length marks)) [
  | inl same ↦ rw (get_or_push marks b false p (cc)) (this q (rw same at e))
  | inr other ↦ rw (get_or_append_left marks (b ∷ []) false p (omega arith)) (before p q (omega arith) e)
]
