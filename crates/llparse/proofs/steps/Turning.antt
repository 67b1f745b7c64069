-- The invariants of one step of a parser: the innermost open node is closed, or moves past its next item.
use Rattle.llparse.proofs.Common
use Common.{◌≡◌, ℕ, ◌<◌, ◌≤◌, Bool, List, [], ◌∷◌, ◌++◌, drop, take, length, reverse, All, Some, None, refl, arith, length-map}
use Common.{slice_get_within, Value, IsWell, Item, IsAccepted, max_children, Grammar, max_nodes, Lexeme, Token, Persists}
use Common.{WhenHonest, ahead_of, Task, task_of, Output, AtSymbol, Between, Finished, IsParsed, node_frame, right_side, IsStuckAt}
use Common.{words_of, Choices, FitsGrammar, choice_of, advanced, left_of, Advances, IsAtItem, IsBetween, OpenProduction, Parser}
use Rattle.llparse.proofs.steps.Closing.{no_end, on_end}
use Rattle.llparse.proofs.answers.Kept.{own_texts}
use Rattle.llparse.proofs.steps.Stacks.{closed, ends, faces, fewer_counted, fewer_passed}
use Rattle.llparse.proofs.steps.Starts.{begin, no_rule, on_open}

-- at the beginning the root is open (`begun`), or the look-ahead predicts no production of the start symbol (`not_begun`)
module _ (k : Task) (tables : Choices) (fits : FitsGrammar k.grammar tables) (s : ℕ) (start : s ≡ k.grammar.start) where
  abbrev nothing_made : Output
  nothing_made = record { bytes = k.prefix; texts = [] }

  at_start : AtSymbol k s [] 0 0 nothing_made
  at_start = rw start (begin k nothing_made refl refl)

  pub begun : (node : OpenProduction) (p : Parser) → 0 < k.nodes → 0 < k.depth → p.waiting.items ≡ [] → p.texts.items ≡ []
      → p.tokens.taken ≡ 0 → p.count ≡ 1 → node.passed ≡ 0 → node.base ≡ 0
      → choice_of tables s (ahead_of (drop 0 k.words)) ≡ Some node.production → IsBetween k node p k.prefix
  begun node p more_nodes more_levels waiting texts taken count following base chosen =
      rw (waiting, texts, taken, count, following)
      (on_open k tables fits s node.production node.base [] 0 0 nothing_made chosen base more_nodes more_levels at_start)

  pub not_begun : IsAccepted k.grammar → choice_of tables s (ahead_of (drop 0 k.words)) ≡ None → IsStuckAt k.grammar k.words 0
  not_begun accepted unnamed = no_rule k tables fits accepted s unnamed at_start

-- two consecutive calls on a device keep together what `Persists` says of each, except the cause of a failure
pub persists_on : {E : Type 0} (a b d : Bool) (x y z : ℕ) → Persists a b x y ⊥ → Persists b d y z E → Persists a d x z ⊥
persists_on a b d x y z p q =
    let first = p.kept in
    let second = q.kept in
    record {
      honest = λ h. p.honest (q.honest h);
      kept = omega arith;
      bounded = λ h. q.bounded (p.bounded h);
      cause = λ h. absurd h;
    }

-- an open node has a production
pub within : (k : Task) (node : OpenProduction) (p : Parser) (bytes : List ℕ) → IsBetween k node p bytes
    → node.production < length k.grammar.productions
within k node p bytes occurs = slice_get_within k.grammar.productions node.production occurs.occurs.0 occurs.occurs.2

-- the innermost open node has a next item, and moves past it
module _ (k : Task) (node new : OpenProduction) (x : Item)
    (passed : Advances (right_side k.grammar node.production) node (Some x) new) where
  pub faced : (y : Item) → x ≡ y → (p : Parser) (bytes : List ℕ) → IsBetween k node p bytes → IsAtItem k y new p bytes
  faced y is p bytes occurs =
      rw (← is, passed.1) (faces k node x passed.0 occurs)

  -- fewer steps are left
  pub smaller : (p r : Parser) → r.waiting.items ≡ p.waiting.items → p.count ≤ r.count
      → left_of k.grammar new r < left_of k.grammar node p
  smaller p r same le =
      let fewer = fewer_passed k.grammar max_nodes node x (reverse p.waiting.items) p.count passed.0 in
      let counted = fewer_counted k.grammar max_nodes (advanced node ∷ reverse p.waiting.items) p.count r.count le in
      rw (passed.1, same) (omega arith)

-- the innermost open node is at its end
module _ (k : Task) (node new : OpenProduction) (p : Parser) (bytes : List ℕ)
    (over : Advances (right_side k.grammar node.production) node None new) (occurs : IsBetween k node p bytes) where
  -- the texts of the node are few and well
  pub own_few : IsAccepted k.grammar
      → (new.base ≤ length p.texts.items) × (length (drop new.base p.texts.items) ≤ max_children)
      × All IsWell (drop new.base p.texts.items)
  own_few accepted =
      rw over.1 (own_texts k accepted (ends k node over.0 occurs))

  -- the node is closed
  pub ended : (out : List ℕ) (own texts : List Value) → own ≡ drop new.base p.texts.items → texts ≡ take new.base p.texts.items
      → WhenHonest k.honest (out ≡ bytes ++ node_frame new.production own)
      → Between k (reverse p.waiting.items) p.tokens.taken p.count (record { bytes = out; texts = texts })
  ended out own texts following cut put =
      closed k (reverse p.waiting.items) _ (rw (following, over.1) at put) (rw over.1 at cut) (ends k node over.0 occurs)

-- the end of a parse
module _ (g : Grammar) (tokens : List Token) (honest : Bool) (prefix : List ℕ) (p : Parser) (bytes : List ℕ) (texts : List Value)
    (none_waits : length p.waiting.items ≡ 0)
    (occurs : Between (task_of g tokens honest prefix) (reverse p.waiting.items) p.tokens.taken p.count
    (record { bytes = bytes; texts = texts })) where
  nothing : (xs : List OpenProduction) → length xs ≡ 0 → reverse xs ≡ []
  nothing [] e = refl
  nothing (x ∷ xs) e = absurd (omega arith)

  as_many : length (words_of tokens) ≡ length tokens
  as_many = length-map tokens (λ (t : Token). let w : Lexeme = (t.kind, t.lex) in w)

  done : Finished (task_of g tokens honest prefix) p.tokens.taken p.count bytes
  done =
      rw (nothing p.waiting.items none_waits) at occurs

  pub all_taken : length tokens ≤ p.tokens.taken → IsParsed (task_of g tokens honest prefix) p.count bytes
  all_taken le =
      let all : length (words_of tokens) ≤ p.tokens.taken = omega (arith, as_many) in
      on_end (task_of g tokens honest prefix) p.tokens.taken p.count bytes all done

  pub some_left : p.tokens.taken < length tokens → IsStuckAt g (words_of tokens) p.tokens.taken
  some_left lt =
      let some : p.tokens.taken < length (words_of tokens) = omega (arith, as_many) in
      no_end (task_of g tokens honest prefix) p.tokens.taken p.count bytes some done
