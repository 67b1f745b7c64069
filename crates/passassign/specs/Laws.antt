-- The statements of the laws.
use Rattle.std.specs.Prelude.{ℕ, suc, ◌≡◌, ◌<◌, ◌≤◌, ◌↔◌, List, [], ◌∷◌, ◌++◌, Some, None, slice_get, length, Bool}
use Rattle.ag_grammar.specs.Lists.{Has, Differ, Each}
use Rattle.ag_grammar.specs.grammars.AttributeGrammar.{Grammar, symbol_kinds}
use Rattle.ag_grammar.specs.grammars.Accepted.{IsComplete, IsNormal}
use Rattle.ag_grammar.specs.declared.direction.Direction.{Direction}
use Rattle.ag_grammar.specs.grammars.Passes.{Passes, IsLegal, direction_of}
use Rattle.passassign.specs.declared.stuck.Strike.{Strike}
use Rattle.passassign.specs.declared.stuck.Stuck.{Stuck}
use Rattle.passassign.specs.Certificate.{Members, IsStruckBy, IsGood, AreGood, IsCertificate, stuck_of}
use Rattle.passassign.specs.Chains.{IsChainOf}
use Rattle.passassign.specs.Least.{Partial, partial_of, IsAttribute, AssignsOnlyAttributes, IsLegalPartial, IsStuck, IsLeast}
use Rattle.passassign.specs.Least.{IsAlternating}
use Rattle.passassign.specs.Making.{IsOpen, AreFinished, IsPass, IsMade, AreIdle, AreMarks, pass_after}
use Rattle.passassign.specs.PassStrikes.{HasPassFrom, HasPassAfter, AreStrikesAt, AreStrikesOf, list_for}
use Rattle.passassign.specs.Rows.{passes_of, IsGreatest}

-- The members of a certificate's set are stuck.
abbrev pub MembersAreStuck : Type 0
MembersAreStuck = (g : Grammar) (c : Stuck) → IsCertificate g c → (s a : ℕ) → Members c.set s a → IsStuck g s a

-- A grammar with a stuck attribute is not alternating.
abbrev pub StuckIsRefused : Type 0
StuckIsRefused = (g : Grammar) (s a : ℕ) → IsAttribute g s a → IsStuck g s a → IsAlternating g → ⊥

-- A grammar with a certificate, whose productions are complete, is not alternating.
abbrev pub CertifiedIsRefused : Type 0
CertifiedIsRefused = (g : Grammar) (c : Stuck) → Each (IsComplete g) g.productions → IsCertificate g c → IsAlternating g → ⊥

-- A legal partial assignment assigns no attribute an earlier pass than the passes before pass k do, if both assign one.
abbrev pub MadeIsAtMost : Type 0
MadeIsAtMost = (g : Grammar) (k : ℕ) (m n : Partial) → IsMade g k m → IsLegalPartial g n → (s a p q : ℕ) → m s a ≡ Some p
    → n s a ≡ Some q → p ≤ q

-- An attribute that the passes before pass k leave open has no pass before k in a legal partial assignment.
abbrev pub LeftIsLater : Type 0
LeftIsLater = (g : Grammar) (k : ℕ) (m n : Partial) → IsMade g k m → IsLegalPartial g n → (s a q : ℕ) → m s a ≡ None
    → n s a ≡ Some q → k ≤ q

-- The assignment that the passes before pass k make is legal, if each production is complete and normal.
abbrev pub MadeIsLegal : Type 0
MadeIsLegal = (g : Grammar) (k : ℕ) (m : Partial) → Each (IsComplete g) g.productions → Each (IsNormal g) g.productions
    → IsMade g k m → IsLegalPartial g m

-- If the passes before pass k assign a pass to every attribute, and each production is complete and normal, their assignment is
-- the least one. It is n as a partial assignment, and m as rows: m has a row of the right length for each symbol, and equals n.
abbrev pub WholeIsLeast : Type 0
WholeIsLeast = (g : Grammar) (k : ℕ) (n : Partial) (m : Passes) → Each (IsComplete g) g.productions
    → Each (IsNormal g) g.productions → IsMade g k n → ((s : ℕ) → length (m s) ≡ length (symbol_kinds (slice_get g.symbols s)))
    → ((s a : ℕ) → partial_of m s a ≡ n s a) → IsLeast g m

-- A least assignment has the fewest passes: no legal assignment has a smaller greatest pass.
abbrev pub LeastHasFewest : Type 0
LeastHasFewest = (g : Grammar) (rows other : List (List ℕ)) (n k : ℕ) → IsLeast g (passes_of rows) → IsLegal g (passes_of other)
    → IsGreatest n rows → IsGreatest k other → n ≤ k

-- The attributes left open by two consecutive passes that assign nothing are stuck.
abbrev pub RestIsStuck : Type 0
RestIsStuck = (g : Grammar) (k : ℕ) (m : Partial) (first second : List Strike) → AreIdle g k m first second → (s a : ℕ)
    → IsOpen g m s a → IsStuck g s a

-- The stuck attributes are exactly those left open by two consecutive passes that assign nothing, if the passes before these
-- two were made from pass 1 on, and each production is complete and normal.
abbrev pub StuckIsLeft : Type 0
StuckIsLeft = (g : Grammar) (k : ℕ) (m : Partial) (first second : List Strike) → Each (IsComplete g) g.productions
    → Each (IsNormal g) g.productions → IsMade g k m → AreIdle g k m first second → (s a : ℕ) → IsAttribute g s a
    → (m s a ≡ None) ↔ IsStuck g s a

-- The strikes of two consecutive passes that assign nothing are a certificate of the attributes that these passes leave open, if
-- there are any.
abbrev pub RestIsCertified : Type 0
RestIsCertified = (g : Grammar) (k : ℕ) (m : Partial) (first second : List Strike) → AreIdle g k m first second
    → (set : List (ℕ × ℕ)) → Differ set → ((x : ℕ × ℕ) × Has set x) → ((s a : ℕ) → Members set s a ↔ IsOpen g m s a)
    → IsCertificate g (stuck_of (direction_of k) set first second)

-- A list of good strikes stays one if a good strike of another candidate is appended.
abbrev pub StrikesGrow : Type 0
StrikesGrow = (g : Grammar) (d : Direction) (m : Partial) (xs : List Strike) (x : Strike) → AreGood g d (IsOpen g m) [] xs
    → IsOpen g m x.symbol x.attr → (IsStruckBy xs x.symbol x.attr → ⊥) → IsGood g d (IsOpen g m) xs x
    → AreGood g d (IsOpen g m) [] (xs ++ x ∷ [])

-- Good strikes xs to which no other can be added make pass k: it leads from m to `after`, in which the attributes without a pass
-- that are not marked as struck have pass k. The marks `hit` are those of the struck attributes.
abbrev pub MarksMakePass : Type 0
MarksMakePass = (g : Grammar) (k : ℕ) (m after : Partial) (xs : List Strike) (hit : ℕ → ℕ → Bool) → AssignsOnlyAttributes g m
    → AssignsOnlyAttributes g after → AreGood g (direction_of k) (IsOpen g m) [] xs
    → AreFinished g (direction_of k) (IsOpen g m) xs → AreMarks hit xs
    → ((s a : ℕ) → IsAttribute g s a → after s a ≡ pass_after k (m s a) (hit s a)) → IsPass g k m after xs

-- If an assignment has strikes, no legal assignment gives any attribute an earlier pass.
abbrev pub NoneIsEarlier : Type 0
NoneIsEarlier = (g : Grammar) (rows : List (List ℕ)) (lists : List (List Strike)) (other : Passes) → AreStrikesOf g rows lists
    → IsLegal g other → (s a p q : ℕ) → partial_of (passes_of rows) s a ≡ Some p → partial_of other s a ≡ Some q → p ≤ q

-- A legal assignment that has strikes is the least one.
abbrev pub StrikesShowLeast : Type 0
StrikesShowLeast = (g : Grammar) (rows : List (List ℕ)) (lists : List (List Strike)) → IsLegal g (passes_of rows)
    → AreStrikesOf g rows lists → IsLeast g (passes_of rows)

-- If an assignment assigns pass k to no attribute, and a later pass to exactly the members of a certificate, then the
-- certificate's list for the direction of pass k has the strikes of pass k.
abbrev pub CertificatesAreStrikes : Type 0
CertificatesAreStrikes = (g : Grammar) (c : Stuck) (m : Passes) (k : ℕ) → IsCertificate g c
    → ((s a : ℕ) → Members c.set s a ↔ HasPassFrom m k s a) → ((s a : ℕ) → Members c.set s a ↔ HasPassAfter m k s a)
    → AreStrikesAt g m k (list_for c (direction_of k))

-- If an assignment has strikes, and a chain for its pass k + 1 begins with a strike of an attribute, then every legal assignment
-- gives this attribute a pass after k + 1. (Pass k + 1 may also be the one after the last pass, but that pass has no chain.)
abbrev pub ChainsShowLater : Type 0
ChainsShowLater =
    (g : Grammar) (rows : List (List ℕ)) (lists : List (List Strike)) (k s a : ℕ) (xs : List Strike) (other : Passes)
    → AreStrikesOf g rows lists → k ≤ length lists
    → IsChainOf g (direction_of (suc k)) (HasPassFrom (passes_of rows) (suc k)) s a xs → IsLegal g other → (p : ℕ)
    → partial_of other s a ≡ Some p → suc k < p

-- If pass k has strikes, each attribute that has a later pass has a chain for pass k.
abbrev pub ChainsAreThere : Type 0
ChainsAreThere = (g : Grammar) (m : Passes) (k : ℕ) (xs : List Strike) → AreStrikesAt g m k xs → (s a : ℕ) → HasPassAfter m k s a
    → (ys : List Strike) × IsChainOf g (direction_of k) (HasPassFrom m k) s a ys
