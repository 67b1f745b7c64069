-- Marks, and the first symbol that is not marked.
use Rattle.normalform.proofs.Common
use Common.{ℕ, zero, suc, ◌≡◌, ◌<◌, ◌+◌, ◌∙◌, Bool, true, false, List, [], ◌∷◌, length, map, Option, Some, None, Result, Ok}
use Common.{Err, IfOk, slice_get, refl, sym, arith, length-map, slice_get_within, false≢true}
use Common.{RawGrammar, RawSymbol, Named, NormalFault, Check, first_wrong, checks_along, next_index, AreAll, IsFirstNot}
use Common.{clause_of_edge, symbol_of, numbered, is_marked}
use Rattle.ag_grammar.specs.grammars.Accepted.{IsProductive, IsReached}
use Rattle.closure.specs.Following.{AreClosure}
use Rattle.closure.specs.declared.clause.Clause.{Clause}
use Rattle.normalform.specs.declared.faults.structure.SymbolCheck.{SymbolCheck}
use Rattle.normalform.specs.faults.AllFaults.{AreMarksOf, fault_of, marked_check, marked_checks}
use Rattle.normalform.proofs.found.Reduced.{clauses, edges, start, follows_productive, productive_follows}
use Rattle.normalform.proofs.found.Reduced.{follows_reached, reached_follows}
use Rattle.normalform.proofs.found.Right.{both_right, together, is_right, right_is}

-- the closures mark the productive and the reached symbols
pub marks_productive : (raw : RawGrammar) (cs : List Clause) (marks : List Bool) → cs ≡ clauses raw → AreClosure cs [] marks
    → AreMarksOf (IsProductive (numbered raw)) raw marks
marks_productive raw cs marks e h s lt =
    let w = rw e at (h s) in (λ m. follows_productive raw s (w.0 m), λ p. w.1 (productive_follows raw s p))

pub marks_reached : (raw : RawGrammar) (cs : List Clause) (seeds : List ℕ) (marks : List Bool)
    → cs ≡ map clause_of_edge (edges raw) → seeds ≡ start raw ∷ [] → AreClosure cs seeds marks
    → AreMarksOf (IsReached (numbered raw)) raw marks
marks_reached raw cs seeds marks e f h s lt =
    let w = rw (e, f) at (h s) in (λ m. follows_reached raw s (w.0 m), λ p. w.1 (reached_follows raw s p))

pub ok_map : {E X : Type 0} (P Q : X → Type 0) → ((x : X) → P x → Q x) → (r : Result X E) → IfOk r P → IfOk r Q
ok_map P Q le (Ok x) h = le x h
ok_map P Q le (Err e) h = h

pub as_many : (ss : List RawSymbol) (n : ℕ) → n ≡ length ss → n ≡ length (map symbol_of ss)
as_many ss n e = e ∙ sym (length-map ss symbol_of)

-- the checks of the symbols from number n on
abbrev checks_from : SymbolCheck → List Bool → ℕ → List RawSymbol → List Check
checks_from x marks n ss = checks_along (marked_check x marks) next_index n ss

-- if no check of marks fails, each symbol is marked
all_from : (x : SymbolCheck) (marks : List Bool) (n : ℕ) (ss : List RawSymbol) → first_wrong (checks_from x marks n ss) ≡ None
    → (i : ℕ) → i < length ss → is_marked marks (n + i) ≡ true
all_from x marks n [] h i lt = absurd (omega (arith, lt))
all_from x marks n (s ∷ ss) h zero lt =
    let here : n + 0 ≡ n = omega arith in
    rw here
    (is_right (fault_of x s.name, is_marked marks n) (both_right (marked_check x marks n s) (checks_from x marks (n + 1) ss) h).0)
all_from x marks n (s ∷ ss) h (suc i) lt =
    let there : n + suc i ≡ (n + 1) + i = omega arith in
    rw there
    (all_from x marks (n + 1) ss (both_right (marked_check x marks n s) (checks_from x marks (n + 1) ss) h).1 i
    (omega (arith, lt)))

pub all_marked : (x : SymbolCheck) (marks : List Bool) (ss : List RawSymbol) → first_wrong (marked_checks x marks ss) ≡ None
    → (i : ℕ) → i < length ss → is_marked marks i ≡ true
all_marked x marks ss h i lt = let here : 0 + i ≡ i = omega arith in rw here at (all_from x marks 0 ss h i lt)

-- and the converse
from_all : (x : SymbolCheck) (marks : List Bool) (n : ℕ) (ss : List RawSymbol)
    → ((i : ℕ) → i < length ss → is_marked marks (n + i) ≡ true) → first_wrong (checks_from x marks n ss) ≡ None
from_all x marks n [] h = refl
from_all x marks n (s ∷ ss) h =
    let here : n + 0 ≡ n = omega arith in
    together (marked_check x marks n s) (checks_from x marks (n + 1) ss)
    (right_is (fault_of x s.name, is_marked marks n) (rw here at (h zero (omega arith))))
    (from_all x marks (n + 1) ss (λ i lt. let there : n + suc i ≡ (n + 1) + i = omega arith in
    rw there at (h (suc i) (omega (arith, lt)))))

pub marked_all : (x : SymbolCheck) (marks : List Bool) (ss : List RawSymbol)
    → ((i : ℕ) → i < length ss → is_marked marks i ≡ true) → first_wrong (marked_checks x marks ss) ≡ None
marked_all x marks ss h = from_all x marks 0 ss (λ i lt. let here : 0 + i ≡ i = omega arith in rw here (h i lt))

-- marks that agree make the same checks
same_from : (x : SymbolCheck) (a b : List Bool) (n : ℕ) (ss : List RawSymbol)
    → ((i : ℕ) → i < length ss → is_marked a (n + i) ≡ is_marked b (n + i)) → checks_from x a n ss ≡ checks_from x b n ss
same_from x a b n [] h = refl
same_from x a b n (s ∷ ss) h =
    let here : n + 0 ≡ n = omega arith in
    let first : is_marked a n ≡ is_marked b n = rw here at (h zero (omega arith)) in
    let rest = same_from x a b (n + 1) ss (λ i lt. let there : n + suc i ≡ (n + 1) + i = omega arith in
    rw there at (h (suc i) (omega (arith, lt)))) in
    cc

pub same_marked : (x : SymbolCheck) (a b : List Bool) (ss : List RawSymbol)
    → ((i : ℕ) → i < length ss → is_marked a i ≡ is_marked b i) → marked_checks x a ss ≡ marked_checks x b ss
same_marked x a b ss h = same_from x a b 0 ss (λ i lt. let here : 0 + i ≡ i = omega arith in rw here (h i lt))

same_bools : (a b : Bool) → (a ≡ true → b ≡ true) → (b ≡ true → a ≡ true) → a ≡ b
same_bools true true f g = refl
same_bools true false f g = absurd (false≢true (f refl))
same_bools false true f g = absurd (false≢true (g refl))
same_bools false false f g = refl

-- marks of the same property agree
pub same_marks : (P : ℕ → Type 0) (raw : RawGrammar) (a b : List Bool) → AreMarksOf P raw a → AreMarksOf P raw b → (i : ℕ)
    → i < length raw.symbols → is_marked a i ≡ is_marked b i
same_marks P raw a b f g i lt =
    same_bools (is_marked a i) (is_marked b i) (λ h. (g i lt).1 ((f i lt).0 h)) (λ h. (f i lt).1 ((g i lt).0 h))

-- the first symbol that is not marked, counted from n
pub record IsFirstUnmarked (x : SymbolCheck) (marks : List Bool) (n : ℕ) (ss : List RawSymbol) (f : NormalFault) : Type 0 where
  pub number : ℕ
  pub symbol : RawSymbol
  pub declared : slice_get ss number ≡ Some symbol
  pub fault : fault_of x symbol.name ≡ f
  pub unmarked : is_marked marks (n + number) ≡ false
  pub before : (t : ℕ) → t < number → is_marked marks (n + t) ≡ true

first_here : (f g : NormalFault) (b : Bool) (cs : List Check) → b ≡ false → first_wrong ((f, b) ∷ cs) ≡ Some g → f ≡ g
first_here f g b cs e h = let z : Some f ≡ Some g = rw e at h in cc

first_later : (f : NormalFault) (g : Option NormalFault) (b : Bool) (cs : List Check) → b ≡ true
    → first_wrong ((f, b) ∷ cs) ≡ g → first_wrong cs ≡ g
first_later f g b cs e h = rw e at h

first_now : (x : SymbolCheck) (marks : List Bool) (n : ℕ) (s : RawSymbol) (ss : List RawSymbol) (f : NormalFault)
    → is_marked marks n ≡ false → fault_of x s.name ≡ f → IsFirstUnmarked x marks n (s ∷ ss) f
first_now x marks n s ss f e is = let here : n + 0 ≡ n = omega arith in record {
  number = zero;
  symbol = s;
  declared = refl;
  fault = is;
  unmarked = rw here e;
  before = λ t lt. absurd (omega (arith, lt));
}

first_after : (x : SymbolCheck) (marks : List Bool) (n : ℕ) (s : RawSymbol) (ss : List RawSymbol) (f : NormalFault)
    → is_marked marks n ≡ true → IsFirstUnmarked x marks (n + 1) ss f → IsFirstUnmarked x marks n (s ∷ ss) f
first_after x marks n s ss f e w = let there : n + suc w.number ≡ (n + 1) + w.number = omega arith in record {
  number = suc w.number;
  symbol = w.symbol;
  declared = w.declared;
  fault = w.fault;
  unmarked = rw there w.unmarked;
  before = before;
}
  where
    before : (t : ℕ) → t < suc w.number → is_marked marks (n + t) ≡ true
    before zero lt = let here : n + 0 ≡ n = omega arith in rw here e
    before (suc t) lt = let there : n + suc t ≡ (n + 1) + t = omega arith in rw there (w.before t (omega (arith, lt)))

by_mark : (x : SymbolCheck) (marks : List Bool) (n : ℕ) (s : RawSymbol) (ss : List RawSymbol) (f : NormalFault) (b : Bool)
    → is_marked marks n ≡ b → first_wrong (checks_from x marks n (s ∷ ss)) ≡ Some f
    → (first_wrong (checks_from x marks (n + 1) ss) ≡ Some f → IsFirstUnmarked x marks (n + 1) ss f)
    → IsFirstUnmarked x marks n (s ∷ ss) f
by_mark x marks n s ss f false e h more =
    first_now x marks n s ss f e (first_here (fault_of x s.name) f (is_marked marks n) (checks_from x marks (n + 1) ss) e h)
by_mark x marks n s ss f true e h more =
    first_after x marks n s ss f e
    (more (first_later (fault_of x s.name) (Some f) (is_marked marks n) (checks_from x marks (n + 1) ss) e h))

first_from : (x : SymbolCheck) (marks : List Bool) (n : ℕ) (ss : List RawSymbol) (f : NormalFault)
    → first_wrong (checks_from x marks n ss) ≡ Some f → IsFirstUnmarked x marks n ss f
first_from x marks n [] f h = absurd (cc)
first_from x marks n (s ∷ ss) f h = by_mark x marks n s ss f (is_marked marks n) refl h (first_from x marks (n + 1) ss f)

-- the first fault of some marks is that of the first symbol without the property that the marks show
pub first_not : (x : SymbolCheck) (P : ℕ → Type 0) (raw : RawGrammar) (marks : List Bool) (f : NormalFault)
    → AreMarksOf P raw marks → first_wrong (marked_checks x marks raw.symbols) ≡ Some f
    → (name : Named) × (fault_of x name ≡ f) × IsFirstNot P raw.symbols name
first_not x P raw marks f are h =
    let w = first_from x marks 0 raw.symbols f h in
    let inside = slice_get_within raw.symbols w.number w.symbol w.declared in
    let here : 0 + w.number ≡ w.number = omega arith in (
      w.symbol.name,
      w.fault,
      record {
        number = w.number;
        symbol = w.symbol;
        declared = w.declared;
        named = refl;
        wrong = λ p. false≢true (sym (rw here at w.unmarked) ∙ (are w.number inside).1 p);
        before = λ t lt. let there : 0 + t ≡ t = omega arith in
            (are t (omega (arith, lt, inside))).0 (rw there at (w.before t lt));
      },
    )

pub are_all : (x : SymbolCheck) (P : ℕ → Type 0) (raw : RawGrammar) (marks : List Bool) → AreMarksOf P raw marks
    → first_wrong (marked_checks x marks raw.symbols) ≡ None → AreAll P raw
are_all x P raw marks are h s lt = (are s lt).0 (all_marked x marks raw.symbols h s lt)

-- marks of all symbols
abbrev pub all_true : List RawSymbol → List Bool
all_true ss = map (λ s. true) ss

pub true_at : (ss : List RawSymbol) (i : ℕ) → i < length ss → is_marked (all_true ss) i ≡ true
true_at [] i lt = absurd (omega (arith, lt))
true_at (s ∷ ss) zero lt = refl
true_at (s ∷ ss) (suc i) lt = true_at ss i (omega (arith, lt))

pub all_are : (P : ℕ → Type 0) (raw : RawGrammar) → AreAll P raw → AreMarksOf P raw (all_true raw.symbols)
all_are P raw all s lt = (λ m. all s lt, λ p. true_at raw.symbols s lt)
