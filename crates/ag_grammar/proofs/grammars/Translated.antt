-- A tree has at most one translation.
use Rattle.ag_grammar.proofs.Common
use Common.{ℕ, zero, suc, ◌≡◌, List, [], ◌∷◌, ◌++◌, Some, slice_get, map, refl, ap, ◌∙◌, sym, subst, Value, Grammar, Synthesized}
use Common.{Inherited, symbol_kinds, Tree, IsTreeOf, Passes, IsLegal, Valuation, Solves, AnyRule, Same, SameAt, AnyPass}
use Common.{IsTranslation}
use Common.item
use Rattle.ag_grammar.specs.grammars.Accepted.{out_name, IsNamed, IsOut, IsAccepted}
use Rattle.ag_grammar.proofs.grammars.Children.{root_each}
use Rattle.ag_grammar.proofs.grammars.OneSolution.{counterpart, one_solution}

before_it : {A : Type 0} (xs ys : List A) (i : ℕ) (x : A) → slice_get xs i ≡ Some x → slice_get (xs ++ ys) i ≡ Some x
before_it [] ys i x e = cc
before_it (z ∷ xs) ys zero x e = e
before_it (z ∷ xs) ys (suc i) x e = before_it xs ys i x e

kind_of_name : (names : List (List ℕ)) (i : ℕ) (n : List ℕ) → slice_get names i ≡ Some n
    → slice_get (map (λ n. Synthesized) names) i ≡ Some Synthesized
kind_of_name [] i n e = cc
kind_of_name (z ∷ names) zero n e = refl
kind_of_name (z ∷ names) (suc i) n e = kind_of_name names i n e

-- the start symbol has only one `out`
one_out : (g : Grammar) (a b : ℕ) → IsNamed g → IsOut g a → IsOut g b → a ≡ b
one_out g a b named x y =
    let same : x.0 ≡ y.0 = let e : Some x.0 ≡ Some y.0 = sym x.1 ∙ y.1 in cc in
    named.attributes_differ g.start x.0 x.1 a b out_name out_name (before_it x.0.syn x.0.inh a out_name x.2)
    (before_it x.0.syn x.0.inh b out_name (subst (λ s. slice_get s.syn b ≡ Some out_name) (sym same) y.2)) refl

-- the start symbol's `out` is synthesized
out_kind : (g : Grammar) (a : ℕ) → IsOut g a → slice_get (symbol_kinds (slice_get g.symbols g.start)) a ≡ Some Synthesized
out_kind g a x =
    subst (λ o. slice_get (symbol_kinds o) a ≡ Some Synthesized) (sym x.1)
    (before_it (map (λ n. Synthesized) x.0.syn) (map (λ n. Inherited) x.0.inh) a Synthesized
    (kind_of_name x.0.syn a out_name x.2))

pub one_translation : (g : Grammar) (m : Passes) (t : Tree) (v w : Valuation) (x y : Value) → IsAccepted g → IsLegal g m
    → IsTreeOf g t → Solves AnyRule g t v → Solves AnyRule g t w → IsTranslation g v x → IsTranslation g w y → x ≡ y
one_translation g m t v w x y accepted legal fits sv sw tv tw =
    let same : Same AnyPass g m t v w =
    one_solution g m t v w accepted.start accepted.complete accepted.normal legal fits sv sw in
    let one = one_out g tv.0 tw.0 accepted.named tv.1 tw.1 in
    let p =
    counterpart (symbol_kinds (slice_get g.symbols g.start)) (m g.start) tv.0 Synthesized (sym (legal.whole g.start))
    (out_kind g tv.0 tv.1) in
    let root : v [] tv.0 ≡ w [] tv.0 = root_each (SameAt AnyPass) g m (item.Symbol g.start) t v w fits same tv.0 p.0 p.1 tt in
    sym tv.2 ∙ root ∙ ap (w []) one ∙ tw.2
