-- The test of a raw grammar decides whether it is readable.
use Rattle.normalform.proofs.Common
use Common.{ℕ, ◌≡◌, ◌↔◌, Bool, true, false, not, nat_le, List, length, refl, arith, and_parts, leb-true, le-leb, ltb-true, lt-ltb}
use Common.{nat_tests, list_all, Each, RawItem, RawProduction, IsReadableItem, is_separator, readable_item, readable_in}
use Common.raw_item
use Rattle.ag_grammar.specs.grammars.Accepted.{IsSeparator}
use Rattle.normalform.proofs.numbered.Accepting.{all_hold}
use Rattle.normalform.proofs.numbered.Small.{passes_at}

pub separator_is : (b : ℕ) → IsSeparator b → is_separator b ≡ true
separator_is b h = grind (arith, nat_tests)

is_its_separator : (b : ℕ) → is_separator b ≡ true → IsSeparator b
is_its_separator b h = grind (arith, nat_tests)

no_separator : (b : ℕ) → not (is_separator b) ≡ true → IsSeparator b → ⊥
no_separator b h s = let e = separator_is b s in absurd (cc (rw e at h))

none_separator : (b : ℕ) → (IsSeparator b → ⊥) → not (is_separator b) ≡ true
none_separator b h = go (is_separator b) refl
  where
    go : (v : Bool) → is_separator b ≡ v → not v ≡ true
    go false e = refl
    go true e = absurd (h (is_its_separator b e))

item_readable : (x : RawItem) → readable_item x ≡ true → IsReadableItem x
item_readable (raw_item.Name name) h = tt
item_readable (raw_item.Literal text) h =
    let w = and_parts (nat_le 1 (length text)) _ h in
    (leb-true _ _ w.0, λ i b e. no_separator b (passes_at (λ b. not (is_separator b)) text i b w.1 e))
item_readable (raw_item.Class c) h = ltb-true c 3 h

readable_is : (x : RawItem) → IsReadableItem x → readable_item x ≡ true
readable_is (raw_item.Name name) h = refl
readable_is (raw_item.Literal text) h =
    rw (le-leb 1 (length text) h.0) (all_hold (λ b. not (is_separator b)) text (λ i b e. none_separator b (h.1 i b e)))
readable_is (raw_item.Class c) h = lt-ltb c 3 h

pub readable_decides : (qs : List RawProduction) → (list_all readable_in qs ≡ true) ↔ Each (λ q. Each IsReadableItem q.items) qs
readable_decides qs = (
  λ h p q e i x f. item_readable x (passes_at readable_item q.items i x (passes_at readable_in qs p q h e) f),
  λ h. all_hold readable_in qs (λ p q e. all_hold readable_item q.items (λ i x f. readable_is x (h p q e i x f))),
)
