-- The examples of conflicts.
use Rattle.llparse.proofs.Common
use Common.{ℕ, zero, suc, ◌≡◌, ◌≤◌, [], ◌∷◌, Contains, inl, inr, refl, arith, subst, sym, cases_eq, slice_get_within, Production}
use Common.{Literal, Class, IsProduction, of_production, here, inside, HasNoConflict, IsConflict, IsChoice, IsLeastConflict}
use Common.{Ahead, index_of}
use Common.ahead
use Rattle.ag_grammar.specs.grammars.Sample.{sample}
use Rattle.llparse.specs.Worked.{its_conflict, left_recursive, production_more, production_one}
use Rattle.llparse.specs.declared.table.fault.TableFault.{TableFault}
use Rattle.llparse.specs.declared.table.fault.TableFault.TheVariants as table_fault
use Rattle.llparse.specs.table.Conflicts.{AreConflicts, IsLeastOfPair}
use Rattle.llparse.proofs.look_ahead.ConflictLaws.{least_for}
use Rattle.llparse.proofs.look_ahead.Edges.{cons_cases, contains_here, contains_none}

pub left_recursion : IsConflict left_recursive 0 1 (ahead.Terminal (Literal 0))
left_recursion = record {
  one = production_more;
  other = production_one;
  first_is = refl;
  second_is = refl;
  earlier = omega arith;
  of_one_symbol = refl;
  one_predicts = inl (inside (of_production 1 production_one refl refl here));
  other_predicts = inl here;
}

-- the number of a production of the sample is that of its left side
left_is : (p : ℕ) (q : Production) → IsProduction sample p q → q.left ≡ p
left_is zero q e = let h = e in sym (let f : 0 ≡ q.left = cc in f)
left_is (suc zero) q e = sym (let f : 1 ≡ q.left = cc in f)
left_is (suc (suc p)) q e = cc

pub sample_free : HasNoConflict sample
sample_free p r x c =
    let same : p ≡ r = cc (left_is p c.one c.first_is, left_is r c.other c.second_is) in
    let less = c.earlier in
    omega arith

-- the conflict is the least one, since the grammar has only these two productions
pub left_recursion_least : IsLeastConflict left_recursive 0 0 1 (ahead.Terminal (Literal 0))
unfolding left_recursion
left_recursion_least = record {
  conflict = left_recursion;
  of_symbol = refl;
  least = λ a b y c. elim (cases_eq a 0) [
    | inl same ↦ elim (cases_eq b 1) [
      | inl second ↦ inr (cc, inr (cc, omega arith))
      | inr other ↦ inr (cc, inl (omega (arith, c.earlier)))
    ]
    | inr other ↦ inl (omega arith)
  ];
}

-- the first look-ahead is `x`
first_ahead : (y : Ahead) → index_of 1 y ≤ 0 → y ≡ ahead.Terminal (Literal 0)
first_ahead (ahead.Terminal (Literal l)) least = let first : l ≡ 0 = omega (arith, least) in cc
first_ahead (ahead.Terminal (Class c)) least = absurd (omega (arith, least))
first_ahead ahead.End least = absurd (omega (arith, least))

-- each conflict of the list is that of the two productions at `x`
its_only : (f : TableFault) → IsLeastOfPair left_recursive f → its_conflict ≡ f
its_only (table_fault.Conflict s a b x) is =
    let c = is.conflict in
    let less = c.earlier in
    let within = slice_get_within left_recursive.productions b c.other c.second_is in
    let first : a ≡ 0 = omega arith in
    let second : b ≡ 1 = omega arith in
    let least = is.least (ahead.Terminal (Literal 0)) (rw (first, second) left_recursion) in
    let same : x ≡ ahead.Terminal (Literal 0) = first_ahead x least in
    let one_is : 0 ≡ c.one.left = cc (c.first_is, first) in
    cc (first, second, same, one_is, is.of_symbol)
its_only table_fault.NoMemory is = absurd is

pub left_recursion_listed : AreConflicts left_recursive (its_conflict ∷ [])
left_recursion_listed = record {
  exact = λ f. (
    λ c. elim (cons_cases its_conflict [] f c) [
      | inl e ↦ subst (IsLeastOfPair left_recursive) e (least_for left_recursive 0 0 1 _ left_recursion_least)
      | inr none ↦ absurd (contains_none f none)
    ],
    λ is. subst (Contains (its_conflict ∷ [])) (its_only f is) (contains_here its_conflict []),
  );
  in_order = λ i j d lt within. absurd (omega arith);
}

-- `x` predicts production 0, since the first item of the production can begin with `x`
pub first_choice : IsChoice left_recursive 0 (ahead.Terminal (Literal 0)) 0
unfolding left_recursion
first_choice = (production_more, refl, refl, left_recursion.one_predicts)
