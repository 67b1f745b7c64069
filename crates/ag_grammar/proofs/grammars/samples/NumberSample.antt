-- The grammar of numbers, its tree and its values.
use Rattle.ag_grammar.proofs.Common
use Common.{number_value, slice_index_or, ℕ, zero, suc, ◌≡◌, ◌≤◌, ◌<◌, inl, inr, Some, List, [], ◌∷◌, slice_get, slice_index_or}
use Common.{length, refl, ap, sym, ◌∙◌, ◌+ℤ◌, arith, pos, Num, Add, Each, Differ, Production, Rule, Target, Literal, Class}
use Common.{attribute_names, item_at, item_names, stored_items, IsRule, Kind, HasKind, RefersTo, defined_kind, used_kind}
use Common.{Synthesized, Inherited, IsTreeOf, children, at, Holds, Solves, AnyRule, IsTranslation}
use Common.node_of
use Common.item
use Rattle.ag_grammar.specs.grammars.Accepted.{out_name, max_attributes, max_items, max_children, max_literal_bytes, class_count}
use Rattle.ag_grammar.specs.grammars.Accepted.{IsSeparator, IsWithinGrammarLimits, IsInUse, IsNamedItem, IsNamedRule, IsNamed}
use Rattle.ag_grammar.specs.grammars.Accepted.{IsComplete, IsNormal, IsProductive, by_production, nothing, a_symbol, a_terminal}
use Rattle.ag_grammar.specs.grammars.Accepted.{IsReached, at_start, within, IsAccepted}
use Rattle.ag_grammar.specs.grammars.Sample.{sample, without_out, doubled, bare, rule_bare, named as named_at, copy_rule, s_name}
use Rattle.ag_grammar.specs.grammars.Sample.{i_name, production_r, production_a, attribute, symbol_r, symbol_a, rule_out}
use Rattle.ag_grammar.specs.grammars.Sample.{rule_first, rule_second, rule_s, sample_tree, sample_values}
use Rattle.ag_grammar.proofs.grammars.Members.{alone, both, differ_more, differ_none, each_more, each_none, only, pair}
use Rattle.ag_grammar.proofs.grammars.Members.{related_none, related_one}
use Rattle.ag_grammar.proofs.grammars.Rules.{environment, lends}
use Rattle.ag_grammar.proofs.expressions.Within.{in_chain, literal_within, occurrence_within}
use Rattle.ag_grammar.proofs.expressions.Worked.{and_one, occurrence_gives}
use Rattle.ag_grammar.proofs.expressions.Worked.{number_gives}

pub fits : IsTreeOf sample sample_tree
fits = (
  production_r (rule_out ∷ rule_first ∷ rule_second ∷ []),
  refl,
  refl,
  ((production_a, refl, refl, tt), ((production_a, refl, refl, tt), tt)),
)

pub translation : IsTranslation sample (sample_values 2) (Num (pos 2))
translation = (0, (symbol_r, refl, refl), refl)

abbrev first : Production
first = production_r (rule_out ∷ rule_first ∷ rule_second ∷ [])

abbrev underivable : Production
underivable = production_r (rule_first ∷ rule_second ∷ [])

apart : (o p : Target) → (o.place ≡ p.place → ⊥) → o ≡ p → ⊥
apart o p h e = h (ap (λ o. o.place) e)

no_rule : (r : Rule) → IsRule underivable r → r.target ≡ attribute 0 0 → ⊥
no_rule r h e =
    each_more (λ r. r.target ≡ attribute 0 0 → ⊥) rule_first (rule_second ∷ [])
    (λ t. apart (attribute 1 1) (attribute 0 0) (λ e. cc) t)
    (each_more (λ r. r.target ≡ attribute 0 0 → ⊥) rule_second [] (λ t. apart (attribute 2 1) (attribute 0 0) (λ e. cc) t)
    (each_none (λ r. r.target ≡ attribute 0 0 → ⊥))) h.0 r h.1 e

pub missing : IsComplete without_out underivable → ⊥
missing c = let r = c.all (attribute 0 0) refl in no_rule r.0 r.1 r.2

pub refused : IsAccepted without_out → ⊥
refused a = missing (a.complete 0 underivable refl)

-- rules 2 and 3, counted from 0, have the same target
pub doubled_refused : IsAccepted doubled → ⊥
doubled_refused a = let same =
    (a.complete 0 (production_r (rule_out ∷ rule_first ∷ rule_second ∷ rule_second ∷ [])) refl).single 2 3 rule_second rule_second
    refl refl refl in cc

-- the first rule has one occurrence and no argument
pub bare_refused : IsAccepted bare → ⊥
bare_refused a = let same =
    (a.named.rules_named 0 (production_r (rule_bare ∷ rule_first ∷ rule_second ∷ [])) refl 0 rule_bare
    refl).arguments.equally_long in cc

-- a predicate on the rules of the first production, from its three cases
three : (P : Rule → Type 0) → P rule_out → P rule_first → P rule_second → Each P first.rules
three P h k l = each_more P rule_out (rule_first ∷ rule_second ∷ []) h (both P rule_first rule_second k l)

-- the rule of an A holds if `s` is one more than `i`
child_holds : (j n : ℕ) → at (children (sample_values 2) j) 0 1 ≡ Num (pos n)
    → at (children (sample_values 2) j) 0 0 ≡ number_value (pos n +ℤ pos 1)
    → Each (λ r. Holds r (at (children (sample_values 2) j))) production_a.rules
child_holds j n is more =
    only (λ r. Holds r (at (children (sample_values 2) j))) rule_s
    (λ env lent. more ∙ sym (and_one (pos n) env (lent 0 (attribute 0 1) refl ∙ is)))

first_holds : Each (λ r. Holds r (at (sample_values 2))) first.rules
first_holds =
    three (λ r. Holds r (at (sample_values 2)))
    (λ env lent. sym (occurrence_gives 0 env ∙ lent 0 (attribute 1 0) refl))
    (λ env lent. sym (occurrence_gives 0 env ∙ lent 0 (attribute 2 0) refl))
    (λ env lent. sym (number_gives (pos 0) env))

pub solved : Solves AnyRule sample sample_tree (sample_values 2)
solved = (
  λ r h any. first_holds h.0 r h.1,
  ((λ r h any. child_holds 0 1 refl refl h.0 r h.1, tt), ((λ r h any. child_holds 1 0 refl refl h.0 r h.1, tt), tt)),
)

pub unsolved : Solves AnyRule sample sample_tree (sample_values 1) → ⊥
unsolved s =
    let env = environment rule_out (at (sample_values 1)) in
    let e : Num (pos 1) ≡ Num (pos 2) =
    s.0 rule_out (0, refl) tt env (lends rule_out (at (sample_values 1))) ∙ occurrence_gives 0 env in
    cc

given_first : (j a : ℕ) → HasKind sample first (attribute j a) (defined_kind j)
    → (r : Rule) × IsRule first r × (r.target ≡ attribute j a)
given_first zero zero h = (rule_out, (0, refl), refl)
given_first (suc zero) (suc zero) h = (rule_first, (1, refl), refl)
given_first (suc (suc zero)) (suc zero) h = (rule_second, (2, refl), refl)
given_first j a h = cc

given_second : (j a : ℕ) → HasKind sample production_a (attribute j a) (defined_kind j)
    → (r : Rule) × IsRule production_a r × (r.target ≡ attribute j a)
given_second zero zero h = (rule_s, (0, refl), refl)
given_second zero (suc zero) h = cc
given_second zero (suc (suc a)) h = cc
given_second (suc j) a h = cc

complete_first : IsComplete sample first
complete_first = record {
  all = λ o h. given_first o.place o.attr h;
  single =
      differ_more (λ r. r.target) rule_out (rule_first ∷ rule_second ∷ [])
      (both (λ r. rule_out.target ≡ r.target → ⊥) rule_first rule_second
      (λ t. apart (attribute 0 0) (attribute 1 1) (λ e. cc) t) (λ t. apart (attribute 0 0) (attribute 2 1) (λ e. cc) t))
      (pair (λ r. r.target) rule_first rule_second (λ t. apart (attribute 1 1) (attribute 2 1) (λ e. cc) t));
  no_other = three (λ r. HasKind sample first r.target (defined_kind r.target.place)) refl refl refl;
}

complete_second : IsComplete sample production_a
complete_second =
    record {
      all = λ o h. given_second o.place o.attr h;
      single = alone (λ r. r.target) rule_s;
      no_other = only (λ r. HasKind sample production_a r.target (defined_kind r.target.place)) rule_s refl;
    }

normal_first : IsNormal sample first
normal_first = three (λ r. Each (λ o. HasKind sample first o (used_kind o.place)) r.args)
    (only (λ o. HasKind sample first o (used_kind o.place)) (attribute 1 0) refl)
    (only (λ o. HasKind sample first o (used_kind o.place)) (attribute 2 0) refl)
    (each_none (λ o. HasKind sample first o (used_kind o.place)))

normal_second : IsNormal sample production_a
normal_second =
    only (λ r. Each (λ o. HasKind sample production_a o (used_kind o.place)) r.args) rule_s
    (only (λ o. HasKind sample production_a o (used_kind o.place)) (attribute 0 1) refl)

productive_a : IsProductive sample 1
productive_a = by_production 1 production_a refl refl (a_terminal nothing)

productive : (s : ℕ) → s < length sample.symbols → IsProductive sample s
productive zero h = by_production 0 first refl refl (a_symbol productive_a (a_symbol productive_a nothing))
productive (suc zero) h = productive_a
productive (suc (suc s)) h = absurd (omega arith)

reached : (s : ℕ) → s < length sample.symbols → IsReached sample s
reached zero h = at_start
reached (suc zero) h = within 0 first refl at_start (0, refl)
reached (suc (suc s)) h = absurd (omega arith)

limits : IsWithinGrammarLimits sample
limits = record {
  symbol_count = omega arith;
  attribute_count = both (λ s. length (attribute_names s) ≤ max_attributes) symbol_r symbol_a (omega arith) (omega arith);
  production_count = omega arith;
  item_count = both (λ q. length q.items ≤ max_items) first production_a (omega arith) (omega arith);
  stored_count = both (λ q. length (stored_items q.items) ≤ max_children) first production_a (omega arith) (omega arith);
  literal_count = omega arith;
  literal_bytes = only (λ x. (1 ≤ length x) × (length x ≤ max_literal_bytes)) (120 ∷ []) (omega arith, omega arith);
}

pub no_separator : (b : ℕ) → 32 < b → IsSeparator b → ⊥
no_separator b above s =
    elim s [
      | inl e ↦ omega arith
      | inr t ↦ elim t
          [ inl e ↦ omega arith | inr u ↦ elim u [ inl e ↦ omega arith | inr e ↦ omega arith ] ]
    ]

-- a rule of the first production with one occurrence satisfies `IsNamedRule`
copy_named : (target : Target) (j : ℕ) (name : List ℕ) (a : ℕ) (k : Kind) → HasKind sample first target k
    → slice_get (item_names sample (item_at first j)) a ≡ Some name → IsNamedRule sample first (copy_rule target j name a)
copy_named target j name a k there is = record {
  target = (k, there);
  listed = occurrence_within 1 0 0 refl;
  arguments = related_one (RefersTo sample first) (named_at j name) (attribute j a) (record { place = refl; name = is });
}

rule_s_named : IsNamedRule sample production_a rule_s
rule_s_named = record {
  target = (Synthesized, refl);
  listed =
      in_chain 1 0 (node_of.Occurrence 0) ((Add, node_of.Literal (Num (pos 1))) ∷ []) (occurrence_within 1 0 0 refl)
      (literal_within 1 0 (Num (pos 1)), tt);
  arguments =
      related_one (RefersTo sample production_a) (named_at 0 i_name) (attribute 0 1) (record { place = refl; name = refl });
}

used : (l : ℕ) → l < length sample.literals → IsInUse sample (Literal l)
used zero h = (1, production_a, refl, (0, refl))
used (suc l) h = absurd (omega arith)

named : IsNamed sample
named = record {
  symbols_differ = pair (λ s. s.name) symbol_r symbol_a (λ e. cc);
  attributes_differ =
      both (λ s. Differ (attribute_names s)) symbol_r symbol_a (alone (λ x. x) out_name)
      (pair (λ x. x) s_name i_name (λ e. let f : 115 ≡ 105 = ap (λ (name : List ℕ). slice_index_or name 0 0) e in
      omega arith));
  literals_differ = alone (λ x. x) (120 ∷ []);
  literals_used = used;
  without_separators =
      only (Each (λ b. IsSeparator b → ⊥)) (120 ∷ []) (only (λ b. IsSeparator b → ⊥) 120 (no_separator 120 (omega arith)));
  classes_differ = differ_none (λ x. x);
  classes_known = each_none (λ c. c < class_count);
  classes_used = each_none (λ c. IsInUse sample (Class c));
  left_sides = both (λ q. q.left < length sample.symbols) first production_a (omega arith) (omega arith);
  items_named =
      both (λ q. Each (IsNamedItem sample) q.items) first production_a
      (both (IsNamedItem sample) (item.Symbol 1) (item.Symbol 1) (omega arith) (omega arith))
      (only (IsNamedItem sample) (item.Terminal (Literal 0)) (omega arith));
  rules_named = both (λ q. Each (IsNamedRule sample q) q.rules) first production_a
      (three (IsNamedRule sample first) (copy_named (attribute 0 0) 1 s_name 0 Synthesized refl refl)
      (copy_named (attribute 1 1) 2 s_name 0 Inherited refl refl)
      (record {
        target = (Inherited, refl);
        listed = literal_within 0 0 (Num (pos 0));
        arguments = related_none (RefersTo sample first);
      }))
      (only (IsNamedRule sample production_a) rule_s rule_s_named);
}

pub accepted : IsAccepted sample
accepted = record {
  named = named;
  start = record { symbol = symbol_r; declared = refl; plain = refl; out = (0, refl) };
  complete = both (IsComplete sample) first production_a complete_first complete_second;
  normal = both (IsNormal sample) first production_a normal_first normal_second;
  productive = productive;
  reachable = reached;
  limits = limits;
}
