-- The grammar of a token, its tree and its values.
use Rattle.ag_grammar.proofs.Common
use Common.{ℕ, zero, suc, ◌≡◌, ◌<◌, ◌≤◌, [], ◌∷◌, IsAscii, length, refl, sym, ◌∙◌, arith, Text, IsTokenText, IsTreeOf, Each, at}
use Common.{Holds, Solves, AnyRule, IsTranslation, Differ, Rule, Literal, Class, attribute_names, lex_name, stored_items, HasKind}
use Common.{IsRule, RefersTo, Synthesized, used_kind, defined_kind}
use Common.item
use Rattle.std.proofs.lemmas.Str.{IsUtf8-from_ascii, is_utf8-from_IsUtf8}
use Rattle.ag_grammar.specs.grammars.Sample.{attribute, named as named_at, token_sample, production_s, symbol_s, token_tree}
use Rattle.ag_grammar.specs.grammars.Sample.{token_values, rule_lex, iffy}
use Rattle.ag_grammar.specs.grammars.Accepted.{out_name, max_attributes, max_items, max_children, max_literal_bytes, class_count}
use Rattle.ag_grammar.specs.grammars.Accepted.{IsSeparator, IsWithinGrammarLimits, IsInUse, IsNamedItem, IsNamedRule, IsNamed}
use Rattle.ag_grammar.specs.grammars.Accepted.{IsComplete, IsNormal, IsProductive, by_production, nothing, a_terminal, IsReached}
use Rattle.ag_grammar.specs.grammars.Accepted.{at_start, IsAccepted}
use Rattle.ag_grammar.proofs.grammars.Members.{alone, both, only, related_one}
use Rattle.ag_grammar.proofs.grammars.samples.NumberSample.{no_separator}
use Rattle.ag_grammar.proofs.grammars.Rules.{environment, lends}
use Rattle.ag_grammar.proofs.expressions.Within.{occurrence_within}
use Rattle.ag_grammar.proofs.expressions.Worked.{occurrence_gives}

ascii : IsAscii iffy
ascii zero = omega arith
ascii (suc zero) = omega arith
ascii (suc (suc zero)) = omega arith
ascii (suc (suc (suc zero))) = omega arith
ascii (suc (suc (suc (suc i)))) = omega arith

-- `iffy` is a valid text of a token
pub text : IsTokenText iffy
text = record { utf8 = is_utf8-from_IsUtf8 iffy (IsUtf8-from_ascii iffy ascii); short = omega arith }

pub fits : IsTreeOf token_sample token_tree
fits = (production_s, refl, refl, ((refl, text), tt))

lex_holds : Each (λ r. Holds r (at (token_values iffy))) production_s.rules
lex_holds =
    only (λ r. Holds r (at (token_values iffy))) rule_lex (λ env lent. sym (occurrence_gives 0 env ∙ lent 0 (attribute 1 0) refl))

pub solved : Solves AnyRule token_sample token_tree (token_values iffy)
solved = (λ r h any. lex_holds h.0 r h.1, (refl, tt))

pub unsolved : Solves AnyRule token_sample token_tree (token_values []) → ⊥
unsolved s =
    let env = environment rule_lex (at (token_values [])) in
    let e : Text [] ≡ Text iffy =
    s.0 rule_lex (0, refl) tt env (lends rule_lex (at (token_values []))) ∙ occurrence_gives 0 env in
    cc

pub translation : IsTranslation token_sample (token_values iffy) (Text iffy)
translation = (0, (symbol_s, refl, refl), refl)

given : (j a : ℕ) → HasKind token_sample production_s (attribute j a) (defined_kind j)
    → (r : Rule) × IsRule production_s r × (r.target ≡ attribute j a)
given zero zero h = (rule_lex, (0, refl), refl)
given zero (suc a) h = cc
given (suc zero) zero h = cc
given (suc zero) (suc a) h = cc
given (suc (suc j)) a h = cc

complete : IsComplete token_sample production_s
complete =
    record {
      all = λ o h. given o.place o.attr h;
      single = alone (λ r. r.target) rule_lex;
      no_other = only (λ r. HasKind token_sample production_s r.target (defined_kind r.target.place)) rule_lex refl;
    }

normal : IsNormal token_sample production_s
normal =
    only (λ r. Each (λ o. HasKind token_sample production_s o (used_kind o.place)) r.args) rule_lex
    (only (λ o. HasKind token_sample production_s o (used_kind o.place)) (attribute 1 0) refl)

first_alone : (P : ℕ → Type 0) → P 0 → (s : ℕ) → s < 1 → P s
first_alone P h zero lt = h
first_alone P h (suc s) lt = absurd (omega arith)

named : IsNamed token_sample
named = record {
  symbols_differ = alone (λ s. s.name) symbol_s;
  attributes_differ = only (λ s. Differ (attribute_names s)) symbol_s (alone (λ x. x) out_name);
  literals_differ = alone (λ x. x) (105 ∷ 102 ∷ []);
  literals_used = first_alone (λ l. IsInUse token_sample (Literal l)) (0, production_s, refl, (1, refl));
  without_separators =
      only (Each (λ b. IsSeparator b → ⊥)) (105 ∷ 102 ∷ [])
      (both (λ b. IsSeparator b → ⊥) 105 102 (no_separator 105 (omega arith)) (no_separator 102 (omega arith)));
  classes_differ = alone (λ x. x) 0;
  classes_known = only (λ c. c < class_count) 0 (omega arith);
  classes_used = only (λ c. IsInUse token_sample (Class c)) 0 (0, production_s, refl, (0, refl));
  left_sides = only (λ q. q.left < length token_sample.symbols) production_s (omega arith);
  items_named =
      only (λ q. Each (IsNamedItem token_sample) q.items) production_s
      (both (IsNamedItem token_sample) (item.Terminal (Class 0)) (item.Terminal (Literal 0)) (0, refl) (omega arith));
  rules_named =
      only (λ q. Each (IsNamedRule token_sample q) q.rules) production_s
      (only (IsNamedRule token_sample production_s) rule_lex (record {
        target = (Synthesized, refl);
        listed = occurrence_within 1 0 0 refl;
        arguments =
            related_one (RefersTo token_sample production_s) (named_at 1 lex_name) (attribute 1 0)
            (record { place = refl; name = refl });
      }));
}

limits : IsWithinGrammarLimits token_sample
limits = record {
  symbol_count = omega arith;
  attribute_count = only (λ s. length (attribute_names s) ≤ max_attributes) symbol_s (omega arith);
  production_count = omega arith;
  item_count = only (λ q. length q.items ≤ max_items) production_s (omega arith);
  stored_count = only (λ q. length (stored_items q.items) ≤ max_children) production_s (omega arith);
  literal_count = omega arith;
  literal_bytes = only (λ x. (1 ≤ length x) × (length x ≤ max_literal_bytes)) (105 ∷ 102 ∷ []) (omega arith, omega arith);
}

pub accepted : IsAccepted token_sample
accepted = record {
  named = named;
  start = record { symbol = symbol_s; declared = refl; plain = refl; out = (0, refl) };
  complete = only (IsComplete token_sample) production_s complete;
  normal = only (IsNormal token_sample) production_s normal;
  productive = first_alone (IsProductive token_sample) (by_production 0 production_s refl refl (a_terminal (a_terminal nothing)));
  reachable = first_alone (IsReached token_sample) at_start;
  limits = limits;
}
