-- The parser agrees with the syntax of grammars, and fails at the first token that cannot be accepted.
use Rattle.std.proofs.Common.{◌≡◌, ℕ, Bool, true, false, not, ◌||◌, List, [], ◌∷◌, ◌++◌, map, Some, codes, bytes_eq, refl, ap}
use Rattle.std.proofs.Common.{sym, ◌∙◌, subst, append-nil, arith}
use denote.Enum.Bare.{true_same}
use Rattle.std.proofs.lemmas.Slice.Eq.{bytes_eq-Decides}
use Rattle.ag_tokens.specs.contracts.token.Punctuation.{the_type}
use Rattle.ag_grammar.specs.declared.syntax.occurrence.Occ.{Occ}
use Rattle.ag_tokens.specs.declared.token.Punctuation.{Punctuation}
use Rattle.ag_tokens.specs.declared.token.Punctuation.TheVariants as punctuation
use Rattle.ag_tokens.specs.PlacedToken.{PlacedToken}
use Rattle.ag_tokens.specs.GrammarToken.{GrammarToken}
use Rattle.ag_tokens.specs.GrammarToken as token
use Rattle.ag_grammar.specs.declared.raw.Named.{Named}
use Rattle.ag_grammar.specs.declared.raw.RawGrammar.{RawGrammar}
use Rattle.ag_grammar.specs.declared.raw.RawItem.{RawItem}
use Rattle.ag_grammar.specs.declared.raw.RawItem.TheVariants as item
use Rattle.ag_grammar.specs.declared.raw.RawSymbol.{RawSymbol}
use Rattle.ag_text.specs.Reading.{many, expect, expect_word, one_from, is_other_than, is_any, next_name_from, names_from}
use Rattle.ag_text.specs.Reading.{section_from, attributes_from, symbol_from, rule_from, production_from, grammar_from}
use Rattle.ag_tokens.specs.Languages as spelling
use Rattle.ag_tokens.specs.Languages.{gives, Many, further}
use Rattle.ag_text.specs.Syntax.{one, mark, word, IsFurther, IsNames, IsSection, IsAttributes, IsSymbol, IsRule, IsProduction}
use Rattle.ag_text.specs.Syntax.{IsGrammar}
use Rattle.ag_text.specs.Meanings.{some_if, is_mark, is_word, is_reserved, mark_in, word_in, name_in, item_in, target_in}
use Rattle.ag_expr.proofs.reading.Exact.{Apart, Before, ends_exact, first_is, further_exact, many_exact, many_leads, maybe_exact}
use Rattle.ag_expr.proofs.reading.Exact.{maybe_starts, nowhere, any_then, start_then, then_exact, then_starts, shortens}
use Rattle.ag_expr.proofs.reading.Steady.{Shortens, ends_steady, further_steady, many_steady, or_steady, pure_steady, then_steady}
use Rattle.ag_text.proofs.Expressions.{ended_exact, ended_steady}
use Rattle.ag_text.proofs.Manner.{Exact, Starts, Steady, manner, token_exact, token_starts, token_steady}

-- ---- the meaning of one token

held : {A : Type 0} (b : Bool) (x a : A) → some_if b x ≡ Some a → b ≡ true
held b x a h = grind arith

abbrev is_comma : GrammarToken → Bool
is_comma = is_mark punctuation.Comma

abbrev is_open : GrammarToken → Bool
is_open = is_mark punctuation.OpenTable

abbrev is_close : GrammarToken → Bool
is_close = is_mark punctuation.CloseTable

abbrev is_semi : GrammarToken → Bool
is_semi = is_mark punctuation.Semicolon

-- a name that is not reserved
abbrev is_plain : GrammarToken → Bool
is_plain (token.Name name) = not (is_reserved name)
is_plain _ = false

plain : (at : ℕ) (t : GrammarToken) (a : Named) → name_in at t ≡ Some a → is_plain t ≡ true
plain at t a h = grind arith

-- an item is not a `{`
item_goes_on : (at : ℕ) (t : GrammarToken) (a : RawItem) → item_in at t ≡ Some a → is_other_than punctuation.OpenTable t ≡ true
item_goes_on at t a h = grind arith

-- a target is not a `}`
target_goes_on : (at : ℕ) (t : GrammarToken) (a : Occ) → target_in at t ≡ Some a → is_other_than punctuation.CloseTable t ≡ true
target_goes_on at t a h = grind arith

-- a name equals at most one of two different names
one_word : (v w name : List ℕ) → bytes_eq v w ≡ false → bytes_eq name v ≡ true → bytes_eq name w ≡ false
one_word v w name other h = subst (λ x. bytes_eq x w ≡ false) (sym ((bytes_eq-Decides name v).0 h)) other

-- a name that is not reserved is not `symbol`
not_symbol : (name : List ℕ) → not (is_reserved name) ≡ true → bytes_eq name (codes "symbol") ≡ false
not_symbol name h = let is = bytes_eq-Decides name (codes "symbol") in grind arith

plain_apart : Apart is_plain (λ t. is_word (codes "symbol") t || nowhere t)
plain_apart t h = grind (arith, not_symbol)

-- the tokens that continue the names of a section
abbrev names_go_on : GrammarToken → Bool
names_go_on t = is_comma t || nowhere t

abbrev section_goes_on : List ℕ → GrammarToken → Bool
section_goes_on w t = is_word w t || names_go_on t

-- the tokens that can come after the section of `syn`
abbrev after_syn : GrammarToken → Bool
after_syn t = is_word (codes "inh") t || is_semi t

after_syn_apart : Apart after_syn (section_goes_on (codes "syn"))
after_syn_apart (token.Name name) h = let other = one_word (codes "inh") (codes "syn") name refl in grind (arith, other)
after_syn_apart t h = grind arith

semi_apart : Apart is_semi (section_goes_on (codes "inh"))
semi_apart t h = grind arith

-- the punctuation that ends a repetition does not continue it
mark_ends : (m : Punctuation) → Apart (is_mark m) (λ t. is_other_than m t || nowhere t)
mark_ends m t h = rw h refl

mark_starts : (m : Punctuation) → Starts (is_mark m) (mark m)
mark_starts m = token_starts (λ at t a h. held (is_mark m t) tt a h)

word_starts : (w : List ℕ) → Starts (is_word w) (word w)
word_starts w = token_starts (λ at t a h. held (is_word w t) tt a h)

-- ---- the parser of each rule of the syntax accepts exactly its language

next_name_exact : Exact nowhere IsFurther next_name_from
unfolding next_name_from
next_name_exact = any_then (token_exact (mark_in punctuation.Comma)) (λ u. token_exact name_in)

names_after : (found : List Named) → Exact names_go_on (further false found IsFurther) (many is_comma next_name_from found)
names_after found = further_exact false found next_name_exact (then_starts (mark_starts punctuation.Comma)) (λ t h. refl)

names_exact : Exact names_go_on IsNames names_from
unfolding names_from
names_exact = any_then (token_exact name_in) (λ name. names_after (name ∷ []))

section_starts : (w : List ℕ) → Starts (is_word w) (IsSection w)
section_starts w = then_starts (word_starts w)

attributes_exact : (w : List ℕ) → Exact (section_goes_on w) (IsAttributes w) (attributes_from w)
unfolding attributes_from section_from
attributes_exact w = maybe_exact [] (any_then (token_exact (word_in w)) (λ u. names_exact)) (section_starts w)

symbol_exact : Exact nowhere IsSymbol symbol_from
unfolding symbol_from
symbol_exact =
    any_then (token_exact (word_in (codes "symbol"))) (λ u. any_then (token_exact name_in) (λ name.
    start_then (attributes_exact (codes "syn")) (λ syn.
    start_then (attributes_exact (codes "inh"))
    (λ inh. ends_exact (λ u. record { name = name; syn = syn; inh = inh }) (token_exact (mark_in punctuation.Semicolon)))
    (λ inh. then_starts (mark_starts punctuation.Semicolon)) semi_apart)
    (λ syn. maybe_starts [] (section_starts (codes "inh")) (λ inh. then_starts (mark_starts punctuation.Semicolon)))
    after_syn_apart))

rule_exact : Exact nowhere IsRule rule_from
unfolding rule_from
rule_exact =
    any_then (token_exact target_in)
    (λ target. any_then (token_exact (mark_in punctuation.Equal))
    (λ u. ends_exact (λ expr. record { target = target; expr = expr }) ended_exact))

item_exact : Exact nowhere (one item_in) (one_from item_in)
item_exact = token_exact item_in

items_start : Starts (is_other_than punctuation.OpenTable) (one item_in)
items_start = token_starts item_goes_on

rules_start : Starts (is_other_than punctuation.CloseTable) IsRule
rules_start = then_starts (token_starts target_goes_on)

production_exact : Exact nowhere IsProduction production_from
unfolding production_from
production_exact =
    any_then (token_exact name_in) (λ left. any_then (token_exact (mark_in punctuation.Equal)) (λ u.
    start_then (many_exact (token_exact item_in) items_start (λ t h. refl)) (λ items.
    any_then (token_exact (mark_in punctuation.OpenTable)) (λ u.
    start_then (many_exact rule_exact rules_start (λ t h. refl))
    (λ rules. ends_exact (λ u. record { left = left; items = items; rules = rules })
    (token_exact (mark_in punctuation.CloseTable)))
    (λ rules. then_starts (mark_starts punctuation.CloseTable)) (mark_ends punctuation.CloseTable)))
    (λ items. then_starts (mark_starts punctuation.OpenTable)) (mark_ends punctuation.OpenTable)))

-- any token continues the productions
abbrev any_goes_on : GrammarToken → Bool
any_goes_on t = is_any t || nowhere t

nothing_goes_on : (test : GrammarToken → Bool) (ps : List PlacedToken) → first_is any_goes_on ps ≡ false
    → first_is test ps ≡ false
nothing_goes_on test ps h = grind arith

productions_start : Starts is_plain IsProduction
productions_start = then_starts (token_starts plain)

any_starts : Starts is_any IsProduction
any_starts = then_starts (token_starts (λ at t a h. refl))

pub grammar_exact : Exact any_goes_on IsGrammar grammar_from
unfolding grammar_from IsGrammar
grammar_exact =
    any_then (token_exact (word_in (codes "start")))
    (λ u. any_then (token_exact name_in) (λ start. any_then (token_exact (mark_in punctuation.Semicolon)) (λ u.
    then_exact (many_exact symbol_exact (then_starts (word_starts (codes "symbol"))) (λ t h. refl)) (λ symbols.
    ends_exact (λ productions. record { start = start; symbols = symbols; productions = productions })
    (many_exact production_exact any_starts (λ t h. refl))) (following start))))
  where
    following : (start : Named) (symbols : List RawSymbol)
        → Before manner any_goes_on (λ t. is_word (codes "symbol") t || nowhere t)
        (spelling.◌>>=◌ (Many IsProduction)
        (λ productions. gives {A = RawGrammar} (record { start = start; symbols = symbols; productions = productions })))
    following start symbols vs rest b (us, ws, xs, e, are, (no_more, same)) h =
        let all : map (λ p. p) vs ≡ us = e ∙ ap (λ ys. us ++ ys) no_more ∙ append-nil us in
        many_leads {m = manner} is_plain
        (λ t. is_word (codes "symbol") t || nowhere t) IsProduction productions_start plain_apart vs xs
        (subst (λ ps. Many IsProduction ps xs) (sym all) are) rest (nothing_goes_on _ rest h)

-- ---- where each part fails

abbrev a_name : Named
a_name = record { name = codes "A"; at = 0 }

mark_steady : (m : Punctuation) → Steady (mark m) (expect m)
mark_steady m = token_steady (mark_in m) (token.Punctuation m) tt (simp (true_same the_type m m refl))

word_steady : (w : List ℕ) → Steady (word w) (expect_word w)
word_steady w = token_steady (word_in w) (token.Name w) tt (simp ((bytes_eq-Decides w w).1 refl))

name_steady : Steady (one name_in) (one_from name_in)
name_steady = token_steady name_in (token.Name (codes "A")) a_name refl

next_name_steady : Steady IsFurther next_name_from
unfolding next_name_from
next_name_steady = then_steady (mark_steady punctuation.Comma) (λ u. name_steady)

pub next_name_shortens : Shortens next_name_from
next_name_shortens = shortens next_name_exact (then_starts (mark_starts punctuation.Comma))

names_steady : Steady IsNames names_from
unfolding names_from
names_steady =
    then_steady name_steady (λ name.
    further_steady false is_comma (name ∷ []) next_name_steady next_name_shortens next_name_shortens)

attributes_steady : (w : List ℕ) → Steady (IsAttributes w) (attributes_from w)
unfolding attributes_from section_from
attributes_steady w = or_steady (then_steady (word_steady w) (λ u. names_steady)) (pure_steady [])

symbol_steady : Steady IsSymbol symbol_from
unfolding symbol_from
symbol_steady =
    then_steady (word_steady (codes "symbol"))
    (λ u.
    then_steady name_steady (λ name.
    then_steady (attributes_steady (codes "syn")) (λ syn. then_steady (attributes_steady (codes "inh")) (λ inh.
    ends_steady (λ u. record { name = name; syn = syn; inh = inh }) (mark_steady punctuation.Semicolon)))))

rule_steady : Steady IsRule rule_from
unfolding rule_from
rule_steady =
    then_steady (token_steady target_in (token.Occurrence 0 (codes "a")) (record { place = 0; attr = codes "a"; at = 0 }) refl)
    (λ target. then_steady (mark_steady punctuation.Equal) (λ u.
    ends_steady (λ expr. record { target = target; expr = expr }) ended_steady))

item_steady : Steady (one item_in) (one_from item_in)
item_steady = token_steady item_in (token.Name (codes "A")) (item.Name a_name) refl

production_steady : Steady IsProduction production_from
unfolding production_from
production_steady =
    then_steady name_steady (λ left.
    then_steady (mark_steady punctuation.Equal)
    (λ u. then_steady (many_steady (is_other_than punctuation.OpenTable) item_steady (shortens item_exact items_start))
    (λ items.
    then_steady (mark_steady punctuation.OpenTable)
    (λ u. then_steady (many_steady (is_other_than punctuation.CloseTable) rule_steady (shortens rule_exact rules_start))
    (λ rules.
    ends_steady (λ u. record { left = left; items = items; rules = rules }) (mark_steady punctuation.CloseTable))))))

pub grammar_steady : Steady IsGrammar grammar_from
unfolding grammar_from IsGrammar
grammar_steady =
    then_steady (word_steady (codes "start"))
    (λ u. then_steady name_steady (λ start. then_steady (mark_steady punctuation.Semicolon) (λ u.
    then_steady
    (many_steady (is_word (codes "symbol")) symbol_steady
    (shortens symbol_exact (then_starts (word_starts (codes "symbol"))))) (λ symbols.
    ends_steady (λ productions. record { start = start; symbols = symbols; productions = productions })
    (many_steady is_any production_steady (shortens production_exact any_starts))))))

-- ---- each further part takes at least one token

pub symbol_shortens : Shortens symbol_from
symbol_shortens = shortens symbol_exact (then_starts (word_starts (codes "symbol")))

pub item_shortens : Shortens (one_from item_in)
item_shortens = shortens item_exact items_start

pub rule_shortens : Shortens rule_from
rule_shortens = shortens rule_exact rules_start

pub production_shortens : Shortens production_from
production_shortens = shortens production_exact any_starts
