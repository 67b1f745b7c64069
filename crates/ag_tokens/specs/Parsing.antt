-- Parsers over tokens with offsets, for any type of faults: a parser returns a result and the remaining
-- input, or a fault. All definitions are this project's.
use Rattle.std.specs.Prelude.{ℕ, zero, suc, Bool, true, false, if◌then◌else◌, List, [], ◌∷◌, ◌++◌, length, Option, Some, None}
use Rattle.std.specs.Prelude.{Result, Ok, Err, bytes_eq}
use denote.Enum.Bare.{sameb}
use Rattle.ag_tokens.specs.contracts.token.Punctuation.{the_type}
use Rattle.ag_tokens.specs.declared.token.Punctuation.{Punctuation}
use Rattle.ag_tokens.specs.declared.fault.TokenFault.{TokenFault}
use Rattle.ag_tokens.specs.declared.fault.TokenFault.TheVariants as token_fault
use Rattle.ag_tokens.specs.Ending.{Ending, offset_of}
use Rattle.ag_tokens.specs.Ending as ending
use Rattle.ag_tokens.specs.PlacedToken.{PlacedToken, Input}
use Rattle.ag_tokens.specs.GrammarToken.{GrammarToken, Sign, mark, word}
use Rattle.ag_tokens.specs.GrammarToken as token

-- ---- the next token

-- the first token of a list, if there is one; `next_token` is the same for the remaining tokens of an input
abbrev pub first_token : List PlacedToken → Option GrammarToken
first_token [] = None
first_token (p ∷ ps) = Some p.token

abbrev pub next_token : Input → Option GrammarToken
next_token i = first_token i.left

-- the tokens after the first one, if there is one; `next` is the input after its next token, or the same input if it has none
abbrev pub after_first : List PlacedToken → List PlacedToken
after_first [] = []
after_first (p ∷ ps) = ps

abbrev pub next : Input → Input
next i = record i { left = after_first i.left }

-- the offset of the next token, or of the ending
abbrev pub first_offset : Ending → List PlacedToken → ℕ
first_offset e [] = offset_of e
first_offset e (p ∷ ps) = p.at

abbrev pub offset : Input → ℕ
offset i = first_offset i.ending i.left

-- whether the text ends here
abbrev pub is_end : Ending → List PlacedToken → Bool
is_end (ending.EndsAt at) [] = true
is_end _ _ = false

-- the fault of an ending other than the end of the text
abbrev pub ending_fault : Ending → Option TokenFault
ending_fault (ending.EndsAt at) = None
ending_fault (ending.NoTokenAt at) = Some token_fault.Nothing
ending_fault (ending.TooLargeAt at) = Some token_fault.TooLarge

-- the fault of an input without a next token, if the text does not end there
abbrev pub fault_of : Ending → List PlacedToken → Option TokenFault
fault_of e [] = ending_fault e
fault_of e (p ∷ ps) = None

-- whether there is a next token and it satisfies the test; `sees` is the same for the next token of an input
abbrev pub next_satisfies : (GrammarToken → Bool) → Option GrammarToken → Bool
next_satisfies test None = false
next_satisfies test (Some t) = test t

abbrev pub sees : (GrammarToken → Bool) → Input → Bool
sees test i = next_satisfies test (next_token i)

-- a test: two punctuation marks are the same; `sameb the_type` is the toolchain's test for an enum without fields
abbrev pub same_mark : Punctuation → Punctuation → Bool
same_mark = sameb the_type

-- whether a token is this punctuation or this name
abbrev pub is_sign : Sign → GrammarToken → Bool
is_sign (mark m) (token.Punctuation other) = same_mark other m
is_sign (word name) (token.Name other) = bytes_eq other name
is_sign s t = false

-- ---- parsers

-- the result of a parser, which is a function of an input: a value and the remaining input, or a fault
abbrev pub Outcome : Type 0 → Type 0 → Type 0
Outcome Fault A = Result (A × Input) Fault

abbrev pub Parser : Type 0 → Type 0 → Type 0
Parser Fault A = Input → Outcome Fault A

-- if the outcome has a value a and a remaining input, runs the parser `f a` on this input; keeps a fault
abbrev pub and_then : {Fault A B : Type 0} → Outcome Fault A → (A → Parser Fault B) → Outcome Fault B
and_then (Ok p) f = f p.0 p.1
and_then (Err e) f = Err e

-- runs the parser p, and then f with the value and the remaining input of p's outcome
infixl 10 ◌>>=◌
abbrev pub ◌>>=◌ : {Fault A B : Type 0} → Parser Fault A → (A → Parser Fault B) → Parser Fault B
p >>= f = λ i. and_then (p i) f

-- the same if the second parser doesn't depend on the first one's value
infixl 10 ◌>>◌
abbrev pub ◌>>◌ : {Fault A B : Type 0} → Parser Fault A → Parser Fault B → Parser Fault B
p >> q = p >>= (λ _. q)

-- the parser that reads no token and returns a
abbrev pub pure : {Fault A : Type 0} → A → Parser Fault A
pure a = λ i. Ok (a, i)

-- The second argument is the meaning of the next token, or `None` if it has none. The parser skips the token and returns the
-- meaning a; for `None` it fails with the fault `wrong i` for the input i.
abbrev pub accept_as : {Fault A : Type 0} → (Input → Fault) → Option A → Parser Fault A
accept_as wrong None = λ i. Err (wrong i)
accept_as wrong (Some a) = λ i. Ok (a, next i)

-- the meaning of a token at an offset, if there is a token and it has a meaning
abbrev pub meaning_of : {A : Type 0} → (ℕ → GrammarToken → Option A) → ℕ → Option GrammarToken → Option A
meaning_of meaning at None = None
meaning_of meaning at (Some t) = meaning at t

-- the parser of one token that has a meaning: it returns this meaning. If there is no next token, or if the next token has no
-- meaning, the parser fails with the fault that `wrong` returns for the input.
abbrev pub one_from : {Fault A : Type 0} → (Input → Fault) → (ℕ → GrammarToken → Option A) → Parser Fault A
one_from wrong meaning = λ i. accept_as wrong (meaning_of meaning (offset i) (next_token i)) i

-- the first parser if the next token satisfies the test, else the second
abbrev pub choose : {Fault A : Type 0} → (GrammarToken → Bool) → Parser Fault A → Parser Fault A → Parser Fault A
choose test one other = λ i. if sees test i then one i else other i

-- repeats the parser `item`, at most n times, as long as the next token passes the test `begins`, that is, begins another item;
-- `found` has the items so far, and is returned with the others after it
unfoldable pub many_from : {Fault A : Type 0} → (GrammarToken → Bool) → Parser Fault A → ℕ → List A → Parser Fault (List A)
many_from begins item zero found = pure found
many_from begins item (suc n) found = choose begins (item >>= λ x. many_from begins item n (found ++ x ∷ [])) (pure found)

-- a bound for the number of further items: 1 if the first argument is true, else the number of remaining tokens (each item begins
-- with one)
abbrev pub item_bound : Bool → List PlacedToken → ℕ
item_bound true ps = 1
item_bound false ps = length ps

-- parses further items after `found`: at most one if `one` is true, else as many as there are; returns `found` and these
abbrev pub further_from : {Fault A : Type 0} → Bool → (GrammarToken → Bool) → Parser Fault A → List A → Parser Fault (List A)
further_from one begins item found = λ i. many_from begins item (item_bound one i.left) found i

-- reads nothing if the text ends here, and else fails with the fault that `wrong` returns for the input
abbrev pub end_from : {Fault : Type 0} → (Input → Fault) → Parser Fault (Unit {0})
end_from wrong = λ i. if is_end i.ending i.left then Ok (tt, i) else Err (wrong i)
