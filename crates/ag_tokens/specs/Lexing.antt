-- The lexer as a plain function, `token_from`, which agrees with the definition of tokens (see the laws). `token_from` and
-- the functions that it uses read a list of characters. A character is its code point: 34 is a double quote, 36 `$`, 46 a dot
-- and 92 a backslash. The definitions after `token_from` compare results of the code with those of these functions: there a text
-- is a list of bytes, and `chars text` is the list of its characters. `lent.GrammarToken` is the Rust type, whose tokens borrow
-- their texts.
use Rattle.std.specs.Option.{option_and_then}
use Rattle.std.specs.Prelude.{◌≡◌, ℕ, zero, suc, pos, Bool, true, false, cond, ◌==◌, List, [], ◌∷◌, ◌++◌, length, take, drop}
use Rattle.std.specs.Prelude.{Option, Some, None, Result, Ok, Err, encode_utf8, encode_utf8_all, chars, is_some, option_map}
use Rattle.std.specs.Borrow.{Bor}
use Rattle.std.specs.Char.{is_ascii_digit}
use Rattle.std.specs.List.{prefix_len}
use Rattle.std.specs.Str.Parse.{digits_value}
use Rattle.unicode_ident.specs.Ident.{is_xid_continue}
use Rattle.ag_tokens.specs.declared.fault.TokenFault.{TokenFault}
use Rattle.ag_tokens.specs.declared.fault.TokenFault.TheVariants as fault
use Rattle.ag_tokens.specs.declared.token.Punctuation.{Punctuation}
use Rattle.ag_tokens.specs.declared.token.Punctuation.TheVariants as punctuation
use Rattle.ag_tokens.specs.GrammarToken.{GrammarToken}
use Rattle.ag_tokens.specs.GrammarToken as token
use Rattle.ag_tokens.specs.declared.lexer.Class.{Class}
use Rattle.ag_tokens.specs.declared.lexer.Class.TheVariants as class
use Rattle.ag_tokens.specs.declared.token.GrammarToken as lent
use Rattle.ag_tokens.specs.declared.token.GrammarToken.TheVariants as lent_token
use Rattle.ag_tokens.specs.Tokens.{escaped, is_quotable, starts_name, is_separator, is_within, IsBody}

-- b for `None`, and f x for `Some x`
abbrev pub match_option : {A B : Type 0} → Option A → B → (A → B) → B
match_option None b f = b
match_option (Some x) b f = f x

-- whether a character belongs to a class
abbrev pub is_in : Class → ℕ → Bool
is_in class.Separator = is_separator
is_in class.Digit = is_ascii_digit
is_in class.NamePart = is_xid_continue
is_in class.Quotable = is_quotable

-- the longest prefix of characters of a class, and the characters after it
abbrev pub prefix_in : Class → List ℕ → List ℕ
prefix_in c cs = take (prefix_len (is_in c) cs) cs

abbrev pub rest_in : Class → List ℕ → List ℕ
rest_in c cs = drop (prefix_len (is_in c) cs) cs

-- for characters after a backslash: the character that the escape denotes, and the characters after it; `None` if this is
-- not an escape
abbrev pub escape_from : List ℕ → Option (ℕ × List ℕ)
escape_from [] = None
escape_from (c ∷ cs) = option_and_then (λ d. Some (d, cs)) (escaped c)

-- the character that the beginning of a body denotes, and the characters after it: an escape denotes one character, and any other
-- character denotes itself, also a quote; `None` at a backslash that begins no escape, and at the end
abbrev pub piece_from : List ℕ → Option (ℕ × List ℕ)
piece_from [] = None
piece_from (c ∷ cs) = cond (c == 92) (escape_from cs) (Some (c, cs))

-- The bytes of the text that the body of a text literal denotes, up to the first backslash that does not begin an escape.
-- `after_backslash` is the same for the characters after a backslash.
abbrev mutual
  pub unescaped : List ℕ → List ℕ
  unescaped [] = []
  unescaped (c ∷ cs) = cond (c == 92) (after_backslash cs) (encode_utf8 c ++ unescaped cs)

  pub after_backslash : List ℕ → List ℕ
  after_backslash [] = []
  after_backslash (c ∷ cs) = match_option (escaped c) [] (λ d. encode_utf8 d ++ unescaped cs)

-- the token of the specification that corresponds to a token of the code
abbrev pub token_of : lent.GrammarToken → GrammarToken
token_of (lent_token.Number n) = token.Number n
token_of (lent_token.Text body) = token.Text (unescaped (chars body.now))
token_of (lent_token.Name name) = token.Name name.now
token_of (lent_token.Occurrence place attr) = token.Occurrence place attr.now
token_of (lent_token.Punctuation s) = token.Punctuation s

-- the leading digits, if there are any, and the characters after them
abbrev pub digits_from : List ℕ → Option (List ℕ × List ℕ)
digits_from cs =
    cond (prefix_len is_ascii_digit cs == 0) None
    (Some (take (prefix_len is_ascii_digit cs) cs, drop (prefix_len is_ascii_digit cs) cs))

-- the name at the beginning, if one begins there, and the characters after it
abbrev pub name_from : List ℕ → Option (List ℕ × List ℕ)
name_from [] = None
name_from (c ∷ cs) =
    cond (starts_name c)
    (Some (take (prefix_len is_xid_continue (c ∷ cs)) (c ∷ cs), drop (prefix_len is_xid_continue (c ∷ cs)) (c ∷ cs))) None

-- the punctuation that consists of this character alone, if no punctuation of two characters begins with it: `-`, `*`, `<`, `(`,
-- `)`, `[`, `]`, `{`, `}`, `,` and `;`, in this order
abbrev pub single_punctuation : ℕ → Option Punctuation
single_punctuation c =
    cond (c == 45) (Some punctuation.Minus)
    (cond (c == 42) (Some punctuation.Times)
    (cond (c == 60) (Some punctuation.Less)
    (cond (c == 40) (Some punctuation.Open) (cond (c == 41) (Some punctuation.Close)
    (cond (c == 91) (Some punctuation.OpenList)
    (cond (c == 93) (Some punctuation.CloseList)
    (cond (c == 123) (Some punctuation.OpenTable) (cond (c == 125) (Some punctuation.CloseTable)
    (cond (c == 44) (Some punctuation.Comma) (cond (c == 59) (Some punctuation.Semicolon) None))))))))))

-- for characters after a first `twice`: if they begin with `twice`, `two` and the characters after that one, and else `one` and
-- the same characters
abbrev pub double_mark : ℕ → Punctuation → Punctuation → List ℕ → Punctuation × List ℕ
double_mark twice two one [] = (one, [])
double_mark twice two one (c ∷ cs) = cond (c == twice) (two, cs) (one, c ∷ cs)

-- the punctuation at the beginning, and the characters after it (43 is `+`, and 61 `=`)
abbrev pub punctuation_from : List ℕ → Option (Punctuation × List ℕ)
punctuation_from [] = None
punctuation_from (c ∷ cs) =
    cond (c == 43) (Some (double_mark 43 punctuation.Join punctuation.Plus cs))
    (cond (c == 61) (Some (double_mark 61 punctuation.EqualEqual punctuation.Equal cs))
    (option_and_then (λ s. Some (s, cs)) (single_punctuation c)))

-- as `piece_from`, but also `None` at a quote, which ends a body
abbrev pub character_from : List ℕ → Option (ℕ × List ℕ)
character_from [] = None
character_from (c ∷ cs) = cond (c == 34) None (cond (c == 92) (escape_from cs) (Some (c, cs)))

-- the characters after a closing quote
abbrev pub after_quote : List ℕ → Option (List ℕ)
after_quote [] = None
after_quote (c ∷ cs) = cond (c == 34) (Some cs) None

-- The text literal of which a part was read, and the characters after it. That part denotes the bytes `prefix`, and `cs` are the
-- characters after it. `None` if there is a wrong escape or no closing quote. `turns` bounds the recursion: it must be greater
-- than the number of characters before the closing quote (an escape is one). `length cs` is enough, since it counts the quote.
unfoldable pub text_from : ℕ → List ℕ → List ℕ → Option (GrammarToken × List ℕ)
text_from zero prefix cs = None
text_from (suc turns) prefix cs =
    match_option (character_from cs) (option_and_then (λ rest. Some (token.Text prefix, rest)) (after_quote cs))
    (λ p. text_from turns (prefix ++ encode_utf8 p.0) p.1)

-- the characters after a dot
abbrev pub after_dot : List ℕ → Option (List ℕ)
after_dot [] = None
after_dot (c ∷ cs) = cond (c == 46) (Some cs) None

-- the occurrence whose `$` has been read, and the characters after it; `None` if this is not an occurrence
abbrev pub occurrence_from : List ℕ → Option (GrammarToken × List ℕ)
occurrence_from cs =
    option_and_then
    (λ d.
    option_and_then
    (λ rest. option_and_then (λ n. Some (token.Occurrence (digits_value 10 d.0) (encode_utf8_all n.0), n.1))
    (name_from rest)) (after_dot d.1)) (digits_from cs)

-- a number literal of any size, and the characters after it
abbrev pub number_from : List ℕ → Option (GrammarToken × List ℕ)
number_from cs = option_and_then (λ d. Some (token.Number (pos (digits_value 10 d.0)), d.1)) (digits_from cs)

-- a token other than a text literal and an occurrence (a number, a name or punctuation), and the characters after it
abbrev pub plain_from : List ℕ → Option (GrammarToken × List ℕ)
plain_from cs =
    match_option (digits_from cs)
    (match_option (name_from cs) (option_and_then (λ s. Some (token.Punctuation s.0, s.1)) (punctuation_from cs))
    (λ n. Some (token.Name (encode_utf8_all n.0), n.1)))
    (λ d. Some (token.Number (pos (digits_value 10 d.0)), d.1))

-- the first token, and the characters after it; `None` if no token begins there
unfoldable pub token_from : List ℕ → Option (GrammarToken × List ℕ)
token_from [] = None
token_from (c ∷ cs) = cond (c == 34) (text_from (length cs) [] cs) (cond (c == 36) (occurrence_from cs) (plain_from (c ∷ cs)))

-- a token was read whose number or place is above its limit
abbrev pub IsTooLarge : Option (GrammarToken × List ℕ) → Type 0
IsTooLarge None = ⊥
IsTooLarge (Some x) = is_within x.0 ≡ false

-- A token of the code, with the text after it, is the token that the specification reads, with the characters
-- after it, and its number or place, if it has one, is within the limit.
abbrev pub IsSameToken : lent.GrammarToken × Bor (List ℕ) → Option (GrammarToken × List ℕ) → Type 0
IsSameToken x read = (read ≡ Some (token_of x.0, chars x.1.now)) × (is_within (token_of x.0) ≡ true)

-- A result of the code agrees with what the specification reads: Ok as in `IsSameToken`; `Nothing` if it reads no token;
-- `TooLarge` if it reads one whose number or place is above its limit.
abbrev pub AgreesOnToken : Result (lent.GrammarToken × Bor (List ℕ)) TokenFault → Option (GrammarToken × List ℕ) → Type 0
AgreesOnToken (Ok x) read = IsSameToken x read
AgreesOnToken (Err fault.Nothing) read = read ≡ None
AgreesOnToken (Err fault.TooLarge) read = IsTooLarge read

-- the text is the character c, followed by rest
abbrev pub IsSplit : List ℕ → ℕ → List ℕ → Type 0
IsSplit text c rest = (chars text ≡ c ∷ chars rest) × (text ≡ encode_utf8 c ++ rest)

-- the digits and the text after them are those of the specification
abbrev pub AgreesOnDigits : Option (Bor (List ℕ) × Bor (List ℕ)) → Option (List ℕ × List ℕ) → Type 0
AgreesOnDigits result read = option_map {U = List ℕ × List ℕ} (λ x. (x.0.now, chars x.1.now)) result ≡ read

-- the name and the text after it are those of the specification
abbrev pub AgreesOnName : Option (Bor (List ℕ) × Bor (List ℕ)) → Option (List ℕ × List ℕ) → Type 0
AgreesOnName result read =
    option_map {U = List ℕ × List ℕ} (λ x. (x.0.now, chars x.1.now)) result ≡ option_map {U = List ℕ × List ℕ}
    (λ n. (encode_utf8_all n.0, n.1)) read

-- the result is the text after a first character of the class; if it is `None`, the text does not begin with
-- such a character
abbrev pub IsAfterOne : Class → List ℕ → Option (Bor (List ℕ)) → Type 0
IsAfterOne class text None = prefix_len (is_in class) (chars text) ≡ 0
IsAfterOne class text (Some rest) =
    (c : ℕ) × (is_in class c ≡ true) × (chars text ≡ c ∷ chars rest.now) × (text ≡ encode_utf8 c ++ rest.now)

-- the result is a first digit and the text after it; if it is `None`, the text does not begin with a digit
abbrev pub IsAfterDigit : List ℕ → Option (ℕ × Bor (List ℕ)) → Type 0
IsAfterDigit text None = prefix_len is_ascii_digit (chars text) ≡ 0
IsAfterDigit text (Some x) = (is_ascii_digit x.0 ≡ true) × IsSplit text x.0 x.1.now

-- the result is the text after the escape whose backslash has been read; if it is `None`, this is not an
-- escape
abbrev pub IsAfterEscape : List ℕ → Option (Bor (List ℕ)) → Type 0
IsAfterEscape text None = escape_from (chars text) ≡ None
IsAfterEscape text (Some rest) =
    (c : ℕ) × (is_some (escaped c) ≡ true) × (chars text ≡ c ∷ chars rest.now) × (text ≡ encode_utf8 c ++ rest.now)

-- The text begins with one character of a body, written as `piece` (a character or an escape), which denotes `character`. `rest`
-- is the text after it.
pub record IsPast (text rest : List ℕ) : Type 0 where
  pub character : ℕ
  pub piece : List ℕ
  pub cut : character_from (chars text) ≡ Some (character, chars rest)
  pub is : IsBody piece (encode_utf8 character ++ [])
  pub split : text ≡ encode_utf8_all piece ++ rest
