-- The reading function of expressions: their parser as a plain function on tokens with offsets. It returns a result and
-- the remaining input, or the fault at the first token that cannot be accepted.
use Rattle.std.specs.Prelude.{◌≡◌, cond, ℕ, zero, suc, Bool, true, false, ◌||◌, if◌then◌else◌, List, [], ◌∷◌, ◌++◌, Option, Some}
use Rattle.std.specs.Prelude.{None, Err, is_some, codes}
use Rattle.ag_tokens.specs.declared.token.Punctuation.TheVariants as punctuation
use Rattle.ag_expr.specs.declared.fault.ExprFault.{ExprFault}
use Rattle.ag_expr.specs.declared.fault.ExprFault.TheVariants as fault
use Rattle.ag_grammar.specs.declared.syntax.node.Operator.{Operator}
use Rattle.ag_grammar.specs.declared.syntax.node.Node.{Node}
use Rattle.ag_grammar.specs.declared.syntax.occurrence.Occ.{Occ}
use Rattle.ag_expr.specs.declared.parser.Precedence.{Precedence}
use Rattle.ag_expr.specs.declared.parser.Atom.{Atom}
use Rattle.ag_expr.specs.declared.parser.Atom.TheVariants as atom
use Rattle.ag_tokens.specs.declared.token.Punctuation.{Punctuation}
use Rattle.ag_tokens.specs.Ending.{Ending}
use Rattle.ag_tokens.specs.Ending as ending
use Rattle.ag_tokens.specs.PlacedToken.{PlacedToken, Input}
use Rattle.ag_grammar.specs.declared.syntax.node.Node.TheVariants as node
use Rattle.ag_expr.specs.declared.names.Call.{Call}
use Rattle.ag_expr.specs.declared.names.Call.TheVariants as call
use Rattle.ag_grammar.specs.declared.syntax.node.UnaryCall.{UnaryCall}
use Rattle.ag_grammar.specs.declared.syntax.node.BinaryCall.{BinaryCall}
use Rattle.ag_expr.specs.language.Names.{Names}
use Rattle.ag_expr.specs.language.Syntax.{operator_of, precedences, takes_one, chain_of, new_name, call_in, operand_of}
use Rattle.ag_tokens.specs.GrammarToken.{GrammarToken, Sign, mark, word}
use Rattle.ag_tokens.specs.GrammarToken as token
use Rattle.ag_tokens.specs.Parsing as parsing
use Rattle.ag_tokens.specs.Parsing.{◌>>=◌, ◌>>◌, pure, choose, one_from, further_from, end_from, is_sign, sees}

-- ---- faults

-- the fault if a token is needed where the tokens end
abbrev pub ending_fault : Ending → ExprFault
ending_fault (ending.EndsAt at) = fault.Unexpected at
ending_fault (ending.NoTokenAt at) = fault.NoToken at
ending_fault (ending.TooLargeAt at) = fault.NumberTooLarge at

-- the fault for the next token, or for the ending if there is none
abbrev pub refusal_of : Ending → List PlacedToken → ExprFault
refusal_of e [] = ending_fault e
refusal_of e (p ∷ ps) = fault.Unexpected p.at

-- the same for an input
abbrev pub refusal : Input → ExprFault
refusal i = refusal_of i.ending i.left

-- ---- parsers

-- outcomes of parsers, and parsers, with the faults of expressions
abbrev pub Outcome : Type 0 → Type 0
Outcome = parsing.Outcome ExprFault

abbrev pub Parser : Type 0 → Type 0
Parser = parsing.Parser ExprFault

-- reads one token, and returns its meaning; fails with `refusal` if there is no token, or if the token has no meaning
abbrev pub token_as : {A : Type 0} → (GrammarToken → Option A) → Parser A
token_as meaning = one_from refusal (λ at. meaning)

-- the meaning of a token that is this punctuation or this name; `expect` reads such a token
abbrev pub as_sign : Sign → GrammarToken → Option (Unit {0})
as_sign s t = if is_sign s t then Some tt else None

abbrev pub expect : Sign → Parser (Unit {0})
expect s = token_as (as_sign s)

-- ---- chains of operators

-- whether the token is an operator of the precedence
abbrev pub is_operator_of : Precedence → GrammarToken → Bool
is_operator_of k t = is_some (operator_of k t)

-- an operator of the precedence, and the operand after it
unfoldable pub other_from : Precedence → Parser Node → Parser (Operator × Node)
other_from k operand = do
  o ← token_as (operator_of k)
  e ← operand
  pure (o, e)

-- operands with operators of the precedence between them
unfoldable pub chain_from : Precedence → Parser Node → Parser Node
chain_from k operand = do
  first ← operand
  others ← further_from (takes_one k) (is_operator_of k) (other_from k operand) []
  pure (chain_of first others)

-- a chain of the first precedence; its operands are chains of the next one, and so on; those of the last one are atoms
unfoldable pub ranked_from : Parser Node → List Precedence → Parser Node
ranked_from atom [] = atom
ranked_from atom (k ∷ ks) = chain_from k (ranked_from atom ks)

-- ---- expressions

-- Four tests of a token. `listed` are the distinct occurrences, and `scope` the names in scope.

-- the token is the name of a call
abbrev pub is_call : GrammarToken → Bool
is_call t = is_some (call_in t)

-- the token alone is an operand
abbrev pub is_operand : List Occ → Names → GrammarToken → Bool
is_operand listed scope t = is_some (operand_of listed scope t)

-- an atom can begin with the token
abbrev pub begins_atom : List Occ → Names → GrammarToken → Bool
begins_atom listed scope t =
    is_sign (mark punctuation.Open) t
    || (is_sign (mark punctuation.OpenList) t
    || (is_sign (mark punctuation.OpenTable) t || (is_call t || is_operand listed scope t)))

-- an expression can begin with the token
abbrev pub begins : List Occ → Names → GrammarToken → Bool
begins listed scope t = is_sign (word (codes "let")) t || (is_sign (word (codes "if")) t || begins_atom listed scope t)

-- the form of the atom that begins with this punctuation; `atom_of` is the same for any token
abbrev pub marked_atom : Punctuation → Atom
marked_atom punctuation.Open = atom.Parenthesized
marked_atom punctuation.OpenList = atom.List
marked_atom punctuation.OpenTable = atom.Table
marked_atom _ = atom.Operand

abbrev pub atom_of : GrammarToken → Atom
atom_of (token.Punctuation m) = marked_atom m
atom_of (token.Name name) = cond (is_call (token.Name name)) atom.Call atom.Operand
atom_of _ = atom.Operand

-- The next token begins an atom of this form, and of none of the forms above in this list. For `Operand`, this means only: the
-- next token begins an atom of no other form. Then it may begin no atom at all, or there may be no next token.
abbrev pub BeginsAtom : Atom → Input → Type 0
BeginsAtom atom.Parenthesized i = sees (is_sign (mark punctuation.Open)) i ≡ true
BeginsAtom atom.List i =
    (sees (is_sign (mark punctuation.Open)) i ≡ false) × (sees (is_sign (mark punctuation.OpenList)) i ≡ true)
BeginsAtom atom.Table i =
    (sees (is_sign (mark punctuation.Open)) i ≡ false) × (sees (is_sign (mark punctuation.OpenList)) i ≡ false)
    × (sees (is_sign (mark punctuation.OpenTable)) i ≡ true)
BeginsAtom atom.Call i =
    (sees (is_sign (mark punctuation.Open)) i ≡ false) × (sees (is_sign (mark punctuation.OpenList)) i ≡ false)
    × (sees (is_sign (mark punctuation.OpenTable)) i ≡ false) × (sees is_call i ≡ true)
BeginsAtom atom.Operand i =
    (sees (is_sign (mark punctuation.Open)) i ≡ false) × (sees (is_sign (mark punctuation.OpenList)) i ≡ false)
    × (sees (is_sign (mark punctuation.OpenTable)) i ≡ false) × (sees is_call i ≡ false)

-- the rest of an empty list after its opening bracket
unfoldable pub none_from : Parser Node
none_from = do
  expect (mark punctuation.CloseList)
  pure (node.List [])

-- an empty table
unfoldable pub table_from : Parser Node
table_from = do
  expect (mark punctuation.OpenTable)
  expect (mark punctuation.CloseTable)
  pure node.EmptyTable

-- The parsers of the forms of an expression. Each but `items_from` parses the language of `Syntax.antt` with the like name:
-- `list_from` parses `IsList`, and `some_from` parses `AreSome`. `inner` maps the names in scope to the parser of expressions of
-- one level less, and `scope` are the names in scope.
module _ (inner : Names → Parser Node) (scope : Names) where
  unfoldable pub parenthesized_from : Parser Node
  parenthesized_from = do
    expect (mark punctuation.Open)
    e ← inner scope
    expect (mark punctuation.Close)
    pure e

  -- a comma, followed by one more expression
  unfoldable pub next_from : Parser Node
  next_from = do
    expect (mark punctuation.Comma)
    inner scope

  -- the items of a list after its first one, `first`; returns all items
  unfoldable pub items_from : Node → Parser (List Node)
  items_from first = further_from false (is_sign (mark punctuation.Comma)) next_from (first ∷ [])

  -- the rest of a list with items after its opening bracket
  unfoldable pub some_from : Parser Node
  some_from = do
    first ← inner scope
    items ← items_from first
    expect (mark punctuation.CloseList)
    pure (node.List items)

  unfoldable pub list_from : Parser Node
  list_from = do
    expect (mark punctuation.OpenList)
    choose (is_sign (mark punctuation.CloseList)) none_from some_from

  -- the arguments of a call, as many as it takes, and the closing parenthesis
  unfoldable pub unary_from : UnaryCall → Parser Node
  unary_from c = do
    a ← inner scope
    expect (mark punctuation.Close)
    pure (node.Unary c a)

  unfoldable pub binary_from : BinaryCall → Parser Node
  binary_from c = do
    a ← inner scope
    b ← next_from
    expect (mark punctuation.Close)
    pure (node.Binary c a b)

  unfoldable pub put_from : Parser Node
  put_from = do
    t ← inner scope
    k ← next_from
    v ← next_from
    expect (mark punctuation.Close)
    pure (node.Put t k v)

  abbrev pub arguments_from : Call → Parser Node
  arguments_from (call.Unary c) = unary_from c
  arguments_from (call.Binary c) = binary_from c
  arguments_from call.Put = put_from

  unfoldable pub call_from : Parser Node
  call_from = do
    c ← token_as call_in
    expect (mark punctuation.Open)
    arguments_from c

  unfoldable pub let_from : Parser Node
  let_from = do
    expect (word (codes "let"))
    x ← token_as new_name
    expect (mark punctuation.Equal)
    e ← inner scope
    expect (word (codes "in"))
    f ← inner (scope ++ x ∷ [])
    pure (node.Let e f)

  unfoldable pub if_from : Parser Node
  if_from = do
    expect (word (codes "if"))
    c ← inner scope
    expect (word (codes "then"))
    e ← inner scope
    expect (word (codes "else"))
    f ← inner scope
    pure (node.If c e f)

  -- `listed` are the distinct occurrences
  module _ (listed : List Occ) where
    unfoldable pub atom_from : Parser Node
    atom_from =
        choose (is_sign (mark punctuation.Open)) parenthesized_from (choose (is_sign (mark punctuation.OpenList)) list_from
        (choose (is_sign (mark punctuation.OpenTable)) table_from
        (choose is_call call_from (token_as (operand_of listed scope)))))

    -- an expression: a `let`, an `if` or a chain
    unfoldable pub whole_from : Parser Node
    whole_from =
        choose (is_sign (word (codes "let"))) let_from
        (choose (is_sign (word (codes "if"))) if_from (ranked_from atom_from precedences))

-- the fault for an expression that would begin here with no level left
abbrev pub level_fault_of : List Occ → Names → Ending → List PlacedToken → ExprFault
level_fault_of listed scope e [] = ending_fault e
level_fault_of listed scope e (p ∷ ps) = if begins listed scope p.token then fault.TooDeep p.at else fault.Unexpected p.at

-- an expression of at most `levels` levels, with these distinct occurrences, and these names in scope
unfoldable pub expr_in : List Occ → ℕ → Names → Parser Node
expr_in listed zero scope = λ i. Err (level_fault_of listed scope i.ending i.left)
expr_in listed (suc levels) scope = whole_from (expr_in listed levels) scope listed

-- the same with no name in scope
abbrev pub expr_from : List Occ → ℕ → Parser Node
expr_from listed levels = expr_in listed levels []

-- ---- a whole text

-- reads nothing if the text ends here, and else fails with `refusal`
abbrev pub at_end : Parser (Unit {0})
at_end = end_from refusal

-- an expression, and then the end of the text
unfoldable pub expr_of : List Occ → ℕ → Parser Node
expr_of listed levels = do
  e ← expr_from listed levels
  at_end
  pure e
