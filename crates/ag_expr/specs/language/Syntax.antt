-- The syntax of expressions: the tokens that spell a tree, by levels and by precedences of operators (this project's grammar).
-- docs/LANGUAGE.md has the same grammar as productions, under Syntax.
use Rattle.std.specs.Prelude.{◌≡◌, ℕ, zero, suc, Bool, true, false, List, [], ◌∷◌, ◌++◌, Option, Some, None, cond, bytes_eq}
use Rattle.std.specs.Prelude.{codes, option_map}
use denote.Enum.Bare.{sameb}
use Rattle.ag_expr.specs.contracts.parser.Precedence.{the_type}
use Rattle.ag_expr.specs.declared.parser.Precedence.{Precedence}
use Rattle.ag_expr.specs.declared.parser.Precedence.TheVariants as precedence
use Rattle.ag_tokens.specs.declared.token.Punctuation.{Punctuation}
use Rattle.ag_tokens.specs.declared.token.Punctuation.TheVariants as punctuation
use Rattle.ag_tokens.specs.GrammarToken.{GrammarToken, Sign, mark, word, sign_token}
use Rattle.ag_tokens.specs.GrammarToken as token
use Rattle.ag_grammar.specs.declared.syntax.node.Operator.{Operator}
use Rattle.ag_grammar.specs.declared.syntax.node.Operator.TheVariants as operator
use Rattle.ag_grammar.specs.declared.syntax.node.Node.{Node}
use Rattle.ag_grammar.specs.declared.syntax.node.Node.TheVariants as node
use Rattle.ag_value.specs.declared.value.Value.TheVariants as value
use Rattle.ag_grammar.specs.declared.syntax.occurrence.Occ.{Occ}
use Rattle.ag_expr.specs.declared.names.Call.{Call}
use Rattle.ag_expr.specs.declared.names.Call.TheVariants as call
use Rattle.ag_grammar.specs.declared.syntax.node.UnaryCall.{UnaryCall}
use Rattle.ag_grammar.specs.declared.syntax.node.BinaryCall.{BinaryCall}
use Rattle.ag_expr.specs.language.Names.{Names, call_of, is_reserved, binding_in}
use Rattle.ag_expr.specs.language.Occurrences.{position_of}
use Rattle.ag_tokens.specs.Languages.{◌>>=◌, ◌>>◌, gives, one, ◌or◌, further}

-- ---- one sign

-- the tokens are this one punctuation or name; its meaning u is the one value of the type `Unit`
abbrev pub one_sign : Sign → List GrammarToken → Unit {0} → Type 0
one_sign s ts u = ts ≡ sign_token s ∷ []

-- ---- the table of operators with their precedences

-- the operators that are punctuation
abbrev pub marked_operator : Punctuation → Option (Precedence × Operator)
marked_operator punctuation.EqualEqual = Some (precedence.Comparison, operator.Equal)
marked_operator punctuation.Less = Some (precedence.Comparison, operator.Less)
marked_operator punctuation.Join = Some (precedence.Join, operator.Join)
marked_operator punctuation.Plus = Some (precedence.Sum, operator.Add)
marked_operator punctuation.Minus = Some (precedence.Sum, operator.Subtract)
marked_operator punctuation.Times = Some (precedence.Product, operator.Multiply)
marked_operator _ = None

-- the operators that are reserved names
abbrev pub named_operator : List ℕ → Option (Precedence × Operator)
named_operator name =
    cond (bytes_eq name (codes "div")) (Some (precedence.Product, operator.Divide))
    (cond (bytes_eq name (codes "mod")) (Some (precedence.Product, operator.Remainder)) None)

-- the operator that a token spells, and its precedence
abbrev pub binary_operator : GrammarToken → Option (Precedence × Operator)
binary_operator (token.Punctuation m) = marked_operator m
binary_operator (token.Name name) = named_operator name
binary_operator _ = None

-- the precedences that bind more strongly than this one; and all precedences, the weakest first
abbrev pub closer : Precedence → List Precedence
closer precedence.Comparison = precedence.Join ∷ precedence.Sum ∷ precedence.Product ∷ []
closer precedence.Join = precedence.Sum ∷ precedence.Product ∷ []
closer precedence.Sum = precedence.Product ∷ []
closer precedence.Product = []

abbrev pub precedences : List Precedence
precedences = precedence.Comparison ∷ closer precedence.Comparison

-- a chain of comparisons has at most one operator
abbrev pub takes_one : Precedence → Bool
takes_one precedence.Comparison = true
takes_one _ = false

-- a test: two precedences are the same; `sameb the_type` is the toolchain's test for an enum without fields
abbrev pub same_precedence : Precedence → Precedence → Bool
same_precedence = sameb the_type

-- the operator, if its precedence is k
abbrev pub of_precedence : Precedence → Option (Precedence × Operator) → Option Operator
of_precedence k None = None
of_precedence k (Some p) = cond (same_precedence k p.0) (Some p.1) None

-- the operator of this precedence that a token spells
abbrev pub operator_of : Precedence → GrammarToken → Option Operator
operator_of k t = of_precedence k (binary_operator t)

-- ---- operands of one token

-- the name that a token can bind: one that is not reserved
abbrev pub new_name : GrammarToken → Option (List ℕ)
new_name (token.Name name) = cond (is_reserved name) None (Some name)
new_name _ = None

-- the operand that a name spells, given the index of its binding: a bound name; `None` if it is reserved or not bound
abbrev pub bound_operand : List ℕ → Option ℕ → Option Node
bound_operand name number = cond (is_reserved name) None (option_map node.Bound number)

-- The operand that one token spells: a number, a text, an occurrence by its index among the distinct ones of
-- the whole text, or a name by the index of its binding.
abbrev pub operand_of : List Occ → Names → GrammarToken → Option Node
operand_of listed scope (token.Number n) = Some (node.Literal (value.Num n))
operand_of listed scope (token.Text bytes) = Some (node.Literal (value.Text bytes))
operand_of listed scope (token.Name name) = bound_operand name (binding_in scope name)
operand_of listed scope (token.Occurrence place attr) = option_map node.Occurrence (position_of listed place attr)
operand_of listed scope (token.Punctuation m) = None

-- the call that a token names
abbrev pub call_in : GrammarToken → Option Call
call_in (token.Name name) = call_of name
call_in _ = None

-- ---- chains of operators

-- one operand is itself; more operands are a flat chain
abbrev pub chain_of : Node → List (Operator × Node) → Node
chain_of first [] = first
chain_of first (x ∷ xs) = node.Chain first (x ∷ xs)

-- an operator of the precedence, followed by an operand
abbrev pub IsOther : Precedence → (List GrammarToken → Node → Type 0) → List GrammarToken → Operator × Node → Type 0
IsOther k operand = do
  o ← one (operator_of k)
  e ← operand
  gives (o, e)

-- operands with operators of the precedence between them
abbrev pub IsChain : Precedence → (List GrammarToken → Node → Type 0) → List GrammarToken → Node → Type 0
IsChain k operand = do
  first ← operand
  others ← further (takes_one k) [] (IsOther k operand)
  gives (chain_of first others)

-- A chain of the first precedence in the list. Its operands are chains of the next precedence, and so on. The operands of chains
-- of the last precedence, which binds most strongly, are of the language `atom`.
abbrev pub IsRanked : (List GrammarToken → Node → Type 0) → List Precedence → List GrammarToken → Node → Type 0
IsRanked atom [] = atom
IsRanked atom (k ∷ ks) = IsChain k (IsRanked atom ks)

-- ---- forms without subexpressions

-- the rest of an empty list after its opening bracket
abbrev pub AreNone : List GrammarToken → Node → Type 0
AreNone = do
  one_sign (mark punctuation.CloseList)
  gives (node.List [])

-- an empty table
abbrev pub IsTable : List GrammarToken → Node → Type 0
IsTable = do
  one_sign (mark punctuation.OpenTable)
  one_sign (mark punctuation.CloseTable)
  gives node.EmptyTable

-- ---- expressions; `inner` maps the names in scope to the language of expressions of one level less, and `scope` are the names
-- in scope

module _ (inner : Names → List GrammarToken → Node → Type 0) (scope : Names) where
  abbrev pub IsParenthesized : List GrammarToken → Node → Type 0
  IsParenthesized = do
    one_sign (mark punctuation.Open)
    e ← inner scope
    one_sign (mark punctuation.Close)
    gives e

  -- a comma, followed by one more expression
  abbrev pub IsNext : List GrammarToken → Node → Type 0
  IsNext = do
    one_sign (mark punctuation.Comma)
    inner scope

  -- the rest of a list with items after its opening bracket: the items, separated by commas
  abbrev pub AreSome : List GrammarToken → Node → Type 0
  AreSome = do
    first ← inner scope
    items ← further false (first ∷ []) IsNext
    one_sign (mark punctuation.CloseList)
    gives (node.List items)

  -- a list: no items, or items separated by commas
  abbrev pub IsList : List GrammarToken → Node → Type 0
  IsList = do
    one_sign (mark punctuation.OpenList)
    AreNone or AreSome

  -- the arguments of a call, as many as it takes, and the closing parenthesis
  abbrev pub IsUnary : UnaryCall → List GrammarToken → Node → Type 0
  IsUnary c = do
    a ← inner scope
    one_sign (mark punctuation.Close)
    gives (node.Unary c a)

  abbrev pub IsBinary : BinaryCall → List GrammarToken → Node → Type 0
  IsBinary c = do
    a ← inner scope
    b ← IsNext
    one_sign (mark punctuation.Close)
    gives (node.Binary c a b)

  abbrev pub IsPut : List GrammarToken → Node → Type 0
  IsPut = do
    t ← inner scope
    k ← IsNext
    v ← IsNext
    one_sign (mark punctuation.Close)
    gives (node.Put t k v)

  abbrev pub AreArguments : Call → List GrammarToken → Node → Type 0
  AreArguments (call.Unary c) = IsUnary c
  AreArguments (call.Binary c) = IsBinary c
  AreArguments call.Put = IsPut

  abbrev pub IsCall : List GrammarToken → Node → Type 0
  IsCall = do
    c ← one call_in
    one_sign (mark punctuation.Open)
    AreArguments c

  -- the name of a `let` is in scope in its body, but not in its definition
  abbrev pub IsLet : List GrammarToken → Node → Type 0
  IsLet = do
    one_sign (word (codes "let"))
    x ← one new_name
    one_sign (mark punctuation.Equal)
    e ← inner scope
    one_sign (word (codes "in"))
    f ← inner (scope ++ x ∷ [])
    gives (node.Let e f)

  abbrev pub IsIf : List GrammarToken → Node → Type 0
  IsIf = do
    one_sign (word (codes "if"))
    c ← inner scope
    one_sign (word (codes "then"))
    e ← inner scope
    one_sign (word (codes "else"))
    f ← inner scope
    gives (node.If c e f)

  -- `listed` are the distinct occurrences
  module _ (listed : List Occ) where
    abbrev pub IsAtom : List GrammarToken → Node → Type 0
    IsAtom = IsParenthesized or IsList or IsTable or IsCall or one (operand_of listed scope)

    -- an expression: a `let`, an `if` or a chain
    abbrev pub IsWhole : List GrammarToken → Node → Type 0
    IsWhole = IsLet or IsIf or IsRanked IsAtom precedences

-- With the names `scope` in scope, the tokens `ts` are an expression of at most `levels` levels, and e is its tree. An occurrence
-- in the tree is its index in `listed`.
unfoldable pub IsExprIn : List Occ → ℕ → Names → List GrammarToken → Node → Type 0
IsExprIn listed zero scope ts e = ⊥
IsExprIn listed (suc levels) scope ts e = IsWhole (IsExprIn listed levels) scope listed ts e

-- the same with no name in scope
abbrev pub IsExpr : List Occ → ℕ → List GrammarToken → Node → Type 0
IsExpr listed levels = IsExprIn listed levels []
