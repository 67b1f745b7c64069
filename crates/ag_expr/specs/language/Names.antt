-- The reserved names, which cannot be bound; among them are the names of calls (this project's language).
use Rattle.std.specs.Prelude.{ℕ, Bool, ◌||◌, ◌+◌, List, [], ◌∷◌, Option, Some, None, cond, bytes_eq, codes, is_some}
use Rattle.ag_expr.specs.declared.names.Call.{Call}
use Rattle.ag_expr.specs.declared.names.Call.TheVariants as call
use Rattle.ag_grammar.specs.declared.syntax.node.UnaryCall.TheVariants as unary
use Rattle.ag_grammar.specs.declared.syntax.node.BinaryCall.TheVariants as binary

-- ---- the table of calls

-- the call of a name, by the number of its arguments
abbrev pub call_of : List ℕ → Option Call
call_of name =
    cond (bytes_eq name (codes "len")) (Some (call.Unary unary.Len))
    (cond (bytes_eq name (codes "text")) (Some (call.Unary unary.Text))
    (cond (bytes_eq name (codes "number")) (Some (call.Unary unary.Number))
    (cond (bytes_eq name (codes "keys")) (Some (call.Unary unary.Keys))
    (cond (bytes_eq name (codes "iserr")) (Some (call.Unary unary.IsError))
    (cond (bytes_eq name (codes "nth")) (Some (call.Binary binary.Nth))
    (cond (bytes_eq name (codes "append")) (Some (call.Binary binary.Append))
    (cond (bytes_eq name (codes "join")) (Some (call.Binary binary.Join))
    (cond (bytes_eq name (codes "get")) (Some (call.Binary binary.Get))
    (cond (bytes_eq name (codes "has")) (Some (call.Binary binary.Has))
    (cond (bytes_eq name (codes "orelse")) (Some (call.Binary binary.OrElse))
    (cond (bytes_eq name (codes "put")) (Some call.Put) None)))))))))))

-- ---- the names that can be bound

-- the keywords of `let` and `if`, and the operators `div` and `mod`
abbrev pub is_keyword : List ℕ → Bool
is_keyword name =
    bytes_eq name (codes "let")
    || (bytes_eq name (codes "in")
    || (bytes_eq name (codes "if")
    || (bytes_eq name (codes "then")
    || (bytes_eq name (codes "else") || (bytes_eq name (codes "div") || bytes_eq name (codes "mod"))))))

-- keywords and the names of calls are reserved
abbrev pub is_reserved : List ℕ → Bool
is_reserved name = is_keyword name || is_some (call_of name)

-- The names in scope, the outermost first.
abbrev pub Names : Type 0
Names = List (List ℕ)

-- the index of the last member that satisfies the test, or `found` if none does; the index of the first member is `at`
abbrev pub last_from : {A : Type 0} → (A → Bool) → ℕ → Option ℕ → List A → Option ℕ
last_from test at found [] = found
last_from test at found (y ∷ ys) = last_from test (at + 1) (cond (test y) (Some at) found) ys

-- the index of the innermost binding of a name: an inner binding hides an outer one
abbrev pub binding_in : Names → List ℕ → Option ℕ
binding_in scope name = last_from (λ y. bytes_eq y name) 0 None scope

-- all names but the innermost
abbrev pub without_innermost : Names → Names
without_innermost [] = []
without_innermost (x ∷ []) = []
without_innermost (x ∷ y ∷ ys) = x ∷ without_innermost (y ∷ ys)
