-- The number of children of a body's node, by the kind and the number of the body. This project's.
use Rattle.std.specs.Prelude.{◌≡◌, ℕ, zero, suc, List, [], ◌∷◌, Option, Some, None, option_and_then, refl}
use Rattle.std.specs.Int.{w16, from_be_bytes}
use Rattle.treefile.specs.declared.body.Kind.{Kind}
use Rattle.treefile.specs.declared.body.Kind.TheVariants.{Node, Token}

-- the kind of a body with this first byte
abbrev pub kind_of : ℕ → Option Kind
kind_of zero = Some Node
kind_of (suc zero) = Some Token
kind_of (suc (suc byte)) = None

-- The arity of a body: the number of children of a node whose record has the body's kind and number. None if no
-- node has them, or if the bytes do not begin with a kind and a number.
abbrev pub arity_of : (Kind → ℕ → Option ℕ) → List ℕ → Option ℕ
arity_of children [] = None
arity_of children (byte ∷ []) = None
arity_of children (byte ∷ high ∷ []) = None
arity_of children (byte ∷ high ∷ low ∷ spellings) =
    option_and_then (λ kind. children kind (from_be_bytes w16 (high ∷ low ∷ []))) (kind_of byte)

-- ---- worked examples

-- a node of production 258, if the number of each node is its number of children
pub arity_of_node : arity_of (λ kind number. Some number) (0 ∷ 1 ∷ 2 ∷ 9 ∷ []) ≡ Some 258
arity_of_node = refl

-- 2 is the first byte of no kind
pub arity_of_two : arity_of (λ kind number. Some number) (2 ∷ 1 ∷ 2 ∷ []) ≡ None
arity_of_two = refl
