-- Faults are justified where a parser stops.
use Rattle.llparse.proofs.Common
use Common.{◌≡◌, ℕ, ◌≤◌, Bool, List, ◌∷◌, length, reverse, slice_get, Some, refl, arith, length-reverse, Class, IsAccepted}
use Common.{Grammar, literal_text, max_depth, Token, task_of, IsRefused, offset_at, words_of, IsStuckAt, IsAtSymbol, IsAtItem}
use Common.{IsFull, ParseFault, OpenProduction, Parser}
use Common.item
use Common.fault
use Rattle.llparse.proofs.steps.Leaves as leaves
use Rattle.llparse.proofs.steps.Starts as starts

module _ (g : Grammar) (tokens : List Token) (honest : Bool) (prefix : List ℕ) where
  -- the fault of a limit that is reached is justified when a node of a symbol is to be opened
  pub full_node : IsAccepted g → (node : OpenProduction) (p : Parser) (s : ℕ) (bytes : List ℕ) (e : ParseFault) → IsFull p e
      → IsAtSymbol (task_of g tokens honest prefix) s node p bytes
      → IsRefused (task_of g tokens honest prefix) (offset_at tokens) e
  full_node accepted node p s bytes (fault.Unexpected at) full a = absurd full
  full_node accepted node p s bytes fault.TooDeep full a =
      let deep : max_depth ≤ length (node ∷ reverse p.waiting.items) = omega (arith, length-reverse p.waiting.items) in
      starts.deep_node (task_of g tokens honest prefix) accepted a deep
  full_node accepted node p s bytes fault.TooManyNodes full a =
      starts.large_node (task_of g tokens honest prefix) accepted a full
  full_node accepted node p s bytes fault.Device full a = absurd full
  full_node accepted node p s bytes fault.NoMemory full a = absurd full

  -- the same when a leaf is to be taken
  pub full_leaf : IsAccepted g → (node : OpenProduction) (p : Parser) (c : ℕ) (bytes : List ℕ) (e : ParseFault) → IsFull p e
      → IsAtItem (task_of g tokens honest prefix) (item.Terminal (Class c)) node p bytes
      → IsRefused (task_of g tokens honest prefix) (offset_at tokens) e
  full_leaf accepted node p c bytes (fault.Unexpected at) full b = absurd full
  full_leaf accepted node p c bytes fault.TooDeep full b =
      let deep : max_depth ≤ length (node ∷ reverse p.waiting.items) = omega (arith, length-reverse p.waiting.items) in
      leaves.deep_leaf (task_of g tokens honest prefix) accepted b deep
  full_leaf accepted node p c bytes fault.TooManyNodes full b =
      leaves.large_leaf (task_of g tokens honest prefix) accepted b full
  full_leaf accepted node p c bytes fault.Device full b = absurd full
  full_leaf accepted node p c bytes fault.NoMemory full b = absurd full

  -- P1 is justified where the sentence can't continue
  pub stuck : (i : ℕ) (e : ParseFault) → e ≡ fault.Unexpected (offset_at tokens i) → IsStuckAt g (words_of tokens) i
      → IsRefused (task_of g tokens honest prefix) (offset_at tokens) e
  stuck i e is s = rw is (i, s, refl)

-- the text of a literal in the list of literals is its `literal_text`
pub text_is : (g : Grammar) (l : ℕ) (x : List ℕ) → slice_get g.literals l ≡ Some x → x ≡ literal_text g l
text_is g l x e = rw (e, literal_text) refl
