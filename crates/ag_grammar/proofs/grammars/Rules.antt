-- Lemmas about rules that hold.
use Rattle.ag_grammar.proofs.Common
use Common.{ℕ, ◌≡◌, Option, Some, None, slice_get, ap, ◌∙◌, sym, pos, Value, Num, Rule, Target, IsArgument, Holds, Supplies}

-- an environment that gives a rule's occurrences the values of the attributes that they refer to, and 0 to
-- other numbers
abbrev lent : (ℕ → ℕ → Value) → Option Target → Value
lent e None = Num (pos 0)
lent e (Some o) = e o.place o.attr

abbrev pub environment : Rule → (ℕ → ℕ → Value) → ℕ → Value
environment r e k = lent e (slice_get r.args k)

pub lends : (r : Rule) (e : ℕ → ℕ → Value) → Supplies r e (environment r e)
lends r e k o is = ap (lent e) is

-- an environment for one valuation is an environment for another one in which the arguments have the same
-- values
pub lends_same : (r : Rule) (e f : ℕ → ℕ → Value) (env : ℕ → Value)
    → ((o : Target) → IsArgument r o → e o.place o.attr ≡ f o.place o.attr) → Supplies r e env → Supplies r f env
lends_same r e f env same h k o is = h k o is ∙ same o (k, is)

-- two valuations in which a rule holds have the same value at its target, if they have the same values at its arguments
pub target_same : (r : Rule) (e f : ℕ → ℕ → Value) → Holds r e → Holds r f
    → ((o : Target) → IsArgument r o → e o.place o.attr ≡ f o.place o.attr)
    → e r.target.place r.target.attr ≡ f r.target.place r.target.attr
target_same r e f he hf same =
    he (environment r e) (lends r e) ∙ sym (hf (environment r e) (lends_same r e f (environment r e) same (lends r e)))

-- a rule still holds if its target and its arguments keep their values
pub holds_same : (r : Rule) (e f : ℕ → ℕ → Value) → e r.target.place r.target.attr ≡ f r.target.place r.target.attr
    → ((o : Target) → IsArgument r o → e o.place o.attr ≡ f o.place o.attr) → Holds r e → Holds r f
holds_same r e f t same h env is = sym t ∙ h env (lends_same r f e env (λ o a. sym (same o a)) is)
