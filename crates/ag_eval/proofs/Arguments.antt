-- Arguments none of which is an error; the value of an operator if an argument is an error.
use Rattle.ag_eval.proofs.Common
use Common.{◌≡◌, ℤ, [], ◌∷◌, Option, Some, None, ap, refl, sym, ◌∙◌, ErrorCode, Value, outs-Fault, outs-Num, Operator, fault_or}
use Common.{operation_result, operator_result}
use Common.value
use Rattle.ag_value.specs.operations.Arguments.{fault_at, fault_of, first_fault, leftmost}

parts : (f g : Option ErrorCode) → first_fault f g ≡ None → (f ≡ None) × (g ≡ None)
parts None g h = (refl, h)
parts (Some code) g h = let bad : ⊥ = cc in absurd bad

pub second_sound : (a b : Value) → leftmost (a ∷ b ∷ []) ≡ None → fault_of b ≡ None
unfolding leftmost
second_sound a b h = (parts (fault_of b) None (parts (fault_of a) (first_fault (fault_of b) None) h).1).0

pub third_sound : (a b c : Value) → leftmost (a ∷ b ∷ c ∷ []) ≡ None → fault_of c ≡ None
unfolding leftmost
third_sound a b c h =
    (parts (fault_of c) None
    (parts (fault_of b) (first_fault (fault_of c) None)
    (parts (fault_of a) (first_fault (fault_of b) (first_fault (fault_of c) None)) h).1).1).0

pub ruleset no_faults = (second_sound, third_sound)

fault_is : (code : ErrorCode) → fault_of (value.Fault code) ≡ Some code
fault_is code = ap fault_at (outs-Fault code)

number_is_none : (n : ℤ) → fault_of (value.Num n) ≡ None
number_is_none n = ap fault_at (outs-Num n)

-- the value of an operator is its left argument if that is an error
pub left_is_fault : (o : Operator) (left right : Value) (code : ErrorCode) → left ≡ value.Fault code
    → value.Fault code ≡ operation_result o left right
unfolding leftmost
left_is_fault o left right code h =
    let f : fault_of left ≡ Some code = ap fault_of h ∙ fault_is code in
    sym
    (ap (λ (x : Option ErrorCode).
    fault_or (first_fault x (first_fault (fault_of right) None)) (operator_result o left right)) f)

-- the value of an operator for a number and an error is that error
pub right_is_fault : (o : Operator) (n : ℤ) (right : Value) (code : ErrorCode) → right ≡ value.Fault code
    → value.Fault code ≡ operation_result o (value.Num n) right
unfolding leftmost
right_is_fault o n right code h =
    let f : fault_of right ≡ Some code = ap fault_of h ∙ fault_is code in
    sym
    (ap (λ (x : Option ErrorCode).
    fault_or (first_fault x (first_fault (fault_of right) None)) (operator_result o (value.Num n) right)) (number_is_none n)
    ∙ ap (λ (x : Option ErrorCode). fault_or (first_fault x None) (operator_result o (value.Num n) right)) f)
