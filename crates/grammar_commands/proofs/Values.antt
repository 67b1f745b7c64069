-- The fault of showing a value on an honest device, with the line in memory.
use native.Mathlib.Omega.{arith}
use Rattle.std.proofs.Common.{◌≡◌, ℕ, List, inl, inr, lt_irrefl, refl}
use Rattle.ag_fault.specs.Faults.{fault_in_memory}
use Rattle.ag_fault.specs.declared.fault.Fault.{Fault}
use Rattle.ag_fault.specs.declared.fault.Fault.TheVariants as fault
use Rattle.aggen.specs.Showing.{HasNoValue, IsDamage, IsExplained, IsExprFault, IsShowFault}
use Rattle.grammar_commands.specs.Listings.{IsValueFault}
use Rattle.treefile.specs.devices.Device.{HasRisen}

-- a device that counts no failure has not failed
pub none_risen : HasRisen 0 0 → ⊥
none_risen (inl less) = lt_irrefl 0 less
none_risen (inr most) = omega (arith, most)

pub value_fault : (text : List ℕ) (e : Fault) → IsShowFault e → (IsDamage e → ⊥) → IsExplained text e
    → (e ≡ fault.Device → ⊥) → (IsExprFault e → HasNoValue text) → IsValueFault text (fault_in_memory e)
value_fault text (fault.Expr f) kind damage is device none = (is, none tt)
value_fault text fault.NotATreeFile kind damage is device none = absurd (damage tt)
value_fault text (fault.Damaged at) kind damage is device none = absurd (damage tt)
value_fault text fault.Write kind damage is device none = tt
value_fault text fault.Device kind damage is device none = absurd (device refl)
value_fault text fault.NoMemory kind damage is device none = tt
value_fault text fault.Usage kind damage is device none = absurd kind
value_fault text fault.File kind damage is device none = absurd kind
value_fault text (fault.Text f) kind damage is device none = absurd kind
value_fault text (fault.Normal f) kind damage is device none = absurd kind
value_fault text (fault.Table f) kind damage is device none = absurd kind
value_fault text (fault.Assign s) kind damage is device none = absurd kind
value_fault text (fault.Scan f) kind damage is device none = absurd kind
value_fault text (fault.Parse f) kind damage is device none = absurd kind
value_fault text (fault.Run f) kind damage is device none = absurd kind
value_fault text (fault.Job f) kind damage is device none = absurd kind
value_fault text (fault.NoText v) kind damage is device none = absurd kind
