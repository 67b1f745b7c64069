-- The contents of files after a failure.
use Rattle.std.proofs.Common.{◌≡◌, inl, inr, List, ℕ, Bool, true, Result, Ok, Err, refl, sym, subst}
use Rattle.std.specs.Result.{IfOk, OnErr}
use Rattle.ag_grammar.specs.grammars.AttributeGrammar.{Grammar}
use Rattle.tree_upgrade.specs.upgrading.Upgrading.{IsUpgraded}
use Rattle.treefile.specs.devices.Device.{LeavesContent, WhenHonest}
use Rattle.treefile.specs.framing.Beginning.{LeavesBeginning}
use Rattle.ag_fault.specs.declared.fault.Fault.{Fault}
use Rattle.aggen_files.specs.Trees.{LeavesConversion}

-- what a conversion left on the new device is still there after `finish`, whether `finish` succeeded or failed
pub conversion_left : (g : Grammar) (ho hm hn : Bool) (content between previous made new : List ℕ) (r : Result ℕ Fault)
    → OnErr r (WhenHonest hm (LeavesBeginning 0 previous made))
    → IfOk r (λ count. WhenHonest ho (WhenHonest true (IsUpgraded g content between hm made count)))
    → (hn ≡ true → hm ≡ true) → LeavesContent hn made new
    → WhenHonest hn (LeavesConversion g ho content previous new)
conversion_left g ho hm hn content between previous made new (Ok count) left upgraded honest kept = λ h.
    subst (LeavesConversion g ho content previous) (sym (kept h))
    (inr (count, λ x. (between, subst (λ (z : Bool). IsUpgraded g content between z made count) (honest h) (upgraded x refl))))
conversion_left g ho hm hn content between previous made new (Err e) left upgraded honest kept = λ h.
    subst (LeavesConversion g ho content previous) (sym (kept h)) (inl (left (honest h)))
