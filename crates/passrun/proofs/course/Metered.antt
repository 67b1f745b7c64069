-- A pass whose root is done evaluated at most 2^36 rules, for any devices.
use Rattle.passrun.proofs.Common
use Common.{◌+◌, ◌^◌, ◌≤◌, None, Result, Ok, Err, length, ap, arith, OnOk, Setting, pass_direction, IsSound}
use Common.{Passed, Machine, RunFault, Runs, World}
use Rattle.passrun.proofs.course.Counted.{rules_bound}
use Rattle.passrun.proofs.course.Finish.{count_of}

pub meter_few : {c : Setting} → IsSound c
    → {w : World} {m : Machine} → Runs c w m None → (m.begun ≤ w.meter) × (w.meter ≤ m.begun + 2 ^ 36)
meter_few {c} sound r =
    let h = r.invariant in (
      r.begun,
      omega (
        arith,
        ap length h.ready.read,
        count_of (pass_direction c) c.grammar c.passes c.read h.tree h.valuation,
        rules_bound sound h.tree,
        h.counted,
        r.few,
        r.begun,
      ),
    )

pub on_ok : (P : Type 0) (r : Result Passed RunFault) → P → OnOk r P
on_ok P (Ok p) h = h
on_ok P (Err f) h = tt
