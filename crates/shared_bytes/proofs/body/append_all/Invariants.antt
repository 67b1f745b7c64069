use Rattle.std.proofs.Common.{◌≡◌, ◌+◌, ◌++◌, ℕ, length, drop}
use Rattle.ag_value.specs.Spelling.{Extends}
use Rattle.shared_bytes.specs.Spliced.{AreSplices, spliced}
use Rattle.shared_bytes.proofs.body.append_all.Given as goal

abbrev pub invariant-loop-splice : goal.invariant-loop-splice
invariant-loop-splice l = record {
  same : l.out.items ++ spliced (l.base + l.from) (drop l.from l.own) (drop l.splice-index l.splices) ≡ l.fn.out.items
      ++ spliced l.base l.own l.splices;
  extends : Extends l.fn.out.items l.out.items;
  splices : (at : ℕ) × (total : ℕ)
      × AreSplices (l.base + l.from) at (l.base + length l.own) total (drop l.splice-index l.splices);
}
