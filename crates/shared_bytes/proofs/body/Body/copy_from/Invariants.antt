use Rattle.std.proofs.Common.{◌≡◌, ◌+◌, length, drop}
use Rattle.shared_bytes.specs.Reads.{HasRead}
use Rattle.shared_bytes.specs.Spliced.{AreSplices, spliced}
use Rattle.shared_bytes.proofs.body.Body.copy_from.Given as goal

abbrev pub invariant-loop-splice : goal.invariant-loop-splice
invariant-loop-splice l = record {
  read : HasRead l.place l.offset l.done (spliced l.base l.own l.splices) l.out;
  rest : drop l.place (spliced l.base l.own l.splices) ≡ spliced (l.base + l.from) (drop l.from l.own)
      (drop l.splice-index l.splices);
  splices : AreSplices (l.base + l.from) (l.at + l.place) (l.base + length l.own) (l.at + length (spliced l.base l.own l.splices))
      (drop l.splice-index l.splices);
}
