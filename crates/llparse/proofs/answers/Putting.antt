-- The records that a parser appends to the device.
use Rattle.llparse.proofs.Common
use Common.{ℕ, List, [], ◌∷◌, Ok, Err, arith, All-cons, All-nil, Text, IsWell, AddsFrames, token_body, version_two, added}
use Common.{none_added, is_body, ParseFault}
use Rattle.treefile.specs.framing.Ending.{IsBody}
use Rattle.treefile.specs.declared.body.Kind.TheVariants.{Token}

pub of_leaf : (c : ℕ) (x : List ℕ) → IsWell (Text x) → IsBody version_two (token_body c x)
of_leaf c x well = is_body version_two Token c (Text x ∷ []) (omega arith) (All-cons IsWell (Text x) [] well (All-nil IsWell))

-- frames were appended, and then a step failed without appending anything
pub stopped : (old new : List ℕ) (fault : ParseFault) → AddsFrames {E = ParseFault} old new (Ok tt)
    → AddsFrames old new (Err fault)
stopped old new fault put = added ParseFault old new new (Err fault) put (none_added ParseFault new (Err fault))
