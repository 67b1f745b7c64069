-- The record in the file of a value is the one that was written.
use Rattle.aggen.proofs.Common
use Common.{◌≡◌, ℕ, List, [], ◌∷◌, Ok, Err, ◌∙◌, arith, Value, IsWell, Token, ReadsAs, last_body_of}
use Common.{version_two_usable, body_of, version_two, is_body, frame_fault_of}
use Common.fault
use Rattle.std.specs.Prelude.{length}
use Rattle.std.proofs.lemmas.List.Elements.{All-cons, All-nil}
use Rattle.treefile.specs.declared.reading.FrameFault.{FrameFault}
use Rattle.treefile.specs.declared.reading.FrameFault.TheVariants.{Damaged, Device, NoMemory}
use Rattle.treefile.specs.framing.Ending.{IsBody}
use Rattle.treefile.proofs.framing.Files.{damaged_at_end, last_of_file}
use Rattle.aggen.specs.Showing.{IsResourceFault, file_of}

pub one_body : {value : Value} → IsWell value → IsBody version_two (body_of Token 0 (value ∷ []))
one_body {value} well = is_body version_two Token 0 (value ∷ []) (omega arith) (All-cons IsWell value [] well (All-nil IsWell))

pub last_of : {value : Value} {content : List ℕ} → IsWell value → content ≡ file_of value
    → last_body_of version_two content ≡ Ok (body_of Token 0 (value ∷ []))
last_of well is =
    let body = one_body well in
    rw is (last_of_file version_two 0 [] _ version_two_usable body.least body.greatest)

pub resource_exact : (content body : List ℕ) (e : FrameFault) → last_body_of version_two content ≡ Ok body
    → ReadsAs (λ (x : List ℕ). x) (Err e) (last_body_of version_two content) → IsResourceFault (frame_fault_of e)
resource_exact content body Device is exact = tt
resource_exact content body NoMemory is exact = tt
resource_exact content body e is exact = absurd cc

-- if reading the last body fails with B2, its offset is the end of the content
pub offset_exact : (content : List ℕ) (e : FrameFault) (at : ℕ)
    → ReadsAs (λ (x : List ℕ). x) (Err e) (last_body_of version_two content) → fault.Damaged at ≡ frame_fault_of e
    → at ≡ length content
offset_exact content (Damaged k) at exact is = damaged_at_end version_two content at (exact ∙ cc)
offset_exact content e at exact is = absurd cc
