-- A prefix of some text was written, also an empty one.
use Rattle.aggen.proofs.Common
use Common.{◌≡◌, ℕ, List, [], Option, Some, None, refl, sym, append-nil, arith, Appends, AppendsBeginning, IsWellText}
use Rattle.std.proofs.lemmas.Str.{IsUtf8-nil, is_utf8-from_IsUtf8}
use Rattle.ag_value.proofs.operations.Wells.{well_text}
use Rattle.aggen.specs.Translation.{BeginsText, WritesText}

nothing : (known : Option (List ℕ)) → Appends known known []
nothing None = tt
nothing (Some bytes) = sym (append-nil bytes)

pub none : (known : Option (List ℕ)) → BeginsText known known
none known =
    record {
      text = [];
      well = well_text [] (is_utf8-from_IsUtf8 [] IsUtf8-nil) (omega arith);
      beginning = record { prefix = []; rest = []; cut = refl; put = nothing known };
    }

pub some : (old new : Option (List ℕ)) (text lent : List ℕ) → IsWellText text → lent ≡ text → AppendsBeginning old new lent
    → BeginsText old new
some old new text lent well same beginning =
    record { text = text; well = well; beginning = rw same at beginning }

pub whole : (old new : Option (List ℕ)) (text lent : List ℕ) → IsWellText text → lent ≡ text → Appends old new lent
    → WritesText old new
whole old new text lent well same written = record { text = text; well = well; output = rw same at written }

pub ruleset begun = (none, some, whole)
