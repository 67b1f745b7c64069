use Rattle.std.proofs.Common.{length}
use Rattle.std.proofs.lemmas.Bool.{leb-true}
use Rattle.std.proofs.lemmas.Str.{is_utf8-from_IsUtf8}
use Rattle.ag_carried.proofs.Texts.{well_short_text}
use Rattle.ag_carried.proofs.shared_text.is_flat.Goals as goal

-- a text of at most 256 bytes is well
pub returns-clause-well : goal.returns-clause-well
returns-clause-well c short = well_short_text c.args.text.now (is_utf8-from_IsUtf8 c.args.text.now c.utf8.text)
    (leb-true (length c.args.text.now) 256 short)
