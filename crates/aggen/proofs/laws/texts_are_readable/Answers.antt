-- The remaining goal of `texts_are_readable`.
use Rattle.aggen.proofs.FromTexts as from_texts
use Rattle.aggen.proofs.laws.texts_are_readable.Goals as goal

pub returns : goal.returns
returns c = from_texts.texts_are_readable
