use Rattle.treefile.proofs.records.Texts.{texts_are_given}
use Rattle.llparse.proofs.laws.texts_are_given.Goals as goal

pub returns : goal.returns
returns c = texts_are_given
