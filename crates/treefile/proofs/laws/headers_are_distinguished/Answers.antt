use Rattle.treefile.proofs.framing.Files.{file_decided}
use Rattle.treefile.proofs.laws.headers_are_distinguished.Goals as goal

pub returns : goal.returns
returns c = file_decided
