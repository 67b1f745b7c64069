use Rattle.treefile.proofs.Common.{flat_map, frame}
use Rattle.treefile.proofs.framing.Backward.{back_is_file, pass_of_file, read_back}
use Rattle.treefile.proofs.framing.Files.{begins}
use Rattle.treefile.proofs.laws.files_are_read_back.Goals as goal

pub returns-clause-begins : goal.returns-clause-begins
returns-clause-begins c version pass bodies usable small =
    (begins version pass (flat_map frame bodies) usable, pass_of_file version pass (flat_map frame bodies) usable small)

pub returns-clause-bodies : goal.returns-clause-bodies
returns-clause-bodies c version pass bodies usable all = read_back version pass usable bodies all

pub returns-clause-only : goal.returns-clause-only
returns-clause-only c version content bodies usable bytes exact back = back_is_file version content bytes bodies usable exact back
