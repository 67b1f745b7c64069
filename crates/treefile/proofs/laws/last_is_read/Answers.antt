use Rattle.treefile.proofs.framing.Files.{damaged_at_end, file_grows, last_of_file, none_of_header}
use Rattle.treefile.proofs.laws.last_is_read.Goals as goal

pub returns-clause-grows : goal.returns-clause-grows
returns-clause-grows c = file_grows

pub returns-clause-last : goal.returns-clause-last
returns-clause-last c = last_of_file

pub returns-clause-none : goal.returns-clause-none
returns-clause-none c = none_of_header

pub returns-clause-damaged : goal.returns-clause-damaged
returns-clause-damaged c = damaged_at_end
