use Rattle.treefile.proofs.records.Frames.{frame_is_read, read_is_frame, damaged_exact}
use Rattle.treefile.proofs.laws.frames_are_read.Goals as goal

pub returns-clause-read : goal.returns-clause-read
returns-clause-read c = frame_is_read

pub returns-clause-occurs : goal.returns-clause-occurs
returns-clause-occurs c = read_is_frame

pub returns-clause-damaged : goal.returns-clause-damaged
returns-clause-damaged c = damaged_exact
