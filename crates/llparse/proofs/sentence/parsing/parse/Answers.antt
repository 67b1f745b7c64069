use Rattle.llparse.proofs.Common
use Common.{◌≡◌, ℕ, List, Bool, Result, Ok, Err, IfErr, AddsFrames, BeginsFile, WhenHonest, header, version_two, frames_begin}
use Common.{words_of, ParseFault}
use Rattle.llparse.proofs.answers.Answered.{file_of, none_of}
use Rattle.llparse.proofs.steps.Steps.{one_parse}
use Rattle.llparse.proofs.sentence.parsing.parse.Goals as goal

-- the bytes after the header after a fault
left_of : (honest : Bool) (old new : List ℕ) (r : Result ℕ ParseFault) → WhenHonest honest (old ≡ header version_two 0)
    → IfErr r (λ fault. WhenHonest honest (AddsFrames old new (Err fault)))
    → IfErr r (λ fault. WhenHonest honest (BeginsFile 0 new))
left_of honest old new (Ok count) begun adds = tt
left_of honest old new (Err fault) begun adds = λ h. frames_begin ParseFault 0 old new (Err fault) (begun h) (adds h)

pub returns-clause-one : goal.returns-clause-one
returns-clause-one g c = one_parse c.args.grammar.now c.args.tables.now c.requires.tables (words_of c.args.sentence.now)

pub returns-clause-file : goal.returns-clause-file
returns-clause-file g c =
    file_of c.args.grammar.now c.args.sentence.now (g.D.Device.is_honest c.run.new.device) (g.D.Device.content c.args.device.now)
    (g.D.Device.content c.run.new.device) c.run.result c.run.ensures.parsed
    (λ h. c.requires.header (c.run.ensures.device.persists.honest h))

pub returns-clause-none : goal.returns-clause-none
returns-clause-none g c =
    none_of c.args.grammar.now c.args.sentence.now (g.D.Device.is_honest c.run.new.device) (g.D.Device.content c.args.device.now)
    (g.D.Device.content c.run.new.device) c.run.result c.run.ensures.refused

pub returns-clause-left : goal.returns-clause-left
returns-clause-left g c =
    left_of (g.D.Device.is_honest c.run.new.device) (g.D.Device.content c.args.device.now)
    (g.D.Device.content c.run.new.device) c.run.result
    (λ h. c.requires.header (c.run.ensures.device.persists.honest h)) c.run.ensures.left
