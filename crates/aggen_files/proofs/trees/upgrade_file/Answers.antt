use Rattle.std.proofs.lemmas.Result.{err_from_is_err_and}
use Rattle.treefile.specs.devices.Files.{content_of, is_honest_of}
use Rattle.aggen_files.proofs.Refusals.{conversion_left}
use Rattle.aggen_files.proofs.trees.upgrade_file.Goals as goal

-- the file could not be written out
pub returns-in_err-finish-clause-left : goal.returns-in_err-finish-clause-left
returns-in_err-finish-clause-left g c =
    let p = err_from_is_err_and c.from_residual.result c.from_residual.ensures.1 in
    let made = c.upgrade-converted in
    let done = c.finish in
    rw p.1
    (conversion_left c.args.translator.now (is_honest_of made.new.old) (is_honest_of made.new.to) (is_honest_of done.new.self)
    (content_of c.args.old.now) made.new.mid (content_of c.args.tree.now) (content_of made.new.to) (content_of done.new.self)
    made.result made.ensures.left made.ensures.upgraded done.ensures.persists.honest done.ensures.content)
