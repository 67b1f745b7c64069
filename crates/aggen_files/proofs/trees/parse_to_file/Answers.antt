use Rattle.std.proofs.Common.{◌∙◌}
use Rattle.treefile.specs.devices.Files.{content_of, is_honest_of}
use Rattle.aggen_files.specs.Stored.{stored_of}
use Rattle.aggen_files.proofs.Parsed.{parsed}
use Rattle.aggen_files.proofs.Stored.{nothing_buffered}
use Rattle.aggen_files.proofs.trees.parse_to_file.Goals as goal

pub returns-clause-parses : goal.returns-clause-parses
returns-clause-parses g c =
    let made = c.parse_tree-parsed in
    let done = c.finish in
    parsed c.args.translator.now c.args.sentence.now (is_honest_of made.new.device) (is_honest_of done.new.self)
    (content_of made.new.device) (stored_of done.new.self) made.result done.ensures.persists.honest
    (λ h. nothing_buffered _ _ c.in_ok-finish.ensures.buffered ∙ done.ensures.content h)
    made.ensures.tree made.ensures.one made.ensures.limits made.ensures.count made.ensures.file
