use Rattle.std.proofs.Common.{sym, subst}
use Rattle.ag_fault.specs.declared.fault.Fault.{Fault}
use Rattle.treefile.specs.devices.Files.{content_of}
use Rattle.tree_commands.specs.TreeFiles.{IsUnconverted}
use Rattle.tree_commands.proofs.OldTrees.{all_converted, none_printed, unconverted}
use Rattle.tree_commands.proofs.tree_files.convert_with.Goals as goal

pub returns-in-Ok-clause-converted : goal.returns-in-Ok-clause-converted
returns-in-Ok-clause-converted g c =
    let made = c.write_converted-converted in
    all_converted c.args.translator.now c.args.paths.now c.args.session.now c.open_tree.new.self made.new.session
    c.close_old_tree.new.self c.print_nodes.new.session made.new.old.events (content_of c.in_ok-old.old) made.new.old.buffered
    c.in-Ok.count c.in_ok-old.ensures.opened c.in-Ok.ensures.opened c.close_old_tree.ensures c.in-Ok.ensures.upgrades
    made.ensures.content c.print_nodes.result c.print_nodes.ensures.printed

pub returns-in-Ok-clause-refused : goal.returns-in-Ok-clause-refused
returns-in-Ok-clause-refused g c =
    let made = c.write_converted-converted in
    none_printed c.args.translator.now c.args.paths.now c.args.session.now c.open_tree.new.self made.new.session
    c.close_old_tree.new.self c.print_nodes.new.session made.new.old.events (content_of c.in_ok-old.old) made.new.old.buffered
    c.in-Ok.count c.in_ok-old.ensures.opened c.in-Ok.ensures.opened c.close_old_tree.ensures c.in-Ok.ensures.upgrades
    made.ensures.content c.print_nodes.result c.print_nodes.ensures.refused

pub returns-in-Err-clause-refused : goal.returns-in-Err-clause-refused
returns-in-Err-clause-refused g c =
    let made = c.write_converted-converted in
    let told = c.of_old_tree-report in
    let refused =
    unconverted c.args.translator.now c.args.paths.now c.args.session.now c.open_tree.new.self made.new.session
    c.close_old_tree-in-Err.new.self told.new.old.events made.new.old.events (content_of c.in_ok-old.old)
    (content_of made.new.old) told.new.old.buffered c.in-Err.fault c.in_ok-old.ensures.opened c.close_old_tree-in-Err.ensures
    c.in-Err.ensures.refused made.ensures.content told.ensures.persists.honest told.ensures.content in
    subst (λ (e : Fault). IsUnconverted c.args.translator.now c.args.paths.now c.args.session.now.events
    c.close_old_tree-in-Err.new.self e) (sym told.ensures.fault) refused
