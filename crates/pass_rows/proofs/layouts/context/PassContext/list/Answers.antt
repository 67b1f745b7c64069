use Rattle.pass_rows.proofs.Common.{◌∙◌}
use Rattle.pass_rows.proofs.places.Entries.{some_at}
use Rattle.pass_rows.proofs.layouts.context.PassContext.list.Goals as goal

pub returns : goal.returns
returns c =
    let q = some_at c.args.self.now.setting.grammar.now.productions c.args.node.production c.requires.there in
    c.as_slice.ensures ∙ (c.requires.layout q.0 q.1).list
