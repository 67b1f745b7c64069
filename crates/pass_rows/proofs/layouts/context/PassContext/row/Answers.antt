use Rattle.pass_rows.proofs.Common.{setting}
use Rattle.pass_rows.proofs.places.Entries.{row_found, row_less}
use Rattle.pass_rows.proofs.layouts.context.PassContext.row.Goals as goal

pub bounds-self-production : goal.bounds-self-production
bounds-self-production c =
    row_less (setting c.args.self.now) c.args.self.now.rows.now c.args.production c.requires.context.layout c.requires.there

pub returns : goal.returns
returns c = row_found (setting c.args.self.now) c.args.self.now.rows.now c.args.production _ c.requires.context.layout
