-- The clause is added to the row of the number, and the other rows are kept.
use Rattle.std.proofs.lemmas.List.{length-map}
use Rattle.closure.specs.Waiting.{rows}
use Rattle.closure.proofs.Noted.{notes_at, noted_at, rows_set}
use Rattle.closure.proofs.waiting.add_use.Goals as goal

pub returns-clause-adds : goal.returns-clause-adds
returns-clause-adds c =
    rw (rows_set c.args.uses.now.items c.args.number c.args.clause c.index_mut.result.now c.push.new.self c.requires
    c.index_mut.ensures.value c.in_ok-push.ensures.items)
    (notes_at c.args.clause c.args.number (rows c.args.uses.now.items) (rw length-map c.requires))

pub returns-clause-listed : goal.returns-clause-listed
returns-clause-listed c =
    rw (rows_set c.args.uses.now.items c.args.number c.args.clause c.index_mut.result.now c.push.new.self c.requires
    c.index_mut.ensures.value c.in_ok-push.ensures.items)
    (noted_at c.args.clause c.args.number (rows c.args.uses.now.items) (rw length-map c.requires))
