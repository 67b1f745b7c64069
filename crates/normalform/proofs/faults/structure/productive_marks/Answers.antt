-- The marks are those of the productive symbols.
use Rattle.normalform.proofs.Common.{ap, ◌∙◌, length, Clauses, naming_checks}
use Rattle.normalform.proofs.Listing.{none_wrong}
use Rattle.normalform.proofs.found.Founds.{bounded}
use Rattle.normalform.proofs.found.Marks.{as_many, marks_productive, ok_map}
use Rattle.normalform.proofs.faults.structure.productive_marks.Goals as goal

pub new-requires : goal.new-requires
new-requires c =
    let raw = c.args.raw.now in
    rw (as_many raw.symbols _ (ap length c.as_slice.ensures), c.requires.clauses)
    (bounded raw (none_wrong (naming_checks raw) c.requires.names))

pub returns : goal.returns
returns c =
    let here = ap (λ (k : Clauses). k.clauses) c.in_ok-clauses.ensures ∙ c.requires.clauses in
    ok_map _ _ (λ marks. marks_productive c.args.raw.now _ marks.items here) c.closure.result c.closure.ensures.marks
