-- The marks are those of the reached symbols.
use Rattle.normalform.proofs.Common
use Common.{◌<◌, [], ◌∷◌, All, ap, ◌∙◌, subst, sym, length, map, Clauses, clause_of_edge, naming_checks}
use Rattle.normalform.proofs.Listing.{none_wrong}
use Rattle.normalform.proofs.found.Founds.{edges_bounded, start_bounded}
use Rattle.normalform.proofs.found.Marks.{as_many, marks_reached, ok_map}
use Rattle.normalform.proofs.faults.structure.reached_marks.Goals as goal

pub of_edges-requires : goal.of_edges-requires
of_edges-requires c =
    let raw = c.args.raw.now in
    rw (as_many raw.symbols _ (ap length c.as_slice.ensures), c.requires.edges)
    (edges_bounded raw (none_wrong (naming_checks raw) c.requires.names))

pub closure-requires : goal.closure-requires
closure-requires c =
    let raw = c.args.raw.now in
    let count = ap (λ (k : Clauses). k.count) c.in_ok-clauses.ensures ∙ as_many raw.symbols _ (ap length c.as_slice.ensures) in
    subst (λ n. All (λ t. t < c.in_ok-clauses.clauses.count) (n ∷ [])) (sym c.requires.start)
    (rw count (start_bounded raw (none_wrong (naming_checks raw) c.requires.names)))

pub returns : goal.returns
returns c =
    let here = ap (λ (k : Clauses). k.clauses) c.in_ok-clauses.ensures ∙ ap (map clause_of_edge) c.requires.edges in
    ok_map _ _ (λ marks. marks_reached c.args.raw.now _ _ marks.items here (ap (λ n. n ∷ []) c.requires.start))
    c.closure.result c.closure.ensures.marks
