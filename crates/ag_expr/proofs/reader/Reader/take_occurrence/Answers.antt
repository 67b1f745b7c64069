use Rattle.ag_expr.proofs.Common.{ap, ◌∙◌, listed_with}
use Rattle.ag_expr.proofs.language.States.{taken_keeps, taken_tokens}
use Rattle.ag_expr.proofs.reader.Reader.take_occurrence.Goals as goal

pub returns-clause-tokens : goal.returns-clause-tokens
returns-clause-tokens c =
    let lists =
    c.in_ok-number.ensures.lists ∙ ap
    (λ n. listed_with c.self.inside.occurrences (record { place = c.args.place; attr = c.args.attr.now; at = n }))
    c.offset-at.ensures in
    rw (c.bump.ensures, ← c.self.view_is) (taken_tokens _ _ _ _ (rw (← c.self.view_is) at c.requires) lists)

pub returns-clause-keeps : goal.returns-clause-keeps
returns-clause-keeps c =
    let lists =
    c.in_ok-number.ensures.lists ∙ ap
    (λ n. listed_with c.self.inside.occurrences (record { place = c.args.place; attr = c.args.attr.now; at = n }))
    c.offset-at.ensures in
    rw (c.bump.ensures, ← c.self.view_is) (taken_keeps _ _ _ _ (rw (← c.self.view_is) at c.requires) lists)
