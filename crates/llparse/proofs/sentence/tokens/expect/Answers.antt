use Rattle.llparse.proofs.Common.{◌+◌, ◌∷◌, drop, sym, ap, ◌∙◌, false≢true, slice_get_within, token_of, words_of}
use Rattle.llparse.proofs.answers.Nexts.{next_is, none_is, other_next}
use Rattle.llparse.proofs.sentence.tokens.expect.Goals as goal

pub returns-in_default-clause-other : goal.returns-in_default-clause-other
returns-in_default-clause-other c = none_is c.args.tokens.now.list c.args.tokens.now.taken c.args.kind (sym c.in_default.ensures)

pub returns-then-not-same-clause-other : goal.returns-then-not-same-clause-other
returns-then-not-same-clause-other c =
    other_next c.args.tokens.now.list c.args.tokens.now.taken (token_of c.in-Some.token) c.args.kind (sym c.in-Some.ensures)
    (λ same. false≢true (sym c.if-not-same.true ∙ c.same.ensures.1 same))

pub returns-clause-taken : goal.returns-clause-taken
returns-clause-taken c =
    next_is c.args.tokens.now.list c.args.tokens.now.taken (token_of c.in-Some.token) (sym c.in-Some.ensures)
    ∙ ap (λ x. (x, c.in-Some.token.lex.now) ∷ drop (c.args.tokens.now.taken + 1) (words_of c.args.tokens.now.list))
    (c.same.ensures.0 c.if-not-same.false)

pub returns-clause-within : goal.returns-clause-within
returns-clause-within c =
    slice_get_within c.args.tokens.now.list c.args.tokens.now.taken (token_of c.in-Some.token) (sym c.in-Some.ensures)

pub returns-clause-fits : goal.returns-clause-fits
returns-clause-fits c =
    λ v all. rw (c.same.ensures.0 c.if-not-same.false) at
    (all c.args.tokens.now.taken (token_of c.in-Some.token) (sym c.in-Some.ensures))
