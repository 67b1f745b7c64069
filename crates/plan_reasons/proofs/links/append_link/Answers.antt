use Rattle.plan_reasons.proofs.links.append_link.Goals as goal

pub returns : goal.returns
returns c = λ names. (c.in-Some.link, c.in-Some.ensures, c.in_ok-push.ensures.items)
