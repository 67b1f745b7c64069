use Rattle.ag_scan.proofs.Supplying.{begins, none_there}
use Rattle.ag_scan.proofs.tokens.Tokens.new.Goals as goal

pub invariant_of-result : goal.invariant_of-result
invariant_of-result c =
    let seen = c.next_word-at in
    begins c.requires seen.ensures.next (λ none. seen.ensures.end (none_there seen.result.0 none))
