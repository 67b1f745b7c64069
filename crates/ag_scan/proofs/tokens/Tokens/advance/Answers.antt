use Rattle.std.proofs.Common.{◌≤◌, length, IsUtf8, refl, subst, arith}
use Rattle.ag_tokens.proofs.Lexed.{width-chars}
use Rattle.ag_scan.specs.TokenReader.{TokenReader}
use Rattle.ag_scan.proofs.Supplying.{goes_on, none_next, none_there, counted}
use Rattle.ag_scan.proofs.tokens.Tokens.advance.Goals as goal

pub next_word-at-requires-clause-within : goal.next_word-at-requires-clause-within
next_word-at-requires-clause-within c =
    let at = rw c.in-Some.is at c.self.invariant in
    let utf8 = subst IsUtf8 c.as_bytes-utf8.ensures.value c.as_bytes-utf8.ensures.utf8 in
    omega (arith, width-chars c.in-Some.next.rest.now utf8, at.left.2)

pub overflow_add-self : goal.overflow_add-self
overflow_add-self c =
    let few = counted c.self.invariant in
    omega (arith, few.0, few.1)

pub invariant_of-self : goal.invariant_of-self
invariant_of-self c =
    let at = rw c.in-Some.is at c.self.invariant in
    let utf8 = subst IsUtf8 c.as_bytes-utf8.ensures.value c.as_bytes-utf8.ensures.utf8 in
    let seen = c.next_word-at in
    goes_on c.in-Some.next.rest.now at refl utf8 seen.ensures.next (λ none. seen.ensures.end (none_there seen.result.0 none))

pub returns-in_default : goal.returns-in_default
returns-in_default c =
    let at = rw c.in_default.is at c.self.invariant in
    let past = (none_next at).1 in
    let short : length c.args.self.now.list ≤ c.args.self.now.taken =
    subst (λ (h : TokenReader). length h.list ≤ h.taken) c.self.view_is past in
    absurd (omega (arith, c.requires))
