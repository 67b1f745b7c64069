use Rattle.std.proofs.Common.{◌∙◌, ◌<◌, ap, sym, subst, chars}
use Rattle.ag_tokens.proofs.Lexes.{one_input, same_input}
use Rattle.ag_text.specs.Places.{IsNoted}
use Rattle.ag_text.specs.Reading.{grammar_of}
use Rattle.ag_text.specs.Resuming.{all_faults}
use Rattle.ag_text.proofs.Continued.{Found, begins, goes_on, ended, fewer, tokens_left}
use Rattle.ag_text.proofs.resuming.all_faults.Goals as goal

pub loop-next-init : goal.loop-next-init
loop-next-init c =
    let input = one_input (chars c.args.text.now) in
    begins c.args.text.now input.0 c.read_first.new.faults.items c.in_ok-next.next
    (subst (λ before. IsNoted c.args.text.now input.0 (grammar_of input.0) before c.read_first.new.faults.items c.in_ok-next.next)
    c.new-faults.ensures.items (c.in_ok-next.ensures input.0 input.1))

pub loop-next-smaller : goal.loop-next-smaller
loop-next-smaller c =
    let x = subst (λ n. Found c.args.text.now c.loop-next.faults.items (all_faults (one_input (chars c.args.text.now)).0) n)
    c.in-Some.is c.loop-next.invariant in
    subst (λ n. tokens_left c.args.text.now c.in_ok-next-2.next < tokens_left c.args.text.now n) (sym c.in-Some.is)
    (fewer x c.read_further.new.faults.items c.in_ok-next-2.next c.utf8.text (c.in_ok-next-2.ensures x.i x.place.2))

pub loop-next-preserved : goal.loop-next-preserved
loop-next-preserved c =
    let x = subst (λ n. Found c.args.text.now c.loop-next.faults.items (all_faults (one_input (chars c.args.text.now)).0) n)
    c.in-Some.is c.loop-next.invariant in
    goes_on x c.read_further.new.faults.items c.in_ok-next-2.next (c.in_ok-next-2.ensures x.i x.place.2)

pub returns : goal.returns
returns c i lexes =
    let input = one_input (chars c.args.text.now) in
    let x = subst (λ n. Found c.args.text.now c.loop-next.faults.items (all_faults input.0) n) c.in_default.is c.loop-next.invariant in
    ended x ∙ ap all_faults (same_input 0 (chars c.args.text.now) input.0 i input.1 lexes)
