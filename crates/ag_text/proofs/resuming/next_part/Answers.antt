use Rattle.std.proofs.Common.{◌≡◌, ◌∙◌, false, Some, ap, sym, subst, chars, drop, option_map}
use Rattle.ag_tokens.specs.Lexing.{token_of}
use Rattle.ag_tokens.specs.Parsing.{next, next_token}
use Rattle.ag_tokens.proofs.Lexes.{same_input}
use Rattle.ag_text.specs.Places.{IsPlace}
use Rattle.ag_text.specs.Resuming.{next_part}
use Rattle.ag_text.proofs.Scanning.{Scanned, is_found, found_if, not_found_if, scan_empty, scan_starts, scan_goes_on, scan_found}
use Rattle.ag_text.proofs.Scanning.{scan_ended}
use Rattle.ag_text.proofs.resuming.next_part.Goals as goal
use Rattle.ag_text.proofs.resuming.next_part.Goals.{else-here-at-via-then-here-at+else-can_begin, else-here-at-via-else-here-at}

pub returns-in_default : goal.returns-in_default
returns-in_default c i lexes =
    let same = same_input c.args.from (chars (drop c.args.from c.args.text.now)) i c.at-cursor.result lexes c.at-cursor.ensures in
    scan_empty c.args.text.now c.args.at i
    (ap next_token same ∙ sym c.peek.ensures ∙ ap (option_map token_of) c.in_default.is)

pub loop-token-init : goal.loop-token-init
loop-token-init c i lexes =
    let same = same_input c.args.from (chars (drop c.args.from c.args.text.now)) i c.at-cursor.result lexes c.at-cursor.ensures in
    let some : next_token i ≡ Some (token_of c.in-Some.before) =
    ap next_token same ∙ sym c.peek.ensures ∙ ap (option_map token_of) c.in-Some.is in
    subst (λ j. Scanned c.args.at i j (token_of c.in-Some.before)) (ap next same ∙ sym c.bump.ensures)
    (scan_starts c.args.at i (token_of c.in-Some.before) some)

pub returns-then-can_begin : goal.returns-then-can_begin
returns-then-can_begin c i lexes =
    let some : next_token c.loop-token.cursor ≡ Some (token_of c.in-Some-peek.token) =
    sym c.peek-in-loop-token.ensures ∙ ap (option_map token_of) c.in-Some-peek.is in
    let found = found_if c.args.at c.offset-here.result (token_of c.loop-token.before) (token_of c.in-Some-peek.token)
    c.loop-token.cursor c.bump-in-Some-peek.new.self (option_map token_of c.peek-then-here-at.result) c.can_begin.result
    c.offset-here.ensures c.bump-in-Some-peek.ensures c.peek-then-here-at.ensures c.can_begin.ensures c.if-here-at.true in
    subst (λ n. IsPlace c.args.text.now (next_part c.args.at i) (Some n)) (sym c.offset-here.ensures)
    (scan_found (c.loop-token.invariant i lexes) c.args.text.now c.args.from (token_of c.in-Some-peek.token) c.utf8.text
    c.requires lexes some (found ∙ c.if-can_begin.true))

pub loop-token-preserved : goal.loop-token-preserved
loop-token-preserved c i lexes =
    let some : next_token c.loop-token.cursor ≡ Some (token_of c.in-Some-peek.token) =
    sym c.peek-in-loop-token.ensures ∙ ap (option_map token_of) c.in-Some-peek.is in
    let t = token_of c.in-Some-peek.token in
    let other : is_found c.args.at (token_of c.loop-token.before) t c.loop-token.cursor ≡ false =
    elim c.else-here-at.branch [
      | else-here-at-via-then-here-at+else-can_begin w ↦
          found_if c.args.at c.offset-here.result (token_of c.loop-token.before) t c.loop-token.cursor
          c.bump-in-Some-peek.new.self (option_map token_of w.peek-then-here-at.result) w.can_begin.result
          c.offset-here.ensures c.bump-in-Some-peek.ensures w.peek-then-here-at.ensures w.can_begin.ensures w.if-here-at.true
          ∙ w.if-can_begin.false
      | else-here-at-via-else-here-at w ↦
          not_found_if c.args.at c.offset-here.result (token_of c.loop-token.before) t c.loop-token.cursor c.offset-here.ensures
          w.if-here-at.false
    ] in
    subst (λ j. Scanned c.args.at i j t) (sym c.bump-in-Some-peek.ensures)
    (scan_goes_on (c.loop-token.invariant i lexes) t some other)

pub returns : goal.returns
returns c i lexes =
    scan_ended (c.loop-token.invariant i lexes) c.args.text.now
    (sym c.peek-in-loop-token.ensures ∙ ap (option_map token_of) c.in_default-peek.is)
