use Rattle.std.proofs.Common.{◌≡◌, ◌++◌, encode_utf8}
use Rattle.std.proofs.lemmas.Str.{chars_past_char}
use Rattle.ag_tokens.proofs.Spans.{empty_text}
use Rattle.ag_tokens.proofs.lexer.first.Goals as goal

pub returns-in-Some : goal.returns-in-Some
returns-in-Some c =
    let split : c.args.text.now ≡ encode_utf8 c.in-Some.c ++ c.as_str.result.now =
    cc (c.chars-characters.ensures.rest, c.in-Some.ensures.steps.0, c.as_str.ensures) in
    (chars_past_char _ _ _ c.utf8.text split, split)

pub returns-in-None : goal.returns-in-None
returns-in-None c = empty_text c.args.text.now (cc (c.chars-characters.ensures.rest, c.in-None.ensures.steps.0.0))
