use Rattle.std.proofs.Common.{◌≤◌, length, IsUtf8, subst, arith}
use Rattle.ag_grammar.specs.grammars.Tree.{max_token_bytes}
use Rattle.ag_scan.specs.Cutting.{leading_word_of}
use Rattle.ag_scan.proofs.Listing.{taken}
use Rattle.ag_scan.proofs.vocabulary.Vocabulary.after_token.Goals as goal

pub returns-clause-took : goal.returns-clause-took
returns-clause-took c =
    let word = leading_word_of c.in-Some.word in
    let utf8 = subst IsUtf8 c.as_bytes-utf8.ensures.value c.as_bytes-utf8.ensures.utf8 in
    let short : length word.lex ≤ max_token_bytes = omega arith in (
      record { kind = word.kind; lex = word.lex; at = c.args.at },
      taken c.args.at c.in-Some.ensures utf8 short,
    )
