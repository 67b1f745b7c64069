use Rattle.ag_scan.proofs.words.LiteralWords.{literal_none, literal_cut}
use Rattle.ag_scan.proofs.cutting.leading_literal.Goals as goal

pub returns-in_default : goal.returns-in_default
returns-in_default c = literal_none c.args.literals.now c.args.text.now c.utf8.text c.in_default.ensures

pub returns : goal.returns
returns c =
    literal_cut c.args.literals.now c.args.text.now _ _ c.in-Some.word.now c.utf8.text c.in-Some.ensures c.split_word.ensures.text
    c.split_word.ensures.split c.split_word.ensures.encoded
