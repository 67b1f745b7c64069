use Rattle.std.proofs.Common.{option_map, sym, chars}
use Rattle.ag_scan.specs.Cutting.{leading_word_of}
use Rattle.ag_scan.specs.Words.{vocabulary}
use Rattle.ag_scan.proofs.words.Choosing.{chosen, lent_word}
use Rattle.ag_scan.proofs.vocabulary.Vocabulary.leading_word.Goals as goal

pub returns : goal.returns
returns c =
    let v = vocabulary c.self.inside.literals c.self.inside.classes.now in
    let found =
    chosen v (chars c.args.text.now) (option_map (λ f. leading_word_of f) c.leading_literal-literal.result)
    (option_map (λ f. leading_word_of f) c.leading_class.result) c.leading_literal-literal.ensures
    (sym c.leading_class.ensures) in
    rw (← c.self.view_is) (lent_word v (chars c.args.text.now) c.longer_of.result (rw (← c.longer_of.ensures) at found))
