use Rattle.std.proofs.lemmas.Str.{encodes-chars}
use Rattle.ag_scan.proofs.words.LiteralWords.{boundary, split_characters}
use Rattle.ag_scan.proofs.cutting.split_word.Goals as goal

pub split_at-requires : goal.split_at-requires
split_at-requires c = boundary c.args.text.now c.args.word.now c.utf8.text c.utf8.word c.requires

pub returns-clause-split : goal.returns-clause-split
returns-clause-split c = split_characters c.args.text.now c.args.word.now _ c.utf8.word c.requires c.split_at.ensures.back

pub returns-clause-encoded : goal.returns-clause-encoded
returns-clause-encoded c = encodes-chars c.args.word.now c.utf8.word
