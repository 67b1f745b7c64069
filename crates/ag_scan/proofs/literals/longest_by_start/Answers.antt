use Rattle.ag_scan.proofs.words.Beginnings.{sole_exact}
use Rattle.ag_scan.proofs.literals.longest_by_start.Goals as goal

pub returns-in-Sole : goal.returns-in-Sole
returns-in-Sole c =
    sole_exact c.requires.table c.requires.starts c.first_byte.ensures.1 _ c.in-Sole.is c.prefix_at.result
    c.prefix_at.ensures.there c.prefix_at.ensures.prefix c.prefix_at.ensures.none
