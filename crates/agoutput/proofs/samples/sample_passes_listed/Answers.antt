use Rattle.std.proofs.Common.{rules, ◌≡◌, ◌∷◌, [], zero, suc, decimal, refl, inr, arith}
use Rattle.std.proofs.lemmas.Fmt.{decimal_digit}
use Rattle.agoutput.specs.Sample.{sample_plan, sample_rows}
use Rattle.agoutput.specs.Listings.{plan_text}
use Rattle.ag_grammar.specs.grammars.Sample.{sample}
use Rattle.passassign.specs.Rows.{AreAtMost}
use Rattle.agoutput.proofs.samples.sample_passes_listed.Goals as goal

at_most_one : AreAtMost 1 sample_rows
at_most_one zero row e zero p f = search rules
at_most_one zero row e (suc j) p f = search rules
at_most_one (suc zero) row e j p f = search rules
at_most_one (suc (suc i)) row e j p f = search rules

lines : sample_plan ≡ plan_text sample sample_rows 1
lines = let one : decimal 1 ≡ 49 ∷ [] = decimal_digit 1 (omega arith) in rw one refl

pub returns : goal.returns
returns c =
    record { passes = 1; greatest = record { most = at_most_one; there = inr (1 ∷ [], (0, refl), (0, refl)) }; lines = lines }
