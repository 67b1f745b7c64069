use Rattle.passrun.proofs.WorkedDamage.{empty, header_alone, other_pass, q_alone, root_deep, root_many}
use Rattle.passrun.proofs.laws.worked_damage.Goals as goal

pub returns : goal.returns
returns c = record {
  empty = empty;
  other_pass = other_pass;
  header = header_alone;
  wrong = q_alone;
  deep = root_deep;
  many = root_many;
}
