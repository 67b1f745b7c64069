-- Passes over files, one after the other.
use Rattle.treefile.proofs.Common
use Common.{◌≡◌, suc, ◌<◌, ◌≤◌, arith, same_weaker}
use Common.item
use Rattle.ag_grammar.proofs.grammars.Running.{run_begins, run_goes_on}
use Rattle.treefile.specs.Laws.{RunContinues, RefusalGoesBack, RefusalWithinGoesBack, RunBegins}
use Rattle.treefile.proofs.SameFile.{same_file}

pub starts_run : RunBegins
starts_run version g m k start before t u tree is = record {
  values = u;
  ran = run_begins g m t u (suc k) is.texts;
  file = is;
  other = λ n from e. absurd (omega arith);
}

pub goes_on_run : RunContinues
goes_on_run version g m k last start now before next legal le runs pass t u tree is =
    let run = runs t u tree is in
    let one = pass t run.values tree run.file in
    let kept = same_weaker (λ p. p < suc last) (λ p. p ≤ last) g m (λ p h. omega arith) t run.values one.values one.kept in
    record {
      values = one.values;
      ran =
          run_goes_on g m (item.Symbol g.start) t u run.values one.values (suc k) (suc last) legal tree
          (omega arith) run.ran one.kept one.solved;
      file = one.file;
      other =
          λ n from e. let same : n ≡ last = omega arith in
          rw same (same_file version g m last t run.values one.values now kept run.file);
    }

pub refusal_goes_back : RefusalGoesBack
refusal_goes_back version g m k last start now before runs none t u tree is = let run = runs t u tree is in
    none t run.values tree run.file

pub refusal_within_goes_back : RefusalWithinGoesBack
refusal_within_goes_back depth nodes version g m k last start now before runs none t u tree within is = let run =
    runs t u tree is in none t run.values tree within run.file
