use Rattle.treefile.proofs.Common.{refl, sym, ◌∙◌}
use Rattle.treefile.specs.records.FirstFile.{first_file}
use Rattle.treefile.proofs.records.FirstFile.{first_file_is, is_first_file}
use Rattle.treefile.proofs.tree_laws.first_files_are_one.Goals as goal

pub returns-clause-there : goal.returns-clause-there
returns-clause-there c version grammar tree fits = is_first_file version grammar tree (first_file version tree) fits refl

pub returns-clause-one : goal.returns-clause-one
returns-clause-one c version grammar tree content another is also =
    first_file_is version grammar tree content is ∙ sym (first_file_is version grammar tree another also)
