use Rattle.treefile.proofs.records.Fitting.{fits_version_one, fits_version_two}
use Rattle.treefile.proofs.records.OneTree.{one_file}
use Rattle.treefile.proofs.SameFile.{same_file}
use Rattle.treefile.proofs.tree_laws.files_have_one_tree.Goals as goal

pub returns : goal.returns
returns c = record { reading = one_file; same = same_file; one = fits_version_one; two = fits_version_two }
