-- The files of two sentences, worked out.
use Rattle.treefile.proofs.Common
use Common.{◌≡◌, refl, spellings, token_sample, token_tree, Valuation, file_of_tree, version_one, version_two}
use Rattle.treefile.specs.Worked.{binary, binary_passes, file_of_iffy, file_of_iffy_in_two, iffy_passes, pass_0_of_one}
use Rattle.treefile.specs.Worked.{pass_1_of_one, pass_1_of_one_in_two, pass_2_of_one, pass_2_of_one_in_two, tree_of_one}
use Rattle.treefile.specs.Worked.{values_of_one}

pub worked_0 : (v : Valuation) → file_of_tree version_one binary binary_passes 0 tree_of_one v ≡ pass_0_of_one
worked_0 v = refl

pub worked_1 : file_of_tree version_one binary binary_passes 1 tree_of_one values_of_one ≡ pass_1_of_one
worked_1 = simp spellings

pub worked_2 : file_of_tree version_one binary binary_passes 2 tree_of_one values_of_one ≡ pass_2_of_one
worked_2 = simp spellings

pub worked_iffy : (v : Valuation) → file_of_tree version_one token_sample iffy_passes 0 token_tree v ≡ file_of_iffy
worked_iffy v = simp spellings

-- in version 2
pub copied_1 : file_of_tree version_two binary binary_passes 1 tree_of_one values_of_one ≡ pass_1_of_one_in_two
copied_1 = simp spellings

pub copied_2 : file_of_tree version_two binary binary_passes 2 tree_of_one values_of_one ≡ pass_2_of_one_in_two
copied_2 = simp spellings

pub copied_iffy : (v : Valuation) → file_of_tree version_two token_sample iffy_passes 0 token_tree v ≡ file_of_iffy_in_two
copied_iffy v = simp spellings
