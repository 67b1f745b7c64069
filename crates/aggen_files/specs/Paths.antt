-- The paths of the two tree files in a folder. This project's.
use Rattle.std.specs.Prelude.{ℕ, List, ◌++◌, codes}

-- the path of a.agt in a folder
abbrev pub path_of_a : List ℕ → List ℕ
path_of_a folder = folder ++ codes "/a.agt"

-- the path of b.agt in a folder
abbrev pub path_of_b : List ℕ → List ℕ
path_of_b folder = folder ++ codes "/b.agt"
