use Rattle.backreader.proofs.Common
use Common.{ℕ, List, [], ◌∷◌, None, All, map, refl, lit≤, All-cons, All-nil, IsBody, BodyTree, branch, more, none}
use Common.{version_two}
use Rattle.treefile.specs.framing.Backward.{next_before}
use Rattle.treefile.specs.framing.Ending.{is_tree_file}
use Rattle.backreader.proofs.turnings.Whole.{missing}
use Rattle.backreader.proofs.laws.worked_reversal.Goals as goal

abbrev body_of : ℕ → List ℕ
body_of production = 0 ∷ 0 ∷ production ∷ []

-- the tree of the bodies of `1`
abbrev tree_of_one : BodyTree
tree_of_one =
    branch (body_of 0)
    (more (branch (body_of 3) (more (branch (body_of 7) none) (more (branch (body_of 4) none) none)))
    (more (branch (body_of 1) none) none))

-- the length of each body is within the limits
may_occur : (production : ℕ) → IsBody version_two (body_of production)
may_occur production = record { least = lit≤ tt; greatest = lit≤ tt }

all_occur : (productions : List ℕ) → All (IsBody version_two) (map body_of productions)
all_occur [] = All-nil (IsBody version_two)
all_occur (production ∷ productions) =
    All-cons (IsBody version_two) (body_of production) (map body_of productions) (may_occur production) (all_occur productions)

pub returns-clause-one : goal.returns-clause-one
returns-clause-one c =
    record {
      tree = tree_of_one;
      from = record {
        arities = (refl, ((refl, ((refl, tt), ((refl, tt), tt))), ((refl, tt), tt)));
        bodies = all_occur (7 ∷ 4 ∷ 3 ∷ 1 ∷ 0 ∷ []);
        pass = 0;
        occurs = refl;
      };
      to = λ h. refl;
      within = record { deep = lit≤ tt; large = lit≤ tt };
      count_is = refl;
    }

pub returns-clause-header : goal.returns-clause-header
unfolding next_before is_tree_file
returns-clause-header c = missing {bodies = []} {left = 0} None (record { begins = refl; read = refl; exact = refl }) refl tt
