-- The last record of a file is the root's, and a record of the last pass has the values of all attributes.
use Rattle.treefile.proofs.Common
use Common.{ℕ, zero, suc, List, [], ◌∷◌, ◌++◌, All, refl, le-leb, All-head, All-tail, direction_of, children, node, IsBody}
use Common.{postfix_all, bodies_of_all, copies_of, node_body}
use Rattle.treefile.specs.Laws.{RootIsLast, ValuesAreWhole}
use Rattle.treefile.proofs.framing.Files.{last_of_file}
use Rattle.treefile.proofs.records.Records.{file_fits}

-- a property of all members of a list holds of the last one
last_is : (P : List ℕ → Type 0) (xs : List (List ℕ)) (x : List ℕ) → All P (xs ++ x ∷ []) → P x
last_is P [] x all = All-head P x [] all
last_is P (y ∷ xs) x all = last_is P xs x (All-tail P y (xs ++ x ∷ []) all)

pub root_is_last : RootIsLast
root_is_last version g m k p ts v content usable fits tree is =
    let others = postfix_all (direction_of k) (bodies_of_all version g m k ts (children v)) in
    let root = node_body version g m k p (v []) (copies_of g m k ts (children v)) in
    let body : IsBody version root =
    last_is (IsBody version) others root (file_fits version g m k (node p ts) v content fits tree is) in
    cc (last_of_file version k others root usable body.least body.greatest)

pub values_are_whole : ValuesAreWhole
values_are_whole k [] e a p all is = cc
values_are_whole k (q ∷ ps) e zero p all is = rw (le-leb q k (all 0 q refl))
values_are_whole k (q ∷ ps) e (suc a) p all is =
    rw (le-leb q k (all 0 q refl)) (values_are_whole k ps (λ a. e (suc a)) a p (λ i. all (suc i)) is)
