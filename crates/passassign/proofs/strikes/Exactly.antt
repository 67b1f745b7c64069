-- Lists that strike exactly some attributes.
use Rattle.passassign.proofs.Common
use Common.{List, [], ◌∷◌, Grammar, Direction, Strike, Attributes, IsStruckBy, AreGood, StrikesExactly, StrikesAll}
use Rattle.passassign.proofs.strikes.Following.{strikes_open}
use Rattle.passassign.proofs.strikes.Reasons.{AreWithin, good_more}

pub are_good_more : (g : Grammar) (d : Direction) {some more : Attributes} → AreWithin some more → (struck xs : List Strike)
    → AreGood g d some struck xs → AreGood g d more struck xs
are_good_more g d h struck [] good = good
are_good_more g d h struck (x ∷ xs) (is, new, one, others) =
    (h x.symbol x.attr is, new, good_more one h (λ s a i. i), are_good_more g d h (x ∷ struck) xs others)

-- good strikes that strike all candidates strike exactly the candidates
pub strikes_all : (g : Grammar) (d : Direction) (candidate : Attributes) (xs : List Strike) → AreGood g d candidate [] xs
    → AreWithin candidate (IsStruckBy xs) → StrikesAll g d candidate xs
strikes_all g d candidate xs good all = record { good = good; all = all; only = strikes_open g d candidate [] xs good }

-- A list that strikes exactly the attributes of `later` does so with more candidates too. (`same` has the attributes of `later`.)
pub exactly_same : {g : Grammar} {d : Direction} {some more later same : Attributes} {xs : List Strike}
    → StrikesExactly g d some later xs → AreWithin some more → AreWithin later same → AreWithin same later
    → StrikesExactly g d more same xs
exactly_same {g} {d} {xs = xs} x h to from = record {
  good = are_good_more g d h [] xs x.good;
  all = λ s a i. x.all s a (from s a i);
  only = λ s a i. to s a (x.only s a i);
}
