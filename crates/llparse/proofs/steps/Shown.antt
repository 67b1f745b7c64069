-- The open nodes of a stack, and the words read so far as a part of all words.
use Rattle.llparse.proofs.Common
use Common.{◌≡◌, ℕ, suc, List, [], ◌∷◌, ◌++◌, length, take, drop, refl, ap, Grammar, Tree, Lexeme, Open, Shows, IsTreeWith}
use Common.{OpenProduction}
use Rattle.std.proofs.lemmas.List.{take-append-drop}

pub length-shows : (g : Grammar) (os : List Open) (fs : List OpenProduction) → Shows g os fs → length os ≡ length fs
length-shows g [] [] h = refl
length-shows g [] (f ∷ fs) h = absurd h
length-shows g (o ∷ os) [] h = absurd h
length-shows g (o ∷ os) (f ∷ fs) h = ap suc (length-shows g os fs h.3)

-- the words so far and the remaining ones are all words
pub whole : (g : Grammar) (words : List Lexeme) (i : ℕ) (t : Tree) → IsTreeWith g words t
    → IsTreeWith g (take i words ++ drop i words) t
whole g words i t is = rw take-append-drop is
