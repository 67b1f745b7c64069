-- The longest prefix that passes a test.
use Rattle.std.proofs.Common.{◌≡◌, ℕ, suc, ◌+◌, ◌≤◌, Bool, true, false, List, [], ◌∷◌, ◌++◌, length, take, drop, refl, arith}
use Rattle.std.specs.List.{prefix_len, list_all}

pub drop_more : (n c : ℕ) (cs : List ℕ) → drop (1 + n) (c ∷ cs) ≡ drop n cs
drop_more n c cs = let k : 1 + n ≡ suc n = omega arith in rw k

pub take_more : (n c : ℕ) (cs : List ℕ) → take (1 + n) (c ∷ cs) ≡ c ∷ take n cs
take_more n c cs = let k : 1 + n ≡ suc n = omega arith in rw k

-- the characters of the prefix pass the test
pub prefix_passes : (p : ℕ → Bool) (cs : List ℕ) → list_all p (take (prefix_len p cs) cs) ≡ true
prefix_passes p [] = refl
prefix_passes p (c ∷ cs) = let more = prefix_passes p cs in grind (arith, take_more)

-- the prefix is at least as long as any prefix whose characters pass
pub prefix_reaches : (p : ℕ → Bool) (word more : List ℕ) → list_all p word ≡ true → length word ≤ prefix_len p (word ++ more)
prefix_reaches p [] more h = omega arith
prefix_reaches p (c ∷ word) more h = let so_far = prefix_reaches p word more in grind (arith, so_far)

-- the prefix has the length of `prefix`, whose characters pass, if `rest` begins with no character that passes
pub prefix_is : (p : ℕ → Bool) (prefix rest : List ℕ) → list_all p prefix ≡ true → prefix_len p rest ≡ 0
    → prefix_len p (prefix ++ rest) ≡ length prefix
prefix_is p [] rest all none = none
prefix_is p (c ∷ prefix) rest all none = let more = prefix_is p prefix rest in grind (arith, more)

-- the prefix has the length of `word`, whose characters pass, if the next character c does not pass
pub prefix_ends : (p : ℕ → Bool) (word more : List ℕ) (c : ℕ) → list_all p word ≡ true → p c ≡ false
    → prefix_len p (word ++ c ∷ more) ≡ length word
prefix_ends p word more c h ends = prefix_is p word (c ∷ more) h (grind arith)
