-- Combinators for languages over tokens, with or without offsets. A language is a relation between a list of
-- tokens and a meaning, such as a tree. All definitions are this project's.
use Rattle.std.specs.Prelude.{◌≡◌, ◌≤◌, ℕ, Bool, true, false, List, [], ◌∷◌, ◌++◌, length, Option, Some, ◌⊎◌}

-- a part, followed by a part that may depend on the first one's meaning; the second part's meaning is that of the whole
infixl 10 ◌>>=◌
abbrev pub ◌>>=◌ : {T A B : Type 0} → (List T → A → Type 0) → (A → List T → B → Type 0) → List T → B → Type 0
◌>>=◌ {T} {A} first more ts b = (us : List T) × (vs : List T) × (a : A) × (ts ≡ us ++ vs) × first us a × more a vs b

-- a part, followed by a part that doesn't depend on the first one's meaning
infixl 10 ◌>>◌
abbrev pub ◌>>◌ : {T A B : Type 0} → (List T → A → Type 0) → (List T → B → Type 0) → List T → B → Type 0
first >> more = first >>= (λ _. more)

-- the empty list of tokens, with the meaning a
abbrev pub gives : {T A : Type 0} → A → List T → A → Type 0
gives a ts b = (ts ≡ []) × (b ≡ a)

-- one token, with its meaning
abbrev pub one : {T A : Type 0} → (T → Option A) → List T → A → Type 0
one {T} meaning ts a = (t : T) × (ts ≡ t ∷ []) × (meaning t ≡ Some a)

-- one of two languages
infixr 8 ◌or◌
abbrev pub ◌or◌ : {T A : Type 0} → (List T → A → Type 0) → (List T → A → Type 0) → List T → A → Type 0
(left or right) ts a = left ts a ⊎ right ts a

-- any number of items, one after the other; the meaning is the list of their meanings
pub data Many {T A : Type 0} (item : List T → A → Type 0) : List T → List A → Type 0 where
  none : Many item [] []
  more : (us vs : List T) (x : A) (xs : List A) → item us x → Many item vs xs → Many item (us ++ vs) (x ∷ xs)

-- n is at most 1, if the first argument is true
abbrev pub IsFew : Bool → ℕ → Type 0
IsFew true n = n ≤ 1
IsFew false n = Unit {0}

-- The tokens are further items, at most one if `one_only` is true, else any number. The meaning `all` is the list `found`,
-- followed by the meanings of these items.
abbrev pub further : {T A : Type 0} → Bool → List A → (List T → A → Type 0) → List T → List A → Type 0
further {T} {A} one_only found item ts all = (xs : List A) × Many item ts xs × IsFew one_only (length xs) × (all ≡ found ++ xs)
