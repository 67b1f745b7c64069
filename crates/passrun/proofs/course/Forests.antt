-- The trees of the visited children, extended by one tree at a time.
use Rattle.passrun.proofs.Common
use Common.{ℕ, zero, suc, ◌≡◌, ◌+◌, ◌-◌, ◌<◌, ◌≤◌, List, [], ◌∷◌, ◌++◌, Some, slice_get, length, take, drop, refl, ap, ◌∙◌, sym}
use Common.{subst, arith, append_assoc, append-nil, length-take, inl, inr, take_more, take_all, drop_all, get_or_from_slice_get}
use Common.{cases_lt, Value, Item, Production, Rule, Direction, LeftToRight, RightToLeft, Grammar, Passes, nth, Valuation, rest}
use Common.{Solves, SolvesAll, AtEachNode, AtEachNodeOf, Tree, Forest, none, more, Fits, FitsAll, depth_of, deepest}
use Common.{pass_rule_count, rules_of_pass, totals, prefix, prefix_all, postfix, postfix_all, bodies_of, bodies_of_all}
use Common.{version_two, Setting, Table, visited, Roots}
use Rattle.std.proofs.Common.{drop-cons}

-- A forest with one more tree at the end.
abbrev pub snoc : Forest → Tree → Forest
snoc none t = more t none
snoc (more s ts) t = more s (snoc ts t)

abbrev pub snoc_values : Forest → (ℕ → Valuation) → Valuation → ℕ → Valuation
snoc_values none ws w i = w
snoc_values (more s ts) ws w zero = ws 0
snoc_values (more s ts) ws w (suc i) = snoc_values ts (rest ws) w i

abbrev pub cons_values : Valuation → (ℕ → Valuation) → ℕ → Valuation
cons_values w ws zero = w
cons_values w ws (suc i) = ws i

-- A forest with one more tree, at the end that the direction visits next.
abbrev pub add_tree : Direction → Forest → Tree → Forest
add_tree LeftToRight ts t = snoc ts t
add_tree RightToLeft ts t = more t ts

abbrev pub add_values : Direction → Forest → (ℕ → Valuation) → Valuation → ℕ → Valuation
add_values LeftToRight ts ws w = snoc_values ts ws w
add_values RightToLeft ts ws w = cons_values w ws

fits_snoc : (g : Grammar) (xs : List Item) (ts : Forest) (x : Item) (t : Tree) → FitsAll g xs ts → Fits g x t
    → FitsAll g (xs ++ x ∷ []) (snoc ts t)
fits_snoc g [] none x t f h = (h, tt)
fits_snoc g (y ∷ xs) none x t f h = elim f [ ]
fits_snoc g [] (more s ts) x t f h = elim f [ ]
fits_snoc g (y ∷ xs) (more s ts) x t f h = (f.0, fits_snoc g xs ts x t f.1 h)

pub prefix_add : (d : Direction) (g : Grammar) (m : Passes) (k : ℕ) (ts : Forest) (ws : ℕ → Valuation) (t : Tree) (w : Valuation)
    → prefix_all d (bodies_of_all version_two g m k (add_tree d ts t) (add_values d ts ws w)) ≡ prefix_all d
    (bodies_of_all version_two g m k ts ws) ++ prefix d (bodies_of version_two g m k t w)
prefix_add LeftToRight g m k none ws t w = append-nil (prefix LeftToRight (bodies_of version_two g m k t w))
prefix_add LeftToRight g m k (more s ts) ws t w =
    cc (
      prefix_add LeftToRight g m k ts (rest ws) t w,
      append_assoc (prefix LeftToRight (bodies_of version_two g m k s (ws 0)))
          (prefix_all LeftToRight (bodies_of_all version_two g m k ts (rest ws)))
          (prefix LeftToRight (bodies_of version_two g m k t w)),
    )
prefix_add RightToLeft g m k ts ws t w = refl

pub postfix_add : (d : Direction) (g : Grammar) (m : Passes) (k : ℕ) (ts : Forest) (ws : ℕ → Valuation) (t : Tree) (w : Valuation)
    → postfix_all d (bodies_of_all version_two g m k (add_tree d ts t) (add_values d ts ws w)) ≡ postfix_all d
    (bodies_of_all version_two g m k ts ws) ++ postfix d (bodies_of version_two g m k t w)
postfix_add LeftToRight g m k none ws t w = append-nil (postfix LeftToRight (bodies_of version_two g m k t w))
postfix_add LeftToRight g m k (more s ts) ws t w =
    cc (
      postfix_add LeftToRight g m k ts (rest ws) t w,
      append_assoc (postfix LeftToRight (bodies_of version_two g m k s (ws 0)))
          (postfix_all LeftToRight (bodies_of_all version_two g m k ts (rest ws)))
          (postfix LeftToRight (bodies_of version_two g m k t w)),
    )
postfix_add RightToLeft g m k ts ws t w = refl

pub fits_add : (d : Direction) (g : Grammar) (xs : List Item) (i : ℕ) (ts : Forest) (x : Item) (t : Tree)
    → slice_get xs (nth d (length xs) i) ≡ Some x → i < length xs → FitsAll g (visited d xs i) ts → Fits g x t
    → FitsAll g (visited d xs (suc i)) (add_tree d ts t)
fits_add LeftToRight g xs i ts x t at h f one =
    let n : i + 1 ≡ suc i = omega arith in
    let e = get_or_from_slice_get xs i x x at in
    subst (λ ys. FitsAll g ys (snoc ts t))
    (ap (λ y. take i xs ++ y ∷ []) (sym e) ∙ sym (take_more xs i x h) ∙ ap (λ n. take n xs) n)
    (fits_snoc g (take i xs) ts x t f one)
fits_add RightToLeft g xs i ts x t at h f one =
    let n : suc (length xs - suc i) ≡ length xs - i = omega arith in
    let e = get_or_from_slice_get xs (length xs - suc i) x x at in
    let l : drop (length xs - suc i) xs ≡ x ∷ drop (length xs - i) xs = cc (drop-cons xs (length xs - suc i) x (omega arith)) in
    subst (λ ys. FitsAll g ys (more t ts)) (sym l) (one, f)

pub solves_add : (d : Direction) (W : Production → Rule → Type 0) (g : Grammar) (ts : Forest) (ws : ℕ → Valuation) (t : Tree)
    (w : Valuation) → SolvesAll W g ts ws → Solves W g t w → SolvesAll W g (add_tree d ts t) (add_values d ts ws w)
solves_add LeftToRight W g none ws t w s h = (h, tt)
solves_add LeftToRight W g (more y ts) ws t w s h = (s.0, solves_add LeftToRight W g ts (rest ws) t w s.1 h)
solves_add RightToLeft W g ts ws t w s h = (h, s)

pub each_add : (d : Direction) (R : List ℕ → (ℕ → Value) → (ℕ → Value) → Type 0) (g : Grammar) (m : Passes) (ts : Forest)
    (ws : ℕ → Valuation) (t : Tree) (w : Valuation) → AtEachNodeOf R g m ts ws ws → AtEachNode R g m t w w
    → AtEachNodeOf R g m (add_tree d ts t) (add_values d ts ws w) (add_values d ts ws w)
each_add LeftToRight R g m none ws t w s h = (h, tt)
each_add LeftToRight R g m (more y ts) ws t w s h = (s.0, each_add LeftToRight R g m ts (rest ws) t w s.1 h)
each_add RightToLeft R g m ts ws t w s h = (h, s)

pub deepest_add : (d : Direction) (n : ℕ) (ts : Forest) (t : Tree) (level : ℕ) → deepest ts + level ≤ n → depth_of t + level ≤ n
    → deepest (add_tree d ts t) + level ≤ n
deepest_add LeftToRight n none t level a b = omega arith
deepest_add LeftToRight n (more s ts) t level a b = omega (arith, deepest_add LeftToRight n ts t level (omega arith) b)
deepest_add RightToLeft n ts t level a b = omega arith

pub rules_add : (d : Direction) (c : Setting) (ts : Forest) (t : Tree)
    → totals (pass_rule_count c.passes c.write) c.grammar (add_tree d ts t) ≡ totals
    (pass_rule_count c.passes c.write) c.grammar ts + rules_of_pass c.passes c.write c.grammar t
rules_add LeftToRight c none t = omega arith
rules_add LeftToRight c (more s ts) t = omega (arith, rules_add LeftToRight c ts t)
rules_add RightToLeft c ts t = omega arith

abbrev size : Forest → ℕ
size none = 0
size (more t ts) = suc (size ts)

fits_size : (g : Grammar) (xs : List Item) (ts : Forest) → FitsAll g xs ts → size ts ≡ length xs
fits_size g [] none f = refl
fits_size g (x ∷ xs) none f = elim f [ ]
fits_size g [] (more t ts) f = elim f [ ]
fits_size g (x ∷ xs) (more t ts) f = ap suc (fits_size g xs ts f.1)

snoc_old : (ts : Forest) (ws : ℕ → Valuation) (w : Valuation) (i : ℕ) → i < size ts → snoc_values ts ws w i ≡ ws i
snoc_old none ws w i h = absurd (omega arith)
snoc_old (more s ts) ws w zero h = refl
snoc_old (more s ts) ws w (suc i) h = snoc_old ts (rest ws) w i (omega arith)

snoc_new : (ts : Forest) (ws : ℕ → Valuation) (w : Valuation) (i : ℕ) → i ≡ size ts → snoc_values ts ws w i ≡ w
snoc_new none ws w i h = refl
snoc_new (more s ts) ws w zero h = absurd (omega arith)
snoc_new (more s ts) ws w (suc i) h = snoc_new ts (rest ws) w i (omega arith)

pub roots_add : (d : Direction) (g : Grammar) (xs : List Item) (i : ℕ) (ts : Forest) (ws : ℕ → Valuation) (w : Valuation)
    (e : Table) → i < length xs → FitsAll g (visited d xs i) ts → Roots d (length xs) i ws e
    → ((a : ℕ) → w [] a ≡ e (suc (nth d (length xs) i)) a) → Roots d (length xs) (suc i) (add_values d ts ws w) e
roots_add LeftToRight g xs i ts ws w e h f roots here b a l =
    let n : size ts ≡ i = fits_size g (take i xs) ts f ∙ length-take i xs ∙ omega arith in
    elim (cases_lt b i) [
      | inl x ↦ cc (snoc_old ts ws w b (omega arith), roots b a x)
      | inr x ↦ let m : suc i ≡ suc (0 + b) = omega arith in cc (snoc_new ts ws w b (omega arith), here a)
    ]
roots_add RightToLeft g xs i ts ws w e h f roots here zero a l =
    let n : suc (length xs - suc i) ≡ suc (length xs - suc i + 0) = omega arith in cc (here a)
roots_add RightToLeft g xs i ts ws w e h f roots here (suc b) a l =
    let x : b < i = omega arith in
    let n : length xs - i + b ≡ length xs - suc i + suc b = omega arith in cc (roots b a x)

none_visited : (d : Direction) (xs : List Item) → visited d xs 0 ≡ []
none_visited LeftToRight xs = refl
none_visited RightToLeft xs = drop_all (length xs - 0) xs (omega arith)

pub fits_none : (d : Direction) (g : Grammar) (xs : List Item) → FitsAll g (visited d xs 0) none
fits_none d g xs = rw none_visited tt

pub all_visited : (d : Direction) (xs : List Item) → visited d xs (length xs) ≡ xs
all_visited LeftToRight xs = take_all (length xs) xs (omega arith)
all_visited RightToLeft xs = let n : length xs - length xs ≡ 0 = omega arith in cc
