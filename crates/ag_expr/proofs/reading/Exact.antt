-- Parsers that accept exactly a language, and one lemma for each combinator.
use Rattle.ag_expr.proofs.Common
use Common.{◌≡◌, ℕ, zero, suc, ◌≤◌, ◌<◌, Bool, true, false, ◌||◌, if◌then◌else◌, List, [], ◌∷◌, ◌++◌, map, length, Option, Some}
use Common.{Ok, Err, ◌⊎◌, inl, inr, refl, ap, sym, ◌∙◌, subst, append_assoc, append-nil, arith, length-append, map-append, Ending}
use Common.{PlacedToken, Input, GrammarToken, first_token, sees, Outcome, and_then, pure, one_from, choose, further_from, ◌>>=◌}
use Common.{◌or◌, gives, one, Many, none, more, further}
use Rattle.ag_tokens.specs.Parsing as parsing
use Rattle.ag_tokens.specs.Parsing.{Parser, many_from}

-- What the theory needs to know about languages and faults. A word is a list of items of type T: `item` is the one for a token
-- with its offset. `wrong` is the fault for an input whose next token cannot be accepted. `is_reported` is true of the faults of
-- which the lemmas claim something. `is_deep` is true of a fault and a token if the fault says that the token needs more levels.
pub record Manner (T Fault : Type 0) : Type 0 where
  pub item : PlacedToken → T
  pub wrong : Input → Fault
  pub is_reported : Fault → Bool
  pub is_deep : Fault → PlacedToken → Bool

-- a language: which lists of items mean which values
abbrev pub Language : Type 0 → Type 0 → Type 1
Language T A = List T → A → Type 0

abbrev pub Test : Type 0
Test = GrammarToken → Bool

-- the same input with these tokens before it
abbrev pub before : List PlacedToken → Input → Input
before us i = record i { left = us ++ i.left }

-- the input i is the tokens of a word that means a, followed by j
abbrev pub HasWord : {T Fault A : Type 0} → Manner T Fault → Language T A → Input → Input → A → Type 0
HasWord m L i j a = (us : List PlacedToken) × (i ≡ before us j) × L (map m.item us) a

-- whether the first token satisfies the test
abbrev pub first_is : Test → List PlacedToken → Bool
first_is test ps = parsing.next_satisfies test (first_token ps)

-- each word of the language begins with a token that satisfies the test
pub record Starts {T Fault A : Type 0} (m : Manner T Fault) (test : Test) (L : Language T A) : Type 0 where
  pub leads : (us : List PlacedToken) (a : A) → L (map m.item us) a → first_is test us ≡ true

-- the tokens that the parser accepts are a word of the language; each word is accepted if no token of `stops` follows
pub record Exact {T Fault A : Type 0} (m : Manner T Fault) (stops : Test) (L : Language T A)
    (r : Parser Fault A) : Type 0 where
  pub sound : (i j : Input) (a : A) → r i ≡ Ok (a, j) → HasWord m L i j a
  pub complete : (us : List PlacedToken) (j : Input) (a : A) → L (map m.item us) a → first_is stops j.left ≡ false
      → r (before us j) ≡ Ok (a, j)

-- no token passes this test
abbrev pub nowhere : GrammarToken → Bool
nowhere t = false

-- ---- lists of tokens

split : {T : Type 0} (item : PlacedToken → T) (us : List PlacedToken) (vs ws : List T) → map item us ≡ vs ++ ws
    → (xs : List PlacedToken) × (ys : List PlacedToken) × (us ≡ xs ++ ys) × (map item xs ≡ vs) × (map item ys ≡ ws)
split item us [] ws e = ([], us, refl, refl, e)
split item [] (v ∷ vs) ws e = cc
split item (u ∷ us) (v ∷ vs) ws e = let cut = split item us vs ws (cc) in (u ∷ cut.0, cut.1, cc, cc, cut.4)

no_tokens : {T : Type 0} (item : PlacedToken → T) (us : List PlacedToken) → map item us ≡ [] → us ≡ []
no_tokens item [] e = refl
no_tokens item (u ∷ us) e = cc

-- tokens with offsets are split as their items: a word of two parts, and a list of words at its first word
module _ {T A : Type 0} (item : PlacedToken → T) (us : List PlacedToken) where
  pub parts : {B : Type 0} (R : Language T A) (S : A → Language T B) (b : B) → (R >>= S) (map item us) b
      → (xs : List PlacedToken) × (ys : List PlacedToken) × (a : A) × (us ≡ xs ++ ys) × R (map item xs) a × S a (map item ys) b
  parts R S b (vs, ws, a, e, is, later) = let cut = split item us vs ws e in
      (cut.0, cut.1, a, cut.2, rw cut.3 is, rw cut.4 later)

  many_parts : {L : Language T A} (x : A) (xs : List A) → Many L (map item us) (x ∷ xs)
      → (vs : List PlacedToken) × (ws : List PlacedToken) × (us ≡ vs ++ ws) × L (map item vs) x × Many L (map item ws) xs
  many_parts {L} x xs are = let all = cut_off (map item us) are in let cut = split item us all.0 all.1 all.2 in
      (cut.0, cut.1, cut.2, rw cut.3 all.3, rw cut.4 all.4)
    where
      cut_off : (ts : List T) → Many L ts (x ∷ xs) → (vs : List T) × (ws : List T) × (ts ≡ vs ++ ws) × L vs x × Many L ws xs
      cut_off ts (more vs ws y ys is others) = (vs, ws, refl, is, others)

  no_parts : {L : Language T A} → Many L (map item us) [] → us ≡ []
  no_parts {L} are = no_tokens item us (nothing (map item us) are)
    where
      nothing : (ts : List T) → Many L ts [] → ts ≡ []
      nothing ts none = refl

pub before-append : (us vs : List PlacedToken) (k : Input) → before (us ++ vs) k ≡ before us (before vs k)
before-append us vs k = cc (append_assoc us vs k.left)

leads-append : (test : Test) (us vs : List PlacedToken) → first_is test us ≡ true → first_is test (us ++ vs) ≡ true
leads-append test us vs h = grind arith

pub anywhere : (ps : List PlacedToken) → first_is nowhere ps ≡ false
anywhere ps = grind arith

leading : (test : Test) (ps : List PlacedToken) → first_is test ps ≡ true → 1 ≤ length ps
leading test ps h = grind arith

-- no token satisfies both tests
abbrev pub Apart : Test → Test → Type 0
Apart these those = (t : GrammarToken) → these t ≡ true → those t ≡ false

apart_back : (these those : Test) → Apart these those → Apart those these
apart_back these those apart t h = let no = apart t in grind arith

led : (these those : Test) → Apart these those → (ps : List PlacedToken) → first_is these ps ≡ true
    → first_is those ps ≡ false
led these those apart ps h = grind (arith, apart)

pub neither : (a b : Bool) → (a || b) ≡ false → (a ≡ false) × (b ≡ false)
neither a b h = (grind arith, grind arith)

-- the first token satisfies neither test
pub both_without : (these those : Test) (ps : List PlacedToken) → first_is (λ t. these t || those t) ps ≡ false
    → (first_is these ps ≡ false) × (first_is those ps ≡ false)
both_without these those ps h = (grind arith, grind arith)

-- the first token satisfies one of the tests
either : (these those : Test) (ps : List PlacedToken) → first_is these ps ≡ true ⊎ first_is those ps ≡ true
    → first_is (λ t. these t || those t) ps ≡ true
either these those ps h = grind arith

-- ---- parsers

pub opened : {Fault A B : Type 0} (o : Outcome Fault A) (f : A → Parser Fault B) (y : B × Input) → and_then o f ≡ Ok y
    → (p : A × Input) × (o ≡ Ok p) × (f p.0 p.1 ≡ Ok y)
opened (Err x) f y e = cc
opened (Ok p) f y e = (p, refl, e)

pub answered : {Fault A : Type 0} (a b : A) (i j : Input) → (let o : Outcome Fault A = Ok (a, i) in o ≡ Ok (b, j))
    → (b ≡ a) × (i ≡ j)
answered {A = A} a b i j e = let same : ◌≡◌ {A = A × Input} (a, i) (b, j) = cc in
    (ap (λ p. p.0) (sym same), ap (λ p. p.1) same)

-- a word of L, followed by no token of `outer`, does not begin with a token of `inner`
abbrev pub Before : {T Fault B : Type 0} → Manner T Fault → Test → Test → Language T B → Type 0
Before {T} {Fault} {B} m outer inner L = (vs rest : List PlacedToken) (b : B) → L (map m.item vs) b → first_is outer rest ≡ false
    → first_is inner (vs ++ rest) ≡ false

-- at most n more items after those found
abbrev UpTo : {T A : Type 0} → ℕ → Language T A → List A → Language T (List A)
UpTo {T} {A} n L found ts all = (xs : List A) × Many L ts xs × (length xs ≤ n) × (all ≡ found ++ xs)

module _ {T Fault : Type 0} {m : Manner T Fault} where
  pub weaker : {A : Type 0} {stops : Test} {L : Language T A} {r : Parser Fault A} → Exact m nowhere L r → Exact m stops L r
  weaker x = record { sound = x.sound; complete = λ us j a is h. x.complete us j a is (anywhere j.left) }

  pub pure_exact : {A : Type 0} {stops : Test} (a : A) → Exact m stops (gives a) (pure a)
  pure_exact a = record {
    sound = λ i j b e. let same = answered a b i j e in ([], same.1, (refl, same.0));
    complete = λ us j b (e, same) h. cc (no_tokens m.item us e);
  }

  pub then_exact : {A B : Type 0} {inner outer : Test} {R : Language T A} {S : A → Language T B} {r : Parser Fault A}
      {s : A → Parser Fault B} → Exact m inner R r → ((a : A) → Exact m outer (S a) (s a))
      → ((a : A) → Before m outer inner (S a)) → Exact m outer (R >>= S) (parsing.◌>>=◌ r s)
  then_exact {R = R} {S = S} {r = r} {s = s} x y following = record {
    sound = λ i j b h.
        let one = opened (r i) s (b, j) h in
        let first = x.sound i one.0.1 one.0.0 one.1 in
        let second = (y one.0.0).sound one.0.1 j b one.2 in (
          first.0 ++ second.0,
          cc (first.1, before-append first.0 second.0 j),
          (map m.item first.0, map m.item second.0, one.0.0, map-append m.item first.0 second.0, first.2, second.2),
        );
    complete = λ us j b is h.
        let (vs, ws, a, cut, first, later) = parts m.item us R S b is in
        let one = x.complete vs (before ws j) a first (following a ws j.left b later h) in
        rw (cut, append_assoc, one) ((y a).complete ws j b later h);
  }

  -- one of two languages, chosen by the first token
  pub or_exact : {A : Type 0} {test those stops : Test} {L M : Language T A} {l n : Parser Fault A}
      → Exact m stops L l → Exact m stops M n → Starts m test L → Starts m those M → Apart test those
      → Exact m stops (L or M) (choose test l n)
  or_exact {test = test} {those = those} {L = L} {M = M} {l = l} {n = n} x y starts others apart = record {
    sound = λ i j a. elim (sees test i) as (λ b. (if b then l i else n i) ≡ Ok (a, j) → HasWord m (L or M) i j a) [
      | true ↦ λ h. let one = x.sound i j a h in (one.0, one.1, inl one.2)
      | false ↦ λ h. let one = y.sound i j a h in (one.0, one.1, inr one.2)
    ];
    complete = λ us j a. elim [
      | inl is ↦ λ h. rw (leads-append test us j.left (starts.leads us a is)) (x.complete us j a is h)
      | inr is ↦ λ h.
          rw (led those test (apart_back test those apart) (us ++ j.left) (leads-append those us j.left (others.leads us a is)))
          (y.complete us j a is h)
    ];
  }

  -- a language, or nothing
  pub maybe_exact : {A : Type 0} {test stops : Test} {L : Language T A} {l : Parser Fault A} (a : A)
      → Exact m stops L l → Starts m test L → Exact m (λ t. test t || stops t) (L or gives a) (choose test l (pure a))
  maybe_exact {test = test} {stops = stops} {L = L} {l = l} a x starts = record {
    sound = λ i j c. elim (sees test i) as (λ b. (if b then l i else pure a i) ≡ Ok (c, j) → HasWord m (L or gives a) i j c) [
      | true ↦ λ h. let one = x.sound i j c h in (one.0, one.1, inl one.2)
      | false ↦ λ h. let same = answered a c i j h in ([], same.1, inr (refl, same.0))
    ];
    complete = λ us j b. elim [
      | inl is ↦ λ h.
          rw (leads-append test us j.left (starts.leads us b is)) (x.complete us j b is (both_without test stops j.left h).1)
      | inr (e, same) ↦ λ h. rw (no_tokens m.item us e, same, (both_without test stops j.left h).0) refl
    ];
  }

  -- one token, with its meaning
  pub one_exact : {A : Type 0} {stops : Test} (sign : ℕ → GrammarToken → Option A) (meaning : T → Option A)
      → ((p : PlacedToken) → sign p.at p.token ≡ meaning (m.item p)) → Exact m stops (one meaning) (one_from m.wrong sign)
  one_exact {A} {stops} sign meaning agree = record { sound = λ i j a. found i.left i.ending j a; complete = read }
    where
      found : (ps : List PlacedToken) (e : Ending) (j : Input) (a : A)
          → one_from m.wrong sign (record { left = ps; ending = e }) ≡ Ok (a, j)
          → HasWord m (one meaning) (record { left = ps; ending = e }) j a
      found [] e j a h = cc
      found (p ∷ ps) e j a h = let is : sign p.at p.token ≡ Some a = grind arith in
          (p ∷ [], grind arith, (m.item p, refl, cc (agree p)))

      read : (us : List PlacedToken) (j : Input) (a : A) → one meaning (map m.item us) a → first_is stops j.left ≡ false
          → one_from m.wrong sign (before us j) ≡ Ok (a, j)
      read (u ∷ []) j a (t, is, means) h = let same : m.item u ≡ t = cc in rw (agree u ∙ ap meaning same ∙ means) refl
      read us j a (t, is, means) h = cc

  -- items that begin with a token of `begins`
  module _ {A : Type 0} (begins stops : Test) (L : Language T A) (starts : Starts m begins L) (apart : Apart begins stops) where
    many_first : (us : List PlacedToken) (x : A) (xs : List A) → Many L (map m.item us) (x ∷ xs) → first_is begins us ≡ true
    many_first us x xs are = let (vs, ws, cut, is, others) = many_parts m.item us x xs are in
        rw cut (leads-append begins vs ws (starts.leads vs x is))

    pub many_leads : (us : List PlacedToken) (xs : List A) → Many L (map m.item us) xs → (rest : List PlacedToken)
        → first_is stops rest ≡ false → first_is stops (us ++ rest) ≡ false
    many_leads us [] are rest h = rw (no_parts m.item us are) h
    many_leads us (x ∷ xs) are rest h =
        led begins stops apart (us ++ rest) (leads-append begins us rest (many_first us x xs are))

    many_short : (us : List PlacedToken) (xs : List A) → Many L (map m.item us) xs → length xs ≤ length us
    many_short us [] are = omega arith
    many_short us (x ∷ xs) are =
        let (vs, ws, cut, is, others) = many_parts m.item us x xs are in
        let rest = many_short ws xs others in
        let some = leading begins vs (starts.leads vs x is) in
        omega (arith, length-append vs ws, ap length cut)

    module _ {r : Parser Fault A} (x : Exact m stops L r) where
      many_sound : (n : ℕ) (found : List A) (i j : Input) (all : List A) → many_from begins r n found i ≡ Ok (all, j)
          → HasWord m (UpTo n L found) i j all
      unfolding many_from
      many_sound zero found i j all = λ h. let same = answered {Fault = Fault} found all i j h in
          ([], same.1, ([], none, omega arith, cc (append-nil found)))
      many_sound (suc n) found i j all =
          elim (sees begins i) as (λ b.
          (if b then parsing.◌>>=◌ r (λ a. many_from begins r n (found ++ a ∷ [])) i else pure found i) ≡ Ok (all, j)
          → HasWord m (UpTo (suc n) L found) i j all) [
            | true ↦ λ h.
                let one = opened (r i) (λ a. many_from begins r n (found ++ a ∷ [])) (all, j) h in
                let first = x.sound i one.0.1 one.0.0 one.1 in
                let (us, cut, (xs, are, le, same)) = many_sound n (found ++ one.0.0 ∷ []) one.0.1 j all one.2 in (
                  first.0 ++ us,
                  cc (first.1, before-append first.0 us j),
                  (
                    one.0.0 ∷ xs,
                    rw map-append (more (map m.item first.0) (map m.item us) one.0.0 xs first.2 are),
                    omega arith,
                    cc (append_assoc found (one.0.0 ∷ []) xs),
                  ),
                )
            | false ↦ λ h. let same = answered {Fault = Fault} found all i j h in
                ([], same.1, ([], none, omega arith, cc (append-nil found)))
          ]

      many_complete : (n : ℕ) (found : List A) (us : List PlacedToken) (xs : List A) → Many L (map m.item us) xs → (j : Input)
          → first_is (λ t. begins t || stops t) j.left ≡ false → length xs ≤ n
          → many_from begins r n found (before us j) ≡ Ok (found ++ xs, j)
      unfolding many_from
      many_complete n found us [] are j h le = rw (no_parts m.item us are, append-nil found) (stop n)
        where
          stop : (n : ℕ) → many_from begins r n found j ≡ Ok (found, j)
          stop zero = refl
          stop (suc n) = rw (both_without begins stops j.left h).0 refl
      many_complete zero found us (y ∷ ys) are j h le = absurd (omega arith)
      many_complete (suc n) found us (y ∷ ys) are j h le =
          let (vs, ws, cut, is, others) = many_parts m.item us y ys are in
          let yes : sees begins (before us j) ≡ true = leads-append begins us j.left (many_first us y ys are) in
          let next = many_leads ws ys others j.left (both_without begins stops j.left h).1 in
          let one = x.complete vs (before ws j) y is next in
          let two = many_complete n (found ++ y ∷ []) ws ys others j h (omega arith) in
          rw yes (rw (cut, append_assoc, one) (cc (append_assoc found (y ∷ []) ys)))

  -- further items after those found
  pub further_exact : {A : Type 0} (single : Bool) (found : List A) {begins stops : Test} {L : Language T A}
      {r : Parser Fault A} → Exact m stops L r → Starts m begins L → Apart begins stops
      → Exact m (λ t. begins t || stops t) (further single found L) (further_from single begins r found)
  further_exact true found {begins} {stops} {L} x starts apart = record {
    sound = many_sound begins stops L starts apart x 1 found;
    complete = λ us j all (xs, are, le, same) h. rw same (many_complete begins stops L starts apart x 1 found us xs are j h le);
  }
  further_exact false found {begins} {stops} {L} x starts apart = record {
    sound = λ i j all h.
        let (us, cut, (xs, are, le, same)) = many_sound begins stops L starts apart x (length i.left) found i j all h in
        (us, cut, (xs, are, tt, same));
    complete = λ us j all (xs, are, le, same) h.
        let short = many_short begins stops L starts apart us xs are in
        let enough : length xs ≤ length (us ++ j.left) = omega (arith, length-append us j.left) in
        rw same (many_complete begins stops L starts apart x (length (us ++ j.left)) found us xs are j h enough);
  }

  -- any number of items
  pub many_exact : {A : Type 0} {begins stops : Test} {L : Language T A} {r : Parser Fault A}
      → Exact m stops L r → Starts m begins L → Apart begins stops
      → Exact m (λ t. begins t || stops t) (Many L) (further_from false begins r [])
  many_exact {A} {L = L} x starts apart =
      let y = further_exact false [] x starts apart in
      record {
        sound = λ i j all h. (let f = y.sound i j all h in (f.0, f.1, subst (Many L (map m.item f.0)) (sym f.2.3) f.2.1));
        complete = λ us j all are. y.complete us j all (all, are, tt, refl);
      }

  -- items, followed by something else
  pub further_then : {A B : Type 0} (single : Bool) (found : List A) (begins inner outer : Test)
      {those : Test} {L : Language T A} {S : List A → Language T B} → Starts m begins L
      → Apart begins inner
      → ((xs : List A) → Starts m those (S xs)) → Apart those inner
      → Before m outer inner (further single found L >>= S)
  further_then {A} {B} single found begins inner outer {those} {L} {S} starts apart following away vs rest b word h =
      let (us, ws, all, cut, (xs, are, le, is), later) = parts m.item vs (further single found L) S b word in
      let next = led those inner away (ws ++ rest) (leads-append those ws rest ((following all).leads ws b later)) in
      rw (cut, append_assoc us ws rest) (many_leads begins inner L starts apart us xs are (ws ++ rest) next)

  -- and items followed by nothing
  pub further_after : {A B : Type 0} (single : Bool) (found : List A) (begins stops : Test)
      {L : Language T A} (f : List A → B) → Starts m begins L → Apart begins stops
      → Before m (λ t. begins t || stops t) stops (further single found L >>= (λ xs. gives (f xs)))
  further_after single found begins stops {L} f starts apart vs rest b (us, ws, all, e, (xs, are, le, is), (no_more, same)) h =
      let whole : map m.item vs ≡ us = cc (append-nil us) in
      many_leads begins stops L starts apart vs xs (rw whole are) rest (both_without begins stops rest h).1

  -- ---- first tokens

  pub then_starts : {A B : Type 0} {test : Test} {R : Language T A} {S : A → Language T B}
      → Starts m test R → Starts m test (R >>= S)
  then_starts {A} {B} {test} {R} {S} x = record {
    leads = λ us b word. let (vs, ws, a, cut, is, later) = parts m.item us R S b word in
        rw cut (leads-append test vs ws (x.leads vs a is));
  }

  pub one_starts : {A : Type 0} {test : Test} (meaning : T → Option A)
      → ((p : PlacedToken) (a : A) → meaning (m.item p) ≡ Some a → test p.token ≡ true) → Starts m test (one meaning)
  one_starts meaning h = record { leads = elim [ [] ↦ λ a (t, e, is). cc | u ∷ us ↦ λ a (t, e, is). h u a (cc) ] }

  pub or_starts : {A : Type 0} {these those : Test} {L M : Language T A} → Starts m these L
      → Starts m those M → Starts m (λ t. these t || those t) (L or M)
  or_starts {these = these} {those = those} x y = record {
    leads = λ us a. elim [
      | inl is ↦ either these those us (inl (x.leads us a is))
      | inr is ↦ either these those us (inr (y.leads us a is))
    ];
  }

  -- a language or nothing, followed by what begins with another token
  pub maybe_starts : {A B : Type 0} {these those : Test} {L : Language T A} {S : A → Language T B}
      (c : A) → Starts m these L → ((a : A) → Starts m those (S a))
      → Starts m (λ t. these t || those t) ((L or gives c) >>= S)
  maybe_starts {these = these} {those = those} c x y = record {
    leads = λ us b (vs, ws, a, e, how, later). elim how [
      | inl is ↦
          let cut = split m.item us vs ws e in
          either these those us
          (inl (rw cut.2 (leads-append these cut.0 cut.1 (x.leads cut.0 a (rw cut.3 is)))))
      | inr (empty, same) ↦
          let all : map m.item us ≡ ws = cc in either these those us (inr ((y a).leads us b (rw all later)))
    ];
  }

  -- ---- the rest after a part

  -- the end of a form
  pub ends_exact : {A B : Type 0} {stops : Test} {R : Language T A} {r : Parser Fault A} (f : A → B)
      → Exact m stops R r → Exact m stops (R >>= (λ a. gives (f a))) (parsing.◌>>=◌ r (λ a. pure (f a)))
  ends_exact f x = then_exact x (λ a. pure_exact (f a)) (λ a vs rest b (e, is) h. rw (no_tokens m.item vs e) h)

  -- any continuation
  pub any_then : {A B : Type 0} {stops : Test} {R : Language T A} {S : A → Language T B} {r : Parser Fault A}
      {s : A → Parser Fault B}
      → Exact m nowhere R r → ((a : A) → Exact m stops (S a) (s a)) → Exact m stops (R >>= S) (parsing.◌>>=◌ r s)
  any_then x y = then_exact x y (λ a vs rest b is h. anywhere (vs ++ rest))

  -- a continuation that begins with a token that cannot continue the part
  pub start_then : {A B : Type 0} {these inner stops : Test} {R : Language T A} {S : A → Language T B} {r : Parser Fault A}
      {s : A → Parser Fault B}
      → Exact m inner R r → ((a : A) → Exact m stops (S a) (s a)) → ((a : A) → Starts m these (S a)) → Apart these inner
      → Exact m stops (R >>= S) (parsing.◌>>=◌ r s)
  start_then {these = these} {inner = inner} x y starts apart =
      then_exact x y (λ a vs rest b is h.
      led these inner apart (vs ++ rest) (leads-append these vs rest ((starts a).leads vs b is)))

  -- ---- a parser that succeeds shortens the input

  pub shortens : {A : Type 0} {stops test : Test} {L : Language T A} {r : Parser Fault A}
      → Exact m stops L r → Starts m test L → (i j : Input) (a : A) → r i ≡ Ok (a, j) → length j.left < length i.left
  shortens {A} {stops} {test} {L} {r} x starts i j a h =
      let found = x.sound i j a h in
      let some = leading test found.0 (starts.leads found.0 a found.2) in
      omega (arith, ap (λ (k : Input). length k.left) found.1, length-append found.0 j.left)
