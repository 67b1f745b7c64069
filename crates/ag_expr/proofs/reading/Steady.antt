-- Where a parser fails: the tokens before are a prefix of a word, and the next token alone decides, whatever
-- follows it. In these definitions r is a parser, and q the same parser with as many levels or more. L is their language, us are
-- the tokens before the fault f, and j is the input from there on.
use Rattle.ag_expr.proofs.Common
use Common.{◌≡◌, ℕ, zero, suc, ◌<◌, ◌≤◌, Bool, true, false, if◌then◌else◌, List, [], ◌∷◌, ◌++◌, map, length, Option, Some, None}
use Common.{Ok, Err, ◌⊎◌, inl, inr, refl, sym, ◌∙◌, append_assoc, append-nil, arith, map-append, Ending, PlacedToken, Input}
use Common.{GrammarToken, next_token, sees, offset, meaning_of, Outcome, and_then, pure, one_from, choose, further_from, ◌>>=◌}
use Common.{◌or◌, gives, one, Many, none, more, further}
use Rattle.ag_tokens.specs.Parsing as parsing
use Rattle.ag_tokens.specs.Parsing.{Parser}
use Rattle.ag_tokens.specs.Parsing.{many_from}
use Rattle.ag_expr.proofs.reading.Exact.{Language, Manner, Test, before, before-append, first_is, opened, answered}

abbrev pub first_of : List PlacedToken → Option PlacedToken
first_of [] = None
first_of (p ∷ ps) = Some p

abbrev pub first : Input → Option PlacedToken
first i = first_of i.left

abbrev pub Heads : {T : Type 0} → T → List T → Type 0
Heads t [] = ⊥
Heads t (u ∷ us) = u ≡ t

module _ {T Fault : Type 0} (m : Manner T Fault) where
  -- after the tokens us, the parser cannot accept the next token, whatever follows it
  abbrev pub Stuck : {A : Type 0} → Parser Fault A → List PlacedToken → Input → Fault → Type 0
  Stuck r us j f = (f ≡ m.wrong j) × ((k : Input) → first k ≡ first j → r (before us k) ≡ Err (m.wrong k))

  -- after the tokens us, the parser fails at the next token, whatever follows it; the fault f says that it has too few levels;
  -- `rest` is the rest of a word, and begins with this token
  abbrev pub Deep : {A : Type 0} → Parser Fault A → List PlacedToken → Input → Fault → List T → Type 0
  Deep r us j f rest =
      (p : PlacedToken) × (ps : List PlacedToken) × (j.left ≡ p ∷ ps) × (m.is_deep f p ≡ true) × Heads (m.item p) rest
      × ((k : Input) → first k ≡ first j → (g : Fault) × (r (before us k) ≡ Err g))

  pub record Refused {A : Type 0} (L : Language T A) (r q : Parser Fault A) (i : Input) (f : Fault) : Type 0 where
    pub us : List PlacedToken
    pub j : Input
    pub cut : i ≡ before us j
    pub rest : List T
    pub a : A
    pub begins : L (map m.item us ++ rest) a
    pub how : Stuck q us j f ⊎ Deep r us j f rest

  -- The tokens before j are a word that means a. On each input with these tokens and the same next token, r and q return a.
  abbrev pub Succeeds : {A : Type 0} → Language T A → Parser Fault A → Parser Fault A → Input → Input → A → Type 0
  Succeeds L r q i j a = (us : List PlacedToken) × (i ≡ before us j) × L (map m.item us) a
      × ((k : Input) → first k ≡ first j → (r (before us k) ≡ Ok (a, k)) × (q (before us k) ≡ Ok (a, k)))

  -- If r succeeds on the input i, `Succeeds` holds. If r fails on i, the tokens before the fault are a prefix of a word, and
  -- either q can't accept the next token (`Stuck`), or r has too few levels for it (`Deep`).
  pub record SteadyAt {A : Type 0} (L : Language T A) (r q : Parser Fault A) (i : Input) : Type 0 where
    pub ok : (j : Input) (a : A) → r i ≡ Ok (a, j) → Succeeds L r q i j a
    pub err : (f : Fault) → m.is_reported f ≡ true → r i ≡ Err f → Refused L r q i f

  -- the same for all inputs, and the language has a word
  pub record Steady {A : Type 0} (L : Language T A) (r q : Parser Fault A) : Type 0 where
    pub at : (i : Input) → SteadyAt L r q i
    pub word : (w : List T) × (a : A) × L w a

same_first : (us : List PlacedToken) (j k : Input) → first k ≡ first j → first (before us k) ≡ first (before us j)
same_first [] j k e = e
same_first (u ∷ us) j k e = refl

pub same_first_token : (test : Test) (ps qs : List PlacedToken) → first_of ps ≡ first_of qs
    → first_is test ps ≡ first_is test qs
same_first_token test ps qs e = grind arith

same_sign : {A : Type 0} (sign : ℕ → GrammarToken → Option A) (k i : Input) → first k ≡ first i
    → meaning_of sign (offset k) (next_token k) ≡ meaning_of sign (offset i) (next_token i)
same_sign sign k i e = grind arith

heads-append : {T : Type 0} (t : T) (us vs : List T) → Heads t us → Heads t (us ++ vs)
heads-append t us vs h = grind arith

module _ {T Fault : Type 0} {m : Manner T Fault} where
  -- if a part is refused after the tokens vs, the whole is refused there too
  lift : {A B : Type 0} {L : Language T A} {M : Language T B} {r q : Parser Fault A} {s t : Parser Fault B}
      (vs : List PlacedToken) (i j : Input) (f : Fault) → i ≡ before vs j → Refused m L r q j f
      → ((ts : List T) (a : A) → L ts a → (w : List T) × (b : B) × M (map m.item vs ++ (ts ++ w)) b)
      → ((x : Input) (g : Fault) → first x ≡ first j
      → (r x ≡ Err g → s (before vs x) ≡ Err g) × (q x ≡ Err g → t (before vs x) ≡ Err g)) → Refused m M s t i f
  lift {r = r} {q = q} {s = s} {t = t} vs i j f e x embed keeps =
      let found = embed (map m.item x.us ++ x.rest) x.a x.begins in
      let text : map m.item (vs ++ x.us) ++ (x.rest ++ found.0) ≡ map m.item vs ++ ((map m.item x.us ++ x.rest) ++ found.0) =
      simp (map-append, append_assoc) in
      record {
        us = vs ++ x.us;
        j = x.j;
        cut = cc (before-append vs x.us x.j);
        rest = x.rest ++ found.0;
        a = found.1;
        begins = rw text found.2;
        how = elim x.how [
          | inl (says, stuck) ↦ inl (says, λ k h. (kept k (m.wrong k) h).1 (stuck k h))
          | inr (p, ps, l, d, h, deep) ↦
              inr (p, ps, l, d, heads-append (m.item p) x.rest _ h, λ k e. let g = deep k e in (g.0, (kept k g.0 e).0 g.1))
        ];
      }
    where
      kept : (k : Input) (g : Fault) → first k ≡ first x.j
          → (r (before x.us k) ≡ Err g → s (before (vs ++ x.us) k) ≡ Err g)
          × (q (before x.us k) ≡ Err g → t (before (vs ++ x.us) k) ≡ Err g)
      kept k g h = rw append_assoc (keeps (before x.us k) g (cc (same_first x.us x.j k h)))

  then_at : {A B : Type 0} {R : Language T A} {S : A → Language T B} {r q : Parser Fault A}
      {s t : A → Parser Fault B} {i : Input}
      → SteadyAt m R r q i → ((a : A) (j : Input) → r i ≡ Ok (a, j) → SteadyAt m (S a) (s a) (t a) j)
      → ((a : A) → (w : List T) × (b : B) × S a w b)
      → SteadyAt m (R >>= S) (parsing.◌>>=◌ r s) (parsing.◌>>=◌ q t) i
  then_at {R = R} {S = S} {r = r} {q = q} {s = s} {t = t} {i = i} x y word = record {
    ok = λ j b h.
        let one = opened (r i) s (b, j) h in
        let head = x.ok one.0.1 one.0.0 one.1 in
        let second = (y one.0.0 one.0.1 one.1).ok j b one.2 in (
          head.0 ++ second.0,
          cc (before-append head.0 second.0 j),
          (map m.item head.0, map m.item second.0, one.0.0, map-append m.item head.0 second.0, head.2, second.2),
          λ k e.
              let one = head.3 (before second.0 k) (cc (same_first second.0 j k e)) in
              let two = second.3 k e in
              (rw (append_assoc, one.0) two.0, rw (append_assoc, one.1) two.1),
        );
    err = λ f reported. (elim (r i) as (λ o. r i ≡ o → and_then o s ≡ Err f
        → Refused m (R >>= S) (parsing.◌>>=◌ r s) (parsing.◌>>=◌ q t) i f) [
          | Err g ↦ λ e h. lift [] i i f refl (x.err f reported (cc))
              (λ ts a is. let w = word a in (w.0, w.1, (ts, w.0, a, refl, is, w.2))) (λ z g fr. (λ e. cc, λ e. cc))
          | Ok (a, j) ↦ λ e h.
              let head = x.ok j a e in
              lift head.0 i j f head.1 ((y a j e).err f reported h)
              (λ ts b is. ([], b, (map m.item head.0, ts ++ [], a, refl, head.2, rw append-nil is)))
              (λ z g fr. (λ e. cc ((head.3 z fr).0), λ e. cc ((head.3 z fr).1)))
        ]) refl;
  }

  -- a larger language, and parsers that are equal on inputs with the same first token
  as_well : {A : Type 0} {L M : Language T A} {r r' q q' : Parser Fault A} {i : Input}
      → ((ts : List T) (a : A) → L ts a → M ts a) → ((k : Input) → first k ≡ first i → r' k ≡ r k)
      → ((k : Input) → first k ≡ first i → q' k ≡ q k) → SteadyAt m L r q i → SteadyAt m M r' q' i
  as_well {i = i} wider same all x = record {
    ok = λ j a h. let one = x.ok j a (sym (same i refl) ∙ h) in (
      one.0,
      one.1,
      wider _ a one.2,
      λ k e.
          let here : first (before one.0 k) ≡ first i = cc (same_first one.0 j k e) in
          (same _ here ∙ (one.3 k e).0, all _ here ∙ (one.3 k e).1),
    );
    err = λ f reported h. lift [] i i f refl (x.err f reported (sym (same i refl) ∙ h))
        (λ ts a is. ([], a, wider _ a (rw append-nil is))) (λ z g fr. (λ e. same z fr ∙ e, λ e. all z fr ∙ e));
  }

  choose_at : {A : Type 0} (test : Test) {L M : Language T A} {l n l' n' : Parser Fault A} {i : Input}
      → (sees test i ≡ true → SteadyAt m L l l' i) → (sees test i ≡ false → SteadyAt m M n n' i)
      → SteadyAt m (L or M) (choose test l n) (choose test l' n') i
  choose_at test {L} {M} {l} {n} {l'} {n'} {i} x y = go (sees test i) refl
    where
      seen : (b : Bool) → sees test i ≡ b → (k : Input) → first k ≡ first i → sees test k ≡ b
      seen b is k e = cc (same_first_token test k.left i.left e)

      go : (b : Bool) → sees test i ≡ b → SteadyAt m (L or M) (choose test l n) (choose test l' n') i
      go true is = let yes = seen true is in
          as_well {r = l} {q = l'} (λ ts a is. inl is) (λ k e. rw (yes k e) refl) (λ k e. rw (yes k e) refl) (x is)
      go false is = let no = seen false is in
          as_well {r = n} {q = n'} (λ ts a is. inr is) (λ k e. rw (no k e) refl) (λ k e. rw (no k e) refl) (y is)

  pure_at : {A : Type 0} (a : A) (i : Input) → SteadyAt m (gives a) (pure a) (pure a) i
  pure_at a i = record {
    ok = λ j b h. let same = answered a b i j h in
        ([], same.1, (refl, same.0), λ k e. (cc, cc));
    err = λ f reported h. cc;
  }

  -- ---- the same for all inputs

  -- a larger language
  pub wider_steady : {A : Type 0} {L M : Language T A} {r q : Parser Fault A} → ((ts : List T) (a : A) → L ts a → M ts a)
      → Steady m L r q → Steady m M r q
  wider_steady wider x = record {
    at = λ i. as_well wider (λ k e. refl) (λ k e. refl) (x.at i);
    word = let (w, a, is) = x.word in (w, a, wider w a is);
  }

  pub then_steady : {A B : Type 0} {R : Language T A} {S : A → Language T B} {r q : Parser Fault A}
      {s t : A → Parser Fault B}
      → Steady m R r q → ((a : A) → Steady m (S a) (s a) (t a))
      → Steady m (R >>= S) (parsing.◌>>=◌ r s) (parsing.◌>>=◌ q t)
  then_steady x y =
      let w = x.word in
      let v = (y w.1).word in
      record {
        at = λ i. then_at (x.at i) (λ a j e. (y a).at j) (λ a. (y a).word);
        word = (w.0 ++ v.0, v.1, (w.0, v.0, w.1, refl, w.2, v.2));
      }

  pub or_steady : {A : Type 0} {test : Test} {L M : Language T A} {l n l' n' : Parser Fault A}
      → Steady m L l l' → Steady m M n n' → Steady m (L or M) (choose test l n) (choose test l' n')
  or_steady {test = test} x y =
      record { at = λ i. choose_at test (λ b. x.at i) (λ b. y.at i); word = let w = x.word in (w.0, w.1, inl w.2) }

  pub pure_steady : {A : Type 0} (a : A) → Steady m (gives a) (pure a) (pure a)
  pure_steady a = record { at = pure_at a; word = ([], a, (refl, refl)) }

  pub ends_steady : {A B : Type 0} {R : Language T A} {r q : Parser Fault A} (f : A → B) → Steady m R r q
      → Steady m (R >>= (λ a. gives (f a))) (parsing.◌>>=◌ r (λ a. pure (f a))) (parsing.◌>>=◌ q (λ a. pure (f a)))
  ends_steady f x = then_steady x (λ a. pure_steady (f a))

  pub one_steady : {A : Type 0} (sign : ℕ → GrammarToken → Option A) (meaning : T → Option A)
      → ((p : PlacedToken) → sign p.at p.token ≡ meaning (m.item p)) → (w : T) (v : A) → meaning w ≡ Some v
      → Steady m (one meaning) (one_from m.wrong sign) (one_from m.wrong sign)
  one_steady {A} sign meaning agree w v means = record {
    at = λ i. record { ok = λ j a. found i.left i.ending j a; err = λ f reported. refused i f };
    word = (w ∷ [], v, (w, refl, means));
  }
    where
      read : Parser Fault A
      read = one_from m.wrong sign

      found : (ps : List PlacedToken) (e : Ending) (j : Input) (a : A) → read (record { left = ps; ending = e }) ≡ Ok (a, j)
          → Succeeds m (one meaning) read read (record { left = ps; ending = e }) j a
      found [] e j a h = cc
      found (p ∷ ps) e j a h = let is : sign p.at p.token ≡ Some a = grind arith in
          (p ∷ [], grind arith, (m.item p, refl, cc (agree p)), λ k e. (rw is refl, rw is refl))

      refused : (i : Input) (f : Fault) → read i ≡ Err f → Refused m (one meaning) read read i f
      refused i f h =
          let same : (f ≡ m.wrong i) × (meaning_of sign (offset i) (next_token i) ≡ None) = (grind arith, grind arith) in
          record {
            us = [];
            j = i;
            cut = refl;
            rest = w ∷ [];
            a = v;
            begins = (w, refl, means);
            how = inl (same.0, λ k e. rw (same_sign sign k i e ∙ same.1) refl);
          }

-- ---- repetition

abbrev pub Shortens : {Fault A : Type 0} → Parser Fault A → Type 0
Shortens {Fault} {A} r = (i j : Input) (a : A) → r i ≡ Ok (a, j) → length j.left < length i.left

nothing_left : (test : Test) (ps : List PlacedToken) → length ps ≤ 0 → first_is test ps ≡ false
nothing_left test ps h = grind arith

many_enough : {Fault A : Type 0} (begins : Test) (r : Parser Fault A) → Shortens r
    → (n m : ℕ) (found : List A) (i : Input) → length i.left ≤ n → length i.left ≤ m
    → many_from begins r n found i ≡ many_from begins r m found i
unfolding many_from
many_enough begins r short zero zero found i e d = refl
many_enough begins r short zero (suc m) found i e d = rw (nothing_left begins i.left e) refl
many_enough begins r short (suc n) zero found i e d = rw (nothing_left begins i.left d) refl
many_enough {Fault} {A} begins r short (suc n) (suc m) found i e d =
    go (sees begins i) (r i) refl (many_enough begins r short n m)
  where
    go : (b : Bool) (o : Outcome Fault A) → r i ≡ o
        → ((found : List A) (i : Input) → length i.left ≤ n → length i.left ≤ m
        → many_from begins r n found i ≡ many_from begins r m found i)
        → (if b then and_then o (λ a. many_from begins r n (found ++ a ∷ [])) else pure found i)
        ≡ (if b then and_then o (λ a. many_from begins r m (found ++ a ∷ [])) else pure found i)
    go false o is ih = refl
    go true (Err f) is ih = refl
    go true (Ok (a, j)) is ih = let less = short i j a is in ih (found ++ a ∷ []) j (omega arith) (omega arith)

abbrev Step : {Fault A : Type 0} → Test → Parser Fault A → List A → Parser Fault (List A)
Step begins r found = choose begins (parsing.◌>>=◌ r (λ a. further_from false begins r (found ++ a ∷ []))) (pure found)

-- one step, and then as many as there are
pub many_turn : {Fault A : Type 0} (begins : Test) (r : Parser Fault A) → Shortens r → (found : List A) (i : Input)
    → further_from false begins r found i ≡ Step begins r found i
unfolding many_from
many_turn {Fault} {A} begins r short found i =
    many_enough begins r short (length i.left) (suc (length i.left)) found i (omega arith) (omega arith)
    ∙ go (sees begins i) (r i) refl
  where
    go : (b : Bool) (o : Outcome Fault A) → r i ≡ o
        → (if b then and_then o (λ a. many_from begins r (length i.left) (found ++ a ∷ [])) else pure found i)
        ≡ (if b then and_then o (λ a. further_from false begins r (found ++ a ∷ [])) else pure found i)
    go false o is = refl
    go true (Err f) is = refl
    go true (Ok (a, j)) is = let less = short i j a is in
        many_enough begins r short (length i.left) (length j.left) (found ++ a ∷ []) j (omega arith) (omega arith)

-- a step as a language
abbrev Turn : {T A : Type 0} → Language T A → (A → Language T (List A)) → List A → Language T (List A)
Turn L following found = (L >>= following) or gives found

turned : {T A : Type 0} (L : Language T A) (found : List A) (ts : List T) (all : List A)
    → Turn L (λ a. further false (found ++ a ∷ []) L) found ts all → further false found L ts all
turned L found ts all (inl (us, vs, a, e, is, (xs, others, le, same))) =
    rw e (a ∷ xs, more us vs a xs is others, tt, same ∙ append_assoc found (a ∷ []) xs)
turned L found ts all (inr (empty, same)) = rw empty ([], none, tt, cc (append-nil found))

module _ {T Fault : Type 0} {m : Manner T Fault} where
  more_at : {A : Type 0} (begins : Test) (L : Language T A) (r q : Parser Fault A) → Steady m L r q
      → Shortens r → Shortens q → (n : ℕ) (found : List A) (i : Input) → length i.left ≤ n
      → SteadyAt m (further false found L) (further_from false begins r found) (further_from false begins q found) i
  more_at begins L r q x short shorter zero found i le =
      as_well (turned L found) (λ k e. many_turn begins r short found k) (λ k e. many_turn begins q shorter found k)
      (choose_at begins {L = L >>= (λ a. further false (found ++ a ∷ []) L)}
      {l = parsing.◌>>=◌ r (λ a. further_from false begins r (found ++ a ∷ []))}
      {l' = parsing.◌>>=◌ q (λ a. further_from false begins q (found ++ a ∷ []))}
      (λ b. cc (nothing_left begins i.left le)) (λ b. pure_at found i))
  more_at begins L r q x short shorter (suc n) found i le =
      as_well (turned L found) (λ k e. many_turn begins r short found k) (λ k e. many_turn begins q shorter found k)
      (choose_at begins
      (λ b. then_at (x.at i) (λ a j e. let less = short i j a e in
      more_at begins L r q x short shorter n (found ++ a ∷ []) j (omega arith))
      (λ a. ([], (found ++ a ∷ []) ++ [], ([], none, tt, refl)))) (λ b. pure_at found i))

  pub further_steady : {A : Type 0} (single : Bool) (begins : Test) (found : List A) {L : Language T A}
      {r q : Parser Fault A} → Steady m L r q → Shortens r → Shortens q
      → Steady m (further single found L) (further_from single begins r found) (further_from single begins q found)
  unfolding many_from
  further_steady {A} false begins found {L} {r} {q} x short shorter = record {
    at = λ i. more_at begins L r q x short shorter (length i.left) found i (omega arith);
    word = (([], found ++ [], ([], none, tt, refl)));
  }
  further_steady {A} true begins found {L} {r} {q} x short shorter = record {
    at =
        λ i. as_well all (λ k e. refl) (λ k e. refl)
        (choose_at begins (λ b. (ends_steady (λ a. found ++ a ∷ []) x).at i) (λ b. pure_at found i));
    word = ([], found ++ [], ([], none, omega arith, refl));
  }
    where
      all : (ts : List T) (xs : List A) → Turn L (λ a. gives (found ++ a ∷ [])) found ts xs → further true found L ts xs
      all ts xs (inl (us, vs, a, e, is, (no_more, same))) = let whole : ts ≡ us ++ [] = cc in
          rw whole (a ∷ [], more us [] a [] is none, omega arith, same)
      all ts xs (inr (empty, same)) = rw empty ([], none, omega arith, cc (append-nil found))

  -- any number of items
  pub many_steady : {A : Type 0} (begins : Test) {L : Language T A} {r : Parser Fault A} → Steady m L r r
      → Shortens r → Steady m (Many L) (further_from false begins r []) (further_from false begins r [])
  many_steady {A} begins {L} x short =
      wider_steady (λ ts xs (ys, are, le, same). rw same are) (further_steady false begins [] x short short)
