-- Values that are read have the bytes as their spelling, and spellings are read as their values.
use Rattle.std.proofs.Common.{◌≡◌, ℕ, zero, suc, ◌^◌, ◌-◌, ◌<◌, ◌≤◌, ℤ, Bool, true, false, ◌&&◌, ◌||◌, true≢false, cond, List, []}
use Rattle.std.proofs.Common.{◌∷◌, ◌++◌, length, map, sum, take, None, Some, refl, sym, ap, subst, ◌∙◌, append_assoc, arith}
use Rattle.std.proofs.lemmas.List.{append-nil, length-append, take_at}
use Rattle.std.proofs.lemmas.List.Sums.{sum_by-cons}
use Rattle.std.specs.Int.{w32, w64, to_be_bytes, cast_signed, cast_unsigned}
use Rattle.std.proofs.lemmas.Int.{of_z-to_z, to_z-of_z}
use Rattle.ag_value.specs.declared.value.ErrorCode.{ErrorCode}
use Rattle.ag_value.specs.declared.value.ErrorCode.TheVariants as code
use Rattle.ag_value.specs.declared.value.Value.{Value, out-Value, roll-Value, roll-out-Value}
use Rattle.ag_value.specs.declared.value.Value.TheOpen.{Value-F}
use Rattle.ag_value.specs.declared.value.Value.TheVariants as v
use Rattle.ag_value.specs.declared.value.Value.TheVariants.{rolls-Num, rolls-Text, rolls-List, rolls-Table, rolls-Fault}
use Rattle.ag_value.specs.Measure.{weight_of, weight_of_pair, depth_of, greatest, max_weight}
use Rattle.ag_value.specs.Reading.{◌>>=◌, Fails, Read, number_at, text_at, code_at, fault_at, all_at, item_at, pair_at, value_at}
use Rattle.ag_value.specs.Spelling.{counted, joined, number_of, spelling_of, spelling_of_pair}
use Rattle.ag_value.proofs.Fields.{IsBytes, IsBytes-rest, Takes, Takes-then, Takes-tag, wide32, wide64, number_takes}
use Rattle.ag_value.proofs.Fields.{number_again, text_takes, text_again}
use Rattle.ag_value.proofs.Layers.{spelling-Num, spelling-Text, spelling-List, spelling-Table, spelling-Fault, weight-Text}
use Rattle.ag_value.proofs.Layers.{weight-List, weight-Table, depth-Num, depth-Text, depth-List, depth-Table, depth-Fault}
use Rattle.ag_value.proofs.Layers.{fault-Num, fault-Text, fault-List, fault-Table, fault-Fault, item-Num, item-Text, item-List}
use Rattle.ag_value.proofs.Layers.{item-Table, item-Fault}
use Rattle.ag_value.proofs.Lengths.{length-spelling}
use Rattle.ag_value.proofs.Weights.{few_items, few_pairs}
use Rattle.ag_value.specs.declared.fault.ValueFault.{ValueFault}
use Rattle.ag_value.specs.declared.fault.ValueFault.TheVariants.{Malformed, NoMemory}
use Rattle.ag_value.specs.Well.{IsWell, all_true, are_keys, is_fault, is_i64, is_item, is_item_pair, is_ascending, key_of}
use Rattle.std.specs.Str.{is_utf8}
use Rattle.std.specs.Prelude.{FitsSigned, pos, negsuc}
use Rattle.std.proofs.Math.Facts.{Fits-of_z, sfits_to_z}
use Rattle.std.proofs.lemmas.Bool.{and_parts, lt-ltb, ltb-true, or_left, or_right}
use Rattle.std.proofs.lemmas.Option.{cond_some, none-some, option_and_then_some, same_Some}

-- ---- values that are read have the bytes as their spelling

code_takes : (b : ℕ) (c : ErrorCode) → code_at b ≡ Some c → number_of c ≡ b
code_takes zero c e = absurd cc
code_takes (suc zero) c e = cc (same_Some code.Overflow c e)
code_takes (suc (suc zero)) c e = cc (same_Some code.Divide c e)
code_takes (suc (suc (suc zero))) c e = cc (same_Some code.Kind c e)
code_takes (suc (suc (suc (suc zero)))) c e = cc (same_Some code.Index c e)
code_takes (suc (suc (suc (suc (suc zero))))) c e = cc (same_Some code.Key c e)
code_takes (suc (suc (suc (suc (suc (suc zero)))))) c e = cc (same_Some code.Number c e)
code_takes (suc (suc (suc (suc (suc (suc (suc zero))))))) c e = cc (same_Some code.Big c e)
code_takes (suc (suc (suc (suc (suc (suc (suc (suc zero)))))))) c e = cc (same_Some code.Deep c e)
code_takes (suc (suc (suc (suc (suc (suc (suc (suc (suc b))))))))) c e = absurd cc

-- A reading function returned x, the pair of a value (`x.0`) and the bytes after it (`x.1`). The bytes begin with the spelling of
-- the value (`spell`), `test` holds of the value, and its `depth` is at most `levels`.
pub record IsRead {A : Type 0} (spell : A → List ℕ) (test : A → Bool) (depth : A → ℕ) (levels : ℕ) (bytes : List ℕ)
    (x : A × List ℕ) : Type 0 where
  pub takes : Takes bytes (spell x.0) x.1
  pub holds : test x.0 ≡ true
  pub shallow : depth x.0 ≤ levels

-- this holds of everything that the reading function `item` returns
abbrev pub Says : {A : Type 0} → (A → List ℕ) → (A → Bool) → (A → ℕ) → ℕ → (List ℕ → Read A) → Type 0
Says {A} spell test depth levels item = (bytes : List ℕ) (x : A × List ℕ) → IsBytes bytes → item bytes ≡ Some x
    → IsRead spell test depth levels bytes x

-- what `IsRead` states, for a list of n values that were read one after the other, and the bytes after them
pub record TakesAll {A : Type 0} (spell : A → List ℕ) (test : A → Bool) (depth : A → ℕ) (levels n : ℕ) (bytes : List ℕ)
    (xs : List A) (rest : List ℕ) : Type 0 where
  pub takes : Takes bytes (joined (map spell xs)) rest
  pub count : length xs ≡ n
  pub hold : all_true (map test xs) ≡ true
  pub shallow : greatest (map depth xs) ≤ levels

both_true : (a b : Bool) → a ≡ true → b ≡ true → (a && b) ≡ true
both_true true b p q = q
both_true false b p q = p

all_take : {A : Type 0} (spell : A → List ℕ) (test : A → Bool) (depth : A → ℕ) (levels : ℕ) (item : List ℕ → Read A)
    → Says spell test depth levels item → (n : ℕ) (prefix : List A) (bytes : List ℕ) (x : List A × List ℕ) → IsBytes bytes
    → all_at item n prefix bytes ≡ Some x → (xs : List A) × (x.0 ≡ prefix ++ xs) × TakesAll spell test depth levels n bytes xs x.1
unfolding all_at
all_take {A} spell test depth levels item says zero prefix bytes x is e =
    let same : (prefix, bytes) ≡ x = same_Some (prefix, bytes) x e in (
      [],
      cc (append-nil prefix),
      subst (λ (y : List A × List ℕ). TakesAll spell test depth levels 0 bytes [] y.1) same
          (record { takes = record { parts = refl; are_bytes = is }; count = refl; hold = refl; shallow = omega arith }),
    )
all_take {A} spell test depth levels item says (suc n) prefix bytes x is e =
    option_and_then_some (λ first. all_at item n (prefix ++ first.0 ∷ []) first.1) (item bytes) x e (λ first read others.
    let one = says bytes first is read in
    let more = all_take spell test depth levels item says n (prefix ++ first.0 ∷ []) first.1 x one.takes.are_bytes others in
    let low = one.shallow in
    let lower = more.2.shallow in (
      first.0 ∷ more.0,
      more.1 ∙ append_assoc prefix (first.0 ∷ []) more.0,
      record {
        takes = Takes-then bytes (spell first.0) first.1 (joined (map spell more.0)) x.1 one.takes more.2.takes;
        count = cc;
        hold = both_true (test first.0) (all_true (map test more.0)) one.holds more.2.hold;
        shallow = omega (arith, low, lower);
      },
    ))

abbrev IsItemRead : ℕ → List ℕ → Value × List ℕ → Type 0
IsItemRead = IsRead spelling_of is_item depth_of

abbrev depth_of_pair : List ℕ × Value → ℕ
depth_of_pair p = depth_of p.1

abbrev IsPairRead : ℕ → List ℕ → (List ℕ × Value) × List ℕ → Type 0
IsPairRead = IsRead spelling_of_pair is_item_pair depth_of_pair

pair_takes : (levels : ℕ) (item : List ℕ → Read Value) → Says spelling_of is_item depth_of levels item
    → Says spelling_of_pair is_item_pair depth_of_pair levels (pair_at item)
unfolding pair_at
pair_takes levels item says bytes x is e =
    option_and_then_some (λ key. item key.1 >>= λ value. Some ((key.0, value.0), value.1)) (text_at bytes) x e (λ key read more.
    option_and_then_some (λ value. Some ((key.0, value.0), value.1)) (item key.1) x more (λ value read' all.
    let first = text_takes bytes key.0 key.1 is read in
    let second = says key.1 value first.0.are_bytes read' in
    subst (λ (y : (List ℕ × Value) × List ℕ). IsPairRead levels bytes y) (same_Some ((key.0, value.0), value.1) x all)
    (record {
      takes = Takes-then bytes (counted key.0) key.1 (spelling_of value.0) value.1 first.0 second.takes;
      holds = second.holds;
      shallow = second.shallow;
    })))

is_ranged : (n : ℤ) → FitsSigned w64 n → is_i64 n ≡ true
is_ranged (pos n) h = lt-ltb _ _ h.sfits
is_ranged (negsuc n) h = lt-ltb _ _ h.sfits

item_takes : (levels : ℕ) → Says spelling_of is_item depth_of levels (item_at levels)
unfolding item_at
item_takes levels [] x is e = absurd cc
item_takes levels (zero ∷ rest) x is e =
    option_and_then_some (λ n. Some (v.Num (cast_signed w64 n.0), n.1)) (number_at w64 rest) x e (λ n read all.
    let t = number_takes w64 (2 ^ 64) wide64 rest n.0 n.1 (IsBytes-rest 0 rest is) read in
    let same : spelling_of (v.Num (cast_signed w64 n.0)) ≡ 0 ∷ to_be_bytes w64 n.0 =
    cc (spelling-Num (cast_signed w64 n.0), of_z-to_z w64 n.0 t.1) in
    subst (λ (y : Value × List ℕ). IsItemRead levels (0 ∷ rest) y) (same_Some (v.Num (cast_signed w64 n.0), n.1) x all) (record {
      takes = rw same (Takes-tag 0 rest (to_be_bytes w64 n.0) n.1 t.0);
      holds = item-Num (cast_signed w64 n.0) ∙ is_ranged (cast_signed w64 n.0) (sfits_to_z (record { fits = t.1 }));
      shallow = omega (arith, depth-Num (cast_signed w64 n.0));
    }))
item_takes levels (suc zero ∷ rest) x is e =
    option_and_then_some (λ text. Some (v.Text text.0, text.1)) (text_at rest) x e (λ text read all.
    let t = text_takes rest text.0 text.1 (IsBytes-rest 1 rest is) read in
    subst (λ (y : Value × List ℕ). IsItemRead levels (1 ∷ rest) y) (same_Some (v.Text text.0, text.1) x all) (record {
      takes = rw (spelling-Text text.0) (Takes-tag 1 rest (counted text.0) text.1 t.0);
      holds = item-Text text.0 ∙ t.1;
      shallow = omega (arith, depth-Text text.0);
    }))
item_takes zero (suc (suc zero) ∷ rest) x is e = absurd cc
item_takes (suc levels) (suc (suc zero) ∷ rest) x is e =
    option_and_then_some (λ n. all_at (item_at levels) n.0 [] n.1 >>= λ items. Some (v.List items.0, items.1))
    (number_at w32 rest) x e (λ n read more.
    option_and_then_some (λ items. Some (v.List items.0, items.1)) (all_at (item_at levels) n.0 [] n.1) x more (λ items read' all.
    let t = number_takes w32 (2 ^ 32) wide32 rest n.0 n.1 (IsBytes-rest 2 rest is) read in
    let taken =
    all_take spelling_of is_item depth_of levels (item_at levels) (item_takes levels) n.0 [] n.1 items t.0.are_bytes read' in
    let vs = taken.0 in
    let both = Takes-then rest (to_be_bytes w32 n.0) n.1 (joined (map spelling_of vs)) items.1 t.0 taken.2.takes in
    let same : spelling_of (v.List vs) ≡ 2 ∷ (to_be_bytes w32 n.0 ++ joined (map spelling_of vs)) = cc (spelling-List vs) in
    let low = taken.2.shallow in
    subst (λ (y : Value × List ℕ). IsItemRead (suc levels) (2 ∷ rest) y)
    (ap (λ (ws : List Value). (v.List ws, items.1)) (sym taken.1) ∙ same_Some (v.List items.0, items.1) x all) (record {
      takes = rw same (Takes-tag 2 rest (to_be_bytes w32 n.0 ++ joined (map spelling_of vs)) items.1 both);
      holds = cc (item-List vs);
      shallow = omega (arith, depth-List vs, low);
    })))
item_takes zero (suc (suc (suc zero)) ∷ rest) x is e = absurd cc
item_takes (suc levels) (suc (suc (suc zero)) ∷ rest) x is e =
    option_and_then_some (λ n. all_at (pair_at (item_at levels)) n.0 [] n.1 >>= λ pairs.
    cond (are_keys (map key_of pairs.0)) (Some (v.Table pairs.0, pairs.1)) None) (number_at w32 rest) x e (λ n read more.
    option_and_then_some (λ pairs. cond (are_keys (map key_of pairs.0)) (Some (v.Table pairs.0, pairs.1)) None)
    (all_at (pair_at (item_at levels)) n.0 [] n.1) x more (λ pairs read' all.
    let kept = cond_some (are_keys (map key_of pairs.0)) (v.Table pairs.0, pairs.1) x all in
    let t = number_takes w32 (2 ^ 32) wide32 rest n.0 n.1 (IsBytes-rest 3 rest is) read in
    let taken =
    all_take spelling_of_pair is_item_pair depth_of_pair levels (pair_at (item_at levels))
    (pair_takes levels (item_at levels) (item_takes levels)) n.0 [] n.1 pairs t.0.are_bytes read' in
    let ps = taken.0 in
    let both = Takes-then rest (to_be_bytes w32 n.0) n.1 (joined (map spelling_of_pair ps)) pairs.1 t.0 taken.2.takes in
    let same : spelling_of (v.Table ps) ≡ 3 ∷ (to_be_bytes w32 n.0 ++ joined (map spelling_of_pair ps)) =
    cc (spelling-Table ps) in
    let keys : are_keys (map key_of ps) ≡ true =
    subst (λ (qs : List (List ℕ × Value)). are_keys (map key_of qs) ≡ true) taken.1 kept.0 in
    let low : greatest (map (λ p. depth_of p.1) ps) ≤ levels = taken.2.shallow in
    subst (λ (y : Value × List ℕ). IsItemRead (suc levels) (3 ∷ rest) y)
    (ap (λ (qs : List (List ℕ × Value)). (v.Table qs, pairs.1)) (cc) ∙ kept.1) (record {
      takes = rw same (Takes-tag 3 rest (to_be_bytes w32 n.0 ++ joined (map spelling_of_pair ps)) pairs.1 both);
      holds = item-Table ps ∙ both_true (are_keys (map key_of ps)) (all_true (map is_item_pair ps)) keys taken.2.hold;
      shallow = omega (arith, depth-Table ps, low);
    })))
item_takes levels (suc (suc (suc (suc b))) ∷ rest) x is e = absurd cc

-- a value is an error, or a list or table may contain it
abbrev pub is_formed : Value → Bool
is_formed value = is_fault value || is_item value

of_item : (levels : ℕ) (bytes : List ℕ) (x : Value × List ℕ) → IsItemRead levels bytes x
    → IsRead spelling_of is_formed depth_of levels bytes x
of_item levels bytes x read =
    record { takes = read.takes; holds = or_right (is_fault x.0) (is_item x.0) read.holds; shallow = read.shallow }

pub read_is_spelled : (levels : ℕ) → Says spelling_of is_formed depth_of levels (value_at levels)
unfolding value_at fault_at
read_is_spelled levels [] x is e = absurd cc
read_is_spelled levels (zero ∷ rest) x is e = of_item levels _ x (item_takes levels (zero ∷ rest) x is e)
read_is_spelled levels (suc zero ∷ rest) x is e = of_item levels _ x (item_takes levels (suc zero ∷ rest) x is e)
read_is_spelled levels (suc (suc zero) ∷ rest) x is e = of_item levels _ x (item_takes levels (suc (suc zero) ∷ rest) x is e)
read_is_spelled levels (suc (suc (suc zero)) ∷ rest) x is e =
    of_item levels _ x (item_takes levels (suc (suc (suc zero)) ∷ rest) x is e)
read_is_spelled levels (suc (suc (suc (suc zero))) ∷ []) x is e = absurd cc
read_is_spelled levels (suc (suc (suc (suc zero))) ∷ b ∷ rest) x is e =
    option_and_then_some (λ c. Some (v.Fault c, rest)) (code_at b) x e (λ c read all.
    let same : spelling_of (v.Fault c) ≡ 4 ∷ b ∷ [] = cc (spelling-Fault c, code_takes b c read) in
    subst (λ (y : Value × List ℕ). IsRead spelling_of is_formed depth_of levels (4 ∷ b ∷ rest) y)
    (same_Some (v.Fault c, rest) x all) (record {
      takes = rw same (record { parts = refl; are_bytes = IsBytes-rest b rest (IsBytes-rest 4 (b ∷ rest) is) });
      holds = or_left (is_fault (v.Fault c)) (is_item (v.Fault c)) (fault-Fault c);
      shallow = omega (arith, depth-Fault c);
    }))
read_is_spelled levels (suc (suc (suc (suc (suc b)))) ∷ rest) x is e = absurd cc

-- ---- spellings are read as their values

without_first : (a b : Bool) → a ≡ false → (a || b) ≡ true → b ≡ true
without_first true b e h = absurd (true≢false e)
without_first false b e h = h

is_signed : (n : ℤ) → is_i64 n ≡ true → FitsSigned w64 n
is_signed (pos n) h = record { sfits = ltb-true _ _ h }
is_signed (negsuc n) h = record { sfits = ltb-true _ _ h }

code_again : (c : ErrorCode) → code_at (number_of c) ≡ Some c
code_again code.Overflow = refl
code_again code.Divide = refl
code_again code.Kind = refl
code_again code.Index = refl
code_again code.Key = refl
code_again code.Number = refl
code_again code.Big = refl
code_again code.Deep = refl

-- a value whose spelling can be read as an item of at most `levels` levels
pub record IsLegible (levels : ℕ) (value : Value) : Type 0 where
  pub formed : is_item value ≡ true
  pub light : weight_of value < 2 ^ 32
  pub shallow : depth_of value ≤ levels

-- `item` reads the spelling of x as x, whatever comes after the spelling
abbrev pub Again : {A : Type 0} → (A → List ℕ) → (List ℕ → Read A) → A → Type 0
Again spell item x = (rest : List ℕ) → item (spell x ++ rest) ≡ Some (x, rest)

-- the same for each x of a list
abbrev pub AllAgain : {A : Type 0} → (A → List ℕ) → (List ℕ → Read A) → List A → Type 0
AllAgain spell item [] = Unit {0}
AllAgain spell item (x ∷ xs) = Again spell item x × AllAgain spell item xs

all_again : {A : Type 0} (spell : A → List ℕ) (item : List ℕ → Read A) (xs prefix : List A) (rest : List ℕ)
    → AllAgain spell item xs → all_at item (length xs) prefix (joined (map spell xs) ++ rest) ≡ Some (prefix ++ xs, rest)
unfolding all_at
all_again {A} spell item [] prefix rest all = cc (append-nil prefix)
all_again {A} spell item (x ∷ xs) prefix rest all =
    let regrouped = append_assoc (spell x) (joined (map spell xs)) rest in
    let one = all.0 (joined (map spell xs) ++ rest) in
    let more = all_again spell item xs (prefix ++ x ∷ []) rest all.1 in
    ap (all_at item (suc (length xs)) prefix) regrouped
    ∙ rw one (more ∙ ap (λ (ys : List A). Some (ys, rest)) (append_assoc prefix (x ∷ []) xs))

pair_again : (item : List ℕ → Read Value) (p : List ℕ × Value) → is_utf8 p.0 ≡ true → length p.0 < 2 ^ 32
    → Again spelling_of item p.1 → Again spelling_of_pair (pair_at item) p
unfolding pair_at
pair_again item p utf8 short again rest =
    let regrouped = append_assoc (counted p.0) (spelling_of p.1) rest in
    let key = text_again p.0 (spelling_of p.1 ++ rest) short utf8 in
    ap (pair_at item) regrouped ∙ rw (key, again rest) refl

items_again : (levels : ℕ) → ((value : Value) → IsLegible levels value → Again spelling_of (item_at levels) value)
    → (vs : List Value) → all_true (map is_item vs) ≡ true → sum (map weight_of vs) < 2 ^ 32 → greatest (map depth_of vs) ≤ levels
    → AllAgain spelling_of (item_at levels) vs
items_again levels again [] formed light shallow = tt
items_again levels again (w ∷ ws) formed light shallow =
    let parts = sum_by-cons (λ n. n) (weight_of w) (map weight_of ws) in
    let here : weight_of w < 2 ^ 32 = omega (arith, parts) in
    let there : sum (map weight_of ws) < 2 ^ 32 = omega (arith, parts) in
    let low : depth_of w ≤ levels = omega arith in
    let lower : greatest (map depth_of ws) ≤ levels = omega arith in
    let items = and_parts (is_item w) (all_true (map is_item ws)) formed in
    (again w (record { formed = items.0; light = here; shallow = low }), items_again levels again ws items.1 there lower)

pairs_again : (levels : ℕ) → ((value : Value) → IsLegible levels value → Again spelling_of (item_at levels) value)
    → (ps : List (List ℕ × Value)) → all_true (map is_utf8 (map key_of ps)) ≡ true → all_true (map is_item_pair ps) ≡ true
    → sum (map weight_of_pair ps) < 2 ^ 32 → greatest (map (λ p. depth_of p.1) ps) ≤ levels
    → AllAgain spelling_of_pair (pair_at (item_at levels)) ps
pairs_again levels again [] texts formed light shallow = tt
pairs_again levels again (p ∷ ps) texts formed light shallow =
    let parts = sum_by-cons (λ n. n) (weight_of_pair p) (map weight_of_pair ps) in
    let short : length p.0 < 2 ^ 32 = omega (arith, parts) in
    let here : weight_of p.1 < 2 ^ 32 = omega (arith, parts) in
    let there : sum (map weight_of_pair ps) < 2 ^ 32 = omega (arith, parts) in
    let low : depth_of p.1 ≤ levels = omega arith in
    let lower : greatest (map (λ q. depth_of q.1) ps) ≤ levels = omega arith in
    let keys = and_parts (is_utf8 p.0) (all_true (map is_utf8 (map key_of ps))) texts in
    let items = and_parts (is_item p.1) (all_true (map is_item_pair ps)) formed in
    let value = again p.1 (record { formed = items.0; light = here; shallow = low }) in
    (pair_again (item_at levels) p keys.0 short value, pairs_again levels again ps keys.1 items.1 there lower)

of_layers : (levels : ℕ)
    → ((layer : Value-F Value) → IsLegible levels (roll-Value layer) → Again spelling_of (item_at levels) (roll-Value layer))
    → (value : Value) → IsLegible levels value → Again spelling_of (item_at levels) value
of_layers levels says value =
    subst (λ (w : Value). IsLegible levels w → Again spelling_of (item_at levels) w) (roll-out-Value value)
    (says (out-Value value))

layer_again : (levels : ℕ) (layer : Value-F Value) → IsLegible levels (roll-Value layer)
    → Again spelling_of (item_at levels) (roll-Value layer)
unfolding item_at
layer_again levels (Value-F.Num n) =
    subst (λ (w : Value). IsLegible levels w → Again spelling_of (item_at levels) w) (sym (rolls-Num n)) (λ legible rest.
    let signed = is_signed n (cc (item-Num n)) in
    let read = number_again w64 (2 ^ 64) wide64 (cast_unsigned w64 n) rest (Fits-of_z signed).fits in
    ap (λ (w : List ℕ). item_at levels (w ++ rest)) (spelling-Num n)
    ∙ rw read (ap (λ (m : ℤ). Some (v.Num m, rest)) (to_z-of_z w64 n signed)))
layer_again levels (Value-F.Text text) =
    subst (λ (w : Value). IsLegible levels w → Again spelling_of (item_at levels) w) (sym (rolls-Text text)) (λ legible rest.
    let utf8 = sym (item-Text text) ∙ legible.formed in
    let short : length text < 2 ^ 32 = let l = legible.light in omega (arith, weight-Text text) in
    ap (λ (w : List ℕ). item_at levels (w ++ rest)) (spelling-Text text) ∙ rw (text_again text rest short utf8) refl)
layer_again levels (Value-F.Fault c) =
    subst (λ (w : Value). IsLegible levels w → Again spelling_of (item_at levels) w) (sym (rolls-Fault c))
    (λ legible rest. absurd (true≢false (cc (item-Fault c))))
layer_again zero (Value-F.List vs) =
    subst (λ (w : Value). IsLegible zero w → Again spelling_of (item_at zero) w) (sym (rolls-List vs))
    (λ legible rest. let l = legible.shallow in let deep = depth-List vs in absurd (omega arith))
layer_again (suc levels) (Value-F.List vs) =
    subst (λ (w : Value). IsLegible (suc levels) w → Again spelling_of (item_at (suc levels)) w) (sym (rolls-List vs))
    (λ legible rest.
    let items = sym (item-List vs) ∙ legible.formed in
    let light : sum (map weight_of vs) < 2 ^ 32 = let l = legible.light in omega (arith, weight-List vs) in
    let shallow : greatest (map depth_of vs) ≤ levels = let l = legible.shallow in let deep = depth-List vs in omega arith in
    let few : length vs < 2 ^ 32 = omega (arith, few_items vs) in
    let all =
    all_again spelling_of (item_at levels) vs [] rest
    (items_again levels (of_layers levels (layer_again levels)) vs items light shallow) in
    let regrouped = append_assoc (to_be_bytes w32 (length vs)) (joined (map spelling_of vs)) rest in
    ap (λ (w : List ℕ). item_at (suc levels) (w ++ rest)) (spelling-List vs)
    ∙ ap (λ (w : List ℕ). item_at (suc levels) (2 ∷ w)) regrouped
    ∙ rw (number_again w32 (2 ^ 32) wide32 (length vs) (joined (map spelling_of vs) ++ rest) few, all) refl)
layer_again zero (Value-F.Table ps) =
    subst (λ (w : Value). IsLegible zero w → Again spelling_of (item_at zero) w) (sym (rolls-Table ps))
    (λ legible rest. let l = legible.shallow in let deep = depth-Table ps in absurd (omega arith))
layer_again (suc levels) (Value-F.Table ps) =
    subst (λ (w : Value). IsLegible (suc levels) w → Again spelling_of (item_at (suc levels)) w) (sym (rolls-Table ps))
    (λ legible rest.
    let formed = and_parts (are_keys (map key_of ps)) (all_true (map is_item_pair ps)) (cc (item-Table ps)) in
    let keys = and_parts (is_ascending (map key_of ps)) (all_true (map is_utf8 (map key_of ps))) formed.0 in
    let light : sum (map weight_of_pair ps) < 2 ^ 32 = let l = legible.light in omega (arith, weight-Table ps) in
    let shallow : greatest (map (λ p. depth_of p.1) ps) ≤ levels = let l = legible.shallow in let deep = depth-Table ps in
    omega arith in
    let few : length ps < 2 ^ 32 = omega (arith, few_pairs ps) in
    let all =
    all_again spelling_of_pair (pair_at (item_at levels)) ps [] rest
    (pairs_again levels (of_layers levels (layer_again levels)) ps keys.1 formed.1 light shallow) in
    let regrouped = append_assoc (to_be_bytes w32 (length ps)) (joined (map spelling_of_pair ps)) rest in
    ap (λ (w : List ℕ). item_at (suc levels) (w ++ rest)) (spelling-Table ps)
    ∙ ap (λ (w : List ℕ). item_at (suc levels) (3 ∷ w)) regrouped
    ∙ rw (number_again w32 (2 ^ 32) wide32 (length ps) (joined (map spelling_of_pair ps) ++ rest) few, all, formed.0) refl)

pub spelled_is_read : (levels : ℕ) (value : Value) → IsLegible levels value → Again spelling_of (item_at levels) value
spelled_is_read levels = of_layers levels (layer_again levels)

-- ---- the results of the decoder

-- a value that is read as an item is read as a value
as_value : (levels : ℕ) (bytes : List ℕ) (x : Value × List ℕ) → item_at levels bytes ≡ Some x → value_at levels bytes ≡ Some x
unfolding value_at item_at
as_value levels [] x e = absurd cc
as_value levels (zero ∷ rest) x e = e
as_value levels (suc zero ∷ rest) x e = e
as_value levels (suc (suc zero) ∷ rest) x e = e
as_value levels (suc (suc (suc zero)) ∷ rest) x e = e
as_value levels (suc (suc (suc (suc b))) ∷ rest) x e = absurd cc

abbrev IsReadWell : Value → Type 0
IsReadWell value = IsWell value → Again spelling_of (value_at 64) value

fault_again : (c : ErrorCode) → IsReadWell (v.Fault c)
unfolding value_at fault_at
fault_again c well rest = ap (λ (w : List ℕ). value_at 64 (w ++ rest)) (spelling-Fault c) ∙ rw (code_again c) refl

unless_fault : (value : Value) → is_fault value ≡ false → IsReadWell value
unless_fault value other well rest =
    let l = well.light in
    let legible : IsLegible 64 value =
    record {
      formed = without_first (is_fault value) (is_item value) other well.formed;
      light = omega arith;
      shallow = well.shallow;
    } in
    as_value 64 (spelling_of value ++ rest) (value, rest) (spelled_is_read 64 value legible rest)

well_again : (layer : Value-F Value) → IsReadWell (roll-Value layer)
well_again (Value-F.Num n) = subst IsReadWell (sym (rolls-Num n)) (unless_fault (v.Num n) (fault-Num n))
well_again (Value-F.Text text) = subst IsReadWell (sym (rolls-Text text)) (unless_fault (v.Text text) (fault-Text text))
well_again (Value-F.List vs) = subst IsReadWell (sym (rolls-List vs)) (unless_fault (v.List vs) (fault-List vs))
well_again (Value-F.Table ps) = subst IsReadWell (sym (rolls-Table ps)) (unless_fault (v.Table ps) (fault-Table ps))
well_again (Value-F.Fault c) = subst IsReadWell (sym (rolls-Fault c)) (fault_again c)

pub well_is_read : (value : Value) (rest : List ℕ) → IsWell value → value_at 64 (spelling_of value ++ rest) ≡ Some (value, rest)
well_is_read value rest well = subst IsReadWell (roll-out-Value value) (well_again (out-Value value)) well rest

-- if a prefix is a spelling, the only fault is NoMemory
pub only_memory : (input : List ℕ) (e : ValueFault) → Fails e (value_at 64 input) → (value : Value) (rest : List ℕ) → IsWell value
    → input ≡ spelling_of value ++ rest → e ≡ NoMemory
only_memory input Malformed fails value rest well spelled =
    let some : value_at 64 input ≡ Some (value, rest) = cc (well_is_read value rest well) in
    absurd (none-some (value, rest) (sym fails ∙ some))
only_memory input NoMemory fails value rest well spelled = refl

-- a prefix that is a spelling is the one that was read
pub one_spelled : (input : List ℕ) (read : Value × List ℕ) → value_at 64 input ≡ Some read → (value : Value) (rest : List ℕ)
    → IsWell value → input ≡ spelling_of value ++ rest → read ≡ (value, rest)
one_spelled input read e value rest well spelled =
    same_Some read (value, rest) (cc (well_is_read value rest well))

-- if the input is `text` and then `rest`, `text` is the prefix whose length is the difference of the lengths of input and `rest`
pub prefix_is : (input text rest : List ℕ) → input ≡ text ++ rest → take (length input - length rest) input ≡ text
prefix_is input text rest e =
    let len : length text ≡ length input - length rest = omega (arith, ap length e, length-append text rest) in
    cc (take_at text rest (length input - length rest) len)

-- a value that was read from its own spelling, and the number of bytes read
pub read_whole : (input : List ℕ) (read : Value × List ℕ) → value_at 64 input ≡ Some read → (value : Value) (rest : List ℕ)
    → IsWell value → input ≡ spelling_of value ++ rest
    → ◌≡◌ {A = Value × ℕ} (read.0, length input - length read.1) (value, length (spelling_of value))
read_whole input read e value rest well spelled =
    let same = one_spelled input read e value rest well spelled in
    let value_is : read.0 ≡ value = cc in
    let rest_is : read.1 ≡ rest = cc in
    let len : length input - length rest ≡ length (spelling_of value) =
    omega (arith, ap length spelled, length-append (spelling_of value) rest) in
    let len_is : length input - length read.1 ≡ length (spelling_of value) = cc in
    cc

-- a value that is read is well if it took no more bytes than the greatest weight
pub read_is_well : (input : List ℕ) (x : Value × List ℕ) → IsBytes input → value_at 64 input ≡ Some x
    → length input - length x.1 ≤ max_weight → IsWell x.0
read_is_well input x is e short =
    let read = read_is_spelled 64 input x is e in
    let len = ap length read.takes.parts in
    let light : weight_of x.0 ≤ max_weight =
    omega (arith, len, short, length-append (spelling_of x.0) x.1, length-spelling x.0) in
    record { formed = read.holds; shallow = read.shallow; light = light }

-- if a value that is read took more bytes than the greatest weight, no prefix is the spelling of a well value
pub too_long : (input : List ℕ) (x : Value × List ℕ) → value_at 64 input ≡ Some x → max_weight < length input - length x.1
    → (value : Value) (rest : List ℕ) → IsWell value → input ≡ spelling_of value ++ rest → ⊥
too_long input x e long value rest well spelled =
    let rest_is : length x.1 ≡ length rest = cc (one_spelled input x e value rest well spelled) in
    let l = well.light in
    omega (arith, long, rest_is, ap length spelled, length-append (spelling_of value) rest, length-spelling value, l)

-- no spelling of a well value is a proper prefix of another
pub prefix_free : (value other : Value) (rest : List ℕ) → IsWell value → IsWell other
    → spelling_of other ≡ spelling_of value ++ rest → value ≡ other
prefix_free value other rest well well' e =
    let read : value_at 64 (spelling_of other) ≡ Some (other, []) =
    cc (append-nil (spelling_of other), well_is_read other [] well') in
    let same = one_spelled (spelling_of other) (other, []) read value rest well e in
    sym (ap (λ (p : Value × List ℕ). p.0) same)
