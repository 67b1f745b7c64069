-- The steps of a machine: from the effect of a part of the code to a running machine.
use Rattle.passrun.proofs.Common
use Common.{Vec, option_to_list, IsTrue, ℕ, suc, zero, ◌≡◌, ◌+◌, ◌-◌, ◌^◌, ◌<◌, ◌≤◌, nat_le, if◌then◌else◌}
use Common.{Bool, List, [], ◌∷◌, ◌++◌, Option, Some, None, All, slice_get, slice_index, get_or, length}
use Common.{take, drop, reverse, set, refl, ap, ◌∙◌, sym, arith, append_assoc, append-nil, true, le-leb, get_or_from_slice_get}
use Common.{All-append, All-drop, All-from_get_or, All-set, All-take}
use Common.{slice_get-get_or, slice_get_within, drop_at, length-reverse, reverse-append, Value, Text, IsWell}
use Common.{Item, Production, Rule, Literal, Class, Target, IsArgument, IsProduction, item_at, stored_items, value_of, Node}
use Common.{Token, LeavesContent, values_up_to, BackState, Setting, IsSound, PlaceRow, ProductionRow, RuleSlots, Machine}
use Common.{OpenNode, HasFetched, AreSlotsOf, IsRowAt, IsRowOf, after_step, ContinuesAs, IsConsistent, copied_passes, copies}
use Common.{RootPath, kept_values, HasPut, Agrees, IsRead, read_values, Runs, World, Preserves, unknown_world}
use Common.{RunsRuleNext, with_first_device, with_meter, with_second_device, stack_of}
use Common.{argument_slot, copied_width, copy_start, known_width, target_slot, count_of_values, place_is, place_within}
use Common.{slots_found, some_at, empty_is}
use Common.item
use Common.writing
use Common.instr
use Rattle.ag_grammar.specs.declared.grammar.Terminal.{Terminal}
use Rattle.pass_rows.specs.layouts.BuiltLayouts.{place_rows}
use Rattle.passrun.proofs.course.Counted.{passing_counted}
use Rattle.passrun.proofs.steps.Facts.{HasOwn, HasPlace, HasRule, HasWaited, given_rule, get_place, own_row, put_place, waited}
use Rattle.passrun.proofs.steps.Ruled.{rule_named, step_give}
use Rattle.passrun.proofs.steps.Running.{gone_runs, kept_well, put_on, read_more, still_runs}
use Rattle.passrun.proofs.places.Slots.{begins_with_copy}
use Rattle.passrun.proofs.steps.Steps.{HasAgreed, IsNext, same_production, step_end, step_end_root, step_put_leaf, step_put_node}
use Rattle.passrun.proofs.steps.Steps.{step_read}
use Rattle.passrun.proofs.places.Tables.{text_row}

-- The answer is the description (`PlaceRow`) of place j in the layout of the production of the node x, if there is such a place.
abbrev pub Answers : Setting → OpenNode → ℕ → Option PlaceRow → Type 0
Answers c x j answer = (q : Production) → IsProduction c.grammar x.production q → answer ≡ slice_get (place_rows c q) j

-- Two rows agree if no earlier pass computed a copied value.
pub nothing_read : (c : Setting) (x : Item) (ours theirs : List Value) → known_width c x ≡ 0 → Agrees c x ours theirs true
nothing_read c x ours theirs none f h rest others ours_are theirs_are = ((λ yes. nothing f ∙ sym (nothing h)), (λ same. refl))
  where
    nothing : (f : ℕ → Value) → values_up_to c.read (copied_passes c x) f ≡ []
    nothing f =
        empty_is (values_up_to c.read (copied_passes c x) f) (omega (arith, count_of_values c.read (copied_passes c x) f))

-- The row that was read begins with the copied values.
pub begins_so : (c : Setting) (x : Item) (p : ℕ) (body : List ℕ) (old new : List Value) (h : IsRead c x p body old new)
    → (others : List Value)
    × (drop (length old) new ≡ values_up_to c.write (copied_passes c x) (read_values c x p body old new h) ++ others)
begins_so c (item.Symbol s) p body old new h =
    let begins = begins_with_copy c (item.Symbol s) h.values in
    let share = values_up_to c.write (copied_passes c (item.Symbol s)) h.values in
    let copied = copies c c.write (stored_items h.production.items) h.table in (
      begins.0 ++ copied,
      cc (
        drop_at old (values_up_to c.write (c.passes s) h.values ++ copied) (length old) refl,
        append_assoc share begins.0 copied,
      ),
    )
begins_so c (item.Terminal (Class d)) p body old new h = (
  [],
  cc (
    drop_at old (Text h.1.text ∷ []) (length old) refl,
    text_row c.write h.1.text,
    append-nil (values_up_to c.write (0 ∷ []) (λ a. Text h.1.text)),
  ),
)
begins_so c (item.Terminal (Literal l)) p body old new h = elim h [ ]

-- Values that the code found equal to the copies agree with those that were read.
pub has_agreed : (c : Setting) (q : Production) (x : OpenNode) (j : ℕ) (x' : Item) (p : ℕ) (body : List ℕ)
    (old new : List Value) {ours theirs : List Value} {from start : ℕ} (answer : Bool) (h : IsRead c x' p body old new)
    → Agrees c x' ours theirs answer → IsTrue answer
    → ours ≡ drop from new → theirs ≡ drop start new → from ≡ x.base + copy_start c q j → start ≡ length old
    → HasAgreed c q x j x' new (read_values c x' p body old new h)
has_agreed c q x j x' p body old new answer h agrees true_is ours_are theirs_are from_is start_is f rest
    prefix =
    let back = begins_so c x' p body old new h in
    (agrees f (read_values c x' p body old new h) rest back.0 (cc)
    (cc)).0 true_is

-- An item that is not a terminal is a symbol.
pub symbol_there : (x : Item) → ((t : Terminal) → x ≡ item.Terminal t → ⊥) → (s : ℕ) × (x ≡ item.Symbol s)
symbol_there (item.Symbol s) other = (s, refl)
symbol_there (item.Terminal t) other = absurd (other t refl)

-- No literal is a child.
class_there : (xs : List Item) (b : ℕ) (t : Terminal) → slice_get (stored_items xs) b ≡ Some (item.Terminal t)
    → (d : ℕ) × (t ≡ Class d)
class_there [] b t at = absurd cc
class_there (item.Symbol s ∷ xs) zero t at = absurd cc
class_there (item.Symbol s ∷ xs) (suc b) t at = class_there xs b t at
class_there (item.Terminal (Class d) ∷ xs) zero t at =
    (d, let e : Some (item.Terminal (Class d)) ≡ Some (item.Terminal t) = at in cc)
class_there (item.Terminal (Class d) ∷ xs) (suc b) t at = class_there xs b t at
class_there (item.Terminal (Literal l) ∷ xs) b t at = class_there xs b t at

pub class_at : (q : Production) (j : ℕ) (t : Terminal) → item_at q j ≡ Some (item.Terminal t) → (d : ℕ) × (t ≡ Class d)
class_at q zero t at = absurd cc
class_at q (suc b) t at = class_there q.items b t at

-- The production or the rule at an index.
indexed : {X : Type 0} {xs ys : List X} (i : ℕ) {x y : X} → xs ≡ ys → x ≡ get_or xs i x → slice_get ys i ≡ Some y
    → slice_get ys i ≡ Some x
indexed {xs = xs} {ys} i {x} {y} same is there =
    let less : i < length xs = omega (arith, slice_get_within ys i y there, ap length same) in cc (slice_get-get_or xs i x less)

pub some_is : (x : OpenNode) → Some x ≡ None → ⊥
some_is x is = cc

pub popped : (r : Option OpenNode) (xs ys : List OpenNode) → xs ≡ ys ++ option_to_list r → (r ≡ None → length xs ≡ 0)
    → reverse xs ≡ stack_of r ys
popped None [] ys e none = refl
popped None (x ∷ xs) ys e none = let n = none refl in absurd (omega arith)
popped (Some x) xs ys e none = cc (reverse-append ys (x ∷ []))

-- The item at a place, as the context of a pass returns it, with its copies among the values.
pub record IsPlace (c : Setting) (x : OpenNode) (j : ℕ) (row : PlaceRow) (values : List Value) : Type 0 where
  pub production : Production
  pub there : IsProduction c.grammar x.production production
  pub occurs : item_at production j ≡ Some row.item
  pub start : row.start ≡ copy_start c production j
  pub known : row.known ≡ known_width c row.item
  pub within : x.base + (copy_start c production j + copied_width c row.item) ≤ length values

the_place : {c : Setting} {x : OpenNode} {j : ℕ} {row : PlaceRow} {values : List Value} → HasPlace c x j values
    → Answers c x j (Some row) → IsPlace c x j row values
the_place {c} {x} {j} {row} {values} h is =
    let z = place_is c h.production j row h.item h.some (is h.production h.there) h.occurs in
    record {
      production = h.production;
      there = h.there;
      occurs = cc;
      start = z.1;
      known = cc;
      within = rw z.0 h.within;
    }

-- The slots of a rule's arguments are among the values of the node.
abbrev pub HasArguments : Setting → OpenNode → Production → Rule → List Value → Type 0
HasArguments c x q u values = (o : Target) → IsArgument u o → argument_slot c q o.place o.attr < length (drop x.base values)

-- A node's production and rule, as the code finds them, and the slots of the rule's target and arguments.
pub record Giver (c : Setting) (m : Machine) (x : OpenNode) (r : ℕ) (q : Production) (u : Rule) : Type 0 where
  pub there : IsProduction c.grammar x.production q
  pub numbered : slice_get q.rules r ≡ Some u
  pub within : x.base + target_slot c q u.target.place u.target.attr < length m.values.items
  pub arguments : HasArguments c x q u m.values.items
  pub occurrences : length u.expr.occurrences ≡ length u.args

-- The slots of a rule's target and arguments, as the code finds them.
pub are_slots : {c : Setting} {m : Machine} {x : OpenNode} {r : ℕ} {q : Production} {u : Rule} {row : ProductionRow}
    {xs : List RuleSlots} {slots : RuleSlots} → Giver c m x r q u → IsRowOf c x.production q row → xs ≡ row.rules
    → slots ≡ get_or xs r slots → AreSlotsOf c q u slots
are_slots h is same at = slots_found _ _ _ _ _ _ _ _ is h.numbered same at

pub entered : {c : Setting} {m : Machine} {x child : OpenNode} {waiting : RootPath} {values : List Value}
    → waiting.root ≡ m.waiting.root → values ≡ m.values.items
    → ContinuesAs c m.waiting.root (x ∷ reverse m.waiting.nodes) values (child ∷ reverse waiting.nodes) values
    → Preserves c unknown_world unknown_world m (record m { waiting = waiting }) (Some x) (Some child)
entered same vs goes w r = gone_runs r same (rw vs at goes)

module _ {c : Setting} where
  get_at : {w : World} {m : Machine} {x : OpenNode} {j : ℕ} → Runs c w m (Some x) → IsNext c x (instr.Get j)
      → HasPlace c x j m.values.items
  get_at {m} r at = get_place m.waiting.root (reverse m.waiting.nodes) at r.invariant

  pub item_within : {w : World} {m : Machine} {x : OpenNode} {j : ℕ} (row : ProductionRow) → Runs c w m (Some x)
      → IsNext c x (instr.Get j) → IsRowAt c x.production row → j < length row.places
  item_within {x} {j} row r at is = let h = get_at r at in
      place_within c x.production h.production row j h.item (is h.production h.there) h.occurs

  -- The returned row is that of the place.
  pub got_place : {w : World} {m : Machine} {x : OpenNode} {j : ℕ} {row : PlaceRow} → Runs c w m (Some x)
      → IsNext c x (instr.Get j) → Answers c x j (Some row) → IsPlace c x j row m.values.items
  got_place r at is = the_place (get_at r at) is

  put_at : {w : World} {m : Machine} {x : OpenNode} {j : ℕ} → Runs c w m (Some x) → IsNext c x (instr.Put j)
      → HasPlace c x j m.values.items
  put_at {m} r at = put_place m.waiting.root (reverse m.waiting.nodes) at r.invariant

  pub row_within : {w : World} {m : Machine} {x : OpenNode} {j : ℕ} (row : ProductionRow) → Runs c w m (Some x)
      → IsNext c x (instr.Put j) → IsRowAt c x.production row → j < length row.places
  row_within {x = x} {j = j} row r at is = let h = put_at r at in
      place_within c x.production h.production row j h.item (is h.production h.there) h.occurs

  pub put_is : {w : World} {m : Machine} {x : OpenNode} {j : ℕ} {row : PlaceRow} → Runs c w m (Some x)
      → IsNext c x (instr.Put j) → Answers c x j (Some row) → IsPlace c x j row m.values.items
  put_is r at is = the_place (put_at r at) is

  -- A token's text is among the values.
  pub text_within : {w : World} {m : Machine} {x : OpenNode} {j : ℕ} {row : PlaceRow} (t : Terminal) → Runs c w m (Some x)
      → IsNext c x (instr.Put j) → Answers c x j (Some row) → row.item ≡ item.Terminal t
      → x.base + row.start + 1 ≤ length m.values.items
  text_within {j} {row} t r at is token =
      let i = put_is r at is in
      let d = class_at i.production j t (cc) in
      let one : copied_width c row.item ≡ 1 = cc (token_width d.0) in
      omega (arith, i.within, i.start)
    where
      token_width : (d : ℕ) → copied_width c (item.Terminal (Class d)) ≡ 1
      token_width d = let one : ◌≡◌ {A = ℕ} (if nat_le 0 c.write then 1 else 0) 1 =
          cc (le-leb 0 c.write (omega arith)) in omega arith

  pub is_passing : {w : World} {m : Machine} {x : OpenNode} {values : List Value} → values ≡ m.values.items
      → Runs c w m (Some x) → IsConsistent c m.waiting.root (x ∷ reverse m.waiting.nodes) values
  is_passing {w} {m} vs r = rw vs (r.transcript, w.meter - m.begun, r.todo, r.invariant)

  -- When a node ends, its row is the last one.
  pub own_of : {w : World} {m : Machine} {x : OpenNode} → Runs c w m (Some x) → IsNext c x instr.End
      → HasOwn c x m.values.items
  own_of {m} r at = own_row m.waiting.root (reverse m.waiting.nodes) at r.invariant

  -- When a node ends, the copies of its values come before its row, in the row of the node that waits.
  pub waited_for : {w : World} {m : Machine} (waiting : List OpenNode) {x y : OpenNode} → Runs c w m (Some x)
      → IsNext c x instr.End → m.waiting.nodes ≡ waiting ++ y ∷ []
      → HasWaited c y x.base m.values.items
  waited_for {m} waiting {y = y} r at is =
      let stack : reverse m.waiting.nodes ≡ y ∷ reverse waiting = cc (reverse-append waiting (y ∷ [])) in
      waited m.waiting.root (reverse waiting) at (rw stack at r.invariant)

  pub waited_within : {y : OpenNode} {base : ℕ} {values : List Value} (row : ProductionRow) → HasWaited c y base values
      → IsRowAt c y.production row → y.place < length row.places
  waited_within {y} row h is = place_within c y.production h.production row y.place h.item (is h.production h.there) h.occurs

  pub waited_place : {y : OpenNode} {base : ℕ} {values : List Value} {row : PlaceRow} → HasWaited c y base values
      → Answers c y y.place (Some row) → (y.base + row.start + row.width ≤ base) × (base + row.width ≤ length values)
  waited_place {y} {row} h is =
      let z = place_is c h.production y.place row h.item h.some (is h.production h.there) h.occurs in
      let a = z.1 in
      let b = z.2 in
      let w = h.within in
      let v = h.wide in
      (omega arith, omega arith)

  -- No slot of an argument is out of range.
  pub slots_within : {m : Machine} {x : OpenNode} {r : ℕ} {q : Production} {u : Rule} {slots : RuleSlots} → Giver c m x r q u
      → AreSlotsOf c q u slots → All (λ slot. slot < length (drop x.base m.values.items)) slots.args
  slots_within {m} {x} {u} {slots} h are =
      All-from_get_or (λ slot. slot < length (drop x.base m.values.items)) slots.args 0 (λ k less.
      let o = some_at u.args k (omega arith) in
      let slot = some_at slots.args k less in
      omega (
        arith,
        are.args.equally_long,
        are.args.each k o.0 slot.0 o.1 slot.1,
        get_or_from_slice_get slots.args k slot.0 0 slot.1,
        h.arguments o.0 (k, o.1),
      ))

module _ {c : Setting} (sound : IsSound c) where
  pub got_leads : {m : Machine} {back : BackState} {values : Vec Value} {honest honest' : Bool} {content content' : List ℕ}
      {x next : OpenNode} {j p n : ℕ} {row : PlaceRow} {read : List Value}
      → IsNext c x (instr.Get j) → Answers c x j (Some row)
      → (h : HasFetched c row.item p n honest' content m.back back m.values.items read) → n ≡ length m.waiting.nodes + 1
      → ((q : Production) → IsProduction c.grammar x.production q → row.start ≡ copy_start c q j
      → HasAgreed c q x j row.item read (read_values c row.item p h.body m.values.items read h.taken))
      → values.items ≡ kept_values row.item m.values.items read → (honest' ≡ true → honest ≡ true)
      → LeavesContent honest' content content' → next ≡ after_step x p
      → Preserves c (with_first_device honest content) (with_first_device honest' content')
      m (record m { back = back; values = values }) (Some x) (Some next)
  got_leads {m} {p = p} {row = row} {read = read} at is h count agreed kept before leaves on rest r =
      let i = got_place r at is in
      let on_it =
      step_read sound m.waiting.root (reverse m.waiting.nodes) p h.body read h.taken
      (record { next = at; there = i.there; occurs = i.occurs })
      (omega (arith, h.deep, count, length-reverse m.waiting.nodes)) (agreed i.production i.there i.start) r.invariant in
      read_more r on_it.0 h before leaves (rw kept (kept_well row.item h r.well)) (rw (on, kept) on_it.2) (on_it.1 r.ahead)

  pub put_room : {w : World} {m : Machine} {x : OpenNode} → Runs c w m (Some x) → m.writer.written < 2 ^ 64 - 1
  put_room {m} r =
      let n = passing_counted sound m.waiting.root (reverse m.waiting.nodes) r.invariant in
      omega (arith, n.0, r.few, r.written)

  pub put_leads : {m : Machine} {out : writing.Progress} {honest honest' : Bool} {content content' : List ℕ} {x next : OpenNode}
      {j : ℕ} {row : PlaceRow} (t : Terminal) {text : List Value}
      → IsNext c x (instr.Put j) → Answers c x j (Some row)
      → row.item ≡ item.Terminal t → text ≡ take 1 (drop (x.base + row.start) m.values.items)
      → HasPut Token x.child text honest' content content' m.writer out → (honest' ≡ true → honest ≡ true)
      → next ≡ after_step x x.child
      → Preserves c (with_second_device honest content) (with_second_device honest' content')
      m (record m { writer = out }) (Some x) (Some next)
  put_leads {m} {x = x} {j = j} t at is token text_is h before on rest r =
      let i = put_is r at is in
      let d = class_at i.production j t (cc) in
      let occurs : item_at i.production j ≡ Some (item.Terminal (Class d.0)) = cc in
      put_on r h before r.well
      (rw on (step_put_leaf sound m.waiting.root (reverse m.waiting.nodes)
      (record { next = at; there = i.there; occurs = occurs })
      (cc) r.invariant))

  pub left_leads : {w : World} {m : Machine} {x next : OpenNode} {j : ℕ} (s : ℕ) {row : PlaceRow}
      → IsNext c x (instr.Put j) → Answers c x j (Some row) → row.item ≡ item.Symbol s → next ≡ after_step x x.child
      → Runs c w m (Some x) → Runs c w m (Some next)
  left_leads {m} {x = x} s at is node on r =
      let i = put_is r at is in
      let goes : ContinuesAs c m.waiting.root (x ∷ reverse m.waiting.nodes) m.values.items
      (after_step x x.child ∷ reverse m.waiting.nodes) m.values.items = λ t now todo.
      step_put_node sound m.waiting.root (reverse m.waiting.nodes) {s' = s}
      (record { next = at; there = i.there; occurs = cc }) in
      rw on (gone_runs r refl goes)

  pub ended_leads : {m : Machine} {values : Vec Value} {waiting : RootPath} {out : writing.Progress} {honest honest' : Bool}
      {content content' : List ℕ} {x y : OpenNode} {row : PlaceRow} {put : List Value} {from : ℕ}
      → IsNext c x instr.End
      → waiting.root ≡ m.waiting.root → m.waiting.nodes ≡ waiting.nodes ++ y ∷ [] → Answers c y y.place (Some row)
      → from ≡ y.base + row.start
      → put ≡ drop x.base m.values.items → HasPut Node x.production put honest' content content' m.writer out
      → (honest' ≡ true → honest ≡ true)
      → values.items ≡ take from m.values.items
      ++ (take row.width (drop x.base m.values.items) ++ drop (from + row.width) (take x.base m.values.items))
      → Preserves c (with_second_device honest content) (with_second_device honest' content') m
      (record m { writer = out; values = values; waiting = waiting }) (Some x) (Some y)
  ended_leads {m} {waiting = waiting} {x} {y} {row} {from = from} at same pushed is from_is put_is' h before vs rest r =
      let xs = m.values.items in
      let w = waited_for waiting.nodes r at pushed in
      let stack : reverse m.waiting.nodes ≡ y ∷ reverse waiting.nodes = cc (reverse-append waiting.nodes (y ∷ [])) in
      let well =
      All-append IsWell (take from xs) (take row.width (drop x.base xs) ++ drop (from + row.width) (take x.base xs))
      (All-take IsWell from xs r.well)
      (All-append IsWell (take row.width (drop x.base xs)) (drop (from + row.width) (take x.base xs))
      (All-take IsWell row.width (drop x.base xs) (All-drop IsWell x.base xs r.well))
      (All-drop IsWell (from + row.width) (take x.base xs) (All-take IsWell x.base xs r.well))) in
      put_on r (rw put_is' at h) before (rw vs well)
      (rw same (step_end sound m.waiting.root (reverse waiting.nodes) at r.well
      (λ q x' there occurs. let z = place_is c q y.place row x' w.some (is q there) occurs in
      (cc, z.2)) vs
      (rw stack at r.invariant)))

  pub root_leads : {w : World} {m : Machine} {waiting : RootPath} {x : OpenNode}
      → IsNext c x instr.End → waiting.root ≡ m.waiting.root → m.waiting.nodes ≡ []
      → Runs c w m (Some x) → Runs c w (record m { waiting = waiting }) None
  root_leads {m} at same none r =
      gone_runs r same (rw none (λ t now todo. step_end_root sound m.waiting.root at r.well))

  pub rule_of : {w : World} {m : Machine} {x : OpenNode} {r : ℕ} → Runs c w m (Some x) → (next : RunsRuleNext c x r)
      → HasRule c x next.0 next.1 r m.values.items
  rule_of {m} runs (j, a, z, giving, at) = given_rule sound m.waiting.root (reverse m.waiting.nodes) giving at runs.invariant

  -- The rule and its slot, for a known production.
  pub ruled : {w : World} (m : Machine) (x : OpenNode) (r : ℕ) (q : Production) → Runs c w m (Some x) → RunsRuleNext c x r
      → IsProduction c.grammar x.production q
      → (u : Rule) × (slice_get q.rules r ≡ Some u)
      × (x.base + target_slot c q u.target.place u.target.attr < length m.values.items)
      × HasArguments c x q u m.values.items
  ruled m x r q runs next there =
      let h = rule_of runs next in
      let same = same_production c x.production h.there there in
      let slots : target_slot c q h.rule.target.place h.rule.target.attr ≡ target_slot c h.production next.0 next.1 = cc in
      let n = h.within in (
        h.rule,
        rw same at h.numbered,
        omega arith,
        rw same at h.arguments,
      )

  pub rule_less : {w : World} {m : Machine} {x : OpenNode} (r : ℕ) {ps : List Production} {q : Production} {us : List Rule}
      → ps ≡ c.grammar.productions → q ≡ get_or ps x.production q → us ≡ q.rules → Runs c w m (Some x) → RunsRuleNext c x r
      → r < length us
  rule_less {m} {x} r {q} same is rules runs next =
      let h = rule_of runs next in
      let w = ruled m x r q runs next (indexed x.production same is h.there) in
      omega (arith, slice_get_within q.rules r w.0 w.1, ap length rules)

  pub giver : {w : World} {m : Machine} {x : OpenNode} {r : ℕ} {ps : List Production} {q : Production} {us : List Rule} {u : Rule}
      → ps ≡ c.grammar.productions → q ≡ get_or ps x.production q → us ≡ q.rules → u ≡ get_or us r u → Runs c w m (Some x)
      → RunsRuleNext c x r → Giver c m x r q u
  giver {m} {x} {r} {q} {us} {u} same is rules at runs next =
      let h = rule_of runs next in
      let there = indexed x.production same is h.there in
      let w = ruled m x r q runs next there in
      let numbered = indexed r rules at w.1 in
      let e : Some w.0 ≡ Some u = cc numbered in
      let one : w.0 ≡ u = cc in
      record {
        there = there;
        numbered = numbered;
        within = rw (← one) w.2;
        arguments = rw (← one) w.3;
        occurrences = rule_named c sound x.production r q u there numbered;
      }

  pub meter_of : {w : World} {m : Machine} {x : OpenNode} → Runs c w m (Some x) → w.meter < 2 ^ 64 - 1
  meter_of {m} r =
      let n = passing_counted sound m.waiting.root (reverse m.waiting.nodes) r.invariant in
      omega (arith, n.1, r.few, r.begun, r.low)

  pub rule_leads : {m : Machine} {values : Vec Value} {x next : OpenNode} {meter meter' : ℕ} (rule : ℕ) {q : Production}
      {u : Rule} {slots : RuleSlots} (spare : Value) {v : Value}
      → RunsRuleNext c x rule → IsProduction c.grammar x.production q → slice_get q.rules rule ≡ Some u → AreSlotsOf c q u slots
      → v ≡ value_of u.expr.tree (λ k. get_or (drop x.base m.values.items) (slice_index slots.args k) spare) → IsWell v
      → values.items ≡ set m.values.items (x.base + slots.target) v
      → meter' ≡ meter + 1 → next ≡ after_step x x.child
      → Preserves c (with_meter meter) (with_meter meter') m (record m { values = values }) (Some x) (Some next)
  rule_leads {m} {x = x} {meter = meter} {meter'} rule {slots = slots} spare {v}
      (j, a, z, giving, at) there num are is well vs count on rest r =
      let b = r.begun in
      let evals : meter - m.begun + 1 ≡ meter' - m.begun = omega arith in
      still_runs r
      (rw (← evals, on)
      (step_give sound m.waiting.root (reverse m.waiting.nodes) spare giving at there num are is vs r.invariant))
      (rw vs (All-set IsWell m.values.items (x.base + slots.target) v well r.well)) (omega arith)
