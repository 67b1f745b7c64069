-- The texts that a parser keeps: at the end of a node its own are few, and each is well.
use Rattle.llparse.proofs.Common
use Common.{◌≡◌, ℕ, ◌≤◌, List, [], ◌∷◌, ◌++◌, length, take, drop, All, refl, sym, arith, All-cons, All-nil, Value, Text, IsWell}
use Common.{Item, Production, Literal, Class, IsAccepted, max_children, Grammar, stored_items, IsProduction, Tree, leaf, node}
use Common.{Forest, none, more, Fits, FitsAll, IsTreeOf, Lexeme, joined, Open, Continues, leaf_texts, Task, Output, Reading, kept}
use Common.{OpenProduction, text_well}
use Common.item
use Rattle.std.proofs.lemmas.List.{drop_at, length-append, take_at}
use Rattle.llparse.proofs.steps.Begins.{finish}
use Rattle.llparse.proofs.steps.Steps as step

pub texts-joined : (a b : Forest) → leaf_texts (joined a b) ≡ leaf_texts a ++ leaf_texts b
texts-joined none b = refl
texts-joined (more (leaf c x) a) b = cc (texts-joined a b)
texts-joined (more (node p us) a) b = texts-joined a b

-- texts that are `others` and then `own` are parted at the number of the others
pub parted : (texts others own : List Value) (base : ℕ) → texts ≡ others ++ own → base ≡ length others
    → (take base texts ≡ others) × (drop base texts ≡ own)
parted texts others own base is at =
    (cc (take_at others own base (sym at)), cc (drop_at others own base (sym at)))

module _ (g : Grammar) where
  -- trees of some items have at most as many texts as there are items, and each text is well
  texts_fit : (xs : List Item) (ts : Forest) → FitsAll g xs ts → (length (leaf_texts ts) ≤ length xs) × All IsWell (leaf_texts ts)
  texts_fit [] none f = (omega arith, All-nil IsWell)
  texts_fit [] (more t ts) f = absurd f
  texts_fit (x ∷ xs) none f = absurd f
  texts_fit (item.Symbol s ∷ xs) (more (leaf c x) ts) f = absurd f.0
  texts_fit (item.Terminal (Literal l) ∷ xs) (more (leaf c x) ts) f = absurd f.0
  texts_fit (item.Terminal (Class d) ∷ xs) (more (leaf c x) ts) f =
      let others = texts_fit xs ts f.1 in
      (omega (arith, others.0), All-cons IsWell (Text x) (leaf_texts ts) (text_well x f.0.1) others.1)
  texts_fit (x ∷ xs) (more (node p us) ts) f =
      let others = texts_fit xs ts f.1 in
      (omega (arith, others.0), others.1)

  -- one of the trees of some items is a tree of one of these
  among : (done : Forest) (xs : List Item) (c : Tree) (fs : Forest) → FitsAll g xs (joined done (more c fs))
      → (x : Item) × Fits g x c
  among none [] c fs f = absurd f
  among none (x ∷ xs) c fs f = (x, f.0)
  among (more t ts) [] c fs f = absurd f
  among (more t ts) (x ∷ xs) c fs f = among ts xs c fs f.1

  has_items : (x : Item) (p : ℕ) (ts : Forest) → Fits g x (node p ts)
      → (q : Production) × IsProduction g p q × FitsAll g (stored_items q.items) ts
  has_items (item.Symbol s) p ts f = (f.0, f.1, f.3)
  has_items (item.Terminal a) p ts f = absurd f

  -- a child of the open nodes in a tree of the grammar is a tree of an item
  child_fits : (os : List Open) (c : Tree) (ws : List Lexeme) (t : Tree) → Continues g os c ws t → IsTreeOf g t
      → (x : Item) × Fits g x c
  child_fits [] c ws t k is = (item.Symbol g.start, rw k.1 at is)
  child_fits (o ∷ os) c ws t k is =
      let outer = child_fits os (node o.production (joined o.done (more c k.0))) k.1 t k.4 is in
      let items = has_items outer.0 o.production (joined o.done (more c k.0)) outer.1 in
      among o.done (stored_items items.0.items) c k.0 items.2

module _ (k : Task) (accepted : IsAccepted k.grammar) where
  pub own_texts : {p base : ℕ} {fs : List OpenProduction} {i n : ℕ} {made : Output} → Reading k p base [] fs i n made
      → (base ≤ length made.texts) × (length (drop base made.texts) ≤ max_children) × All IsWell (drop base made.texts)
  own_texts {p = p} {base = base} {made = made} r =
      let s = r.occurs in
      let outer = finish k.grammar accepted r.under s.0.left s.4 (node p r.done) in
      let whole = r.sound outer.0 outer.1 ((step.close k.grammar p r.done r.under outer.0 outer.1).1 outer.2) in
      let child = child_fits k.grammar r.under (node p r.done) outer.0 outer.1 outer.2 whole.tree in
      let items = has_items k.grammar child.0 p r.done child.1 in
      let fit = texts_fit k.grammar (stored_items items.0.items) r.done items.2 in
      let few = accepted.limits.stored_count p items.0 items.1 in
      let own : drop base made.texts ≡ leaf_texts r.done =
      (parted made.texts (kept r.under) (leaf_texts r.done) base r.held.texts r.begins).1 in
      let all : length made.texts ≡ length (kept r.under ++ leaf_texts r.done) = cc in (
        omega (arith, r.begins, all, length-append (kept r.under) (leaf_texts r.done)),
        rw own (omega (arith, fit.0, few)),
        rw own fit.1,
      )
