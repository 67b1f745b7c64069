-- The representation of `Items` for recursive types, such as `Value`, which contains `Items<Value>`: items are a list. The prover
-- needs these definitions, and no contract mentions them.
use mathlib.Core.Path.{◌≡◌, refl, sym}
use mathlib.Core.List.{List, []}
use mathlib.Core.Former.{Former, this, list, via, children}
use base.Stored.{code_map}
use denote.RattleType.{RattleType}
use denote.HoleLaws.{Alike}
use denote.HolePlaces.{Recodes, struct_places, laid}
use denote.Hole.Carrier.{listed, list-listed}
use denote.Hole.Fix.{over}
use denote.Param.Weighed.{Weighed, w_list}
use denote.Model.Placed.{view_places}
use Rattle.std.specs.formers.vec.Vec as vec_former
use Rattle.std.specs.declared.alloc.Global.{Global}
use Rattle.std.specs.contracts.alloc.Global as heap
use Rattle.std.specs.contracts.impls.GlobalAllocator.TheImpl.{ghosts}
use Rattle.ag_value.specs.declared.items.Items.TheInside.{Inside}
use Rattle.ag_value.specs.declared.items.Items.TheView.{view, invariant}
use Rattle.ag_value.specs.contracts.items.Items as row
use Rattle.ag_value.specs.contracts.items.Items.TheInside as inside

-- a value of `Items` is the list of the values in it
abbrev pub the_former : Former {0} → Former {0}
the_former held = list held

-- the largest measure among its values, for a measure of the prover (not the weight of a value in bytes)
abbrev pub the_weighed : {held : Former {0}} → Weighed held → Weighed (the_former held)
the_weighed w = w_list w

pub the_empty : List ⊥
the_empty = []

-- the values in order
abbrev pub the_items : (X : Type 0) → List X → List X
the_items X xs = xs

pub the_items_listed : (X : Type 0) (xs : List X) → listed _ (children (the_former this) X xs) ≡ the_items X xs
the_items_listed X xs = list-listed X xs

-- the one field is a vector
abbrev fields : Former {0}
fields = via (vec_former.the_former this Global) Inside (λ X it. it.vec) (λ X v. record { vec = v }) (λ X it. refl) (λ X v. refl)

module _ (R S : RattleType) (h : R.Denot → S.Denot) where
  pub the_places : Alike R S h → Alike (row.the_row R) (row.the_row S) ((the_former this).map R.Denot S.Denot h)
  the_places alike =
      view_places fields (list this) view (λ X Y k u. refl) (λ X u. refl) R.Denot S.Denot h (row.the_row R).coded
      (row.the_row S).coded
      (invariant R.Denot) (invariant S.Denot) (λ u p q. refl) (λ u p q. refl) (λ u e. tt) (λ u e. tt)
      (over (inside.the_row R)) (over (inside.the_row S))
      (struct_places (inside.the_type R) (inside.the_type S) (vec_former.mapped h, tt) _ (λ d. refl) refl
      (laid _ _ _ (vec_former.the_places heap.the_row ghosts R S h alike), tt))

  pub the_codes_placed : Recodes R S h → Recodes (row.the_row R) (row.the_row S) ((the_former this).map R.Denot S.Denot h)
  the_codes_placed same xs = sym (code_map R.coded.code S.coded.code h (λ x. sym (same x)) xs)
