-- The representation of `Boxed` for recursive types, such as the `Node` of `ag_grammar`, which contains `Boxed<Node>`: a box is
-- the value in it. The prover needs these definitions, and no contract mentions them.
use mathlib.Core.Path.{refl}
use mathlib.Core.Former.{Former, this, const, pair, via}
use base.Stored.{gnil}
use base.Fml.{ftrue}
use denote.RattleType.{RattleType}
use denote.Memory.{part_of}
use denote.RawPtr.{Ptr}
use denote.Sharing.{nothing}
use denote.HoleLaws.{Alike}
use denote.HolePlaces.{Recodes, struct_places, laid, one_value}
use denote.Hole.Fix.{over}
use denote.Param.Weighed.{Weighed}
use denote.Model.Placed.{view_places}
use Rattle.std.specs.declared.boxed.Box.{Box}
use Rattle.std.specs.contracts.boxed.Box as box_row
use Rattle.std.specs.declared.alloc.Global.{Global}
use Rattle.std.specs.contracts.alloc.Global as heap
use Rattle.std.specs.contracts.impls.GlobalAllocator.TheImpl.{ghosts}
use Rattle.ag_value.specs.declared.boxed.Boxed.TheInside.{Inside}
use Rattle.ag_value.specs.declared.boxed.Boxed.TheView.{view, invariant}
use Rattle.ag_value.specs.contracts.boxed.Boxed as row
use Rattle.ag_value.specs.contracts.boxed.Boxed.TheInside as inside

-- a value of `Boxed` is the value in it
abbrev pub the_former : Former {0} → Former {0}
the_former held = held

abbrev pub the_weighed : {held : Former {0}} → Weighed held → Weighed (the_former held)
the_weighed w = w

-- the one field is a box: its place in memory, and the value
abbrev fields : Former {0}
fields = via (pair (const (Ptr × Global)) this) Inside (λ X b. ((b.inner.ptr, b.inner.alloc), b.inner.value))
    (λ X v. record { inner = record { ptr = v.0.0; alloc = v.0.1; value = v.1 } }) (λ X b. refl) (λ X v. refl)

-- the same box around another value
abbrev around : {X Y : Type 0} → Box X Global → Y → Box Y Global
around b y = record { ptr = b.ptr; alloc = b.alloc; value = y }

abbrev box_of : RattleType → RattleType
box_of R = box_row.the_row R heap.the_row ghosts

module _ (R S : RattleType) (h : R.Denot → S.Denot) where
  box_places : Alike R S h → Alike (box_of R) (box_of S) (λ b. around b (h b.value))
  unfolding part_of
  box_places alike = record {
    mir_same = λ i. (box_of (one_value R (alike.mir_same i) (λ _. ftrue) (λ _ _. nothing) gnil)).mir;
    own_same =
        λ b i. (box_of (one_value R (alike.mir_same i) (alike.own_same b.value i) (alike.shr_same b.value i) gnil)).own_val
        (around b tt);
    shr_same =
        λ b i. (box_of (one_value R (alike.mir_same i) (alike.own_same b.value i) (alike.shr_same b.value i) gnil)).shr_at
        (around b tt);
  }

  pub the_places : Alike R S h → Alike (row.the_row R) (row.the_row S) ((the_former this).map R.Denot S.Denot h)
  the_places alike =
      view_places fields this view (λ X Y k u. refl) (λ X u. refl) R.Denot S.Denot h (row.the_row R).coded (row.the_row S).coded
      (invariant R.Denot) (invariant S.Denot) (λ u p q. refl) (λ u p q. refl) (λ u e. tt) (λ u e. tt)
      (over (inside.the_row R)) (over (inside.the_row S))
      (struct_places (inside.the_type R) (inside.the_type S) ((λ b. around b (h b.value)), tt) _ (λ d. refl) refl
      (laid _ _ _ (box_places alike), tt))

  pub the_codes_placed : Recodes R S h → Recodes (row.the_row R) (row.the_row S) ((the_former this).map R.Denot S.Denot h)
  the_codes_placed same x = same x
