-- How a `Boxed` holds its value, for a type that holds itself through one.
--     the_former, the_weighed      it holds the value that it is seen as, and measures as it does
--     the_places, the_codes_placed     it owns, lends and is coded by what its value owns, lends and is coded by
use mathlib.Core.Path.{refl}
use mathlib.Core.Former.{Former, this, const, pair, via}
use base.Stored.{gnil}
use base.Fml.{ftrue}
use denote.RattleType.{RattleType}
use denote.Memory.{part_of}
use denote.RawPtr.{Ptr}
use denote.Sharing.{nothing}
use denote.HoleLaws.{Alike}
use denote.HolePlaces.{Recodes, struct_places, laid, one_value}
use denote.Hole.Fix.{over}
use denote.Param.Weighed.{Weighed}
use denote.Model.Placed.{view_places}
use Rattle.std.specs.declared.boxed.Box.{Box}
use Rattle.std.specs.contracts.boxed.Box as box
use Rattle.std.specs.declared.alloc.Global.{Global}
use Rattle.std.specs.contracts.alloc.Global as global
use Rattle.std.specs.contracts.impls.GlobalAllocator.TheImpl as allocator
use Rattle.c_tree.specs.declared.boxed.Boxed.TheInside.{Inside}
use Rattle.c_tree.specs.declared.boxed.Boxed.TheView.{view, invariant}
use Rattle.c_tree.specs.contracts.boxed.Boxed as C
use Rattle.c_tree.specs.contracts.boxed.Boxed.TheInside as I

abbrev pub the_former : Former {0} → Former {0}
the_former g = g

abbrev pub the_weighed : {g : Former {0}} → Weighed g → Weighed (the_former g)
the_weighed w = w

-- the same box round another value
abbrev holding : {X Y : Type 0} → Box X Global → Y → Box Y Global
holding b y = record { ptr = b.ptr; alloc = b.alloc; value = y }

-- the one field, a `Box`: a pointer and a handle beside the value
abbrev field_former : Former {0}
field_former = via (pair (const (Ptr × Global)) this) Inside (λ X inside. ((inside.inner.ptr, inside.inner.alloc), inside.inner.value))
    (λ X parts. record { inner = record { ptr = parts.0.0; alloc = parts.0.1; value = parts.1 } }) (λ X inside. refl) (λ X parts. refl)

-- a `Box` of values of R
abbrev box_row : RattleType → RattleType
box_row R = box.the_row R global.the_row allocator.ghosts

module _ (R S : RattleType) (h : R.Denot → S.Denot) where
  box_places : Alike R S h → Alike (box_row R) (box_row S) (λ b. holding b (h b.value))
  unfolding part_of
  box_places a = record {
    mir_same = λ i. (box_row (one_value R (a.mir_same i) (λ _. ftrue) (λ _ _. nothing) gnil)).mir;
    own_same = λ b i. (box_row (one_value R (a.mir_same i) (a.own_same b.value i) (a.shr_same b.value i) gnil)).own_val (holding b tt);
    shr_same = λ b i. (box_row (one_value R (a.mir_same i) (a.own_same b.value i) (a.shr_same b.value i) gnil)).shr_at (holding b tt);
  }

  field_places : Alike R S h → Alike (I.the_row R) (I.the_row S) (field_former.map R.Denot S.Denot h)
  field_places a = struct_places (I.the_type R) (I.the_type S) ((λ b. holding b (h b.value)), tt) _ (λ inside. refl) refl (laid _ _ _ (box_places a), tt)

  pub the_places : Alike R S h → Alike (C.the_row R) (C.the_row S) ((the_former this).map R.Denot S.Denot h)
  the_places a = view_places field_former this view (λ X Y k inside. refl) (λ X inside. refl) R.Denot S.Denot h (C.the_row R).coded (C.the_row S).coded
      (invariant R.Denot) (invariant S.Denot) (λ inside p q. refl) (λ inside p q. refl) (λ inside holds. tt) (λ inside holds. tt)
      (over (I.the_row R)) (over (I.the_row S)) (field_places a)

  pub the_codes_placed : Recodes R S h → Recodes (C.the_row R) (C.the_row S) ((the_former this).map R.Denot S.Denot h)
  the_codes_placed e value = e value
