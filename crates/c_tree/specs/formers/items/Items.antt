-- How an `Items` holds its elements, for a type that holds itself through one.
--     the_former, the_weighed, the_empty      it holds its elements in order, measures as the largest of them, and may hold none
--     the_items, the_items_listed      its elements as a list, which are what it holds
--     the_places, the_codes_placed     it owns, lends and is coded by what its elements own, lend and are coded by
--     the_facts            each element has what is known of its type
use mathlib.Core.Path.{◌≡◌, refl, sym, subst}
use mathlib.Core.List.{List, []}
use mathlib.Core.Former.{Former, this, list, via, children}
use Prim.Native.Nat.{ℕ}
use mir.Val.{Val}
use base.Stored.{code_map}
use base.Fml.{Lft}
use denote.RattleType.{RattleType}
use denote.Known.{Says, Known, All, Says-map, Behind, view_owned, view_shared, declared_known, nothing_known}
use denote.HoleLaws.{Alike}
use denote.HolePlaces.{Recodes, struct_places, laid}
use denote.Hole.Carrier.{listed, list-listed}
use denote.Hole.Fix.{over}
use denote.Param.Weighed.{Weighed, w_list}
use denote.Model.Placed.{view_places}
use Rattle.std.specs.formers.vec.Vec as vec
use Rattle.std.specs.declared.alloc.Global.{Global}
use Rattle.std.specs.contracts.alloc.Global as global
use Rattle.std.specs.contracts.impls.GlobalAllocator.TheImpl as allocator
use Rattle.c_tree.specs.declared.items.Items.TheInside.{Inside}
use Rattle.c_tree.specs.declared.items.Items.TheView.{view, invariant}
use Rattle.c_tree.specs.contracts.items.Items as C
use Rattle.c_tree.specs.contracts.items.Items.TheInside as I

abbrev pub the_former : Former {0} → Former {0}
the_former g = list g

abbrev pub the_weighed : {g : Former {0}} → Weighed g → Weighed (the_former g)
the_weighed w = w_list w

pub the_empty : List ⊥
the_empty = []

abbrev pub the_items : (X : Type 0) → List X → List X
the_items X elements = elements

pub the_items_listed : (X : Type 0) (elements : List X) → listed _ (children (the_former this) X elements) ≡ the_items X elements
the_items_listed X elements = list-listed X elements

-- the one field, a `Vec`
abbrev field_former : Former {0}
field_former = via (vec.the_former this Global) Inside (λ X inside. inside.items) (λ X items. record { items = items }) (λ X inside. refl) (λ X items. refl)

module _ (R S : RattleType) (h : R.Denot → S.Denot) where
  field_places : Alike R S h → Alike (I.the_row R) (I.the_row S) (field_former.map R.Denot S.Denot h)
  field_places a = struct_places (I.the_type R) (I.the_type S) (vec.mapped h, tt) _ (λ inside. refl) refl (laid _ _ _ (vec.the_places global.the_row allocator.ghosts R S h a), tt)

  pub the_places : Alike R S h → Alike (C.the_row R) (C.the_row S) ((the_former this).map R.Denot S.Denot h)
  the_places a = view_places field_former (list this) view (λ X Y k inside. refl) (λ X inside. refl) R.Denot S.Denot h (C.the_row R).coded (C.the_row S).coded
      (invariant R.Denot) (invariant S.Denot) (λ inside p q. refl) (λ inside p q. refl) (λ inside holds. tt) (λ inside holds. tt)
      (over (I.the_row R)) (over (I.the_row S)) (field_places a)

  pub the_codes_placed : Recodes R S h → Recodes (C.the_row R) (C.the_row S) ((the_former this).map R.Denot S.Denot h)
  the_codes_placed e elements = sym (code_map R.coded.code S.coded.code h (λ x. sym (e x)) elements)

module _ (R : RattleType) (k : Known R) where
  abbrev field_facts : Known (I.the_row R)
  field_facts = declared_known (I.the_type R) (vec.the_facts R global.the_row allocator.ghosts k (nothing_known global.the_row), tt)

  shown : (elements : List R.Denot) → Behind (I.the_row R) field_facts (List R.Denot) (C.the_row R).coded (C.the_view R) (C.the_invariant R) elements → All k.Fact elements
  shown elements b = subst (All k.Fact) b.1.0 b.2.0

  pub known_owned : (elements : List R.Denot) (vs : List Val) → Says ((C.the_row R).own_val elements vs) (All k.Fact elements)
  known_owned elements vs = Says-map _ (shown elements) (view_owned (I.the_row R) field_facts (List R.Denot) (C.the_row R).coded (C.the_view R) (C.the_invariant R) elements vs)

  pub known_shared : (elements : List R.Denot) (b o : ℕ) (κ : Lft) → Says ((C.the_row R).shr_at elements b o κ) (All k.Fact elements)
  known_shared elements b o κ = Says-map _ (shown elements) (view_shared (I.the_row R) field_facts (List R.Denot) (C.the_row R).coded (C.the_view R) (C.the_invariant R) elements b o κ)

  abbrev pub the_facts : Known (C.the_row R)
  the_facts = record { Fact = All k.Fact; owned = known_owned; shared = known_shared }
