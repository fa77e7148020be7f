use Rattle.std.proofs.Common.{◌≡◌, [], map}
use Rattle.std.specs.Vec.Iter.{into_iter_items}
use Rattle.c_tree.specs.BareOf.{bare_top}
use Rattle.c_tree.specs.WellFormed.{WellFormedTops}
use Rattle.carried_out.specs.CarriedOut.{carried_items}
use Rattle.apply_rewrite.proofs.ItemMore.{defines_after, scopes_after}
use Rattle.apply_rewrite.proofs.rewrite.carried_from.Given as goal

-- What was carried out so far, with the defines and the variables so far; the items that are left are well formed.
abbrev pub invariant-each : goal.invariant-each
invariant-each l = record {
  formed : WellFormedTops (map bare_top (into_iter_items l.item-iterator));
  outside : l.scope.state.frame ≡ [];
  defines : l.scope.defines ≡ defines_after l.initial.scope.defines (map bare_top l.yielded);
  state : l.scope.state ≡ scopes_after l.initial.scope.state (map bare_top l.yielded);
  tree : map bare_top l.done ≡ (carried_items l.initial.scope.defines l.initial.scope.state (map bare_top l.yielded) l.initial.fresh).tree;
  left : l.fresh ≡ (carried_items l.initial.scope.defines l.initial.scope.state (map bare_top l.yielded) l.initial.fresh).left;
}
