use Rattle.std.proofs.Common.{◌≡◌, ◌++◌}
use Rattle.std.specs.Vec.Iter.{into_iter_items}
use Rattle.c_tree.specs.BareOf.{bare_stmts}
use Rattle.carried_out.specs.CarriedOut.{carried_all}
use Rattle.apply_rewrite.proofs.Scopes.{all_after}
use Rattle.apply_rewrite.proofs.carrying.+carrying.Given as goal

-- What was carried out so far, what is visible after it, and the statements that are left.
abbrev pub invariant-carried_all-each : goal.invariant-carried_all-each
invariant-carried_all-each l = record {
  whole : l.fn.stmts ≡ l.yielded ++ into_iter_items l.stmt-iterator;
  defines : l.scope.defines ≡ l.initial.scope.defines;
  state : l.scope.state ≡ all_after (bare_stmts l.yielded) l.initial.scope.state;
  tree : bare_stmts l.done ≡ (carried_all l.initial.scope.defines l.initial.scope.state (bare_stmts l.yielded) l.initial.fresh).tree;
  left : l.fresh ≡ (carried_all l.initial.scope.defines l.initial.scope.state (bare_stmts l.yielded) l.initial.fresh).left;
}
