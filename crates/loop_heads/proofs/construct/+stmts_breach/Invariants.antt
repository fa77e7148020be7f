use Rattle.std.proofs.Common.{◌≡◌, drop}
use Rattle.c_tree.specs.BareOf.{bare_stmts}
use Rattle.c_tree.specs.PlacedOf.{placed_stmts}
use Rattle.c_tree.specs.WellFormed.{WellFormedStmts}
use Rattle.canonical_nests.specs.LoopRules.BreachSets.{least, lesser}
use Rattle.canonical_nests.specs.LoopRules.Heads.{stmts_breaches}
use Rattle.loop_heads.specs.Reading.{changes_of}
use Rattle.loop_heads.proofs.construct.+stmts_breach.Given as goal

-- What was found and what is left have the least breach of all, and what is visible is as it was.
abbrev pub invariant-stmts_breach-each : goal.invariant-stmts_breach-each
invariant-stmts_breach-each l = record {
  found : lesser l.found (least (stmts_breaches l.initial.scope.defines l.at.functions.now (changes_of l.at.construct.now) l.initial.scope.state l.initial.round l.wanted (placed_stmts (drop l.stmt-index l.stmts))))
      ≡ least (stmts_breaches l.initial.scope.defines l.at.functions.now (changes_of l.at.construct.now) l.initial.scope.state l.initial.round l.wanted (placed_stmts l.stmts));
  good : WellFormedStmts (bare_stmts (drop l.stmt-index l.stmts));
  scope : l.scope ≡ l.initial.scope;
  round : l.round ≡ l.initial.round;
}
