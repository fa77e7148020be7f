use Rattle.std.proofs.Common.{◌≡◌, max, drop}
use Rattle.c_tree.specs.BareOf.{bare_stmts}
use Rattle.c_tree.specs.Height.{stmts_height, capped}
use Rattle.c_tree.proofs.height.+stmt_height.Given as goal

-- What was seen and what is left have the height of all.
abbrev pub invariant-stmts_height-each : goal.invariant-stmts_height-each
invariant-stmts_height-each l = max l.highest (capped (stmts_height (bare_stmts (drop l.stmt-index l.stmts)))) ≡ capped (stmts_height (bare_stmts l.stmts))
