use Rattle.std.proofs.Common.{◌≡◌, max, drop}
use Rattle.c_tree.specs.BareOf.{bare_stmts}
use Rattle.c_tree.specs.Height.{capped}
use Rattle.canonical_nests.specs.TallHeight.{tall_stmts}
use Rattle.canonical_nests.proofs.tall_height.+tall_stmt.Given as goal

-- What was seen and what is left have the height of all.
abbrev pub invariant-tall_stmts-each : goal.invariant-tall_stmts-each
invariant-tall_stmts-each l = max l.highest (capped (tall_stmts (bare_stmts (drop l.stmt-index l.stmts)))) ≡ capped (tall_stmts (bare_stmts l.stmts))
