use Rattle.std.proofs.Common.{◌≡◌, drop}
use Rattle.c_tree.specs.BareOf.{bare_stmts}
use Rattle.c_meaning.specs.Plain.{are_plain_stmts}
use Rattle.c_meaning.proofs.directives.+plain.Given as goal

-- What is left decides.
abbrev pub invariant-are_plain-each : goal.invariant-are_plain-each
invariant-are_plain-each l = are_plain_stmts (bare_stmts (drop l.stmt-index l.stmts)) ≡ are_plain_stmts (bare_stmts l.stmts)
