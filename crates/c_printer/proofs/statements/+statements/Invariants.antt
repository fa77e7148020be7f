use Rattle.std.proofs.Common.{◌≡◌, ◌≤◌, ◌++◌, drop}
use Rattle.c_tree.specs.BareOf.{bare_stmts}
use Rattle.c_tree.specs.Height.{stmts_height}
use Rattle.c_printer.specs.Layout.{text}
use Rattle.c_printer.specs.Statements.{stmts_form}
use Rattle.c_printer.proofs.statements.+statements.Given as goal

-- What is printed and what is left are all statements, and none that is left is higher than all of them.
abbrev pub invariant-print_stmts-each : goal.invariant-print_stmts-each
invariant-print_stmts-each l =
    (l.out.items ++ text (stmts_form l.level (bare_stmts (drop l.stmt-index l.stmts))) ≡ l.initial.out.items ++ text (stmts_form l.level (bare_stmts l.stmts)))
    × (stmts_height (bare_stmts (drop l.stmt-index l.stmts)) ≤ stmts_height (bare_stmts l.stmts))
