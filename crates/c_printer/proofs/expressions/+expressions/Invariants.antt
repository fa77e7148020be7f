use Rattle.std.proofs.Common.{◌≡◌, ◌++◌, drop}
use Rattle.c_tree.specs.BareOf.{bare_exprs}
use Rattle.c_printer.specs.Layout.{text}
use Rattle.c_printer.specs.Expressions.{subscripts}
use Rattle.c_printer.proofs.expressions.+expressions.Given as goal

-- What is printed and what is left are all subscripts.
abbrev pub invariant-print_subscripts-each : goal.invariant-print_subscripts-each
invariant-print_subscripts-each l = l.out.items ++ text (subscripts (bare_exprs (drop l.e-index l.es))) ≡ l.initial.out.items ++ text (subscripts (bare_exprs l.es))
