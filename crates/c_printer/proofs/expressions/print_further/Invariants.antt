use Rattle.std.proofs.Common.{◌≡◌, ◌++◌, drop}
use Rattle.c_tree.specs.BareOf.{bare_exprs}
use Rattle.c_printer.specs.Layout.{text}
use Rattle.c_printer.specs.Expressions.{further}
use Rattle.c_printer.proofs.expressions.print_further.Given as goal

-- What is printed and what is left are all of them.
abbrev pub invariant-each : goal.invariant-each
invariant-each l = l.out.items ++ text (further (bare_exprs (drop l.e-index l.es))) ≡ l.initial.out.items ++ text (further (bare_exprs l.es))
