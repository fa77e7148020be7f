use Rattle.std.proofs.Common.{◌≡◌, ◌++◌, drop, map}
use Rattle.c_tree.specs.BareOf.{bare_param}
use Rattle.c_printer.specs.Layout.{text}
use Rattle.c_printer.specs.Programs.{further_params}
use Rattle.c_printer.proofs.printer.print_further_params.Given as goal

-- What is printed and what is left are all of them.
abbrev pub invariant-each : goal.invariant-each
invariant-each l = l.out.items ++ text (further_params (map bare_param (drop l.given-index l.params))) ≡ l.initial.out.items ++ text (further_params (map bare_param l.params))
