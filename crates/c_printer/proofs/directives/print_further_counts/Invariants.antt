use Rattle.std.proofs.Common.{◌≡◌, ◌++◌, drop, map}
use Rattle.c_tree.specs.BareOf.{bare_count}
use Rattle.c_printer.specs.Layout.{text}
use Rattle.c_printer.specs.Directives.{further_counts}
use Rattle.c_printer.proofs.directives.print_further_counts.Given as goal

-- What is printed and what is left are all of them.
abbrev pub invariant-each : goal.invariant-each
invariant-each l = l.out.items ++ text (further_counts (map bare_count (drop l.element-index l.counts))) ≡ l.initial.out.items ++ text (further_counts (map bare_count l.counts))
