use Rattle.std.proofs.Common.{◌≡◌, ◌≤◌, ◌++◌, drop, map}
use Rattle.c_tree.specs.BareOf.{bare_top, bare_program}
use Rattle.c_tree.specs.Height.{program_height}
use Rattle.c_printer.specs.Layout.{text}
use Rattle.c_printer.specs.Programs.{program_form, printed}
use Rattle.c_printer.proofs.printer.print.Given as goal

-- What is printed and what is left are the whole program, and no item that is left is too high.
abbrev pub invariant-each : goal.invariant-each
invariant-each l =
    (l.out.items ++ text (program_form (map bare_top (drop l.item-index l.items))) ≡ printed (bare_program l.program))
    × (program_height (map bare_top (drop l.item-index l.items)) ≤ 256)
