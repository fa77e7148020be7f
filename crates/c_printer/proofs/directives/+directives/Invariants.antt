use Rattle.std.proofs.Common.{◌≡◌, ◌++◌, drop}
use Rattle.c_tree.specs.BareOf.{bare_clauses, bare_items}
use Rattle.c_printer.specs.Layout.{text}
use Rattle.c_printer.specs.Directives.{clauses_form, items_after, listed_items}
use Rattle.c_printer.proofs.directives.+directives.Given as goal

-- What is printed and what is left are all clauses.
abbrev pub invariant-print_clauses-each : goal.invariant-print_clauses-each
invariant-print_clauses-each l = l.out.items ++ text (clauses_form (bare_clauses (drop l.element-index l.clauses))) ≡ l.initial.out.items ++ text (clauses_form (bare_clauses l.clauses))

-- What is printed and what is left are all items.
abbrev pub invariant-print_items-each : goal.invariant-print_items-each
invariant-print_items-each l = l.out.items ++ text (items_after l.first (bare_items (drop l.item-index l.items))) ≡ l.initial.out.items ++ text (listed_items (bare_items l.items))
