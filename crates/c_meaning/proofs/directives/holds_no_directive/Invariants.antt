use Rattle.std.proofs.Common.{◌≡◌, drop, map}
use Rattle.c_tree.specs.BareOf.{bare_top}
use Rattle.c_meaning.specs.Plain.{is_plain}
use Rattle.c_meaning.proofs.directives.holds_no_directive.Given as goal

-- What is left decides.
abbrev pub invariant-each : goal.invariant-each
invariant-each l = is_plain (map bare_top (drop l.item-index l.program.items)) ≡ is_plain (map bare_top l.program.items)
