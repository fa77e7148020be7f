use Rattle.std.proofs.Common.{◌≡◌, drop, map}
use Rattle.c_tree.specs.BareOf.{bare_top}
use Rattle.c_tree.specs.Constants.{define_named, DefinesAreHeld}
use Rattle.c_tree.proofs.constant.define_among.Given as goal

-- What is left has the define that is wanted, and has held defines.
abbrev pub invariant-each : goal.invariant-each
invariant-each l =
    (define_named (map bare_top (drop l.item-index l.items)) l.name ≡ define_named (map bare_top l.items) l.name)
    × DefinesAreHeld (map bare_top (drop l.item-index l.items))
