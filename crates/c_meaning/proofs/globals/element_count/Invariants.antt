use Rattle.std.proofs.Common.{◌<◌, ◌^◌, drop}
use Rattle.c_meaning.proofs.Products.{Counted}
use Rattle.c_meaning.proofs.globals.element_count.Given as goal

-- The dimensions that are left go on from the count so far.
abbrev pub invariant-each : goal.invariant-each
invariant-each l = record {
  small : l.count < 2 ^ 63;
  counted : Counted l.count (drop l.dim-index l.dims) l.dims;
}
