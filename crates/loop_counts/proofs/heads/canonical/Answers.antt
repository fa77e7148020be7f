-- The bounds of a well-formed head are held.
use Rattle.std.proofs.Common.{sym}
use Rattle.c_tree.specs.BareOf.{bare_head}
use Rattle.loop_counts.proofs.HeldBounds.{head_held, lb_held, ub_held}
use Rattle.loop_counts.proofs.heads.canonical.Goals as goal

pub canonical_head-requires : goal.canonical_head-requires
canonical_head-requires c = head_held (bare_head c.args.head.now) c.requires

pub returns : goal.returns
returns c = record {
  canonical = c.canonical_head.ensures;
  lb = lb_held c.args.scope.now.defines (bare_head c.args.head.now) c.canonical_head.result c.requires (sym c.canonical_head.ensures);
  ub = ub_held c.args.scope.now.defines (bare_head c.args.head.now) c.canonical_head.result c.requires (sym c.canonical_head.ensures);
}
