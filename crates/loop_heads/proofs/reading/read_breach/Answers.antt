use Rattle.std.proofs.Common.{◌∙◌, sym}
use Rattle.std.specs.Option.{option_map}
use Rattle.c_tree.specs.PlacedOf.{placed_expr}
use Rattle.canonical_nests.specs.Canonical.{seen_loop}
use Rattle.canonical_nests.specs.LoopRules.BreachSets.{lesser}
use Rattle.loop_heads.specs.Reading.{changes_of}
use Rattle.loop_heads.proofs.Bounds.{both_bounds}
use Rattle.loop_heads.proofs.reading.read_breach.Goals as goal

pub returns : goal.returns
returns c =
    let p = c.args.place.now in
    let lower = option_map (λ e. placed_expr e.now) c.lower_bound-lower.result in
    let upper = option_map (λ e. placed_expr e.now) c.upper_bound-upper.result in
    let whole = both_bounds p.functions.now p.scope.now.state (changes_of p.construct.now) p.round.now (seen_loop p.canon) c.args.head.now lower upper c.lower_bound-lower.ensures c.upper_bound-upper.ensures in
    c.lesser.ensures ∙ ((λ i. lesser (c.some_breach-first.ensures i) (c.some_breach-second.ensures i)) ∙ sym whole)
