use Rattle.std.proofs.Common.{◌∙◌, ap}
use Rattle.c_tree.specs.BareOf.{bare_head}
use Rattle.c_tree.specs.PlacedOf.{placed_head}
use Rattle.canonical_nests.specs.LoopRules.Heads.{init_of}
use Rattle.c_semantics.specs.Loops.CanonicalForm.{canonical}
use Rattle.c_semantics.specs.Meaning.State.{keep, with_frame}
use Rattle.loop_counts.specs.Visible.{Visible}
use Rattle.loop_heads.specs.Reading.{changes_of}
use Rattle.loop_heads.proofs.Nests.{left_scope, left_round, for_found, for_taken}
use Rattle.loop_heads.proofs.construct.+stmts_breach.Goals as goal

pub for_breach-returns-clause-scope : goal.for_breach-returns-clause-scope
for_breach-returns-clause-scope t c =
    left_scope c.args.scope.now c.enter_loop.new.scope c.keep.new.self (init_of (placed_head c.args.head.now)) (canonical c.args.scope.now.defines (bare_head c.args.head.now)) c.len-len.result
    c.len-len.ensures c.in_ok-here.ensures.scope
    (c.keep.ensures ∙ ap (λ (v : Visible). record v { state = with_frame (keep c.len-len.result v.state.frame) v.state }) c.in_ok-below.ensures.scope)

pub for_breach-returns-clause-round : goal.for_breach-returns-clause-round
for_breach-returns-clause-round t c =
    left_round c.args.round.now c.enter_loop.new.round c.keep-2.new.self (canonical c.args.scope.now.defines (bare_head c.args.head.now)) c.len-depth.result
    c.len-depth.ensures c.in_ok-here.ensures.round
    (c.keep-2.ensures ∙ ap (keep c.len-depth.result) c.in_ok-below.ensures.round)

pub for_breach-returns-clause-breach : goal.for_breach-returns-clause-breach
for_breach-returns-clause-breach t c =
    for_found c.args.scope.now c.enter_loop.new.scope c.args.at.functions.now (changes_of c.args.at.construct.now) c.args.round.now c.enter_loop.new.round c.args.wanted c.args.head.now c.args.body.now
    c.in_ok-here.here c.in_ok-below.below c.lesser.result
    c.in_ok-here.ensures.scope c.in_ok-here.ensures.round c.in_ok-here.ensures.breach c.in_ok-below.ensures.breach c.lesser.ensures

pub stmt_breach-returns-in_ok-found-in-For-clause-breach :
    goal.stmt_breach-returns-in_ok-found-in-For-clause-breach
stmt_breach-returns-in_ok-found-in-For-clause-breach t c =
    let w = c.in-For in
    for_taken c.args.scope.now.defines c.args.at.functions.now (changes_of c.args.at.construct.now) c.args.scope.now.state c.args.round.now c.args.wanted
    c.args.stmt.now w.head w.body c.as_slice.result.now w.span c.in_ok-found-in-For.found w.is c.as_slice.ensures c.in_ok-found-in-For.ensures.breach
