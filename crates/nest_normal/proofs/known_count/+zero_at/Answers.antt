-- Of the loop's fields, what is below it.
use Rattle.std.proofs.Common.{rules, sym, ap, ◌∙◌, ◌<◌}
use Rattle.c_tree.specs.BareOf.{bare_expr, bare_stmts}
use Rattle.loop_normal.specs.GenOf.{bare_body}
use Rattle.loop_normal.specs.declared.generated.GenLoop.{out-GenLoop}
use Rattle.nest_normal.specs.NestTexts.{zero_at}
use Rattle.nest_normal.proofs.Depths.{zero_next}
use Rattle.loop_normal.proofs.LoopFields.{bare_loop_out}
use Rattle.nest_normal.proofs.known_count.+zero_at.Goals as goal

pub zero_at-returns : goal.zero_at-returns
zero_at-returns t c =
    let l = c.args.looped.now in
    let f = out-GenLoop l in
    let some : 0 < c.args.depth = search rules in
    c.zero_below.ensures ∙ sym (ap (zero_at c.args.depth) (bare_loop_out l) ∙ zero_next c.args.depth (bare_stmts f.lets) f.counter (bare_expr f.from) (bare_expr f.to) (bare_body f.inner) some)
