-- What the fields of a generated loop are in its bare tree.
use Rattle.std.proofs.Common.{◌≡◌, ◌∙◌, sym, ap}
use Rattle.c_tree.specs.BareOf.{bare_expr, bare_stmts}
use Rattle.loop_normal.specs.Gens as g
use Rattle.loop_normal.specs.GenOf.{bare_body, bare_loop, body_layer, part_layer, loop_layer}
use Rattle.loop_normal.specs.declared.generated.GenLoop.{GenLoop, out-GenLoop, roll-GenLoop, roll-out-GenLoop, fold-roll-GenLoop}

pub bare_loop_out : (l : GenLoop) → bare_loop l ≡ g.gen_loop (bare_stmts (out-GenLoop l).lets) (out-GenLoop l).counter (bare_expr (out-GenLoop l).from) (bare_expr (out-GenLoop l).to) (bare_body (out-GenLoop l).inner)
bare_loop_out l = ap bare_loop (sym (roll-out-GenLoop l)) ∙ fold-roll-GenLoop g.Inner g.Part g.GenLoop body_layer part_layer loop_layer (out-GenLoop l)

pub ruleset fields = (bare_loop_out)
