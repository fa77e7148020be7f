-- A Gen of the code as its bare trees.
use Rattle.std.specs.Prelude.{List, [], ◌∷◌, map}
use Rattle.c_tree.specs.BareOf.{bare_expr, bare_stmts}
use Rattle.loop_normal.specs.Gens as g
use Rattle.loop_normal.specs.Gens.{no_parts, more_parts}
use Rattle.loop_normal.specs.declared.generated.Gen.{Gen}
use Rattle.loop_normal.specs.declared.generated.GenPart.{GenPart, GenPart-F, fold-GenPart}
use Rattle.loop_normal.specs.declared.generated.GenLoop.{GenLoop, GenLoop-F, fold-GenLoop}
use Rattle.loop_normal.specs.declared.generated.GenBody.{GenBody, GenBody-F, fold-GenBody}
use Rattle.loop_normal.specs.declared.generated.GenBody.TheOpen as o

abbrev pub gather_parts : List g.Part → g.Parts
gather_parts [] = no_parts
gather_parts (p ∷ ps) = more_parts p (gather_parts ps)

abbrev pub part_layer : GenPart-F g.Inner g.Part g.GenLoop → g.Part
part_layer (o.Loop l) = g.Looped l
part_layer (o.Plain as') = g.Plain (bare_stmts as')

abbrev pub loop_layer : GenLoop-F g.Inner g.Part g.GenLoop → g.GenLoop
loop_layer l = g.gen_loop (bare_stmts l.lets) l.counter (bare_expr l.from) (bare_expr l.to) l.inner

abbrev pub body_layer : GenBody-F g.Inner g.Part g.GenLoop → g.Inner
body_layer (o.Nest l) = g.Nest l
body_layer (o.Seq ps) = g.Seq (gather_parts ps)

abbrev pub bare_part : GenPart → g.Part
bare_part = fold-GenPart g.Inner g.Part g.GenLoop body_layer part_layer loop_layer

abbrev pub bare_loop : GenLoop → g.GenLoop
bare_loop = fold-GenLoop g.Inner g.Part g.GenLoop body_layer part_layer loop_layer

abbrev pub bare_body : GenBody → g.Inner
bare_body = fold-GenBody g.Inner g.Part g.GenLoop body_layer part_layer loop_layer

abbrev pub bare_parts : List GenPart → g.Parts
bare_parts ps = gather_parts (map bare_part ps)

abbrev pub bare_gen : Gen → g.Gen
bare_gen g = record { front = bare_stmts g.front; parts = bare_parts g.parts }
