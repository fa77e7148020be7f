-- The text of a reversed loop (OpenMP 6.0, 11.5, the reverse construct).
use Rattle.c_tree.specs.Bare.{Name, read, bin}
use Rattle.c_tree.specs.declared.tree.BinOp.TheVariants.{Sub}
use Rattle.loop_normal.specs.Gens.{GenLoop, gen_loop, Gen, let_stmt}
use Rattle.loop_normal.specs.Templates.{ll, put_let, on_first}

-- of a loop whose counter c runs from 0 to b: `for (long long r = 0LL; r < b; r++)`, and `long long c = b - 1LL - r;` below it
abbrev pub reversed : Name → GenLoop → GenLoop
reversed r (gen_loop ls c a b inner) = gen_loop ls r (ll 0) b (put_let (let_stmt c (bin Sub (bin Sub b (ll 1)) (read r))) inner)

-- a Gen whose first loop runs from 0
abbrev pub reversed_gen : Name → Gen → Gen
reversed_gen r g = record { front = g.front; parts = on_first (reversed r) g.parts }
