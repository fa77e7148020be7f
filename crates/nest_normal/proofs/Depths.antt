-- One loop down a nest.
use Rattle.std.proofs.Common.{◌≡◌, sym, ap, ℕ, zero, suc, ◌-◌, ◌<◌, arith}
use Rattle.c_tree.specs.Bare.{Name, Expr, Stmts}
use Rattle.loop_normal.specs.Gens.{GenLoop, gen_loop, Inner}
use Rattle.nest_normal.specs.NestTexts.{at_loop, at_below, zero_at, zero_below}
use Rattle.loop_normal.proofs.LoopFields.{bare_loop_out}

one_less : (d : ℕ) → suc d - 1 ≡ d
one_less d = omega arith

pub zero_next : (d : ℕ) (ls : Stmts) (c : Name) (a b : Expr) (inner : Inner) → 0 < d → zero_at d (gen_loop ls c a b inner) ≡ zero_below (d - 1) inner
zero_next zero ls c a b inner h = absurd (omega (arith, h))
zero_next (suc d) ls c a b inner h = sym (ap (λ k. zero_below k inner) (one_less d))

pub at_next : (d : ℕ) (f : GenLoop → GenLoop) (ls : Stmts) (c : Name) (a b : Expr) (inner : Inner) → 0 < d → at_loop d f (gen_loop ls c a b inner) ≡ gen_loop ls c a b (at_below (d - 1) f inner)
at_next zero f ls c a b inner h = absurd (omega (arith, h))
at_next (suc d) f ls c a b inner h = sym (ap (λ k. gen_loop ls c a b (at_below k f inner)) (one_less d))

pub ruleset depths = (zero_next, at_next, bare_loop_out)
