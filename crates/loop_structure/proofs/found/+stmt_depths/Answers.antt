-- A directive gives what its plan makes of what it finds.
use Rattle.std.proofs.Common.{sym, true, false}
use Rattle.loop_structure.proofs.FoundDepths.{omp_gives}
use Rattle.loop_structure.proofs.found.+stmt_depths.Goals as goal

pub stmt_depths-returns-then-finds_all : goal.stmt_depths-returns-then-finds_all
stmt_depths-returns-then-finds_all g t c =
    omp_gives (g.C.Constants.defines c.args.constants.now) c.args.stmt.now c.in-Omp.directive c.in-Omp.body c.as_slice-then-finds_all.result.now c.in-Omp.span c.args.standing _ true _ _
    c.in-Omp.is c.as_slice-then-finds_all.ensures c.in_ok-plan-in-Omp.ensures (sym c.if-finds_all.ensures) c.in_ok-found-in-Omp.ensures c.in_ok-given-in-Omp.ensures

pub stmt_depths-returns-in_ok-given-in-Omp-2 : goal.stmt_depths-returns-in_ok-given-in-Omp-2
stmt_depths-returns-in_ok-given-in-Omp-2 g t c =
    omp_gives (g.C.Constants.defines c.args.constants.now) c.args.stmt.now c.in-Omp.directive c.in-Omp.body c.as_slice-in-Omp.result.now c.in-Omp.span c.args.standing _ false _ _
    c.in-Omp.is c.as_slice-in-Omp.ensures c.in_ok-plan-in-Omp.ensures (sym c.if-finds_all.ensures) c.in_ok-found-in-Omp-2.ensures c.in_ok-given-in-Omp-2.ensures
