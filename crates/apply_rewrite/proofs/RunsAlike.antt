-- What a program does when its constructs are carried out.
use Rattle.std.proofs.Common.{[], arith}
use Rattle.c_semantics.specs.Meaning.State.{nowhere}
use Rattle.loop_normal.specs.DrawnNames.{AreDigits}
use Rattle.loop_normal.specs.SourceNames.{beside_program}
use Rattle.carried_out.specs.CarriedOut.{carried_out}
use Rattle.apply_rewrite.specs.Laws.{CarriedOutRunsAlike}
use Rattle.apply_rewrite.proofs.Programs.{outcomes_agree}
use Rattle.apply_rewrite.proofs.Items.{good_items}
use Rattle.apply_rewrite.proofs.SourceNames.{source_spent}

-- by what is made of each item
pub runs_alike : CarriedOutRunsAlike
runs_alike = λ p well h.
    let d : AreDigits (beside_program p).digits = (omega arith, tt) in
    let g = good_items p [] nowhere h well.0 (beside_program p) d (source_spent p d) in
    (g.related, g.plain, λ n input. outcomes_agree n p (carried_out p) input g.related)
