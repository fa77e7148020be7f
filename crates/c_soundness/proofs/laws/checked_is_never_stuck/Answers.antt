-- A checked program is well formed and breaks no name rule.
use Rattle.std.proofs.Common.{subst}
use Rattle.c_tree.specs.BareOf.{bare_program}
use Rattle.c_soundness.specs.NameBreaches.{BreaksNone}
use Rattle.c_soundness.specs.NeverStuck.{IsNeverStuck}
use Rattle.c_soundness.proofs.Checked.{breaks_none, is_never_stuck}
use Rattle.c_soundness.proofs.laws.checked_is_never_stuck.Goals as goal

pub returns : goal.returns
returns c =
    let kept = c.program-program.ensures in
    record {
      breaks_none = subst (λ p. BreaksNone (bare_program p)) kept.program (breaks_none _ kept.checked);
      never_stuck = subst (λ p. IsNeverStuck (bare_program p)) kept.program (is_never_stuck _ kept.checked);
    }
