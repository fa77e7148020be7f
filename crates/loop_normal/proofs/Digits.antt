-- One digit more of the next number.
use Rattle.std.proofs.Common.{◌≡◌, refl, sym, ap, ◌∙◌, ℕ, ◌+◌, ◌<◌, ◌≤◌, List, [], ◌∷◌, ◌++◌, Bool, true, false, append_assoc}
use Rattle.std.specs.Prelude.{nat_lt, if◌then◌else◌}
use Rattle.std.proofs.lemmas.Bool.{lt-ltb, le-ltb}
use Rattle.loop_normal.specs.DrawnNames.{next_digits}

-- a digit below 9 is counted up, and the others stay
pub digit_up : (next ds all : List ℕ) (d : ℕ) → d < 57 → next ++ next_digits (d ∷ ds) ≡ all → (next ++ (d + 1) ∷ []) ++ ds ≡ all
digit_up next ds all d h e = append_assoc next ((d + 1) ∷ []) ds ∙ (sym (ap (λ t. next ++ (if t then (d + 1) ∷ ds else 48 ∷ next_digits ds)) (lt-ltb d 57 h)) ∙ e)

-- a 9 becomes a 0, and the next digit is counted up
pub digit_over : (next ds all : List ℕ) (d : ℕ) → 57 ≤ d → next ++ next_digits (d ∷ ds) ≡ all → (next ++ 48 ∷ []) ++ next_digits ds ≡ all
digit_over next ds all d h e = append_assoc next (48 ∷ []) (next_digits ds) ∙ (sym (ap (λ t. next ++ (if t then (d + 1) ∷ ds else 48 ∷ next_digits ds)) (le-ltb d 57 h)) ∙ e)

pub ruleset digits = (digit_up, digit_over)
