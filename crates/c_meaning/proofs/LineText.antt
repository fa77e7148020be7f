-- The text of a line, written in two pieces.
use Rattle.std.proofs.Common.{◌≡◌, subst, ℕ, List, [], ◌∷◌, ◌++◌, Option, ℤ}
use Rattle.std.specs.Fmt.{signed_decimal}
use Rattle.outside_io.specs.Bytes.{Gains, GainsPrefix}
use Rattle.outside_io.proofs.SinkBytes.{GainsPrefix-longer, GainsPrefix-append}
use Rattle.c_meaning.specs.Running.{line_text}

pub digits_part : (a b : Option (List ℕ)) (bs : List ℕ) (z : ℤ) → bs ≡ signed_decimal z → GainsPrefix a b bs → GainsPrefix a b (line_text z)
digits_part a b bs z is g = subst (λ ds. GainsPrefix a b (ds ++ 10 ∷ [])) is (GainsPrefix-longer a b bs (10 ∷ []) g)

pub end_part : (a b c : Option (List ℕ)) (bs : List ℕ) (z : ℤ) → bs ≡ signed_decimal z → Gains a b bs → GainsPrefix b c (10 ∷ []) → GainsPrefix a c (line_text z)
end_part a b c bs z is first second = subst (λ ds. GainsPrefix a c (ds ++ 10 ∷ [])) is (GainsPrefix-append a b c bs (10 ∷ []) first second)

pub ruleset line_texts = (digits_part, end_part)
