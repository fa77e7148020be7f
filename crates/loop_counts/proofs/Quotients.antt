-- Quotients that are rounded up, and division by 0.
use Rattle.std.proofs.Common.{◌≡◌, ◌∙◌, ap, ℕ, ◌+◌, ◌/◌, ◌%◌, ◌<◌, min, false, arith}
use Rattle.std.specs.Prelude.{◌==◌}
use Rattle.std.proofs.lemmas.Bool.Decides.{nat_tests}
use Rattle.std.proofs.Math.Nat.{div-zero, mod-zero}
use Rattle.c_semantics.specs.Loops.Transformations.{div_up}

least_one : (n : ℕ) → 0 < n → min 1 n ≡ 1
least_one n lt = omega arith

pub up_by_zero : (n k : ℕ) → k ≡ 0 → div_up n k ≡ min n 1
up_by_zero n k e = ap (div_up n) e ∙ (ap (λ q. q + min 1 (n % 0)) (div-zero n) ∙ (ap (λ r. 0 + min 1 r) (mod-zero n) ∙ least n))
  where
    least : (m : ℕ) → 0 + min 1 m ≡ min m 1
    least m = omega arith

pub up_whole : (n k : ℕ) → n % k ≡ 0 → div_up n k ≡ n / k
up_whole n k e = ap (λ r. n / k + min 1 r) e ∙ plain (n / k)
  where
    plain : (m : ℕ) → m + min 1 0 ≡ m
    plain m = omega arith

pub up_rest : (n k r : ℕ) → n % k ≡ r → 0 < r → div_up n k ≡ n / k + 1
up_rest n k r e lt = ap (λ m. n / k + min 1 m) e ∙ ap (λ m. n / k + m) (least_one r lt)

-- 0 divides no greater number
pub zero_divides : (n k : ℕ) → k < n → k ≡ 0 → (n % k == 0) ≡ false
zero_divides n k lt e = ap (λ m. n % m == 0) e ∙ (ap (λ r. r == 0) (mod-zero n) ∙ above n (omega arith))
  where
    above : (m : ℕ) → 0 < m → (m == 0) ≡ false
    above m h = grind (arith, nat_tests)

pub ruleset quotients = (up_by_zero, up_whole, up_rest, zero_divides)
