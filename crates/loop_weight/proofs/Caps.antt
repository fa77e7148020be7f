-- Sums and products up to the cap, 2^20 + 1.
use Rattle.std.proofs.Common.{◌≡◌, ◌∙◌, sym, ap, ℕ, zero, suc, ◌+◌, ◌*◌, ◌≤◌, ◌⊎◌, min, arith}
use Rattle.std.proofs.Common.{inl, inr}
use Rattle.std.proofs.Math.Nat.{mul-le-mul_left, mul_comm}

pub min_plus : (a b : ℕ) → min (min a 1048577 + min b 1048577) 1048577 ≡ min (a + b) 1048577
min_plus a b = omega arith

pub min_plus_left : (a b : ℕ) → min (min a 1048577 + b) 1048577 ≡ min (a + b) 1048577
min_plus_left a b = omega arith

pub min_plus_right : (a b : ℕ) → min (a + min b 1048577) 1048577 ≡ min (a + b) 1048577
min_plus_right a b = omega arith

pub ruleset sums = (min_plus, min_plus_left, min_plus_right)

low : (a : ℕ) → a ≤ 1048577 → min a 1048577 ≡ a
low a le = omega arith

high : (a : ℕ) → 1048577 ≤ a → min a 1048577 ≡ 1048577
high a le = omega arith

split : (a : ℕ) → (a ≤ 1048577) ⊎ (1048577 ≤ a)
split a = grind arith

many : (a b : ℕ) → 1048577 ≤ a → min (1048577 * b) 1048577 ≡ min (a * b) 1048577
many a zero le = let e : 1048577 * 0 ≡ a * 0 = omega arith in ap (λ n. min n 1048577) e
many a (suc b) le =
    let here : 1048577 ≤ 1048577 * suc b = omega arith in
    let there : 1048577 ≤ a * suc b = more in
    high (1048577 * suc b) here ∙ sym (high (a * suc b) there)
  where
    more : 1048577 ≤ a * suc b
    more = let step : a * 1 ≤ a * suc b = mul-le-mul_left a (omega arith) in omega (arith, step)

pub min_times_left : (a b : ℕ) → min (min a 1048577 * b) 1048577 ≡ min (a * b) 1048577
min_times_left a b =
    elim (split a) [ inl le ↦ ap (λ n. min (n * b) 1048577) (low a le) | inr le ↦ ap (λ n. min (n * b) 1048577) (high a le) ∙ many a b le ]

pub min_times_right : (a b : ℕ) → min (a * min b 1048577) 1048577 ≡ min (a * b) 1048577
min_times_right a b =
    ap (λ n. min n 1048577) (mul_comm a (min b 1048577)) ∙ (min_times_left b a ∙ ap (λ n. min n 1048577) (mul_comm b a))

pub min_times : (a b : ℕ) → min (min a 1048577 * min b 1048577) 1048577 ≡ min (a * b) 1048577
min_times a b = min_times_left a (min b 1048577) ∙ min_times_right a b

-- a product that is capped at 2^64 - 1 first
pub min_within : (n : ℕ) → min (min n 18446744073709551615) 1048577 ≡ min n 1048577
min_within n = omega arith

pub ruleset caps = (min_within)

pub ruleset products = (min_plus, min_plus_left, min_plus_right, min_times, min_times_left, min_times_right, min_within)
