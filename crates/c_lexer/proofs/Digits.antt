-- The value of digits, a digit at a time.
use Rattle.std.proofs.Common.{◌≡◌, ℕ, ◌+◌, ◌*◌, ◌^◌, ◌<◌, ◌≤◌, cond, List, [], ◌∷◌, drop, get_or, length, Option, Some, None, sym, ap, ◌∙◌, arith, add-one}
use Rattle.std.proofs.lemmas.Bool.{cond-false, cond-true, le-ltb, lt-ltb}
use Rattle.std.proofs.lemmas.List.{drop_all}
use Rattle.std.proofs.Math.Seq.{drop-cons}
use Rattle.std.specs.Prelude.{nat_lt}
use Rattle.std.specs.Char.{digit_value}
use Rattle.std.specs.Str.Parse.{digits_value_after}

-- the value that is written is at least what stands before its last digits
value_grows : (radix n : ℕ) (ds : List ℕ) → 0 < radix → n ≤ digits_value_after radix n ds
value_grows radix n [] h = omega arith
value_grows radix n (d ∷ ds) h =
    let k = value_grows radix (n * radix + digit_value d) ds h in
    let m : n ≤ n * radix = grows n radix h in
    omega arith
  where
    grows : (n r : ℕ) → 0 < r → n ≤ n * r
    grows n r h = grind arith

-- the value, where it is below 2 ^ 64
abbrev pub bounded : ℕ → Option ℕ
bounded v = cond (nat_lt v (2 ^ 64)) (Some v) None

pub next_digit : (radix n i : ℕ) (ds : List ℕ) → i < length ds → digits_value_after radix n (drop i ds) ≡ digits_value_after radix (n * radix + digit_value (get_or ds i 0)) (drop (i + 1) ds)
next_digit radix n i ds h = rw add-one (ap (digits_value_after radix n) (drop-cons ds i 0 h))

pub large_sum : (radix n i : ℕ) (ds : List ℕ) (v : ℕ) → 0 < radix → i < length ds → digits_value_after radix n (drop i ds) ≡ v → 2 ^ 64 ≤ n * radix + digit_value (get_or ds i 0) → None ≡ bounded v
large_sum radix n i ds v r h e k =
    let g = value_grows radix (n * radix + digit_value (get_or ds i 0)) (drop (i + 1) ds) r in
    let f = next_digit radix n i ds h in
    sym (cond-false _ _ _ (le-ltb v (2 ^ 64) (omega arith)))

pub large_product : (radix n i : ℕ) (ds : List ℕ) (v : ℕ) → 0 < radix → i < length ds → digits_value_after radix n (drop i ds) ≡ v → 2 ^ 64 ≤ n * radix → None ≡ bounded v
large_product radix n i ds v r h e k = large_sum radix n i ds v r h e (omega arith)

pub no_digit : (radix n i : ℕ) (ds : List ℕ) (v : ℕ) → length ds ≤ i → digits_value_after radix n (drop i ds) ≡ v → n < 2 ^ 64 → Some n ≡ bounded v
no_digit radix n i ds v h e k =
    let same : n ≡ v = sym (ap (digits_value_after radix n) (drop_all i ds h)) ∙ e in
    ap Some same ∙ sym (cond-true _ _ _ (lt-ltb v (2 ^ 64) (omega arith)))
