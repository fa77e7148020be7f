-- The count of a loop, from its parts.
use Rattle.std.proofs.Common.{◌≡◌, ◌∙◌, sym, ap, refl, List, ℕ, zero, suc, ◌+◌, ◌-◌, ◌/◌, ◌<◌, ◌≤◌, ◌^◌, Bool, true, false, Option, Some, None, Result, Ok, Err, ℤ, pos, negsuc, arith}
use Rattle.std.specs.Prelude.{◌-ℤ◌, ◌≤ℤ◌, ◌<ℤ◌, nat_abs, nat_lt, ◌&&◌, if◌then◌else◌}
use Rattle.std.proofs.lemmas.Int.{ints}
use Rattle.std.proofs.lemmas.Bool.Decides.{nat_tests}
use Rattle.std.proofs.Math.Nat.{div-zero}
use Rattle.c_tree.specs.declared.arithmetic.Trap.{Trap}
use Rattle.c_tree.specs.declared.arithmetic.Trap.TheVariants.{Overflow}
use Rattle.c_tree.specs.declared.tree.BinOp.{BinOp}
use Rattle.c_tree.specs.declared.tree.Ty.TheVariants.{Long}
use Rattle.c_tree.specs.Arithmetic.{and_then, or_trap, in_range, convert}
use Rattle.c_semantics.specs.Meaning.State.{State}
use Rattle.c_semantics.specs.Meaning.Expressions.{Define, eval, only_constants}
use Rattle.c_semantics.specs.Loops.CanonicalForm.{Canonical}
use Rattle.c_semantics.specs.Loops.TripCount.{Range, small, count, inclusive, entry, loop_type}
use Rattle.c_semantics.specs.Loops.TripCount as trip
use Rattle.c_semantics.specs.Structure.Skeleton.{range_count, source_count}
use Rattle.loop_counts.specs.Turns.{as_number, turns_of, entry_turns}

-- ---- distances

above : (z : ℤ) → pos 0 ≤ℤ z → in_range Long z ≡ small z
above (pos n) le = refl
above (negsuc n) le = absurd (omega (arith, ints, le))

difference_above : (low high : ℤ) → low ≤ℤ high → pos 0 ≤ℤ (high -ℤ low)
difference_above low high le = omega (arith, ints, le)

kept : (z d : ℤ) (b : Bool) → or_trap b Overflow z ≡ Ok d → z ≡ d
kept z d true h = cc
kept z d false h = absurd (cc)

in_range_is : (z d : ℤ) → in_range Long z ≡ Ok d → z ≡ d
in_range_is (pos n) d h = kept (pos n) d (nat_lt n (2 ^ 63)) h
in_range_is (negsuc n) d h = kept (negsuc n) d (nat_lt n (2 ^ 63)) h

pub distance_there : (low high d : ℤ) → low ≤ℤ high → Ok d ≡ in_range Long (high -ℤ low) → small (high -ℤ low) ≡ Ok d
distance_there low high d le e = sym (above (high -ℤ low) (difference_above low high le)) ∙ sym e

pub distance_above : (low high d : ℤ) → low ≤ℤ high → Ok d ≡ in_range Long (high -ℤ low) → pos 0 ≤ℤ d
distance_above low high d le e =
    let is : (high -ℤ low) ≡ d = in_range_is (high -ℤ low) d (sym e) in
    rw (← is) (difference_above low high le)

pub distance_far : (low high : ℤ) (t : Trap) → low ≤ℤ high → Err t ≡ in_range Long (high -ℤ low) → small (high -ℤ low) ≡ Err t
distance_far low high t le e = sym (above (high -ℤ low) (difference_above low high le)) ∙ sym e

pub ruleset distances = (distance_there, distance_above, distance_far)

-- ---- turns

small_there : (n : ℕ) → n < 2 ^ 63 → and_then (small (pos n)) (λ c. Ok (nat_abs c)) ≡ Ok n
small_there n lt = let yes : nat_lt n (2 ^ 63) ≡ true = grind (arith, nat_tests) in ap (λ b. and_then (or_trap b Overflow (pos n)) (λ c. Ok (nat_abs c))) yes

small_far : (n : ℕ) → 2 ^ 63 ≤ n → and_then (small (pos n)) (λ c. Ok (nat_abs c)) ≡ Err Overflow
small_far n le = let no : nat_lt n (2 ^ 63) ≡ false = grind (arith, nat_tests) in ap (λ b. and_then (or_trap b Overflow (pos n)) (λ c. Ok (nat_abs c))) no

pub no_turn : (b : Bool) (s d : ℕ) → b ≡ false → d ≡ 0 → turns_of b s (pos d) ≡ Ok 0
no_turn b s d e z = (λ i. turns_of (e i) s (pos (z i)))

abbrev pub over : Bool → ℕ → ℕ
over true d = d
over false d = d - 1

turns_is : (b : Bool) (s d : ℕ) → (b ≡ false → 0 < d) → trip.turns_over b (pos d) s ≡ over b d / s + 1
turns_is true s d h = refl
turns_is false s zero h = absurd (omega (arith, h refl))
turns_is false s (suc d) h = let e : suc d - 1 ≡ d = omega arith in ap (λ n. n / s + 1) (sym e)

module _ (b : Bool) (s d w : ℕ) (some : b ≡ false → 0 < d) where
  turns_whole : over b d / s ≡ w → trip.turns_over b (pos d) s ≡ w + 1
  turns_whole e = turns_is b s d some ∙ ap (λ n. n + 1) e

  pub turns_there : over b d / s ≡ w → w < 2 ^ 63 - 1 → turns_of b s (pos d) ≡ Ok (w + 1)
  turns_there e lt = ap (λ n. and_then (small (pos n)) (λ c. Ok (nat_abs c))) (turns_whole e) ∙ small_there (w + 1) (omega arith)

  pub turns_far : over b d / s ≡ w → 2 ^ 63 - 1 ≤ w → turns_of b s (pos d) ≡ Err Overflow
  turns_far e le = ap (λ n. and_then (small (pos n)) (λ c. Ok (nat_abs c))) (turns_whole e) ∙ small_far (w + 1) (omega arith)

pub over_inclusive : (b : Bool) (d : ℕ) → b ≡ true → over b d ≡ d
over_inclusive b d e = ap (λ c. over c d) e

pub over_exclusive : (b : Bool) (d : ℕ) → b ≡ false → over b d ≡ d - 1
over_exclusive b d e = ap (λ c. over c d) e

pub by_zero : (n s : ℕ) → s ≡ 0 → n / s ≡ 0
by_zero n s e = ap (λ k. n / k) e ∙ div-zero n

pub ruleset turns = (no_turn, turns_there, turns_far, over_inclusive, over_exclusive, by_zero)

-- ---- ranges

below : (b : Bool) (s : ℕ) (z : ℤ) → z <ℤ pos 0 → and_then (small z) (turns_of b s) ≡ Ok 0
below b s (pos n) lt = absurd (omega (arith, ints, lt))
below true s (negsuc n) lt = refl
below false s (negsuc n) lt = refl

pub turns_back : (b : Bool) (s : ℕ) (low high : ℤ) → high <ℤ low → and_then (small (high -ℤ low)) (turns_of b s) ≡ Ok 0
turns_back b s low high lt = below b s (high -ℤ low) (omega (arith, ints, lt))

pub turns_along : (b : Bool) (s d : ℕ) (z : ℤ) → as_number (Ok d) ≡ small z → and_then (small z) (turns_of b s) ≡ turns_of b s (pos d)
turns_along b s d z e = ap (λ r. and_then r (turns_of b s)) (sym e)

pub turns_trapped : (b : Bool) (s : ℕ) (t : Trap) (z : ℤ) → as_number (Err t) ≡ small z → and_then (small z) (turns_of b s) ≡ Err t
turns_trapped b s t z e = ap (λ r. and_then r (turns_of b s)) (sym e)

fits : (z : ℤ) (d : ℕ) (b : Bool) (n : ℕ) → nat_lt n (2 ^ 63) ≡ b → z ≡ pos n → or_trap b Overflow z ≡ Ok (pos d) → d < 2 ^ 63
fits z d true n lt is h = let same : pos n ≡ pos d = cc in let e : n ≡ d = cc in grind (arith, nat_tests)
fits z d false n lt is h = absurd (cc)

pub distance_fits : (d : ℕ) (z : ℤ) → as_number (Ok d) ≡ small z → d < 2 ^ 63
distance_fits d (pos n) e = fits (pos n) d (nat_lt n (2 ^ 63)) n refl refl (sym e)
distance_fits d (negsuc n) e = absurd (cc)

pub ruleset ranges = (turns_back, turns_along, turns_trapped, distance_fits)

-- ---- counts

pub count_up : (op : BinOp) (by lb ub : ℤ) → pos 0 ≤ℤ by → count op by lb ub ≡ and_then (small (ub -ℤ lb)) (turns_of (inclusive op) (nat_abs by))
count_up op (pos s) lb ub le = refl
count_up op (negsuc s) lb ub le = absurd (omega (arith, ints, le))

pub count_down : (op : BinOp) (by lb ub : ℤ) → by <ℤ pos 0 → count op by lb ub ≡ and_then (small (lb -ℤ ub)) (turns_of (inclusive op) (nat_abs by))
count_down op (pos s) lb ub lt = absurd (omega (arith, ints, lt))
count_down op (negsuc s) lb ub lt = refl

pub ruleset counts = (count_up, count_down)

-- ---- entries

ok_of : Result ℕ Trap → Option ℕ
ok_of (Ok n) = Some n
ok_of (Err t) = None

counted : (r : Result ℤ Trap) (f : ℤ → Result Range Trap) (g : ℤ → Result ℕ Trap) → ((z : ℤ) → range_count (f z) ≡ ok_of (g z)) → range_count (and_then r f) ≡ ok_of (and_then r g)
unfolding ok_of
counted (Ok z) f g same = same z
counted (Err t) f g same = refl

ranged : (r : Result ℕ Trap) (f : ℕ → Range) → ((n : ℕ) → (f n).count ≡ n) → range_count (and_then r (λ n. Ok (f n))) ≡ ok_of r
unfolding ok_of
ranged (Ok n) f same = ap Some (same n)
ranged (Err t) f same = refl

entry_is : (ds : List Define) (s : State) (c : Canonical) → range_count (entry ds s c) ≡ ok_of (entry_turns (loop_type ds s c) c.test c.step (eval ds s c.lb) (eval ds s c.ub))
entry_is ds s c =
    let t = loop_type ds s c in
    counted (eval ds s c.lb) _ _ (λ y. counted (convert t y) _ _ (λ a. counted (eval ds s c.ub) _ _ (λ z. counted (convert t z) _ _ (λ b.
    ranged (count c.test c.step a b) (λ n. record { var = c.var; ty = t; from = a; step = c.step; count = n }) (λ n. refl)))))

both_constant : (ds : List Define) (s : State) (c : Canonical) (a b : Bool) → only_constants ds c.lb ≡ a → only_constants ds c.ub ≡ b
    → source_count ds s (Some c) ≡ (if a && b then range_count (entry ds s c) else None)
both_constant ds s c a b e f = λ i. if e i && f i then range_count (entry ds s c) else None

pub lb_not_constant : (ds : List Define) (s : State) (c : Canonical) → only_constants ds c.lb ≡ false → source_count ds s (Some c) ≡ None
lb_not_constant ds s c e = both_constant ds s c false (only_constants ds c.ub) e refl

pub ub_not_constant : (ds : List Define) (s : State) (c : Canonical) → only_constants ds c.lb ≡ true → only_constants ds c.ub ≡ false → source_count ds s (Some c) ≡ None
ub_not_constant ds s c e f = both_constant ds s c true false e f

pub both_counted : (ds : List Define) (s : State) (c : Canonical) (n : ℕ) → only_constants ds c.lb ≡ true → only_constants ds c.ub ≡ true
    → Ok n ≡ entry_turns (loop_type ds s c) c.test c.step (eval ds s c.lb) (eval ds s c.ub) → source_count ds s (Some c) ≡ Some n
unfolding ok_of
both_counted ds s c n e f g = both_constant ds s c true true e f ∙ (entry_is ds s c ∙ ap ok_of (sym g))

pub both_trapped : (ds : List Define) (s : State) (c : Canonical) (t : Trap) → only_constants ds c.lb ≡ true → only_constants ds c.ub ≡ true
    → Err t ≡ entry_turns (loop_type ds s c) c.test c.step (eval ds s c.lb) (eval ds s c.ub) → source_count ds s (Some c) ≡ None
unfolding ok_of
both_trapped ds s c t e f g = both_constant ds s c true true e f ∙ (entry_is ds s c ∙ ap ok_of (sym g))

pub ruleset entries = (lb_not_constant, ub_not_constant, both_counted, both_trapped)
