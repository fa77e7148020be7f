-- The count that the normal form computes is the loop's trip count, trap for trap.
use Rattle.std.proofs.Common.{◌≡◌, refl, ap, ℕ, zero, suc, ◌+◌, ◌/◌, ◌^◌, List, Some, Result, Ok, Bool, true, false, ℤ, pos, negsuc, ◌+ℤ◌, ◌-ℤ◌, int_lt, int_le, int_div, nat_abs, arith, div-le_self}
use Rattle.std.specs.Prelude.{if◌then◌else◌, nat_lt}
use Rattle.std.proofs.lemmas.Bool.{lt-ltb, ltb-true, both_ways}
use Rattle.std.proofs.lemmas.Int.{ints}
use Rattle.c_tree.specs.Bare.{Name}
use Rattle.c_tree.specs.declared.tree.Ty.{Ty}
use Rattle.c_tree.specs.declared.tree.Ty.TheVariants.{Int, Long}
use Rattle.c_tree.specs.declared.tree.BinOp.TheVariants.{Lt, Gt, Le, Ge, Ne}
use Rattle.c_tree.specs.declared.tree.BinOp.{BinOp}
use Rattle.c_semantics.specs.Meaning.State.{scalar, Var, State, find}
use Rattle.c_semantics.specs.Loops.CanonicalForm.{is_step_for}
use Rattle.c_tree.specs.declared.arithmetic.Trap.{Trap}
use Rattle.c_tree.specs.declared.arithmetic.Trap.TheVariants.{Narrow}
use Rattle.c_semantics.specs.Meaning.Expressions.{Define, eval}
use Rattle.c_tree.specs.Arithmetic.{and_then, or_trap, in_range, convert, holds, half_range, truth, is_zero}
use Rattle.c_semantics.specs.Loops.TripCount.{count, small, turns_over}
use Rattle.loop_normal.specs.Frames.{above}
use Rattle.loop_normal.specs.Templates.{strict_count, weak_count, gap, count_expr}
use Rattle.loop_normal.proofs.FreshFrames.{look_found}

-- a - b, less 1, over s, and 1 more, as the text has it
abbrev chain : Result ℤ Trap → ℕ → Result ℤ Trap
chain d s = and_then (and_then (and_then d (λ x. in_range Long (x -ℤ pos 1))) (λ x. in_range Long (int_div x (pos s)))) (λ x. in_range Long (x +ℤ pos 1))

abbrev counted : ℤ → ℕ → Result ℤ Trap
counted d s = and_then (and_then (small d) (λ d. and_then (small (pos (turns_over false d s))) (λ c. Ok (nat_abs c)))) (λ k. Ok (pos k))

abbrev text : Bool → ℤ → ℕ → Result ℤ Trap
text t d s = and_then (if is_zero (truth t) then Ok (pos 0) else chain (in_range Long d) s) (convert Long)

positive : (d s : ℕ) (x : Bool) → nat_lt (suc d) (2 ^ 63) ≡ x → text true (pos (suc d)) s ≡ counted (pos (suc d)) s
positive d s false h = rw (h) refl
positive d s true h =
    let l = ltb-true (suc d) (2 ^ 63) h in
    let below : pos (suc d) -ℤ pos 1 ≡ pos d = omega (arith, ints) in
    let one = lt-ltb d (2 ^ 63) (omega (arith, l)) in
    let two = lt-ltb (d / s) (2 ^ 63) (omega (arith, l, div-le_self d s)) in
    let three = lt-ltb (d / s + 1) (2 ^ 63) (omega (arith, l, div-le_self d s)) in
    rw (h) (rw (below, one) (rw (two) (rw (three) (rw (three) refl))))

no_distance : (a b : ℤ) → int_lt a b ≡ true → b -ℤ a ≡ pos 0 → ⊥
no_distance a b h e = omega (arith, ints)

negative_distance : (a b : ℤ) (d : ℕ) → int_lt a b ≡ true → b -ℤ a ≡ negsuc d → ⊥
negative_distance a b d h e = omega (arith, ints)

some_distance : (a b : ℤ) (d : ℕ) → int_lt a b ≡ false → b -ℤ a ≡ pos (suc d) → ⊥
some_distance a b d h e = omega (arith, ints)

by_cases : (a b : ℤ) (s : ℕ) (t : Bool) (d : ℤ) → int_lt a b ≡ t → b -ℤ a ≡ d → text t d s ≡ counted d s
by_cases a b s true (pos zero) h e = absurd (no_distance a b h e)
by_cases a b s true (negsuc d) h e = absurd (negative_distance a b d h e)
by_cases a b s true (pos (suc d)) h e = positive d s (nat_lt (suc d) (2 ^ 63)) refl
by_cases a b s false (pos zero) h e = refl
by_cases a b s false (negsuc d) h e = refl
by_cases a b s false (pos (suc d)) h e = absurd (some_distance a b d h e)

-- ---- the same where the bound belongs to the range

abbrev weak_chain : Result ℤ Trap → ℕ → Result ℤ Trap
weak_chain d s = and_then (and_then d (λ x. in_range Long (int_div x (pos s)))) (λ x. in_range Long (x +ℤ pos 1))

abbrev weak_counted : ℤ → ℕ → Result ℤ Trap
weak_counted d s = and_then (and_then (small d) (λ d. and_then (small (pos (turns_over true d s))) (λ c. Ok (nat_abs c)))) (λ k. Ok (pos k))

abbrev weak_text : Bool → ℤ → ℕ → Result ℤ Trap
weak_text t d s = and_then (if is_zero (truth t) then Ok (pos 0) else weak_chain (in_range Long d) s) (convert Long)

weak_positive : (d s : ℕ) (x y : Bool) → nat_lt d (2 ^ 63) ≡ x → nat_lt (d / s + 1) (2 ^ 63) ≡ y → weak_text true (pos d) s ≡ weak_counted (pos d) s
weak_positive d s false y h k = rw (h) refl
weak_positive d s true y h k =
    let l = ltb-true d (2 ^ 63) h in
    let two = lt-ltb (d / s) (2 ^ 63) (omega (arith, l, div-le_self d s)) in
    rw (h) (rw (two) (last y k))
  where
    last : (y : Bool) → nat_lt (d / s + 1) (2 ^ 63) ≡ y → and_then (in_range Long (pos (d / s + 1))) (convert Long) ≡ and_then (and_then (small (pos (d / s + 1))) (λ c. Ok (nat_abs c))) (λ k. Ok (pos k))
    last true e = rw (e) (rw (e) refl)
    last false e = rw (e) refl

weak_negative : (a b : ℤ) (d : ℕ) → int_le a b ≡ true → b -ℤ a ≡ negsuc d → ⊥
weak_negative a b d h e = omega (arith, ints)

weak_distance : (a b : ℤ) (d : ℕ) → int_le a b ≡ false → b -ℤ a ≡ pos d → ⊥
weak_distance a b d h e = omega (arith, ints)

weak_cases : (a b : ℤ) (s : ℕ) (t : Bool) (d : ℤ) → int_le a b ≡ t → b -ℤ a ≡ d → weak_text t d s ≡ weak_counted d s
weak_cases a b s true (pos d) h e = weak_positive d s (nat_lt d (2 ^ 63)) (nat_lt (d / s + 1) (2 ^ 63)) refl refl
weak_cases a b s true (negsuc d) h e = absurd (weak_negative a b d h e)
weak_cases a b s false (pos d) h e = absurd (weak_distance a b d h e)
weak_cases a b s false (negsuc d) h e = refl

wide : (k : ℕ) → nat_lt k (half_range Int) ≡ true → nat_lt k (2 ^ 63) ≡ true
wide k h = lt-ltb k (2 ^ 63) (omega (arith, ltb-true k (2 ^ 31) h))

-- an int is a long long
pub widens : (T : Ty) (z : ℤ) → holds T z ≡ true → convert Long z ≡ Ok z
widens Int (pos k) h = ap (λ t. or_trap t Narrow (pos k)) (wide k h)
widens Int (negsuc k) h = ap (λ t. or_trap t Narrow (negsuc k)) (wide k h)
widens Long z h = ap (λ t. or_trap t Narrow z) h

module _ (ds : List Define) (T : Ty) (a b : Name) (f : List Var) (s : State) (lb ub : ℤ) (h : holds T lb ≡ true) (g : holds T ub ≡ true)
    (at_a : find a f ≡ Some (scalar T (Some lb))) (at_b : find b f ≡ Some (scalar T (Some ub))) where
  less_count : (k : ℕ) → and_then (eval ds (above f s) (strict_count Lt (gap a b) (suc k) a b)) (convert Long) ≡ and_then (count Lt (pos (suc k)) lb ub) (λ k. Ok (pos k))
  less_count k = rw (look_found f s b _ at_b, look_found f s a _ at_a, widens T lb h, widens T ub g) (by_cases lb ub (suc k) (int_lt lb ub) (ub -ℤ lb) refl refl)

  greater_count : (k : ℕ) → and_then (eval ds (above f s) (strict_count Gt (gap b a) (suc k) a b)) (convert Long) ≡ and_then (count Gt (negsuc k) lb ub) (λ k. Ok (pos k))
  greater_count k = rw (look_found f s b _ at_b, look_found f s a _ at_a, widens T lb h, widens T ub g) (by_cases ub lb (suc k) (int_lt ub lb) (lb -ℤ ub) refl refl)

  at_most_count : (k : ℕ) → and_then (eval ds (above f s) (weak_count Le (gap a b) (suc k) a b)) (convert Long) ≡ and_then (count Le (pos (suc k)) lb ub) (λ k. Ok (pos k))
  at_most_count k = rw (look_found f s b _ at_b, look_found f s a _ at_a, widens T lb h, widens T ub g) (weak_cases lb ub (suc k) (int_le lb ub) (ub -ℤ lb) refl refl)

  at_least_count : (k : ℕ) → and_then (eval ds (above f s) (weak_count Ge (gap b a) (suc k) a b)) (convert Long) ≡ and_then (count Ge (negsuc k) lb ub) (λ k. Ok (pos k))
  at_least_count k = rw (look_found f s b _ at_b, look_found f s a _ at_a, widens T lb h, widens T ub g) (weak_cases ub lb (suc k) (int_le ub lb) (lb -ℤ ub) refl refl)

  -- every test with every step that fits it
  pub counts : (op : BinOp) (z : ℤ) → is_step_for op z ≡ true → and_then (eval ds (above f s) (count_expr op z a b)) (convert Long) ≡ and_then (count op z lb ub) (λ k. Ok (pos k))
  counts Lt (pos (suc k)) e = less_count k
  counts Le (pos (suc k)) e = at_most_count k
  counts Ne (pos (suc k)) e = less_count k
  counts Gt (negsuc k) e = greater_count k
  counts Ge (negsuc k) e = at_least_count k
  counts Ne (negsuc k) e = greater_count k
  counts Lt (pos zero) e = absurd (both_ways false refl e)
  counts Le (pos zero) e = absurd (both_ways false refl e)
  counts Ne (pos zero) e = absurd (both_ways false refl e)
  counts Lt (negsuc k) e = absurd (both_ways false refl e)
  counts Le (negsuc k) e = absurd (both_ways false refl e)
  counts Gt (pos k) e = absurd (both_ways false refl e)
  counts Ge (pos k) e = absurd (both_ways false refl e)
  counts _ z e = absurd (both_ways false refl e)
