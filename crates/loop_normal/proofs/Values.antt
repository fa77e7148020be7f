-- The variable of the normal form has its value in each turn, and nothing traps on the way.
use Rattle.std.proofs.Common.{◌≡◌, refl, ap, ◌∙◌, ℕ, zero, suc, ◌+◌, ◌*◌, ◌/◌, ◌^◌, ◌≤◌, ◌<◌, List, Some, Result, Ok, Err, Bool, true, false, ◌&&◌, ℤ, pos, negsuc, ◌+ℤ◌, ◌-ℤ◌, ◌*ℤ◌, int_lt, nat_abs, neg_ℤ, arith, div-mul-le_self}
use Rattle.std.proofs.lemmas.Bool.{lt-ltb, ltb-true, both_ways}
use Rattle.std.proofs.lemmas.Int.{ints}
use Rattle.std.proofs.Math.Nat.{mul-le-mul_right}
use Rattle.c_tree.specs.Bare.{Name}
use Rattle.c_tree.specs.declared.tree.Ty.{Ty}
use Rattle.c_tree.specs.declared.tree.Ty.TheVariants.{Long}
use Rattle.c_tree.specs.declared.tree.BinOp.{BinOp}
use Rattle.c_tree.specs.declared.tree.BinOp.TheVariants.{Lt, Gt, Le, Ge, Ne}
use Rattle.c_semantics.specs.Meaning.State.{scalar, Var, State, find}
use Rattle.c_tree.specs.declared.arithmetic.Trap.{Trap}
use Rattle.c_tree.specs.declared.arithmetic.Trap.TheVariants.{Overflow, Narrow}
use Rattle.c_semantics.specs.Meaning.Expressions.{Define, eval}
use Rattle.c_tree.specs.Arithmetic.{and_then, or_trap, convert, holds, half_range}
use Rattle.c_semantics.specs.Loops.CanonicalForm.{Canonical, is_step_for, fits_test}
use Rattle.c_semantics.specs.Loops.TripCount.{count, small, turns_over, inclusive}
use Rattle.loop_normal.specs.Frames.{above}
use Rattle.loop_normal.specs.Templates.{LoopNames, value_expr}
use Rattle.loop_normal.proofs.FreshFrames.{look_found, ranged}
use Rattle.loop_normal.proofs.Leaf.{trap_not, held, Worth}
use Rattle.loop_normal.proofs.Counts.{widens, counts}

-- ---- a number between two that a type holds

between : (T : Ty) (lb ub z : ℤ) → holds T lb ≡ true → holds T ub ≡ true → int_lt z lb ≡ false → int_lt ub z ≡ false → holds T z ≡ true
between T lb (pos u) (pos k) h g a b = lt-ltb k (half_range T) (omega (arith, ints, ltb-true u (half_range T) g))
between T lb (negsuc u) (pos k) h g a b = absurd (omega (arith, ints, b))
between T (pos l) ub (negsuc k) h g a b = absurd (omega (arith, ints, a))
between T (negsuc l) ub (negsuc k) h g a b = lt-ltb k (half_range T) (omega (arith, ints, ltb-true l (half_range T) h))

not_below : (lb : ℤ) (x : ℕ) → int_lt (lb +ℤ pos x) lb ≡ false
not_below lb x = by (int_lt (lb +ℤ pos x) lb) refl
  where
    by : (t : Bool) → int_lt (lb +ℤ pos x) lb ≡ t → t ≡ false
    by true e = absurd (omega (arith, ints, e))
    by false e = refl

still_below : (lb ub : ℤ) (x e : ℕ) → ub -ℤ lb ≡ pos e → x ≤ e → int_lt ub (lb +ℤ pos x) ≡ false
still_below lb ub x e d l = by (int_lt ub (lb +ℤ pos x)) refl
  where
    by : (t : Bool) → int_lt ub (lb +ℤ pos x) ≡ t → t ≡ false
    by true k = absurd (omega (arith, ints, k, d, l))
    by false k = refl

-- ---- a turn's distance from the begin

abbrev got : Result ℕ Trap → ℕ
got (Ok m) = m
got (Err x) = 0

module _ (y : Bool) where
  abbrev turns_of : ℤ → ℕ → Result ℕ Trap
  turns_of d s = and_then (small (pos (turns_over y d s))) (λ c. Ok (nat_abs c))

  turns_are : (d : ℤ) (s m : ℕ) → and_then (small d) (λ d. turns_of d s) ≡ Ok m → turns_over y d s ≡ m
  turns_are d s m h = first (int_lt d (pos (2 ^ 63))) h
    where
      second : (t : Bool) → and_then (or_trap t Overflow (pos (turns_over y d s))) (λ c. Ok (nat_abs c)) ≡ Ok m → turns_over y d s ≡ m
      second true k = ap got k
      second false k = absurd (trap_not Overflow m k)

      first : (t : Bool) → and_then (or_trap t Overflow d) (λ d. turns_of d s) ≡ Ok m → turns_over y d s ≡ m
      first true k = second (int_lt (pos (turns_over y d s)) (pos (2 ^ 63))) k
      first false k = absurd (trap_not Overflow m k)

  distance_fits : (d : ℤ) (s m e : ℕ) → and_then (small d) (λ d. turns_of d s) ≡ Ok m → d ≡ pos e → e < 2 ^ 63
  distance_fits d s m e h q = by (int_lt d (pos (2 ^ 63))) refl h
    where
      by : (t : Bool) → int_lt d (pos (2 ^ 63)) ≡ t → and_then (or_trap t Overflow d) (λ d. turns_of d s) ≡ Ok m → e < 2 ^ 63
      by true k g = omega (arith, ints, k, q)
      by false k g = absurd (trap_not Overflow m g)

in_turns : (y : Bool) (d : ℤ) (k m i : ℕ) → turns_over y d (suc k) ≡ m → i < m → (e : ℕ) × (d ≡ pos e) × (i * suc k ≤ e)
in_turns false (pos zero) k m i h l = absurd (omega (arith, h, l))
in_turns false (negsuc d) k m i h l = absurd (omega (arith, h, l))
in_turns false (pos (suc e)) k m i h l =
    let most : i ≤ e / suc k = omega (arith, h, l) in
    (suc e, refl, omega (arith, mul-le-mul_right (suc k) most, div-mul-le_self e (suc k)))
in_turns true (negsuc d) k m i h l = absurd (omega (arith, h, l))
in_turns true (pos e) k m i h l =
    let most : i ≤ e / suc k = omega (arith, h, l) in
    (e, refl, omega (arith, mul-le-mul_right (suc k) most, div-mul-le_self e (suc k)))

negated : (x : ℕ) → neg_ℤ (pos x) ≡ pos 0 -ℤ pos x
negated zero = refl
negated (suc x) = let e : negsuc x ≡ pos 0 -ℤ pos (suc x) = omega (arith, ints) in e

-- ---- the value

module _ (ds : List Define) (T : Ty) (a t : Name) where
  pub up_value : (op : BinOp) (k : ℕ) (lb ub : ℤ) → holds T lb ≡ true → holds T ub ≡ true → suc k < 2 ^ 63 → (m i : ℕ) → count op (pos (suc k)) lb ub ≡ Ok m → i < m → (f : List Var) (s : State) →
      find a f ≡ Some (scalar T (Some lb)) → find t f ≡ Some (scalar Long (Some (pos (0 + i)))) →
      and_then (eval ds (above f s) (value_expr T (pos (suc k)) a t)) (convert T) ≡ Ok (lb +ℤ pos i *ℤ pos (suc k))
  up_value op k lb ub h g small_k m i c l f s at_a at_t =
      let d = in_turns (inclusive op) (ub -ℤ lb) k m i (turns_are (inclusive op) (ub -ℤ lb) (suc k) m c) l in
      let x = i * suc k in
      let z = lb +ℤ pos x in
      let in_type = between T lb ub z h g (not_below lb x) (still_below lb ub x d.0 d.1 d.2) in
      let wide = widens T z in_type in
      let in_long : holds Long z ≡ true = held Long (Ok z) z wide in
      let same : 0 + i ≡ i = omega arith in
      let small_x : x < 2 ^ 63 = omega (arith, d.2, distance_fits (inclusive op) (ub -ℤ lb) (suc k) m d.0 c d.1) in
      rw (look_found f s a _ at_a, look_found f s t _ at_t, same, widens T lb h, ranged x small_x) (ap (λ b. and_then (and_then (or_trap b Overflow z) (convert T)) (convert T)) in_long ∙ ap (λ b. and_then (or_trap b Narrow z) (convert T)) in_type ∙ ap (λ b. or_trap b Narrow z) in_type)

  -- down: the same distance the other way
  pub down_value : (op : BinOp) (k : ℕ) (lb ub : ℤ) → holds T lb ≡ true → holds T ub ≡ true → k < 2 ^ 63 → (m i : ℕ) → count op (negsuc k) lb ub ≡ Ok m → i < m → (f : List Var) (s : State) →
      find a f ≡ Some (scalar T (Some lb)) → find t f ≡ Some (scalar Long (Some (pos (0 + i)))) →
      and_then (eval ds (above f s) (value_expr T (negsuc k) a t)) (convert T) ≡ Ok (lb +ℤ pos i *ℤ negsuc k)
  down_value op k lb ub h g small_k m i c l f s at_a at_t =
      let d = in_turns (inclusive op) (lb -ℤ ub) k m i (turns_are (inclusive op) (lb -ℤ ub) (suc k) m c) l in
      let x = i * suc k in
      let y = pos i *ℤ negsuc k in
      let z = lb +ℤ y in
      let minus : y ≡ pos 0 -ℤ pos x = times_negative i k in
      let in_type = between T ub lb z g h (above_end lb ub x d.0 y minus d.1 d.2) (below_start lb x y minus) in
      let in_long : holds Long z ≡ true = held Long (Ok z) z (widens T z in_type) in
      let same : 0 + i ≡ i = omega arith in
      let fits_y : holds Long y ≡ true = negative_fits y x minus (omega (arith, d.2, distance_fits (inclusive op) (lb -ℤ ub) (suc k) m d.0 c d.1)) in
      let factor = lt-ltb k (2 ^ 63) small_k in
      rw (look_found f s a _ at_a, look_found f s t _ at_t, same, widens T lb h, factor, fits_y) (ap (λ b. and_then (and_then (or_trap b Overflow z) (convert T)) (convert T)) in_long ∙ ap (λ b. and_then (or_trap b Narrow z) (convert T)) in_type ∙ ap (λ b. or_trap b Narrow z) in_type)
    where
      times_negative : (i k : ℕ) → pos i *ℤ negsuc k ≡ pos 0 -ℤ pos (i * suc k)
      times_negative i k = negated (i * suc k)

      above_end : (lb ub : ℤ) (x e : ℕ) (y : ℤ) → y ≡ pos 0 -ℤ pos x → lb -ℤ ub ≡ pos e → x ≤ e → int_lt (lb +ℤ y) ub ≡ false
      above_end lb ub x e y m d l = by (int_lt (lb +ℤ y) ub) refl
        where
          by : (t : Bool) → int_lt (lb +ℤ y) ub ≡ t → t ≡ false
          by true k = absurd (omega (arith, ints, k, d, l, m))
          by false k = refl

      below_start : (lb : ℤ) (x : ℕ) (y : ℤ) → y ≡ pos 0 -ℤ pos x → int_lt lb (lb +ℤ y) ≡ false
      below_start lb x y m = by (int_lt lb (lb +ℤ y)) refl
        where
          by : (t : Bool) → int_lt lb (lb +ℤ y) ≡ t → t ≡ false
          by true k = absurd (omega (arith, ints, k, m))
          by false k = refl

      negative_fits : (y : ℤ) (x : ℕ) → y ≡ pos 0 -ℤ pos x → x < 2 ^ 63 → holds Long y ≡ true
      negative_fits (pos j) x m l = lt-ltb j (2 ^ 63) (omega (arith, ints, m, l))
      negative_fits (negsuc j) x m l = lt-ltb j (2 ^ 63) (omega (arith, ints, m, l))

and_right : (a b : Bool) → (a && b) ≡ true → b ≡ true
and_right true b e = e
and_right false b e = absurd (both_ways false refl e)

not_zero : (op : BinOp) → is_step_for op (pos zero) ≡ true → ⊥
not_zero Lt e = both_ways false refl e
not_zero Le e = both_ways false refl e
not_zero Gt e = both_ways false refl e
not_zero Ge e = both_ways false refl e
not_zero Ne e = both_ways false refl e
not_zero _ e = both_ways false refl e

-- up or down, by the step's sign
values : (ds : List Define) (T : Ty) (a t : Name) (op : BinOp) (z : ℤ) → is_step_for op z ≡ true → (lb ub : ℤ) → holds T lb ≡ true → holds T ub ≡ true → (m i : ℕ) → count op z lb ub ≡ Ok m → i < m → (f : List Var) (s : State) →
    find a f ≡ Some (scalar T (Some lb)) → find t f ≡ Some (scalar Long (Some (pos (0 + i)))) → and_then (eval ds (above f s) (value_expr T z a t)) (convert T) ≡ Ok (lb +ℤ pos i *ℤ z)
values ds T a t op (pos zero) e = absurd (not_zero op e)
values ds T a t op (pos (suc k)) e = λ lb ub h g m i c l f s. up_value ds T a t op k lb ub h g (ltb-true (suc k) (2 ^ 63) (and_right (fits_test op (pos (suc k))) _ e)) m i c l f s
values ds T a t op (negsuc k) e = λ lb ub h g m i c l f s. down_value ds T a t op k lb ub h g (let b = ltb-true (suc k) (2 ^ 63) (and_right (fits_test op (negsuc k)) _ e) in omega (arith, b)) m i c l f s

-- what the count and the variable of a canonical loop are worth
pub worth : (ds : List Define) (c : Canonical) (T : Ty) (m : LoopNames) → is_step_for c.test c.step ≡ true → Worth ds c T m
worth ds c T m e =
    record {
      count_is = λ lb ub h g f s at_a at_b. counts ds T m.begin m.end f s lb ub h g at_a at_b c.test c.step e;
      value_is = λ lb ub h g k i q l f s at_a at_t. values ds T m.begin m.counter c.test c.step e lb ub h g k i q l f s at_a at_t;
    }
