-- Numbers of tiles, and what is in one.
use Rattle.std.proofs.Common.{◌≡◌, refl, ℕ, zero, suc, ◌+◌, ◌*◌, ◌/◌, ◌%◌, ◌<◌, ◌≤◌, arith}
use Rattle.std.proofs.Math.Nat.{div-add-mod, mul-le-mul_right}
use Rattle.c_semantics.specs.Loops.Transformations.{div_up, rest}

-- a tile begins before the end
pub tile_begins : (w s g : ℕ) → 0 < s → g < div_up w s → g * s < w
tile_begins w s g some l = by (w % s) refl
  where
    by : (r : ℕ) → w % s ≡ r → g * s < w
    by zero e =
        let whole : s * (w / s) + w % s ≡ w = div-add-mod w s in
        let below : suc g ≤ w / s = omega arith in
        let more : suc g * s ≤ (w / s) * s = mul-le-mul_right s below in
        let step : suc g * s ≡ g * s + s = omega arith in
        omega arith
    by (suc r) e =
        let whole : s * (w / s) + w % s ≡ w = div-add-mod w s in
        let below : g ≤ w / s = omega arith in
        let more : g * s ≤ (w / s) * s = mul-le-mul_right s below in
        omega arith

pub some_tiles : (w s : ℕ) → 0 < s → 0 < div_up w s → 0 < w
some_tiles w s some l = let h : 0 * s < w = tile_begins w s 0 some l in omega arith

pub in_tile : (w s g i : ℕ) → i < rest w s g → g * s + i < w
in_tile w s g i l = omega arith

-- where the size divides the width, each tile is full
pub whole_tile : (w s g : ℕ) → 0 < s → w % s ≡ 0 → g < div_up w s → rest w s g ≡ s
whole_tile w s g some e l =
    let whole : s * (w / s) + w % s ≡ w = div-add-mod w s in
    let below : suc g ≤ w / s = omega arith in
    let more : suc g * s ≤ (w / s) * s = mul-le-mul_right s below in
    let step : suc g * s ≡ g * s + s = omega arith in
    omega arith

-- and where it isn't less than the width, the only tile is as wide
pub only_tile : (w s g : ℕ) → 0 < s → w ≤ s → g < div_up w s → rest w s g ≡ w
only_tile w s zero some e l = omega arith
only_tile w s (suc g) some e l =
    let begins : suc g * s < w = tile_begins w s (suc g) some l in
    let step : suc g * s ≡ g * s + s = omega arith in
    absurd (omega arith)
