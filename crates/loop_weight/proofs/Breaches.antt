-- Whether a program is too heavy.
use Rattle.std.proofs.Common.{◌≡◌, ◌∙◌, sym, ap, ℕ, ◌≢◌, min, Bool, true, false, Some, None, arith}
use Rattle.std.specs.Prelude.{nat_lt}
use Rattle.std.proofs.lemmas.Bool.Decides.{nat_tests}
use Rattle.c_tree.specs.BareOf.{bare_program}
use Rattle.c_tree.specs.PlacedOf.{placed_program}
use Rattle.c_tree.specs.declared.tree.Program.{Program}
use Rattle.c_tree.proofs.Forgotten.Programs.{bare_program_is}
use Rattle.canonical_nests.specs.Weight.{weight, most_weight}
use Rattle.canonical_nests.specs.LoopRules.BreachSets.{least, breach_if}
use Rattle.canonical_nests.specs.LoopRules.Programs.{weight_breaches}
use Rattle.canonical_nests.specs.declared.rules.LoopRule.TheVariants.{L27}

above : (n : ℕ) → min n 1048577 ≡ 1048577 → nat_lt most_weight n ≡ true
above n e = grind (arith, nat_tests)

within : (n : ℕ) → min n 1048577 ≢ 1048577 → nat_lt most_weight n ≡ false
within n ne = grind (arith, nat_tests)

module _ (p : Program) (at n : ℕ) (is : n ≡ min (weight (bare_program p)) 1048577) where
  decided : (b : Bool) → nat_lt most_weight (weight (bare_program p)) ≡ b → least (weight_breaches (Some at) (placed_program p)) ≡ least (breach_if b L27 at)
  decided b e =
      ap (λ q. least (breach_if (nat_lt most_weight (weight q)) L27 at)) (sym (bare_program_is p))
      ∙ ap (λ c. least (breach_if c L27 at)) e

  pub heavy : n ≡ 1048577 → least (weight_breaches (Some at) (placed_program p)) ≡ Some (record { place = at; rule = L27 })
  heavy e = decided true (above (weight (bare_program p)) (sym is ∙ e))

  pub light : n ≢ 1048577 → least (weight_breaches (Some at) (placed_program p)) ≡ None
  light ne = decided false (within (weight (bare_program p)) (λ e. ne (is ∙ e)))

pub ruleset breaches = (heavy, light)
