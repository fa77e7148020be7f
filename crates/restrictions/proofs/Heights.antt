-- A height counted up to a limit is above 256 exactly where the height is.
use Rattle.std.proofs.Common.{◌≡◌, ◌∙◌, sym, ap, ℕ, nat_lt, arith}
use Rattle.c_tree.specs.BareOf.{bare_program}
use Rattle.c_tree.specs.PlacedOf.{placed_program}
use Rattle.c_tree.specs.Forget.{forget_program}
use Rattle.c_tree.specs.Height.{capped}
use Rattle.c_tree.specs.declared.tree.Program.{Program}
use Rattle.c_tree.proofs.Forgotten.Programs.{bare_program_is}
use Rattle.std.proofs.lemmas.Bool.Decides.{nat_tests}
use Rattle.canonical_nests.specs.TallHeight.{tall_height}

above : (n : ℕ) → nat_lt 256 (capped n) ≡ nat_lt 256 n
above n = grind (arith, nat_tests)

pub above_limit : (program : Program) (k : ℕ) → k ≡ capped (tall_height (bare_program program))
    → nat_lt 256 (tall_height (forget_program (placed_program program))) ≡ nat_lt 256 k
above_limit program k is =
    ap (λ p. nat_lt 256 (tall_height p)) (sym (bare_program_is program)) ∙ (sym (above (tall_height (bare_program program))) ∙ ap (nat_lt 256) (sym is))

pub ruleset heights = (above_limit)
