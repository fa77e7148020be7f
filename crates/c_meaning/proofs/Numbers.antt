-- Names that are numbers are told apart by them.
use Rattle.std.proofs.Common.{◌≡◌, refl, ℕ, Bool, true, false, nat_eq, bytes_eq}
use Rattle.std.specs.Prelude.{◌&&◌}
use Rattle.resolved_names.specs.Numbered.{number_name}

and_true : (b : Bool) → b && true ≡ b
and_true true = refl
and_true false = refl

pub number_eq : (m n : ℕ) → bytes_eq (number_name m) (number_name n) ≡ nat_eq m n
number_eq m n = and_true (nat_eq m n)
