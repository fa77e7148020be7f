-- What a source tells of its text, beside what was read of it.
use Rattle.std.proofs.Common.{◌≡◌, ℕ, List, Option, None, Some, IfSome, subst}

-- what holds of the bytes that were read holds of the text, where the source tells it
pub IfSome-same : (left : Option (List ℕ)) (bytes : List ℕ) (P : List ℕ → Type 0) → IfSome left (λ text. bytes ≡ text) → P bytes → IfSome left P
IfSome-same None bytes P same holds = tt
IfSome-same (Some text) bytes P same holds = subst P same holds
