-- Whether two texts are one.
use Rattle.std.proofs.Common.{◌≡◌, ◌↔◌, sym, ℕ, List, Bool, IsTrue}
use Rattle.std.specs.Prelude.{bytes_eq}
use Rattle.std.proofs.lemmas.Bool.Decides.{same_from_decides}
use Rattle.std.proofs.lemmas.Slice.Eq.{bytes_eq-Decides}

-- a test that holds exactly where the texts are one is the test of their bytes
pub same_text : (b : Bool) (xs ys : List ℕ) → IsTrue b ↔ (xs ≡ ys) → bytes_eq xs ys ≡ b
same_text b xs ys h = same_from_decides (bytes_eq xs ys) b (bytes_eq-Decides xs ys) h

pub ruleset texts = (same_text)
