-- A reading piece by piece. A piece is the front of a buffer, which the read filled.
use Rattle.std.proofs.Common.{◌≡◌, ℕ, ◌+◌, ◌≤◌, List, ◌++◌, take, length, length-append, Option, ap, ◌∙◌, subst, append_assoc}
use Rattle.std.proofs.KnownBytes.{Consumes-trans}
use Rattle.std.proofs.lemmas.List.{length-take-le, take-append-le}
use Rattle.std.specs.Io.KnownBytes.{Consumes}
use Rattle.outside_io.specs.Bytes.{LosesFirst}
use Rattle.outside_io.specs.Taker.{Extends}

-- so far the taker was handed these bytes, and they are what the source lost
pub record HandedSoFar (old new : Option (List ℕ)) (stood stands : List ℕ → Type 0) (total : ℕ) : Type 0 where
  pub bytes : List ℕ
  pub count : length bytes ≡ total
  pub lost : Consumes old new bytes
  pub taken : Extends stood stands bytes

-- a piece of n bytes has n bytes
pub length-piece : (n : ℕ) (filled behind : List ℕ) → n ≤ length filled → length (take n (filled ++ behind)) ≡ n
length-piece n filled behind fits = ap length (take-append-le n filled behind fits) ∙ length-take-le n filled fits

-- the bytes so far and those of one more piece
pub length-with_piece : (n total : ℕ) (bytes filled : List ℕ) → n ≤ length filled → length bytes ≡ total → length (bytes ++ take n filled) ≡ total + n
length-with_piece n total bytes filled fits count =
    rw (length-append, length-take-le n filled fits) (ap (λ m. m + n) count)

-- what the source has lost after one more piece
pub lost_more : (old mid new : Option (List ℕ)) (stood stands : List ℕ → Type 0) (total n : ℕ) (filled : List ℕ)
    → n ≤ length filled → HandedSoFar old mid stood stands total → Consumes mid new (take n filled)
    → LosesFirst old new (total + n)
lost_more old mid new stood stands total n filled fits so_far lost = (
  so_far.bytes ++ take n filled,
  length-with_piece n total so_far.bytes filled fits so_far.count,
  Consumes-trans old mid new so_far.bytes (take n filled) so_far.lost lost,
)

-- the piece is handed on too
pub handed_more : (old mid new : Option (List ℕ)) (stood between stands : List ℕ → Type 0) (total n : ℕ) (filled behind : List ℕ)
    → n ≤ length filled → HandedSoFar old mid stood between total → Consumes mid new (take n filled)
    → Extends between stands (take n (filled ++ behind)) → HandedSoFar old new stood stands (total + n)
handed_more old mid new stood between stands total n filled behind fits so_far lost taken =
    let piece = take n filled in
    record {
      bytes = so_far.bytes ++ piece;
      count = length-with_piece n total so_far.bytes filled fits so_far.count;
      lost = Consumes-trans old mid new so_far.bytes piece so_far.lost lost;
      taken = λ before stood_for.
          let same = ap (λ l. (before ++ so_far.bytes) ++ l) (take-append-le n filled behind fits) ∙ append_assoc before so_far.bytes piece in
          subst stands same (taken (before ++ so_far.bytes) (so_far.taken before stood_for));
    }
