-- Lists of bytes that are cut into pieces.
use Rattle.std.proofs.Common.{◌≡◌, ℕ, ◌+◌, List, ◌++◌, take, drop, sym, ap, ◌∙◌, append_assoc}
use Rattle.std.proofs.lemmas.List.{take-append-drop, drop-drop}

-- what is left from i on: its first n bytes, and what is left from there on
pub drop_split : (i n : ℕ) (bytes : List ℕ) → drop i bytes ≡ take n (drop i bytes) ++ drop (i + n) bytes
drop_split i n bytes =
    sym (take-append-drop n (drop i bytes)) ∙ ap (λ rest. take n (drop i bytes) ++ rest) (drop-drop n i bytes)

-- bytes after a first part: the first part and n more, and then the others
pub append_split : (n : ℕ) (bytes front rest : List ℕ) → bytes ≡ front ++ rest → bytes ≡ (front ++ take n rest) ++ drop n rest
append_split n bytes front rest is =
    is ∙ ap (λ l. front ++ l) (sym (take-append-drop n rest)) ∙ sym (append_assoc front (take n rest) (drop n rest))
