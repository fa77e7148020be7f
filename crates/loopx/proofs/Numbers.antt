-- Words, and the numbers that they spell.
use Rattle.std.proofs.Common.{refl, ◌≡◌, ℕ, ◌<◌, ◌≤◌, ℤ, List, [], ◌∷◌, length, map, take, drop, slice_index_or, ◌-◌, ap, sym, ◌∙◌, arith}
use Rattle.std.proofs.Math.Seq.{take-length}
use Rattle.loopx.specs.Words.{AreNumbers, AllNumbers}

-- a list of one item, under a function
pub one_item : {A : Type 0} (f : A → List ℕ) (xs : List A) (x : A) → 1 ≤ length xs → length xs < 2 → x ≡ slice_index_or xs 0 x → map f xs ≡ f x ∷ []
one_item f [] x low high is_first = absurd (omega arith)
one_item f (y ∷ []) x low high is_first = ap (λ z. f z ∷ []) (sym is_first)
one_item f (y ∷ z ∷ zs) x low high is_first = absurd (omega arith)

-- a list of two items and more, under a function
pub two_items : {A : Type 0} (f : A → List ℕ) (xs : List A) (x y : A) → 2 ≤ length xs → x ≡ slice_index_or xs 0 x → y ≡ slice_index_or xs 1 y →
    map f xs ≡ f x ∷ f y ∷ map f (take (length xs - 2) (drop 2 xs))
two_items f [] x y low is_first is_second = absurd (omega arith)
two_items f (a ∷ []) x y low is_first is_second = absurd (omega arith)
two_items f (a ∷ b ∷ bs) x y low is_first is_second =
    let long : length (a ∷ b ∷ bs) - 2 ≡ length bs = omega arith in
    let rest : take (length (a ∷ b ∷ bs) - 2) bs ≡ bs = rw long (take-length bs) in
    cc

pub numbers_of_all : (words : List (List ℕ)) → AllNumbers words → (zs : List ℤ) × AreNumbers words zs
numbers_of_all [] all = ([], tt)
numbers_of_all (word ∷ words) all = let rest = numbers_of_all words all.1 in (all.0.0 ∷ rest.0, (all.0.1, rest.1))

pub all_of_numbers : (words : List (List ℕ)) (zs : List ℤ) → AreNumbers words zs → AllNumbers words
all_of_numbers [] [] are = tt
all_of_numbers [] (z ∷ zs) are = absurd are
all_of_numbers (word ∷ words) [] are = absurd are
all_of_numbers (word ∷ words) (z ∷ zs) are = ((z, are.0), all_of_numbers words zs are.1)

-- words spell at most one list of numbers
pub numbers_once : (words : List (List ℕ)) (ys zs : List ℤ) → AreNumbers words ys → AreNumbers words zs → ys ≡ zs
numbers_once [] [] [] h k = refl
numbers_once [] [] (z ∷ zs) h k = absurd k
numbers_once [] (y ∷ ys) zs h k = absurd h
numbers_once (word ∷ words) [] zs h k = absurd h
numbers_once (word ∷ words) (y ∷ ys) [] h k = absurd k
numbers_once (word ∷ words) (y ∷ ys) (z ∷ zs) h k =
    let same : y ≡ z = h.0.value ∙ sym k.0.value in
    let rest : ys ≡ zs = numbers_once words ys zs h.1 k.1 in
    rw (same, rest) refl
