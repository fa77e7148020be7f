-- Lists that are built from a family.
use Rattle.std.proofs.Common.{◌≡◌, refl, sym, ap, ◌∙◌, ℕ, zero, suc, ◌-◌, ◌<◌, List, [], ◌∷◌, ◌++◌, length, reverse, arith}
use Rattle.std.proofs.lemmas.List.{reverse-append}
use Rattle.c_semantics.specs.Loops.IterationTrees.{Tree, of_list, to_list, members, nth}

pub to_of : (ts : List Tree) → to_list (of_list ts) ≡ ts
to_of [] = refl
to_of (t ∷ ts) = ap (λ l. t ∷ l) (to_of ts)

pub members_same : {A : Type 0} (w : ℕ) (f g : ℕ → A) → ((i : ℕ) → i < w → f i ≡ g i) → members w f ≡ members w g
members_same zero f g h = refl
members_same (suc w) f g h = ap (λ a. a ∷ members w (λ i. f (suc i))) (h 0 (omega arith)) ∙ ap (λ l. g 0 ∷ l) (members_same w _ _ (λ i l. h (suc i) (omega (arith, l))))

pub length_members : {A : Type 0} (w : ℕ) (f : ℕ → A) → length (members w f) ≡ w
length_members zero f = refl
length_members (suc w) f = ap suc (length_members w (λ i. f (suc i)))

-- the last member
members_last : {A : Type 0} (w : ℕ) (f : ℕ → A) → members (suc w) f ≡ members w f ++ f w ∷ []
members_last zero f = refl
members_last (suc w) f = ap (λ l. f 0 ∷ l) (members_last w (λ i. f (suc i)))

pub reverse_members : {A : Type 0} (w : ℕ) (f : ℕ → A) → reverse (members w f) ≡ members w (λ i. f (w - 1 - i))
reverse_members zero f = refl
reverse_members (suc w) f =
    let last : suc w - 1 - 0 ≡ w = omega arith in
    ap reverse (members_last w f) ∙ reverse-append (members w f) (f w ∷ []) ∙ ap (λ l. f w ∷ l) (reverse_members w f ∙ members_same w _ _ (λ i l. ap f (omega (arith, l))))
    ∙ ap (λ j. f j ∷ members w (λ i. f (suc w - 1 - suc i))) (sym last)

pub nth_members : (w i : ℕ) (f : ℕ → Tree) → i < w → nth i (members w f) ≡ f i
nth_members zero i f l = absurd (omega (arith, l))
nth_members (suc w) zero f l = refl
nth_members (suc w) (suc i) f l = nth_members w i (λ j. f (suc j)) (omega (arith, l))
