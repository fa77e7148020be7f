-- Positions among ascending ones, and what a loop over positions has left.
use Rattle.std.proofs.Common.{◌≡◌, ◌∙◌, refl, sym, ap, ℕ, zero, suc, ◌+◌, ◌-◌, ◌<◌, ◌≤◌, List, [], ◌∷◌, length, drop, slice_index_or, true, false, arith}
use Rattle.std.specs.Prelude.{nat_lt, ◌==◌, if◌then◌else◌}
use Rattle.std.proofs.lemmas.Bool.Decides.{nat_tests}
use Rattle.c_tree.proofs.Walks.{rest_more, rest_none}
use Rattle.c_semantics.specs.Loops.Transformations.{place_of}
use Rattle.canonical_nests.specs.declared.nest.CountKind.TheVariants.{Entry, Depends}
use Rattle.canonical_nests.specs.Kinds.{with_position, ascending, some_or_entry}

module _ (p : ℕ) (xs : List ℕ) (i x : ℕ) (within : i < length xs) (is : x ≡ slice_index_or xs i x) where
  here : drop i xs ≡ x ∷ drop (i + 1) xs
  here = rest_more (λ ys. ys) xs i x within is

  more : with_position p (drop i xs) ≡ (if nat_lt p x then p ∷ x ∷ drop (i + 1) xs else if p == x then x ∷ drop (i + 1) xs else x ∷ with_position p (drop (i + 1) xs))
  more = rest_more (with_position p) xs i x within is

  pub position_before : p < x → with_position p (drop i xs) ≡ p ∷ drop i xs
  position_before lt =
      let yes : nat_lt p x ≡ true = grind (arith, nat_tests) in
      more
      ∙ (ap (λ b. if b then p ∷ x ∷ drop (i + 1) xs else if p == x then x ∷ drop (i + 1) xs else x ∷ with_position p (drop (i + 1) xs)) yes
      ∙ ap (λ ys. p ∷ ys) (sym here))

  pub position_there : p ≡ x → with_position p (drop i xs) ≡ drop i xs
  position_there e =
      let no : nat_lt p x ≡ false = grind (arith, nat_tests) in
      let yes : (p == x) ≡ true = grind (arith, nat_tests) in
      more
      ∙ (ap (λ b. if b then p ∷ x ∷ drop (i + 1) xs else if p == x then x ∷ drop (i + 1) xs else x ∷ with_position p (drop (i + 1) xs)) no
      ∙ (ap (λ b. if b then x ∷ drop (i + 1) xs else x ∷ with_position p (drop (i + 1) xs)) yes
      ∙ sym here))

  pub position_after : x < p → with_position p (drop i xs) ≡ x ∷ with_position p (drop (i + 1) xs)
  position_after lt =
      let no : nat_lt p x ≡ false = grind (arith, nat_tests) in
      let not : (p == x) ≡ false = grind (arith, nat_tests) in
      more
      ∙ (ap (λ b. if b then p ∷ x ∷ drop (i + 1) xs else if p == x then x ∷ drop (i + 1) xs else x ∷ with_position p (drop (i + 1) xs)) no
      ∙ ap (λ b. if b then x ∷ drop (i + 1) xs else x ∷ with_position p (drop (i + 1) xs)) not)

pub position_end : (p : ℕ) (xs : List ℕ) (i : ℕ) → length xs ≤ i → with_position p (drop i xs) ≡ p ∷ []
position_end p xs i = rest_none (with_position p) xs i

pub place_more : (p : ℕ) (xs : List ℕ) (i x : ℕ) → i < length xs → x ≡ slice_index_or xs i x
    → place_of p (drop i xs) ≡ (if p == x then 0 else place_of p (drop (i + 1) xs) + 1)
place_more p xs i = rest_more (place_of p) xs i

pub place_end : (p : ℕ) (xs : List ℕ) (i : ℕ) → length xs ≤ i → place_of p (drop i xs) ≡ 0
place_end p xs i = rest_none (place_of p) xs i

pub ruleset positions = (position_before, position_there, position_after, position_end, place_more, place_end)

-- ---- in order

pub ascending_more : (xs : List ℕ) (left x : ℕ) → 0 < left → left ≤ length xs → x ≡ slice_index_or xs (left - 1) x
    → ascending (drop (left - 1) xs) ≡ with_position x (ascending (drop left xs))
ascending_more xs left x above le is =
    let lt : left - 1 < length xs = omega arith in
    let e : left - 1 + 1 ≡ left = omega arith in
    rest_more ascending xs (left - 1) x lt is ∙ ap (λ n. with_position x (ascending (drop n xs))) e

pub ascending_none : (xs : List ℕ) (left : ℕ) → left ≡ length xs → ascending (drop left xs) ≡ []
ascending_none xs left e = let le : length xs ≤ left = omega arith in rest_none ascending xs left le

pub ascending_all : (xs : List ℕ) (left : ℕ) → left ≤ 0 → ascending (drop left xs) ≡ ascending xs
ascending_all xs zero le = refl
ascending_all xs (suc left) le = absurd (omega (arith, le))

pub ruleset ascents = (ascending_more, ascending_none, ascending_all)

-- ---- what depends on positions

pub depends_on_none : (ps : List ℕ) → ps ≡ [] → some_or_entry ps ≡ Entry
depends_on_none ps e = ap some_or_entry e

pub depends_on_some : (ps : List ℕ) → (ps ≡ [] → ⊥) → some_or_entry ps ≡ Depends ps
depends_on_some [] some = absurd (some refl)
depends_on_some (p ∷ ps) some = refl

pub ruleset dependences = (depends_on_none, depends_on_some)
