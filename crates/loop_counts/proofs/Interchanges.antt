-- What a loop over the loops that `interchange` takes, or over its permutation, has left.
use Rattle.std.proofs.Common.{◌≡◌, ◌∙◌, refl, sym, ap, ◌<◌, ◌≤◌, ◌+◌, ◌-◌, ℕ, List, [], ◌∷◌, ◌++◌, map, length, take, drop, slice_index_or}
use Rattle.std.specs.Prelude.{flat_map}
use Rattle.c_tree.proofs.Walks.{rest_more, rest_none}
use Rattle.c_semantics.specs.Structure.Parts.{all_known}
use Rattle.canonical_nests.specs.declared.nest.CountKind.{CountKind}
use Rattle.canonical_nests.specs.declared.nest.CountKind.TheVariants.{Known, Entry, Depends}
use Rattle.canonical_nests.specs.Kinds.{Part, depends_on, kind_at, known_count, first_known, interchanged}

pub depends_more : (xs : Part) (i : ℕ) (x : CountKind) → i < length xs → x ≡ slice_index_or xs i x → flat_map depends_on (drop i xs) ≡ depends_on x ++ flat_map depends_on (drop (i + 1) xs)
depends_more xs i = rest_more (flat_map depends_on) xs i

pub depends_end : (xs : Part) (i : ℕ) → length xs ≤ i → flat_map depends_on (drop i xs) ≡ []
depends_end xs i = rest_none (flat_map depends_on) xs i

pub independent : (k : CountKind) → ((ps : List ℕ) → k ≡ Depends ps → ⊥) → depends_on k ≡ []
independent (Known c) other = refl
independent Entry other = refl
independent (Depends ps) other = absurd (other ps refl)

pub permuted_more : (ks : Part) (xs : List ℕ) (i x : ℕ) → i < length xs → x ≡ slice_index_or xs i x
    → map (λ p. kind_at ks (p - 1)) (drop i xs) ≡ kind_at ks (x - 1) ∷ map (λ p. kind_at ks (p - 1)) (drop (i + 1) xs)
permuted_more ks xs i = rest_more (map (λ p. kind_at ks (p - 1))) xs i

pub permuted_end : (ks : Part) (xs : List ℕ) (i : ℕ) → length xs ≤ i → map (λ p. kind_at ks (p - 1)) (drop i xs) ≡ []
permuted_end ks xs i = rest_none (map (λ p. kind_at ks (p - 1))) xs i

pub interchanged_some : (ks : Part) (ps : List ℕ) (p : ℕ) (rest : List ℕ) → ps ≡ p ∷ rest
    → interchanged ps ks ≡ (first_known (all_known (map known_count (take (length ps) ks))) (kind_at ks (p - 1)) (take (length ps) ks) ∷ map (λ q. kind_at ks (q - 1)) rest) ++ drop (length ps) ks
interchanged_some ks ps p rest e =
    ap (λ qs. interchanged qs ks) e
    ∙ ap (λ n. (first_known (all_known (map known_count (take n ks))) (kind_at ks (p - 1)) (take n ks) ∷ map (λ q. kind_at ks (q - 1)) rest) ++ drop n ks) (sym (ap length e))

pub interchanged_none : (ks : Part) (ps : List ℕ) → ps ≡ [] → interchanged ps ks ≡ drop (length ps) ks
interchanged_none ks ps e = ap (λ qs. interchanged qs ks) e ∙ ap (λ n. drop n ks) (sym (ap length e))

pub ruleset interchanges = (depends_more, depends_end, independent, permuted_more, permuted_end, interchanged_some, interchanged_none)
