-- A part replaced by those that an item gives for it.
use Rattle.std.proofs.Common.{◌≡◌, ◌∙◌, refl, sym, ap, ◌<◌, ◌≤◌, ◌+◌, ℕ, zero, suc, List, [], ◌∷◌, ◌++◌, length, take, drop, slice_index_or, arith}
use Rattle.std.proofs.lemmas.List.{append_assoc}
use Rattle.canonical_nests.specs.Kinds.{Part, at_part, below_loops, as_one_part}

part_inside : (f : Part → List Part) (i : ℕ) (ps : List Part) (p : Part) → i < length ps → p ≡ slice_index_or ps i p
    → at_part i f ps ≡ take i ps ++ (f p ++ drop (suc i) ps)
part_inside f i [] p lt is = absurd (omega (arith, lt))
part_inside f zero (q ∷ ps) p lt is = ap (λ r. f r ++ ps) (sym is)
part_inside f (suc i) (q ∷ ps) p lt is = ap (λ qs. q ∷ qs) (part_inside f i ps p (omega (arith, lt)) is)

pub part_within : (f : Part → List Part) (i : ℕ) (ps : List Part) (p : Part) → i < length ps → p ≡ slice_index_or ps i p
    → at_part i f ps ≡ take i ps ++ (f p ++ drop (i + 1) ps)
part_within f i ps p lt is =
    let e : suc i ≡ i + 1 = omega arith in
    part_inside f i ps p lt is ∙ ap (λ n. take i ps ++ (f p ++ drop n ps)) e

pub part_past : (f : Part → List Part) (i : ℕ) (ps : List Part) → length ps ≤ i → at_part i f ps ≡ ps
part_past f i [] le = refl
part_past f zero (p ∷ ps) le = absurd (omega (arith, le))
part_past f (suc i) (p ∷ ps) le = ap (λ qs. p ∷ qs) (part_past f i ps (omega (arith, le)))

-- the parts before it, those that are given, and the parts after it
pub assembled : (f : Part → List Part) (i : ℕ) (ps : List Part) (p q : Part) (a b c d front given back : List Part)
    → i < length ps → p ≡ slice_index_or ps i p → q ≡ p → a ≡ [] → front ≡ take i ps → given ≡ f q → back ≡ drop (i + 1) ps
    → b ≡ a ++ front → c ≡ b ++ given → d ≡ c ++ back → d ≡ at_part i f ps
assembled f i ps p q a b c d front given back lt is q_is a_is front_is given_is back_is b_is c_is d_is =
    d_is
    ∙ (ap (λ z. z ++ back) (c_is ∙ ap (λ z. z ++ given) b_is)
    ∙ ((λ j. ((a_is j ++ front_is j) ++ (given_is ∙ ap f q_is) j) ++ back_is j)
    ∙ (append_assoc (take i ps) (f p) (drop (i + 1) ps) ∙ sym (part_within f i ps p lt is))))

pub ruleset replacements = (part_within, part_past)

-- ---- below loops of the part

pub at_once : (j k : ℕ) (f : ℕ → List Part → List Part) (ks : Part) → j ≡ 0 → below_loops j k f ks ≡ f (k + j) (ks ∷ [])
at_once j k f ks e =
    let same : k ≡ k + j = omega arith in
    ap (λ n. below_loops n k f ks) e ∙ ap (λ n. f n (ks ∷ [])) same

pub further_in : (j k : ℕ) (f : ℕ → List Part → List Part) (ks : Part) → 0 < j → below_loops j k f ks ≡ as_one_part (k + j) ks (f (k + j) (ks ∷ []))
further_in zero k f ks lt = absurd (omega (arith, lt))
further_in (suc j) k f ks lt = refl

pub ruleset nested = (at_once, further_in)
