-- A loop that takes some turns of another, in an order that the number of turns tells: what reverse and split make.
use Rattle.std.proofs.Common.{◌≡◌, refl, sym, ap, ◌∙◌, subst, ℕ, zero, suc, ◌+◌, ◌-◌, ◌<◌, List, [], ◌∷◌, reverse, length, take, drop, Bool, true, arith, length-drop}
use Rattle.std.specs.Prelude.{min}
use Rattle.std.proofs.lemmas.List.{get_or-reverse, length-reverse}
use Rattle.c_semantics.specs.Loops.IterationTrees.{Tree, loop_of, children, no_tree, nth}
use Rattle.nest_counts.specs.HasKinds.{IsLoop, turns, child, EachBelow, Related}
use Rattle.nest_counts.proofs.Ways.{to_of}

-- f takes the turns that the number of turns tells
pub record Selects (f : Tree → Tree) : Type 0 where
  pub many : ℕ → ℕ
  pub which : ℕ → ℕ → ℕ
  pub is_loop : (t : Tree) → IsLoop (f t)
  pub takes_many : (t : Tree) → turns (f t) ≡ many (turns t)
  pub within : (w i : ℕ) → i < many w → which w i < w
  pub takes_which : (t : Tree) (i : ℕ) → i < many (turns t) → child (f t) i ≡ child t (which (turns t) i)

pub each_selected : (f : Tree → Tree) (s : Selects f) (P : Tree → Type 0) (n : ℕ) (t : Tree) → EachBelow P (suc n) t → EachBelow P (suc n) (f t)
each_selected f s P n t h = λ i l.
    let l' : i < s.many (turns t) = subst (λ w. i < w) (s.takes_many t) l in
    subst (EachBelow P n) (sym (s.takes_which t i l')) (h (s.which (turns t) i) (s.within (turns t) i l'))

pub related_selected : (f : Tree → Tree) (s : Selects f) (R : Tree → Tree → Type 0) (b : Bool) (bs : List Bool) (t u : Tree)
    → Related R (b ∷ bs) t u → Related R (b ∷ bs) (f t) (f u)
related_selected f s R b bs t u h =
    let same : b ≡ true → 0 < turns (f t) → 0 < turns (f u) → turns t ≡ turns u = λ is l m.
    let l' : 0 < s.many (turns t) = subst (λ w. 0 < w) (s.takes_many t) l in
    let m' : 0 < s.many (turns u) = subst (λ w. 0 < w) (s.takes_many u) m in
    let p : s.which (turns t) 0 < turns t = s.within (turns t) 0 l' in
    let q : s.which (turns u) 0 < turns u = s.within (turns u) 0 m' in
    h.0 is (omega arith) (omega arith) in (
      (λ is l m. s.takes_many t ∙ (ap s.many (same is l m) ∙ sym (s.takes_many u))),
      (λ i j l m e.
          let l' : i < s.many (turns t) = subst (λ w. i < w) (s.takes_many t) l in
          let m' : j < s.many (turns u) = subst (λ w. j < w) (s.takes_many u) m in
          subst (λ x. Related R bs x (child (f u) j)) (sym (s.takes_which t i l'))
          (subst (Related R bs (child t (s.which (turns t) i))) (sym (s.takes_which u j m'))
          (h.1 (s.which (turns t) i) (s.which (turns u) j) (s.within (turns t) i l') (s.within (turns u) j m')
          (λ is. (λ k. s.which (same is (omega arith) (omega arith) k) (e is k)))))),
    )

-- ---- reverse

pub length_reverse : (ts : List Tree) → length (reverse ts) ≡ length ts
length_reverse ts = length-reverse ts

abbrev pub reversed : Tree → Tree
reversed t = loop_of (reverse (children t))

abbrev pub reverse_selects : Selects reversed
reverse_selects = record {
  many = λ w. w;
  which = λ w i. w - 1 - i;
  is_loop = λ t. tt;
  takes_many = λ t. ap length (to_of (reverse (children t))) ∙ length_reverse (children t);
  within = λ w i l. omega arith;
  takes_which = λ t i l. ap (λ ts. nth i ts) (to_of (reverse (children t))) ∙ get_or-reverse (children t) i no_tree l;
}

-- ---- split

-- turns from a place on
abbrev pub stretch : ℕ → ℕ → List Tree → Tree
stretch o c ts = loop_of (take c (drop o ts))

pub nth_take : (c : ℕ) (ts : List Tree) (i : ℕ) → i < c → nth i (take c ts) ≡ nth i ts
nth_take zero ts i l = absurd (omega arith)
nth_take (suc c) [] i l = refl
nth_take (suc c) (t ∷ ts) zero l = refl
nth_take (suc c) (t ∷ ts) (suc i) l = nth_take c ts i (omega arith)

pub nth_drop : (o : ℕ) (ts : List Tree) (i : ℕ) → nth i (drop o ts) ≡ nth (o + i) ts
nth_drop zero ts i = ap (λ j. nth j ts) (let e : i ≡ 0 + i = omega arith in e)
nth_drop (suc o) [] i = sym (none (suc o + i))
  where
    none : (j : ℕ) → nth j [] ≡ no_tree
    none zero = refl
    none (suc j) = refl
nth_drop (suc o) (t ∷ ts) i = nth_drop o ts i ∙ ap (λ j. nth j (t ∷ ts)) (let e : suc (o + i) ≡ suc o + i = omega arith in e)

pub length_take : (c : ℕ) (ts : List Tree) → length (take c ts) ≡ min c (length ts)
length_take zero ts = omega arith
length_take (suc c) [] = omega arith
length_take (suc c) (t ∷ ts) = let e : length (take c ts) ≡ min c (length ts) = length_take c ts in omega arith

pub turns_stretch : (o c : ℕ) (ts : List Tree) → turns (stretch o c ts) ≡ min c (length ts - o)
turns_stretch o c ts = ap length (to_of (take c (drop o ts))) ∙ (length_take c (drop o ts) ∙ ap (λ n. min c n) (length-drop o ts))

abbrev pub stretch_selects : (o c : ℕ → ℕ) (f : Tree → Tree) → ((t : Tree) → f t ≡ stretch (o (turns t)) (c (turns t)) (children t)) → Selects f
stretch_selects o c f is = record {
  many = λ w. min (c w) (w - o w);
  which = λ w i. o w + i;
  is_loop = λ t. subst IsLoop (sym (is t)) tt;
  takes_many = λ t. ap turns (is t) ∙ turns_stretch (o (turns t)) (c (turns t)) (children t);
  within = λ w i l. omega arith;
  takes_which = λ t i l.
      let l' : i < c (turns t) = omega arith in
      ap (λ x. child x i) (is t) ∙ (ap (λ ts. nth i ts) (to_of (take (c (turns t)) (drop (o (turns t)) (children t))))
      ∙ (nth_take (c (turns t)) (drop (o (turns t)) (children t)) i l' ∙ nth_drop (o (turns t)) (children t) i));
}
