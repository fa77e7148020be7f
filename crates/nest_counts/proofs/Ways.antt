-- Trees below loops, and the trees that two ways lead to.
use Rattle.std.proofs.Common.{◌≡◌, refl, sym, ap, ◌∙◌, subst, ℕ, zero, suc, ◌+◌, ◌<◌, List, [], ◌∷◌, ◌++◌, map, length, Bool, false, arith}
use Rattle.c_semantics.specs.Loops.IterationTrees.{Tree, body, do_all, loop, to_list, of_list, children, nth, members, on_children, at_depth}
use Rattle.nest_counts.specs.HasKinds.{IsLoop, turns, child, EachBelow, Related}

-- ---- lists of trees

pub to_of : (ts : List Tree) → to_list (of_list ts) ≡ ts
to_of [] = refl
to_of (t ∷ ts) = ap (λ us. t ∷ us) (to_of ts)

pub length_map : (f : Tree → Tree) (ts : List Tree) → length (map f ts) ≡ length ts
length_map f [] = refl
length_map f (t ∷ ts) = ap (λ n. suc n) (length_map f ts)

pub nth_map : (f : Tree → Tree) (ts : List Tree) (i : ℕ) → i < length ts → nth i (map f ts) ≡ f (nth i ts)
nth_map f [] i h = absurd (omega arith)
nth_map f (t ∷ ts) zero h = refl
nth_map f (t ∷ ts) (suc i) h = nth_map f ts i (omega arith)

-- ---- at a depth

pub children_on : (f : Tree → Tree) (t : Tree) → children (on_children f t) ≡ map f (children t)
children_on f (body b vs) = refl
children_on f (do_all ts) = to_of (map f (to_list ts))
children_on f (loop ts) = to_of (map f (to_list ts))

pub turns_on : (f : Tree → Tree) (t : Tree) → turns (on_children f t) ≡ turns t
turns_on f t = ap length (children_on f t) ∙ length_map f (children t)

pub child_on : (f : Tree → Tree) (t : Tree) (i : ℕ) → i < turns t → child (on_children f t) i ≡ f (child t i)
child_on f t i h = ap (λ ts. nth i ts) (children_on f t) ∙ nth_map f (children t) i h

pub loop_on : (f : Tree → Tree) (t : Tree) → IsLoop t → IsLoop (on_children f t)
loop_on f (body b vs) h = h
loop_on f (do_all ts) h = h
loop_on f (loop ts) h = tt

-- ---- each tree below

pub each_more : (P Q : Tree → Type 0) (n : ℕ) (t : Tree) → ((u : Tree) → P u → Q u) → EachBelow P n t → EachBelow Q n t
each_more P Q zero t more h = more t h
each_more P Q (suc n) t more h = λ i l. each_more P Q n (child t i) more (h i l)

pub each_both : (P Q : Tree → Type 0) (n : ℕ) (t : Tree) → EachBelow P n t → EachBelow Q n t → EachBelow (λ u. P u × Q u) n t
each_both P Q zero t h k = (h, k)
each_both P Q (suc n) t h k = λ i l. each_both P Q n (child t i) (h i l) (k i l)

pub each_at : (P : Tree → Type 0) (f : Tree → Tree) (n : ℕ) (t : Tree) → EachBelow (λ u. P (f u)) n t → EachBelow P n (at_depth n f t)
each_at P f zero t h = h
each_at P f (suc n) t h = λ i l.
    let l' : i < turns t = subst (λ w. i < w) (turns_on (at_depth n f) t) l in
    subst (EachBelow P n) (sym (child_on (at_depth n f) t i l')) (each_at P f n (child t i) (h i l'))

-- what is above a depth stays
pub each_above : (P : Tree → Type 0) (f : Tree → Tree) (n m : ℕ) (t : Tree) → n < m → ((g : Tree → Tree) (u : Tree) → P u → P (on_children g u))
    → EachBelow P n t → EachBelow P n (at_depth m f t)
each_above P f n zero t l kept h = absurd (omega arith)
each_above P f zero (suc m) t l kept h = kept (at_depth m f) t h
each_above P f (suc n) (suc m) t l kept h = λ i j.
    let j' : i < turns t = subst (λ w. i < w) (turns_on (at_depth m f) t) j in
    subst (EachBelow P n) (sym (child_on (at_depth m f) t i j')) (each_above P f n m (child t i) (omega arith) kept (h i j'))

pub each_below : (P : Tree → Type 0) (n m k : ℕ) (t : Tree) → k ≡ n + m → EachBelow P k t → EachBelow (EachBelow P m) n t
each_below P zero m k t is h = subst (λ j. EachBelow P j t) (let e : k ≡ m = omega arith in e) h
each_below P (suc n) m zero t is h = absurd (omega arith)
each_below P (suc n) m (suc k) t is h = λ i l. each_below P n m k (child t i) (omega arith) (h i l)

pub each_above_below : (P : Tree → Type 0) (n m k : ℕ) (t : Tree) → k ≡ n + m → EachBelow (EachBelow P m) n t → EachBelow P k t
each_above_below P zero m k t is h = subst (λ j. EachBelow P j t) (let e : m ≡ k = omega arith in e) h
each_above_below P (suc n) m zero t is h = absurd (omega arith)
each_above_below P (suc n) m (suc k) t is h = λ i l. each_above_below P n m k (child t i) (omega arith) (h i l)

-- ---- two ways

pub related_more : (R S : Tree → Tree → Type 0) (bs : List Bool) (t u : Tree) → ((x y : Tree) → R x y → S x y) → Related R bs t u → Related S bs t u
related_more R S [] t u more h = more t u h
related_more R S (b ∷ bs) t u more h = (h.0, (λ i j l m e. related_more R S bs (child t i) (child u j) more (h.1 i j l m e)))

-- with what holds of each tree
pub related_each : (P : Tree → Type 0) (R : Tree → Tree → Type 0) (bs : List Bool) (t u : Tree) → EachBelow P (length bs) t → EachBelow P (length bs) u
    → Related R bs t u → Related (λ x y. P x × P y × R x y) bs t u
related_each P R [] t u p q h = (p, q, h)
related_each P R (b ∷ bs) t u p q h = (h.0, (λ i j l m e. related_each P R bs (child t i) (child u j) (p i l) (q j m) (h.1 i j l m e)))

pub related_at : (R : Tree → Tree → Type 0) (f : Tree → Tree) (bs : List Bool) (t u : Tree) → Related (λ x y. R (f x) (f y)) bs t u
    → Related R bs (at_depth (length bs) f t) (at_depth (length bs) f u)
related_at R f [] t u h = h
related_at R f (b ∷ bs) t u h =
    let g : Tree → Tree = at_depth (length bs) f in (
      (λ is l m.
          turns_on g t ∙ (h.0 is (subst (λ w. 0 < w) (turns_on g t) l) (subst (λ w. 0 < w) (turns_on g u) m) ∙ sym (turns_on g u))),
      (λ i j l m e.
          let l' : i < turns t = subst (λ w. i < w) (turns_on g t) l in
          let m' : j < turns u = subst (λ w. j < w) (turns_on g u) m in
          subst (λ x. Related R bs x (child (on_children g u) j)) (sym (child_on g t i l'))
          (subst (Related R bs (g (child t i))) (sym (child_on g u j m'))
          (related_at R f bs (child t i) (child u j) (h.1 i j l' m' e)))),
    )

pub related_above : (R : Tree → Tree → Type 0) (f : Tree → Tree) (bs : List Bool) (m : ℕ) (t u : Tree) → length bs < m
    → ((g : Tree → Tree) (x y : Tree) → R x y → R (on_children g x) (on_children g y))
    → Related R bs t u → Related R bs (at_depth m f t) (at_depth m f u)
related_above R f bs zero t u less kept h = absurd (omega arith)
related_above R f [] (suc m) t u less kept h = kept (at_depth m f) t u h
related_above R f (b ∷ bs) (suc n) t u less kept h =
    let g : Tree → Tree = at_depth n f in (
      (λ is l m.
          turns_on g t ∙ (h.0 is (subst (λ w. 0 < w) (turns_on g t) l) (subst (λ w. 0 < w) (turns_on g u) m) ∙ sym (turns_on g u))),
      (λ i j l m e.
          let l' : i < turns t = subst (λ w. i < w) (turns_on g t) l in
          let m' : j < turns u = subst (λ w. j < w) (turns_on g u) m in
          subst (λ x. Related R bs x (child (on_children g u) j)) (sym (child_on g t i l'))
          (subst (Related R bs (g (child t i))) (sym (child_on g u j m'))
          (related_above R f bs n (child t i) (child u j) (omega arith) kept (h.1 i j l' m' e)))),
    )

pub related_split : (R : Tree → Tree → Type 0) (as' bs : List Bool) (t u : Tree) → Related R (as' ++ bs) t u → Related (Related R bs) as' t u
related_split R [] bs t u h = h
related_split R (a ∷ as') bs t u h = (h.0, (λ i j l m e. related_split R as' bs (child t i) (child u j) (h.1 i j l m e)))

pub related_join : (R : Tree → Tree → Type 0) (as' bs : List Bool) (t u : Tree) → Related (Related R bs) as' t u → Related R (as' ++ bs) t u
related_join R [] bs t u h = h
related_join R (a ∷ as') bs t u h = (h.0, (λ i j l m e. related_join R as' bs (child t i) (child u j) (h.1 i j l m e)))

-- ---- ways on which nothing is flagged

abbrev pub none_flagged : ℕ → List Bool
none_flagged n = members n (λ i. false)

pub free_of_each : (P : Tree → Type 0) (n : ℕ) (t u : Tree) → EachBelow P n t → Related (λ x y. P x) (none_flagged n) t u
free_of_each P zero t u h = h
free_of_each P (suc n) t u h = ((λ is. absurd (cc)), (λ i j l m e. free_of_each P n (child t i) (child u j) (h i l)))

pub each_of_free : (P : Tree → Type 0) (n : ℕ) (t : Tree) → Related (λ x y. P x) (none_flagged n) t t → EachBelow P n t
each_of_free P zero t h = h
each_of_free P (suc n) t h = λ i l. each_of_free P n (child t i) (h.1 i i l l (λ is. absurd (cc)))
