-- Nests that are built from widths: what two ways through them find.
use Rattle.std.proofs.Common.{◌≡◌, refl, sym, ap, ◌∙◌, subst, ℕ, zero, suc, ◌<◌, ◌≤◌, List, [], ◌∷◌, length, Bool, true, arith}
use Rattle.std.proofs.lemmas.Bool.{eq-eqb, ne_eqb, cond-true, cond-false}
use Rattle.c_semantics.specs.Loops.IterationTrees.{Tree, body, do_all, loop, Trees, no_trees, more_trees, to_list, of_list, loop_of, nth, members, width, widths, pick, build}
use Rattle.nest_counts.specs.HasKinds.{IsLoop, turns, child, EachBelow, Related, SameTurns}
use Rattle.nest_counts.proofs.Ways.{to_of, none_flagged}

-- ---- loops of a family

pub length_members : {A : Type 0} (w : ℕ) (f : ℕ → A) → length (members w f) ≡ w
length_members zero f = refl
length_members (suc w) f = ap (λ n. suc n) (length_members w (λ i. f (suc i)))

pub members_same : {A : Type 0} (w : ℕ) (f g : ℕ → A) → ((i : ℕ) → i < w → f i ≡ g i) → members w f ≡ members w g
members_same zero f g h = refl
members_same (suc w) f g h = ap (λ a. a ∷ members w (λ i. f (suc i))) (h 0 (omega arith)) ∙ ap (λ l. g 0 ∷ l) (members_same w (λ i. f (suc i)) (λ i. g (suc i)) (λ i l. h (suc i) (omega (arith, l))))

pub nth_members : (w i : ℕ) (f : ℕ → Tree) → i < w → nth i (members w f) ≡ f i
nth_members zero i f l = absurd (omega arith)
nth_members (suc w) zero f l = refl
nth_members (suc w) (suc i) f l = nth_members w i (λ j. f (suc j)) (omega arith)

pub turns_loop : (w : ℕ) (f : ℕ → Tree) → turns (loop_of (members w f)) ≡ w
turns_loop w f = ap length (to_of (members w f)) ∙ length_members w f

pub child_loop : (w i : ℕ) (f : ℕ → Tree) → i < w → child (loop_of (members w f)) i ≡ f i
child_loop w i f l = ap (λ ts. nth i ts) (to_of (members w f)) ∙ nth_members w i f l

of_to : (ts : Trees) → of_list (to_list ts) ≡ ts
of_to no_trees = refl
of_to (more_trees t ts) = ap (more_trees t) (of_to ts)

members_nth : (ts : List Tree) → members (length ts) (λ i. nth i ts) ≡ ts
members_nth [] = refl
members_nth (t ∷ ts) = ap (λ l. t ∷ l) (members_nth ts)

pub loop_children : (t : Tree) → IsLoop t → t ≡ loop_of (members (turns t) (child t))
loop_children (body b vs) h = absurd h
loop_children (do_all ts) h = absurd h
loop_children (loop ts) h = ap loop (sym (of_to ts)) ∙ ap loop_of (sym (members_nth (to_list ts)))

-- ---- indices

-- each index is below its width
abbrev pub Within : List ℕ → List ℕ → Type 0
Within [] [] = Unit {0}
Within (i ∷ is) (w ∷ ws) = i < w × Within is ws
Within [] (w ∷ ws) = ⊥
Within (i ∷ is) [] = ⊥

abbrev pub AgreeWhere : List Bool → List ℕ → List ℕ → Type 0
AgreeWhere (b ∷ bs) (i ∷ is) (j ∷ js) = (b ≡ true → i ≡ j) × AgreeWhere bs is js
AgreeWhere _ _ _ = Unit {0}

-- ---- widths

-- where both nests have turns, flagged loops have as many, and what is below the flags is related
abbrev pub AlongWidths : (List ℕ → List ℕ → Type 0) → List Bool → List ℕ → List ℕ → Type 0
AlongWidths Z [] ws vs = Z ws vs
AlongWidths Z (b ∷ bs) (w ∷ ws) (v ∷ vs) = (b ≡ true → 0 < w → 0 < v → w ≡ v) × (0 < w → 0 < v → AlongWidths Z bs ws vs)
AlongWidths Z (b ∷ bs) [] vs = ⊥
AlongWidths Z (b ∷ bs) (w ∷ ws) [] = ⊥

-- the widths there are related
abbrev pub Heads : (ℕ → ℕ → Type 0) → List ℕ → List ℕ → Type 0
Heads Z (w ∷ ws) (v ∷ vs) = Z w v
Heads Z _ _ = ⊥

abbrev pub Any : List ℕ → List ℕ → Type 0
Any ws vs = Unit {0}

-- ---- both ways between nests and widths

pub related_build : (R : Tree → Tree → Type 0) (bs : List Bool) (ws vs : List ℕ) (f g : List ℕ → Tree) → length bs ≡ length ws → length bs ≡ length vs
    → AlongWidths Any bs ws vs → ((is js : List ℕ) → Within is ws → Within js vs → AgreeWhere bs is js → R (f is) (g js))
    → Related R bs (build ws f) (build vs g)
related_build R [] [] [] f g e d h r = r [] [] tt tt tt
related_build R [] (w ∷ ws) vs f g e d h r = absurd (omega arith)
related_build R [] [] (v ∷ vs) f g e d h r = absurd (omega arith)
related_build R (b ∷ bs) [] vs f g e d h r = absurd (omega arith)
related_build R (b ∷ bs) (w ∷ ws) [] f g e d h r = absurd (omega arith)
related_build R (b ∷ bs) (w ∷ ws) (v ∷ vs) f g e d h r =
    let F : ℕ → Tree = λ i. build ws (λ is. f (i ∷ is)) in
    let G : ℕ → Tree = λ i. build vs (λ is. g (i ∷ is)) in (
      (λ is l m. turns_loop w F ∙ (h.0 is (subst (λ n. 0 < n) (turns_loop w F) l) (subst (λ n. 0 < n) (turns_loop v G) m) ∙ sym (turns_loop v G))),
      (λ i j l m a.
          let l' : i < w = subst (λ n. i < n) (turns_loop w F) l in
          let m' : j < v = subst (λ n. j < n) (turns_loop v G) m in
          subst (λ x. Related R bs x (child (loop_of (members v G)) j)) (sym (child_loop w i F l'))
          (subst (Related R bs (F i)) (sym (child_loop v j G m'))
          (related_build R bs ws vs (λ is. f (i ∷ is)) (λ is. g (j ∷ is)) (omega arith) (omega arith) (h.1 (omega arith) (omega arith))
          (λ is js p q c. r (i ∷ is) (j ∷ js) (l', p) (m', q) (a, c))))),
    )

pub build_widths : (R : Tree → Tree → Type 0) (bs : List Bool) (ws vs : List ℕ) (f g : List ℕ → Tree) → length bs ≡ length ws → length bs ≡ length vs
    → Related R bs (build ws f) (build vs g) → AlongWidths Any bs ws vs
build_widths R [] ws vs f g e d h = tt
build_widths R (b ∷ bs) [] vs f g e d h = absurd (omega arith)
build_widths R (b ∷ bs) (w ∷ ws) [] f g e d h = absurd (omega arith)
build_widths R (b ∷ bs) (w ∷ ws) (v ∷ vs) f g e d h =
    let F : ℕ → Tree = λ i. build ws (λ is. f (i ∷ is)) in
    let G : ℕ → Tree = λ i. build vs (λ is. g (i ∷ is)) in (
      (λ is l m. sym (turns_loop w F) ∙ (h.0 is (subst (λ n. 0 < n) (sym (turns_loop w F)) l) (subst (λ n. 0 < n) (sym (turns_loop v G)) m) ∙ turns_loop v G)),
      (λ l m.
          let k : Related R bs (child (loop_of (members w F)) 0) (child (loop_of (members v G)) 0) =
          h.1 0 0 (subst (λ n. 0 < n) (sym (turns_loop w F)) l) (subst (λ n. 0 < n) (sym (turns_loop v G)) m) (λ is. refl) in
          build_widths R bs ws vs (λ is. f (0 ∷ is)) (λ is. g (0 ∷ is)) (omega arith) (omega arith)
          (subst (λ x. Related R bs x (G 0)) (child_loop w 0 F l) (subst (Related R bs (child (loop_of (members w F)) 0)) (child_loop v 0 G m) k))),
    )

pub build_ways : (R : Tree → Tree → Type 0) (bs : List Bool) (ws vs : List ℕ) (f g : List ℕ → Tree) → length bs ≡ length ws → length bs ≡ length vs
    → Related R bs (build ws f) (build vs g) → (is js : List ℕ) → Within is ws → Within js vs → AgreeWhere bs is js → R (f is) (g js)
build_ways R [] [] [] f g e d h [] [] p q a = h
build_ways R [] [] [] f g e d h (i ∷ is) js p q a = absurd p
build_ways R [] [] [] f g e d h [] (j ∷ js) p q a = absurd q
build_ways R [] (w ∷ ws) vs f g e d h is js p q a = absurd (omega arith)
build_ways R [] [] (v ∷ vs) f g e d h is js p q a = absurd (omega arith)
build_ways R (b ∷ bs) [] vs f g e d h is js p q a = absurd (omega arith)
build_ways R (b ∷ bs) (w ∷ ws) [] f g e d h is js p q a = absurd (omega arith)
build_ways R (b ∷ bs) (w ∷ ws) (v ∷ vs) f g e d h [] js p q a = absurd p
build_ways R (b ∷ bs) (w ∷ ws) (v ∷ vs) f g e d h (i ∷ is) [] p q a = absurd q
build_ways R (b ∷ bs) (w ∷ ws) (v ∷ vs) f g e d h (i ∷ is) (j ∷ js) p q a =
    let F : ℕ → Tree = λ i. build ws (λ is. f (i ∷ is)) in
    let G : ℕ → Tree = λ i. build vs (λ is. g (i ∷ is)) in
    let k : Related R bs (child (loop_of (members w F)) i) (child (loop_of (members v G)) j) =
    h.1 i j (subst (λ n. i < n) (sym (turns_loop w F)) p.0) (subst (λ n. j < n) (sym (turns_loop v G)) q.0) a.0 in
    build_ways R bs ws vs (λ is. f (i ∷ is)) (λ is. g (j ∷ is)) (omega arith) (omega arith)
    (subst (λ x. Related R bs x (G j)) (child_loop w i F p.0) (subst (Related R bs (child (loop_of (members w F)) i)) (child_loop v j G q.0) k))
    is js p.1 q.1 a.1

-- of a loop within the nest
pub related_width : (R : Tree → Tree → Type 0) (Z : ℕ → ℕ → Type 0) → ((w v : ℕ) (f g : ℕ → Tree) → Z w v → R (loop_of (members w f)) (loop_of (members v g)))
    → (bs : List Bool) (ws vs : List ℕ) (f g : List ℕ → Tree) → AlongWidths (Heads Z) bs ws vs → Related R bs (build ws f) (build vs g)
related_width R Z z [] [] vs f g h = absurd h
related_width R Z z [] (w ∷ ws) [] f g h = absurd h
related_width R Z z [] (w ∷ ws) (v ∷ vs) f g h = z w v (λ i. build ws (λ is. f (i ∷ is))) (λ i. build vs (λ is. g (i ∷ is))) h
related_width R Z z (b ∷ bs) [] vs f g h = absurd h
related_width R Z z (b ∷ bs) (w ∷ ws) [] f g h = absurd h
related_width R Z z (b ∷ bs) (w ∷ ws) (v ∷ vs) f g h =
    let F : ℕ → Tree = λ i. build ws (λ is. f (i ∷ is)) in
    let G : ℕ → Tree = λ i. build vs (λ is. g (i ∷ is)) in (
      (λ is l m. turns_loop w F ∙ (h.0 is (subst (λ n. 0 < n) (turns_loop w F) l) (subst (λ n. 0 < n) (turns_loop v G) m) ∙ sym (turns_loop v G))),
      (λ i j l m a.
          let l' : i < w = subst (λ n. i < n) (turns_loop w F) l in
          let m' : j < v = subst (λ n. j < n) (turns_loop v G) m in
          subst (λ x. Related R bs x (child (loop_of (members v G)) j)) (sym (child_loop w i F l'))
          (subst (Related R bs (F i)) (sym (child_loop v j G m'))
          (related_width R Z z bs ws vs (λ is. f (i ∷ is)) (λ is. g (j ∷ is)) (h.1 (omega arith) (omega arith))))),
    )

pub width_related : (R : Tree → Tree → Type 0) (Z : ℕ → ℕ → Type 0) → ((w v : ℕ) (f g : ℕ → Tree) → R (loop_of (members w f)) (loop_of (members v g)) → Z w v)
    → (bs : List Bool) (ws vs : List ℕ) (f g : List ℕ → Tree) → length bs < length ws → length bs < length vs
    → Related R bs (build ws f) (build vs g) → AlongWidths (Heads Z) bs ws vs
width_related R Z z [] [] vs f g e d h = absurd (omega arith)
width_related R Z z [] (w ∷ ws) [] f g e d h = absurd (omega arith)
width_related R Z z [] (w ∷ ws) (v ∷ vs) f g e d h = z w v (λ i. build ws (λ is. f (i ∷ is))) (λ i. build vs (λ is. g (i ∷ is))) h
width_related R Z z (b ∷ bs) [] vs f g e d h = absurd (omega arith)
width_related R Z z (b ∷ bs) (w ∷ ws) [] f g e d h = absurd (omega arith)
width_related R Z z (b ∷ bs) (w ∷ ws) (v ∷ vs) f g e d h =
    let F : ℕ → Tree = λ i. build ws (λ is. f (i ∷ is)) in
    let G : ℕ → Tree = λ i. build vs (λ is. g (i ∷ is)) in (
      (λ is l m. sym (turns_loop w F) ∙ (h.0 is (subst (λ n. 0 < n) (sym (turns_loop w F)) l) (subst (λ n. 0 < n) (sym (turns_loop v G)) m) ∙ turns_loop v G)),
      (λ l m.
          let k : Related R bs (child (loop_of (members w F)) 0) (child (loop_of (members v G)) 0) =
          h.1 0 0 (subst (λ n. 0 < n) (sym (turns_loop w F)) l) (subst (λ n. 0 < n) (sym (turns_loop v G)) m) (λ is. refl) in
          width_related R Z z bs ws vs (λ is. f (0 ∷ is)) (λ is. g (0 ∷ is)) (omega arith) (omega arith)
          (subst (λ x. Related R bs x (G 0)) (child_loop w 0 F l) (subst (Related R bs (child (loop_of (members w F)) 0)) (child_loop v 0 G m) k))),
    )

-- ---- the widths of a tree

pub width_below : (t : Tree) (k : ℕ) → 0 < turns t → width t (suc k) ≡ width (child t 0) k
width_below t k l = cond-false _ _ _ (ne_eqb (turns t) 0 (λ e. omega arith))

pub width_none : (t : Tree) (k : ℕ) → turns t ≡ 0 → width t (suc k) ≡ 0
width_none t k e = cond-true _ _ _ (eq-eqb (turns t) 0 e)

pub even_width : (n : ℕ) (t u : Tree) → ((k : ℕ) → k ≤ n → Related SameTurns (none_flagged k) t u) → width t n ≡ width u n
even_width zero t u h = h 0 (omega arith)
even_width (suc n) t u h = by (turns t) refl (λ l m. even_width n (child t 0) (child u 0) (λ k q. (h (suc k) (omega (arith, q))).1 0 0 l m (λ is. refl)))
  where
    by : (w : ℕ) → turns t ≡ w → (0 < turns t → 0 < turns u → width (child t 0) n ≡ width (child u 0) n) → width t (suc n) ≡ width u (suc n)
    by zero e below =
        let same : turns t ≡ turns u = h 0 (omega arith) in
        width_none t n e ∙ sym (width_none u n (omega arith))
    by (suc w) e below =
        let same : turns t ≡ turns u = h 0 (omega arith) in
        let some : 0 < turns t = omega arith in
        let some' : 0 < turns u = omega arith in
        width_below t n some ∙ (below some some' ∙ sym (width_below u n some'))

-- a nest whose first n loops are loops, and as wide below each tree as below any other, is one that is built
pub built : (n : ℕ) (t : Tree) → ((k : ℕ) → k < n → EachBelow IsLoop k t) → ((k : ℕ) → k < n → Related SameTurns (none_flagged k) t t)
    → t ≡ build (widths n t) (pick t)
built zero t loops even = refl
built (suc n) t loops even =
    loop_children t (loops 0 (omega arith))
    ∙ ap loop_of (members_same (turns t) (child t) (λ i. build (members n (λ k. width t (suc k))) (pick (child t i))) (λ i l.
    let some : 0 < turns t = omega arith in
    built n (child t i) (λ k m. loops (suc k) (omega (arith, m)) i l) (λ k m. (even (suc k) (omega (arith, m))).1 i i l l (λ is. refl))
    ∙ ap (λ ws. build ws (pick (child t i))) (members_same n (width (child t i)) (λ k. width t (suc k)) (λ k m.
    even_width k (child t i) (child t 0) (λ j q. (even (suc j) (omega (arith, m, q))).1 i 0 l some (λ is. absurd (cc)))
    ∙ sym (width_below t k some)))))
