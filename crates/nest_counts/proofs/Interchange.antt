-- What two ways through an interchanged nest find.
use Rattle.std.proofs.Common.{◌≡◌, refl, sym, ap, ◌∙◌, subst, ℕ, zero, suc, ◌+◌, ◌-◌, ◌<◌, ◌≤◌, List, [], ◌∷◌, map, length, Bool, true, false, ◌⊎◌, inl, inr, get_or, arith}
use Rattle.std.specs.Prelude.{◌==◌, if◌then◌else◌}
use Rattle.std.proofs.lemmas.Bool.{eq-eqb, ne_eqb}
use Rattle.c_semantics.specs.Loops.IterationTrees.{Tree, loop, no_trees, members, width, widths, pick, build}
use Rattle.c_semantics.specs.Loops.Transformations.{place_of, old_order, any_zero, interchanged}
use Rattle.nest_counts.specs.HasKinds.{IsLoop, turns, child, EachBelow, Related}
use Rattle.nest_counts.specs.Plans.{IsOrder}
use Rattle.nest_counts.proofs.Ways.{none_flagged}
use Rattle.nest_counts.proofs.Built.{Within, AgreeWhere, AlongWidths, Heads, Any, related_build, build_widths, build_ways, related_width, width_related, length_members, turns_loop, width_below}
use Rattle.nest_counts.proofs.Kept.{split_at}
use Rattle.nest_counts.proofs.Tile.{IsRect, FromLoop, ToLoop}

-- ---- by place

pub within_at : (is ws : List ℕ) (i : ℕ) → Within is ws → i < length ws → get_or is i 0 < get_or ws i 0
within_at [] [] i h l = absurd (omega arith)
within_at (x ∷ is) [] i h l = absurd h
within_at [] (w ∷ ws) i h l = absurd h
within_at (x ∷ is) (w ∷ ws) zero h l = h.0
within_at (x ∷ is) (w ∷ ws) (suc i) h l = within_at is ws i h.1 (omega arith)

pub within_all : (is ws : List ℕ) → length is ≡ length ws → ((i : ℕ) → i < length ws → get_or is i 0 < get_or ws i 0) → Within is ws
within_all [] [] e h = tt
within_all (x ∷ is) [] e h = absurd (omega arith)
within_all [] (w ∷ ws) e h = absurd (omega arith)
within_all (x ∷ is) (w ∷ ws) e h = (h 0 (omega arith), within_all is ws (omega arith) (λ i l. h (suc i) (omega (arith, l))))

pub agree_at : (bs : List Bool) (is js : List ℕ) (i : ℕ) → AgreeWhere bs is js → i < length is → i < length js → get_or bs i false ≡ true → get_or is i 0 ≡ get_or js i 0
agree_at [] is js i h l m b = absurd (cc)
agree_at (b ∷ bs) [] js i h l m e = absurd (omega arith)
agree_at (b ∷ bs) (x ∷ is) [] i h l m e = absurd (omega arith)
agree_at (b ∷ bs) (x ∷ is) (y ∷ js) zero h l m e = h.0 e
agree_at (b ∷ bs) (x ∷ is) (y ∷ js) (suc i) h l m e = agree_at bs is js i h.1 (omega arith) (omega arith) e

pub agree_all : (bs : List Bool) (is js : List ℕ) → ((i : ℕ) → get_or bs i false ≡ true → get_or is i 0 ≡ get_or js i 0) → AgreeWhere bs is js
agree_all [] is js h = tt
agree_all (b ∷ bs) [] js h = tt
agree_all (b ∷ bs) (x ∷ is) [] h = tt
agree_all (b ∷ bs) (x ∷ is) (y ∷ js) h = (h 0, agree_all bs is js (λ i. h (suc i)))

abbrev pub EachSome : List ℕ → Type 0
EachSome ws = (i : ℕ) → i < length ws → 0 < get_or ws i 0

pub along_at : (bs : List Bool) (ws vs : List ℕ) (i : ℕ) → AlongWidths Any bs ws vs → EachSome ws → EachSome vs → i < length ws → i < length vs → get_or bs i false ≡ true → get_or ws i 0 ≡ get_or vs i 0
along_at [] ws vs i h p q l m b = absurd (cc)
along_at (b ∷ bs) [] vs i h p q l m e = absurd (omega arith)
along_at (b ∷ bs) (w ∷ ws) [] i h p q l m e = absurd (omega arith)
along_at (b ∷ bs) (w ∷ ws) (v ∷ vs) zero h p q l m e = h.0 e (p 0 (omega arith)) (q 0 (omega arith))
along_at (b ∷ bs) (w ∷ ws) (v ∷ vs) (suc i) h p q l m e =
    along_at bs ws vs i (h.1 (p 0 (omega arith)) (q 0 (omega arith))) (λ j k. p (suc j) (omega (arith, k))) (λ j k. q (suc j) (omega (arith, k))) (omega arith) (omega arith) e

pub along_all : (bs : List Bool) (ws vs : List ℕ) → length bs ≡ length ws → length bs ≡ length vs → ((i : ℕ) → i < length bs → get_or bs i false ≡ true → get_or ws i 0 ≡ get_or vs i 0) → AlongWidths Any bs ws vs
along_all [] ws vs e d h = tt
along_all (b ∷ bs) [] vs e d h = absurd (omega arith)
along_all (b ∷ bs) (w ∷ ws) [] e d h = absurd (omega arith)
along_all (b ∷ bs) (w ∷ ws) (v ∷ vs) e d h = ((λ is l m. h 0 (omega arith) is), (λ l m. along_all bs ws vs (omega arith) (omega arith) (λ i k. h (suc i) (omega (arith, k)))))

-- the widths at a place, where all are passed
pub heads_at : (Z : ℕ → ℕ → Type 0) (j : ℕ) (ws vs : List ℕ) → AlongWidths (Heads Z) (none_flagged j) ws vs → EachSome ws → EachSome vs → Z (get_or ws j 0) (get_or vs j 0)
heads_at Z zero [] vs h p q = absurd h
heads_at Z zero (w ∷ ws) [] h p q = absurd h
heads_at Z zero (w ∷ ws) (v ∷ vs) h p q = h
heads_at Z (suc j) [] vs h p q = absurd h
heads_at Z (suc j) (w ∷ ws) [] h p q = absurd h
heads_at Z (suc j) (w ∷ ws) (v ∷ vs) h p q = heads_at Z j ws vs (h.1 (p 0 (omega arith)) (q 0 (omega arith))) (λ i k. p (suc i) (omega (arith, k))) (λ i k. q (suc i) (omega (arith, k)))

pub heads_from : (Z : ℕ → ℕ → Type 0) (j : ℕ) (ws vs : List ℕ) → j < length ws → j < length vs → Z (get_or ws j 0) (get_or vs j 0) → AlongWidths (Heads Z) (none_flagged j) ws vs
heads_from Z j [] vs l m h = absurd (omega arith)
heads_from Z j (w ∷ ws) [] l m h = absurd (omega arith)
heads_from Z zero (w ∷ ws) (v ∷ vs) l m h = h
heads_from Z (suc j) (w ∷ ws) (v ∷ vs) l m h = ((λ is. absurd (cc)), (λ x y. heads_from Z j ws vs (omega arith) (omega arith) h))

-- ---- zeros

pub no_zero : (ws : List ℕ) → any_zero ws ≡ false → EachSome ws
no_zero [] e i l = absurd (omega arith)
no_zero (w ∷ ws) e i l = by (w == 0) refl e i l (no_zero ws)
  where
    by : (b : Bool) → (w == 0) ≡ b → (if b then true else any_zero ws) ≡ false → (i : ℕ) → i < suc (length ws) → (any_zero ws ≡ false → EachSome ws) → 0 < get_or (w ∷ ws) i 0
    by true d e i l rest = absurd (cc)
    by false d e zero l rest = positive w d
      where
        positive : (w : ℕ) → (w == 0) ≡ false → 0 < w
        positive zero d = absurd (cc)
        positive (suc w) d = omega arith
    by false d e (suc i) l rest = rest e i (omega arith)

pub some_zero : (ws : List ℕ) (i : ℕ) → i < length ws → get_or ws i 0 ≡ 0 → any_zero ws ≡ true
some_zero [] i l e = absurd (omega arith)
some_zero (w ∷ ws) zero l e = ap (λ b. if b then true else any_zero ws) (eq-eqb w 0 e)
some_zero (w ∷ ws) (suc i) l e = by (w == 0) (some_zero ws i (omega arith) e)
  where
    by : (b : Bool) → any_zero ws ≡ true → (if b then true else any_zero ws) ≡ true
    by true h = refl
    by false h = h

pub no_zero_if : (ws : List ℕ) → EachSome ws → any_zero ws ≡ false
no_zero_if [] h = refl
no_zero_if (w ∷ ws) h =
    let some : 0 < w = h 0 (omega arith) in
    ap (λ b. if b then true else any_zero ws) (ne_eqb w 0 (λ e. absurd (omega arith))) ∙ no_zero_if ws (λ i l. h (suc i) (omega (arith, l)))

-- ---- the new nest

abbrev pub new_widths : List ℕ → Tree → List ℕ
new_widths ps t = map (λ p. width t (p - 1)) ps

abbrev pub new_nest : List ℕ → Tree → Tree
new_nest ps t = build (new_widths ps t) (λ q. pick t (old_order ps q))

pub length_new : (ps : List ℕ) (t : Tree) → length (new_widths ps t) ≡ length ps
length_new [] t = refl
length_new (p ∷ ps) t = ap (λ n. suc n) (length_new ps t)

pub new_at : (ps : List ℕ) (t : Tree) (j : ℕ) → j < length ps → get_or (new_widths ps t) j 0 ≡ width t (get_or ps j 0 - 1)
new_at [] t j l = absurd (omega arith)
new_at (p ∷ ps) t zero l = refl
new_at (p ∷ ps) t (suc j) l = new_at ps t j (omega arith)

pub members_at : (n i : ℕ) (f : ℕ → ℕ) → i < n → get_or (members n f) i 0 ≡ f i
members_at zero i f l = absurd (omega arith)
members_at (suc n) zero f l = refl
members_at (suc n) (suc i) f l = members_at n i (λ j. f (suc j)) (omega arith)

pub members_past : (n i : ℕ) (f : ℕ → ℕ) → n ≤ i → get_or (members n f) i 0 ≡ 0
members_past zero i f l = refl
members_past (suc n) zero f l = absurd (omega arith)
members_past (suc n) (suc i) f l = members_past n i (λ j. f (suc j)) (omega arith)

-- either a loop has no turn, or all have
pub nest_or_none : (ps : List ℕ) (t : Tree) → (interchanged ps t ≡ loop no_trees) × (any_zero (new_widths ps t) ≡ true) ⊎ (interchanged ps t ≡ new_nest ps t) × EachSome (new_widths ps t)
nest_or_none ps t = by (any_zero (new_widths ps t)) refl
  where
    by : (b : Bool) → any_zero (new_widths ps t) ≡ b
        → ((if b then loop no_trees else new_nest ps t) ≡ loop no_trees) × (any_zero (new_widths ps t) ≡ true) ⊎ ((if b then loop no_trees else new_nest ps t) ≡ new_nest ps t) × EachSome (new_widths ps t)
    by true e = inl (refl, e)
    by false e = inr (refl, no_zero (new_widths ps t) e)

module _ (ps : List ℕ) (order : IsOrder ps) (t : Tree) (some : EachSome (new_widths ps t)) where
  pub old_some : EachSome (widths (length ps) t)
  old_some i l =
      let lw : length (widths (length ps) t) ≡ length ps = length_members (length ps) (width t) in
      let f = order.found (suc i) (omega arith) (omega arith) in
      let place : place_of (suc i) ps < length ps = f.0 in
      let at : get_or ps (place_of (suc i) ps) 0 ≡ suc i = f.1 in
      subst (λ w. 0 < w)
      (new_at ps t (place_of (suc i) ps) place ∙ (ap (width t) (let e : get_or ps (place_of (suc i) ps) 0 - 1 ≡ i = omega arith in e) ∙ sym (members_at (length ps) i (width t) (omega arith))))
      (some (place_of (suc i) ps) (let ln : length (new_widths ps t) ≡ length ps = length_new ps t in omega arith))

  pub old_within : (q : List ℕ) → Within q (new_widths ps t) → Within (old_order ps q) (widths (length ps) t)
  old_within q h =
      let lw : length (widths (length ps) t) ≡ length ps = length_members (length ps) (width t) in
      let ln : length (new_widths ps t) ≡ length ps = length_new ps t in
      within_all (old_order ps q) (widths (length ps) t) (length_members (length ps) (λ j. get_or q (place_of (j + 1) ps) 0) ∙ sym lw) (λ i l.
      let one : i + 1 ≡ suc i = omega arith in
      let f = order.found (suc i) (omega arith) (omega (arith, l, lw)) in
      let place : place_of (suc i) ps < length ps = f.0 in
      let at : get_or ps (place_of (suc i) ps) 0 ≡ suc i = f.1 in
      let small : get_or q (place_of (suc i) ps) 0 < get_or (new_widths ps t) (place_of (suc i) ps) 0 = within_at q (new_widths ps t) (place_of (suc i) ps) h (omega arith) in
      let left : get_or (old_order ps q) i 0 ≡ get_or q (place_of (suc i) ps) 0 = members_at (length ps) i (λ j. get_or q (place_of (j + 1) ps) 0) (omega (arith, l, lw)) ∙ ap (λ x. get_or q (place_of x ps) 0) one in
      let right : get_or (widths (length ps) t) i 0 ≡ width t i = members_at (length ps) i (width t) (omega (arith, l, lw)) in
      let new : get_or (new_widths ps t) (place_of (suc i) ps) 0 ≡ width t i = new_at ps t (place_of (suc i) ps) place ∙ ap (width t) (let e : get_or ps (place_of (suc i) ps) 0 - 1 ≡ i = omega arith in e) in
      omega (arith, small, left, right, new))

-- ---- what stands below the taken loops

pub within_length : (is ws : List ℕ) → Within is ws → length is ≡ length ws
within_length [] [] h = refl
within_length [] (w ∷ ws) h = absurd h
within_length (i ∷ is) [] h = absurd h
within_length (i ∷ is) (w ∷ ws) h = ap (λ n. suc n) (within_length is ws h.1)

-- there is no way where the first loop has no turns
pub no_ways : (R : Tree → Tree → Type 0) (bs : List Bool) (t u : Tree) → 0 < length bs → (turns t ≡ 0) ⊎ (turns u ≡ 0) → Related R bs t u
no_ways R [] t u l h = absurd (omega arith)
no_ways R (b ∷ bs) t u l (inl e) = ((λ is x y. absurd (omega arith)), (λ i j x y a. absurd (omega arith)))
no_ways R (b ∷ bs) t u l (inr e) = ((λ is x y. absurd (omega arith)), (λ i j x y a. absurd (omega arith)))

none_turns : (t : Tree) → t ≡ loop no_trees → turns t ≡ 0
none_turns t e = ap turns e

module _ (ps : List ℕ) (order : IsOrder ps) (t u : Tree) (is_t : IsRect (length ps) t) (is_u : IsRect (length ps) u) where
  pub nests_below : (R : Tree → Tree → Type 0) (bs cs : List Bool) → length bs ≡ length ps → length cs ≡ length ps
      → ((j : ℕ) → j < length ps → get_or cs j false ≡ get_or bs (get_or ps j 0 - 1) false)
      → EachSome (new_widths ps t) → EachSome (new_widths ps u) → Related R bs t u → Related R cs (new_nest ps t) (new_nest ps u)
  nests_below R bs cs lb lc flag some some' h =
      let ws : List ℕ = widths (length ps) t in
      let vs : List ℕ = widths (length ps) u in
      let lw : length ws ≡ length ps = length_members (length ps) (width t) in
      let lv : length vs ≡ length ps = length_members (length ps) (width u) in
      let k : Related R bs (build ws (pick t)) (build vs (pick u)) = subst (λ x. Related R bs x (build vs (pick u))) is_t (subst (Related R bs t) is_u h) in
      let along : AlongWidths Any bs ws vs = build_widths R bs ws vs (pick t) (pick u) (omega arith) (omega arith) k in
      related_build R cs (new_widths ps t) (new_widths ps u) _ _ (lc ∙ sym (length_new ps t)) (lc ∙ sym (length_new ps u))
      (along_all cs (new_widths ps t) (new_widths ps u) (lc ∙ sym (length_new ps t)) (lc ∙ sym (length_new ps u)) (λ j l e.
      let l' : j < length ps = omega (arith, l, lc) in
      let w = order.within j l' in
      let low : 0 < get_or ps j 0 = w.0 in
      let high : get_or ps j 0 ≤ length ps = w.1 in
      new_at ps t j l' ∙ (sym (members_at (length ps) (get_or ps j 0 - 1) (width t) (omega arith))
      ∙ (along_at bs ws vs (get_or ps j 0 - 1) along (old_some ps order t some) (old_some ps order u some') (omega arith) (omega arith) (sym (flag j l') ∙ e)
      ∙ (members_at (length ps) (get_or ps j 0 - 1) (width u) (omega arith) ∙ sym (new_at ps u j l'))))))
      (λ is js p q a. build_ways R bs ws vs (pick t) (pick u) (omega arith) (omega arith) k (old_order ps is) (old_order ps js) (old_within ps order t some is p) (old_within ps order u some' js q)
      (agree_all bs (old_order ps is) (old_order ps js) (λ i e. agree is js p q a i e (split_at (length ps) i))))
    where
      agree : (is js : List ℕ) → Within is (new_widths ps t) → Within js (new_widths ps u) → AgreeWhere cs is js → (i : ℕ) → get_or bs i false ≡ true
          → (i < length ps) ⊎ ((m : ℕ) × (i ≡ length ps + m)) → get_or (old_order ps is) i 0 ≡ get_or (old_order ps js) i 0
      agree is js p q a i e (inl l) =
          let one : i + 1 ≡ suc i = omega arith in
          let f = order.found (suc i) (omega arith) (omega (arith, l)) in
          let place : place_of (suc i) ps < length ps = f.0 in
          let at : get_or ps (place_of (suc i) ps) 0 ≡ suc i = f.1 in
          let li : length is ≡ length ps = within_length is (new_widths ps t) p ∙ length_new ps t in
          let lj : length js ≡ length ps = within_length js (new_widths ps u) q ∙ length_new ps u in
          let on : get_or cs (place_of (suc i) ps) false ≡ true = flag (place_of (suc i) ps) place ∙ (ap (λ x. get_or bs x false) (let z : get_or ps (place_of (suc i) ps) 0 - 1 ≡ i = omega arith in z) ∙ e) in
          members_at (length ps) i (λ j. get_or is (place_of (j + 1) ps) 0) l ∙ (ap (λ x. get_or is (place_of x ps) 0) one
          ∙ (agree_at cs is js (place_of (suc i) ps) a (omega arith) (omega arith) on
          ∙ (ap (λ x. get_or js (place_of x ps) 0) (sym one) ∙ sym (members_at (length ps) i (λ j. get_or js (place_of (j + 1) ps) 0) l))))
      agree is js p q a i e (inr (m, d)) =
          members_past (length ps) i (λ j. get_or is (place_of (j + 1) ps) 0) (omega arith) ∙ sym (members_past (length ps) i (λ j. get_or js (place_of (j + 1) ps) 0) (omega arith))

  pub interchanged_below : (R : Tree → Tree → Type 0) (bs cs : List Bool) → length bs ≡ length ps → length cs ≡ length ps
      → ((j : ℕ) → j < length ps → get_or cs j false ≡ get_or bs (get_or ps j 0 - 1) false)
      → Related R bs t u → Related R cs (interchanged ps t) (interchanged ps u)
  interchanged_below R bs cs lb lc flag h = by (nest_or_none ps t) (nest_or_none ps u)
    where
      some_flags : 0 < length cs
      some_flags = let s : 0 < length ps = order.some in omega arith

      by : (interchanged ps t ≡ loop no_trees) × (any_zero (new_widths ps t) ≡ true) ⊎ (interchanged ps t ≡ new_nest ps t) × EachSome (new_widths ps t)
          → (interchanged ps u ≡ loop no_trees) × (any_zero (new_widths ps u) ≡ true) ⊎ (interchanged ps u ≡ new_nest ps u) × EachSome (new_widths ps u)
          → Related R cs (interchanged ps t) (interchanged ps u)
      by (inl (e, z)) o = no_ways R cs (interchanged ps t) (interchanged ps u) some_flags (inl (none_turns (interchanged ps t) e))
      by (inr (e, s)) (inl (d, z)) = no_ways R cs (interchanged ps t) (interchanged ps u) some_flags (inr (none_turns (interchanged ps u) d))
      by (inr (e, s)) (inr (d, s')) =
          subst (λ x. Related R cs x (interchanged ps u)) (sym e) (subst (Related R cs (new_nest ps t)) (sym d) (nests_below R bs cs lb lc flag s s' h))

  -- ---- a taken loop that isn't the first one now

  module _ (R Q : Tree → Tree → Type 0) (Z Y : ℕ → ℕ → Type 0) (from : FromLoop R Z) (to : ToLoop Y Q) (j : ℕ) (l : j < length ps) where
    pub nests_taken : ((w v : ℕ) → Z w v → Y w v) → EachSome (new_widths ps t) → EachSome (new_widths ps u) → Related R (none_flagged (get_or ps j 0 - 1)) t u → Related Q (none_flagged j) (new_nest ps t) (new_nest ps u)
    nests_taken step some some' h =
        let ws : List ℕ = widths (length ps) t in
        let vs : List ℕ = widths (length ps) u in
        let lw : length ws ≡ length ps = length_members (length ps) (width t) in
        let lv : length vs ≡ length ps = length_members (length ps) (width u) in
        let w = order.within j l in
        let low : 0 < get_or ps j 0 = w.0 in
        let high : get_or ps j 0 ≤ length ps = w.1 in
        let q : ℕ = get_or ps j 0 - 1 in
        let lq : length (none_flagged q) ≡ q = length_members q (λ i. false) in
        let small : q < length ps = omega arith in
        let k : Related R (none_flagged q) (build ws (pick t)) (build vs (pick u)) = subst (λ x. Related R (none_flagged q) x (build vs (pick u))) is_t (subst (Related R (none_flagged q) t) is_u h) in
        let old : Z (get_or ws q 0) (get_or vs q 0) =
        heads_at Z q ws vs (width_related R Z from (none_flagged q) ws vs (pick t) (pick u) (omega (arith, lq, lw, small)) (omega (arith, lq, lv, small)) k) (old_some ps order t some) (old_some ps order u some') in
        let left : get_or ws q 0 ≡ get_or (new_widths ps t) j 0 = members_at (length ps) q (width t) small ∙ sym (new_at ps t j l) in
        let right : get_or vs q 0 ≡ get_or (new_widths ps u) j 0 = members_at (length ps) q (width u) small ∙ sym (new_at ps u j l) in
        related_width Q Y to (none_flagged j) (new_widths ps t) (new_widths ps u) _ _
        (heads_from Y j (new_widths ps t) (new_widths ps u) (let n : length (new_widths ps t) ≡ length ps = length_new ps t in omega arith) (let n : length (new_widths ps u) ≡ length ps = length_new ps u in omega arith)
        (subst (λ x. Y x (get_or (new_widths ps u) j 0)) left (subst (Y (get_or ws q 0)) right (step _ _ old))))

    pub interchanged_taken : 0 < j → ((w v : ℕ) → Z w v → Y w v) → Related R (none_flagged (get_or ps j 0 - 1)) t u → Related Q (none_flagged j) (interchanged ps t) (interchanged ps u)
    interchanged_taken later step h = by (nest_or_none ps t) (nest_or_none ps u)
      where
        some_flags : 0 < length (none_flagged j)
        some_flags = let e : length (none_flagged j) ≡ j = length_members j (λ i. false) in omega arith

        by : (interchanged ps t ≡ loop no_trees) × (any_zero (new_widths ps t) ≡ true) ⊎ (interchanged ps t ≡ new_nest ps t) × EachSome (new_widths ps t)
            → (interchanged ps u ≡ loop no_trees) × (any_zero (new_widths ps u) ≡ true) ⊎ (interchanged ps u ≡ new_nest ps u) × EachSome (new_widths ps u)
            → Related Q (none_flagged j) (interchanged ps t) (interchanged ps u)
        by (inl (e, z)) o = no_ways Q (none_flagged j) (interchanged ps t) (interchanged ps u) some_flags (inl (none_turns (interchanged ps t) e))
        by (inr (e, s)) (inl (d, z)) = no_ways Q (none_flagged j) (interchanged ps t) (interchanged ps u) some_flags (inr (none_turns (interchanged ps u) d))
        by (inr (e, s)) (inr (d, s')) =
            subst (λ x. Related Q (none_flagged j) x (interchanged ps u)) (sym e) (subst (Related Q (none_flagged j) (new_nest ps t)) (sym d) (nests_taken step s s' h))

-- ---- the first loop

pub turns_new : (ps : List ℕ) (t : Tree) → 0 < length ps → turns (new_nest ps t) ≡ get_or (new_widths ps t) 0 0
turns_new [] t l = absurd (omega arith)
turns_new (p ∷ ps) t l = turns_loop (width t (p - 1)) (λ i. build (new_widths ps t) (λ q. pick t (old_order (p ∷ ps) (i ∷ q))))

pub first_loop : (ps : List ℕ) (t : Tree) → 0 < length ps → IsLoop (interchanged ps t)
first_loop ps t l = by (nest_or_none ps t)
  where
    nest_loop : (qs : List ℕ) (f : List ℕ → Tree) → 0 < length qs → IsLoop (build (map (λ p. width t (p - 1)) qs) f)
    nest_loop [] f m = absurd (omega arith)
    nest_loop (q ∷ qs) f m = tt

    by : (interchanged ps t ≡ loop no_trees) × (any_zero (new_widths ps t) ≡ true) ⊎ (interchanged ps t ≡ new_nest ps t) × EachSome (new_widths ps t) → IsLoop (interchanged ps t)
    by (inl (e, z)) = subst IsLoop (sym e) tt
    by (inr (e, s)) = subst IsLoop (sym e) (nest_loop ps (λ q. pick t (old_order ps q)) l)

-- the widths where all counts are known
pub width_of : (c : ℕ → ℕ) (i : ℕ) (t : Tree) → ((a : ℕ) → a ≤ i → EachBelow (λ u. turns u ≡ c a) a t) → ((a : ℕ) → a < i → 0 < c a) → width t i ≡ c i
width_of c zero t h some = h 0 (omega arith)
width_of c (suc i) t h some =
    let first : turns t ≡ c 0 = h 0 (omega arith) in
    let pos : 0 < c 0 = some 0 (omega arith) in
    width_below t i (omega arith) ∙ width_of (λ a. c (suc a)) i (child t 0) (λ a l. h (suc a) (omega (arith, l)) 0 (omega (arith, first, pos))) (λ a l. some (suc a) (omega (arith, l)))

-- with the same widths the first loops have as many turns
pub first_same : (ps : List ℕ) (t u : Tree) → 0 < length ps → new_widths ps t ≡ new_widths ps u → turns (interchanged ps t) ≡ turns (interchanged ps u)
first_same ps t u l e = by (any_zero (new_widths ps t)) (any_zero (new_widths ps u)) (ap any_zero e)
  where
    by : (a b : Bool) → a ≡ b → turns (if a then loop no_trees else new_nest ps t) ≡ turns (if b then loop no_trees else new_nest ps u)
    by true true d = refl
    by true false d = absurd (cc)
    by false true d = absurd (cc)
    by false false d = turns_new ps t l ∙ (ap (λ ws. get_or ws 0 0) e ∙ sym (turns_new ps u l))
