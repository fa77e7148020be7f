-- What two ways through a tiled nest find.
use Rattle.std.proofs.Common.{◌≡◌, refl, sym, ap, ◌∙◌, subst, ℕ, zero, suc, ◌+◌, ◌*◌, ◌<◌, ◌≤◌, List, [], ◌∷◌, length, drop, Bool, true, false, get_or, arith, length-drop}
use Rattle.c_semantics.specs.Loops.IterationTrees.{Tree, loop_of, members, width, widths, pick, build}
use Rattle.c_semantics.specs.Loops.Transformations.{div_up, rest, rests, zip_with, tiled}
use Rattle.nest_counts.specs.HasKinds.{Related}
use Rattle.nest_counts.specs.Plans.{AllPositive}
use Rattle.nest_counts.proofs.Ways.{none_flagged}
use Rattle.nest_counts.proofs.Sizes.{some_tiles, in_tile}
use Rattle.nest_counts.proofs.Built.{Within, AgreeWhere, AlongWidths, Heads, Any, related_build, build_widths, build_ways, related_width, width_related, length_members}

abbrev pub grid : List ℕ → List ℕ → List ℕ
grid ws ss = zip_with div_up ws ss

abbrev pub old_index : List ℕ → List ℕ → List ℕ → List ℕ
old_index gs ss is = zip_with (λ a b. a + b) (zip_with (λ a s. a * s) gs ss) is

pub length_grid : (ws ss : List ℕ) → length ws ≡ length ss → length (grid ws ss) ≡ length ss
length_grid [] [] e = refl
length_grid [] (s ∷ ss) e = absurd (omega arith)
length_grid (w ∷ ws) [] e = absurd (omega arith)
length_grid (w ∷ ws) (s ∷ ss) e = ap (λ n. suc n) (length_grid ws ss (omega arith))

pub length_rests : (ws ss gs : List ℕ) → length ws ≡ length ss → Within gs (grid ws ss) → length (rests ws ss gs) ≡ length ss
length_rests [] [] gs e h = refl
length_rests [] (s ∷ ss) gs e h = absurd (omega arith)
length_rests (w ∷ ws) [] gs e h = absurd (omega arith)
length_rests (w ∷ ws) (s ∷ ss) [] e h = absurd h
length_rests (w ∷ ws) (s ∷ ss) (g ∷ gs) e h = ap (λ n. suc n) (length_rests ws ss gs (omega arith) h.1)

-- ---- the grid

pub grid_along : (P Q : List ℕ → List ℕ → Type 0) (bs : List Bool) (ws vs ss : List ℕ) → AllPositive ss → length bs ≤ length ss
    → (P (drop (length bs) ws) (drop (length bs) vs) → Q (grid (drop (length bs) ws) (drop (length bs) ss)) (grid (drop (length bs) vs) (drop (length bs) ss)))
    → AlongWidths P bs ws vs → AlongWidths Q bs (grid ws ss) (grid vs ss)
grid_along P Q [] ws vs ss pos l last h = last h
grid_along P Q (b ∷ bs) [] vs ss pos l last h = absurd h
grid_along P Q (b ∷ bs) (w ∷ ws) [] ss pos l last h = absurd h
grid_along P Q (b ∷ bs) (w ∷ ws) (v ∷ vs) [] pos l last h = absurd (omega arith)
grid_along P Q (b ∷ bs) (w ∷ ws) (v ∷ vs) (s ∷ ss) pos l last h = (
  (λ is k m. ap (λ n. div_up n s) (h.0 is (some_tiles w s pos.0 k) (some_tiles v s pos.0 m))),
  (λ k m. grid_along P Q bs ws vs ss pos.1 (omega (arith, l)) last (h.1 (some_tiles w s pos.0 k) (some_tiles v s pos.0 m))),
)

-- ---- in a tile

pub rests_along : (P Q : List ℕ → List ℕ → Type 0) (bs cs : List Bool) (ws vs ss gs hs : List ℕ) → AllPositive ss → length bs ≤ length ss → length bs ≤ length cs
    → Within gs (grid ws ss) → Within hs (grid vs ss) → AgreeWhere cs gs hs
    → ((i : ℕ) → i < length bs → get_or bs i false ≡ true → get_or cs i false ≡ true)
    → (P (drop (length bs) ws) (drop (length bs) vs)
    → Within (drop (length bs) gs) (grid (drop (length bs) ws) (drop (length bs) ss)) → Within (drop (length bs) hs) (grid (drop (length bs) vs) (drop (length bs) ss))
    → AgreeWhere (drop (length bs) cs) (drop (length bs) gs) (drop (length bs) hs)
    → Q (rests (drop (length bs) ws) (drop (length bs) ss) (drop (length bs) gs)) (rests (drop (length bs) vs) (drop (length bs) ss) (drop (length bs) hs)))
    → AlongWidths P bs ws vs → AlongWidths Q bs (rests ws ss gs) (rests vs ss hs)
rests_along P Q [] cs ws vs ss gs hs pos l lc p q a more last h = last h p q a
rests_along P Q (b ∷ bs) cs [] vs ss gs hs pos l lc p q a more last h = absurd h
rests_along P Q (b ∷ bs) cs (w ∷ ws) [] ss gs hs pos l lc p q a more last h = absurd h
rests_along P Q (b ∷ bs) cs (w ∷ ws) (v ∷ vs) [] gs hs pos l lc p q a more last h = absurd (omega arith)
rests_along P Q (b ∷ bs) cs (w ∷ ws) (v ∷ vs) (s ∷ ss) [] hs pos l lc p q a more last h = absurd p
rests_along P Q (b ∷ bs) cs (w ∷ ws) (v ∷ vs) (s ∷ ss) (g ∷ gs) [] pos l lc p q a more last h = absurd q
rests_along P Q (b ∷ bs) [] (w ∷ ws) (v ∷ vs) (s ∷ ss) (g ∷ gs) (k ∷ hs) pos l lc p q a more last h = absurd (omega arith)
rests_along P Q (b ∷ bs) (c ∷ cs) (w ∷ ws) (v ∷ vs) (s ∷ ss) (g ∷ gs) (k ∷ hs) pos l lc p q a more last h =
    let some : 0 < w = some_tiles w s pos.0 (omega (arith, p.0)) in
    let some' : 0 < v = some_tiles v s pos.0 (omega (arith, q.0)) in (
      (λ is x y. (λ i. rest (h.0 is some some' i) s (a.0 (more 0 (omega arith) is) i))),
      (λ x y. rests_along P Q bs cs ws vs ss gs hs pos.1 (omega (arith, l)) (omega (arith, lc)) p.1 q.1 a.1 (λ i m is. more (suc i) (omega (arith, m)) is) last (h.1 some some')),
    )

pub old_within : (ws ss gs is : List ℕ) → length ws ≡ length ss → Within gs (grid ws ss) → Within is (rests ws ss gs) → Within (old_index gs ss is) ws
old_within [] [] [] [] e p q = tt
old_within [] [] (g ∷ gs) is e p q = absurd p
old_within [] [] [] (i ∷ is) e p q = absurd q
old_within [] (s ∷ ss) gs is e p q = absurd (omega arith)
old_within (w ∷ ws) [] gs is e p q = absurd (omega arith)
old_within (w ∷ ws) (s ∷ ss) [] is e p q = absurd p
old_within (w ∷ ws) (s ∷ ss) (g ∷ gs) [] e p q = absurd q
old_within (w ∷ ws) (s ∷ ss) (g ∷ gs) (i ∷ is) e p q = (in_tile w s g i q.0, old_within ws ss gs is (omega arith) p.1 q.1)

pub old_agree : (bs : List Bool) (ss gs hs is js : List ℕ) → AgreeWhere bs gs hs → AgreeWhere bs is js → AgreeWhere bs (old_index gs ss is) (old_index hs ss js)
old_agree [] ss gs hs is js a c = tt
old_agree (b ∷ bs) ss [] hs is js a c = tt
old_agree (b ∷ bs) [] (g ∷ gs) hs is js a c = tt
old_agree (b ∷ bs) (s ∷ ss) (g ∷ gs) hs [] js a c = tt
old_agree (b ∷ bs) (s ∷ ss) (g ∷ gs) [] (i ∷ is) js a c = tt
old_agree (b ∷ bs) (s ∷ ss) (g ∷ gs) (h ∷ hs) (i ∷ is) [] a c = tt
old_agree (b ∷ bs) (s ∷ ss) (g ∷ gs) (h ∷ hs) (i ∷ is) (j ∷ js) a c = ((λ is k. a.0 is k * s + c.0 is k), old_agree bs ss gs hs is js a.1 c.1)

-- ---- what stands below the taken loops

pub tiled_below : (R : Tree → Tree → Type 0) (bs : List Bool) (ss : List ℕ) (t u : Tree) → AllPositive ss → length bs ≡ length ss
    → t ≡ build (widths (length ss) t) (pick t) → u ≡ build (widths (length ss) u) (pick u) → length (widths (length ss) t) ≡ length ss → length (widths (length ss) u) ≡ length ss
    → Related R bs t u → Related (Related R bs) bs (tiled ss t) (tiled ss u)
tiled_below R bs ss t u pos e is_t is_u lt lu h =
    let ws : List ℕ = widths (length ss) t in
    let vs : List ℕ = widths (length ss) u in
    let k : Related R bs (build ws (pick t)) (build vs (pick u)) = subst (λ x. Related R bs x (build vs (pick u))) is_t (subst (Related R bs t) is_u h) in
    let along : AlongWidths Any bs ws vs = build_widths R bs ws vs (pick t) (pick u) (omega arith) (omega arith) k in
    related_build (Related R bs) bs (grid ws ss) (grid vs ss) _ _ (e ∙ sym (length_grid ws ss lt)) (e ∙ sym (length_grid vs ss lu))
    (grid_along Any Any bs ws vs ss pos (omega arith) (λ x. tt) along)
    (λ gs hs p q a.
    related_build R bs (rests ws ss gs) (rests vs ss hs) _ _ (e ∙ sym (length_rests ws ss gs lt p)) (e ∙ sym (length_rests vs ss hs lu q))
    (rests_along Any Any bs bs ws vs ss gs hs pos (omega arith) (omega arith) p q a (λ i l is. is) (λ x y z c. tt) along)
    (λ is js p' q' a'. build_ways R bs ws vs (pick t) (pick u) (omega arith) (omega arith) k (old_index gs ss is) (old_index hs ss js)
    (old_within ws ss gs is lt p p') (old_within vs ss hs js lu q q') (old_agree bs ss gs hs is js a a')))

-- ---- the loops of the tiles

pub get_drop : {A : Type 0} (j : ℕ) (xs : List A) (d : A) → get_or (drop j xs) 0 d ≡ get_or xs j d
get_drop zero [] d = refl
get_drop zero (x ∷ xs) d = refl
get_drop (suc j) [] d = refl
get_drop (suc j) (x ∷ xs) d = get_drop j xs d

pub none_along : (P : List ℕ → List ℕ → Type 0) (j : ℕ) (ws vs : List ℕ) → j ≤ length ws → j ≤ length vs → P (drop j ws) (drop j vs) → AlongWidths P (none_flagged j) ws vs
none_along P zero ws vs l m h = h
none_along P (suc j) [] vs l m h = absurd (omega arith)
none_along P (suc j) (w ∷ ws) [] l m h = absurd (omega arith)
none_along P (suc j) (w ∷ ws) (v ∷ vs) l m h = ((λ is. absurd (cc)), (λ x y. none_along P j ws vs (omega arith) (omega arith) h))

heads_grid : (Z Y : ℕ → ℕ → Type 0) (ws vs ss : List ℕ) → 0 < length ss → ((w v : ℕ) → Z w v → Y (div_up w (get_or ss 0 0)) (div_up v (get_or ss 0 0))) → Heads Z ws vs → Heads Y (grid ws ss) (grid vs ss)
heads_grid Z Y [] vs ss l step h = absurd h
heads_grid Z Y (w ∷ ws) [] ss l step h = absurd h
heads_grid Z Y (w ∷ ws) (v ∷ vs) [] l step h = absurd (omega arith)
heads_grid Z Y (w ∷ ws) (v ∷ vs) (s ∷ ss) l step h = step w v h

heads_rests : (Z Y : ℕ → ℕ → Type 0) (ws vs ss gs hs : List ℕ) (cs : List Bool) → 0 < length ss → 0 < length cs
    → ((w v g h : ℕ) → Z w v → g < div_up w (get_or ss 0 0) → h < div_up v (get_or ss 0 0) → (get_or cs 0 false ≡ true → g ≡ h) → Y (rest w (get_or ss 0 0) g) (rest v (get_or ss 0 0) h))
    → Heads Z ws vs → Within gs (grid ws ss) → Within hs (grid vs ss) → AgreeWhere cs gs hs → Heads Y (rests ws ss gs) (rests vs ss hs)
heads_rests Z Y [] vs ss gs hs cs l m step h p q a = absurd h
heads_rests Z Y (w ∷ ws) [] ss gs hs cs l m step h p q a = absurd h
heads_rests Z Y (w ∷ ws) (v ∷ vs) [] gs hs cs l m step h p q a = absurd (omega arith)
heads_rests Z Y (w ∷ ws) (v ∷ vs) (s ∷ ss) [] hs cs l m step h p q a = absurd p
heads_rests Z Y (w ∷ ws) (v ∷ vs) (s ∷ ss) (g ∷ gs) [] cs l m step h p q a = absurd q
heads_rests Z Y (w ∷ ws) (v ∷ vs) (s ∷ ss) (g ∷ gs) (k ∷ hs) [] l m step h p q a = absurd (omega arith)
heads_rests Z Y (w ∷ ws) (v ∷ vs) (s ∷ ss) (g ∷ gs) (k ∷ hs) (c ∷ cs) l m step h p q a = step w v g k h p.0 q.0 a.0

-- a nest of n loops, as wide everywhere
abbrev pub IsRect : ℕ → Tree → Type 0
IsRect n t = t ≡ build (widths n t) (pick t)

abbrev pub FromLoop : (Tree → Tree → Type 0) → (ℕ → ℕ → Type 0) → Type 0
FromLoop R Z = (w v : ℕ) (f g : ℕ → Tree) → R (loop_of (members w f)) (loop_of (members v g)) → Z w v

abbrev pub ToLoop : (ℕ → ℕ → Type 0) → (Tree → Tree → Type 0) → Type 0
ToLoop Z R = (w v : ℕ) (f g : ℕ → Tree) → Z w v → R (loop_of (members w f)) (loop_of (members v g))

none_get : (j i : ℕ) → get_or (none_flagged j) i false ≡ false
none_get zero i = refl
none_get (suc j) zero = refl
none_get (suc j) (suc i) = none_get j i

module _ (R Q : Tree → Tree → Type 0) (Z Y : ℕ → ℕ → Type 0) (from : FromLoop R Z) (to : ToLoop Y Q) (j : ℕ) (ss : List ℕ) (pos : AllPositive ss) (l : j < length ss)
    (t u : Tree) (is_t : IsRect (length ss) t) (is_u : IsRect (length ss) u) where
  pub heads_of : Related R (none_flagged j) t u → AlongWidths (Heads Z) (none_flagged j) (widths (length ss) t) (widths (length ss) u)
  heads_of h =
      let ws : List ℕ = widths (length ss) t in
      let vs : List ℕ = widths (length ss) u in
      let lj : length (none_flagged j) ≡ j = length_members j (λ i. false) in
      let lw : length ws ≡ length ss = length_members (length ss) (width t) in
      let lv : length vs ≡ length ss = length_members (length ss) (width u) in
      width_related R Z from (none_flagged j) ws vs (pick t) (pick u) (omega arith) (omega arith)
      (subst (λ x. Related R (none_flagged j) x (build vs (pick u))) is_t (subst (Related R (none_flagged j) t) is_u h))

  pub grid_heads : ((w v : ℕ) → Z w v → Y (div_up w (get_or ss j 0)) (div_up v (get_or ss j 0))) → Related R (none_flagged j) t u
      → AlongWidths (Heads Y) (none_flagged j) (grid (widths (length ss) t) ss) (grid (widths (length ss) u) ss)
  grid_heads step h =
      let ws : List ℕ = widths (length ss) t in
      let vs : List ℕ = widths (length ss) u in
      let lj : length (none_flagged j) ≡ j = length_members j (λ i. false) in
      let size : get_or (drop (length (none_flagged j)) ss) 0 0 ≡ get_or ss j 0 = get_drop (length (none_flagged j)) ss 0 ∙ ap (λ m. get_or ss m 0) lj in
      grid_along (Heads Z) (Heads Y) (none_flagged j) ws vs ss pos (omega arith)
      (heads_grid Z Y (drop (length (none_flagged j)) ws) (drop (length (none_flagged j)) vs) (drop (length (none_flagged j)) ss) (omega (arith, length-drop (length (none_flagged j)) ss))
      (subst (λ s. (w v : ℕ) → Z w v → Y (div_up w s) (div_up v s)) (sym size) step))
      (heads_of h)

  -- a grid loop
  pub grid_related : ((w v : ℕ) → Z w v → Y (div_up w (get_or ss j 0)) (div_up v (get_or ss j 0))) → Related R (none_flagged j) t u → Related Q (none_flagged j) (tiled ss t) (tiled ss u)
  grid_related step h = related_width Q Y to (none_flagged j) (grid (widths (length ss) t) ss) (grid (widths (length ss) u) ss) _ _ (grid_heads step h)

  -- a tile loop
  pub tile_related : (cs : List Bool) → length cs ≡ length ss → AlongWidths Any cs (grid (widths (length ss) t) ss) (grid (widths (length ss) u) ss)
      → ((w v g h : ℕ) → Z w v → g < div_up w (get_or ss j 0) → h < div_up v (get_or ss j 0) → (get_or cs j false ≡ true → g ≡ h) → Y (rest w (get_or ss j 0) g) (rest v (get_or ss j 0) h))
      → Related R (none_flagged j) t u → Related (Related Q (none_flagged j)) cs (tiled ss t) (tiled ss u)
  tile_related cs e along step h =
      let ws : List ℕ = widths (length ss) t in
      let vs : List ℕ = widths (length ss) u in
      let lj : length (none_flagged j) ≡ j = length_members j (λ i. false) in
      let lw : length ws ≡ length ss = length_members (length ss) (width t) in
      let lv : length vs ≡ length ss = length_members (length ss) (width u) in
      let m : ℕ = length (none_flagged j) in
      let size : get_or (drop m ss) 0 0 ≡ get_or ss j 0 = get_drop m ss 0 ∙ ap (λ i. get_or ss i 0) lj in
      let flag : get_or (drop m cs) 0 false ≡ get_or cs j false = get_drop m cs false ∙ ap (λ i. get_or cs i false) lj in
      let step' : (w v g h : ℕ) → Z w v → g < div_up w (get_or (drop m ss) 0 0) → h < div_up v (get_or (drop m ss) 0 0) → (get_or (drop m cs) 0 false ≡ true → g ≡ h) → Y (rest w (get_or (drop m ss) 0 0) g) (rest v (get_or (drop m ss) 0 0) h) =
      subst (λ s. (w v g h : ℕ) → Z w v → g < div_up w s → h < div_up v s → (get_or (drop m cs) 0 false ≡ true → g ≡ h) → Y (rest w s g) (rest v s h)) (sym size)
      (subst (λ b. (w v g h : ℕ) → Z w v → g < div_up w (get_or ss j 0) → h < div_up v (get_or ss j 0) → (b ≡ true → g ≡ h) → Y (rest w (get_or ss j 0) g) (rest v (get_or ss j 0) h)) (sym flag) step) in
      related_build (Related Q (none_flagged j)) cs (grid ws ss) (grid vs ss) _ _ (e ∙ sym (length_grid ws ss lw)) (e ∙ sym (length_grid vs ss lv)) along
      (λ gs hs p q a. related_width Q Y to (none_flagged j) (rests ws ss gs) (rests vs ss hs) _ _
      (rests_along (Heads Z) (Heads Y) (none_flagged j) cs ws vs ss gs hs pos (omega arith) (omega arith) p q a
      (λ i x y. absurd (let n : get_or (none_flagged j) i false ≡ false = none_get j i in cc))
      (λ x p' q' a'. heads_rests Z Y (drop m ws) (drop m vs) (drop m ss) (drop m gs) (drop m hs) (drop m cs)
      (omega (arith, length-drop m ss)) (omega (arith, length-drop m cs)) step' x p' q' a')
      (heads_of h)))

-- ---- the flag of one loop

-- only the j-th of n
abbrev pub one_flagged : ℕ → ℕ → List Bool
one_flagged j zero = []
one_flagged zero (suc n) = true ∷ none_flagged n
one_flagged (suc j) (suc n) = false ∷ one_flagged j n

pub length_one : (j n : ℕ) → length (one_flagged j n) ≡ n
length_one j zero = refl
length_one zero (suc n) = ap (λ m. suc m) (length_members n (λ i. false))
length_one (suc j) (suc n) = ap (λ m. suc m) (length_one j n)

pub one_get : (j n : ℕ) → j < n → get_or (one_flagged j n) j false ≡ true
one_get j zero l = absurd (omega arith)
one_get zero (suc n) l = refl
one_get (suc j) (suc n) l = one_get j n (omega arith)

pub one_along : (j n : ℕ) (ws vs : List ℕ) → length ws ≡ n → length vs ≡ n → AlongWidths (Heads (λ w v. w ≡ v)) (none_flagged j) ws vs → AlongWidths Any (one_flagged j n) ws vs
one_along j zero ws vs e d h = tt
one_along j (suc n) [] vs e d h = absurd (omega arith)
one_along j (suc n) (w ∷ ws) [] e d h = absurd (omega arith)
one_along zero (suc n) (w ∷ ws) (v ∷ vs) e d h = ((λ is l m. h), (λ l m. none_along Any n ws vs (omega arith) (omega arith) tt))
one_along (suc j) (suc n) (w ∷ ws) (v ∷ vs) e d h = ((λ is. absurd (cc)), (λ l m. one_along j n ws vs (omega arith) (omega arith) (h.1 l m)))
