-- Where tiling puts loops, and what the kinds of its loops say.
use Rattle.std.proofs.Common.{◌≡◌, refl, sym, ap, ◌∙◌, ℕ, zero, suc, ◌+◌, ◌-◌, ◌%◌, ◌<◌, ◌≤◌, List, [], ◌∷◌, ◌++◌, map, length, Some, None, Bool, true, false, ◌⊎◌, inl, inr, get_or, arith}
use Rattle.std.specs.Prelude.{◌||◌, ◌==◌, nat_le, if◌then◌else◌}
use Rattle.std.proofs.lemmas.Bool.{eqb-true, eq-eqb, ne_eqb, leb-true, leb-false}
use Rattle.c_semantics.specs.Loops.IterationTrees.{members}
use Rattle.c_semantics.specs.Loops.Transformations.{tile, div_up, rest}
use Rattle.canonical_nests.specs.declared.nest.CountKind.{CountKind}
use Rattle.canonical_nests.specs.declared.nest.CountKind.TheVariants.{Known, Entry, Depends}
use Rattle.canonical_nests.specs.Kinds.{Part, depends_on, known_count, kind_at, positions_below, on_positions, chunk_kind, tile_kind, grid_kinds, tile_kinds}
use Rattle.canonical_nests.specs.LoopRules.Clauses.{is_in}
use Rattle.nest_counts.proofs.Built.{members_same}
use Rattle.nest_counts.proofs.Sizes.{whole_tile, only_tile}
use Rattle.nest_counts.proofs.Places.{ComesFrom, among_on, known_on}
use Rattle.nest_counts.proofs.Tile.{one_flagged}

-- ---- positions

pub one_of : (p a q r : ℕ) → (p ≡ a → q ≡ r) → (q ≡ r → p ≡ a) → (p == a || false) ≡ (q == r)
one_of p a q r f g = by (p == a) refl
  where
    by : (b : Bool) → (p == a) ≡ b → (b || false) ≡ (q == r)
    by true e = sym (eq-eqb q r (f (eqb-true p a e)))
    by false e = sym (ne_eqb q r (λ s. absurd (let t : (p == a) ≡ true = eq-eqb p a (g s) in cc)))

pub two_of : (p a b q r : ℕ) → (p ≡ a → q ≡ r) → (p ≡ b → q ≡ r) → (q ≡ r → (p ≡ a) ⊎ (p ≡ b)) → (p == a || (p == b || false)) ≡ (q == r)
two_of p a b q r f g h = by (p == a) refl (p == b) refl
  where
    by : (x : Bool) → (p == a) ≡ x → (y : Bool) → (p == b) ≡ y → (x || (y || false)) ≡ (q == r)
    by true e y d = sym (eq-eqb q r (f (eqb-true p a e)))
    by false e true d = sym (eq-eqb q r (g (eqb-true p b d)))
    by false e false d = sym (ne_eqb q r (λ s. neither (h s)))
      where
        neither : (p ≡ a) ⊎ (p ≡ b) → ⊥
        neither (inl i) = absurd (let t : (p == a) ≡ true = eq-eqb p a i in cc)
        neither (inr i) = absurd (let t : (p == b) ≡ true = eq-eqb p b i in cc)

pub tile_low : (k : ℕ) (ss : List ℕ) (p : ℕ) → p ≤ k + length ss → ComesFrom (positions_below k (tile ss)) p p
tile_low k ss p l r = by (nat_le r k) refl (nat_le (r - k) (length ss)) refl
  where
    by : (b : Bool) → nat_le r k ≡ b → (c : Bool) → nat_le (r - k) (length ss) ≡ c
        → is_in p (if b then r ∷ [] else map (λ q. k + q) (if c then (r - k) ∷ (length ss + (r - k)) ∷ [] else (length ss + (r - k)) ∷ [])) ≡ (p == r)
    by true e c d = one_of p r p r (λ s. s) (λ s. s)
    by false e true d =
        let far : k < r = leb-false r k e in
        two_of p (k + (r - k)) (k + (length ss + (r - k))) p r (λ s. omega arith) (λ s. omega arith) (λ s. inl (omega arith))
    by false e false d =
        let far : k < r = leb-false r k e in
        let further : length ss < r - k = leb-false (r - k) (length ss) d in
        one_of p (k + (length ss + (r - k))) p r (λ s. omega arith) (λ s. absurd (omega arith))

pub tile_high : (k : ℕ) (ss : List ℕ) (p q : ℕ) → p ≡ q + length ss → k < q → ComesFrom (positions_below k (tile ss)) p q
tile_high k ss p q at l r = by (nat_le r k) refl (nat_le (r - k) (length ss)) refl
  where
    by : (b : Bool) → nat_le r k ≡ b → (c : Bool) → nat_le (r - k) (length ss) ≡ c
        → is_in p (if b then r ∷ [] else map (λ q. k + q) (if c then (r - k) ∷ (length ss + (r - k)) ∷ [] else (length ss + (r - k)) ∷ [])) ≡ (q == r)
    by true e c d =
        let close : r ≤ k = leb-true r k e in
        one_of p r q r (λ s. absurd (omega arith)) (λ s. absurd (omega arith))
    by false e true d =
        let far : k < r = leb-false r k e in
        let near : r - k ≤ length ss = leb-true (r - k) (length ss) d in
        two_of p (k + (r - k)) (k + (length ss + (r - k))) q r (λ s. absurd (omega arith)) (λ s. omega arith) (λ s. inr (omega arith))
    by false e false d =
        let far : k < r = leb-false r k e in
        one_of p (k + (length ss + (r - k))) q r (λ s. omega arith) (λ s. omega arith)

-- ---- the kinds

pub grid_kind : (cs : Part) (ss : List ℕ) (X : Part) (j : ℕ) → j < length ss → length ss ≤ length cs → kind_at (grid_kinds cs ss ++ X) j ≡ chunk_kind (kind_at cs j) (get_or ss j 0)
grid_kind [] [] X j l m = absurd (omega arith)
grid_kind [] (s ∷ ss) X j l m = absurd (omega arith)
grid_kind (c ∷ cs) [] X j l m = absurd (omega arith)
grid_kind (c ∷ cs) (s ∷ ss) X zero l m = refl
grid_kind (c ∷ cs) (s ∷ ss) X (suc j) l m = grid_kind cs ss X j (omega arith) (omega arith)

pub grid_after : (cs : Part) (ss : List ℕ) (X : Part) (j i : ℕ) → j ≡ length ss + i → length ss ≤ length cs → kind_at (grid_kinds cs ss ++ X) j ≡ kind_at X i
grid_after [] [] X j i e m = ap (kind_at X) (let s : j ≡ i = omega arith in s)
grid_after [] (s ∷ ss) X j i e m = absurd (omega arith)
grid_after (c ∷ cs) [] X j i e m = ap (kind_at X) (let s : j ≡ i = omega arith in s)
grid_after (c ∷ cs) (s ∷ ss) X zero i e m = absurd (omega arith)
grid_after (c ∷ cs) (s ∷ ss) X (suc j) i e m = grid_after cs ss X j i (omega arith) (omega arith)

pub tile_kind_at : (g : ℕ) (cs : Part) (ss : List ℕ) (X : Part) (j : ℕ) → j < length ss → length ss ≤ length cs → kind_at (tile_kinds g cs ss ++ X) j ≡ tile_kind (g + j) (kind_at cs j) (get_or ss j 0)
tile_kind_at g [] [] X j l m = absurd (omega arith)
tile_kind_at g [] (s ∷ ss) X j l m = absurd (omega arith)
tile_kind_at g (c ∷ cs) [] X j l m = absurd (omega arith)
tile_kind_at g (c ∷ cs) (s ∷ ss) X zero l m = ap (λ h. tile_kind h c s) (let e : g ≡ g + 0 = omega arith in e)
tile_kind_at g (c ∷ cs) (s ∷ ss) X (suc j) l m = tile_kind_at (g + 1) cs ss X j (omega arith) (omega arith) ∙ ap (λ h. tile_kind h (kind_at cs j) (get_or ss j 0)) (let e : g + 1 + j ≡ g + suc j = omega arith in e)

pub tile_after : (g : ℕ) (cs : Part) (ss : List ℕ) (X : Part) (j i : ℕ) → j ≡ length ss + i → length ss ≤ length cs → kind_at (tile_kinds g cs ss ++ X) j ≡ kind_at X i
tile_after g [] [] X j i e m = ap (kind_at X) (let s : j ≡ i = omega arith in s)
tile_after g [] (s ∷ ss) X j i e m = absurd (omega arith)
tile_after g (c ∷ cs) [] X j i e m = ap (kind_at X) (let s : j ≡ i = omega arith in s)
tile_after g (c ∷ cs) (s ∷ ss) X zero i e m = absurd (omega arith)
tile_after g (c ∷ cs) (s ∷ ss) X (suc j) i e m = tile_after (g + 1) cs ss X j i (omega arith) (omega arith)

pub length_grids : (cs : Part) (ss : List ℕ) → length ss ≤ length cs → length (grid_kinds cs ss) ≡ length ss
length_grids [] [] m = refl
length_grids [] (s ∷ ss) m = absurd (omega arith)
length_grids (c ∷ cs) [] m = refl
length_grids (c ∷ cs) (s ∷ ss) m = ap (λ n. suc n) (length_grids cs ss (omega arith))

pub length_tiles : (g : ℕ) (cs : Part) (ss : List ℕ) → length ss ≤ length cs → length (tile_kinds g cs ss) ≡ length ss
length_tiles g [] [] m = refl
length_tiles g [] (s ∷ ss) m = absurd (omega arith)
length_tiles g (c ∷ cs) [] m = refl
length_tiles g (c ∷ cs) (s ∷ ss) m = ap (λ n. suc n) (length_tiles (g + 1) cs ss (omega arith))

-- ---- one tile loop

pub record Fixed (g : ℕ) (M : CountKind) (s : ℕ) : Type 0 where
  pub count : ℕ
  pub all : ℕ
  pub is_known : known_count M ≡ Some count
  pub each : (a : ℕ) → a < div_up count s → rest count s a ≡ all
  pub known : known_count (tile_kind g M s) ≡ Some all
  pub deps : depends_on (tile_kind g M s) ≡ []

pub record Varies (g : ℕ) (M : CountKind) (s : ℕ) : Type 0 where
  pub unknown : known_count (tile_kind g M s) ≡ None
  pub among : (p : ℕ) → is_in p (depends_on (tile_kind g M s)) ≡ (p == g || is_in p (depends_on M))

-- of a known count each tile is as wide, or the width depends on the grid loop too
pub tile_says : (g : ℕ) (M : CountKind) (s : ℕ) → 0 < s → Fixed g M s ⊎ Varies g M s
tile_says g Entry s pos = inr (record { unknown = known_on (g ∷ []); among = λ p. among_on p (g ∷ []) })
tile_says g (Depends ps) s pos = inr (record { unknown = known_on (g ∷ ps); among = λ p. among_on p (g ∷ ps) })
tile_says g (Known c) s pos = by (nat_le c s) refl (c % s == 0) refl
  where
    by : (a : Bool) → nat_le c s ≡ a → (b : Bool) → (c % s == 0) ≡ b → Fixed g (Known c) s ⊎ Varies g (Known c) s
    by true e b d = inl (record { count = c; all = c; is_known = refl; each = λ a l. only_tile c s a pos (leb-true c s e) l; known = ap (λ x. known_count (if x then Known c else if c % s == 0 then Known s else on_positions (g ∷ []))) e; deps = ap (λ x. depends_on (if x then Known c else if c % s == 0 then Known s else on_positions (g ∷ []))) e })
    by false e true d = inl (record {
      count = c;
      all = s;
      is_known = refl;
      each = λ a l. whole_tile c s a pos (eqb-true (c % s) 0 d) l;
      known = ap (λ x. known_count (if x then Known c else if c % s == 0 then Known s else on_positions (g ∷ []))) e ∙ ap (λ x. known_count (if x then Known s else on_positions (g ∷ []))) d;
      deps = ap (λ x. depends_on (if x then Known c else if c % s == 0 then Known s else on_positions (g ∷ []))) e ∙ ap (λ x. depends_on (if x then Known s else on_positions (g ∷ []))) d;
    })
    by false e false d = inr (record {
      unknown = ap (λ x. known_count (if x then Known c else if c % s == 0 then Known s else on_positions (g ∷ []))) e ∙ (ap (λ x. known_count (if x then Known s else on_positions (g ∷ []))) d ∙ known_on (g ∷ []));
      among = λ p. ap (λ x. is_in p (depends_on (if x then Known c else if c % s == 0 then Known s else on_positions (g ∷ [])))) e
          ∙ (ap (λ x. is_in p (depends_on (if x then Known s else on_positions (g ∷ [])))) d ∙ among_on p (g ∷ []));
    })

-- ---- one flag

pub one_members : (n i : ℕ) (f : ℕ → Bool) → i < n → f i ≡ true → ((a : ℕ) → a < n → (a ≡ i → ⊥) → f a ≡ false) → members n f ≡ one_flagged i n
one_members zero i f l here other = absurd (omega arith)
one_members (suc n) zero f l here other = (λ x. here x ∷ members_same n (λ a. f (suc a)) (λ a. false) (λ a m. other (suc a) (omega (arith, m)) (λ e. absurd (omega (arith, e)))) x)
one_members (suc n) (suc i) f l here other =
    (λ x. other 0 (omega arith) (λ e. absurd (omega (arith, e))) x ∷ one_members n i (λ a. f (suc a)) (omega arith) here (λ a m ne. other (suc a) (omega (arith, m)) (λ e. ne (omega (arith, e)))) x)
