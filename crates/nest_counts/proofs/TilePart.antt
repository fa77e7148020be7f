-- A tiled nest has the kinds that tiling makes of its part's.
use Rattle.std.proofs.Common.{◌≡◌, refl, sym, ap, ◌∙◌, subst, ℕ, zero, suc, ◌+◌, ◌-◌, ◌<◌, ◌≤◌, List, [], ◌∷◌, ◌++◌, map, length, take, drop, Some, Bool, false, ◌⊎◌, inl, inr, get_or, arith, length-append, length-drop}
use Rattle.std.specs.Prelude.{◌||◌, ◌==◌}
use Rattle.std.proofs.lemmas.Bool.{eq-eqb, ne_eqb}
use Rattle.c_semantics.specs.Loops.IterationTrees.{Tree, members, widths, at_depth}
use Rattle.c_semantics.specs.Loops.Transformations.{tile, div_up, rest, tiled}
use Rattle.canonical_nests.specs.declared.nest.CountKind.{CountKind}
use Rattle.canonical_nests.specs.declared.nest.CountKind.TheVariants.{Known, Entry, Depends}
use Rattle.canonical_nests.specs.Kinds as kinds
use Rattle.canonical_nests.specs.Kinds.{Part, depends_on, moved, known_count, settled, kind_at, positions_below, chunk_kind, tile_kind, grid_kinds, tile_kinds}
use Rattle.canonical_nests.specs.LoopRules.Counts.{depend_on_another}
use Rattle.canonical_nests.specs.LoopRules.Clauses.{is_in}
use Rattle.nest_counts.specs.HasKinds.{flags, IsLoop, turns, EachBelow, Related, SameTurns, HasCount, HasKinds}
use Rattle.nest_counts.specs.Plans.{AllPositive}
use Rattle.nest_counts.proofs.Ways.{none_flagged, each_both, each_more, each_below, each_above_below, free_of_each, each_of_free, related_split, related_join, related_more}
use Rattle.nest_counts.proofs.Built.{Any, length_members, members_same, turns_loop}
use Rattle.nest_counts.proofs.Places.{kind_map, kind_drop, known_moved, flags_moved, flags_add, later_flags, members_add, among_moved, length_flags, length_kinds}
use Rattle.nest_counts.proofs.Kept.{split_at, part_has, count_below, count_moved, known_same, Near, near, near_related, each_any}
use Rattle.nest_counts.proofs.Rectangles.{on_no_other, later_none, rectangular, each_diagonal}
use Rattle.nest_counts.proofs.Tile.{IsRect, grid, tiled_below, grid_related, grid_heads, tile_related, one_flagged, length_one, one_get, one_along, none_along, length_grid}
use Rattle.nest_counts.proofs.TilePlaces.{tile_low, tile_high, grid_kind, grid_after, tile_kind_at, tile_after, length_grids, length_tiles, Fixed, Varies, tile_says, one_members}

positive_at : (ss : List ℕ) (j : ℕ) → AllPositive ss → j < length ss → 0 < get_or ss j 0
positive_at [] j pos l = absurd (omega arith)
positive_at (s ∷ ss) zero pos l = pos.0
positive_at (s ∷ ss) (suc j) pos l = positive_at ss j pos.1 (omega arith)

chunk_deps : (K : CountKind) (s : ℕ) → depends_on (chunk_kind K s) ≡ depends_on K
chunk_deps (Known v) s = refl
chunk_deps Entry s = refl
chunk_deps (Depends ps) s = refl

chunk_known : (K : CountKind) (s v : ℕ) → known_count (chunk_kind K s) ≡ Some v → (w : ℕ) × ((known_count K ≡ Some w) × (div_up w s ≡ v))
chunk_known (Known w) s v e = (w, (refl, let i : div_up w s ≡ v = cc in i))
chunk_known Entry s v e = absurd (cc)
chunk_known (Depends ps) s v e = absurd (cc)

pub each_inner : (Q : Tree → Type 0) (a b : ℕ) (t : Tree) → Related (Related (λ y z. Q y) (none_flagged b)) (none_flagged a) t t → EachBelow (EachBelow Q b) a t
each_inner Q a b t h =
    subst (λ i. EachBelow (EachBelow Q b) i t) (length_members a (λ i. false))
    (each_more (λ x. Related (λ y z. Q y) (none_flagged b) x x) (EachBelow Q b) (length (none_flagged a)) t (λ x q. each_of_free Q b x q) (each_diagonal (Related (λ y z. Q y) (none_flagged b)) (none_flagged a) t h))

-- twice over the flags of the taken loops
each_twice : (P : Tree → Type 0) (ss : List ℕ) (m : ℕ) (x : Tree) → AllPositive ss → IsRect (length ss) x → EachBelow P (length ss + m) x → EachBelow P (length ss + (length ss + m)) (tiled ss x)
each_twice P ss m x pos rect h =
    let n : ℕ = length ss in
    let len : length (none_flagged n) ≡ n = length_members n (λ i. false) in
    let lw : length (widths n x) ≡ n = length_members n _ in
    let twice : Related (Related (λ y z. EachBelow P m y) (none_flagged n)) (none_flagged n) (tiled ss x) (tiled ss x) =
    tiled_below (λ y z. EachBelow P m y) (none_flagged n) ss x x pos len rect rect lw lw (free_of_each (EachBelow P m) n x x (each_below P n m (n + m) x refl h)) in
    each_above_below P n (n + m) (n + (n + m)) (tiled ss x) refl
    (each_more (EachBelow (EachBelow P m) n) (EachBelow P (n + m)) n (tiled ss x) (λ y q. each_above_below P n m (n + m) y refl q)
    (each_inner (EachBelow P m) n n (tiled ss x) twice))

module _ (k : ℕ) (ss : List ℕ) (ks : Part) (t : Tree) (has : HasKinds ks t) (enough : k + length ss ≤ length ks) (pos : AllPositive ss) (apart : depend_on_another k (length ss) ks ≡ false) where
  rects : EachBelow (IsRect (length ss)) k t
  rects = rectangular k (length ss) ks t has enough apart

  low_flags : (m : ℕ) (K : CountKind) → m ≤ length ss → flags k (depends_on (moved (positions_below k (tile ss)) K)) ≡ flags k (depends_on K)
  low_flags m K l = flags_moved (positions_below k (tile ss)) k K (λ p z q. tile_low k ss p (omega (arith, q)))

  -- none of the other taken loops
  taken_none : (j i : ℕ) → j < length ss → i < length ss → (i ≡ j → ⊥) → is_in (suc (k + i)) (depends_on (moved (positions_below k (tile ss)) (kind_at ks (k + j)))) ≡ false
  taken_none j i l m ne =
      among_moved (positions_below k (tile ss)) (suc (k + i)) (suc (k + i)) (kind_at ks (k + j)) (tile_low k ss (suc (k + i)) (omega arith))
      ∙ on_no_other k (length ss) ks enough apart j (suc (k + i)) l (omega arith) (omega arith) (λ s. ne (omega arith))

  tile_none : (j i : ℕ) → j < length ss → i < length ss → (i ≡ j → ⊥) → is_in (suc (k + (length ss + i))) (depends_on (moved (positions_below k (tile ss)) (kind_at ks (k + j)))) ≡ false
  tile_none j i l m ne =
      among_moved (positions_below k (tile ss)) (suc (k + (length ss + i))) (suc (k + i)) (kind_at ks (k + j)) (tile_high k ss (suc (k + (length ss + i))) (suc (k + i)) (omega arith) (omega arith))
      ∙ on_no_other k (length ss) ks enough apart j (suc (k + i)) l (omega arith) (omega arith) (λ s. ne (omega arith))

  near_taken : (j : ℕ) → j < length ss → Related (Related SameTurns (none_flagged j)) (flags k (depends_on (kind_at ks (k + j)))) t t
  near_taken j l =
      subst (λ bs. Related (Related SameTurns bs) (flags k (depends_on (kind_at ks (k + j)))) t t) (later_none k (length ss) ks enough apart j j l (omega arith))
      (near_related (kind_at ks (k + j)) k j (k + j) t refl (has (k + j) (omega (arith, l, enough))))

  taken : (j : ℕ) → j < length ss → EachBelow (λ x. IsRect (length ss) x × Near (kind_at ks (k + j)) j x) k t
  taken j l = each_both (IsRect (length ss)) (Near (kind_at ks (k + j)) j) k t rects (near (kind_at ks (k + j)) k j (k + j) t refl (has (k + j) (omega (arith, l, enough))))

  grid_count : (j : ℕ) → j < length ss → HasCount (chunk_kind (moved (positions_below k (tile ss)) (kind_at ks (k + j))) (get_or ss j 0)) (k + j) (at_depth k (tiled ss) t)
  grid_count j l =
      let K : CountKind = kind_at ks (k + j) in
      count_below (λ x. IsRect (length ss) x × Near K j x) (Related SameTurns (none_flagged j)) (chunk_kind (moved (positions_below k (tile ss)) K) (get_or ss j 0)) (tiled ss) k j (k + j) t (flags k (depends_on K)) (none_flagged j) refl (taken j l)
      (λ x p. each_of_free IsLoop j (tiled ss x)
      (grid_related (λ y z. IsLoop y) (λ y z. IsLoop y) (λ a b. Unit {0}) (λ a b. Unit {0}) (λ a b f g h. tt) (λ a b f g h. tt) j ss pos l x x p.0 p.0 (λ a b z. tt) (free_of_each IsLoop j x x p.1.0)))
      (λ v e x p.
      let q = chunk_known (moved (positions_below k (tile ss)) K) (get_or ss j 0) v e in
      each_of_free (λ u. turns u ≡ v) j (tiled ss x)
      (grid_related (λ y z. turns y ≡ q.0) (λ y z. turns y ≡ v) (λ a b. a ≡ q.0) (λ a b. a ≡ v) (λ a b f g h. sym (turns_loop a f) ∙ h) (λ a b f g h. turns_loop a f ∙ h) j ss pos l x x p.0 p.0
      (λ a b z. ap (λ w. div_up w (get_or ss j 0)) z ∙ q.1.1) (free_of_each (λ u. turns u ≡ q.0) j x x (p.1.1 q.0 (sym (known_moved (positions_below k (tile ss)) K) ∙ q.1.0)))))
      (length_flags k (depends_on K))
      (ap (flags (k + j)) (chunk_deps (moved (positions_below k (tile ss)) K) (get_or ss j 0)) ∙ (flags_add k j (k + j) (depends_on (moved (positions_below k (tile ss)) K)) refl
      ∙ (λ i. low_flags 0 K (omega arith) i ++ members_same j (λ a. is_in (suc (k + a)) (depends_on (moved (positions_below k (tile ss)) K))) (λ a. false) (λ a m. taken_none j a l (omega (arith, m, l)) (λ e. absurd (omega (arith, m, e)))) i)))
      (near_taken j l)
      (λ x y p q r. grid_related SameTurns SameTurns (λ a b. a ≡ b) (λ a b. a ≡ b) (λ a b f g h. sym (turns_loop a f) ∙ (h ∙ turns_loop b g)) (λ a b f g h. turns_loop a f ∙ (h ∙ sym (turns_loop b g))) j ss pos l x y p.0 q.0
      (λ a b z. ap (λ w. div_up w (get_or ss j 0)) z) r)

  -- ---- the tile loops

  tile_loops : (i : ℕ) → i < length ss → (x : Tree) → IsRect (length ss) x → EachBelow IsLoop i x → EachBelow IsLoop (length ss + i) (tiled ss x)
  tile_loops i l x rect h =
      each_above_below IsLoop (length ss) i (length ss + i) (tiled ss x) refl
      (each_inner IsLoop (length ss) i (tiled ss x)
      (tile_related (λ y z. IsLoop y) (λ y z. IsLoop y) (λ a b. Unit {0}) (λ a b. Unit {0}) (λ a b f g h. tt) (λ a b f g h. tt) i ss pos l x x rect rect
      (none_flagged (length ss)) (length_members (length ss) (λ a. false))
      (let lg : length (grid (widths (length ss) x) ss) ≡ length ss = length_grid (widths (length ss) x) ss (length_members (length ss) _) in
      none_along Any (length ss) (grid (widths (length ss) x) ss) (grid (widths (length ss) x) ss) (omega arith) (omega arith) tt)
      (λ a b g h z p q f. tt)
      (free_of_each IsLoop i x x h)))

  fixed_count : (i : ℕ) → i < length ss → Fixed (k + 1 + i) (moved (positions_below k (tile ss)) (kind_at ks (k + i))) (get_or ss i 0) → HasCount (tile_kind (k + 1 + i) (moved (positions_below k (tile ss)) (kind_at ks (k + i))) (get_or ss i 0)) (k + (length ss + i)) (at_depth k (tiled ss) t)
  fixed_count i l fixed =
      let K : CountKind = kind_at ks (k + i) in
      count_below (λ x. IsRect (length ss) x × Near K i x) (λ x y. Unit {0}) (tile_kind (k + 1 + i) (moved (positions_below k (tile ss)) K) (get_or ss i 0)) (tiled ss) k (length ss + i) (k + (length ss + i)) t (none_flagged k) (none_flagged (length ss + i)) refl (taken i l)
      (λ x p. tile_loops i l x p.0 p.1.0)
      (λ v e x p. wide v (let s : fixed.all ≡ v = let d = fixed.known in cc in s) x p)
      (length_members k (λ a. false))
      (ap (flags (k + (length ss + i))) fixed.deps ∙ flags_add k (length ss + i) (k + (length ss + i)) [] refl)
      (free_of_each (λ x. Unit {0}) k t t (each_any (λ x. Unit {0}) k t (λ x. tt)))
      (λ x y p q r. known_same (length ss + i) fixed.all (tiled ss x) (tiled ss y) (wide fixed.all refl x p) (wide fixed.all refl y q))
    where
      wide : (v : ℕ) → fixed.all ≡ v → (x : Tree) → IsRect (length ss) x × Near (kind_at ks (k + i)) i x → EachBelow (λ u. turns u ≡ v) (length ss + i) (tiled ss x)
      wide v s x p =
          each_above_below (λ u. turns u ≡ v) (length ss) i (length ss + i) (tiled ss x) refl
          (each_inner (λ u. turns u ≡ v) (length ss) i (tiled ss x)
          (tile_related (λ y z. turns y ≡ fixed.count) (λ y z. turns y ≡ v) (λ a b. a ≡ fixed.count) (λ a b. a ≡ v) (λ a b f g h. sym (turns_loop a f) ∙ h) (λ a b f g h. turns_loop a f ∙ h) i ss pos l x x p.0 p.0
          (none_flagged (length ss)) (length_members (length ss) (λ a. false))
          (let lg : length (grid (widths (length ss) x) ss) ≡ length ss = length_grid (widths (length ss) x) ss (length_members (length ss) _) in
          none_along Any (length ss) (grid (widths (length ss) x) ss) (grid (widths (length ss) x) ss) (omega arith) (omega arith) tt)
          (λ a b g h z q r f. ap (λ w. rest w (get_or ss i 0) g) z ∙ (fixed.each g (subst (λ w. g < div_up w (get_or ss i 0)) z q) ∙ s))
          (free_of_each (λ u. turns u ≡ fixed.count) i x x (p.1.1 fixed.count (sym (known_moved (positions_below k (tile ss)) (kind_at ks (k + i))) ∙ fixed.is_known)))))

  varying_flags : (i : ℕ) → i < length ss → (L : CountKind) → ((p : ℕ) → is_in p (depends_on L) ≡ (p == k + 1 + i || is_in p (depends_on (moved (positions_below k (tile ss)) (kind_at ks (k + i))))))
      → flags (k + (length ss + i)) (depends_on L) ≡ flags k (depends_on (kind_at ks (k + i))) ++ (one_flagged i (length ss) ++ none_flagged i)
  varying_flags i l L says =
      flags_add k (length ss + i) (k + (length ss + i)) (depends_on L) refl
      ∙ (λ z. outer z ++ (members_add (length ss) i (length ss + i) (λ a. is_in (suc (k + a)) (depends_on L)) refl ∙ (λ y. grids y ++ tiles y)) z)
    where
      other : (p : ℕ) → (p ≡ k + 1 + i → ⊥) → is_in p (depends_on L) ≡ is_in p (depends_on (moved (positions_below k (tile ss)) (kind_at ks (k + i))))
      other p ne = says p ∙ ap (λ b. b || is_in p (depends_on (moved (positions_below k (tile ss)) (kind_at ks (k + i))))) (ne_eqb p (k + 1 + i) ne)

      outer : flags k (depends_on L) ≡ flags k (depends_on (kind_at ks (k + i)))
      outer = members_same k (λ a. is_in (suc a) (depends_on L)) (λ a. is_in (suc a) (depends_on (moved (positions_below k (tile ss)) (kind_at ks (k + i))))) (λ a m. other (suc a) (λ e. absurd (omega (arith, e, m)))) ∙ low_flags 0 (kind_at ks (k + i)) (omega arith)

      grids : members (length ss) (λ a. is_in (suc (k + a)) (depends_on L)) ≡ one_flagged i (length ss)
      grids = one_members (length ss) i (λ a. is_in (suc (k + a)) (depends_on L)) l
          (says (suc (k + i)) ∙ ap (λ b. b || is_in (suc (k + i)) (depends_on (moved (positions_below k (tile ss)) (kind_at ks (k + i))))) (eq-eqb (suc (k + i)) (k + 1 + i) (omega arith)))
          (λ a m ne. other (suc (k + a)) (λ e. ne (omega (arith, e))) ∙ taken_none i a l m ne)

      tiles : members i (λ a. is_in (suc (k + (length ss + a))) (depends_on L)) ≡ none_flagged i
      tiles = members_same i (λ a. is_in (suc (k + (length ss + a))) (depends_on L)) (λ a. false)
          (λ a m. other (suc (k + (length ss + a))) (λ e. absurd (omega (arith, e, m, l))) ∙ tile_none i a l (omega (arith, m, l)) (λ e. absurd (omega (arith, m, e))))

  varying_count : (i : ℕ) → i < length ss → Varies (k + 1 + i) (moved (positions_below k (tile ss)) (kind_at ks (k + i))) (get_or ss i 0) → HasCount (tile_kind (k + 1 + i) (moved (positions_below k (tile ss)) (kind_at ks (k + i))) (get_or ss i 0)) (k + (length ss + i)) (at_depth k (tiled ss) t)
  varying_count i l varies =
      let K : CountKind = kind_at ks (k + i) in
      count_below (λ x. IsRect (length ss) x × Near K i x) (Related SameTurns (none_flagged i)) (tile_kind (k + 1 + i) (moved (positions_below k (tile ss)) K) (get_or ss i 0)) (tiled ss) k (length ss + i) (k + (length ss + i)) t
      (flags k (depends_on K)) (one_flagged i (length ss) ++ none_flagged i) refl (taken i l)
      (λ x p. tile_loops i l x p.0 p.1.0)
      (λ v e. absurd (let d = varies.unknown in cc))
      (length_flags k (depends_on K))
      (varying_flags i l (tile_kind (k + 1 + i) (moved (positions_below k (tile ss)) K) (get_or ss i 0)) varies.among)
      (near_taken i l)
      (λ x y p q r. related_join SameTurns (one_flagged i (length ss)) (none_flagged i) (tiled ss x) (tiled ss y)
      (tile_related SameTurns SameTurns (λ a b. a ≡ b) (λ a b. a ≡ b) (λ a b f g h. sym (turns_loop a f) ∙ (h ∙ turns_loop b g)) (λ a b f g h. turns_loop a f ∙ (h ∙ sym (turns_loop b g))) i ss pos l x y p.0 q.0
      (one_flagged i (length ss)) (length_one i (length ss))
      (one_along i (length ss) (grid (widths (length ss) x) ss) (grid (widths (length ss) y) ss) (length_grid (widths (length ss) x) ss (length_members (length ss) _)) (length_grid (widths (length ss) y) ss (length_members (length ss) _))
      (grid_heads SameTurns SameTurns (λ a b. a ≡ b) (λ a b. a ≡ b) (λ a b f g h. sym (turns_loop a f) ∙ (h ∙ turns_loop b g)) (λ a b f g h. turns_loop a f ∙ (h ∙ sym (turns_loop b g))) i ss pos l x y p.0 q.0
      (λ a b z. ap (λ w. div_up w (get_or ss i 0)) z) r))
      (λ a b g h z u v f. (λ w. rest (z w) (get_or ss i 0) (f (one_get i (length ss) l) w)))
      r))

  tile_count : (i : ℕ) → i < length ss → HasCount (tile_kind (k + 1 + i) (moved (positions_below k (tile ss)) (kind_at ks (k + i))) (get_or ss i 0)) (k + (length ss + i)) (at_depth k (tiled ss) t)
  tile_count i l = by (tile_says (k + 1 + i) (moved (positions_below k (tile ss)) (kind_at ks (k + i))) (get_or ss i 0) (positive_at ss i pos l))
    where
      by : Fixed (k + 1 + i) (moved (positions_below k (tile ss)) (kind_at ks (k + i))) (get_or ss i 0) ⊎ Varies (k + 1 + i) (moved (positions_below k (tile ss)) (kind_at ks (k + i))) (get_or ss i 0)
          → HasCount (tile_kind (k + 1 + i) (moved (positions_below k (tile ss)) (kind_at ks (k + i))) (get_or ss i 0)) (k + (length ss + i)) (at_depth k (tiled ss) t)
      by (inl f) = fixed_count i l f
      by (inr v) = varying_count i l v

  -- ---- the loops below

  deep_flags : (m : ℕ) (K : CountKind) → later_flags k (length ss + (length ss + m)) (depends_on (moved (positions_below k (tile ss)) K))
      ≡ later_flags k (length ss) (depends_on K) ++ (later_flags k (length ss) (depends_on K) ++ members m (λ a. is_in (suc (k + (length ss + a))) (depends_on K)))
  deep_flags m K =
      members_add (length ss) (length ss + m) (length ss + (length ss + m)) (λ a. is_in (suc (k + a)) (depends_on (moved (positions_below k (tile ss)) K))) refl
      ∙ (λ z. members_same (length ss) (λ a. is_in (suc (k + a)) (depends_on (moved (positions_below k (tile ss)) K))) (λ a. is_in (suc (k + a)) (depends_on K))
      (λ a l. among_moved (positions_below k (tile ss)) (suc (k + a)) (suc (k + a)) K (tile_low k ss (suc (k + a)) (omega arith))) z
      ++ (members_add (length ss) m (length ss + m) (λ a. is_in (suc (k + (length ss + a))) (depends_on (moved (positions_below k (tile ss)) K))) refl
      ∙ (λ y. members_same (length ss) (λ a. is_in (suc (k + (length ss + a))) (depends_on (moved (positions_below k (tile ss)) K))) (λ a. is_in (suc (k + a)) (depends_on K))
      (λ a l. among_moved (positions_below k (tile ss)) (suc (k + (length ss + a))) (suc (k + a)) K (tile_high k ss (suc (k + (length ss + a))) (suc (k + a)) (omega arith) (omega arith))) y
      ++ members_same m (λ a. is_in (suc (k + (length ss + (length ss + a)))) (depends_on (moved (positions_below k (tile ss)) K))) (λ a. is_in (suc (k + (length ss + a))) (depends_on K))
      (λ a l. among_moved (positions_below k (tile ss)) (suc (k + (length ss + (length ss + a)))) (suc (k + (length ss + a))) K
      (tile_high k ss (suc (k + (length ss + (length ss + a)))) (suc (k + (length ss + a))) (omega arith) (omega arith))) y)) z)

  deep_count : (m : ℕ) → k + (length ss + m) < length ks → HasCount (moved (positions_below k (tile ss)) (kind_at ks (k + (length ss + m)))) (k + (length ss + (length ss + m))) (at_depth k (tiled ss) t)
  deep_count m l =
      let K : CountKind = kind_at ks (k + (length ss + m)) in
      let b : List Bool = later_flags k (length ss) (depends_on K) in
      let c : List Bool = members m (λ a. is_in (suc (k + (length ss + a))) (depends_on K)) in
      let lb : length b ≡ length ss = length_members (length ss) (λ a. is_in (suc (k + a)) (depends_on K)) in
      count_moved K (moved (positions_below k (tile ss)) K) (tiled ss) k (length ss + m) (length ss + (length ss + m)) (k + (length ss + m)) (k + (length ss + (length ss + m))) t (IsRect (length ss)) refl refl (has (k + (length ss + m)) l) rects
      (known_moved (positions_below k (tile ss)) K) (low_flags 0 K (omega arith))
      (λ x r h. each_twice IsLoop ss m x pos r h)
      (λ v x r h. each_twice (λ u. turns u ≡ v) ss m x pos r h)
      (λ x y p q h.
      let h' : Related (Related SameTurns c) b x y = related_split SameTurns b c x y (subst (λ bs. Related SameTurns bs x y) (members_add (length ss) m (length ss + m) (λ a. is_in (suc (k + a)) (depends_on K)) refl) h) in
      let twice : Related (Related (Related SameTurns c) b) b (tiled ss x) (tiled ss y) = tiled_below (Related SameTurns c) b ss x y pos lb p q (length_members (length ss) _) (length_members (length ss) _) h' in
      subst (λ bs. Related SameTurns bs (tiled ss x) (tiled ss y)) (sym (deep_flags m K))
      (related_join SameTurns b (b ++ c) (tiled ss x) (tiled ss y)
      (related_more (Related (Related SameTurns c) b) (Related SameTurns (b ++ c)) b (tiled ss x) (tiled ss y) (λ u v r. related_join SameTurns b c u v r) twice)))

  -- ---- all

  pub tile_part : HasKinds (settled (take k (map (moved (positions_below k (tile ss))) ks) ++ kinds.tiled k ss (drop k (map (moved (positions_below k (tile ss))) ks)))) (at_depth k (tiled ss) t)
  tile_part = part_has (tile ss) k ks (kinds.tiled k ss (drop k (map (moved (positions_below k (tile ss))) ks))) (tiled ss) t has (omega arith) (λ p z q. tile_low k ss p (omega (arith, q))) (λ j l. by j l (split_at (length ss) j))
    where
      all : length (drop k (map (moved (positions_below k (tile ss))) ks)) ≡ length ks - k
      all = let e : length (map (moved (positions_below k (tile ss))) ks) ≡ length ks = length_kinds (moved (positions_below k (tile ss))) ks in omega (arith, length-drop k (map (moved (positions_below k (tile ss))) ks))

      many : length ss ≤ length (drop k (map (moved (positions_below k (tile ss))) ks))
      many = omega (arith, all)

      old : (j : ℕ) → kind_at (drop k (map (moved (positions_below k (tile ss))) ks)) j ≡ moved (positions_below k (tile ss)) (kind_at ks (k + j))
      old j = kind_drop k (map (moved (positions_below k (tile ss))) ks) j (k + j) refl ∙ kind_map (moved (positions_below k (tile ss))) ks (k + j) refl

      after : (j i : ℕ) → j ≡ length ss + i → kind_at (kinds.tiled k ss (drop k (map (moved (positions_below k (tile ss))) ks))) j ≡ kind_at (tile_kinds (k + 1) (drop k (map (moved (positions_below k (tile ss))) ks)) ss ++ drop (length ss) (drop k (map (moved (positions_below k (tile ss))) ks))) i
      after j i e = grid_after (drop k (map (moved (positions_below k (tile ss))) ks)) ss (tile_kinds (k + 1) (drop k (map (moved (positions_below k (tile ss))) ks)) ss ++ drop (length ss) (drop k (map (moved (positions_below k (tile ss))) ks))) j i e many

      total : length (kinds.tiled k ss (drop k (map (moved (positions_below k (tile ss))) ks))) ≡ length ss + (length ss + (length ks - k - length ss))
      total =
          let a : length (grid_kinds (drop k (map (moved (positions_below k (tile ss))) ks)) ss) ≡ length ss = length_grids (drop k (map (moved (positions_below k (tile ss))) ks)) ss many in
          let b : length (tile_kinds (k + 1) (drop k (map (moved (positions_below k (tile ss))) ks)) ss) ≡ length ss = length_tiles (k + 1) (drop k (map (moved (positions_below k (tile ss))) ks)) ss many in
          let c : length (drop (length ss) (drop k (map (moved (positions_below k (tile ss))) ks))) ≡ length (drop k (map (moved (positions_below k (tile ss))) ks)) - length ss = length-drop (length ss) (drop k (map (moved (positions_below k (tile ss))) ks)) in
          let d : length (tile_kinds (k + 1) (drop k (map (moved (positions_below k (tile ss))) ks)) ss ++ drop (length ss) (drop k (map (moved (positions_below k (tile ss))) ks))) ≡ length (tile_kinds (k + 1) (drop k (map (moved (positions_below k (tile ss))) ks)) ss) + length (drop (length ss) (drop k (map (moved (positions_below k (tile ss))) ks)))
          = length-append (tile_kinds (k + 1) (drop k (map (moved (positions_below k (tile ss))) ks)) ss) (drop (length ss) (drop k (map (moved (positions_below k (tile ss))) ks))) in
          let e : length (kinds.tiled k ss (drop k (map (moved (positions_below k (tile ss))) ks))) ≡ length (grid_kinds (drop k (map (moved (positions_below k (tile ss))) ks)) ss) + length (tile_kinds (k + 1) (drop k (map (moved (positions_below k (tile ss))) ks)) ss ++ drop (length ss) (drop k (map (moved (positions_below k (tile ss))) ks)))
          = length-append (grid_kinds (drop k (map (moved (positions_below k (tile ss))) ks)) ss) (tile_kinds (k + 1) (drop k (map (moved (positions_below k (tile ss))) ks)) ss ++ drop (length ss) (drop k (map (moved (positions_below k (tile ss))) ks))) in
          omega (arith, all)

      further : (j i : ℕ) → j ≡ length ss + i → j < length (kinds.tiled k ss (drop k (map (moved (positions_below k (tile ss))) ks))) → (i < length ss) ⊎ ((m : ℕ) × (i ≡ length ss + m)) → HasCount (kind_at (kinds.tiled k ss (drop k (map (moved (positions_below k (tile ss))) ks))) j) (k + j) (at_depth k (tiled ss) t)
      further j i e l (inl m) =
          subst (λ K. HasCount K (k + j) (at_depth k (tiled ss) t))
          (sym (after j i e ∙ (tile_kind_at (k + 1) (drop k (map (moved (positions_below k (tile ss))) ks)) ss (drop (length ss) (drop k (map (moved (positions_below k (tile ss))) ks))) i m many ∙ ap (λ K. tile_kind (k + 1 + i) K (get_or ss i 0)) (old i))))
          (subst (λ q. HasCount (tile_kind (k + 1 + i) (moved (positions_below k (tile ss)) (kind_at ks (k + i))) (get_or ss i 0)) (k + q) (at_depth k (tiled ss) t)) (sym e) (tile_count i m))
      further j i e l (inr (m, d)) =
          subst (λ K. HasCount K (k + j) (at_depth k (tiled ss) t))
          (sym (after j i e ∙ (tile_after (k + 1) (drop k (map (moved (positions_below k (tile ss))) ks)) ss (drop (length ss) (drop k (map (moved (positions_below k (tile ss))) ks))) i m d many ∙ (kind_drop (length ss) (drop k (map (moved (positions_below k (tile ss))) ks)) m (length ss + m) refl ∙ old (length ss + m)))))
          (subst (λ q. HasCount (moved (positions_below k (tile ss)) (kind_at ks (k + (length ss + m)))) (k + q) (at_depth k (tiled ss) t)) (sym (e ∙ ap (λ q. length ss + q) d)) (deep_count m (omega (arith, l, total, e, d, enough))))

      by : (j : ℕ) → j < length (kinds.tiled k ss (drop k (map (moved (positions_below k (tile ss))) ks))) → (j < length ss) ⊎ ((i : ℕ) × (j ≡ length ss + i)) → HasCount (kind_at (kinds.tiled k ss (drop k (map (moved (positions_below k (tile ss))) ks))) j) (k + j) (at_depth k (tiled ss) t)
      by j l (inl m) =
          subst (λ K. HasCount K (k + j) (at_depth k (tiled ss) t))
          (sym (grid_kind (drop k (map (moved (positions_below k (tile ss))) ks)) ss (tile_kinds (k + 1) (drop k (map (moved (positions_below k (tile ss))) ks)) ss ++ drop (length ss) (drop k (map (moved (positions_below k (tile ss))) ks))) j m many ∙ ap (λ K. chunk_kind K (get_or ss j 0)) (old j)))
          (grid_count j m)
      by j l (inr (i, e)) = further j i e l (split_at (length ss) i)
