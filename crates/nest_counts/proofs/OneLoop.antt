-- Transformations of one loop: reverse, split and unroll.
use Rattle.std.proofs.Common.{◌≡◌, refl, sym, ap, ◌∙◌, subst, ℕ, zero, suc, ◌+◌, ◌-◌, ◌<◌, ◌≤◌, List, [], ◌∷◌, ◌++◌, map, length, take, drop, Some, arith, length-drop, ◌*◌}
use Rattle.c_semantics.specs.Loops.IterationTrees.{Tree, do_of, children, members, at_depth}
use Rattle.c_semantics.specs.Loops.Transformations.{Transformation, div_up, unrolled}
use Rattle.canonical_nests.specs.declared.nest.CountKind.{CountKind}
use Rattle.canonical_nests.specs.declared.nest.CountKind.TheVariants.{Known, Entry, Depends}
use Rattle.canonical_nests.specs.Kinds.{Part, depends_on, moved, known_count, settled, kind_at, positions_below, chunk_kind}
use Rattle.canonical_nests.specs.LoopRules.Clauses.{is_in}
use Rattle.nest_counts.specs.HasKinds.{flags, IsLoop, turns, Related, SameTurns, HasCount, HasKinds}
use Rattle.nest_counts.proofs.Built.{turns_loop}
use Rattle.nest_counts.proofs.Places.{kind_map, kind_drop, known_moved, flags_moved, ComesFrom, later_flags, among_moved, length_kinds}
use Rattle.nest_counts.proofs.Built.{members_same}
use Rattle.nest_counts.proofs.Kept.{part_has, count_moved, count_changed, each_any}
use Rattle.nest_counts.proofs.Selected.{Selects, each_selected, related_selected}

-- the loops are where they were
abbrev pub Stays : (ℕ → List ℕ) → Type 0
Stays f = (p : ℕ) → 0 < p → ComesFrom f p p

later_moved : (g : ℕ → List ℕ) (k j : ℕ) (K : CountKind) → Stays g → later_flags k j (depends_on (moved g K)) ≡ later_flags k j (depends_on K)
later_moved g k j K stays =
    members_same j (λ i. is_in (suc (k + i)) (depends_on (moved g K))) (λ i. is_in (suc (k + i)) (depends_on K))
    (λ i l. among_moved g (suc (k + i)) (suc (k + i)) K (stays (suc (k + i)) (omega arith)))

lengths : (a k : ℕ) (g : CountKind → CountKind) (ks : Part) → length (drop a (drop k (map g ks))) ≡ length ks - k - a
lengths a k g ks = let e : length (map g ks) ≡ length ks = length_kinds g ks in omega (arith, length-drop a (drop k (map g ks)), length-drop k (map g ks))

-- a loop that takes some of the turns, round what was below
pub selected_part : (c : Transformation) (k : ℕ) (ks : Part) (f : Tree → Tree) (s : Selects f) (L : CountKind) (t : Tree) → HasKinds ks t → k < length ks
    → Stays (positions_below k c) → flags k (depends_on L) ≡ flags k (depends_on (kind_at ks k))
    → ((v : ℕ) → known_count L ≡ Some v → (w : ℕ) × ((known_count (kind_at ks k) ≡ Some w) × (s.many w ≡ v)))
    → HasKinds (settled (take k (map (moved (positions_below k c)) ks) ++ (L ∷ drop 1 (drop k (map (moved (positions_below k c)) ks))))) (at_depth k f t)
selected_part c k ks f s L t h l stays deps known =
    part_has c k ks (L ∷ drop 1 (drop k (map (moved (positions_below k c)) ks))) f t h (omega arith) (λ p z q. stays p z) new
  where
    new : (j : ℕ) → j < length (L ∷ drop 1 (drop k (map (moved (positions_below k c)) ks))) → HasCount (kind_at (L ∷ drop 1 (drop k (map (moved (positions_below k c)) ks))) j) (k + j) (at_depth k f t)
    new zero m = count_changed (kind_at ks k) L f k t s.many (h k l) deps s.is_loop s.takes_many known
    new (suc j) m =
        let many : length (drop 1 (drop k (map (moved (positions_below k c)) ks))) ≡ length ks - k - 1 = lengths 1 k (moved (positions_below k c)) ks in
        let K : CountKind = kind_at ks (k + suc j) in
        subst (λ M. HasCount M (k + suc j) (at_depth k f t))
        (sym (kind_drop 1 (drop k (map (moved (positions_below k c)) ks)) j (suc j) (let e : suc j ≡ 1 + j = omega arith in e)
        ∙ (kind_drop k (map (moved (positions_below k c)) ks) (suc j) (k + suc j) refl ∙ kind_map (moved (positions_below k c)) ks (k + suc j) refl)))
        (count_moved K (moved (positions_below k c) K) f k (suc j) (suc j) (k + suc j) (k + suc j) t (λ x. Unit {0}) refl refl (h (k + suc j) (omega (arith, m, many, l)))
        (each_any (λ x. Unit {0}) k t (λ x. tt))
        (known_moved (positions_below k c) K) (flags_moved (positions_below k c) k K (λ p z q. stays p z))
        (λ x q r. each_selected f s IsLoop j x r)
        (λ v x q r. each_selected f s (λ u. turns u ≡ v) j x r)
        (λ x y q r e. subst (λ bs. Related SameTurns bs (f x) (f y)) (sym (later_moved (positions_below k c) k (suc j) K stays))
        (related_selected f s SameTurns (is_in (suc (k + 0)) (depends_on K)) (members j (λ i. is_in (suc (k + suc i)) (depends_on K))) x y e)))

-- a loop of chunks, below which the part ends
pub chunked_part : (c : Transformation) (s : ℕ) (k : ℕ) (ks : Part) (t : Tree) → HasKinds ks t → k < length ks → Stays (positions_below k c)
    → HasKinds (settled (take k (map (moved (positions_below k c)) ks) ++ (chunk_kind (kind_at (drop k (map (moved (positions_below k c)) ks)) 0) s ∷ []))) (at_depth k (unrolled s) t)
chunked_part c s k ks t h l stays =
    part_has c k ks (chunk_kind (kind_at (drop k (map (moved (positions_below k c)) ks)) 0) s ∷ []) (unrolled s) t h (omega arith) (λ p z q. stays p z) new
  where
    old : kind_at (drop k (map (moved (positions_below k c)) ks)) 0 ≡ moved (positions_below k c) (kind_at ks k)
    old = kind_drop k (map (moved (positions_below k c)) ks) 0 k (let e : k ≡ k + 0 = omega arith in e) ∙ kind_map (moved (positions_below k c)) ks k refl

    chunk_deps : (K : CountKind) → depends_on (chunk_kind K s) ≡ depends_on K
    chunk_deps (Known v) = refl
    chunk_deps Entry = refl
    chunk_deps (Depends ps) = refl

    chunk_known : (K : CountKind) (v : ℕ) → known_count (chunk_kind K s) ≡ Some v → (w : ℕ) × ((known_count K ≡ Some w) × (div_up w s ≡ v))
    chunk_known (Known w) v e = (w, (refl, let i : div_up w s ≡ v = cc in i))
    chunk_known Entry v e = absurd (cc)
    chunk_known (Depends ps) v e = absurd (cc)

    count : HasCount (chunk_kind (moved (positions_below k c) (kind_at ks k)) s) (k + 0) (at_depth k (unrolled s) t)
    count =
        let K : CountKind = moved (positions_below k c) (kind_at ks k) in
        count_changed (kind_at ks k) (chunk_kind K s) (unrolled s) k t (λ w. div_up w s) (h k l)
        (ap (flags k) (chunk_deps K) ∙ flags_moved (positions_below k c) k (kind_at ks k) (λ p z q. stays p z))
        (λ x. tt)
        (λ x. turns_loop (div_up (turns x) s) (λ i. do_of (take s (drop (i * s) (children x)))))
        (λ v e. let q = chunk_known K v e in (q.0, (sym (known_moved (positions_below k c) (kind_at ks k)) ∙ q.1.0, q.1.1)))

    new : (j : ℕ) → j < 1 → HasCount (kind_at (chunk_kind (kind_at (drop k (map (moved (positions_below k c)) ks)) 0) s ∷ []) j) (k + j) (at_depth k (unrolled s) t)
    new zero m = subst (λ K. HasCount (chunk_kind K s) (k + 0) (at_depth k (unrolled s) t)) (sym old) count
    new (suc j) m = absurd (omega arith)

-- no loop is left
pub ended_part : (c : Transformation) (f : Tree → Tree) (k : ℕ) (ks : Part) (t : Tree) → HasKinds ks t → k ≤ length ks → Stays (positions_below k c)
    → HasKinds (settled (take k (map (moved (positions_below k c)) ks) ++ [])) (at_depth k f t)
ended_part c f k ks t h l stays = part_has c k ks [] f t h l (λ p z q. stays p z) (λ j m. absurd (omega arith))
