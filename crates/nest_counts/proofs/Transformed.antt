-- Each transformation makes parts that have the kinds that it makes.
use Rattle.std.proofs.Common.{◌≡◌, refl, sym, ap, ◌∙◌, subst, ℕ, zero, suc, ◌+◌, ◌-◌, ◌<◌, List, [], ◌∷◌, ◌++◌, map, length, take, drop, Option, Some, None, Bool, true, false, get_or, arith, length-drop}
use Rattle.std.specs.Prelude.{min, max}
use Rattle.std.proofs.lemmas.List.{get_or-map, length-map}
use Rattle.c_semantics.specs.Loops.IterationTrees.{Tree, do_of, children, nth, at_depth}
use Rattle.c_semantics.specs.Loops.Transformations.{Transformation, tile, interchange, reverse_, split, fuse, unroll_full, unroll_partial, transform, split_up, fused, fuse_some, longest, ith_children, tiled, interchanged, unrolled}
use Rattle.c_semantics.specs.Structure.Parts.{split_counts, all_known, and_known, greatest}
use Rattle.canonical_nests.specs.declared.nest.CountKind.{CountKind}
use Rattle.canonical_nests.specs.declared.nest.CountKind.TheVariants.{Entry}
use Rattle.canonical_nests.specs.Kinds as kinds
use Rattle.canonical_nests.specs.Kinds.{Part, no_part, depends_on, moved, known_count, settled, kind_at, positions_below, same_kind, split_kinds, part_kinds, transformed_kinds, fused_kind, fused_parts}
use Rattle.canonical_nests.specs.LoopRules.Clauses.{is_in}
use Rattle.nest_counts.specs.HasKinds.{flags, turns, HasKinds}
use Rattle.nest_counts.specs.Plans.{FindsParts, PartsHave, Beside}
use Rattle.nest_counts.proofs.Built.{turns_loop}
use Rattle.nest_counts.proofs.Places.{kind_drop, kind_map, known_moved, flags_moved}
use Rattle.nest_counts.proofs.Selected.{reverse_selects, reversed}
use Rattle.nest_counts.proofs.SplitParts.{split_selects, split_says, sizes_of, earlier, length_cut, length_filled, length_counts}
use Rattle.nest_counts.proofs.OneLoop.{Stays, selected_part, chunked_part, ended_part}
use Rattle.nest_counts.proofs.TilePart.{tile_part}
use Rattle.nest_counts.proofs.TilePlaces.{one_of}
use Rattle.nest_counts.proofs.InterchangePart.{interchange_part}
use Rattle.nest_counts.proofs.Depths.{at_compose}
use Rattle.std.proofs.lemmas.Bool.{leb-false}
use Rattle.std.specs.Prelude.{◌==◌, nat_le, if◌then◌else◌}

-- ---- transformations that leave loops at their places

stays_here : (k : ℕ) (p r : ℕ) → 0 < p → (b : Bool) → nat_le r k ≡ b → is_in p (if b then r ∷ [] else map (λ q. k + q) ((r - k) ∷ [])) ≡ (p == r)
stays_here k p r z true e = one_of p r p r (λ s. s) (λ s. s)
stays_here k p r z false e = let far : k < r = leb-false r k e in one_of p (k + (r - k)) p r (λ s. omega arith) (λ s. omega arith)

reverse_stays : (k : ℕ) → Stays (positions_below k reverse_)
reverse_stays k p z r = stays_here k p r z (nat_le r k) refl

split_stays : (cs : List (Option ℕ)) (k : ℕ) → Stays (positions_below k (split cs))
split_stays cs k p z r = stays_here k p r z (nat_le r k) refl

full_stays : (k : ℕ) → Stays (positions_below k unroll_full)
full_stays k p z r = stays_here k p r z (nat_le r k) refl

partial_stays : (s k : ℕ) → Stays (positions_below k (unroll_partial s))
partial_stays s k p z r = stays_here k p r z (nat_le r k) refl

-- ---- one part

-- a function of the first part, at its depth
one_has : (q : Part) (k : ℕ) (f : Tree → List Tree) (g : Tree → Tree) (t : Tree) → HasKinds q (at_depth k g (at_depth k (λ u. nth 0 (f u)) t)) → PartsHave (q ∷ []) k (λ u. g (nth 0 (f u)) ∷ []) t
one_has q k f g t h = record { many = λ u. refl; each = each }
  where
    each : (j : ℕ) → j < 1 → HasKinds (get_or (q ∷ []) j no_part) (at_depth k (λ u. nth j (g (nth 0 (f u)) ∷ [])) t)
    each zero l = subst (HasKinds q) (at_compose k g (λ u. nth 0 (f u)) t) h
    each (suc j) l = absurd (omega arith)

reverse_has : (k : ℕ) (ks : Part) (t : Tree) → HasKinds ks t → k < length ks → HasKinds (settled (take k (map (moved (positions_below k reverse_)) ks) ++ drop k (map (moved (positions_below k reverse_)) ks))) (at_depth k reversed t)
reverse_has k ks t h l =
    subst (λ below. HasKinds (settled (take k (map (moved (positions_below k reverse_)) ks) ++ below)) (at_depth k reversed t)) (sym (head_tail (drop k (map (moved (positions_below k reverse_)) ks)) some))
    (selected_part reverse_ k ks reversed reverse_selects (kind_at (drop k (map (moved (positions_below k reverse_)) ks)) 0) t h l (reverse_stays k)
    (ap (λ K. flags k (depends_on K)) first ∙ flags_moved (positions_below k reverse_) k (kind_at ks k) (λ p z q. reverse_stays k p z))
    (λ v e. (v, (sym (known_moved (positions_below k reverse_) (kind_at ks k)) ∙ (ap known_count (sym first) ∙ e), refl))))
  where
    head_tail : (cs : Part) → 0 < length cs → cs ≡ kind_at cs 0 ∷ drop 1 cs
    head_tail [] l = absurd (omega arith)
    head_tail (c ∷ cs) l = refl

    some : 0 < length (drop k (map (moved (positions_below k reverse_)) ks))
    some = omega (arith, length-drop k (map (moved (positions_below k reverse_)) ks), length-map ks (moved (positions_below k reverse_)))

    first : kind_at (drop k (map (moved (positions_below k reverse_)) ks)) 0 ≡ moved (positions_below k reverse_) (kind_at ks k)
    first = kind_drop k (map (moved (positions_below k reverse_)) ks) 0 k (let e : k ≡ k + 0 = omega arith in e) ∙ kind_map (moved (positions_below k reverse_)) ks k refl

-- ---- the parts of split

split_part : (cs : List (Option ℕ)) (k : ℕ) (ks : Part) (t : Tree) → HasKinds ks t → k < length ks → (j : ℕ) → j < length cs → HasKinds (get_or (part_kinds (split cs) k ks) j no_part) (at_depth k (λ u. nth j (split_up cs u)) t)
split_part cs k ks t h l j m =
    subst (λ q. HasKinds q (at_depth k (λ u. nth j (split_up cs u)) t)) (sym at)
    (selected_part (split cs) k ks (λ u. nth j (split_up cs u)) (split_selects cs j m) (same_kind (kind_at (drop k (map (moved (positions_below k (split cs))) ks)) 0) (get_or (split_counts (known_count (kind_at (drop k (map (moved (positions_below k (split cs))) ks)) 0)) cs) j None)) t h l (split_stays cs k)
    (ap (flags k) says.0 ∙ (ap (λ K. flags k (depends_on K)) first ∙ flags_moved (positions_below k (split cs)) k (kind_at ks k) (λ p z q. split_stays cs k p z)))
    (λ v e. let q = says.1 v e in (q.0, (sym (known_moved (positions_below k (split cs)) (kind_at ks k)) ∙ (ap known_count (sym first) ∙ q.1.0), q.1.1))))
  where
    first : kind_at (drop k (map (moved (positions_below k (split cs))) ks)) 0 ≡ moved (positions_below k (split cs)) (kind_at ks k)
    first = kind_drop k (map (moved (positions_below k (split cs))) ks) 0 k (let e : k ≡ k + 0 = omega arith in e) ∙ kind_map (moved (positions_below k (split cs))) ks k refl

    says : (depends_on (same_kind (kind_at (drop k (map (moved (positions_below k (split cs))) ks)) 0) (get_or (split_counts (known_count (kind_at (drop k (map (moved (positions_below k (split cs))) ks)) 0)) cs) j None)) ≡ depends_on (kind_at (drop k (map (moved (positions_below k (split cs))) ks)) 0))
        × ((v : ℕ) → known_count (same_kind (kind_at (drop k (map (moved (positions_below k (split cs))) ks)) 0) (get_or (split_counts (known_count (kind_at (drop k (map (moved (positions_below k (split cs))) ks)) 0)) cs) j None)) ≡ Some v
        → (w : ℕ) × ((known_count (kind_at (drop k (map (moved (positions_below k (split cs))) ks)) 0) ≡ Some w) × (min (get_or (sizes_of cs w) j 0) (w - earlier j (sizes_of cs w)) ≡ v)))
    says = split_says (kind_at (drop k (map (moved (positions_below k (split cs))) ks)) 0) cs j m

    K : CountKind
    K = kind_at (drop k (map (moved (positions_below k (split cs))) ks)) 0

    at : get_or (part_kinds (split cs) k ks) j no_part ≡ settled (take k (map (moved (positions_below k (split cs))) ks) ++ (same_kind (kind_at (drop k (map (moved (positions_below k (split cs))) ks)) 0) (get_or (split_counts (known_count (kind_at (drop k (map (moved (positions_below k (split cs))) ks)) 0)) cs) j None) ∷ drop 1 (drop k (map (moved (positions_below k (split cs))) ks))))
    at =
        let C : Part = drop k (map (moved (positions_below k (split cs))) ks) in
        let os : List (Option ℕ) = split_counts (known_count (kind_at C 0)) cs in
        let lo : length os ≡ length cs = length_counts (known_count (kind_at C 0)) cs in
        let ls : length (split_kinds (kind_at C 0) cs) ≡ length cs = length-map os (same_kind (kind_at C 0)) ∙ lo in
        let li : length (map (λ c. c ∷ drop 1 C) (split_kinds (kind_at C 0) cs)) ≡ length cs = length-map (split_kinds (kind_at C 0) cs) (λ c. c ∷ drop 1 C) ∙ ls in
        get_or-map (λ below. settled (take k (map (moved (positions_below k (split cs))) ks) ++ below)) (map (λ c. c ∷ drop 1 C) (split_kinds (kind_at C 0) cs)) j no_part no_part (omega arith)
        ∙ ap (λ below. settled (take k (map (moved (positions_below k (split cs))) ks) ++ below))
        (get_or-map (λ c. c ∷ drop 1 C) (split_kinds (kind_at C 0) cs) j Entry no_part (omega arith)
        ∙ ap (λ c. c ∷ drop 1 C) (get_or-map (same_kind (kind_at C 0)) os j None Entry (omega arith)))

length_split : (cs : List (Option ℕ)) (k : ℕ) (ks : Part) → length (part_kinds (split cs) k ks) ≡ length cs
length_split cs k ks =
    let C : Part = drop k (map (moved (positions_below k (split cs))) ks) in
    let os : List (Option ℕ) = split_counts (known_count (kind_at C 0)) cs in
    length-map (map (λ c. c ∷ drop 1 C) (split_kinds (kind_at C 0) cs)) (λ below. settled (take k (map (moved (positions_below k (split cs))) ks) ++ below))
    ∙ (length-map (split_kinds (kind_at C 0) cs) (λ c. c ∷ drop 1 C) ∙ (length-map os (same_kind (kind_at C 0)) ∙ length_counts (known_count (kind_at C 0)) cs))

split_has : (cs : List (Option ℕ)) (k : ℕ) (ks : Part) (f : Tree → List Tree) (t : Tree) → HasKinds ks (at_depth k (λ u. nth 0 (f u)) t) → k < length ks → PartsHave (part_kinds (split cs) k ks) k (λ u. split_up cs (nth 0 (f u))) t
split_has cs k ks f t h l = record {
  many = λ u. length_cut (sizes_of cs (turns (nth 0 (f u)))) (children (nth 0 (f u))) ∙ (length_filled _ cs ∙ sym (length_split cs k ks));
  each = λ j m.
      subst (HasKinds (get_or (part_kinds (split cs) k ks) j no_part)) (at_compose k (λ u. nth j (split_up cs u)) (λ u. nth 0 (f u)) t)
      (split_part cs k ks (at_depth k (λ u. nth 0 (f u)) t) h l j (let e : length (part_kinds (split cs) k ks) ≡ length cs = length_split cs k ks in omega arith));
}

-- ---- fuse

longest_known : (ps : List Part) (ts : List Tree) (cs : List ℕ) → length ts ≡ length ps → ((j : ℕ) → j < length ps → HasKinds (get_or ps j no_part) (nth j ts))
    → all_known (map (λ ks. known_count (kind_at ks 0)) ps) ≡ Some cs → longest ts ≡ greatest cs
longest_known [] [] cs e h a = ap greatest (let s : [] ≡ cs = cc in s)
longest_known [] (t ∷ ts) cs e h a = absurd (omega arith)
longest_known (p ∷ ps) [] cs e h a = absurd (omega arith)
longest_known (p ∷ ps) (t ∷ ts) cs e h a = first (known_count (kind_at p 0)) refl a (λ ds d. longest_known ps ts ds (omega arith) (λ j l. h (suc j) (omega (arith, l))) d)
  where
    turns_are : (c : ℕ) → known_count (kind_at p 0) ≡ Some c → turns t ≡ c
    turns_are c k = (h 0 (omega arith) 0 (not_empty p c k)).known c k
      where
        not_empty : (p : Part) (c : ℕ) → known_count (kind_at p 0) ≡ Some c → 0 < length p
        not_empty [] c k = absurd (cc)
        not_empty (x ∷ p) c k = omega arith

    first : (o : Option ℕ) → known_count (kind_at p 0) ≡ o → all_known (o ∷ map (λ ks. known_count (kind_at ks 0)) ps) ≡ Some cs
        → ((ds : List ℕ) → all_known (map (λ ks. known_count (kind_at ks 0)) ps) ≡ Some ds → longest ts ≡ greatest ds) → max (turns t) (longest ts) ≡ greatest cs
    first None k a rest = absurd (cc)
    first (Some c) k a rest = second (all_known (map (λ ks. known_count (kind_at ks 0)) ps)) refl a
      where
        second : (r : Option (List ℕ)) → all_known (map (λ ks. known_count (kind_at ks 0)) ps) ≡ r → and_known c r ≡ Some cs → max (turns t) (longest ts) ≡ greatest cs
        second None d a = absurd (cc)
        second (Some ds) d a = (λ i. max (turns_are c k i) (rest ds d i)) ∙ ap greatest (let s : c ∷ ds ≡ cs = cc in s)

fused_has : (ps : List Part) (ts : List Tree) → length ts ≡ length ps → ((j : ℕ) → j < length ps → HasKinds (get_or ps j no_part) (nth j ts))
    → HasKinds (fused_kind (all_known (map (λ ks. known_count (kind_at ks 0)) ps)) ∷ []) (fused ts)
fused_has ps ts e h = by (all_known (map (λ ks. known_count (kind_at ks 0)) ps)) refl
  where
    wide : turns (fused ts) ≡ longest ts
    wide = turns_loop (longest ts) (λ i. do_of (ith_children i ts))

    by : (o : Option (List ℕ)) → all_known (map (λ ks. known_count (kind_at ks 0)) ps) ≡ o → HasKinds (fused_kind o ∷ []) (fused ts)
    by None a zero l = record { loops = tt; known = λ v k. absurd (cc); same = refl }
    by None a (suc n) l = absurd (omega arith)
    by (Some cs) a zero l = record { loops = tt; known = λ v k. wide ∙ (longest_known ps ts cs e h a ∙ (let s : greatest cs ≡ v = cc in s)); same = refl }
    by (Some cs) a (suc n) l = absurd (omega arith)

-- ---- parts and trees side by side

pub beside : (R : Part → Tree → Type 0) (ps : List Part) (ts : List Tree) → length ts ≡ length ps → ((j : ℕ) → j < length ps → R (get_or ps j no_part) (nth j ts)) → Beside R ps ts
beside R [] [] e h = tt
beside R [] (t ∷ ts) e h = absurd (omega arith)
beside R (p ∷ ps) [] e h = absurd (omega arith)
beside R (p ∷ ps) (t ∷ ts) e h = (h 0 (omega arith), beside R ps ts (omega arith) (λ j l. h (suc j) (omega (arith, l))))

pub beside_at : (R : Part → Tree → Type 0) (ps : List Part) (ts : List Tree) → Beside R ps ts → (j : ℕ) → j < length ps → R (get_or ps j no_part) (nth j ts)
beside_at R [] ts h j l = absurd (omega arith)
beside_at R (p ∷ ps) [] h j l = absurd h
beside_at R (p ∷ ps) (t ∷ ts) h zero l = h.0
beside_at R (p ∷ ps) (t ∷ ts) h (suc j) l = beside_at R ps ts h.1 j (omega arith)

pub beside_length : (R : Part → Tree → Type 0) (ps : List Part) (ts : List Tree) → Beside R ps ts → length ts ≡ length ps
beside_length R [] [] h = refl
beside_length R [] (t ∷ ts) h = absurd h
beside_length R (p ∷ ps) [] h = absurd h
beside_length R (p ∷ ps) (t ∷ ts) h = ap (λ n. suc n) (beside_length R ps ts h.1)

pub beside_take : (R : Part → Tree → Type 0) (n : ℕ) (ps : List Part) (ts : List Tree) → Beside R ps ts → Beside R (take n ps) (take n ts)
beside_take R zero ps ts h = tt
beside_take R (suc n) [] [] h = tt
beside_take R (suc n) [] (t ∷ ts) h = absurd h
beside_take R (suc n) (p ∷ ps) [] h = absurd h
beside_take R (suc n) (p ∷ ps) (t ∷ ts) h = (h.0, beside_take R n ps ts h.1)

pub beside_drop : (R : Part → Tree → Type 0) (n : ℕ) (ps : List Part) (ts : List Tree) → Beside R ps ts → Beside R (drop n ps) (drop n ts)
beside_drop R zero ps ts h = h
beside_drop R (suc n) [] [] h = tt
beside_drop R (suc n) [] (t ∷ ts) h = absurd h
beside_drop R (suc n) (p ∷ ps) [] h = absurd h
beside_drop R (suc n) (p ∷ ps) (t ∷ ts) h = beside_drop R n ps ts h.1

pub beside_append : (R : Part → Tree → Type 0) (ps qs : List Part) (ts us : List Tree) → Beside R ps ts → Beside R qs us → Beside R (ps ++ qs) (ts ++ us)
beside_append R [] qs [] us h k = k
beside_append R [] qs (t ∷ ts) us h k = absurd h
beside_append R (p ∷ ps) qs [] us h k = absurd h
beside_append R (p ∷ ps) qs (t ∷ ts) us h k = (h.0, beside_append R ps qs ts us h.1 k)

fused_beside : (ps : List Part) (ts : List Tree) → Beside HasKinds ps ts → HasKinds (fused_kind (all_known (map (λ ks. known_count (kind_at ks 0)) ps)) ∷ []) (fused ts)
fused_beside ps ts h = fused_has ps ts (beside_length HasKinds ps ts h) (beside_at HasKinds ps ts h)

fuse_beside : (R : Part → Tree → Type 0) (r : Option (ℕ × ℕ)) (ps : List Part) (ts : List Tree)
    → ((qs : List Part) (us : List Tree) → Beside R qs us → R (fused_kind (all_known (map (λ ks. known_count (kind_at ks 0)) qs)) ∷ []) (fused us))
    → Beside R ps ts → Beside R (fused_parts r ps) (fuse_some r ts)
fuse_beside R None ps ts f h = (f ps ts h, tt)
fuse_beside R (Some r) ps ts f h =
    beside_append R (take (r.0 - 1) ps) (kinds.fused (take r.1 (drop (r.0 - 1) ps)) ∷ drop (r.0 - 1 + r.1) ps) (take (r.0 - 1) ts) (fused (take r.1 (drop (r.0 - 1) ts)) ∷ drop (r.0 - 1 + r.1) ts)
    (beside_take R (r.0 - 1) ps ts h)
    (f (take r.1 (drop (r.0 - 1) ps)) (take r.1 (drop (r.0 - 1) ts)) (beside_take R r.1 (drop (r.0 - 1) ps) (drop (r.0 - 1) ts) (beside_drop R (r.0 - 1) ps ts h)), beside_drop R (r.0 - 1 + r.1) ps ts h)

fuse_has : (r : Option (ℕ × ℕ)) (k : ℕ) (ps : List Part) (f : Tree → List Tree) (t : Tree) → PartsHave ps k f t → k ≡ 0 → PartsHave (fused_parts r ps) k (λ u. fuse_some r (f u)) t
fuse_has r k ps f t h e = subst (λ i. PartsHave (fused_parts r ps) i (λ u. fuse_some r (f u)) t) (sym e) (record { many = many; each = each })
  where
    many : (u : Tree) → length (fuse_some r (f u)) ≡ length (fused_parts r ps)
    many u = beside_length (λ p x. Unit {0}) (fused_parts r ps) (fuse_some r (f u)) (fuse_beside (λ p x. Unit {0}) r ps (f u) (λ qs us q. tt) (beside (λ p x. Unit {0}) ps (f u) (h.many u) (λ j l. tt)))

    old : (j : ℕ) → j < length ps → HasKinds (get_or ps j no_part) (nth j (f t))
    old j l = subst (λ i. HasKinds (get_or ps j no_part) (at_depth i (λ u. nth j (f u)) t)) e (h.each j l)

    each : (j : ℕ) → j < length (fused_parts r ps) → HasKinds (get_or (fused_parts r ps) j no_part) (at_depth 0 (λ u. nth j (fuse_some r (f u))) t)
    each j l = beside_at HasKinds (fused_parts r ps) (fuse_some r (f t)) (fuse_beside HasKinds r ps (f t) fused_beside (beside HasKinds ps (f t) (h.many t) old)) j l

-- ---- all

pub transformed_has : (c : Transformation) (k : ℕ) (ps : List Part) (f : Tree → List Tree) (t : Tree) → PartsHave ps k f t → FindsParts c k ps → PartsHave (transformed_kinds c k ps) k (λ u. transform c (f u)) t
transformed_has (tile ss) k ps f t h finds =
    one_has _ k f (tiled ss) t (tile_part k ss (get_or ps 0 no_part) (at_depth k (λ u. nth 0 (f u)) t) (h.each 0 finds.0) finds.1.1 finds.1.0 finds.1.2)
transformed_has (interchange qs) k ps f t h finds =
    one_has _ k f (interchanged qs) t (interchange_part k qs (get_or ps 0 no_part) (at_depth k (λ u. nth 0 (f u)) t) (h.each 0 finds.0) finds.1.1 finds.1.0 finds.1.2)
transformed_has reverse_ k ps f t h finds =
    one_has _ k f reversed t (reverse_has k (get_or ps 0 no_part) (at_depth k (λ u. nth 0 (f u)) t) (h.each 0 finds.0) finds.1)
transformed_has (split cs) k ps f t h finds = split_has cs k (get_or ps 0 no_part) f t (h.each 0 finds.0) finds.1
transformed_has (fuse r) k ps f t h finds = fuse_has r k ps f t h finds
transformed_has unroll_full k ps f t h finds =
    one_has _ k f (λ u. do_of (children u)) t (ended_part unroll_full (λ u. do_of (children u)) k (get_or ps 0 no_part) (at_depth k (λ u. nth 0 (f u)) t) (h.each 0 finds.0) (let l : k < length (get_or ps 0 no_part) = finds.1 in omega arith) (full_stays k))
transformed_has (unroll_partial s) k ps f t h finds =
    one_has _ k f (unrolled s) t (chunked_part (unroll_partial s) s k (get_or ps 0 no_part) (at_depth k (λ u. nth 0 (f u)) t) (h.each 0 finds.0) finds.1 (partial_stays s k))
