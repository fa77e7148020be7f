-- Names in their order: the search for one, and entering and leaving them.
use Rattle.std.proofs.Common.{◌≡◌, ◌∙◌, sym, ap, refl, ℕ, zero, suc, ◌+◌, ◌-◌, ◌<◌, ◌≤◌, true, false, Bor, List, [], ◌∷◌, ◌++◌, length, take, drop, reverse, map, arith}
use Rattle.std.proofs.lemmas.List.{length-reverse, length-drop, reverse-append, take-append-drop, take_all, take_more, map-append}
use Rattle.std.proofs.Math.Seq.{drop-append_seam}
use Rattle.std.specs.Prelude.{bytes_eq, if◌then◌else◌, slice_index_or}
use Rattle.c_tree.specs.Bare.{Name}
use Rattle.c_semantics.specs.Meaning.FileVariables.{has_name}
use Rattle.c_semantics.specs.Meaning.State.{keep}
use Rattle.loop_counts.proofs.Lookups.{map_reverse_more}

abbrev seen : Bor Name → Name
seen n = n.now

abbrev names_in : List (Bor Name) → ℕ → List Name
names_in ns k = map seen (reverse (take k ns))

before : (ns : List (Bor Name)) (left : ℕ) (n : Bor Name) → 0 < left → left ≤ length ns → n ≡ slice_index_or ns (left - 1) n → names_in ns left ≡ n.now ∷ names_in ns (left - 1)
before ns left n above le is =
    let lt : left - 1 < length ns = omega arith in
    let e : left - 1 + 1 ≡ left = omega arith in
    ap (names_in ns) (sym e)
    ∙ (ap (λ ys. map seen (reverse ys)) (take_more ns (left - 1) n lt ∙ ap (λ w. take (left - 1) ns ++ w ∷ []) (sym is))
    ∙ map_reverse_more seen (take (left - 1) ns) n)

pub there : (ns : List (Bor Name)) (x : Name) (left : ℕ) (n : Bor Name) → 0 < left → left ≤ length ns → n ≡ slice_index_or ns (left - 1) n → bytes_eq x n.now ≡ true
    → has_name (map (λ m. m.now) (reverse (take left ns))) x ≡ true
there ns x left n above le is hit =
    ap (λ ys. has_name ys x) (before ns left n above le is) ∙ ap (λ b. if b then true else has_name (names_in ns (left - 1)) x) hit

pub further : (ns : List (Bor Name)) (x : Name) (left : ℕ) (n : Bor Name) → 0 < left → left ≤ length ns → n ≡ slice_index_or ns (left - 1) n → bytes_eq x n.now ≡ false
    → has_name (map (λ m. m.now) (reverse (take left ns))) x ≡ has_name (map (λ m. m.now) (reverse (take (left - 1) ns))) x
further ns x left n above le is miss =
    ap (λ ys. has_name ys x) (before ns left n above le is) ∙ ap (λ b. if b then true else has_name (names_in ns (left - 1)) x) miss

pub whole : (ns : List (Bor Name)) (x : Name) (left : ℕ) → left ≡ length ns → has_name (map (λ m. m.now) (reverse (take left ns))) x ≡ has_name (map (λ m. m.now) (reverse ns)) x
whole ns x left e = ap (λ ys. has_name (map seen (reverse ys)) x) (ap (λ n. take n ns) e ∙ take_all (length ns) ns (omega arith))

pub nothing_left : (ns : List (Bor Name)) (x : Name) (left : ℕ) → left ≤ 0 → has_name (map (λ m. m.now) (reverse (take left ns))) x ≡ false
nothing_left ns x zero le = refl
nothing_left ns x (suc left) le = absurd (omega (arith, le))

pub ruleset rounds = (there, further, whole, nothing_left)

-- ---- changes

seen_length : (ns : List (Bor Name)) → length (map seen ns) ≡ length ns
seen_length [] = refl
seen_length (n ∷ ns) = ap suc (seen_length ns)

pub entered : (ns : List (Bor Name)) (n : Bor Name) → map (λ m. m.now) (reverse (ns ++ n ∷ [])) ≡ n.now ∷ map (λ m. m.now) (reverse ns)
entered ns n = map_reverse_more seen ns n

pub round_length : (ns : List (Bor Name)) → length (map (λ m. m.now) (reverse ns)) ≡ length ns
round_length ns = omega (arith, seen_length (reverse ns), length-reverse ns)

pub round_kept : (k : ℕ) (ns : List (Bor Name)) → map (λ m. m.now) (reverse (take k ns)) ≡ keep k (map (λ m. m.now) (reverse ns))
round_kept k ns =
    let cut : reverse ns ≡ reverse (drop k ns) ++ reverse (take k ns) = ap reverse (sym (take-append-drop k ns)) ∙ reverse-append (take k ns) (drop k ns) in
    let all : map seen (reverse ns) ≡ map seen (reverse (drop k ns)) ++ map seen (reverse (take k ns)) = ap (map seen) cut ∙ map-append seen (reverse (drop k ns)) (reverse (take k ns)) in
    let over : length (map seen (reverse ns)) - k ≡ length (map seen (reverse (drop k ns))) =
    omega (arith, seen_length (reverse ns), seen_length (reverse (drop k ns)), length-reverse ns, length-reverse (drop k ns), length-drop k ns) in
    sym (ap (λ n. drop n (map seen (reverse ns))) over ∙ (ap (drop (length (map seen (reverse (drop k ns))))) all ∙ drop-append_seam (map seen (reverse (drop k ns))) (map seen (reverse (take k ns)))))

pub kept_within : (k : ℕ) (ns : List (Bor Name)) → map (λ m. m.now) (reverse (take (k - 0) ns)) ≡ keep k (map (λ m. m.now) (reverse ns))
kept_within k ns = let e : k - 0 ≡ k = omega arith in ap (λ n. map seen (reverse (take n ns))) e ∙ round_kept k ns

pub kept_all : (k : ℕ) (ns : List (Bor Name)) → length ns ≤ k → map (λ m. m.now) (reverse ns) ≡ keep k (map (λ m. m.now) (reverse ns))
kept_all k ns le = ap (λ ys. map seen (reverse ys)) (sym (take_all k ns le)) ∙ round_kept k ns

pub ruleset changes = (entered, round_length, round_kept, kept_within, kept_all)
