-- A source loop has the kind that its bounds say, and what is below it keeps its kinds.
use Rattle.std.proofs.Common.{◌≡◌, refl, sym, ap, ◌∙◌, subst, ℕ, zero, suc, ◌+◌, ◌<◌, List, [], ◌∷◌, map, length, Option, Some, None, Result, Ok, Bool, true, false, ℤ, arith, ◌⊎◌, inl, inr}
use Rattle.std.specs.Prelude.{◌&&◌, if◌then◌else◌}
use Rattle.std.proofs.lemmas.Bool.{and_parts}
use Rattle.c_tree.specs.Bare.{Name, Expr, num, read, item, un, bin, cond, cast, Head}
use Rattle.c_tree.specs.declared.arithmetic.Trap.{Trap}
use Rattle.c_tree.specs.Arithmetic.{and_then, convert, un_type, bin_type, common, apply_un, apply_bin, is_zero, settles, unless_settled}
use Rattle.c_semantics.specs.Meaning.State.{State, look}
use Rattle.c_semantics.specs.Meaning.Expressions.{Define, is_define, only_constants, type_of, eval, name_type, scalar_value}
use Rattle.c_semantics.specs.Loops.CanonicalForm.{Canonical, canonical}
use Rattle.c_semantics.specs.Loops.TripCount.{Range, value_at, loop_type, count, entry}
use Rattle.c_semantics.specs.Loops.IterationTrees.{Tree, body, do_all, loop, Trees, no_trees, more_trees, to_list, loop_of, children, nth, members, put, put_all}
use Rattle.c_semantics.specs.Loops.Transformations.{as_one}
use Rattle.c_semantics.specs.Loops.Forest.{loop_over, enter}
use Rattle.c_semantics.specs.Structure.Skeleton.{source_count, range_count}
use Rattle.canonical_nests.specs.declared.nest.CountKind.{CountKind}
use Rattle.canonical_nests.specs.declared.nest.CountKind.TheVariants.{Entry}
use Rattle.canonical_nests.specs.Kinds.{Part, depends_on, moved, known_count, kind_at, same_kind}
use Rattle.canonical_nests.specs.Shapes.{source_kind, one_further_in, below_source}
use Rattle.canonical_nests.specs.LoopRules.Clauses.{is_in}
use Rattle.nest_counts.specs.HasKinds.{flags, IsLoop, turns, child, EachBelow, Related, SameTurns, HasCount, HasKinds}
use Rattle.nest_counts.specs.Plans.{Beside}
use Rattle.nest_counts.specs.Statements.{SaysAlike}
use Rattle.nest_counts.proofs.Built.{members_same, turns_loop, child_loop}
use Rattle.nest_counts.proofs.Places.{kind_map, length_kinds, known_moved, among_moved, ComesFrom}
use Rattle.nest_counts.proofs.TilePlaces.{one_of}

-- ---- constants

module _ (ds : List Define) (s u : State) (same : (x : Name) → is_define ds x ≡ true → look s x ≡ look u x) where
  type_same : (e : Expr) → only_constants ds e ≡ true → type_of ds s e ≡ type_of ds u e
  type_same (num k t) h = refl
  type_same (read x) h = ap (λ c. name_type c ds x) (same x h)
  type_same (item x es) h = absurd (cc)
  type_same (un op a) h = ap (un_type op) (type_same a h)
  type_same (bin op a b) h =
      let ha : only_constants ds a ≡ true = (and_parts (only_constants ds a) (only_constants ds b) h).0 in
      let hb : only_constants ds b ≡ true = (and_parts (only_constants ds a) (only_constants ds b) h).1 in
      (λ i. bin_type op (type_same a ha i) (type_same b hb i))
  type_same (cond a b c) h =
      let bc : (only_constants ds b && only_constants ds c) ≡ true = (and_parts (only_constants ds a) (only_constants ds b && only_constants ds c) h).1 in
      let hb : only_constants ds b ≡ true = (and_parts (only_constants ds b) (only_constants ds c) bc).0 in
      let hc : only_constants ds c ≡ true = (and_parts (only_constants ds b) (only_constants ds c) bc).1 in
      (λ i. common (type_same b hb i) (type_same c hc i))
  type_same (cast t a) h = refl

  value_same : (e : Expr) → only_constants ds e ≡ true → eval ds s e ≡ eval ds u e
  value_same (num k t) h = refl
  value_same (read x) h = ap (λ c. scalar_value c ds x) (same x h)
  value_same (item x es) h = absurd (cc)
  value_same (un op a) h = (λ i. and_then (value_same a h i) (apply_un op (type_same a h i)))
  value_same (bin op a b) h =
      let ha : only_constants ds a ≡ true = (and_parts (only_constants ds a) (only_constants ds b) h).0 in
      let hb : only_constants ds b ≡ true = (and_parts (only_constants ds a) (only_constants ds b) h).1 in
      (λ i. and_then (value_same a ha i) (λ x. unless_settled (settles op x) (value_same b hb i) (apply_bin op (common (type_same a ha i) (type_same b hb i)) x)))
  value_same (cond a b c) h =
      let ha : only_constants ds a ≡ true = (and_parts (only_constants ds a) (only_constants ds b && only_constants ds c) h).0 in
      let bc : (only_constants ds b && only_constants ds c) ≡ true = (and_parts (only_constants ds a) (only_constants ds b && only_constants ds c) h).1 in
      let hb : only_constants ds b ≡ true = (and_parts (only_constants ds b) (only_constants ds c) bc).0 in
      let hc : only_constants ds c ≡ true = (and_parts (only_constants ds b) (only_constants ds c) bc).1 in
      (λ i. and_then (value_same a ha i) (λ x. if is_zero x then value_same c hc i else value_same b hb i))
  value_same (cast t a) h = (λ i. and_then (value_same a h i) (convert t))

  entry_same : (c : Canonical) → only_constants ds c.lb ≡ true → only_constants ds c.ub ≡ true → loop_type ds s c ≡ loop_type ds u c → entry ds s c ≡ entry ds u c
  entry_same c hl hu ty =
      (λ i. and_then (value_same c.lb hl i) (λ z. and_then (convert (ty i) z) (λ lb.
      and_then (value_same c.ub hu i) (λ z. and_then (convert (ty i) z) (λ ub.
      and_then (count c.test c.step lb ub) (λ n.
      Ok (record { var = c.var; ty = ty i; from = lb; step = c.step; count = n })))))))

-- a known count is the one with which the loop is entered
pub source_known : (ds : List Define) (scope s : State) (h : Head) (r : Range) (v : ℕ) → SaysAlike ds scope s h → enter ds s (canonical ds h) ≡ Ok r → known_count (source_kind ds scope h) ≡ Some v → r.count ≡ v
source_known ds scope s h r v alike e k = by (canonical ds h) refl e k
  where
    count_kind : (o : Option ℕ) → known_count (same_kind Entry o) ≡ o
    count_kind None = refl
    count_kind (Some n) = refl

    counted : (a : Result Range Trap) → a ≡ Ok r → range_count a ≡ Some v → r.count ≡ v
    counted a e k = let f : Some r.count ≡ Some v = sym (ap range_count e) ∙ k in cc

    by : (o : Option Canonical) → canonical ds h ≡ o → enter ds s o ≡ Ok r → known_count (same_kind Entry (source_count ds scope o)) ≡ Some v → r.count ≡ v
    by None d e k = absurd (cc)
    by (Some c) d e k = bounds (only_constants ds c.lb) (only_constants ds c.ub) refl refl (sym (count_kind (source_count ds scope (Some c))) ∙ k)
      where
        bounds : (a b : Bool) → only_constants ds c.lb ≡ a → only_constants ds c.ub ≡ b → (if a && b then range_count (entry ds scope c) else None) ≡ Some v → r.count ≡ v
        bounds true true p q k = counted (entry ds scope c) (entry_same ds scope s alike.defines c p q (alike.types c d) ∙ e) k
        bounds true false p q k = absurd (cc)
        bounds false b p q k = absurd (cc)

-- ---- a value more

put_list : (z : ℤ) (ts : Trees) → to_list (put_all z ts) ≡ map (put z) (to_list ts)
put_list z no_trees = refl
put_list z (more_trees t ts) = ap (λ us. put z t ∷ us) (put_list z ts)

put_children : (z : ℤ) (t : Tree) → children (put z t) ≡ map (put z) (children t)
put_children z (body b vs) = refl
put_children z (do_all ts) = put_list z ts
put_children z (loop ts) = put_list z ts

length_put : (z : ℤ) (ts : List Tree) → length (map (put z) ts) ≡ length ts
length_put z [] = refl
length_put z (t ∷ ts) = ap (λ n. suc n) (length_put z ts)

nth_put : (z : ℤ) (ts : List Tree) (i : ℕ) → i < length ts → nth i (map (put z) ts) ≡ put z (nth i ts)
nth_put z [] i l = absurd (omega arith)
nth_put z (t ∷ ts) zero l = refl
nth_put z (t ∷ ts) (suc i) l = nth_put z ts i (omega arith)

pub put_turns : (z : ℤ) (t : Tree) → turns (put z t) ≡ turns t
put_turns z t = ap length (put_children z t) ∙ length_put z (children t)

put_child : (z : ℤ) (t : Tree) (i : ℕ) → i < turns t → child (put z t) i ≡ put z (child t i)
put_child z t i l = ap (λ ts. nth i ts) (put_children z t) ∙ nth_put z (children t) i l

put_loop : (z : ℤ) (t : Tree) → IsLoop t → IsLoop (put z t)
put_loop z (body b vs) h = absurd h
put_loop z (do_all ts) h = absurd h
put_loop z (loop ts) h = tt

pub each_put : (P : Tree → Type 0) (z : ℤ) (n : ℕ) (t : Tree) → ((u : Tree) → P u → P (put z u)) → EachBelow P n t → EachBelow P n (put z t)
each_put P z zero t kept h = kept t h
each_put P z (suc n) t kept h = λ i l.
    let l' : i < turns t = subst (λ w. i < w) (put_turns z t) l in
    subst (EachBelow P n) (sym (put_child z t i l')) (each_put P z n (child t i) kept (h i l'))

related_put : (z y : ℤ) (bs : List Bool) (t u : Tree) → Related SameTurns bs t u → Related SameTurns bs (put z t) (put y u)
related_put z y [] t u h = put_turns z t ∙ (h ∙ sym (put_turns y u))
related_put z y (b ∷ bs) t u h = (
  (λ is l m. put_turns z t ∙ (h.0 is (subst (λ w. 0 < w) (put_turns z t) l) (subst (λ w. 0 < w) (put_turns y u) m) ∙ sym (put_turns y u))),
  (λ i j l m e.
      let l' : i < turns t = subst (λ w. i < w) (put_turns z t) l in
      let m' : j < turns u = subst (λ w. j < w) (put_turns y u) m in
      subst (λ x. Related SameTurns bs x (child (put y u) j)) (sym (put_child z t i l'))
      (subst (Related SameTurns bs (put z (child t i))) (sym (put_child y u j m')) (related_put z y bs (child t i) (child u j) (h.1 i j l' m' e)))),
)

-- ---- the loop

further_from : (p : ℕ) → ComesFrom (λ r. (r + 1) ∷ []) (suc p) p
further_from p r = one_of (suc p) (r + 1) p r (λ s. omega arith) (λ s. omega arith)

-- what a list of statements gives, where its kinds are known
abbrev pub Gives : List Part → List Tree → Type 0
Gives ps ts = (ps ≡ []) ⊎ Beside HasKinds ps ts

further_has : (ks : Part) (K : CountKind) (r : Range) (t : Tree) → HasKinds ks t → ((v : ℕ) → known_count K ≡ Some v → r.count ≡ v)
    → HasKinds (K ∷ one_further_in ks) (loop_of (members r.count (λ k. put (value_at r k) t)))
further_has ks K r t h known zero l = record {
  loops = tt;
  known = λ v e. turns_loop r.count (λ k. put (value_at r k) t) ∙ known v e;
  same = refl;
}
further_has ks K r t h known (suc m) l =
    let f : ℕ → Tree = λ k. put (value_at r k) t in
    let L : CountKind = kind_at ks m in
    let M : CountKind = moved (λ p. (p + 1) ∷ []) L in
    let l' : m < length ks = let e : length (map (moved (λ p. (p + 1) ∷ [])) ks) ≡ length ks = length_kinds (moved (λ p. (p + 1) ∷ [])) ks in omega arith in
    let h' : HasCount L m t = h m l' in
    subst (λ N. HasCount N (suc m) (loop_of (members r.count f))) (sym (kind_map (moved (λ p. (p + 1) ∷ [])) ks m refl)) (record {
      loops = λ i x. within IsLoop m i f x (each_put IsLoop (value_at r i) m t (put_loop (value_at r i)) h'.loops);
      known = λ v e i x. within (λ u. turns u ≡ v) m i f x (each_put (λ u. turns u ≡ v) (value_at r i) m t (λ u q. put_turns (value_at r i) u ∙ q) (h'.known v (sym (known_moved (λ p. (p + 1) ∷ []) L) ∙ e)));
      same = (
        (λ is x y. refl),
        (λ i j x y e.
            let x' : i < r.count = subst (λ w. i < w) (turns_loop r.count f) x in
            let y' : j < r.count = subst (λ w. j < w) (turns_loop r.count f) y in
            subst (λ a. Related SameTurns (members m (λ p. is_in (suc (suc p)) (depends_on M))) a (child (loop_of (members r.count f)) j)) (sym (child_loop r.count i f x'))
            (subst (Related SameTurns (members m (λ p. is_in (suc (suc p)) (depends_on M))) (f i)) (sym (child_loop r.count j f y'))
            (subst (λ bs. Related SameTurns bs (f i) (f j))
            (sym (members_same m (λ p. is_in (suc (suc p)) (depends_on M)) (λ p. is_in (suc p) (depends_on L)) (λ p q. among_moved (λ p. (p + 1) ∷ []) (suc (suc p)) (suc p) L (further_from (suc p)))))
            (related_put (value_at r i) (value_at r j) (flags m (depends_on L)) t t h'.same)))),
      );
    })
  where
    within : (P : Tree → Type 0) (m i : ℕ) (f : ℕ → Tree) → i < turns (loop_of (members r.count f)) → EachBelow P m (f i) → EachBelow P m (child (loop_of (members r.count f)) i)
    within P m i f x q = subst (EachBelow P m) (sym (child_loop r.count i f (subst (λ w. i < w) (turns_loop r.count f) x))) q

-- a source loop round what is in its body
pub source_has : (K : CountKind) (r : Range) (ps : List Part) (ts : List Tree) → ((v : ℕ) → known_count K ≡ Some v → r.count ≡ v) → Gives ps ts
    → Beside HasKinds ((K ∷ below_source ps) ∷ []) (loop_over r ts)
source_has K r [] ts known g = (further_has [] K r (as_one ts) (λ n l. absurd (omega arith)) known, tt)
source_has K r (ks ∷ p ∷ ps) ts known g = (further_has [] K r (as_one ts) (λ n l. absurd (omega arith)) known, tt)
source_has K r (ks ∷ []) ts known (inl e) = absurd (cc)
source_has K r (ks ∷ []) ts known (inr b) = one ts b
  where
    one : (ts : List Tree) → Beside HasKinds (ks ∷ []) ts → Beside HasKinds ((K ∷ one_further_in ks) ∷ []) (loop_over r ts)
    one [] b = absurd b
    one (t ∷ []) b = (further_has ks K r t b.0 known, tt)
    one (t ∷ u ∷ ts) b = absurd b.1
