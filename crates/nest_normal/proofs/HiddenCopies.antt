-- A variable below another one of its name makes no difference.
use Rattle.std.proofs.Common.{◌≡◌, refl, sym, ap, ◌∙◌, subst, ℕ, suc, ◌-◌, ◌≤◌, List, [], ◌∷◌, length, drop, Option, Some, None, Bool, true, false, ℤ, arith}
use Rattle.std.specs.Prelude.{bytes_eq, if◌then◌else◌}
use Rattle.std.proofs.lemmas.Bool.{both_ways}
use Rattle.std.proofs.lemmas.Slice.Eq.{bytes_eq-Decides}
use Rattle.c_tree.specs.Bare.{Name, block, Stmts}
use Rattle.c_tree.specs.declared.tree.Ty.{Ty}
use Rattle.c_semantics.specs.Meaning.State.{Cell, scalar, Var, State, find, write, or_else, look, store, write_at, push, keep, print_line, count_turn, with_frame}
use Rattle.c_semantics.specs.Meaning.FileVariables.{has_name}
use Rattle.c_semantics.specs.Meaning.Runs.{Run, leave}
use Rattle.c_semantics.specs.Meaning.SimpleStatements.{Function, Env, function_named, in_frame}
use Rattle.c_semantics.specs.Meaning.Statements.{exec_all}
use Rattle.c_semantics.specs.Loops.Execution.{push_copies}
use Rattle.c_semantics.specs.Laws.Apart.{Differ, Beside, here, there, BesideInFrame, RunsAlike}
use Rattle.c_semantics.specs.Laws.Names.{UsesAll}
use Rattle.c_semantics.proofs.Apart.{beside_local, find_beside, not_shorter, one_longer, write_beside}
use Rattle.c_semantics.proofs.FrameNames.{names, names-keep, length-names, SameNames}
use Rattle.c_semantics.proofs.Simulation.{Simulation, CalledAlike, list_alike}
use Rattle.c_semantics.proofs.Touches.{uses-touches}

-- the second list is the first with v in it, above the last k variables and below one of its name
data Under (v : Var) (k : ℕ) : List Var → List Var → Type 0 where
  hides : (w : Var) {l m : List Var} → w.name ≡ v.name → Beside v k l m → Under v k (w ∷ l) (w ∷ m)
  deeper : (w : Var) {l m : List Var} → Under v k l m → Under v k (w ∷ l) (w ∷ m)

abbrev pub var_names : List (Name × Ty) → List Name
var_names [] = []
var_names (x ∷ xs) = x.0 ∷ var_names xs

abbrev first_or : Name → List Name → Name
first_or x [] = x
first_or x (y ∷ ys) = y

abbrev others : List Name → List Name
others [] = []
others (y ∷ ys) = ys

module _ (v : Var) (k : ℕ) where
  beside : (l m : List Var) → Under v k l m → Beside v k l m
  beside l m (hides w e p) = there w p
  beside l m (deeper w {l = l'} {m = m'} p) = there w (beside l' m' p)

  find_under : (x : Name) (l m : List Var) → Under v k l m → find x m ≡ find x l
  find_under x l m (hides w {l = l'} {m = m'} e p) = by (bytes_eq x w.name) refl
    where
      by : (t : Bool) → bytes_eq x w.name ≡ t → (if t then Some w.cell else find x m') ≡ (if t then Some w.cell else find x l')
      by true q = refl
      by false q = find_beside v k x (subst (λ y. bytes_eq x y ≡ false) e q) l' m' p
  find_under x l m (deeper w {l = l'} {m = m'} p) = ap (λ o. if bytes_eq x w.name then Some w.cell else o) (find_under x l' m' p)

  write_under : (x : Name) (c : Cell) (l m : List Var) → Under v k l m → Under v k (write x c l) (write x c m)
  write_under x c l m (hides w {l = l'} {m = m'} e p) = by (bytes_eq x w.name) refl
    where
      by : (t : Bool) → bytes_eq x w.name ≡ t → Under v k (if t then record { name = w.name; cell = c } ∷ l' else w ∷ write x c l') (if t then record { name = w.name; cell = c } ∷ m' else w ∷ write x c m')
      by true q = hides _ e p
      by false q = hides w e (write_beside v k x c (subst (λ y. bytes_eq x y ≡ false) e q) l' m' p)
  write_under x c l m (deeper w {l = l'} {m = m'} p) = by (write_under x c l' m' p) (bytes_eq x w.name)
    where
      by : Under v k (write x c l') (write x c m') → (t : Bool) → Under v k (if t then record { name = w.name; cell = c } ∷ l' else w ∷ write x c l') (if t then record { name = w.name; cell = c } ∷ m' else w ∷ write x c m')
      by q true = deeper _ p
      by q false = deeper w q

  long_enough : (l m : List Var) → Under v k l m → suc k ≤ length l
  long_enough l m (hides w {l = l'} {m = m'} e p) = let q = not_shorter v k l' m' p in omega (arith, q)
  long_enough l m (deeper w {l = l'} {m = m'} p) = let q = long_enough l' m' p in omega (arith, q)

  -- where it stands so in a list of the same names
  same_place : (l m : List Var) → Under v k l m → (a b : List Var) → names a ≡ names l → length a ≡ length l → Beside v k a b → Under v k a b
  same_place l m u a b n e (here c q) = let d = long_enough l m u in absurd (omega (arith, d, e, q))
  same_place l m (hides w {l = l'} {m = m'} h p) a b n e (there x {l = a'} {m = b'} q) = hides x (ap (first_or x.name) n ∙ h) q
  same_place l m (deeper w {l = l'} {m = m'} p) a b n e (there x {l = a'} {m = b'} q) = deeper x (same_place l' m' p a' b' (ap others n) (omega (arith, e)) q)

  abbrev HiddenInFrame : State → State → Type 0
  HiddenInFrame s t = (m : List Var) × Under v k s.frame m × (t ≡ with_frame m s)

  in_frame_beside : (s t : State) → HiddenInFrame s t → BesideInFrame v k s t
  in_frame_beside s t p = (p.0, beside s.frame p.0 p.1, p.2)

  abbrev Hides : List Name → State → State → Type 0
  Hides h = HiddenInFrame

  abbrev AnyName : List Name → Name → Type 0
  AnyName h x = Unit {0}

  same_step : (f : State → State) → ((s : State) (m : List Var) → Under v k s.frame m → HiddenInFrame (f s) (f (with_frame m s))) → (s t : State) → HiddenInFrame s t → HiddenInFrame (f s) (f t)
  same_step f h s t p = subst (λ u. HiddenInFrame (f s) (f u)) (sym p.2) (h s p.0 p.1)

  stored_hidden : (x : Name) (c : Cell) (s : State) (m : List Var) → Under v k s.frame m → HiddenInFrame (store x c s) (store x c (with_frame m s))
  stored_hidden x c s m p = subst (λ o. HiddenInFrame (store x c s) (write_at o x c (with_frame m s))) (sym (find_under x s.frame m p)) (by (find x s.frame))
    where
      by : (o : Option Cell) → HiddenInFrame (write_at o x c s) (write_at o x c (with_frame m s))
      by None = (m, p, refl)
      by (Some d) = (write x c m, write_under x c s.frame m p, refl)

  left_hidden : (s t u w : State) → HiddenInFrame s t → HiddenInFrame u w → SameNames s u → HiddenInFrame (with_frame (keep (length s.frame) u.frame) u) (with_frame (keep (length t.frame) w.frame) w)
  left_hidden s t u w p q n =
      let r = (beside_local v k).left [] s t u w (in_frame_beside s t p) (in_frame_beside u w q) n in
      let kept = keep (length s.frame) u.frame in
      let same : names kept ≡ names s.frame = names-keep s u n in
      (r.0, same_place s.frame p.0 p.1 kept r.0 same (sym (length-names kept) ∙ ap length same ∙ length-names s.frame) r.1, r.2)

  hidden_local : Simulation Hides AnyName
  hidden_local = record {
    looks = λ b s t p x h. ap (λ u. look u x) p.2 ∙ ap (λ o. or_else o (find x s.globals)) (find_under x s.frame p.0 p.1);
    inputs = λ b s t p. ap (λ u. u.input) p.2;
    stored = λ b x c h. same_step (store x c) (stored_hidden x c);
    pushed = λ b x c. same_step (push x c) (λ s m p. (record { name = x; cell = c } ∷ m, deeper _ p, refl));
    outer = λ b x s t p. p;
    said = λ b z. same_step (print_line z) (λ s m p. (m, p, refl));
    ticked = λ b. same_step count_turn (λ s m p. (m, p, refl));
    taken = λ b. same_step _ (λ s m p. (m, p, refl));
    left = λ b. left_hidden;
  }

  called_hidden : (f : Option Function) → CalledAlike Hides AnyName hidden_local f
  called_hidden None = tt
  called_hidden (Some f) = λ h vs g s t p. subst (λ t'. RunsAlike HiddenInFrame (in_frame vs f.run s) (in_frame vs f.run t')) (sym p.2) ((p.0, p.1, refl), refl)

  -- private copies, one of which has its name
  copies_under : (xs : List (Name × Ty)) (zs : List ℤ) (s t : State) → HiddenInFrame s t → HiddenInFrame (push_copies xs zs s) (push_copies xs zs t)
  copies_under [] zs s t p = p
  copies_under (x ∷ xs) [] s t p = copies_under xs [] _ _ (hidden_local.pushed [] x.0 (scalar x.1 None) s t p)
  copies_under (x ∷ xs) (z ∷ zs) s t p = copies_under xs zs _ _ (hidden_local.pushed [] x.0 (scalar x.1 (Some z)) s t p)

  hidden_by : (x : Name) (c : Cell) (s t : State) → BesideInFrame v k s t → x ≡ v.name → HiddenInFrame (push x c s) (push x c t)
  hidden_by x c s t p e = (record { name = x; cell = c } ∷ p.0, hides _ e p.1, ap (push x c) p.2)

  hide_more : (x : Name × Ty) (xs : List (Name × Ty)) (s t : State) → BesideInFrame v k s t →
      ((zs : List ℤ) (s t : State) → BesideInFrame v k s t → has_name (var_names xs) v.name ≡ true → HiddenInFrame (push_copies xs zs s) (push_copies xs zs t)) →
      (b : Bool) → bytes_eq v.name x.0 ≡ b → (if b then true else has_name (var_names xs) v.name) ≡ true → (zs : List ℤ) → HiddenInFrame (push_copies (x ∷ xs) zs s) (push_copies (x ∷ xs) zs t)
  hide_more x xs s t p later true q h [] = copies_under xs [] _ _ (hidden_by x.0 (scalar x.1 None) s t p (sym ((bytes_eq-Decides v.name x.0).0 q)))
  hide_more x xs s t p later true q h (z ∷ zs) = copies_under xs zs _ _ (hidden_by x.0 (scalar x.1 (Some z)) s t p (sym ((bytes_eq-Decides v.name x.0).0 q)))
  hide_more x xs s t p later false q h [] = later [] _ _ ((beside_local v k).pushed [] x.0 (scalar x.1 None) s t p) h
  hide_more x xs s t p later false q h (z ∷ zs) = later zs _ _ ((beside_local v k).pushed [] x.0 (scalar x.1 (Some z)) s t p) h

  copies_hide : (xs : List (Name × Ty)) (zs : List ℤ) (s t : State) → BesideInFrame v k s t → has_name (var_names xs) v.name ≡ true → HiddenInFrame (push_copies xs zs s) (push_copies xs zs t)
  copies_hide [] zs s t p h = absurd (both_ways false refl h)
  copies_hide (x ∷ xs) zs s t p h = hide_more x xs s t p (copies_hide xs) (bytes_eq v.name x.0) refl h zs

  -- the last k variables are the same
  keep_same : (l m : List Var) → Beside v k l m → keep k m ≡ keep k l
  keep_same l m (here b e) =
      let one : suc (length b) - k ≡ 1 = omega (arith, e) in
      let none : length b - k ≡ 0 = omega (arith, e) in
      ap (λ i. drop i (v ∷ b)) one ∙ sym (ap (λ i. drop i b) none)
  keep_same l m (there w {l = l'} {m = m'} p) =
      let low = not_shorter v k l' m' p in
      let more = one_longer v k l' m' p in
      let up : suc (length m') - k ≡ suc (length m' - k) = omega (arith, low, more) in
      let down : suc (length l') - k ≡ suc (length l' - k) = omega (arith, low) in
      ap (λ i. drop i (w ∷ m')) up ∙ keep_same l' m' p ∙ sym (ap (λ i. drop i (w ∷ l')) down)

-- statements run alike with and without a variable that one of the copies hides
pub hidden_gone : (n : ℕ) (env : Env) (as' : Stmts) (o : Name) → UsesAll (λ y. Differ y o) (λ f. Unit {0}) as' →
    (v : Var) (xs : List (Name × Ty)) (zs : List ℤ) (u : State) → has_name (var_names xs) v.name ≡ true →
    leave u (exec_all n env as' (push_copies xs zs (with_frame (v ∷ u.frame) u))) ≡ leave u (exec_all n env as' (push_copies xs zs u))
hidden_gone n env as' o uses v xs zs u h =
    let k = length u.frame in
    let start : BesideInFrame v k u (with_frame (v ∷ u.frame) u) = (v ∷ u.frame, here u.frame refl, refl) in
    let s = push_copies xs zs u in
    let t = push_copies xs zs (with_frame (v ∷ u.frame) u) in
    let copies = copies_hide v k xs zs u (with_frame (v ∷ u.frame) u) start h in
    let r = exec_all n env as' s in
    let r' = exec_all n env as' t in
    let touches = uses-touches (λ y. Differ y o) env.defines (AnyName v k) _ (λ f. Unit {0}) (λ h y d. tt) (λ f t. called_hidden v k (function_named f env.functions)) [] (block as') uses in
    let runs = list_alike (Hides v k) (AnyName v k) (hidden_local v k) n env [] as' touches s t copies in
    let same = keep_same v k r.state.frame runs.0.0 (beside v k r.state.frame runs.0.0 runs.0.1) in
    ap {B = Run} (λ x. record { state = with_frame (keep k x.frame) x; end = r'.end }) runs.0.2
    ∙ ap {B = Run} (λ l. record { state = with_frame l r.state; end = r'.end }) same
    ∙ ap {B = Run} (λ e. record { state = with_frame (keep k r.state.frame) r.state; end = e }) runs.1
