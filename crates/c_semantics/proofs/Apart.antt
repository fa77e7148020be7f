-- A variable that isn't named makes no difference: in the innermost frame, and in the file.
use Rattle.std.proofs.Common.{◌≡◌, refl, sym, ap, ◌∙◌, subst, ℕ, zero, suc, ◌+◌, ◌-◌, ◌≤◌, ◌⊎◌, inl, inr, List, [], ◌∷◌, length, drop, Option, Some, None, Bool, true, false, arith}
use Rattle.std.specs.Prelude.{bytes_eq, if◌then◌else◌}
use Rattle.std.proofs.lemmas.Bool.{both_ways}
use Rattle.std.proofs.lemmas.Slice.Eq.{bytes_eq-Decides}
use Rattle.c_tree.specs.Bare.{Name, Stmt}
use Rattle.c_semantics.specs.Meaning.State.{Cell, Var, State, find, write, or_else, look, store, write_at, push, keep, print_line, count_turn, with_frame, with_globals}
use Rattle.c_semantics.specs.Meaning.SimpleStatements.{rest_of, Function, Env, function_named, call_end, in_frame}
use Rattle.c_semantics.specs.Meaning.Statements.{exec}
use Rattle.c_semantics.specs.Laws.Names.{Uses}
use Rattle.c_semantics.specs.Laws.Apart.{Differ, Beside, here, there, BesideInFrame, BesideInFile, Alike, FunctionAlike, RunsAlike, RunsWithoutLocal, RunsWithoutGlobal}
use Rattle.c_semantics.specs.Meaning.FileVariables.{has_name, param_names}
use Rattle.c_semantics.proofs.Grows.{length_write}
use Rattle.c_semantics.proofs.FrameNames.{names, names-write, names-keep}
use Rattle.c_semantics.proofs.ScopeNames.{more_names, outer_name}
use Rattle.c_semantics.proofs.Touches.{uses-touches}
use Rattle.c_semantics.proofs.Simulation.{Simulation, CalledAlike, exec_alike}

-- a name that a frame has is found in it
find-names : (x : Name) (l : List Var) → has_name (names l) x ≡ true → (c : Cell) × (find x l ≡ Some c)
find-names x [] e = absurd (both_ways false refl e)
find-names x (w ∷ l) e = by (bytes_eq x w.name) (find-names x l) e
  where
    by : (b : Bool) → (has_name (names l) x ≡ true → (c : Cell) × (find x l ≡ Some c)) → (if b then true else has_name (names l) x) ≡ true → (c : Cell) × ((if b then Some w.cell else find x l) ≡ Some c)
    by true f e = (w.cell, refl)
    by false f e = f e

abbrev take_one : State → State
take_one s = record s { input = rest_of s.input }

module _ (v : Var) (k : ℕ) where
  pub find_beside : (x : Name) → Differ x v.name → (l m : List Var) → Beside v k l m → find x m ≡ find x l
  find_beside x h l m (here b e) = ap (λ t. if t then Some v.cell else find x b) h
  find_beside x h l m (there w {l = l'} {m = m'} p) = ap (λ o. if bytes_eq x w.name then Some w.cell else o) (find_beside x h l' m' p)

  pub write_beside : (x : Name) (c : Cell) → Differ x v.name → (l m : List Var) → Beside v k l m → Beside v k (write x c l) (write x c m)
  write_beside x c h l m (here b e) =
      subst (λ t. Beside v k (write x c b) (if t then record { name = v.name; cell = c } ∷ b else v ∷ write x c b)) (sym h) (here (write x c b) (length_write x c b ∙ e))
  write_beside x c h l m (there w {l = l'} {m = m'} p) = by (write_beside x c h l' m' p) (bytes_eq x w.name)
    where
      by : Beside v k (write x c l') (write x c m') → (t : Bool) → Beside v k (if t then record { name = w.name; cell = c } ∷ l' else w ∷ write x c l') (if t then record { name = w.name; cell = c } ∷ m' else w ∷ write x c m')
      by q true = there _ p
      by q false = there w q

  pub one_longer : (l m : List Var) → Beside v k l m → length m ≡ suc (length l)
  one_longer l m (here b e) = refl
  one_longer l m (there w {l = l'} {m = m'} p) = ap suc (one_longer l' m' p)

  pub not_shorter : (l m : List Var) → Beside v k l m → k ≤ length l
  not_shorter l m (here b e) = omega (arith, e)
  not_shorter l m (there w {l = l'} {m = m'} p) = let q = not_shorter l' m' p in omega (arith, q)

  drop_beside : (c : ℕ) (l m : List Var) → Beside v k l m → c + k ≤ length l → Beside v k (drop c l) (drop c m)
  drop_beside zero l m p h = p
  drop_beside (suc c) l m (here b e) h = absurd (omega (arith, e, h))
  drop_beside (suc c) l m (there w {l = l'} {m = m'} p) h = drop_beside c l' m' p (omega (arith, h))

  keep_beside : (l m l' m' : List Var) → Beside v k l m → Beside v k l' m' → Beside v k (keep (length l) l') (keep (length m) m')
  keep_beside l m l' m' p q =
      let same : length m' - length m ≡ length l' - length l = omega (arith, one_longer l m p, one_longer l' m' q) in
      subst (λ c. Beside v k (keep (length l) l') (drop c m')) (sym same)
      (drop_beside (length l' - length l) l' m' q (omega (arith, not_shorter l m p, not_shorter l' m' q)))

  -- ---- in the innermost frame

  abbrev Local : List Name → State → State → Type 0
  Local h = BesideInFrame v k

  stored_local : (x : Name) (c : Cell) → Differ x v.name → (s : State) (m : List Var) → Beside v k s.frame m → BesideInFrame v k (store x c s) (store x c (with_frame m s))
  stored_local x c h s m p = subst (λ o. BesideInFrame v k (store x c s) (write_at o x c (with_frame m s))) (sym (find_beside x h s.frame m p)) (by (find x s.frame))
    where
      by : (o : Option Cell) → BesideInFrame v k (write_at o x c s) (write_at o x c (with_frame m s))
      by None = (m, p, refl)
      by (Some d) = (write x c m, write_beside x c h s.frame m p, refl)

  -- a step that does the same to both
  same_step : (f : State → State) → ((s : State) (m : List Var) → Beside v k s.frame m → BesideInFrame v k (f s) (f (with_frame m s))) → (s t : State) → BesideInFrame v k s t → BesideInFrame v k (f s) (f t)
  same_step f h s t p = subst (λ u. BesideInFrame v k (f s) (f u)) (sym p.2) (h s p.0 p.1)

  pub beside_local : Simulation Local (λ h x. Differ x v.name)
  beside_local = record {
    looks = λ b s t p x h. ap (λ u. look u x) p.2 ∙ ap (λ o. or_else o (find x s.globals)) (find_beside x h s.frame p.0 p.1);
    inputs = λ b s t p. ap (λ u. u.input) p.2;
    stored = λ b x c h. same_step (store x c) (stored_local x c h);
    pushed = λ b x c. same_step (push x c) (λ s m p. (record { name = x; cell = c } ∷ m, there _ p, refl));
    outer = λ b x s t p. p;
    said = λ b z. same_step (print_line z) (λ s m p. (m, p, refl));
    ticked = λ b. same_step count_turn (λ s m p. (m, p, refl));
    taken = λ b. same_step _ (λ s m p. (m, p, refl));
    left = λ b s t u w p q n.
        subst (λ t'. BesideInFrame v k (with_frame (keep (length s.frame) u.frame) u) (with_frame (keep (length t'.frame) w.frame) w)) (sym p.2)
        (subst (λ w'. BesideInFrame v k (with_frame (keep (length s.frame) u.frame) u) (with_frame (keep (length p.0) w'.frame) w')) (sym q.2)
        (keep (length p.0) q.0, keep_beside s.frame p.0 u.frame q.0 p.1 q.1, refl));
  }

  -- a function doesn't see it
  pub called_local : (f : Option Function) → CalledAlike Local (λ h x. Differ x v.name) beside_local f
  called_local None = tt
  called_local (Some f) = λ h vs g s t p. subst (λ t'. RunsAlike (BesideInFrame v k) (in_frame vs f.run s) (in_frame vs f.run t')) (sym p.2) ((p.0, p.1, refl), refl)

  -- ---- among the file's variables

  -- where a scope hides it, the frame has a variable of that name
  abbrev pub File : List Name → State → State → Type 0
  File h s t = BesideInFile v k s t × (has_name h v.name ≡ true → has_name (names s.frame) v.name ≡ true)

  -- hidden, or another name
  abbrev pub Seen : List Name → Name → Type 0
  Seen h x = (has_name h x ≡ true) ⊎ Differ x v.name

  file_step : (f : State → State) → ((s : State) (m : List Var) → Beside v k s.globals m → BesideInFile v k (f s) (f (with_globals m s))) → (s t : State) → BesideInFile v k s t → BesideInFile v k (f s) (f t)
  file_step f h s t p = subst (λ u. BesideInFile v k (f s) (f u)) (sym p.2) (h s p.0 p.1)

  -- a name that isn't v's is found alike; v's name, where it is hidden, is found in the frame
  seen_cases : (h : List Name) (x : Name) (s t : State) → File h s t → Seen h x → Differ x v.name ⊎ ((c : Cell) × (find x s.frame ≡ Some c))
  seen_cases h x s t p (inr d) = inl d
  seen_cases h x s t p (inl e) = by (bytes_eq x v.name) refl
    where
      by : (b : Bool) → bytes_eq x v.name ≡ b → Differ x v.name ⊎ ((c : Cell) × (find x s.frame ≡ Some c))
      by false d = inl d
      by true d =
          let same : x ≡ v.name = (bytes_eq-Decides x v.name).0 d in
          inr (subst (λ y. (c : Cell) × (find y s.frame ≡ Some c)) (sym same) (find-names v.name s.frame (p.1 (subst (λ y. has_name h y ≡ true) same e))))

  look_seen : (h : List Name) (s t : State) → File h s t → (x : Name) → Seen h x → look t x ≡ look s x
  look_seen h s t p x e = by (seen_cases h x s t p e)
    where
      by : Differ x v.name ⊎ ((c : Cell) × (find x s.frame ≡ Some c)) → look t x ≡ look s x
      by (inl d) = ap (λ u. look u x) p.0.2 ∙ ap (λ o. or_else (find x s.frame) o) (find_beside x d s.globals p.0.0 p.0.1)
      by (inr c) =
          ap (λ u. look u x) p.0.2 ∙ ap (λ o. or_else o (find x p.0.0)) c.1 ∙ sym (ap (λ o. or_else o (find x s.globals)) c.1)

  stored_file : (x : Name) (c : Cell) (s : State) (m : List Var) → Beside v k s.globals m → Differ x v.name ⊎ ((d : Cell) × (find x s.frame ≡ Some d)) → BesideInFile v k (store x c s) (store x c (with_globals m s))
  stored_file x c s m p (inl d) = by (find x s.frame)
    where
      by : (o : Option Cell) → BesideInFile v k (write_at o x c s) (write_at o x c (with_globals m s))
      by None = (write x c m, write_beside x c d s.globals m p, refl)
      by (Some e) = (m, p, refl)
  stored_file x c s m p (inr d) = subst (λ o. BesideInFile v k (write_at o x c s) (write_at o x c (with_globals m s))) (sym d.1) (m, p, refl)

  -- a store changes no name of the frame
  stored_names : (x y : Name) (c : Cell) (s : State) (o : Option Cell) → has_name (names s.frame) y ≡ true → has_name (names (write_at o x c s).frame) y ≡ true
  stored_names x y c s None e = e
  stored_names x y c s (Some d) e = subst (λ ns. has_name ns y ≡ true) (sym (names-write x c s.frame)) e

  pub beside_file : Simulation File Seen
  beside_file = record {
    looks = look_seen;
    inputs = λ b s t p. ap (λ u. u.input) p.0.2;
    stored = λ b x c h s t p. (
      subst (λ u. BesideInFile v k (store x c s) (store x c u)) (sym p.0.2) (stored_file x c s p.0.0 p.0.1 (seen_cases b x s t p h)),
      λ e. stored_names x v.name c s (find x s.frame) (p.1 e),
    );
    pushed = λ b x c s t p. (file_step (push x c) (λ s m q. (m, q, refl)) s t p.0, more_names v.name x b (names s.frame) p.1);
    outer = λ b x s t p. (p.0, λ e. p.1 (outer_name v.name x b e));
    said = λ b z s t p. (file_step (print_line z) (λ s m q. (m, q, refl)) s t p.0, p.1);
    ticked = λ b s t p. (file_step count_turn (λ s m q. (m, q, refl)) s t p.0, p.1);
    taken = λ b s t p. (file_step take_one (λ s m q. (m, q, refl)) s t p.0, p.1);
    left = λ b s t u w p q n. (
      subst (λ t'. BesideInFile v k (with_frame (keep (length s.frame) u.frame) u) (with_frame (keep (length t'.frame) w.frame) w)) (sym p.0.2)
          (subst (λ w'. BesideInFile v k (with_frame (keep (length s.frame) u.frame) u) (with_frame (keep (length s.frame) w'.frame) w')) (sym q.0.2) (q.0.0, q.0.1, refl)),
      λ e. subst (λ ns. has_name ns v.name ≡ true) (sym (names-keep s u n)) (p.1 e),
    );
  }

  abbrev pub CalledBeside : Option Function → Type 0
  CalledBeside = CalledAlike File Seen beside_file

  -- the caller's frame comes back
  in_caller : (vs : List Var) (s t u w : State) → BesideInFile v k s t → BesideInFile v k u w → BesideInFile v k (with_frame s.frame u) (with_frame t.frame w)
  in_caller vs s t u w p q =
      subst (λ t'. BesideInFile v k (with_frame s.frame u) (with_frame t'.frame w)) (sym p.2) (file_step (with_frame s.frame) (λ s m q. (m, q, refl)) u w q)

  pub called_file : (f : Option Function) → FunctionAlike (BesideInFile v k) f → CalledBeside f
  called_file None a = tt
  called_file (Some f) a = λ h vs g s t p. let r = a vs s t p.0 in ((r.0, p.1), r.1)

  -- a function whose body runs alike in the scope of its parameters
  pub called_body : (f : Function) → Alike (File (param_names f.params)) f.run f.run → CalledBeside (Some f)
  called_body f a = λ h vs g s t p.
      let r = a (with_frame vs s) (with_frame vs t) (file_step (with_frame vs) (λ s m q. (m, q, refl)) s t p.0, g v.name) in
      ((in_caller vs s t (f.run (with_frame vs s)).state (f.run (with_frame vs t)).state p.0 r.0.0, p.1), ap call_end r.1)

-- ---- the laws

pub without_local : RunsWithoutLocal
without_local n env v k a u =
    exec_alike (Local v k) (λ h x. Differ x v.name) (beside_local v k) n env [] a
    (uses-touches (λ y. Differ y v.name) env.defines _ _ _ (λ h y d. d) (λ f t. called_local v k (function_named f env.functions)) [] a u)

-- statements in a scope that hides nothing
pub without_file : (n : ℕ) (env : Env) (v : Var) (k : ℕ) (D : Name → Type 0) → ((f : Name) → D f → CalledBeside v k (function_named f env.functions)) →
    (a : Stmt) → Uses (λ y. Differ y v.name) D a → Alike (BesideInFile v k) (exec n env a) (exec n env a)
without_file n env v k D calls a u s t p =
    let r = exec_alike (File v k) (Seen v k) (beside_file v k) n env [] a (uses-touches (λ y. Differ y v.name) env.defines (Seen v k) _ D (λ h y d. inr d) calls [] a u) s t (p, λ e. absurd (false_true e)) in
    (r.0.0, r.1)
  where
    false_true : false ≡ true → ⊥
    false_true e = both_ways false refl e

pub without_global : RunsWithoutGlobal
without_global n env v k a u = without_file n env v k _ (λ f g. called_file v k (function_named f env.functions) g) a u
