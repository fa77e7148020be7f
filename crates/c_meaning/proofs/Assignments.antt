-- Declarations, assignments and input: what they come to where their values are known.
use Rattle.std.proofs.Common.{◌≡◌, ◌∙◌, ap, refl, ℕ, Bool, true, false, List, ◌∷◌, Some, None, Result, Ok, Err, ℤ}
use Rattle.std.proofs.lemmas.Slice.Eq.{bytes_eq-Decides}
use Rattle.std.specs.Prelude.{bytes_eq, if◌then◌else◌}
use Rattle.c_tree.specs.Bare.{Name, Expr, Exprs, target}
use Rattle.c_tree.specs.Arithmetic.{and_then, convert}
use Rattle.c_tree.specs.declared.arithmetic.Trap.{Trap}
use Rattle.c_tree.specs.declared.tree.Ty.{Ty}
use Rattle.c_tree.specs.declared.tree.SetOp.{SetOp}
use Rattle.c_semantics.specs.Meaning.State.{State, scalar, find, write, look, store, write_at, push, or_else, with_frame}
use Rattle.c_semantics.specs.Meaning.Expressions.{Define, eval, type_of}
use Rattle.c_semantics.specs.Meaning.Runs.{Run, Next, Trapped, ends, with_value}
use Rattle.c_semantics.specs.Meaning.SimpleStatements.{declared, set_to, take_input, changed, type_in, target_place, new_value, next_input, rest_of}
use Rattle.c_meaning.specs.declared.simple.Stored.{Stored}

-- ---- a declaration, whose variable is found first

same_name : (x : Name) → bytes_eq x x ≡ true
same_name x = (bytes_eq-Decides x x).1 refl

again : (b : Bool) (x : Name) (t : Ty) (z : ℤ) (s : State) → b ≡ true →
    write_at (if b then Some (scalar t None) else find x s.frame) x (changed (or_else (if b then Some (scalar t None) else find x s.frame) (find x s.globals)) 0 z) (push x (scalar t None) s)
    ≡ with_frame (write x (scalar t (Some z)) (push x (scalar t None) s).frame) (push x (scalar t None) s)
again true x t z s h = refl
again false x t z s h = absurd (cc)

pub set_declared : (x : Name) (t : Ty) (z : ℤ) (s : State) → store x (changed (look (push x (scalar t None) s) x) 0 z) (push x (scalar t None) s) ≡ push x (scalar t (Some z)) s
set_declared x t z s =
    again (bytes_eq x x) x t z s (same_name x)
    ∙ ap (λ b. with_frame (if b then record { name = x; cell = scalar t (Some z) } ∷ s.frame else record { name = x; cell = scalar t None } ∷ write x (scalar t (Some z)) s.frame) (push x (scalar t None) s)) (same_name x)

module _ (ds : List Define) (t : Ty) (x : Name) (e : Expr) (s : State) where
  pub declared_ok : (z : ℤ) → and_then (eval ds (push x (scalar t None) s) e) (convert t) ≡ Ok z → declared ds t x (Some e) s ≡ ends Next (push x (scalar t (Some z)) s)
  declared_ok z h = ap (λ r. with_value r (push x (scalar t None) s) (λ y. ends Next (push x (scalar t (Some y)) s))) h

  pub declared_err : (trap : Trap) → and_then (eval ds (push x (scalar t None) s) e) (convert t) ≡ Err trap → declared ds t x (Some e) s ≡ ends (Trapped trap) (push x (scalar t None) s)
  declared_err trap h = ap (λ r. with_value r (push x (scalar t None) s) (λ y. ends Next (push x (scalar t (Some y)) s))) h

-- ---- assignments

-- the place and the number of an assignment together
abbrev pub together : Result ℕ Trap → (ℕ → Result ℤ Trap) → Result Stored Trap
together p value = and_then p (λ k. and_then (value k) (λ z. Ok (record { at = k; number = z })))

value_ok : (k : ℕ) (s : State) (go : ℕ → ℤ → Run) (v : Result ℤ Trap) (r : Stored) → and_then v (λ z. Ok (record { at = k; number = z })) ≡ Ok r → with_value v s (go k) ≡ go r.at r.number
value_ok k s go (Ok z) r h = ap (λ q. run_of q) h
  where
    run_of : Result Stored Trap → Run
    run_of (Ok q) = go q.at q.number
    run_of (Err t) = ends (Trapped t) s
value_ok k s go (Err t) r h = absurd (cc)

value_err : (k : ℕ) (s : State) (go : ℤ → Run) (v : Result ℤ Trap) (t : Trap) → and_then {B = Stored} v (λ z. Ok (record { at = k; number = z })) ≡ Err t → with_value v s go ≡ ends (Trapped t) s
value_err k s go (Ok z) t h = absurd (cc)
value_err k s go (Err u) t h = ap (λ q. run_of q) h
  where
    run_of : Result Stored Trap → Run
    run_of (Ok q) = ends (Trapped u) s
    run_of (Err t) = ends (Trapped t) s

module _ (s : State) (value : ℕ → Result ℤ Trap) (go : ℕ → ℤ → Run) where
  pub together_ok : (p : Result ℕ Trap) (r : Stored) → together p value ≡ Ok r → with_value p s (λ k. with_value (value k) s (go k)) ≡ go r.at r.number
  together_ok (Ok k) r h = value_ok k s go (value k) r h
  together_ok (Err t) r h = absurd (cc)

  pub together_err : (p : Result ℕ Trap) (t : Trap) → together p value ≡ Err t → with_value p s (λ k. with_value (value k) s (go k)) ≡ ends (Trapped t) s
  together_err (Ok k) t h = value_err k s (go k) (value k) t h
  together_err (Err u) t h = ap (λ q. run_of q) h
    where
      run_of : Result Stored Trap → Run
      run_of (Ok q) = ends (Trapped u) s
      run_of (Err v) = ends (Trapped v) s

-- what an assignment stores, before its conversion and after it
module _ (ds : List Define) (x : Name) (es : Exprs) (op : SetOp) (e : Expr) (s : State) where
  abbrev pub stored : Result Stored Trap
  stored = together (target_place ds s (look s x) es) (λ k. and_then (new_value op (look s x) k (type_of ds s e) (eval ds s e)) (convert (type_in (look s x))))

  pub set_ok : (r : Stored) → stored ≡ Ok r → set_to ds (target x es) op e s ≡ ends Next (store x (changed (look s x) r.at r.number) s)
  set_ok r h = together_ok s (λ k. and_then (new_value op (look s x) k (type_of ds s e) (eval ds s e)) (convert (type_in (look s x)))) (λ k z. ends Next (store x (changed (look s x) k z) s)) (target_place ds s (look s x) es) r h

  pub set_err : (t : Trap) → stored ≡ Err t → set_to ds (target x es) op e s ≡ ends (Trapped t) s
  set_err t h = together_err s (λ k. and_then (new_value op (look s x) k (type_of ds s e) (eval ds s e)) (convert (type_in (look s x)))) (λ k z. ends Next (store x (changed (look s x) k z) s)) (target_place ds s (look s x) es) t h

-- ---- input

module _ (ds : List Define) (x : Name) (es : Exprs) (s : State) where
  abbrev rest : State
  rest = record s { input = rest_of s.input }

  abbrev taken : ℕ → ℤ → ℤ → Run
  taken k y z = ends Next (store x (changed (look s x) k z) rest)

  abbrev converted : ℕ → ℤ → Run
  converted k y = with_value (convert (type_in (look s x)) y) rest (taken k y)

  pub input_misplaced : (t : Trap) → target_place ds s (look s x) es ≡ Err t → take_input ds (target x es) s ≡ ends (Trapped t) s
  input_misplaced t h = ap (λ r. with_value r s (λ k. with_value (next_input s.input) s (converted k))) h

  pub input_ended : (k : ℕ) (t : Trap) → target_place ds s (look s x) es ≡ Ok k → next_input s.input ≡ Err t → take_input ds (target x es) s ≡ ends (Trapped t) s
  input_ended k t h i = ap (λ r. with_value r s (λ k. with_value (next_input s.input) s (converted k))) h ∙ ap (λ r. with_value r s (converted k)) i

  pub input_narrow : (k : ℕ) (y : ℤ) (t : Trap) → target_place ds s (look s x) es ≡ Ok k → next_input s.input ≡ Ok y → convert (type_in (look s x)) y ≡ Err t → take_input ds (target x es) s ≡ ends (Trapped t) rest
  input_narrow k y t h i j = ap (λ r. with_value r s (λ k. with_value (next_input s.input) s (converted k))) h ∙ (ap (λ r. with_value r s (converted k)) i ∙ ap (λ r. with_value r rest (taken k y)) j)

  pub input_taken : (k : ℕ) (y z : ℤ) → target_place ds s (look s x) es ≡ Ok k → next_input s.input ≡ Ok y → convert (type_in (look s x)) y ≡ Ok z → take_input ds (target x es) s ≡ ends Next (store x (changed (look rest x) k z) rest)
  input_taken k y z h i j = ap (λ r. with_value r s (λ k. with_value (next_input s.input) s (converted k))) h ∙ (ap (λ r. with_value r s (converted k)) i ∙ ap (λ r. with_value r rest (taken k y)) j)

pub ruleset declarations = (set_declared, declared_ok, declared_err)

pub ruleset assignments = (set_ok, set_err)

pub ruleset inputs = (input_misplaced, input_ended, input_narrow, input_taken)
