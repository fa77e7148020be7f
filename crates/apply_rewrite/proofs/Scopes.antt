-- The types of what is visible, the variables of the file, and what is visible again when a walk leaves a function or a list.
use Rattle.std.proofs.Common.{◌≡◌, ◌∙◌, sym, ap, refl, ℕ, ◌+◌, ◌-◌, ◌<◌, ◌≤◌, Bool, true, false, List, [], ◌∷◌, ◌++◌, length, drop, map, arith, append_assoc}
use Rattle.std.proofs.lemmas.List.{length-append}
use Rattle.std.proofs.Math.Seq.{drop-append_seam}
use Rattle.std.specs.Prelude.{is_some, if◌then◌else◌, slice_index_or, Option, Some, None}
use Rattle.std.specs.Option.{option_map}
use Rattle.c_tree.specs.Bare.{Name, Stmt, decl, Stmts, no_stmts, more_stmts, Param, Top, define, extern_, global, function, main}
use Rattle.c_tree.specs.declared.tree.Ty.{Ty}
use Rattle.c_tree.specs.BareOf.{bare_param}
use Rattle.c_tree.specs.declared.tree.Param as code
use Rattle.c_tree.proofs.Walks.{rest_more, rest_none}
use Rattle.c_semantics.specs.Meaning.State.{scalar, Cell, Var, State, find, look, or_else, keep, push, with_frame, with_globals}
use Rattle.c_semantics.specs.Structure.Skeleton.{scope_after}
use Rattle.c_scopes.specs.Laws.{scope_with}
use Rattle.c_scopes.specs.Types.{type_held, type_filed, with_params}
use Rattle.loop_normal.specs.Templates.{SourceLoop}
use Rattle.carried_out.specs.CarriedOut.{scope_below}
use Rattle.loop_counts.specs.Visible.{Visible}

-- ---- types

-- a variable without a value has its type
pub held_type : (o : Option Ty) (c : Option Cell) → option_map (λ t. scalar t None) o ≡ c → o ≡ type_held c
held_type None c e = ap type_held e
held_type (Some t) c e = ap type_held e

pub ruleset typed = (held_type)

-- ---- variables of the file

-- one more variable of the file: of two with one name the first is seen
abbrev pub with_global : State → Name → Ty → State
with_global s x t = if is_some (type_filed s x) then s else with_globals (record { name = x; cell = scalar t None } ∷ s.globals) s

module _ (s : State) (x : Name) (t : Ty) (o : Option Ty) (outside : s.frame ≡ []) (e : option_map (λ u. scalar u None) o ≡ look s x) where
  filed_is : o ≡ type_filed s x
  filed_is = held_type o (find x s.globals) (e ∙ ap (λ f. or_else (find x f) (find x s.globals)) outside)

  chosen : (b : Bool) → is_some o ≡ b → with_global s x t ≡ (if b then s else with_globals (record { name = x; cell = scalar t None } ∷ s.globals) s)
  chosen b h =
      ap {B = State} (λ c. if c then s else with_globals (record { name = x; cell = scalar t None } ∷ s.globals) s) (ap is_some (sym filed_is) ∙ h)

  global_there : is_some o ≡ true → s ≡ with_global s x t
  global_there h = sym (chosen true h)

  global_new : is_some o ≡ false → with_globals (record { name = x; cell = scalar t None } ∷ s.globals) s ≡ with_global s x t
  global_new h = sym (chosen false h)

module _ (v : Visible) (x : Name) (t : Ty) (o : Option Ty) (outside : v.state.frame ≡ []) (e : option_map (λ u. scalar u None) o ≡ look v.state x) where
  pub file_there : is_some o ≡ true → v ≡ record v { state = with_global v.state x t }
  file_there h = λ i. record v { state = global_there v.state x t o outside e h i }

  pub file_new : (w : Visible) → w ≡ record v { state = with_globals (record { name = x; cell = scalar t None } ∷ v.state.globals) v.state } → is_some o ≡ false
      → w ≡ record v { state = with_global v.state x t }
  file_new w new h = new ∙ (λ i. record v { state = global_new v.state x t o outside e h i })

pub ruleset filed = (file_there, file_new)

pub same_frame : (s : State) (i : Top) → s.frame ≡ [] → (scope_with s i).frame ≡ []
same_frame s (global t x dims e) h = by (is_some (type_filed s x))
  where
    by : (b : Bool) → (if b then s else with_globals (record { name = x; cell = scalar t None } ∷ s.globals) s).frame ≡ []
    by true = h
    by false = h
same_frame s (define x minus k t) h = h
same_frame s (extern_ p) h = h
same_frame s (function x ps a) h = h
same_frame s (main a) h = h

pub ruleset items = (same_frame)

-- ---- what is above the variables of a place

-- the same state with more variables on top
abbrev Above : State → State → Type 0
Above s u = (zs : List Var) × (u ≡ with_frame (zs ++ s.frame) s)

above_self : (s : State) → Above s s
above_self s = ([], refl)

above_then : (s u w : State) → Above s u → Above u w → Above s w
above_then s u w h k = (k.0 ++ h.0, k.1 ∙ ap (λ z. with_frame (k.0 ++ z.frame) z) h.1 ∙ ap (λ l. with_frame l s) (sym (append_assoc k.0 h.0 s.frame)))

above_pushed : (x : Name) (c : Cell) (s : State) → Above s (push x c s)
above_pushed x c s = (record { name = x; cell = c } ∷ [], refl)

above_after : (a : Stmt) (s : State) → Above s (scope_after a s)
above_after (decl t x e) s = above_pushed x (scalar t None) s
above_after a s = above_self s

above_params : (ps : List Param) (s : State) → Above s (with_params ps s)
above_params [] s = above_self s
above_params (p ∷ ps) s =
    let u = push p.name (scalar p.ty None) s in
    above_then s u (with_params ps u) (above_pushed p.name (scalar p.ty None) s) (above_params ps u)

-- after a list
abbrev pub all_after : Stmts → State → State
all_after no_stmts s = s
all_after (more_stmts a as') s = all_after as' (scope_after a s)

above_all : (as' : Stmts) (s : State) → Above s (all_after as' s)
above_all no_stmts s = above_self s
above_all (more_stmts a as') s = above_then s (scope_after a s) (all_after as' (scope_after a s)) (above_after a s) (above_all as' (scope_after a s))

-- what was visible is visible again when they are dropped
dropped : (s u : State) (k : ℕ) → Above s u → k ≡ length s.frame → with_frame (keep k u.frame) u ≡ s
dropped s u k h e =
    let over : length (h.0 ++ s.frame) - k ≡ length h.0 = omega (arith, length-append h.0 s.frame) in
    ap (λ z. with_frame (keep k z.frame) z) h.1
    ∙ ap (λ l. with_frame l s) (ap (λ n. drop n (h.0 ++ s.frame)) over ∙ drop-append_seam h.0 s.frame)

pub out_of_function : (ps : List Param) (s : State) (k : ℕ) → k ≡ length s.frame → with_frame (keep k (with_params ps s).frame) (with_params ps s) ≡ s
out_of_function ps s k e = dropped s (with_params ps s) k (above_params ps s) e

pub out_of_list : (as' : Stmts) (s u : State) (k : ℕ) → u ≡ all_after as' s → k ≡ length s.frame → with_frame (keep k u.frame) u ≡ s
out_of_list as' s u k is e = ap (λ z. with_frame (keep k z.frame) z) is ∙ dropped s (all_after as' s) k (above_all as' s) e

pub out_of_loop : (s : State) (l : Option SourceLoop) (k : ℕ) → k ≡ length s.frame → with_frame (keep k (scope_below s l).frame) (scope_below s l) ≡ s
out_of_loop s None k e = dropped s s k (above_self s) e
out_of_loop s (Some l) k e = dropped s (push l.var (scalar l.ty None) s) k (above_pushed l.var (scalar l.ty None) s) e

pub ruleset leaving = (out_of_function, out_of_loop)

-- ---- parameters

pub params_more : (s : State) (xs : List code.Param) (i : ℕ) (x : code.Param) → i < length xs → x ≡ slice_index_or xs i x
    → with_params (map bare_param (drop i xs)) s ≡ with_params (map bare_param (drop (i + 1) xs)) (push x.name (scalar x.ty None) s)
params_more s xs i x = rest_more (λ ys. with_params (map bare_param ys) s) xs i x

pub params_end : (s : State) (xs : List code.Param) (i : ℕ) → length xs ≤ i → with_params (map bare_param (drop i xs)) s ≡ s
params_end s xs i = rest_none (λ ys. with_params (map bare_param ys) s) xs i

pub ruleset params = (params_more, params_end)
