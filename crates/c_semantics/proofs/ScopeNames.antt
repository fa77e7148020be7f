-- The names of frames, as scopes: what a frame of arguments and private copies hide.
use Rattle.std.proofs.Common.{◌≡◌, refl, sym, subst, List, [], ◌∷◌, ◌++◌, Option, Some, None, Result, Ok, Err, Bool, true, false, append-nil}
use Rattle.std.specs.Prelude.{if◌then◌else◌, bytes_eq}
use Rattle.c_tree.specs.Bare.{Name, Exprs, no_exprs, more_exprs, Param}
use Rattle.c_tree.specs.declared.tree.Ty.{Ty}
use Rattle.c_semantics.specs.Meaning.State.{Cell, scalar, Var, State}
use Rattle.c_tree.specs.declared.arithmetic.Trap.{Trap}
use Rattle.c_tree.specs.Arithmetic.{and_then, convert}
use Rattle.c_semantics.specs.Meaning.Expressions.{Define, eval}
use Rattle.c_semantics.specs.Meaning.SimpleStatements.{arguments}
use Rattle.c_semantics.specs.Loops.CanonicalForm.{Canonical}
use Rattle.c_semantics.specs.Loops.Execution.{loop_var}
use Rattle.c_semantics.specs.Meaning.FileVariables.{has_name, scope_with, param_names}
use Rattle.c_semantics.proofs.FrameNames.{names}

-- a frame has each name that a scope hides
abbrev pub HoldsNames : List Name → List Var → Type 0
HoldsNames h vs = (x : Name) → has_name h x ≡ true → has_name (names vs) x ≡ true

pub more_names : (x y : Name) (h k : List Name) → (has_name h x ≡ true → has_name k x ≡ true) → has_name (y ∷ h) x ≡ true → has_name (y ∷ k) x ≡ true
more_names x y h k f = by (bytes_eq x y)
  where
    by : (b : Bool) → (if b then true else has_name h x) ≡ true → (if b then true else has_name k x) ≡ true
    by true e = refl
    by false e = f e

pub outer_name : (x y : Name) (h : List Name) → has_name h x ≡ true → has_name (y ∷ h) x ≡ true
outer_name x y h e = by (bytes_eq x y)
  where
    by : (b : Bool) → (if b then true else has_name h x) ≡ true
    by true = refl
    by false = e

-- the first name may stand behind others
later_name : (x y : Name) (h k : List Name) → has_name (y ∷ (h ++ k)) x ≡ true → has_name (h ++ (y ∷ k)) x ≡ true
later_name x y [] k e = e
later_name x y (z ∷ h) k e = by (bytes_eq x z) (bytes_eq x y) (later_name x y h k) e
  where
    by : (b c : Bool) → ((if c then true else has_name (h ++ k) x) ≡ true → has_name (h ++ (y ∷ k)) x ≡ true) →
        (if c then true else (if b then true else has_name (h ++ k) x)) ≡ true → (if b then true else has_name (h ++ (y ∷ k)) x) ≡ true
    by true c f e = refl
    by false true f e = f refl
    by false false f e = f e

-- ---- arguments

abbrev HoldsMore : List Param → List Var → Result (List Var) Trap → Type 0
HoldsMore ps vs (Err t) = Unit {0}
HoldsMore ps vs (Ok fr) = (x : Name) → has_name (param_names ps ++ names vs) x ≡ true → has_name (names fr) x ≡ true

value_holds : {A : Type 0} (ps : List Param) (vs : List Var) (r : Result A Trap) (f : A → Result (List Var) Trap) → ((a : A) → HoldsMore ps vs (f a)) → HoldsMore ps vs (and_then r f)
value_holds ps vs (Err t) f h = tt
value_holds ps vs (Ok a) f h = h a

one_more : (p : Param) (ps : List Param) (vs : List Var) (c : Cell) (r : Result (List Var) Trap) → HoldsMore ps (record { name = p.name; cell = c } ∷ vs) r → HoldsMore (p ∷ ps) vs r
one_more p ps vs c (Err t) h = tt
one_more p ps vs c (Ok fr) h = λ x e. h x (later_name x p.name (param_names ps) (names vs) e)

arguments_more : (ds : List Define) (s : State) (ps : List Param) (es : Exprs) (vs : List Var) → HoldsMore ps vs (arguments ds s ps es vs)
arguments_more ds s [] es vs = λ x e. e
arguments_more ds s (p ∷ ps) no_exprs vs = one_more p ps vs (scalar p.ty None) (arguments ds s ps no_exprs _) (arguments_more ds s ps no_exprs _)
arguments_more ds s (p ∷ ps) (more_exprs e es) vs =
    value_holds (p ∷ ps) vs (eval ds s e) _ (λ y. value_holds (p ∷ ps) vs (convert p.ty y) _ (λ z.
    one_more p ps vs (scalar p.ty (Some z)) (arguments ds s ps es _) (arguments_more ds s ps es _)))

-- a call's frame holds the parameters
abbrev pub HoldsParams : List Param → Result (List Var) Trap → Type 0
HoldsParams ps (Err t) = Unit {0}
HoldsParams ps (Ok vs) = HoldsNames (param_names ps) vs

pub arguments_hold : (ds : List Define) (s : State) (ps : List Param) (es : Exprs) → HoldsParams ps (arguments ds s ps es [])
arguments_hold ds s ps es = by (arguments ds s ps es []) (arguments_more ds s ps es [])
  where
    by : (r : Result (List Var) Trap) → HoldsMore ps [] r → HoldsParams ps r
    by (Err t) h = tt
    by (Ok fr) h = λ x e. h x (subst (λ l. has_name l x ≡ true) (sym (append-nil (param_names ps))) e)

-- ---- private copies

-- the scope below these variables, the outermost first
abbrev pub copied : List (Name × Ty) → List Name → List Name
copied [] h = h
copied (x ∷ xs) h = copied xs (x.0 ∷ h)

copied-append : (xs ys : List (Name × Ty)) (h : List Name) → copied (xs ++ ys) h ≡ copied ys (copied xs h)
copied-append [] ys h = refl
copied-append (x ∷ xs) ys h = copied-append xs ys (x.0 ∷ h)

pub copied-loop_var : (ds : List Define) (s : State) (c : Option Canonical) (xs : List (Name × Ty)) (h : List Name) → copied (xs ++ loop_var ds s c) h ≡ scope_with c (copied xs h)
copied-loop_var ds s None xs h = copied-append xs [] h
copied-loop_var ds s (Some c) xs h = copied-append xs (loop_var ds s (Some c)) h
