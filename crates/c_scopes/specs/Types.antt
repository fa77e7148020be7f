-- The names and the types of the variables of a state. A scope is a state whose variables have no values.
use Rattle.std.specs.Prelude.{◌≡◌, List, [], ◌∷◌, Option, Some, None}
use Rattle.c_tree.specs.Bare.{Name, Stmt, decl, Param}
use Rattle.c_tree.specs.declared.tree.Ty.{Ty}
use Rattle.c_semantics.specs.Meaning.State.{Cell, scalar, Var, State, find, look, push, with_frame}
use Rattle.c_semantics.specs.Meaning.Expressions.{cell_type}
use Rattle.c_semantics.specs.Meaning.SimpleStatements.{Function, Env, function_named}

-- ---- variables with their types

abbrev pub types : List Var → List (Name × Ty)
types [] = []
types (v ∷ vs) = (v.name, cell_type v.cell) ∷ types vs

abbrev pub type_held : Option Cell → Option Ty
type_held None = None
type_held (Some c) = Some (cell_type c)

-- the type of the variable that a name means
abbrev pub type_seen : State → Name → Option Ty
type_seen s x = type_held (look s x)

-- the type of the file's variable of a name
abbrev pub type_filed : State → Name → Option Ty
type_filed s x = type_held (find x s.globals)

-- a state has the file's variables of a scope, each with its type, and may have more, which are declared later
abbrev pub FileHasTypes : State → State → Type 0
FileHasTypes scope s = (x : Name) (t : Ty) → type_filed scope x ≡ Some t → type_filed s x ≡ Some t

-- a state has the variables of a scope, each with its type
pub record HasTypes (scope s : State) : Type 0 where
  pub seen : (x : Name) (t : Ty) → type_seen scope x ≡ Some t → type_seen s x ≡ Some t
  pub filed : FileHasTypes scope s

-- between functions: the variables of the file are those of a scope, and no other is there
pub record FileIs (scope s : State) : Type 0 where
  pub filed : (x : Name) → type_filed s x ≡ type_filed scope x
  pub scope_frame : scope.frame ≡ []
  pub frame : s.frame ≡ []

-- a frame of parameters, the last one on top
abbrev pub with_params : List Param → State → State
with_params [] s = s
with_params (p ∷ ps) s = with_params ps (push p.name (scalar p.ty None) s)

-- ---- functions

-- a function that keeps the names and the types of the file's variables
abbrev pub KeepsFile : Option Function → Type 0
KeepsFile None = Unit {0}
KeepsFile (Some f) = (vs : List Var) (s : State) → types (f.run (with_frame vs s)).state.globals ≡ types s.globals

abbrev pub EachKeepsFile : Env → Type 0
EachKeepsFile env = (x : Name) → KeepsFile (function_named x env.functions)

-- ---- statements

abbrev pub IsDecl : Stmt → Type 0
IsDecl (decl t x e) = Unit {0}
IsDecl _ = ⊥
