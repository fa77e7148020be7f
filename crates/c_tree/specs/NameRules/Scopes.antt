-- Scopes and what is visible in them (C11 6.2.1): the file, each list in braces, each `for` head, and each body, where
-- the body of a function begins with its parameters. A name means what it was declared as in the innermost scope that
-- declares it. What breaks a rule by being declared again makes nothing visible: what stands first counts.
use Rattle.std.specs.Prelude.{List, [], ◌∷◌, ◌++◌, Option, Some, None, is_some, Bool, true, false, ◌||◌, if◌then◌else◌, bytes_eq}
use Rattle.c_tree.specs.Bare.{Name}
use Rattle.c_tree.specs.Placed.{Param, Stmt, decl, MaybeStmt, no_stmt, a_stmt, Head, head}
use Rattle.c_tree.specs.declared.constant.TypedValue.{TypedValue}
use Rattle.c_tree.specs.declared.name_rule.Declaration.{Declaration}
use Rattle.c_tree.specs.declared.name_rule.Entity.{Entity}
use Rattle.c_tree.specs.declared.name_rule.Entity.TheVariants.{Define, Variable}

-- what is visible at a place: the declarations of its own scope and of the scopes round it, the latest first; and
-- whether `print` and `input` were made known
pub record Scope : Type 0 where
  pub here : List Declaration
  pub outside : List Declaration
  pub print_known : Bool
  pub input_known : Bool

-- ---- what a name means

abbrev pub find : Name → List Declaration → Option Entity
find x [] = None
find x (d ∷ ds) = if bytes_eq x d.name then Some d.entity else find x ds

abbrev pub or_else : Option Entity → Option Entity → Option Entity
or_else None o = o
or_else (Some e) o = Some e

abbrev pub meaning : Scope → Name → Option Entity
meaning s x = or_else (find x s.here) (find x s.outside)

abbrev pub is_define : Option Entity → Bool
is_define (Some (Define c)) = true
is_define _ = false

abbrev pub constant_of : Option Entity → Option TypedValue
constant_of (Some (Define c)) = Some c
constant_of _ = None

-- the constant that a name stands for, where it is a define
abbrev pub constant_named : Scope → Name → Option TypedValue
constant_named s x = constant_of (meaning s x)

-- ---- declarations

abbrev pub add : Name → Entity → Scope → Scope
add x e s = record s { here = record { name = x; entity = e } ∷ s.here }

-- the name is declared in this scope already, or is a define
abbrev pub is_taken : Scope → Name → Bool
is_taken s x = is_some (find x s.here) || is_define (meaning s x)

abbrev pub declare : Name → Entity → Scope → Scope
declare x e s = if is_taken s x then s else add x e s

abbrev pub a_scalar : Entity
a_scalar = Variable 0

-- a scope in this one, in which nothing is declared yet
abbrev pub inner : Scope → Scope
inner s = record s { here = []; outside = s.here ++ s.outside }

-- ---- what is visible after statements of this scope: of these only declarations make something visible in it

abbrev pub after_stmt : Scope → Stmt → Scope
after_stmt s (decl t x at init span) = declare x a_scalar s
after_stmt s _ = s

abbrev pub after_part : Scope → MaybeStmt → Scope
after_part s no_stmt = s
after_part s (a_stmt a) = after_stmt s a

-- a `for` head is a scope of its own, and its body another inside it (C11 6.8.5.3): what is visible round the body. The
-- last part of a well-formed head declares nothing
abbrev pub after_head : Scope → Head → Scope
after_head s (head init init_at test test_at next next_at) = after_part (after_part (inner s) init) next

-- the parameters of a function, each visible after its name (C11 6.9.1)
abbrev pub with_params : Scope → List Param → Scope
with_params s [] = s
with_params s (p ∷ ps) = with_params (declare p.name a_scalar s) ps
