-- The file-scope variables and arrays that a function may read and may assign: those that its body, or that of a function
-- which it calls, reads or assigns. A name means a file-scope variable where no parameter, no local variable and no
-- private copy of an affected loop's variable hides it (C11 6.2.1).
use Rattle.std.specs.Prelude.{ℕ, zero, suc, List, [], ◌∷◌, ◌++◌, Option, Some, None, Bool, true, false, if◌then◌else◌, bytes_eq}
use Rattle.c_tree.specs.Bare.{Name, Expr, num, read, item, un, bin, cond, cast, Exprs, no_exprs, more_exprs, Target, target, Stmt, decl, set, step, print, input, if_, if_else, while_, do_, for_, block, omp, call, Stmts, no_stmts, more_stmts, head, MaybeStmt, no_stmt, a_stmt, Param, Top, define, function, Program}
use Rattle.c_tree.specs.declared.tree.Ty.{Ty}
use Rattle.c_tree.specs.declared.tree.SetOp.{SetOp}
use Rattle.c_tree.specs.declared.tree.SetOp.TheVariants.{Plain}
use Rattle.c_semantics.specs.Meaning.Expressions.{Define}
use Rattle.c_semantics.specs.Meaning.Programs.{define_of}
use Rattle.c_semantics.specs.Loops.CanonicalForm.{Canonical, canonical}
use Rattle.c_semantics.specs.Loops.Directives.{plan_of}
use Rattle.c_semantics.specs.Loops.Need.{loops_asked}

-- the name is in the list
abbrev pub has_name : List Name → Name → Bool
has_name [] x = false
has_name (y ∷ h) x = if bytes_eq x y then true else has_name h x

-- ---- scopes, as the names that hide file-scope variables

abbrev pub scope_after : Stmt → List Name → List Name
scope_after (decl t x e) h = x ∷ h
scope_after _ h = h

abbrev pub scope_in : MaybeStmt → List Name → List Name
scope_in no_stmt h = h
scope_in (a_stmt a) h = scope_after a h

-- in the body of an affected loop its variable is a private copy
abbrev pub scope_with : Option Canonical → List Name → List Name
scope_with None h = h
scope_with (Some c) h = c.var ∷ h

abbrev pub param_names : List Param → List Name
param_names [] = []
param_names (p ∷ ps) = p.name ∷ param_names ps

-- ---- expressions

-- the name, unless it is hidden
abbrev pub free_name : List Name → Name → List Name
free_name h x = if has_name h x then [] else x ∷ []

abbrev mutual
  -- the names that an expression reads and that aren't hidden
  pub free_names : List Name → Expr → List Name
  free_names h (num k t) = []
  free_names h (read x) = free_name h x
  free_names h (item x es) = free_name h x ++ free_names_each h es
  free_names h (un op a) = free_names h a
  free_names h (bin op a b) = free_names h a ++ free_names h b
  free_names h (cond a b c) = free_names h a ++ (free_names h b ++ free_names h c)
  free_names h (cast t a) = free_names h a

  pub free_names_each : List Name → Exprs → List Name
  free_names_each h no_exprs = []
  free_names_each h (more_exprs e es) = free_names h e ++ free_names_each h es

abbrev pub free_names_if : List Name → Option Expr → List Name
free_names_if h None = []
free_names_if h (Some e) = free_names h e

-- ---- what is read and assigned

pub record Access : Type 0 where
  pub reads : List Name
  pub assigns : List Name

abbrev pub no_access : Access
no_access = record { reads = []; assigns = [] }

abbrev pub both : Access → Access → Access
both a b = record { reads = a.reads ++ b.reads; assigns = a.assigns ++ b.assigns }

abbrev pub reading : List Name → Access
reading xs = record { reads = xs; assigns = [] }

-- what is assigned, with its subscripts
abbrev pub assigning : List Name → Target → Access
assigning h (target x es) = record { reads = free_names_each h es; assigns = free_name h x }

-- a compound assignment and a step read it too
abbrev pub updating : List Name → Target → Access
updating h (target x es) = record { reads = free_name h x ++ free_names_each h es; assigns = free_name h x }

abbrev pub setting : List Name → SetOp → Target → Access
setting h Plain t = assigning h t
setting h _ t = updating h t

-- the head of an affected loop: its bounds, where no private copy can be seen, and its variable, which it reads and
-- assigns where it doesn't declare it
abbrev pub variable : List Name → Option Ty → Name → List Name
variable h (Some t) x = []
variable h None x = free_name h x

abbrev pub head_access : List Name → Option Canonical → Access
head_access h None = no_access
head_access h (Some c) =
    let x = variable h c.ty c.var in
    record { reads = x ++ (free_names h c.lb ++ free_names h c.ub); assigns = x }

-- ---- statements

-- what is known of a function
pub record FunctionAccess : Type 0 where
  pub name : Name
  pub access : Access

abbrev pub access_of : List FunctionAccess → Name → Access
access_of [] x = no_access
access_of (f ∷ fs) x = if bytes_eq x f.name then f.access else access_of fs x

abbrev pub or_nest : ℕ → Access → Access → Access
or_nest zero a b = a
or_nest (suc m) a b = b

module _ (ds : List Define) (fs : List FunctionAccess) where
  abbrev mutual
    pub accesses : List Name → Stmt → Access
    accesses h (decl t x e) = reading (free_names_if (x ∷ h) e)
    accesses h (set t o e) = both (setting h o t) (reading (free_names h e))
    accesses h (step t up) = updating h t
    accesses h (print e) = reading (free_names h e)
    accesses h (input t) = assigning h t
    accesses h (if_ e a) = both (reading (free_names h e)) (all_accesses h a)
    accesses h (if_else e a b) = both (reading (free_names h e)) (both (all_accesses h a) (all_accesses h b))
    accesses h (while_ e a) = both (reading (free_names h e)) (all_accesses h a)
    accesses h (do_ a e) = both (all_accesses h a) (reading (free_names h e))
    accesses h (for_ (head i e next) a) =
        let u = scope_in i h in
        both (maybe_accesses h i) (both (reading (free_names_if u e)) (both (maybe_accesses u next) (all_accesses u a)))
    accesses h (block a) = all_accesses h a
    accesses h (omp d a) = nests_accesses h h (loops_asked (plan_of ds d) 0) a
    accesses h (call f es) = both (access_of fs f) (reading (free_names_each h es))
    accesses h _ = no_access

    pub all_accesses : List Name → Stmts → Access
    all_accesses h no_stmts = no_access
    all_accesses h (more_stmts a as') = both (accesses h a) (all_accesses (scope_after a h) as')

    pub maybe_accesses : List Name → MaybeStmt → Access
    maybe_accesses h no_stmt = no_access
    maybe_accesses h (a_stmt a) = accesses h a

    -- m loops down from a construct in the scope h; b is the scope in the loops round this place
    pub nest_accesses : List Name → List Name → ℕ → Stmt → Access
    nest_accesses h b zero _ = no_access
    nest_accesses h b (suc m) (for_ (head i e next) a) =
        let u = scope_with (canonical ds (head i e next)) b in
        both (head_access h (canonical ds (head i e next))) (or_nest m (all_accesses u a) (nests_accesses h u m a))
    nest_accesses h b (suc m) (block a) = nests_accesses h b (suc m) a
    nest_accesses h b (suc m) (omp d a) = nests_accesses h b (loops_asked (plan_of ds d) (suc m)) a
    nest_accesses h b (suc m) _ = no_access

    pub nests_accesses : List Name → List Name → ℕ → Stmts → Access
    nests_accesses h b m no_stmts = no_access
    nests_accesses h b m (more_stmts a as') = both (nest_accesses h b m a) (nests_accesses h b m as')

-- ---- programs

-- what is known of the functions after an item, with the defines before it
abbrev pub accesses_with : List Define → List FunctionAccess → Top → List FunctionAccess
accesses_with ds fs (function x ps a) = record { name = x; access = all_accesses ds fs (param_names ps) a } ∷ fs
accesses_with ds fs _ = fs

abbrev pub defines_with : List Define → Top → List Define
defines_with ds (define x minus k t) = define_of x minus k t ∷ ds
defines_with ds _ = ds

abbrev pub accesses_after : List Define → List FunctionAccess → Program → List FunctionAccess
accesses_after ds fs [] = fs
accesses_after ds fs (i ∷ is) = accesses_after (defines_with ds i) (accesses_with ds fs i) is

-- of a function among these items
abbrev pub may_read : Program → Name → List Name
may_read p f = (access_of (accesses_after [] [] p) f).reads

abbrev pub may_assign : Program → Name → List Name
may_assign p f = (access_of (accesses_after [] [] p) f).assigns
