-- A program with its reverse constructs carried out, inner ones first: each becomes a block. Fresh names are drawn in the
-- order in which the code is made: those of a body, then those of its loop, then one for each time that it is reversed.
use Rattle.std.specs.Prelude.{List, [], ◌∷◌, Option, Some, None}
use Rattle.c_tree.specs.Bare.{Name, Stmt, if_, if_else, while_, do_, for_, block, omp, Stmts, no_stmts, more_stmts, Head, head, Top, function, main, Program}
use Rattle.c_tree.specs.declared.tree.Ty.{Ty}
use Rattle.c_semantics.specs.Meaning.State.{scalar, State, push, nowhere}
use Rattle.c_semantics.specs.Meaning.Expressions.{Define}
use Rattle.c_semantics.specs.Meaning.FileVariables.{defines_with}
use Rattle.c_semantics.specs.Loops.CanonicalForm.{Canonical, canonical}
use Rattle.c_semantics.specs.Loops.Directives.{plan_of}
use Rattle.c_semantics.specs.Loops.Transformations.{Transformation, reverse_, Plan, plan, Applied, none_applied, applied_at}
use Rattle.c_semantics.specs.Structure.Skeleton.{scope_after, scope_in}
use Rattle.c_scopes.specs.Types.{type_seen, with_params}
use Rattle.c_scopes.specs.Laws.{scope_with}
use Rattle.loop_normal.specs.Gens.{Gen, no_parts, emit}
use Rattle.loop_normal.specs.Templates.{SourceLoop, leaf}
use Rattle.loop_normal.specs.DrawnNames.{FreshNames, drawn, after_draw, after_draws, loop_names}
use Rattle.loop_normal.specs.FromZero.{from_zero, after_from_zero}
use Rattle.loop_normal.specs.Laws.{source_loop}
use Rattle.permute_reverse.specs.Reversed.{reversed_gen}
use Rattle.loop_normal.specs.SourceNames.{beside_program}

-- ---- the loop that a construct takes (OpenMP 6.0, 6.4.1)

-- the type of its variable: as its head declares it, else that of the variable which is visible there
abbrev pub variable_type : State → Option Ty → Name → Option Ty
variable_type s (Some T) x = Some T
variable_type s None x = type_seen s x

abbrev pub with_type : Canonical → Option Ty → Option SourceLoop
with_type c None = None
with_type c (Some T) = Some (source_loop c T)

abbrev pub where_typed : State → Option Canonical → Option SourceLoop
where_typed s None = None
where_typed s (Some c) = with_type c (variable_type s c.ty c.var)

-- the parts of a canonical head whose variable has a type, and None for any other head
abbrev pub loop_at : List Define → State → Head → Option SourceLoop
loop_at ds s h = where_typed s (canonical ds h)

-- its body sees a private copy of the variable
abbrev pub scope_below : State → Option SourceLoop → State
scope_below s None = s
scope_below s (Some l) = push l.var (scalar l.ty None) s

-- the body of any other loop sees what its head declares
abbrev pub in_head : Head → State → State
in_head (head i e next) s = scope_in i s

-- ---- what is made, and the names that are left after it

pub record Made (A : Type 0) : Type 0 where
  pub tree : A
  pub left : FreshNames

abbrev pub made_as : {A B : Type 0} → (A → B) → Made A → Made B
made_as g m = record { tree = g m.tree; left = m.left }

abbrev pub made_stmt : Stmt → FreshNames → Made Stmt
made_stmt a f = record { tree = a; left = f }

-- where there is no loop to be rewritten
abbrev pub no_code : FreshNames → Made Gen
no_code f = record { tree = record { front = no_stmts; parts = no_parts }; left = f }

abbrev pub made_leaf : Option SourceLoop → Made Stmts → Made Gen
made_leaf None m = no_code m.left
made_leaf (Some h) m = record { tree = leaf (loop_names m.left) h m.tree; left = after_draws 4 m.left }

abbrev pub made_reverse : Made Gen → Made Gen
made_reverse m =
    record {
      tree = reversed_gen (drawn (after_from_zero m.left m.tree)) (from_zero m.left m.tree);
      left = after_draw (after_from_zero m.left m.tree);
    }

abbrev pub made_block : Made Gen → Made Stmt
made_block m = record { tree = block (emit m.tree); left = m.left }

-- ---- directives, by their plans (11.1, 11.5)

-- one that isn't carried out yet leaves the code as it is
abbrev pub transformed : Transformation → Made Gen → Made Gen
transformed reverse_ m = made_reverse m
transformed _ m = m

abbrev mutual
  -- the transformation acts first, then the items of `apply`, each on the one loop that was made
  pub planned : Plan → Made Gen → Made Gen
  planned (plan t w) m = items_applied w (transformed t m)

  pub items_applied : Applied → Made Gen → Made Gen
  items_applied none_applied m = m
  items_applied (applied_at p d w) m = items_applied w (planned d m)

-- ---- statements, where the variables of a scope are visible

module _ (ds : List Define) where
  abbrev mutual
    pub carried : State → Stmt → FreshNames → Made Stmt
    carried s (if_ e a) f = made_as (if_ e) (carried_all s a f)
    carried s (if_else e a b) f = made_as (if_else e (carried_all s a f).tree) (carried_all s b (carried_all s a f).left)
    carried s (while_ e a) f = made_as (while_ e) (carried_all s a f)
    carried s (do_ a e) f = made_as (λ b. do_ b e) (carried_all s a f)
    carried s (for_ h a) f = made_as (for_ h) (carried_all (in_head h s) a f)
    carried s (block a) f = made_as block (carried_all s a f)
    carried s (omp d a) f = made_block (planned (plan_of ds d) (nest s a f))
    carried s a f = made_stmt a f

    pub carried_all : State → Stmts → FreshNames → Made Stmts
    carried_all s no_stmts f = record { tree = no_stmts; left = f }
    carried_all s (more_stmts a as') f =
        made_as (more_stmts (carried s a f).tree) (carried_all (scope_after a s) as' (carried s a f).left)

    -- the code of the loop that a list leads to, through braces and further directives
    pub nest : State → Stmts → FreshNames → Made Gen
    nest s no_stmts f = no_code f
    nest s (more_stmts a no_stmts) f = nest_in s a f
    nest s (more_stmts a (more_stmts b as')) f = no_code f

    pub nest_in : State → Stmt → FreshNames → Made Gen
    nest_in s (for_ h a) f = made_leaf (loop_at ds s h) (carried_all (scope_below s (loop_at ds s h)) a f)
    nest_in s (block a) f = nest s a f
    nest_in s (omp d a) f = planned (plan_of ds d) (nest s a f)
    nest_in s a f = no_code f

-- ---- items: a define or a variable holds from the item after it on

abbrev pub carried_top : List Define → State → Top → FreshNames → Made Top
carried_top ds s (function x ps a) f = made_as (function x ps) (carried_all ds (with_params ps s) a f)
carried_top ds s (main a) f = made_as main (carried_all ds s a f)
carried_top ds s i f = record { tree = i; left = f }

abbrev pub carried_items : List Define → State → Program → FreshNames → Made Program
carried_items ds s [] f = record { tree = []; left = f }
carried_items ds s (i ∷ is) f =
    made_as (λ js. (carried_top ds s i f).tree ∷ js) (carried_items (defines_with ds i) (scope_with s i) is (carried_top ds s i f).left)

-- the whole program
abbrev pub carried_out : Program → Program
carried_out p = (carried_items [] nowhere p (beside_program p)).tree
