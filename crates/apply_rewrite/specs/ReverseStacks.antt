-- Reverse directives over one loop, with those that `apply` puts on it, and the generated code that takes their place
-- (OpenMP 6.0, 11.1 and 11.5).
use Rattle.std.specs.Prelude.{◌≡◌, ℕ, zero, suc, List, [], ◌∷◌, Some, true}
use Rattle.c_tree.specs.Bare.{Name, Stmt, for_, block, omp, Directive, Stmts, Head}
use Rattle.c_tree.specs.declared.tree.Ty.{Ty}
use Rattle.c_semantics.specs.Meaning.State.{State}
use Rattle.c_semantics.specs.Meaning.Expressions.{Define}
use Rattle.c_semantics.specs.Loops.CanonicalForm.{Canonical, canonical}
use Rattle.c_semantics.specs.Loops.Directives.{plan_of}
use Rattle.c_semantics.specs.Loops.Transformations.{Plan, plan, Applied, none_applied, applied_at}
use Rattle.c_semantics.specs.Laws.Names.{Names}
use Rattle.loop_normal.specs.Gens.{Gen, emit}
use Rattle.loop_normal.specs.Templates.{LoopNames, leaf, only}
use Rattle.loop_normal.specs.FreshNames.{Among, Source, NamesNone}
use Rattle.loop_normal.specs.Laws.{source_loop}
use Rattle.permute_reverse.specs.Reversed.{reversed_gen}
use Rattle.apply_rewrite.specs.NoBreaks.{NoBreaks}
use Rattle.carried_out.specs.DistinctNames.{AllApart}
use Rattle.carried_out.specs.CarriedOut.{variable_type}
use Rattle.carried_out.specs.Reversible.{is_reversal}

-- how often a loop is reversed after a plan that only reverses, where before it was k times
abbrev mutual
  pub times_after : Plan → ℕ → ℕ
  times_after (plan t w) k = times_after_items w (suc k)

  pub times_after_items : Applied → ℕ → ℕ
  times_after_items none_applied k = k
  times_after_items (applied_at p d w) k = times_after_items w (times_after d k)

-- a list leads to a loop, through braces and through directives that reverse it so many times
pub data LeadsTo (ds : List Define) : ℕ → Head → Stmts → Stmts → Type 0 where
  loop_here : (h : Head) (a : Stmts) → LeadsTo ds zero h a (only (for_ h a))
  in_braces : {k : ℕ} {h : Head} {a b : Stmts} → LeadsTo ds k h a b → LeadsTo ds k h a (only (block b))
  in_directive : {k : ℕ} {h : Head} {a b : Stmts} (d : Directive) → is_reversal (plan_of ds d) ≡ true → LeadsTo ds k h a b →
      LeadsTo ds (times_after (plan_of ds d) k) h a (only (omp d b))

-- the first name is that of the first reversal, which is the one nearest to the loop
abbrev pub reversed_all : List Name → Gen → Gen
reversed_all [] g = g
reversed_all (r ∷ rs) g = reversed_all rs (reversed_gen r g)

-- the block that stands for the directives and their loop
abbrev pub stack_block : LoopNames → List Name → Canonical → Ty → Stmts → Stmt
stack_block m rs c T body = block (emit (reversed_all rs (leaf m (source_loop c T) body)))

abbrev pub all_names : LoopNames → List Name → List Name
all_names m rs = m.begin ∷ m.end ∷ m.count ∷ m.counter ∷ rs

-- what a stack has to be: a canonical loop whose variable has a type; fresh names, which neither its bounds nor its body
-- name; and a body that no `break` leaves
pub record IsStack (ds : List Define) (s : State) (h : Head) (c : Canonical) (T : Ty) (m : LoopNames) (rs : List Name) (body : Stmts) : Type 0 where
  pub form : canonical ds h ≡ Some c
  pub typed : variable_type s c.ty c.var ≡ Some T
  pub once : AllApart (all_names m rs)
  pub variable : Source (Among (all_names m rs)) c.var
  pub begin : Names (Source (Among (all_names m rs))) c.lb
  pub end : Names (Source (Among (all_names m rs))) c.ub
  pub named : NamesNone (Among (all_names m rs)) body
  pub no_breaks : NoBreaks body
