-- Programs in which stacks of reverse directives are replaced by the blocks that stand for them.
use Rattle.std.specs.Prelude.{◌≡◌, ℕ, List, [], ◌∷◌, length, Option, None, true}
use Rattle.c_tree.specs.Bare.{Name, Expr, Directive, Stmt, decl, set, step, print, input, if_, if_else, while_, do_, for_, block, break_, continue_, empty, omp, call, Stmts, no_stmts, more_stmts, Head, head, MaybeStmt, Top, function, main, Program}
use Rattle.c_tree.specs.declared.tree.Ty.{Ty}
use Rattle.c_tree.specs.WellFormed.{MayBegin, MayEnd}
use Rattle.c_semantics.specs.Meaning.State.{scalar, State, push}
use Rattle.c_semantics.specs.Meaning.Expressions.{Define}
use Rattle.c_semantics.specs.Meaning.FileVariables.{defines_with}
use Rattle.c_semantics.specs.Loops.CanonicalForm.{Canonical}
use Rattle.c_semantics.specs.Loops.Directives.{plan_of}
use Rattle.c_semantics.specs.Structure.Skeleton.{scope_after, scope_in}
use Rattle.c_scopes.specs.Types.{with_params}
use Rattle.c_scopes.specs.Laws.{scope_with}
use Rattle.loop_normal.specs.Templates.{LoopNames}
use Rattle.carried_out.specs.Reversible.{is_reversal}
use Rattle.apply_rewrite.specs.ReverseStacks.{times_after, LeadsTo, stack_block, IsStack}

-- a statement without a list in it
abbrev pub IsSimple : Stmt → Type 0
IsSimple (decl t x e) = Unit {0}
IsSimple (set t o e) = Unit {0}
IsSimple (step t up) = Unit {0}
IsSimple (print e) = Unit {0}
IsSimple (input t) = Unit {0}
IsSimple break_ = Unit {0}
IsSimple continue_ = Unit {0}
IsSimple empty = Unit {0}
IsSimple (call x es) = Unit {0}
IsSimple _ = ⊥

module _ (ds : List Define) where
  mutual
    -- where the variables of a scope are visible, the second is the first with its stacks replaced, those in a stack's
    -- body first
    pub data Rewritten : State → Stmt → Stmt → Type 0 where
      same : {s : State} (a : Stmt) → IsSimple a → Rewritten s a a
      in_if : {s : State} (e : Expr) {a b : Stmts} → AllRewritten s a b → Rewritten s (if_ e a) (if_ e b)
      in_if_else : {s : State} (e : Expr) {a b c d : Stmts} → AllRewritten s a b → AllRewritten s c d → Rewritten s (if_else e a c) (if_else e b d)
      in_while : {s : State} (e : Expr) {a b : Stmts} → AllRewritten s a b → Rewritten s (while_ e a) (while_ e b)
      in_do : {s : State} (e : Expr) {a b : Stmts} → AllRewritten s a b → Rewritten s (do_ a e) (do_ b e)
      in_for : {s : State} (i : MaybeStmt) (e : Option Expr) (next : MaybeStmt) {a b : Stmts} → MayBegin i → MayEnd next → AllRewritten (scope_in i s) a b →
          Rewritten s (for_ (head i e next) a) (for_ (head i e next) b)
      in_block : {s : State} {a b : Stmts} → AllRewritten s a b → Rewritten s (block a) (block b)
      a_stack : {s : State} (d : Directive) (k : ℕ) (h : Head) (c : Canonical) (T : Ty) (m : LoopNames) (rs : List Name) (as' body : Stmts) {body' : Stmts} →
          is_reversal (plan_of ds d) ≡ true → LeadsTo ds k h body as' → length rs ≡ times_after (plan_of ds d) k →
          AllRewritten (push c.var (scalar T None) s) body body' → IsStack ds s h c T m rs body' →
          Rewritten s (omp d as') (stack_block m rs c T body')

    pub data AllRewritten : State → Stmts → Stmts → Type 0 where
      none : {s : State} → AllRewritten s no_stmts no_stmts
      more : {s : State} {a b : Stmt} {as' bs : Stmts} → Rewritten s a b → AllRewritten (scope_after a s) as' bs → AllRewritten s (more_stmts a as') (more_stmts b bs)

-- item by item, in functions and in `main`
abbrev pub TopRewritten : List Define → State → Top → Top → Type 0
TopRewritten ds s (function x ps a) (function y qs b) = (y ≡ x) × (qs ≡ ps) × AllRewritten ds (with_params ps s) a b
TopRewritten ds s (main a) (main b) = AllRewritten ds s a b
TopRewritten ds s i j = j ≡ i

abbrev pub ProgramRewritten : List Define → State → Program → Program → Type 0
ProgramRewritten ds s [] [] = Unit {0}
ProgramRewritten ds s (i ∷ is) (j ∷ js) = TopRewritten ds s i j × ProgramRewritten (defines_with ds i) (scope_with s i) is js
ProgramRewritten ds s _ _ = ⊥
