-- The loops and the leaves of a program in the order of the text; of a construct, those that its directives ask for.
-- Blocks, `if` with both lists, declarations, jumps and `do` loops with the literal test 0 are transparent, and heads
-- show nothing.
use Rattle.std.specs.Prelude.{ℕ, zero, suc, List, [], ◌∷◌, ◌++◌, map, Option, Some, None, Result, Ok, Err, Bool, false, ◌&&◌, ◌==◌, flat_map, if◌then◌else◌}
use Rattle.c_tree.specs.Bare.{Param, Expr, num, Stmt, decl, set, step, print, input, if_, if_else, while_, do_, for_, block, omp, call, Stmts, no_stmts, more_stmts, head, MaybeStmt, no_stmt, a_stmt, define, global, function, main, Program}
use Rattle.c_semantics.specs.Meaning.State.{scalar, Var, State, push, with_globals, with_frame, nowhere}
use Rattle.c_tree.specs.declared.arithmetic.Trap.{Trap}
use Rattle.c_semantics.specs.Meaning.Expressions.{Define, only_constants}
use Rattle.c_semantics.specs.Meaning.Programs.{define_of}
use Rattle.c_semantics.specs.Loops.CanonicalForm.{Canonical, canonical}
use Rattle.c_semantics.specs.Loops.TripCount.{Range, entry}
use Rattle.c_semantics.specs.Loops.Directives.{plan_of}
use Rattle.c_semantics.specs.Loops.Need.{loops_asked}
use Rattle.c_semantics.specs.Structure.Parts.{For, While, Do, Set, Step, Print, Input, Call, Shape, round, leaf, shapes_of, Part, written, plan_parts}

-- ---- scopes: the visible variables with their types, none of which has a value, so that only a constant has one

abbrev pub scope_after : Stmt → State → State
scope_after (decl t x e) s = push x (scalar t None) s
scope_after _ s = s

abbrev pub scope_in : MaybeStmt → State → State
scope_in no_stmt s = s
scope_in (a_stmt a) s = scope_after a s

abbrev pub params_frame : List Param → List Var
params_frame [] = []
params_frame (p ∷ ps) = record { name = p.name; cell = scalar p.ty None } ∷ params_frame ps

-- ---- counts

abbrev pub range_count : Result Range Trap → Option ℕ
range_count (Err t) = None
range_count (Ok r) = Some r.count

-- the count of a source loop, known where its bounds are constants and its entry doesn't trap
abbrev pub source_count : List Define → State → Option Canonical → Option ℕ
source_count ds s None = None
source_count ds s (Some c) = if only_constants ds c.lb && only_constants ds c.ub then range_count (entry ds s c) else None

-- ---- statements

abbrev pub is_literal_zero : Expr → Bool
is_literal_zero (num k t) = k == 0
is_literal_zero _ = false

-- a loop of this count round a part
abbrev pub one_loop : Option ℕ → Part → Part
one_loop c p = record p { counts = c ∷ p.counts }

abbrev pub or_body : ℕ → List Shape → List Part → List Part
or_body zero xs ps = record { counts = []; list = xs } ∷ []
or_body (suc m) xs ps = ps

abbrev mutual
  pub shapes : List Define → State → Stmt → List Shape
  shapes ds s (set t o e) = leaf Set ∷ []
  shapes ds s (step t up) = leaf Step ∷ []
  shapes ds s (print e) = leaf Print ∷ []
  shapes ds s (input t) = leaf Input ∷ []
  shapes ds s (call x es) = leaf Call ∷ []
  shapes ds s (if_ e a) = all_shapes ds s a
  shapes ds s (if_else e a b) = all_shapes ds s a ++ all_shapes ds s b
  shapes ds s (while_ e a) = round While (shapes_of (all_shapes ds s a)) ∷ []
  shapes ds s (do_ a e) = if is_literal_zero e then all_shapes ds s a else round Do (shapes_of (all_shapes ds s a)) ∷ []
  shapes ds s (for_ (head i o next) a) = round For (shapes_of (all_shapes ds (scope_in i s) a)) ∷ []
  shapes ds s (block a) = all_shapes ds s a
  shapes ds s (omp d a) = flat_map written (plan_parts (plan_of ds d) (all_parts ds s (loops_asked (plan_of ds d) 0) a))
  shapes ds s _ = []

  pub all_shapes : List Define → State → Stmts → List Shape
  all_shapes ds s no_stmts = []
  all_shapes ds s (more_stmts a as') = shapes ds s a ++ all_shapes ds (scope_after a s) as'

  -- the parts of a statement, m loops down
  pub parts : List Define → State → ℕ → Stmt → List Part
  parts ds s zero _ = []
  parts ds s (suc m) (for_ (head i o next) a) =
      let u = scope_in i s in
      map (one_loop (source_count ds s (canonical ds (head i o next)))) (or_body m (all_shapes ds u a) (all_parts ds u m a))
  parts ds s (suc m) (block a) = all_parts ds s (suc m) a
  parts ds s (suc m) (omp d a) = plan_parts (plan_of ds d) (all_parts ds s (loops_asked (plan_of ds d) (suc m)) a)
  parts ds s (suc m) _ = []

  pub all_parts : List Define → State → ℕ → Stmts → List Part
  all_parts ds s m no_stmts = []
  all_parts ds s m (more_stmts a as') = parts ds s m a ++ all_parts ds s m as'

-- ---- programs

abbrev pub skeleton_from : List Define → State → Program → List (List Shape)
skeleton_from ds s [] = []
skeleton_from ds s (define x minus k t ∷ is) = skeleton_from (define_of x minus k t ∷ ds) s is
skeleton_from ds s (global t x dims e ∷ is) =
    skeleton_from ds (with_globals (record { name = x; cell = scalar t None } ∷ s.globals) s) is
skeleton_from ds s (function x ps a ∷ is) = all_shapes ds (with_frame (params_frame ps) s) a ∷ skeleton_from ds s is
skeleton_from ds s (main a ∷ is) = all_shapes ds s a ∷ skeleton_from ds s is
skeleton_from ds s (_ ∷ is) = skeleton_from ds s is

-- of each function's body in order, then of main's: for a source, the loops and copies that its directives ask for; for
-- a program without directives, those that it has
abbrev pub skeleton : Program → List (List Shape)
skeleton = skeleton_from [] nowhere
