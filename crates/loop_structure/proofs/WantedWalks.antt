-- The structure of what a directive takes, by the kind of statement, and what a loop over statements has left.
use Rattle.std.proofs.Common.{◌≡◌, ◌∙◌, sym, ap, refl, ◌<◌, ◌≤◌, ◌+◌, ◌-◌, ◌≢◌, ℕ, zero, suc, List, [], ◌∷◌, length, drop, slice_index_or, Option, Some, None, arith}
use Rattle.c_tree.specs.Placed as p
use Rattle.c_tree.specs.PlacedOf.{placed_stmt, placed_stmts}
use Rattle.c_tree.specs.Forget.{forget_directive}
use Rattle.c_tree.specs.declared.tree.Stmt.{Stmt}
use Rattle.c_tree.proofs.Walks.{rest_more, rest_none}
use Rattle.c_semantics.specs.Meaning.Expressions.{Define}
use Rattle.c_semantics.specs.Loops.Directives.{plan_of}
use Rattle.c_semantics.specs.Loops.Need.{loops_asked}
use Rattle.canonical_nests.specs.declared.rules.LoopBreach.{LoopBreach}
use Rattle.canonical_nests.specs.LoopRules.BreachSets.{BreachSet, or_else, lesser, least}
use Rattle.canonical_nests.specs.LoopRules.Structure.{stmt_breaches, stmts_breaches, body_breaches}
use Rattle.canonical_nests.proofs.Order.{lesser_joins, lesser_none, else_first, else_second}
use Rattle.canonical_nests.proofs.HeldTrees.{directive_held, good_more}
use Rattle.loop_structure.specs.Wanted.{first_of, directive_breaches, wanted_least}

first_is : (xs ys : BreachSet) → least (or_else xs ys) ≡ first_of (least xs) (least ys)
first_is xs ys = by_first (least xs) refl
  where
    by_first : (o : Option LoopBreach) → least xs ≡ o → least (or_else xs ys) ≡ first_of (least xs) (least ys)
    by_first None is = else_second xs ys is ∙ sym (ap (λ o. first_of o (least ys)) is)
    by_first (Some b) is = else_first xs ys b is ∙ sym (ap (λ o. first_of o (least ys)) is)

module _ (ds : List Define) where
  some_wanted : (m : ℕ) (s : p.Stmt) → least (stmt_breaches ds (suc m) s) ≡ wanted_least ds (suc m) s
  some_wanted m (p.for_ h a s) = let e : m ≡ suc m - 1 = omega arith in ap (λ n. least (stmts_breaches ds n a)) e
  some_wanted m (p.block a s) = refl
  some_wanted m (p.omp d a s) = refl
  some_wanted m (p.decl t x at e s) = refl
  some_wanted m (p.set t o e s) = refl
  some_wanted m (p.step t up s) = refl
  some_wanted m (p.print e s) = refl
  some_wanted m (p.input t at s) = refl
  some_wanted m (p.if_ e a s) = refl
  some_wanted m (p.if_else e a b s) = refl
  some_wanted m (p.while_ e a s) = refl
  some_wanted m (p.do_ a e s) = refl
  some_wanted m (p.break_ s) = refl
  some_wanted m (p.continue_ s) = refl
  some_wanted m (p.empty s) = refl
  some_wanted m (p.call x at es s) = refl

  pub without_loops : (m : ℕ) (s : p.Stmt) → m ≡ 0 → least (stmt_breaches ds m s) ≡ None
  without_loops m s is = ap (λ n. least (stmt_breaches ds n s)) is

  pub are_wanted : (m : ℕ) (s : p.Stmt) → m ≢ 0 → least (stmt_breaches ds m s) ≡ wanted_least ds m s
  are_wanted zero s some = absurd (some refl)
  are_wanted (suc m) s some = some_wanted m s

  none_in : (xs : List Stmt) → least (stmts_breaches ds 0 (placed_stmts xs)) ≡ None
  none_in [] = refl
  none_in (x ∷ xs) = none_in xs

  pub none_wanted : (m : ℕ) (xs : List Stmt) → m ≡ 0 → least (stmts_breaches ds m (placed_stmts xs)) ≡ None
  none_wanted m xs is = ap (λ n. least (stmts_breaches ds n (placed_stmts xs))) is ∙ none_in xs

  pub wanted_more : (m : ℕ) (xs : List Stmt) (i : ℕ) (x : Stmt) → m ≢ 0 → i < length xs → x ≡ slice_index_or xs i x
      → least (stmts_breaches ds m (placed_stmts (drop i xs))) ≡ lesser (wanted_least ds m (placed_stmt x)) (least (stmts_breaches ds m (placed_stmts (drop (i + 1) xs))))
  wanted_more m xs i x some within is =
      rest_more (λ ys. least (stmts_breaches ds m (placed_stmts ys))) xs i x within is
      ∙ ap (λ b. lesser b (least (stmts_breaches ds m (placed_stmts (drop (i + 1) xs))))) (are_wanted m (placed_stmt x) some)

  pub wanted_end : (m : ℕ) (xs : List Stmt) (i : ℕ) → length xs ≤ i → least (stmts_breaches ds m (placed_stmts (drop i xs))) ≡ None
  wanted_end m xs i = rest_none (λ ys. least (stmts_breaches ds m (placed_stmts ys))) xs i

  pub directive_is : (m : ℕ) (d : p.Directive) (a : p.Stmts)
      → least (directive_breaches ds m d a) ≡ first_of (least (stmts_breaches ds (loops_asked (plan_of ds (forget_directive d)) m) a)) (least (body_breaches ds d a))
  directive_is m d a = first_is (stmts_breaches ds (loops_asked (plan_of ds (forget_directive d)) m) a) (body_breaches ds d a)

pub ruleset held = (directive_held)

pub ruleset wanted = (lesser_none)

pub ruleset statements = (without_loops, are_wanted)

pub ruleset directives = (directive_is)

pub ruleset wanted_walks = (none_wanted, wanted_more, wanted_end, good_more, lesser_joins, lesser_none)
