-- The clauses of what a directive takes, by the kind of statement, and what a loop over statements has left.
use Rattle.std.proofs.Common.{◌≡◌, ◌∙◌, ap, refl, ◌<◌, ◌≤◌, ◌+◌, ◌-◌, ◌≢◌, ℕ, zero, suc, List, [], ◌∷◌, length, drop, slice_index_or, None, arith}
use Rattle.c_tree.specs.Placed as p
use Rattle.c_tree.specs.PlacedOf.{placed_stmt, placed_stmts}
use Rattle.c_tree.specs.declared.tree.Stmt.{Stmt}
use Rattle.c_tree.proofs.Walks.{rest_more, rest_none}
use Rattle.c_semantics.specs.Meaning.Expressions.{Define}
use Rattle.canonical_nests.specs.LoopRules.BreachSets.{lesser, least}
use Rattle.canonical_nests.specs.LoopRules.Programs.{taken_clauses, taken_clauses_in}
use Rattle.canonical_nests.proofs.Order.{lesser_joins, lesser_none}
use Rattle.canonical_nests.proofs.HeldTrees.{directive_held, good_more}
use Rattle.loop_clauses.specs.Taken.{wanted_clauses}

module _ (ds : List Define) where
  some_wanted : (m : ℕ) (s : p.Stmt) → taken_clauses ds (suc m) s ≡ wanted_clauses ds (suc m) s
  some_wanted m (p.for_ h a s) = let e : m ≡ suc m - 1 = omega arith in ap (λ n. taken_clauses_in ds n a) e
  some_wanted m (p.block a s) = refl
  some_wanted m (p.omp d a s) = refl
  some_wanted m (p.decl t x at e s) = refl
  some_wanted m (p.set t o e s) = refl
  some_wanted m (p.step t up s) = refl
  some_wanted m (p.print e s) = refl
  some_wanted m (p.input t at s) = refl
  some_wanted m (p.if_ e a s) = refl
  some_wanted m (p.if_else e a b s) = refl
  some_wanted m (p.while_ e a s) = refl
  some_wanted m (p.do_ a e s) = refl
  some_wanted m (p.break_ s) = refl
  some_wanted m (p.continue_ s) = refl
  some_wanted m (p.empty s) = refl
  some_wanted m (p.call x at es s) = refl

  are_wanted : (m : ℕ) (s : p.Stmt) → m ≢ 0 → least (taken_clauses ds m s) ≡ least (wanted_clauses ds m s)
  are_wanted zero s some = absurd (some refl)
  are_wanted (suc m) s some = ap least (some_wanted m s)

  none_taken : (xs : List Stmt) → least (taken_clauses_in ds 0 (placed_stmts xs)) ≡ None
  none_taken [] = refl
  none_taken (x ∷ xs) = none_taken xs

  pub none_wanted : (m : ℕ) (xs : List Stmt) → m ≡ 0 → least (taken_clauses_in ds m (placed_stmts xs)) ≡ None
  none_wanted m xs is = ap (λ n. least (taken_clauses_in ds n (placed_stmts xs))) is ∙ none_taken xs

  pub taken_more : (m : ℕ) (xs : List Stmt) (i : ℕ) (x : Stmt) → m ≢ 0 → i < length xs → x ≡ slice_index_or xs i x
      → least (taken_clauses_in ds m (placed_stmts (drop i xs))) ≡ lesser (least (wanted_clauses ds m (placed_stmt x))) (least (taken_clauses_in ds m (placed_stmts (drop (i + 1) xs))))
  taken_more m xs i x some within is =
      rest_more (λ ys. least (taken_clauses_in ds m (placed_stmts ys))) xs i x within is
      ∙ ap (λ b. lesser b (least (taken_clauses_in ds m (placed_stmts (drop (i + 1) xs))))) (are_wanted m (placed_stmt x) some)

  pub taken_end : (m : ℕ) (xs : List Stmt) (i : ℕ) → length xs ≤ i → least (taken_clauses_in ds m (placed_stmts (drop i xs))) ≡ None
  taken_end m xs i = rest_none (λ ys. least (taken_clauses_in ds m (placed_stmts ys))) xs i

pub ruleset held = (directive_held)

pub ruleset taken_walks = (none_wanted, taken_more, taken_end, good_more, lesser_joins, lesser_none)
