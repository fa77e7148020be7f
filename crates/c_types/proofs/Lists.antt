-- What a loop over statements has left, in the scope that the statements so far leave.
use Rattle.std.proofs.Common.{◌≡◌, ◌∙◌, sym, ap, ℕ, ◌+◌, ◌<◌, ◌≤◌, max, Bool, List, length, drop, slice_index_or, Option, None, arith}
use Rattle.std.proofs.lemmas.List.{at_drop_more, drop_all}
use Rattle.c_tree.specs.Bare.{Name}
use Rattle.c_tree.specs.declared.name_rule.Breach.{Breach}
use Rattle.c_tree.specs.NameRules.BreachSets.{lesser, least}
use Rattle.c_tree.specs.NameRules.Scopes.{Scope, after_stmt}
use Rattle.c_tree.specs.NameRules.DeclaredNames.{with_stmt, with_stmts}
use Rattle.c_tree.specs.NameRules.CallDepth.{deepest_call, deepest_calls}
use Rattle.c_tree.specs.NameRules.Breaches.{stmt_breaches, stmts_breaches}
use Rattle.c_tree.specs.PlacedOf.{placed_stmt, placed_stmts}
use Rattle.c_tree.specs.declared.tree.Stmt.{Stmt}
use Rattle.c_types.proofs.Order.{lesser_joins, lesser_none}
use Rattle.c_types.proofs.Scopes.{stmt_outside, stmt_print, stmt_input}

pub stmts_more : (f w : Bool) (s : Scope) (xs : List Stmt) (i : ℕ) (x : Stmt) → i < length xs → x ≡ slice_index_or xs i x → least (stmts_breaches f w s (placed_stmts (drop i xs))) ≡ lesser (least (stmt_breaches f w s (placed_stmt x))) (least (stmts_breaches f w (after_stmt s (placed_stmt x)) (placed_stmts (drop (i + 1) xs))))
stmts_more f w s xs i x h at =
    at_drop_more (λ ys. least (stmts_breaches f w s (placed_stmts ys))) xs i x h
    ∙ ap (λ y. lesser (least (stmt_breaches f w s (placed_stmt y))) (least (stmts_breaches f w (after_stmt s (placed_stmt y)) (placed_stmts (drop (i + 1) xs))))) (sym at)

pub stmts_end : (f w : Bool) (s : Scope) (xs : List Stmt) (i : ℕ) → length xs ≤ i → least (stmts_breaches f w s (placed_stmts (drop i xs))) ≡ None
stmts_end f w s xs i h = ap (λ ys. least (stmts_breaches f w s (placed_stmts ys))) (drop_all i xs h)

pub depths_more : (s : Scope) (xs : List Stmt) (i : ℕ) (x : Stmt) → i < length xs → x ≡ slice_index_or xs i x → deepest_calls s (placed_stmts (drop i xs)) ≡ max (deepest_call s (placed_stmt x)) (deepest_calls (after_stmt s (placed_stmt x)) (placed_stmts (drop (i + 1) xs)))
depths_more s xs i x h at =
    at_drop_more (λ ys. deepest_calls s (placed_stmts ys)) xs i x h
    ∙ ap (λ y. max (deepest_call s (placed_stmt y)) (deepest_calls (after_stmt s (placed_stmt y)) (placed_stmts (drop (i + 1) xs)))) (sym at)

pub depths_end : (s : Scope) (xs : List Stmt) (i : ℕ) → length xs ≤ i → deepest_calls s (placed_stmts (drop i xs)) ≡ 0
depths_end s xs i h = ap (λ ys. deepest_calls s (placed_stmts ys)) (drop_all i xs h)

pub names_more : (ns : List Name) (xs : List Stmt) (i : ℕ) (x : Stmt) → i < length xs → x ≡ slice_index_or xs i x → with_stmts ns (placed_stmts (drop i xs)) ≡ with_stmts (with_stmt ns (placed_stmt x)) (placed_stmts (drop (i + 1) xs))
names_more ns xs i x h at =
    at_drop_more (λ ys. with_stmts ns (placed_stmts ys)) xs i x h
    ∙ ap (λ y. with_stmts (with_stmt ns (placed_stmt y)) (placed_stmts (drop (i + 1) xs))) (sym at)

pub names_end : (ns : List Name) (xs : List Stmt) (i : ℕ) → length xs ≤ i → with_stmts ns (placed_stmts (drop i xs)) ≡ ns
names_end ns xs i h = ap (λ ys. with_stmts ns (placed_stmts ys)) (drop_all i xs h)

-- ---- one statement more

module _ (f w : Bool) (s u : Scope) (xs : List Stmt) (i : ℕ) (x : Stmt) (within : i < length xs) (at : x ≡ slice_index_or xs i x) (after : u ≡ after_stmt s (placed_stmt x)) where
  pub breach_step : (found seen all : Option Breach) → seen ≡ least (stmt_breaches f w s (placed_stmt x)) → lesser found (least (stmts_breaches f w s (placed_stmts (drop i xs)))) ≡ all → lesser (lesser found seen) (least (stmts_breaches f w u (placed_stmts (drop (i + 1) xs)))) ≡ all
  breach_step found seen all seen_is all_is =
      ap (λ v. lesser (lesser found seen) (least (stmts_breaches f w v (placed_stmts (drop (i + 1) xs))))) after
      ∙ (ap (λ b. lesser (lesser found b) (least (stmts_breaches f w (after_stmt s (placed_stmt x)) (placed_stmts (drop (i + 1) xs))))) seen_is
      ∙ (lesser_joins found (least (stmt_breaches f w s (placed_stmt x))) (least (stmts_breaches f w (after_stmt s (placed_stmt x)) (placed_stmts (drop (i + 1) xs))))
      ∙ (sym (ap (lesser found) (stmts_more f w s xs i x within at)) ∙ all_is)))

  pub depth_step : (found seen all : ℕ) → seen ≡ deepest_call s (placed_stmt x) → max found (deepest_calls s (placed_stmts (drop i xs))) ≡ all → max (max seen found) (deepest_calls u (placed_stmts (drop (i + 1) xs))) ≡ all
  depth_step found seen all seen_is all_is =
      ap (λ v. max (max seen found) (deepest_calls v (placed_stmts (drop (i + 1) xs)))) after
      ∙ omega (arith, depths_more s xs i x within at)

  pub names_step : (ns ms all : List Name) → ms ≡ with_stmt ns (placed_stmt x) → with_stmts ns (placed_stmts (drop i xs)) ≡ all → with_stmts ms (placed_stmts (drop (i + 1) xs)) ≡ all
  names_step ns ms all ms_is all_is =
      ap (λ os. with_stmts os (placed_stmts (drop (i + 1) xs))) ms_is ∙ (sym (names_more ns xs i x within at) ∙ all_is)

pub ruleset lists = (stmts_more, stmts_end, depths_more, depths_end, names_more, names_end, lesser_joins, lesser_none, stmt_outside, stmt_print, stmt_input)
