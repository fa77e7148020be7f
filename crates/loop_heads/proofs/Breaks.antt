-- The least breach of several `break`s, and what a loop over statements has left.
use Rattle.std.proofs.Common.{◌≡◌, ◌∙◌, refl, sym, ap, ◌<◌, ◌≤◌, ◌+◌, ℕ, List, [], ◌∷◌, ◌++◌, length, drop, slice_index_or, Some, None}
use Rattle.c_tree.specs.PlacedOf.{placed_stmt, placed_stmts}
use Rattle.c_tree.specs.declared.tree.Stmt.{Stmt}
use Rattle.c_tree.proofs.Walks.{rest_more, rest_none}
use Rattle.canonical_nests.specs.LoopRules.Accesses.{breaks, breaks_in}
use Rattle.canonical_nests.specs.LoopRules.BreachSets.{least, lesser}
use Rattle.canonical_nests.specs.LoopRules.Heads.{break_breaches}
use Rattle.canonical_nests.specs.declared.rules.LoopRule.TheVariants.{L9}
use Rattle.canonical_nests.proofs.Order.{lesser_joins, lesser_none}

pub breaks_join : (xs ys : List ℕ) → least (break_breaches (xs ++ ys)) ≡ lesser (least (break_breaches xs)) (least (break_breaches ys))
breaks_join [] ys = refl
breaks_join (x ∷ xs) ys =
    ap (lesser (Some (record { place = x; rule = L9 }))) (breaks_join xs ys)
    ∙ sym (lesser_joins (Some (record { place = x; rule = L9 })) (least (break_breaches xs)) (least (break_breaches ys)))

pub breaks_more : (xs : List Stmt) (i : ℕ) (x : Stmt) → i < length xs → x ≡ slice_index_or xs i x
    → least (break_breaches (breaks_in (placed_stmts (drop i xs)))) ≡ lesser (least (break_breaches (breaks (placed_stmt x)))) (least (break_breaches (breaks_in (placed_stmts (drop (i + 1) xs)))))
breaks_more xs i x within is =
    rest_more (λ ys. least (break_breaches (breaks_in (placed_stmts ys)))) xs i x within is
    ∙ breaks_join (breaks (placed_stmt x)) (breaks_in (placed_stmts (drop (i + 1) xs)))

pub breaks_end : (xs : List Stmt) (i : ℕ) → length xs ≤ i → least (break_breaches (breaks_in (placed_stmts (drop i xs)))) ≡ None
breaks_end xs i = rest_none (λ ys. least (break_breaches (breaks_in (placed_stmts ys)))) xs i

pub ruleset break_rules = (breaks_join, breaks_more, breaks_end, lesser_joins, lesser_none)
