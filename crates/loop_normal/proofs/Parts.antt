-- The statements of one part more, and a head with all its parts.
use Rattle.std.proofs.Common.{◌≡◌, refl, sym, ap, ◌∙◌, ℕ, Some, List, [], ◌∷◌, ◌++◌}
use Rattle.c_tree.specs.Bare as b
use Rattle.c_tree.specs.Bare.{Stmts, no_stmts, more_stmts}
use Rattle.c_tree.specs.BareOf.{bare_expr, bare_head, bare_stmt, head_layer, stmt_layer}
use Rattle.c_tree.specs.declared.tree.Expr.{Expr}
use Rattle.c_tree.specs.declared.tree.Stmt.{Stmt}
use Rattle.c_tree.specs.declared.tree.ForHead.{roll-ForHead, fold-roll-ForHead}
use Rattle.loop_normal.specs.Gens.{join, part_stmts, parts_stmts}
use Rattle.loop_normal.specs.GenOf.{bare_part, bare_parts}
use Rattle.loop_normal.specs.declared.generated.GenPart.{GenPart}

join_none : (a : Stmts) → join a no_stmts ≡ a
join_none no_stmts = refl
join_none (more_stmts a as') = ap (more_stmts a) (join_none as')

join_assoc : (a b c : Stmts) → join (join a b) c ≡ join a (join b c)
join_assoc no_stmts b c = refl
join_assoc (more_stmts a as') b c = ap (more_stmts a) (join_assoc as' b c)

pub parts_more : (xs : List GenPart) (x : GenPart) → parts_stmts (bare_parts (xs ++ x ∷ [])) ≡ join (parts_stmts (bare_parts xs)) (part_stmts (bare_part x))
parts_more [] x = join_none (part_stmts (bare_part x))
parts_more (y ∷ xs) x = ap (join (part_stmts (bare_part y))) (parts_more xs x) ∙ sym (join_assoc (part_stmts (bare_part y)) (parts_stmts (bare_parts xs)) (part_stmts (bare_part x)))

pub head_whole : (init : Stmt) (i : ℕ) (test : Expr) (t : ℕ) (step : Stmt) (n : ℕ) →
    bare_head (roll-ForHead (record { init = Some init; init_at = i; test = Some test; test_at = t; step = Some step; step_at = n })) ≡ b.head (b.a_stmt (bare_stmt init)) (Some (bare_expr test)) (b.a_stmt (bare_stmt step))
head_whole init i test t step n = fold-roll-ForHead b.Stmt b.Head stmt_layer head_layer (record { init = Some init; init_at = i; test = Some test; test_at = t; step = Some step; step_at = n })

pub ruleset parts = (parts_more)
