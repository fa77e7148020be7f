-- Statements with one more.
use Rattle.std.proofs.Common.{◌≡◌, max, List, [], ◌∷◌, ◌++◌, refl, ap}
use Rattle.c_tree.specs.Placed as placed
use Rattle.c_tree.specs.PlacedOf.{placed_stmt, placed_stmts}
use Rattle.c_tree.specs.declared.tree.Stmt.{Stmt}
use Rattle.pragma_grammar.specs.declared.directive_kept.Kept as code
use Rattle.pragma_grammar.specs.declared.directive_kept.Kept.TheVariants.{Whole, Deep}
use Rattle.pragma_grammar.specs.DirectiveKept.{kept, both}
use Rattle.pragma_grammar.specs.DirectiveStands.{pushed}
use Rattle.c_parser.specs.Kept.{stmt_of, stmts_of, join_last}

more_stmts : (xs : List Stmt) (s : Stmt) → placed_stmts (xs ++ s ∷ []) ≡ join_last (placed_stmts xs) (placed_stmt s)
more_stmts [] s = refl
more_stmts (x ∷ xs) s = ap (placed.more_stmts (placed_stmt x)) (more_stmts xs s)

pub stmts_pushed : (l : code.Kept (List Stmt)) (s : code.Kept Stmt) → stmts_of (pushed l s) ≡ both join_last (stmts_of l) (stmt_of s)
stmts_pushed (Whole xs g) (Whole x h) = ap (λ z. kept (max g h) z) (more_stmts xs x)
stmts_pushed (Whole xs g) (Deep p) = refl
stmts_pushed (Deep p) s = refl
