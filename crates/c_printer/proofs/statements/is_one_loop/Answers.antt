-- Two statements or more are no single loop.
use Rattle.std.proofs.Common.{◌≡◌, ◌≤◌, ℕ, List, [], ◌∷◌, length, false, refl, arith}
use Rattle.c_tree.specs.BareOf.{bare_stmts}
use Rattle.c_tree.specs.declared.tree.Stmt.{Stmt}
use Rattle.c_printer.specs.Statements.{is_one_loop}
use Rattle.c_printer.proofs.statements.is_one_loop.Goals as goal

several : (xs : List Stmt) → 2 ≤ length xs → false ≡ is_one_loop (bare_stmts xs)
several [] h = refl
several (x ∷ []) h = absurd (omega arith)
several (x ∷ y ∷ xs) h = refl

pub returns-in-len2-up : goal.returns-in-len2-up
returns-in-len2-up c = several c.args.stmts.now (omega arith)
