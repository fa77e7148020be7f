-- The parts of a well-formed head.
use Rattle.std.proofs.Common.{◌≡◌, subst, Some}
use Rattle.std.specs.Option.{option_map}
use Rattle.c_tree.specs.BareOf.{bare_expr, bare_stmt, bare_head, maybe_stmt}
use Rattle.c_tree.specs.WellFormed.{WellFormedExpr, WellFormedOption, WellFormedStmt, WellFormedPart, WellFormedHead}
use Rattle.c_tree.specs.declared.tree.Expr.{Expr}
use Rattle.c_tree.specs.declared.tree.Stmt.{Stmt}
use Rattle.c_tree.specs.declared.tree.ForHead.{ForHead, out-ForHead}
use Rattle.c_tree.proofs.Heads.{bare_head_out}

module _ (h : ForHead) (w : WellFormedHead (bare_head h)) where
  pub init_well_formed : WellFormedPart (maybe_stmt (option_map bare_stmt (out-ForHead h).init))
  init_well_formed = (subst WellFormedHead (bare_head_out h) w).1

  pub test_well_formed : WellFormedOption (option_map bare_expr (out-ForHead h).test)
  test_well_formed = (subst WellFormedHead (bare_head_out h) w).2

  pub step_well_formed : WellFormedPart (maybe_stmt (option_map bare_stmt (out-ForHead h).step))
  step_well_formed = (subst WellFormedHead (bare_head_out h) w).4

  pub init_is_formed : (a : Stmt) → (out-ForHead h).init ≡ Some a → WellFormedStmt (bare_stmt a)
  init_is_formed a e = subst (λ o. WellFormedPart (maybe_stmt (option_map bare_stmt o))) e init_well_formed

  pub test_is_formed : (a : Expr) → (out-ForHead h).test ≡ Some a → WellFormedExpr (bare_expr a)
  test_is_formed a e = subst (λ o. WellFormedOption (option_map bare_expr o)) e test_well_formed

  pub step_is_formed : (a : Stmt) → (out-ForHead h).step ≡ Some a → WellFormedStmt (bare_stmt a)
  step_is_formed a e = subst (λ o. WellFormedPart (maybe_stmt (option_map bare_stmt o))) e step_well_formed

pub ruleset heads = (bare_head_out, init_well_formed, step_well_formed)

pub ruleset parts = (bare_head_out, init_is_formed, test_is_formed, step_is_formed)
