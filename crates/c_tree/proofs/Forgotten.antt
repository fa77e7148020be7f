-- The bare tree of a tree of the code is its tree with places without the places. Each module goes by induction over
-- a type of the code: in one layer of a value, each child stands there with what is known of it.
pub mod Exprs
pub mod Directives
pub mod Stmts
pub mod Programs
use Rattle.c_tree.proofs.Forgotten.Exprs.{bare_expr_is, bare_exprs_is, bare_option_is, bare_target_is}
use Rattle.c_tree.proofs.Forgotten.Directives.{bare_directive_is, bare_clause_is}
use Rattle.c_tree.proofs.Forgotten.Stmts.{bare_stmt_is, bare_stmts_is, bare_head_is}
use Rattle.c_tree.proofs.Forgotten.Programs.{bare_top_is, bare_program_is}

pub ruleset forgotten = (bare_expr_is, bare_exprs_is, bare_option_is, bare_target_is, bare_directive_is, bare_clause_is, bare_stmt_is, bare_stmts_is, bare_head_is, bare_top_is, bare_program_is)
