use Rattle.std.proofs.Common.{refl, subst, Some, None}
use Rattle.c_tree.specs.Placed.{decl, input, target, no_exprs, more_stmts}
use Rattle.c_parser.specs.Declarations.{unset, valued, read_in, IsSaid}
use Rattle.c_parser.proofs.Built.{built_decl, built_input}
use Rattle.c_parser.proofs.Declaring.{grown, grown_if_ok, said_if_ok, bare_target}
use Rattle.c_parser.proofs.HeadsTaken.{kept_test, kept_untested}
use Rattle.c_parser.proofs.declarations.declared.Goals as goal

pub returns-in-Unset : goal.returns-in-Unset
returns-in-Unset c = λ d before q g. said_if_ok _ before d unset c.args.ty c.args.from c.args.name c.args.name_at c.args.to (subst (λ z. IsSaid z d) c.in-Unset.is q) (grown_if_ok _ _ _ before (decl c.args.ty c.args.name c.args.name_at None (record { start = c.args.from; end = c.args.to })) g (built_decl _ _ c.args.ty c.args.name c.args.name_at None (record { start = c.args.from; end = c.args.to }) (record { start = c.args.from; end = c.args.to }) refl c.declaration.ensures (kept_untested c.none.result c.none.ensures)) c.add_stmt.ensures)

pub returns-in-Valued : goal.returns-in-Valued
returns-in-Valued c = λ d before q g. let i = subst (λ z. IsSaid z d) c.in-Valued.is q in said_if_ok _ before d (valued i.0) c.args.ty c.args.from c.args.name c.args.name_at c.args.to i.2 (grown_if_ok _ _ _ before (decl c.args.ty c.args.name c.args.name_at (Some i.0) (record { start = c.args.from; end = c.args.to })) g (built_decl _ _ c.args.ty c.args.name c.args.name_at (Some i.0) (record { start = c.args.from; end = c.args.to }) (record { start = c.args.from; end = c.args.to }) refl c.declaration-in-Valued.ensures (kept_test i.0 c.in-Valued.value c.some.result c.some.ensures i.1)) c.add_stmt-in-Valued.ensures)

pub returns-in_ok-stmts-in-ReadIn : goal.returns-in_ok-stmts-in-ReadIn
returns-in_ok-stmts-in-ReadIn c = λ d before q g. said_if_ok _ before d (read_in c.in-ReadIn.at) c.args.ty c.args.from c.args.name c.args.name_at c.args.to (subst (λ z. IsSaid z d) c.in-ReadIn.is q) (grown_if_ok _ _ _ (λ rs. before (more_stmts (decl c.args.ty c.args.name c.args.name_at None (record { start = c.args.from; end = c.args.name_at.end })) rs)) (input (target c.args.name no_exprs c.args.name_at) c.in-ReadIn.at (record { start = c.args.name_at.start; end = c.args.to })) (grown _ _ _ before (decl c.args.ty c.args.name c.args.name_at None (record { start = c.args.from; end = c.args.name_at.end })) g (built_decl _ _ c.args.ty c.args.name c.args.name_at None (record { start = c.args.from; end = c.args.name_at.end }) (record { start = c.args.from; end = c.args.name_at.end }) refl c.declaration-in-ReadIn.ensures (kept_untested c.none-in-ReadIn.result c.none-in-ReadIn.ensures)) c.in_ok-stmts-in-ReadIn.ensures) (built_input _ _ c.in-ReadIn.at (target c.args.name no_exprs c.args.name_at) (record { start = c.args.name_at.start; end = c.args.to }) (record { start = c.args.name_at.start; end = c.args.to }) refl c.input.ensures (bare_target _ _ _ _ _ c.target_node-target.ensures c.in_ok-variable-in-ReadIn.ensures c.no_exprs.ensures)) c.add_stmt-in-ReadIn-2.ensures)
