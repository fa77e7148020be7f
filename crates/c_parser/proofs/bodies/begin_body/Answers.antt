use Rattle.std.proofs.Common.{◌++◌, ◌∷◌, [], length, refl}
use Rattle.c_parser.specs.declared.beginnings.Beginning.TheVariants as b
use Rattle.c_parser.specs.declared.owners.Frame.TheVariants as fr
use Rattle.c_parser.proofs.Beginning.{past_beginning, other_than}
use Rattle.c_parser.proofs.Passing.{first_passed}
use Rattle.c_parser.proofs.Lists.{First, begins_body, body_opens, lessens_pushed}
use Rattle.c_parser.proofs.bodies.begin_body.Goals as goal

pub advance-requires : goal.advance-requires
advance-requires c = past_beginning c.first-token.result.now c.args.cursor.now c.terminal_of.result c.beginning_of.result b.CurlyOpen c.first-token.ensures.ended c.first-token.ensures.first c.terminal_of.ensures c.beginning_of.ensures c.in-CurlyOpen.is (other_than b.CurlyOpen tt)

pub returns-in-CurlyOpen-clause-steps : goal.returns-in-CurlyOpen-clause-steps
returns-in-CurlyOpen-clause-steps c = λ outer holder. body_opens outer (outer ++ fr.Owner holder ∷ []) holder c.no_stmts.result c.first-token.result.now.span c.first-token.result.now c.args.cursor.now c.advance.new.self c.terminal_of.result c.beginning_of.result (record { first = c.first-token.ensures.first; terminal = c.terminal_of.ensures; beginning = c.beginning_of.ensures }) c.in-CurlyOpen.is c.advance.ensures refl c.no_stmts.ensures

pub returns-in-CurlyOpen-clause-lessens : goal.returns-in-CurlyOpen-clause-lessens
returns-in-CurlyOpen-clause-lessens c = λ outer holder m. lessens_pushed outer (outer ++ fr.Owner holder ∷ []) (fr.Owner holder) (length c.advance.new.self) (length c.args.cursor.now) refl (first_passed c.first-token.result.now c.args.cursor.now c.advance.new.self c.first-token.ensures.first c.advance.ensures)

pub stmt_of_body-requires : goal.stmt_of_body-requires
stmt_of_body-requires c = begins_body c.first-token.result.now c.args.cursor.now c.terminal_of.result c.beginning_of.result (record { first = c.first-token.ensures.first; terminal = c.terminal_of.ensures; beginning = c.beginning_of.ensures }) c.in_default.not-CurlyOpen
