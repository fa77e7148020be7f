use Rattle.std.proofs.Common.{sym, ◌∙◌}
use Rattle.c_grammar.proofs.Classes.{false_true}
use Rattle.c_parser.proofs.ConstantsTaken.{number_taken, number_untaken}
use Rattle.c_parser.proofs.constants.number.Goals as goal

pub returns-then-is_number : goal.returns-then-is_number
returns-then-is_number c = number_taken c.args.negative c.constant-value.result.2 c.constant-value.result.0 c.constant-value.result.1 c.first-token.result.now c.args.cursor.now c.advance.new.self c.first-token.ensures.first c.advance.ensures (c.constant-value.ensures (c.is_number.ensures.0 c.if-is_number.true))

pub returns-else-is_number : goal.returns-else-is_number
returns-else-is_number c = number_untaken c.args.negative c.first-token.result.now c.args.cursor.now c.args.cursor.now c.blamed.result c.first-token.ensures.first (λ q. false_true (sym c.if-is_number.false ∙ c.is_number.ensures.1 q)) c.blamed.ensures
