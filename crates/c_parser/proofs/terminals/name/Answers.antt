use Rattle.std.proofs.Common.{◌∙◌, sym}
use Rattle.c_grammar.proofs.Classes.{false_true}
use Rattle.c_parser.proofs.TerminalsTaken.{past_other, not_end_name, name_taken, name_untaken}
use Rattle.c_parser.proofs.terminals.name.Goals as goal

pub advance-requires : goal.advance-requires
advance-requires c = past_other c.first-token.result.now c.args.cursor.now c.first-token.ensures.ended c.first-token.ensures.first (not_end_name c.first-token.result.now (c.is_name.ensures.0 c.if-is_name.true))

pub returns-in_ok-name : goal.returns-in_ok-name
returns-in_ok-name c = name_taken c.first-token.result.now c.args.cursor.now c.advance.new.self c.spelling.result.now c.in_ok-name.name c.first-token.ensures.first c.advance.ensures (c.spelling.ensures (c.is_name.ensures.0 c.if-is_name.true)) c.in_ok-name.ensures

pub returns-else-is_name : goal.returns-else-is_name
returns-else-is_name c = name_untaken c.first-token.result.now c.args.cursor.now c.args.cursor.now c.blamed.result c.first-token.ensures.first (λ q. false_true (sym c.if-is_name.false ∙ c.is_name.ensures.1 q)) c.blamed.ensures
