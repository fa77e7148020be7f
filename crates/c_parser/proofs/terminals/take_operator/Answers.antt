use Rattle.std.proofs.Common.{sym, ◌∙◌}
use Rattle.c_parser.proofs.TerminalsTaken.{past_assign, past_step, assign_taken, step_taken, operator_untaken}
use Rattle.c_parser.proofs.terminals.take_operator.Goals as goal

pub advance-requires : goal.advance-requires
advance-requires c = past_assign c.first-token.result.now c.args.cursor.now c.terminal_of-terminal.result c.in-Some.op c.first-token.ensures.ended c.first-token.ensures.first c.terminal_of-terminal.ensures c.in-Some.ensures

pub returns-in-Some : goal.returns-in-Some
returns-in-Some c = assign_taken c.first-token.result.now c.args.cursor.now c.advance.new.self c.terminal_of-terminal.result c.in-Some.op c.first-token.ensures.first c.advance.ensures c.terminal_of-terminal.ensures c.in-Some.ensures

pub advance-requires-in-Some-steps : goal.advance-requires-in-Some-steps
advance-requires-in-Some-steps c = past_step c.first-token.result.now c.args.cursor.now c.terminal_of-terminal.result c.in-Some-steps.up c.first-token.ensures.ended c.first-token.ensures.first c.terminal_of-terminal.ensures c.in-Some-steps.ensures

pub returns-in-Some-steps : goal.returns-in-Some-steps
returns-in-Some-steps c = step_taken c.first-token.result.now c.args.cursor.now c.advance-in-Some-steps.new.self c.terminal_of-terminal.result c.in-Some-steps.up c.first-token.ensures.first c.advance-in-Some-steps.ensures c.terminal_of-terminal.ensures (sym c.in_default.is ∙ c.assigns.ensures) c.in-Some-steps.ensures

pub returns-in-None : goal.returns-in-None
returns-in-None c = operator_untaken c.first-token.result.now c.args.cursor.now c.args.cursor.now c.terminal_of-terminal.result c.blamed.result c.first-token.ensures.first c.terminal_of-terminal.ensures (sym c.in_default.is ∙ c.assigns.ensures) c.in-None.ensures c.blamed.ensures
