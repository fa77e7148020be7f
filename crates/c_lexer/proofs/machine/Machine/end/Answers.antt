use Rattle.std.proofs.Common.{◌∙◌}
use Rattle.c_lexer.proofs.Endings.{closed_text}
use Rattle.c_lexer.proofs.machine.Machine.end.Goals as goal

pub returns-clause-ok : goal.returns-clause-ok
returns-clause-ok c =
    closed_text c.args.self.tokens.0 c.args.self.tokens.1 _ _ _ _ _ c.in_ok-line.line c.args.at _ c.in_ok-push_line_end.ensures.ok c.in_ok-push_token.ensures.ok
    (c.push_token.ensures.before ∙ c.push_line_end.ensures.before ∙ c.end_piece.ensures.before) c.into_tokens.ensures c.in_ok-line.ensures.ok
