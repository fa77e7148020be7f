use Rattle.std.proofs.Common.{ap, ◌∙◌}
use Rattle.c_lexer.specs.Numbers.{integer}
use Rattle.c_lexer.proofs.Endings.{closed_number}
use Rattle.c_lexer.proofs.machine.Machine.end_constant.Goals as goal

pub returns-in_ok-push_token-in-Some-clause-ok : goal.returns-in_ok-push_token-in-Some-clause-ok
returns-in_ok-push_token-in-Some-clause-ok c =
    closed_number _ _ _ _ _ _ c.args.start c.args.at (c.in-Some.ensures ∙ ap integer c.bytes.ensures) c.in_ok-push_token-in-Some.ensures.ok c.with_token.ensures
