use Rattle.std.proofs.Common.{ap, ◌∙◌}
use Rattle.c_lexer.specs.Cut.{with_token}
use Rattle.c_lexer.specs.Machine.{begin}
use Rattle.c_lexer.proofs.Followed.{gives_follows}
use Rattle.c_lexer.proofs.machine.Machine.end_token.Goals as goal

pub returns-clause-ok : goal.returns-clause-ok
returns-clause-ok c =
    gives_follows c.begin.result c.args.self.now _ c.begin.new.self _ _ _ c.in_ok-push_token.ensures.ok
    (ap (λ l. begin l c.after_kind-before.result c.args.at c.args.byte) c.with_token.ensures ∙
    ap (λ b. begin (with_token c.args.line) b c.args.at c.args.byte) c.after_kind-before.ensures)
    c.begin.ensures.ok
