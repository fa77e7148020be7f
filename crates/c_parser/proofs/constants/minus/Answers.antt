use Rattle.std.proofs.Common.{sym, ◌∙◌}
use Rattle.c_grammar.proofs.Classes.{false_true}
use Rattle.c_parser.proofs.ConstantsTaken.{minus_taken, minus_untaken}
use Rattle.c_parser.proofs.constants.minus.Goals as goal

pub returns-then-is_minus : goal.returns-then-is_minus
returns-then-is_minus c = minus_taken c.first.result.now c.args.cursor.now c.advance.new.self c.first.ensures.first c.advance.ensures (c.is_minus.ensures.0 c.if-is_minus.true)

pub returns-else-is_minus : goal.returns-else-is_minus
returns-else-is_minus c = minus_untaken c.first.result.now c.args.cursor.now c.first.ensures.first (λ q. false_true (sym c.if-is_minus.false ∙ c.is_minus.ensures.1 q))
