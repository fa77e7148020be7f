use Rattle.std.proofs.Common.{sym, ◌∙◌}
use Rattle.c_grammar.proofs.Classes.{false_true}
use Rattle.c_parser.proofs.ConstantsTaken.{value_opens, value_bare}
use Rattle.c_parser.proofs.constants.opens.Goals as goal

pub returns-then-is_round_open : goal.returns-then-is_round_open
returns-then-is_round_open c = value_opens c.first.result.now c.args.cursor.now c.advance.new.self c.first.ensures.first c.advance.ensures (c.is_round_open.ensures.0 c.if-is_round_open.true)

pub returns-else-is_round_open : goal.returns-else-is_round_open
returns-else-is_round_open c = value_bare c.first.result.now c.args.cursor.now c.first.ensures.first (λ q. false_true (sym c.if-is_round_open.false ∙ c.is_round_open.ensures.1 q))
