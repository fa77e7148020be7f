use Rattle.std.proofs.Common.{◌≡◌, subst, ap, IfOk}
use Rattle.pragma_grammar.specs.Symbols.{symbol}
use Rattle.pragma_grammar.specs.Stands.{kept_of, phrases, turned, closes}
use Rattle.pragma_grammar.proofs.Turns.{popped}
use Rattle.pragma_grammar.proofs.reading.close.Goals as goal

pub returns-in-Some-clause-turned : goal.returns-in-Some-clause-turned
returns-in-Some-clause-turned c =
    subst (λ z. IfOk c.close_phrase.result (λ t. turned t (phrases c.close_phrase.new.stack.items) (symbol c.args.token.now) ≡ z))
    (ap (λ k. closes k (kept_of c.args.operand) c.args.at (symbol c.args.token.now)) (popped _ _ _ _ c.pop.ensures.items c.in-Some.is))
    c.close_phrase.ensures.turned
