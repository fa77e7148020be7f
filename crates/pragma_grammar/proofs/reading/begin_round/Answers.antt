use Rattle.std.proofs.Common.{◌≡◌, subst, ap, ◌∙◌, IfOk}
use Rattle.pragma_grammar.specs.Symbols.{symbol}
use Rattle.pragma_grammar.specs.Stands.{phrases, came, begin}
use Rattle.pragma_grammar.proofs.Turns.{no_type_begins}
use Rattle.pragma_grammar.proofs.reading.begin_round.Goals as goal

pub returns-in_ok-open_phrase-in-None : goal.returns-in_ok-open_phrase-in-None
returns-in_ok-open_phrase-in-None c =
    subst (λ z. IfOk c.begin.result (λ m. came m (phrases c.begin.new.stack.items) ≡ z))
    (ap (λ k. begin k (symbol c.args.token.now)) c.in_ok-open_phrase-in-None.ensures
    ∙ no_type_begins c.args.first (phrases c.args.stack.now.items) (symbol c.args.token.now) c.terminal_of.result c.begun_type.result c.terminal_of.ensures c.begun_type.ensures c.in-None.is)
    c.begin.ensures
