use Rattle.std.proofs.Common.{◌≡◌, subst, ap, ◌∙◌, IfOk}
use Rattle.pragma_grammar.specs.Symbols.{symbol}
use Rattle.pragma_grammar.specs.Kept.{keep_element}
use Rattle.pragma_grammar.specs.Stands.{kept_list_of, phrases, came, settle}
use Rattle.pragma_grammar.proofs.Turns.{no_subscript}
use Rattle.pragma_grammar.proofs.reading.subscripted.Goals as goal

pub returns-else-is_square_open : goal.returns-else-is_square_open
returns-else-is_square_open c =
    subst (λ z. IfOk c.settle.result (λ m. came m (phrases c.settle.new.stack.items) ≡ z))
    (ap (λ e. settle 8 e c.spanning-at.result (phrases c.args.stack.now.items) (symbol c.args.token.now)) c.element.ensures
    ∙ ap (λ w. settle 8 (keep_element c.args.name (kept_list_of c.args.subscripts) w) w (phrases c.args.stack.now.items) (symbol c.args.token.now)) c.spanning-at.ensures
    ∙ no_subscript c.args.name c.args.first (kept_list_of c.args.subscripts) c.args.last (phrases c.args.stack.now.items) (symbol c.args.token.now) c.terminal_of.result c.is_square_open.result c.terminal_of.ensures c.is_square_open.ensures c.if-is_square_open.false)
    c.settle.ensures
