use Rattle.std.proofs.Common.{sym, ◌∙◌}
use Rattle.pragma_grammar.proofs.DirectiveNested.{named_pushes}
use Rattle.pragma_grammar.proofs.directive_reading.named_item.Goals as goal

pub returns-in_ok-push-in-Some : goal.returns-in_ok-push-in-Some
returns-in_ok-push-in-Some c = named_pushes _ _ _ _ _ _ _ _ c.in_ok-push-in-Some.ensures.items (sym c.is_nothing.ensures ∙ c.if-is_nothing.false) (sym c.kind_of.ensures ∙ c.in-Some.is) c.begin_directive.ensures
