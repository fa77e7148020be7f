use Rattle.std.proofs.Common.{◌≡◌, sym, ◌∙◌, subst, IfOk}
use Rattle.pragma_grammar.specs.DirectiveStands.{marked, came, opens, part_of}
use Rattle.pragma_grammar.proofs.DirectiveNested.{first_pushes}
use Rattle.pragma_grammar.proofs.directive_reading.first_item.Goals as goal

pub returns-in_ok-push-in-Some : goal.returns-in_ok-push-in-Some
returns-in_ok-push-in-Some c =
    subst (λ z. IfOk c.after_clause.result (λ m. came m (opens c.after_clause.new.stack.items) ≡ z))
    (first_pushes _ _ _ c.args.name_at _ _ _ (part_of c.new_part.result) (marked c.args.mark c.args.word.now c.args.place) c.in_ok-push-in-Some.ensures.items (sym c.is_nothing.ensures ∙ c.if-is_nothing.false) (sym c.kind_of.ensures ∙ c.in-Some.is) c.new_part.ensures)
    c.after_clause.ensures
