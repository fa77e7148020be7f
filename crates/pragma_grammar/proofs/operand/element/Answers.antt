use Rattle.std.proofs.Common.{◌+◌, sym, ap, ◌∙◌}
use Rattle.std.proofs.lemmas.Bool.{iff_false}
use Rattle.pragma_grammar.specs.Kept.{node, keep_element}
use Rattle.pragma_grammar.specs.Stands.{kept_list_of}
use Rattle.pragma_grammar.proofs.Turns.{placed_item, element_kept}
use Rattle.pragma_grammar.proofs.operand.element.Goals as goal

pub returns-else-is_empty : goal.returns-else-is_empty
returns-else-is_empty c =
    c.node.ensures
    ∙ ap (λ x. node (1 + c.in-Trees.height) x c.args.span) (placed_item c.args.name c.in-Trees.trees c.args.span)
    ∙ element_kept c.args.name c.in-Trees.trees c.in-Trees.height c.args.span (λ q. iff_false c.is_empty.ensures c.if-is_empty.false q)
    ∙ ap (λ z. keep_element c.args.name (kept_list_of z) c.args.span) (sym c.in-Trees.is)
