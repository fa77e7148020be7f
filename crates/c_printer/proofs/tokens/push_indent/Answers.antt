-- Four spaces more are written, and four fewer are left.
use Rattle.std.proofs.Common.{◌≡◌, ◌<◌, ◌-◌, ◌++◌, ℕ, List, ap, sym, ◌∙◌, append_assoc, arith}
use Rattle.std.specs.Prelude.{codes}
use Rattle.c_printer.specs.Layout.{text, indent}
use Rattle.c_printer.proofs.Indents.{indent_more}
use Rattle.c_printer.proofs.tokens.push_indent.Goals as goal

step : (old new all : List ℕ) (left : ℕ) → 0 < left → new ≡ old ++ codes "    " → old ++ text (indent left) ≡ all → new ++ text (indent (left - 1)) ≡ all
step old new all left h added so_far =
    ap (λ z. z ++ text (indent (left - 1))) added
    ∙ append_assoc old (codes "    ") (text (indent (left - 1)))
    ∙ ap (λ z. old ++ z) (sym (indent_more left h))
    ∙ so_far

pub loop-left-preserved : goal.loop-left-preserved
loop-left-preserved c = step _ _ _ c.loop-left.left (omega arith) c.in_ok-extend_from_slice.ensures.items c.loop-left.invariant
