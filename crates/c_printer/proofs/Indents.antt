-- The spaces of a level: four, and those of the level before it.
use Rattle.std.proofs.Common.{◌≡◌, ◌<◌, ◌-◌, ◌++◌, ℕ, zero, suc, ap, sym, arith}
use Rattle.std.specs.Prelude.{codes}
use Rattle.c_printer.specs.Layout.{text, indent}

pub indent_more : (level : ℕ) → 0 < level → text (indent level) ≡ codes "    " ++ text (indent (level - 1))
indent_more zero h = absurd (omega arith)
indent_more (suc level) h =
    let e : suc level - 1 ≡ level = omega arith in
    ap (λ z. codes "    " ++ text (indent z)) (sym e)
