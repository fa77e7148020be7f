-- Names that are all different.
use Rattle.std.specs.Prelude.{List, [], ◌∷◌}
use Rattle.c_tree.specs.Bare.{Name}
use Rattle.loop_normal.specs.FreshNames.{Apart}

-- each name once
abbrev pub AllApart : List Name → Type 0
AllApart [] = Unit {0}
AllApart (x ∷ xs) = Apart x xs × AllApart xs
