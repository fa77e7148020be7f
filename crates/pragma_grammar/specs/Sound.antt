-- Symbols as a lexer gives them: each name is a word that is no keyword, and the type of a number holds its value.
use Rattle.std.specs.Prelude.{List, [], ◌∷◌}
use Rattle.c_tree.specs.WellFormed.{IsName}
use Rattle.c_tree.specs.Constants.{IsHeld}
use Rattle.pragma_grammar.specs.Symbols.{Symbol, name, number, punct, keyword, static, hash, line_end, end}

abbrev pub IsSound : Symbol → Type 0
IsSound (name x s) = IsName x
IsSound (number n ty plain_zero s) = IsHeld ty n
IsSound (punct p s) = Unit {0}
IsSound (keyword k s) = Unit {0}
IsSound (static s) = Unit {0}
IsSound (hash s) = Unit {0}
IsSound (line_end s) = Unit {0}
IsSound (end s) = Unit {0}

abbrev pub AreSound : List Symbol → Type 0
AreSound [] = Unit {0}
AreSound (t ∷ ts) = IsSound t × AreSound ts
