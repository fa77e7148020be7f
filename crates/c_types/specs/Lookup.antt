-- What a table of declarations by name stands for.
use Rattle.std.specs.Prelude.{◌≡◌, List, [], ◌∷◌, map, reverse, Option, Some, None, bytes_eq}
use Rattle.indexmap.specs.IndexMap.{keys, get}
use Rattle.c_tree.specs.Bare.{Name}
use Rattle.c_tree.specs.declared.name_rule.Declaration.{Declaration}
use Rattle.c_types.specs.declared.declarations.Visible.{Visible}
use Rattle.c_types.specs.declared.declarations.Declared.{Declared}
use Rattle.c_types.specs.declared.declarations.Declarations.TheInside.{Inside}
use Rattle.c_types.specs.Noted.{Noted, visible}

abbrev pub declaration_of : Declared → Declaration
declaration_of d = record { name = d.name; entity = d.entity }

abbrev pub declarations_of : List Declared → List Declaration
declarations_of ds = map declaration_of ds

abbrev pub noted_of : Inside → Noted
noted_of t = record { declarations = declarations_of t.declared.items; names = keys t.meanings }

-- what stands for a name that was never noted
abbrev pub or_nothing : Option (Option Visible) → Option Visible
or_nothing None = None
or_nothing (Some o) = o

-- each declaration has what it hides, where the latest stands first
abbrev pub HidesEach : List Declared → Type 0
HidesEach [] = Unit {0}
HidesEach (d ∷ ds) = (d.hides ≡ visible d.name (declarations_of ds)) × HidesEach ds

-- each name has its meaning
pub record IsLookup (t : Inside) : Type 0 where
  pub meanings : (x : Name) → or_nothing (get bytes_eq t.meanings x) ≡ visible x (reverse (declarations_of t.declared.items))
  pub hidden : HidesEach (reverse t.declared.items)
