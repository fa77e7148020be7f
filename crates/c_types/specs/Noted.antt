-- Declarations in their order, and what a name means among them.
use Rattle.std.specs.Prelude.{List, [], ◌∷◌, ◌++◌, length, Option, Some, None, if◌then◌else◌, bytes_eq}
use Rattle.c_tree.specs.Bare.{Name}
use Rattle.c_tree.specs.declared.name_rule.Declaration.{Declaration}
use Rattle.c_tree.specs.declared.name_rule.Entity.{Entity}
use Rattle.c_tree.specs.NameRules.DeclaredNames.{with_name}
use Rattle.c_types.specs.declared.declarations.Visible.{Visible}

-- the declarations, the latest last, and each name that was noted, once
pub record Noted : Type 0 where
  pub declarations : List Declaration
  pub names : List Name

abbrev pub nothing : Noted
nothing = record { declarations = []; names = [] }

abbrev pub with_declaration : Name → Entity → Noted → Noted
with_declaration x e n = record { declarations = n.declarations ++ record { name = x; entity = e } ∷ []; names = with_name x n.names }

-- what the latest declaration of a name says, and its index, where the latest stands first
abbrev pub visible : Name → List Declaration → Option Visible
visible x [] = None
visible x (d ∷ ds) = if bytes_eq x d.name then Some (record { entity = d.entity; index = length ds }) else visible x ds
