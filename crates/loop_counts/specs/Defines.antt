-- What a table of defines by name stands for.
use Rattle.std.specs.Prelude.{◌≡◌, List, map, reverse, bytes_eq}
use Rattle.indexmap.specs.IndexMap.{get}
use Rattle.c_tree.specs.Bare.{Name}
use Rattle.c_semantics.specs.Meaning.Expressions.{Define}
use Rattle.loop_counts.specs.ConstantNames.{constant_named}
use Rattle.loop_counts.specs.declared.defines.Constant.{Constant}
use Rattle.loop_counts.specs.declared.defines.Defines.TheInside.{Inside}

abbrev pub define_of : Constant → Define
define_of c = record { name = c.name; ty = c.value.ty; value = c.value.value }

-- the latest first
abbrev pub defines_of : Inside → List Define
defines_of t = map define_of (reverse t.defines.items)

-- each name has what its latest define stands for
abbrev pub IsValued : Inside → Type 0
IsValued t = (x : Name) → get bytes_eq t.values x ≡ constant_named (defines_of t) x
