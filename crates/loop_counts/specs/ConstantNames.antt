-- What a name is defined as.
use Rattle.std.specs.Prelude.{List, [], ◌∷◌, Option, Some, None, bytes_eq, if◌then◌else◌}
use Rattle.c_tree.specs.Bare.{Name}
use Rattle.c_tree.specs.declared.constant.TypedValue.{TypedValue}
use Rattle.c_semantics.specs.Meaning.Expressions.{Define}

-- the latest define counts, which stands first
abbrev pub constant_named : List Define → Name → Option TypedValue
constant_named [] x = None
constant_named (d ∷ ds) x = if bytes_eq x d.name then Some (record { ty = d.ty; value = d.value }) else constant_named ds x
