-- What one item of an `apply` clause does.
use Rattle.std.specs.Prelude.{ℕ, ◌+◌, List, [], ◌∷◌}
use Rattle.c_tree.specs.Placed.{Item, nothing, acts}
use Rattle.c_semantics.specs.Meaning.Expressions.{Define}
use Rattle.canonical_nests.specs.LoopRules.BreachSets.{BreachSet, none}
use Rattle.canonical_nests.specs.LoopRules.Clauses.{directive_breaches}

-- the position on which it puts a directive, on the loop with this number after n others
abbrev pub put_one : ℕ → ℕ → Item → List ℕ
put_one n p (nothing s) = []
put_one n p (acts d) = (n + p) ∷ []

-- the breaches of its directive
abbrev pub item_breaches : List Define → Item → BreachSet
item_breaches ds (nothing s) = none
item_breaches ds (acts d) = directive_breaches ds d
