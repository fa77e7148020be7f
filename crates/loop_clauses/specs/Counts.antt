-- One count of a `counts` clause.
use Rattle.std.specs.Prelude.{List, not}
use Rattle.c_tree.specs.Placed.{expr_span, Count, fill, given}
use Rattle.c_semantics.specs.Meaning.Expressions.{Define}
use Rattle.canonical_nests.specs.declared.rules.LoopRule.TheVariants.{L18}
use Rattle.canonical_nests.specs.LoopRules.BreachSets.{BreachSet, none, breach_if}
use Rattle.canonical_nests.specs.LoopRules.Clauses.{is_constant_from}

-- L18: it isn't a constant of at least 0
abbrev pub one_count : List Define → Count → BreachSet
one_count ds (fill s) = none
one_count ds (given e) = breach_if (not (is_constant_from ds 0 e)) L18 (expr_span e).start
