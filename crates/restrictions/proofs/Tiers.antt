-- The first of two sets that has a breach, by the least of the first.
use Rattle.std.proofs.Common.{◌≡◌, ◌∙◌, sym, Option, Some, None}
use Rattle.canonical_nests.specs.declared.rules.LoopBreach.{LoopBreach}
use Rattle.canonical_nests.specs.LoopRules.BreachSets.{BreachSet, or_else, least}
use Rattle.canonical_nests.proofs.Order.{else_first, else_second}

pub tier_first : (xs ys : BreachSet) (o : Option LoopBreach) (b : LoopBreach) → o ≡ least xs → o ≡ Some b → Some b ≡ least (or_else xs ys)
tier_first xs ys o b is some = sym (else_first xs ys b (sym is ∙ some))

pub tier_second : (xs ys : BreachSet) (o r : Option LoopBreach) → o ≡ least xs → o ≡ None → r ≡ least ys → r ≡ least (or_else xs ys)
tier_second xs ys o r is none r_is = r_is ∙ sym (else_second xs ys (sym is ∙ none))

pub ruleset tiers = (tier_first, tier_second)
