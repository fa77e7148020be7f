-- Each clause, and then each item.
use Rattle.nest_counts.proofs.Arguments.{arguments_of_rules_fit}
use Rattle.nest_counts.proofs.laws.arguments_of_rules_fit.Goals as goal

pub returns : goal.returns
returns c = arguments_of_rules_fit
