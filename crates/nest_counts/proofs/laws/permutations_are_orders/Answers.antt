-- One that is missing would leave too little room for the others.
use Rattle.nest_counts.proofs.Orders.{permutations_are_orders}
use Rattle.nest_counts.proofs.laws.permutations_are_orders.Goals as goal

pub returns : goal.returns
returns c = permutations_are_orders
