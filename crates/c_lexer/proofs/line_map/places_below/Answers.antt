use Rattle.std.proofs.Common.{arith, rules, of_calls, ltb-true, ltb-false}
use Rattle.std.specs.Prelude.{nat_lt}
use Rattle.std.proofs.lemmas.Fn.{always_returns_same}
use Rattle.std.proofs.lemmas.List.Sorted.{IsPartitionedBy-ltb, IsNonDecreasingBy-from_default}
use Rattle.c_lexer.proofs.line_map.places_below.Goals as goal

pub returns : goal.returns
returns c =
    let places = c.args.places.now in
    let place = c.args.place in
    let sorted = IsPartitionedBy-ltb (λ x. x) places place (IsNonDecreasingBy-from_default (λ x. x) places 0 (λ i j h l. c.requires j l i h)) in
    let point = c.partition_point.ensures.partitioned (λ y. nat_lt y place) (always_returns_same _ _ _ (λ a r f k. search (rules, of_calls))) sorted in
    (c.partition_point.ensures.bound, (λ i h. ltb-true _ place (point.0 i 0 (omega arith) h)), (λ i h l. ltb-false _ place (point.1 i 0 h l)))
