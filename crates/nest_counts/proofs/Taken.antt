-- A directive that breaks no rule of clauses takes a loop at least, and asks for one.
use Rattle.std.proofs.Common.{◌≡◌, ℕ, ◌<◌, List, map, length, Option, Some, None, Bool, true, false, arith}
use Rattle.std.specs.Prelude.{unwrap_or, if◌then◌else◌}
use Rattle.c_tree.specs.Bare as b
use Rattle.c_tree.specs.Placed.{Exprs, no_exprs, more_exprs, Directive, directive, Clauses, no_clauses, more_clauses, clause, sizes}
use Rattle.c_tree.specs.Forget.{forget_exprs, forget_clauses, forget_directive}
use Rattle.c_tree.specs.WellFormed.{IsNotEmpty, WellFormedDirective, WellFormedClauses}
use Rattle.c_tree.specs.declared.tree.Kind.TheVariants.{Tile, Unroll, Interchange, Reverse, Split, Fuse}
use Rattle.c_semantics.specs.Laws.LeastNeed.{IsTried, IsNeed}
use Rattle.c_semantics.specs.Meaning.Expressions.{Define}
use Rattle.c_semantics.specs.Loops.Transformations.{Transformation, tile, interchange, reverse_, split, fuse, unroll_full, unroll_partial, Plan, plan}
use Rattle.c_semantics.specs.Loops.Directives.{number, sizes_in, full_in, factor_in, plan_of}
use Rattle.c_semantics.specs.Loops.Need.{takes, need, loops_asked}
use Rattle.c_semantics.proofs.LeastNeed.{least_need}
use Rattle.canonical_nests.specs.declared.rules.LoopRule.TheVariants.{L11}
use Rattle.canonical_nests.specs.LoopRules.BreachSets.{HasNone}
use Rattle.canonical_nests.specs.LoopRules.Clauses.{has_kind, is_sizes, directive_breaches}
use Rattle.canonical_nests.proofs.BreachSets.{none_unless}
use Rattle.nest_counts.specs.Found.{ArgumentsFit}

abbrev pub TakesSome : Plan → Type 0
TakesSome (plan c w) = 0 < takes c

module _ (ds : List Define) where
  some_sizes : (es : Exprs) → IsNotEmpty (forget_exprs es) → 0 < length (map (number ds) (b.expr_list (forget_exprs es)))
  some_sizes no_exprs h = absurd h
  some_sizes (more_exprs e es) h = omega arith

  sizes_are : (cs : Clauses) → WellFormedClauses (forget_clauses cs) → has_kind is_sizes cs ≡ true → 0 < length (map (number ds) (sizes_in (forget_clauses cs)))
  sizes_are no_clauses formed has = absurd (cc)
  sizes_are (more_clauses (clause (sizes es) s) cs) formed has = some_sizes es formed.0.0
  sizes_are (more_clauses (clause c s) cs) formed has = sizes_are cs formed.1 has

  pub takes_some : (d : Directive) → WellFormedDirective (forget_directive d) → HasNone (directive_breaches ds d) → ArgumentsFit (plan_of ds (forget_directive d)) → TakesSome (plan_of ds (forget_directive d))
  takes_some (directive Tile cs s) formed none fit = sizes_are cs formed (none_unless (has_kind is_sizes cs) L11 s.start none.0)
  takes_some (directive Unroll cs s) formed none fit = by (full_in (forget_clauses cs))
    where
      by : (x : Bool) → 0 < takes (if x then unroll_full else unroll_partial (factor_in ds (forget_clauses cs)))
      by true = omega arith
      by false = omega arith
  takes_some (directive Interchange cs s) formed none fit = fit.0.some
  takes_some (directive Reverse cs s) formed none fit = omega arith
  takes_some (directive Split cs s) formed none fit = omega arith
  takes_some (directive Fuse cs s) formed none fit = omega arith

tried_some : (c : Transformation) (k : ℕ) → 0 < takes c → IsTried c k → 0 < k
tried_some (fuse r) k some t = omega arith
tried_some (tile ss) k some t = omega arith
tried_some (interchange ps) k some t = omega arith
tried_some reverse_ k some t = omega arith
tried_some (split cs) k some t = omega arith
tried_some unroll_full k some t = omega arith
tried_some (unroll_partial f) k some t = omega arith

pub asks_some : (p : Plan) (m : ℕ) → TakesSome p → 0 < loops_asked p m
asks_some (plan c w) m some = by (need (plan c w) m) (least_need (plan c w) m)
  where
    by : (o : Option ℕ) → IsNeed (plan c w) m o → 0 < unwrap_or o (takes c)
    by None h = some
    by (Some k) h = tried_some c k some h.0
