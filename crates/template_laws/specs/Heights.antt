-- How high the answer of a rewrite is, by the height of what it is made of.
use Rattle.std.specs.Prelude.{ℕ, ◌+◌, ◌≤◌, max, Option, Some, None}
use Rattle.c_tree.specs.Bare.{Name, Stmts}
use Rattle.c_tree.specs.Height.{expr_height, stmts_height}
use Rattle.loop_normal.specs.DrawnNames.{FreshNames}
use Rattle.loop_normal.specs.Gens.{Gen, emit}
use Rattle.loop_normal.specs.Templates.{LoopNames, SourceLoop, leaf}
use Rattle.loop_normal.specs.FromZero.{from_zero}
use Rattle.nest_normal.specs.NestTexts.{nest_round, with_count}
use Rattle.permute_reverse.specs.Reversed.{reversed_gen}

abbrev pub height : Gen → ℕ
height g = stmts_height (emit g)

-- the bounds and the count of a loop are declared: a count is at most 7 high
abbrev pub front_height : SourceLoop → ℕ
front_height h = max 8 (1 + max (expr_height h.lb) (expr_height h.ub))

-- one for the loop, and one for the body's block
abbrev pub LeafIsLow : Type 0
LeafIsLow = (m : LoopNames) (h : SourceLoop) (body : Stmts) → height (leaf m h body) ≤ max (front_height h) (2 + stmts_height body)

-- one for the loop, and four where the nest is lower than the variable that is declared in it
abbrev pub RoundIsLow : Type 0
RoundIsLow = (m : LoopNames) (h : SourceLoop) (g : Gen) → height (nest_round m h g) ≤ max (front_height h) (5 + height g)

abbrev pub RebaseIsLow : Type 0
RebaseIsLow = (f : FreshNames) (g : Gen) → height (from_zero f g) ≤ 1 + height g

-- what a new counter adds
abbrev pub counter_height : Option Name → ℕ
counter_height None = 0
counter_height (Some r) = 1

abbrev pub CountIsLow : Type 0
CountIsLow = (d k : ℕ) (r : Option Name) (g : Gen) → height (with_count d k r g) ≤ counter_height r + height g

abbrev pub ReverseIsLow : Type 0
ReverseIsLow = (r : Name) (f : FreshNames) (g : Gen) → height (reversed_gen r (from_zero f g)) ≤ 2 + height g
