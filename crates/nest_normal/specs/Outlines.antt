-- The loops and the leaves that the code of a nest shows.
use Rattle.std.specs.Prelude.{◌≡◌, ℕ, List, None}
use Rattle.c_tree.specs.Bare.{Stmts}
use Rattle.c_semantics.specs.Meaning.State.{State}
use Rattle.c_semantics.specs.Meaning.Expressions.{Define}
use Rattle.c_semantics.specs.Structure.Parts.{Shape, nested}
use Rattle.c_semantics.specs.Structure.Skeleton.{all_shapes}
use Rattle.loop_normal.specs.Gens.{GenLoop, join, loop_stmts, emit}
use Rattle.loop_normal.specs.Templates.{LoopNames, SourceLoop, source_front}
use Rattle.nest_normal.specs.NestTexts.{nest_of, innermost, loop_round, at_loop, counted_to}
use Rattle.nest_normal.specs.OuterVariables.{Outer, declared}

-- the list has these in every scope
abbrev pub Shows : List Define → Stmts → List Shape → Type 0
Shows ds as' xs = (s : State) → all_shapes ds s as' ≡ xs

-- whatever follows the front shows is all that there is
abbrev pub ShowsNothing : List Define → Stmts → Type 0
ShowsNothing ds front = (rest : Stmts) (xs : List Shape) → Shows ds rest xs → Shows ds (join front rest) xs

-- whatever outer variables are declared below the innermost loop
abbrev pub NestShows : List Define → GenLoop → List Shape → Type 0
NestShows ds l xs = (os : List Outer) → Shows ds (loop_stmts (declared os l)) xs

-- the normal form has one `for` loop for each loop, in their order, and the leaves of the body, once
abbrev pub NestsAreShown : Type 0
NestsAreShown =
    (ds : List Define) (m : LoopNames) (h : SourceLoop) →
    ((as' : Stmts) (xs : List Shape) → Shows ds as' xs → NestShows ds (innermost m h as') (nested 1 xs))
    × ((l : GenLoop) (xs : List Shape) → NestShows ds l xs → NestShows ds (loop_round m h l) (nested 1 xs))
    × ((front : Stmts) → ShowsNothing ds front → ShowsNothing ds (source_front m h front))
    × ((front : Stmts) (l : GenLoop) (xs : List Shape) → ShowsNothing ds front → NestShows ds l xs → Shows ds (emit (nest_of front l)) xs)

-- a known count changes none of them, where no counter is drawn
abbrev pub CountsAreNotShown : Type 0
CountsAreNotShown = (ds : List Define) (d k : ℕ) (l : GenLoop) (s : State) → all_shapes ds s (loop_stmts (at_loop d (counted_to k None) l)) ≡ all_shapes ds s (loop_stmts l)
