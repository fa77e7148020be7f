-- The loops and the leaves that the answer of a rewrite shows. It is stated of code that holds no directive, as generated
-- code is: the constructs within a construct are carried out before it.
use Rattle.std.specs.Prelude.{◌≡◌, ℕ, List, ◌++◌, Option}
use Rattle.c_tree.specs.Bare.{Name, Stmts}
use Rattle.c_semantics.specs.Meaning.State.{State}
use Rattle.c_semantics.specs.Meaning.Expressions.{Define}
use Rattle.c_semantics.specs.Structure.Parts.{Shape, nested}
use Rattle.c_semantics.specs.Structure.Skeleton.{all_shapes}
use Rattle.c_soundness.specs.NeverStuck.{AllPlain}
use Rattle.loop_normal.specs.DrawnNames.{FreshNames}
use Rattle.loop_normal.specs.Gens.{Looped, Parts, more_parts, Gen, loop_stmts, parts_stmts, emit}
use Rattle.loop_normal.specs.Templates.{LoopNames, SourceLoop, leaf}
use Rattle.loop_normal.specs.FromZero.{from_zero}
use Rattle.nest_normal.specs.NestTexts.{nest_round, with_count}
use Rattle.permute_reverse.specs.Reversed.{reversed_gen}

-- in a scope, in the order of the text
abbrev pub shown : List Define → State → Gen → List Shape
shown ds s g = all_shapes ds s (emit g)

-- of parts, with one `for` loop more round the first, where that is a nest
abbrev pub shown_with_round : List Define → State → Parts → List Shape
shown_with_round ds s (more_parts (Looped l) ps) = nested 1 (all_shapes ds s (loop_stmts l)) ++ all_shapes ds s (parts_stmts ps)
shown_with_round ds s ps = all_shapes ds s (parts_stmts ps)

-- the body's, in one `for` loop
abbrev pub LeafShowsOneMore : Type 0
LeafShowsOneMore = (ds : List Define) (s : State) (m : LoopNames) (h : SourceLoop) (body : Stmts) → AllPlain body → shown ds s (leaf m h body) ≡ nested 1 (all_shapes ds s body)

-- the nest's, in one `for` loop
abbrev pub RoundShowsOneMore : Type 0
RoundShowsOneMore =
    (ds : List Define) (s : State) (m : LoopNames) (h : SourceLoop) (g : Gen) → AllPlain (emit g) → shown ds s (nest_round m h g) ≡ all_shapes ds s g.front ++ shown_with_round ds s g.parts

-- those of the code that was given
abbrev pub RebaseKeepsOutline : Type 0
RebaseKeepsOutline = (ds : List Define) (s : State) (f : FreshNames) (g : Gen) → AllPlain (emit g) → shown ds s (from_zero f g) ≡ shown ds s g

abbrev pub CountKeepsOutline : Type 0
CountKeepsOutline =
    (ds : List Define) (s : State) (d k : ℕ) (r : Option Name) (g : Gen) → AllPlain (emit g) → shown ds s (with_count d k r g) ≡ shown ds s g

abbrev pub ReverseKeepsOutline : Type 0
ReverseKeepsOutline =
    (ds : List Define) (s : State) (r : Name) (f : FreshNames) (g : Gen) → AllPlain (emit g) → shown ds s (reversed_gen r (from_zero f g)) ≡ shown ds s g
