-- The answer of a rewrite holds no directive where what it is made of holds none.
use Rattle.std.specs.Prelude.{ℕ, Option}
use Rattle.c_tree.specs.Bare.{Name, Stmts}
use Rattle.c_soundness.specs.NeverStuck.{AllPlain}
use Rattle.loop_normal.specs.DrawnNames.{FreshNames}
use Rattle.loop_normal.specs.Gens.{Gen, emit}
use Rattle.loop_normal.specs.Templates.{LoopNames, SourceLoop, leaf}
use Rattle.loop_normal.specs.FromZero.{from_zero}
use Rattle.nest_normal.specs.NestTexts.{nest_round, with_count}
use Rattle.permute_reverse.specs.Reversed.{reversed_gen}

abbrev pub LeafAddsNone : Type 0
LeafAddsNone = (m : LoopNames) (h : SourceLoop) (body : Stmts) → AllPlain body → AllPlain (emit (leaf m h body))

abbrev pub RoundAddsNone : Type 0
RoundAddsNone = (m : LoopNames) (h : SourceLoop) (g : Gen) → AllPlain (emit g) → AllPlain (emit (nest_round m h g))

abbrev pub RebaseAddsNone : Type 0
RebaseAddsNone = (f : FreshNames) (g : Gen) → AllPlain (emit g) → AllPlain (emit (from_zero f g))

abbrev pub CountAddsNone : Type 0
CountAddsNone = (d k : ℕ) (r : Option Name) (g : Gen) → AllPlain (emit g) → AllPlain (emit (with_count d k r g))

abbrev pub ReverseAddsNone : Type 0
ReverseAddsNone = (r : Name) (f : FreshNames) (g : Gen) → AllPlain (emit g) → AllPlain (emit (reversed_gen r (from_zero f g)))
