-- The answer of a rewrite has no `break` that would leave one of its loops, where what it is made of has none (C11 6.8.6.3).
use Rattle.std.specs.Prelude.{ℕ, Option}
use Rattle.c_tree.specs.Bare.{Name, Stmt, if_, if_else, for_, block, break_, omp, Stmts, no_stmts, more_stmts, head, MaybeStmt, no_stmt, a_stmt}
use Rattle.loop_normal.specs.DrawnNames.{FreshNames}
use Rattle.loop_normal.specs.Gens.{GenLoop, gen_loop, Inner, Nest, Seq, Looped, Plain, Parts, no_parts, more_parts, Gen, inner_stmts, emit}
use Rattle.loop_normal.specs.Templates.{LoopNames, SourceLoop, leaf}
use Rattle.loop_normal.specs.FromZero.{from_zero}
use Rattle.nest_normal.specs.NestTexts.{nest_round, with_count}
use Rattle.permute_reverse.specs.Reversed.{reversed_gen}

-- statements without a `break` of their own: none that would leave a loop round them
abbrev mutual
  -- a construct is taken to have one
  pub NoBreak : Stmt → Type 0
  NoBreak break_ = ⊥
  NoBreak (if_ e a) = NoBreaks a
  NoBreak (if_else e a b) = NoBreaks a × NoBreaks b
  NoBreak (for_ (head i e next) a) = NoBreakIf i
  NoBreak (block a) = NoBreaks a
  NoBreak (omp d a) = ⊥
  NoBreak _ = Unit {0}

  pub NoBreakIf : MaybeStmt → Type 0
  NoBreakIf no_stmt = Unit {0}
  NoBreakIf (a_stmt a) = NoBreak a

  pub NoBreaks : Stmts → Type 0
  NoBreaks no_stmts = Unit {0}
  NoBreaks (more_stmts a as') = NoBreak a × NoBreaks as'

-- what stands below a loop has none, at any depth of the nest and of the parts below it
abbrev mutual
  pub IsStayedIn : GenLoop → Type 0
  IsStayedIn (gen_loop ls c a b inner) = NoBreaks (inner_stmts inner) × AreStayedInBelow inner

  pub AreStayedInBelow : Inner → Type 0
  AreStayedInBelow (Nest l) = IsStayedIn l
  AreStayedInBelow (Seq ps) = AreStayedIn ps

  pub AreStayedIn : Parts → Type 0
  AreStayedIn no_parts = Unit {0}
  AreStayedIn (more_parts (Looped l) ps) = IsStayedIn l × AreStayedIn ps
  AreStayedIn (more_parts (Plain as') ps) = AreStayedIn ps

-- no `break` in the code leaves a loop of its nests, nor a loop that it stands in
abbrev pub StaysIn : Gen → Type 0
StaysIn g = NoBreaks (emit g) × AreStayedIn g.parts

abbrev pub LeafStaysIn : Type 0
LeafStaysIn = (m : LoopNames) (h : SourceLoop) (body : Stmts) → NoBreaks body → StaysIn (leaf m h body)

abbrev pub RoundStaysIn : Type 0
RoundStaysIn = (m : LoopNames) (h : SourceLoop) (g : Gen) → StaysIn g → StaysIn (nest_round m h g)

abbrev pub RebaseStaysIn : Type 0
RebaseStaysIn = (f : FreshNames) (g : Gen) → StaysIn g → StaysIn (from_zero f g)

abbrev pub CountStaysIn : Type 0
CountStaysIn = (d k : ℕ) (r : Option Name) (g : Gen) → StaysIn g → StaysIn (with_count d k r g)

abbrev pub ReverseStaysIn : Type 0
ReverseStaysIn = (r : Name) (f : FreshNames) (g : Gen) → StaysIn g → StaysIn (reversed_gen r (from_zero f g))
