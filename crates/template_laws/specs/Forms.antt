-- The answer of a rewrite is well formed where what it is made of is.
use Rattle.std.specs.Prelude.{ℕ, ◌<◌, ◌^◌, List, Option, Some, None, nat_abs}
use Rattle.c_tree.specs.Bare.{Name, Stmts}
use Rattle.c_tree.specs.WellFormed.{IsName, WellFormedExpr, WellFormedStmts}
use Rattle.loop_normal.specs.DrawnNames.{FreshNames, drawn, after_draws, no_draws}
use Rattle.loop_normal.specs.Gens.{Gen, emit}
use Rattle.loop_normal.specs.Templates.{LoopNames, SourceLoop, leaf}
use Rattle.loop_normal.specs.FromZero.{from_zero}
use Rattle.nest_normal.specs.NestTexts.{nest_round, with_count}
use Rattle.permute_reverse.specs.Reversed.{reversed_gen}

-- the size of the step is a literal of type `long long`
pub record WellFormedLoop (h : SourceLoop) : Type 0 where
  pub var : IsName h.var
  pub lb : WellFormedExpr h.lb
  pub ub : WellFormedExpr h.ub
  pub step : nat_abs h.step < 2 ^ 63

pub record AreNames (m : LoopNames) : Type 0 where
  pub begin : IsName m.begin
  pub end : IsName m.end
  pub count : IsName m.count
  pub counter : IsName m.counter

abbrev pub IsNameIf : Option Name → Type 0
IsNameIf None = Unit {0}
IsNameIf (Some r) = IsName r

-- each name that is drawn is a name
abbrev pub DrawsNames : FreshNames → Type 0
DrawsNames f = (k : ℕ) → IsName (drawn (after_draws k f))

-- from the first draw on
abbrev pub DrawnAreNames : Type 0
DrawnAreNames = (taken : List Name) (k : ℕ) → DrawsNames (after_draws k (no_draws taken))

abbrev pub LeafKeepsForm : Type 0
LeafKeepsForm = (m : LoopNames) (h : SourceLoop) (body : Stmts) → AreNames m → WellFormedLoop h → WellFormedStmts body → WellFormedStmts (emit (leaf m h body))

abbrev pub RoundKeepsForm : Type 0
RoundKeepsForm = (m : LoopNames) (h : SourceLoop) (g : Gen) → AreNames m → WellFormedLoop h → WellFormedStmts (emit g) → WellFormedStmts (emit (nest_round m h g))

abbrev pub RebaseKeepsForm : Type 0
RebaseKeepsForm = (f : FreshNames) (g : Gen) → DrawsNames f → WellFormedStmts (emit g) → WellFormedStmts (emit (from_zero f g))

abbrev pub CountKeepsForm : Type 0
CountKeepsForm =
    (d k : ℕ) (r : Option Name) (g : Gen) → k < 2 ^ 63 → IsNameIf r → WellFormedStmts (emit g) → WellFormedStmts (emit (with_count d k r g))

abbrev pub ReverseKeepsForm : Type 0
ReverseKeepsForm =
    (r : Name) (f : FreshNames) (g : Gen) → IsName r → DrawsNames f → WellFormedStmts (emit g) → WellFormedStmts (emit (reversed_gen r (from_zero f g)))
