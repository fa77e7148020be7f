-- Loops of a known count: at each place of a tree, and with a new name for their counter.
use Rattle.std.specs.Prelude.{◌≡◌, ℕ, zero, suc, List, [], ◌∷◌, Result, Ok, Err, Option, Some, None, true}
use Rattle.c_tree.specs.Bare.{Name, decl, Stmts, no_stmts, more_stmts}
use Rattle.c_tree.specs.declared.arithmetic.Trap.{Trap}
use Rattle.c_semantics.specs.Meaning.State.{Var, find}
use Rattle.c_semantics.specs.Meaning.FileVariables.{has_name}
use Rattle.c_semantics.specs.Loops.IterationTrees.{Tree}
use Rattle.c_semantics.specs.Laws.Apart.{Differ}
use Rattle.loop_normal.specs.Gens.{GenLoop, gen_loop, Inner, Nest, Seq}
use Rattle.loop_normal.specs.Denotes.{Undeclared}
use Rattle.nest_counts.specs.HasKinds.{turns, EachBelow}
use Rattle.nest_normal.specs.NestTexts.{zero_at}

-- each tree so many loops down turns k times
abbrev pub Turns : ℕ → ℕ → Tree → Type 0
Turns d k = EachBelow (λ u. turns u ≡ k) d

abbrev pub EachTurns : ℕ → ℕ → List Tree → Type 0
EachTurns d k [] = Unit {0}
EachTurns d k (t ∷ ts) = Turns d k t × EachTurns d k ts

abbrev pub AllTurns : ℕ → ℕ → Result (List Tree) Trap → Type 0
AllTurns d k (Err x) = Unit {0}
AllTurns d k (Ok ts) = EachTurns d k ts

-- the name is none of the nest's, down to the loop that is d loops down
abbrev pub NewTo : Name → ℕ → GenLoop → Type 0
NewTo r zero (gen_loop ls c a b inner) = Undeclared r ls × Differ r c
NewTo r (suc d) (gen_loop ls c a b (Nest l)) = Undeclared r ls × Differ r c × NewTo r d l
NewTo r (suc d) (gen_loop ls c a b (Seq ps)) = Unit {0}

-- a new counter has a fresh name; else the loop's own begins at the literal 0
abbrev pub IsCounterFor : (Name → Type 0) → Option Name → ℕ → GenLoop → List Var → Type 0
IsCounterFor Out None d l p = zero_at d l ≡ true
IsCounterFor Out (Some r) d l p = Out r × (find r p ≡ None) × NewTo r d l

abbrev pub UndeclaredIf : Option Name → Stmts → Type 0
UndeclaredIf None front = Unit {0}
UndeclaredIf (Some r) front = Undeclared r front

-- ---- names of a nest's own

-- they are fresh names
abbrev pub AllFresh : (Name → Type 0) → List Name → Type 0
AllFresh Out own = (x : Name) → has_name own x ≡ true → Out x

-- and the declarations before the loops of a nest have no others
abbrev pub LetsAmong : List Name → Stmts → Type 0
LetsAmong own no_stmts = Unit {0}
LetsAmong own (more_stmts (decl t x e) ls) = (has_name own x ≡ true) × LetsAmong own ls
LetsAmong own (more_stmts a ls) = LetsAmong own ls

abbrev mutual
  pub DeclaresOwn : List Name → GenLoop → Type 0
  DeclaresOwn own (gen_loop ls c a b inner) = LetsAmong own ls × DeclaresOwnBelow own inner

  pub DeclaresOwnBelow : List Name → Inner → Type 0
  DeclaresOwnBelow own (Nest l) = DeclaresOwn own l
  DeclaresOwnBelow own (Seq ps) = Unit {0}
