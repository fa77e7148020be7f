-- Fresh variables above a state, and what the states of generated code have in common.
use Rattle.std.specs.Prelude.{◌≡◌, ℕ, List, [], ◌∷◌, ◌++◌, Some, pos}
use Rattle.c_tree.specs.Bare.{Name}
use Rattle.c_tree.specs.declared.tree.Ty.TheVariants.{Long}
use Rattle.c_semantics.specs.Meaning.State.{Cell, scalar, Var, State, find, with_frame}
use Rattle.c_semantics.specs.Meaning.Runs.{Run}
use Rattle.c_semantics.specs.Laws.Apart.{Differ}

-- a state with these variables above its frame
abbrev pub above : List Var → State → State
above f s = with_frame (f ++ s.frame) s

abbrev pub run_above : List Var → Run → Run
run_above f r = record { state = above f r.state; end = r.end }

-- a fresh variable: a number of type `long long`
abbrev pub long : Name → ℕ → Var
long x k = record { name = x; cell = scalar Long (Some (pos k)) }

-- what is found in the first is found in the second
abbrev pub Agrees : List Var → List Var → Type 0
Agrees p f = (x : Name) (c : Cell) → find x p ≡ Some c → find x f ≡ Some c

-- the same of every name but one
abbrev pub AgreesBut : Name → List Var → List Var → Type 0
AgreesBut y p f = (x : Name) (c : Cell) → Differ x y → find x p ≡ Some c → find x f ≡ Some c

-- each variable of the list has a name that satisfies Out
abbrev pub Foreign : (Name → Type 0) → List Var → Type 0
Foreign Out [] = Unit {0}
Foreign Out (v ∷ f) = Out v.name × Foreign Out f
