-- What a run has at hand: its variables (C11 6.2.1 scopes, 6.2.4 storage durations), the lines it has printed, its
-- input, and the turns of `for` loops that it has entered.
use Rattle.std.specs.Prelude.{ℕ, ◌+◌, ◌-◌, List, [], ◌∷◌, ◌++◌, length, drop, Option, Some, None, ℤ, if◌then◌else◌, bytes_eq}
use Rattle.c_tree.specs.Bare.{Name}
use Rattle.c_tree.specs.declared.tree.Ty.{Ty}

-- what a variable holds: a number, or nothing yet; or an array's dimensions and its elements, row by row
pub data Cell : Type 0 where
  scalar : Ty → Option ℤ → Cell
  array : Ty → List ℕ → List ℤ → Cell

pub record Var : Type 0 where
  pub name : Name
  pub cell : Cell

-- the variables of the running function, the innermost first; those of the file, in their order; and what a run counts
-- and keeps. Of the callers' variables none can be seen
pub record State : Type 0 where
  pub frame : List Var
  pub globals : List Var
  pub lines : List ℤ
  pub input : List ℤ
  pub turns : ℕ

-- ---- names

-- the first variable of that name
abbrev pub find : Name → List Var → Option Cell
find x [] = None
find x (v ∷ vs) = if bytes_eq x v.name then Some v.cell else find x vs

-- the first variable of that name holds this now
abbrev pub write : Name → Cell → List Var → List Var
write x c [] = []
write x c (v ∷ vs) = if bytes_eq x v.name then record { name = v.name; cell = c } ∷ vs else v ∷ write x c vs

abbrev pub or_else : Option Cell → Option Cell → Option Cell
or_else None o = o
or_else (Some c) o = Some c

-- a name means the innermost variable of the frame, else the file's
abbrev pub look : State → Name → Option Cell
look s x = or_else (find x s.frame) (find x s.globals)

-- ---- changes

abbrev pub with_frame : List Var → State → State
with_frame f s = record s { frame = f }

abbrev pub with_globals : List Var → State → State
with_globals g s = record s { globals = g }

-- where a name was found tells where it is written
abbrev pub write_at : Option Cell → Name → Cell → State → State
write_at None x c s = with_globals (write x c s.globals) s
write_at (Some d) x c s = with_frame (write x c s.frame) s

abbrev pub store : Name → Cell → State → State
store x c s = write_at (find x s.frame) x c s

-- a new innermost variable
abbrev pub push : Name → Cell → State → State
push x c s = with_frame (record { name = x; cell = c } ∷ s.frame) s

-- the last k
abbrev pub keep : {A : Type 0} → ℕ → List A → List A
keep k l = drop (length l - k) l

-- one more line
abbrev pub print_line : ℤ → State → State
print_line z s = record s { lines = s.lines ++ z ∷ [] }

-- one more turn of a `for`
abbrev pub count_turn : State → State
count_turn s = record s { turns = s.turns + 1 }

-- a state without variables
abbrev pub nowhere : State
nowhere = record { frame = []; globals = []; lines = []; input = []; turns = 0 }
