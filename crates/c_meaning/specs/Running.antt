-- What running a part of a program means for a machine and a sink. The machine holds neither the lines, which have gone to
-- the sink, nor turns beyond 64 bits: whatever lines and turns there were before, the part goes on from them.
use Rattle.std.specs.Prelude.{◌≡◌, ℕ, ◌≤◌, List, [], ◌∷◌, ◌++◌, Option, Result, Ok, Err, ℤ}
use Rattle.std.specs.Fmt.{signed_decimal}
use Rattle.outside_io.specs.Bytes.{Gains, GainsPrefix}
use Rattle.outside_io.specs.Faults.{Rose}
use Rattle.c_semantics.specs.Meaning.State.{State}
use Rattle.c_semantics.specs.Meaning.Runs.{Run, Meaning}
use Rattle.c_meaning.specs.declared.run.End.{End}
use Rattle.c_meaning.specs.declared.run.RunFault.{RunFault}
use Rattle.c_meaning.specs.declared.run.RunFault.TheVariants.{WriteFault}
use Rattle.c_meaning.specs.Ends.{end_of}
use Rattle.c_meaning.specs.States.{counted}

-- a line: the decimal text of its number, and LF
abbrev pub line_text : ℤ → List ℕ
line_text z = signed_decimal z ++ 10 ∷ []

abbrev pub lines_text : List ℤ → List ℕ
lines_text [] = []
lines_text (z ∷ zs) = line_text z ++ lines_text zs

-- a machine's state with lines and turns
abbrev pub in_full : State → List ℤ → ℕ → State
in_full m lines turns = record m { lines = lines; turns = turns }

-- what a sink holds, and how many faults it had
pub record Sunk : Type 0 where
  pub held : Option (List ℕ)
  pub faults : ℕ

abbrev pub sunk : Option (List ℕ) → ℕ → Sunk
sunk held faults = record { held = held; faults = faults }

-- the run is where the machine and the sink are, and ends so; the sink held the base before the first line
pub record Reached (base : Option (List ℕ)) (new : State) (sunk : Sunk) (e : End) (r : Run) : Type 0 where
  pub ended : r.end ≡ end_of e
  pub state : r.state ≡ in_full new r.state.lines r.state.turns
  pub told : Gains base sunk.held (lines_text r.state.lines)
  pub turns : new.turns ≡ counted r.state.turns

-- where a fault stopped it, a first part of its lines was written
abbrev pub Came : Option (List ℕ) → State → Sunk → Result End RunFault → Run → Type 0
Came base new sunk (Ok e) r = Reached base new sunk e r
Came base new sunk (Err x) r = GainsPrefix base sunk.held (lines_text r.state.lines)

-- from the one machine and sink the meaning runs to the others, with this answer
pub record Ran (f : Meaning) (old : State) (was : Sunk) (new : State) (sunk : Sunk) (answer : Result End RunFault) : Type 0 where
  pub came : (base : Option (List ℕ)) (lines : List ℤ) (turns : ℕ) → Gains base was.held (lines_text lines) → old.turns ≡ counted turns → Came base new sunk answer (f (in_full old lines turns))
  pub faults : was.faults ≤ sunk.faults
  pub failed : answer ≡ Err WriteFault → Rose was.faults sunk.faults
