-- What is told on the diagnostic stream, and what that says of the text.
use Rattle.std.specs.Prelude.{◌≡◌, ◌≤◌, ◌<◌, ℕ, List, codes, length, ⊤}
use Rattle.outside_io.specs.declared.reading.ReadEnd.{ReadEnd}
use Rattle.outside_io.specs.declared.reading.ReadEnd.TheVariants as end
use Rattle.translator.specs.declared.refusal.Refusal.{Refusal}
use Rattle.translator.specs.Answers.{IsCause}
use Rattle.loopx.specs.Answer.{greatest_length, usage_line, IsRefusedBy}
use Rattle.loopx.specs.Lines.{refusal_line, trap_line}
use Rattle.loopx.specs.declared.status.Status.{Status}
use Rattle.loopx.specs.declared.status.Status.TheVariants as status
use Rattle.loopx.specs.declared.told.Told.{Told}
use Rattle.loopx.specs.declared.told.Told.TheVariants.{Refused, Usage, ReadFault, TooLong, Memory, Trapped, Cut}

abbrev pub told_status : Told → Status
told_status (Refused line) = status.Refused
told_status Usage = status.Usage
told_status ReadFault = status.ReadFault
told_status TooLong = status.TooLong
told_status Memory = status.Memory
told_status (Trapped trap) = status.Trapped
told_status Cut = status.Cut

-- the line that tells it
abbrev pub told_line : Told → List ℕ
told_line (Refused line) = line.items
told_line Usage = usage_line
told_line ReadFault = codes "read failed\n"
told_line TooLong = codes "text too long\n"
told_line Memory = codes "out of memory\n"
told_line (Trapped trap) = trap_line trap
told_line Cut = codes "cut\n"

-- a refusal with a cause in the text is told by its line, or there is no memory
abbrev pub FitsRefusal : Told → List ℕ → Refusal → Type 0
FitsRefusal (Refused line) text refusal = IsCause refusal × (line.items ≡ refusal_line text refusal)
FitsRefusal Memory text refusal = Unit {0}
FitsRefusal _ text refusal = ⊥

-- what is told of a source that could not be read to its end
abbrev pub told_of_end : ReadEnd → Told
told_of_end end.ReadFault = ReadFault
told_of_end end.TooLong = TooLong
told_of_end end.Memory = Memory

abbrev pub FitsEnd : ReadEnd → List ℕ → Type 0
FitsEnd end.TooLong text = greatest_length < length text
FitsEnd _ text = ⊤

-- what is told before the command's own part, and what that says of the text
abbrev pub FitsTold : Told → List ℕ → Type 0
FitsTold (Refused line) text = (length text ≤ greatest_length) × IsRefusedBy text line.items
FitsTold TooLong text = greatest_length < length text
FitsTold _ text = ⊤

abbrev pub IsOfSource : Told → Type 0
IsOfSource (Refused line) = ⊤
IsOfSource ReadFault = ⊤
IsOfSource TooLong = ⊤
IsOfSource Memory = ⊤
IsOfSource _ = ⊥
