-- Why the program answers as it does for the text that the source had, and what it writes and tells.
use Rattle.std.specs.Prelude.{◌≡◌, ℕ, ◌<◌, ◌≤◌, ◌^◌, ℤ, List, [], length, Option, ⊤, ◌⊎◌, codes}
use Rattle.outside_io.specs.Bytes.{Gains, GainsPrefix}
use Rattle.c_tree.specs.Bare.{Program}
use Rattle.c_tree.specs.declared.arithmetic.Trap.{Trap}
use Rattle.c_semantics.specs.Meaning.Programs.{Finish, Ended, Stopped, CutOff, outcome}
use Rattle.c_meaning.specs.Running.{lines_text}
use Rattle.translator.specs.Answers.{IsAccepted, IsCause, IsRefused, IsTranslation, IsTranslatedTree}
use Rattle.translator.specs.declared.refusal.Refusal.{Refusal}
use Rattle.loopx.specs.Lines.{refusal_line, trap_line}
use Rattle.loopx.specs.Words.{Command, translate, run}
use Rattle.loopx.specs.declared.status.Status.{Status}
use Rattle.loopx.specs.declared.status.Status.TheVariants.{Done, Refused, ReadFault, Memory, TooLong, Trapped, Cut}

-- the most bytes of a text
abbrev pub greatest_length : ℕ
greatest_length = 2 ^ 24

-- ---- what an answer says of the text

abbrev pub IsRefusedText : List ℕ → Type 0
IsRefusedText text = (refusal : Refusal) × IsCause refusal × IsRefused refusal text

-- the translated program's run with this bound and input ends so
abbrev pub RunEnds : ℕ → List ℤ → List ℕ → Finish → Type 0
RunEnds bound input text end = (result : Program) × IsTranslatedTree text result × ((outcome bound result input).end ≡ end)

-- what the command asks of the text has come to its end so
abbrev pub Finishes : Command → Status → List ℕ → Type 0
Finishes translate Done text = ⊤
Finishes (run bound input) Done text = RunEnds bound input text Ended
Finishes (run bound input) Trapped text = (trap : Trap) × RunEnds bound input text (Stopped trap)
Finishes (run bound input) Cut text = RunEnds bound input text CutOff
Finishes _ _ text = ⊥

-- exactly one of the answers by the text fits a text; the others have other causes
abbrev pub FitsText : Command → Status → List ℕ → Type 0
FitsText command Done text = (length text ≤ greatest_length) × IsAccepted text × Finishes command Done text
FitsText command Trapped text = (length text ≤ greatest_length) × IsAccepted text × Finishes command Trapped text
FitsText command Cut text = (length text ≤ greatest_length) × IsAccepted text × Finishes command Cut text
FitsText command Refused text = (length text ≤ greatest_length) × IsRefusedText text
FitsText command TooLong text = greatest_length < length text
FitsText command _ text = ⊤

-- the command was carried out to its end
abbrev pub IsFinished : Status → Type 0
IsFinished status = (status ≡ Done) ⊎ (status ≡ Trapped) ⊎ (status ≡ Cut)

-- where nothing failed, a text that is accepted is translated or run, and one that is refused is told so, unless there
-- is no memory
abbrev pub IsComplete : Command → Status → List ℕ → Type 0
IsComplete command status text = length text ≤ greatest_length →
    (IsAccepted text → IsFinished status ⊎ (status ≡ Memory))
    × (IsRefusedText text → (status ≡ Refused) ⊎ (status ≡ Memory))

-- ---- what is written

-- the bytes are what the command asks of the text
abbrev pub IsOutput : Command → List ℕ → List ℕ → Type 0
IsOutput translate text bytes = IsTranslation text bytes
IsOutput (run bound input) text bytes = (result : Program) × IsTranslatedTree text result × (bytes ≡ lines_text (outcome bound result input).lines)

-- what is held grew by that
abbrev pub GainsOutput : Command → Option (List ℕ) → Option (List ℕ) → List ℕ → Type 0
GainsOutput command old new text = (bytes : List ℕ) × IsOutput command text bytes × Gains old new bytes

-- what is held stayed, or grew by a first part of that
abbrev pub GainsPart : Command → Option (List ℕ) → Option (List ℕ) → List ℕ → Type 0
GainsPart command old new text = (old ≡ new) ⊎ ((bytes : List ℕ) × IsOutput command text bytes × GainsPrefix old new bytes)

-- ---- what is told

-- the text is refused, and this line says why
abbrev pub IsRefusedBy : List ℕ → List ℕ → Type 0
IsRefusedBy text line = (refusal : Refusal) × IsCause refusal × IsRefused refusal text × (line ≡ refusal_line text refusal)

-- the run is trapped, and this line says by what
abbrev pub IsTrappedBy : Command → List ℕ → List ℕ → Type 0
IsTrappedBy translate text line = ⊥
IsTrappedBy (run bound input) text line = (trap : Trap) × RunEnds bound input text (Stopped trap) × (line ≡ trap_line trap)

-- the line that tells an answer for the text
abbrev pub IsLine : Command → Status → List ℕ → List ℕ → Type 0
IsLine command Refused text line = IsRefusedBy text line
IsLine command Trapped text line = IsTrappedBy command text line
IsLine command Cut text line = line ≡ codes "cut\n"
IsLine command ReadFault text line = line ≡ codes "read failed\n"
IsLine command TooLong text line = line ≡ codes "text too long\n"
IsLine command Memory text line = line ≡ codes "out of memory\n"
IsLine command _ text line = line ≡ []

-- what is held grew by the line of the answer
abbrev pub GainsLine : Command → Status → Option (List ℕ) → Option (List ℕ) → List ℕ → Type 0
GainsLine command status old new text = (line : List ℕ) × IsLine command status text line × Gains old new line

-- what is held grew by a first part of the line of some answer
abbrev pub GainsPartOfLine : Command → Option (List ℕ) → Option (List ℕ) → List ℕ → Type 0
GainsPartOfLine command old new text = (status : Status) × (line : List ℕ) × IsLine command status text line × GainsPrefix old new line

abbrev pub usage_line : List ℕ
usage_line = codes "usage: loopx translate | run BOUND [NUMBER ...]\n"
