-- What is told, as it comes from the text.
use Rattle.std.proofs.Common.{◌≡◌, ℕ, ℤ, ◌≤◌, List, [], Option, Some, None, length, IfSome, refl, sym, subst, inr, append-nil}
use Rattle.outside_io.specs.Bytes.{Gains, GainsPrefix}
use Rattle.c_tree.specs.Bare.{Program}
use Rattle.c_tree.specs.declared.arithmetic.Trap.{Trap}
use Rattle.c_semantics.specs.Meaning.Programs.{Finish, Stopped, outcome}
use Rattle.c_meaning.specs.Ends.{finish_of}
use Rattle.c_meaning.specs.declared.run.RunEnd.{RunEnd}
use Rattle.c_meaning.specs.declared.run.RunEnd.TheVariants as ended
use Rattle.c_meaning.specs.Running.{lines_text}
use Rattle.translator.specs.Answers.{IsAccepted, IsRefused, IsTranslatedTree}
use Rattle.translator.specs.declared.refusal.Refusal.{Refusal}
use Rattle.loopx.specs.Answer.{greatest_length, IsLine, GainsPart, GainsLine, GainsPartOfLine}
use Rattle.loopx.specs.Lines.{trap_line}
use Rattle.loopx.specs.Told.{told_status, told_line, FitsRefusal, FitsTold, IsOfSource}
use Rattle.loopx.specs.Words.{Command, run}
use Rattle.loopx.specs.declared.status.Status.{Status}
use Rattle.loopx.specs.declared.status.Status.TheVariants as status
use Rattle.loopx.specs.declared.told.Told.{Told}
use Rattle.loopx.specs.declared.told.Told.TheVariants.{Refused, Usage, ReadFault, TooLong, Memory, Trapped, Cut}

fits : (told : Told) (text : List ℕ) (refusal : Refusal) → length text ≤ greatest_length → FitsRefusal told text refusal → IsRefused refusal text → FitsTold told text
fits (Refused line) text refusal short told refused = (short, (refusal, told.0, refused, told.1))
fits Memory text refusal short told refused = tt
fits _ text refusal short told refused = absurd told

-- the refusal of the bytes that were read is one of the text that was left
pub told_of_refusal : (left : Option (List ℕ)) (bytes : List ℕ) (told : Told) (refusal : Refusal) → length bytes ≤ greatest_length → IfSome left (λ text. bytes ≡ text) →
    FitsRefusal told bytes refusal → IsRefused refusal bytes → IfSome left (FitsTold told)
told_of_refusal None bytes told refusal short same fit refused = tt
told_of_refusal (Some text) bytes told refusal short same fit refused = subst (FitsTold told) same (fits told bytes refusal short fit refused)

line_told : (command : Command) (told : Told) (text : List ℕ) → IsOfSource told → FitsTold told text → IsLine command (told_status told) text (told_line told)
line_told command (Refused line) text of fit = fit.1
line_told command ReadFault text of fit = refl
line_told command TooLong text of fit = refl
line_told command Memory text of fit = refl
line_told command Usage text of fit = absurd of
line_told command (Trapped trap) text of fit = absurd of
line_told command Cut text of fit = absurd of

pub part_told : (command : Command) (left old new : Option (List ℕ)) (told : Told) → IsOfSource told → IfSome left (FitsTold told) → GainsPrefix old new (told_line told) → IfSome left (GainsPartOfLine command old new)
part_told command None old new told of fit part = tt
part_told command (Some text) old new told of fit part = (told_status told, told_line told, line_told command told text of fit, part)

pub nothing_told : (command : Command) (left held : Option (List ℕ)) → Gains held held [] → IfSome left (GainsPartOfLine command held held)
nothing_told command None held same = tt
nothing_told command (Some text) held same = (status.Done, [], refl, ([], ([], refl), same))

pub gains_nothing : (held : Option (List ℕ)) → Gains held held []
gains_nothing None = tt
gains_nothing (Some bytes) = sym (append-nil bytes)

-- ---- after a run of the translated program

-- a first part of its lines is a first part of what the command asks for
pub part_run : (bound : ℕ) (input : List ℤ) (left old new : Option (List ℕ)) (result : Program) → IfSome left (λ text. (length text ≤ greatest_length) × IsAccepted text × IsTranslatedTree text result) →
    GainsPrefix old new (lines_text (outcome bound result input).lines) → IfSome left (GainsPart (run bound input) old new)
part_run bound input None old new result tree part = tt
part_run bound input (Some text) old new result tree part = inr (lines_text (outcome bound result input).lines, (result, tree.2, refl), part)

whole_part : (old new : Option (List ℕ)) (bytes : List ℕ) → Gains old new bytes → GainsPrefix old new bytes
whole_part old new bytes gains = (bytes, ([], sym (append-nil bytes)), gains)

-- so are they all
pub whole_run : (bound : ℕ) (input : List ℤ) (left old new : Option (List ℕ)) (result : Program) → IfSome left (λ text. (length text ≤ greatest_length) × IsAccepted text × IsTranslatedTree text result) →
    Gains old new (lines_text (outcome bound result input).lines) → IfSome left (GainsPart (run bound input) old new)
whole_run bound input left old new result tree gains = part_run bound input left old new result tree (whole_part old new _ gains)

stopped_by : (trap : Trap) (e : RunEnd) (f : Finish) → e ≡ ended.Trapped trap → finish_of e ≡ f → Stopped trap ≡ f
stopped_by trap e f trapped end = subst (λ x. finish_of x ≡ f) trapped end

pub trap_told : (bound : ℕ) (input : List ℤ) (left old new : Option (List ℕ)) (result : Program) (trap : Trap) (e : RunEnd) (s : Status) → IfSome left (λ text. (length text ≤ greatest_length) × IsAccepted text × IsTranslatedTree text result) →
    e ≡ ended.Trapped trap → finish_of e ≡ (outcome bound result input).end → s ≡ status.Trapped → Gains old new (trap_line trap) → IfSome left (GainsLine (run bound input) s old new)
trap_told bound input None old new result trap e s tree trapped end is gains = tt
trap_told bound input (Some text) old new result trap e s tree trapped end is gains = rw is (trap_line trap, (trap, (result, tree.2, sym (stopped_by trap e _ trapped end)), refl), gains)

pub trap_part : (bound : ℕ) (input : List ℤ) (left old new : Option (List ℕ)) (result : Program) (trap : Trap) (e : RunEnd) → IfSome left (λ text. (length text ≤ greatest_length) × IsAccepted text × IsTranslatedTree text result) →
    e ≡ ended.Trapped trap → finish_of e ≡ (outcome bound result input).end → GainsPrefix old new (trap_line trap) → IfSome left (GainsPartOfLine (run bound input) old new)
trap_part bound input None old new result trap e tree trapped end part = tt
trap_part bound input (Some text) old new result trap e tree trapped end part = (status.Trapped, trap_line trap, (trap, (result, tree.2, sym (stopped_by trap e _ trapped end)), refl), part)

pub cut_part : (bound : ℕ) (input : List ℤ) (left old new : Option (List ℕ)) → GainsPrefix old new (told_line Cut) → IfSome left (GainsPartOfLine (run bound input) old new)
cut_part bound input None old new part = tt
cut_part bound input (Some text) old new part = (status.Cut, told_line Cut, refl, part)

pub memory_part : (command : Command) (left old new : Option (List ℕ)) → GainsPrefix old new (told_line Memory) → IfSome left (GainsPartOfLine command old new)
memory_part command None old new part = tt
memory_part command (Some text) old new part = (status.Memory, told_line Memory, refl, part)
