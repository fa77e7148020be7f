-- The machine's answer is that of the definition, for each text.
use Rattle.std.proofs.Common.{◌≡◌, ℕ, ◌+◌, List, [], ◌∷◌, length, sym, subst, arith}
use Rattle.c_lexer.specs.Cut.{side, Answer, Lexes}
use Rattle.c_lexer.specs.declared.context.Line.TheVariants.{Fresh}
use Rattle.c_lexer.specs.declared.context.Before.TheVariants.{Free}
use Rattle.c_lexer.specs.Machine.{State, step, end, answer, start}
use Rattle.c_lexer.proofs.Meaning.{Completes, Sound}
use Rattle.c_lexer.proofs.Steps.{step_from}
use Rattle.c_lexer.proofs.Keeps.{step_sound}
use Rattle.c_lexer.proofs.Ends.{end_from}

abbrev Means : ℕ → State → List ℕ → Answer → Type 0
Means total s bs a = Completes total s.line s.before s.mode s.text bs a

pub answers : (total : ℕ) (s : State) (at : ℕ) (bs : List ℕ) → Sound s.before s.mode s.text at → at + length bs ≡ total → Means total s bs (answer s at bs)
answers total s at [] k e = let same : at ≡ total = omega arith in subst (λ z. Means total s [] (end s z)) (sym same) (end_from total s.line s.before s.mode s.text (subst (λ z. Sound s.before s.mode s.text z) same k))
answers total s at (b ∷ bs) k e =
    let m = step s at b in
    step_from total s.line s.before s.mode s.text at b bs (answer m.next (at + 1) bs) k e (answers total m.next (at + 1) bs (step_sound s.line s.before s.mode s.text at b k) (omega arith))

-- the machine's answer for a whole text
pub lexed : (text : List ℕ) → Lexes (length text) (side Fresh Free) text (answer start 0 text)
lexed text = answers (length text) start 0 text tt (omega arith)
