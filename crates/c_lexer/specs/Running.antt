-- The code's machine as a state of the machine, and runs over whole pieces.
use Rattle.std.specs.Prelude.{◌≡◌, ℕ, ◌+◌, List, [], ◌∷◌, ◌++◌}
use Rattle.c_lexer.specs.declared.mode.OpenPiece.{OpenPiece}
use Rattle.c_lexer.specs.declared.mode.Mode.{Mode}
use Rattle.c_lexer.specs.declared.mode.Mode.TheVariants.{Word as InWord, Number as InNumber}
use Rattle.c_lexer.specs.declared.machine.Machine.{Machine}
use Rattle.c_lexer.specs.Machine.{State, Move, step, to, gives}

-- the bytes of an open word or number; those of other pieces do not matter
abbrev pub text_in : Mode → List ℕ → List ℕ
text_in (InWord start) text = text
text_in (InNumber start last) text = text
text_in _ text = []

abbrev pub state_with : OpenPiece → List ℕ → State
state_with piece text = record { line = piece.line; before = piece.before; mode = piece.mode; text = text_in piece.mode text }

abbrev pub state_of : Machine → State
state_of m = state_with m.piece m.text.1

-- the tokens since the last piece of the text, and the state, after a move
pub record Follows (old new : Machine) (m : Move) : Type 0 where
  pub whole : new.tokens.1 ≡ old.tokens.1 ++ m.whole
  pub next : state_of new ≡ m.next

-- what was there before the piece of the text is kept
pub record IsKept (old new : Machine) : Type 0 where
  pub tokens : new.tokens.0 ≡ old.tokens.0
  pub text : new.text.0 ≡ old.text.0

-- all bytes of a piece of the text, from a place on
abbrev pub run : State → ℕ → List ℕ → Move
run s at [] = to s
run s at (b ∷ bs) = let m = step s at b in gives m.whole (run m.next (at + 1) bs)
