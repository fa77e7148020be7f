-- What was taken of a text that comes in pieces.
use Rattle.std.specs.Prelude.{ℕ, List}
use Rattle.c_lexer.specs.Lexing.{Lexing}
use Rattle.c_lexer.specs.Lexing.{StandsFor as LexerStandsFor}
use Rattle.c_lexer.specs.Lines.{Lines, MapsLines}

-- what the lexer and the map of lines took
pub record Taken : Type 0 where
  pub lexing : Lexing
  pub lines : Lines

-- both took this text
pub record StandsFor (taken : Taken) (text : List ℕ) : Type 0 where
  pub lexing : LexerStandsFor taken.lexing text
  pub lines : MapsLines taken.lines text
