-- What a lexer stands for, and what it answers.
use Rattle.std.specs.Prelude.{◌≡◌, ℕ, ◌+◌, List, ◌++◌, length}
use Rattle.c_lexer.specs.declared.token.Token.{Token}
use Rattle.c_lexer.specs.declared.token.LexFault.{LexFault}
use Rattle.c_lexer.specs.declared.token.LexFault.TheVariants.{At, Memory}
use Rattle.c_lexer.specs.Cut.{Answer, fault}
use Rattle.c_lexer.specs.Machine.{State, start}
use Rattle.c_lexer.specs.Running.{run}

-- how many bytes were read, the state after them, and the tokens that are whole
pub record Lexing : Type 0 where
  pub count : ℕ
  pub state : State
  pub tokens : List Token

-- the lexer has read these bytes
pub record StandsFor (l : Lexing) (bytes : List ℕ) : Type 0 where
  pub count : l.count ≡ length bytes
  pub ran : run start 0 bytes ≡ record { whole = l.tokens; next = l.state }

-- a lexer after one more piece
abbrev pub fed : Lexing → List ℕ → Lexing
fed l piece = let m = run l.state l.count piece in record { count = l.count + length piece; state = m.next; tokens = l.tokens ++ m.whole }

-- the answer is this fault; want of memory says nothing
abbrev pub FaultIs : LexFault → Answer → Type 0
FaultIs (At kind place) a = a ≡ fault kind place
FaultIs Memory a = Unit {0}
