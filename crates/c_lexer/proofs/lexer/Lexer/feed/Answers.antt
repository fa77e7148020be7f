use Rattle.std.proofs.Common.{◌≡◌, List, ℕ, ◌++◌, sym, subst}
use Rattle.std.specs.Prelude.{Result, Ok, Err, OnOk}
use Rattle.c_lexer.specs.Lexing.{Lexing, StandsFor, fed}
use Rattle.c_lexer.proofs.Standing.{stands_fed}
use Rattle.c_lexer.proofs.lexer.Lexer.feed.Goals as goal

stands_after : {A E : Type 0} (r : Result A E) (old new : Lexing) (piece : List ℕ) → OnOk r (new ≡ fed old piece) → OnOk r ((bytes : List ℕ) → StandsFor old bytes → StandsFor new (bytes ++ piece))
stands_after (Ok x) old new piece e = λ bytes h. subst (λ l. StandsFor l (bytes ++ piece)) (sym e) (stands_fed old bytes piece h)
stands_after (Err x) old new piece e = tt

pub returns-clause-stands : goal.returns-clause-stands
returns-clause-stands c = stands_after c.take.result c.args.self.now c.take.new.self c.args.piece.now c.take.ensures.ok
