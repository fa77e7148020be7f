use Rattle.std.proofs.Common.{refl, sym, subst}
use Rattle.c_lexer.specs.Lexing.{StandsFor}
use Rattle.c_lexer.specs.Running.{state_of}
use Rattle.c_lexer.proofs.Standing.{found_cut, found_fault}
use Rattle.c_lexer.proofs.lexer.Lexer.finish.Goals as goal

pub returns-clause-cut : goal.returns-clause-cut
returns-clause-cut c = λ bytes h.
    let m = c.self.inside.machine in
    found_cut (record { count = c.self.inside.count; state = state_of m; tokens = m.tokens.0 }) bytes m.tokens.0 m.tokens.1
    (subst (λ l. StandsFor l bytes) (sym c.self.view_is) h) c.self.invariant.0 refl (λ found. found.items) c.end.result c.end.ensures.ok

pub returns-clause-fault : goal.returns-clause-fault
returns-clause-fault c = λ bytes h.
    let m = c.self.inside.machine in
    found_fault (record { count = c.self.inside.count; state = state_of m; tokens = m.tokens.0 }) bytes m.tokens.0 m.tokens.1
    (subst (λ l. StandsFor l bytes) (sym c.self.view_is) h) c.self.invariant.0 refl c.end.result c.end.ensures.fault
