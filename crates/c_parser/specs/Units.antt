-- Units of a list of statements, as they are taken from the tokens that are left.
use Rattle.std.specs.Prelude.{◌<◌, Bool, false, List, length, Result, Ok, Err}
use Rattle.c_tree.specs.Placed.{Stmts, no_stmts, block}
use Rattle.c_tree.specs.declared.tree.Span.{Span}
use Rattle.c_lexer.specs.declared.token.Token.{Token}
use Rattle.pragma_grammar.specs.declared.phrase.ParseFault.{ParseFault}
use Rattle.pragma_grammar.specs.Symbols.{Symbol, number, spanning}
use Rattle.c_parser.specs.declared.units.UnitRead.{UnitRead}
use Rattle.c_parser.specs.declared.units.UnitRead.TheVariants as u
use Rattle.c_parser.specs.Bodies.{Owner, Grown, IsOwner, after_body, after_stmt}
use Rattle.c_parser.specs.Comes.{Leads, Fails}
use Rattle.c_grammar.specs.Goals.{Goal, zero, units, body, return_goal}

-- the symbol is a number that is spelled `0`
abbrev pub zero_of : Symbol → Bool
zero_of (number n ty z a) = z
zero_of s = false

abbrev pub IsZeroTaken : List Token → Result (Unit {0}) ParseFault → List Token → Type 0
IsZeroTaken ts (Ok r) us = (g : Goal) → Leads (zero g) ts g us
IsZeroTaken ts (Err fault) us = (g : Goal) → Fails (zero g) ts fault

-- `0 ; }` after `return`
abbrev pub IsReturnTaken : List Token → Result Span ParseFault → List Token → Type 0
IsReturnTaken ts (Ok z) us = (f : Stmts → Span → Goal) → Leads (return_goal f) ts (f no_stmts z) us
IsReturnTaken ts (Err fault) us = (f : Stmts → Span → Goal) → Fails (return_goal f) ts fault

-- What came in a list, with the statements before further ones: more of them; another list, which gives a block; a
-- statement, whose body comes next; or its end. Some token was taken in any case.
abbrev pub IsUnitTaken : Bool → (Stmts → Stmts) → List Token → Result UnitRead ParseFault → List Token → Type 0
IsUnitTaken m before ts (Ok (u.More stmts)) us = (after : Stmts → Stmts) × Grown stmts after × ((f : Stmts → Span → Goal) → Leads (units m (λ rs. f (before rs))) ts (units m (λ rs. f (after rs))) us) × (length us < length ts)
IsUnitTaken m before ts (Ok (u.Opens stmts at)) us = Grown stmts before × ((f : Stmts → Span → Goal) → Leads (units m (λ rs. f (before rs))) ts (units false (λ ss z. after_stmt m before f (block ss (spanning at z)) z)) us) × (length us < length ts)
IsUnitTaken m before ts (Ok (u.Owns stmts code)) us = Grown stmts before × (o : Owner) × IsOwner code o × ((f : Stmts → Span → Goal) → Leads (units m (λ rs. f (before rs))) ts (body (after_body o (after_stmt m before f))) us) × (length us < length ts)
IsUnitTaken m before ts (Ok (u.Closes stmts last)) us = Grown stmts before × ((f : Stmts → Span → Goal) → Leads (units m (λ rs. f (before rs))) ts (f (before no_stmts) last) us) × (length us < length ts)
IsUnitTaken m before ts (Err fault) us = (f : Stmts → Span → Goal) → Fails (units m (λ rs. f (before rs))) ts fault
