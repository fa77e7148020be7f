-- What is asked of the first token by its terminal, and what its answer says.
use Rattle.std.specs.Prelude.{Bool, true, false, List, Option, Some, None, Result, Ok, Err}
use Rattle.c_tree.specs.Bare.{Name}
use Rattle.c_tree.specs.declared.tree.Span.{Span}
use Rattle.c_tree.specs.declared.tree.SetOp.{SetOp}
use Rattle.c_tree.specs.declared.tree.SetOp.TheVariants as op
use Rattle.c_lexer.specs.declared.token.Token.{Token}
use Rattle.c_lexer.specs.declared.token.Punct.TheVariants as p
use Rattle.pragma_grammar.specs.declared.phrase.ParseFault.{ParseFault}
use Rattle.pragma_grammar.specs.declared.terminal.Terminal.{Terminal}
use Rattle.pragma_grammar.specs.declared.terminal.Terminal.TheVariants as t
use Rattle.pragma_grammar.specs.Terminals.{binary_terminal}
use Rattle.c_parser.specs.declared.terminals.Operator.{Operator}
use Rattle.c_parser.specs.declared.terminals.Operator.TheVariants.{Assign, Step}
use Rattle.c_grammar.specs.Goals.{Goal, names, operator, stopping, is_some_operator}
use Rattle.c_parser.specs.Comes.{Leads, Fails}

-- ---- by terminals

abbrev pub assigns_terminal : Terminal → Option SetOp
assigns_terminal (t.Punct p.Assign) = Some op.Plain
assigns_terminal (t.Punct p.PlusAssign) = Some op.Add
assigns_terminal (t.Punct p.MinusAssign) = Some op.Sub
assigns_terminal (t.Punct p.StarAssign) = Some op.Mul
assigns_terminal (t.Punct p.SlashAssign) = Some op.Div
assigns_terminal (t.Punct p.PercentAssign) = Some op.Rem
assigns_terminal _ = None

abbrev pub steps_terminal : Terminal → Option Bool
steps_terminal (t.Punct p.PlusPlus) = Some true
steps_terminal (t.Punct p.MinusMinus) = Some false
steps_terminal _ = None

abbrev pub goes_on_terminal : Terminal → Bool
goes_on_terminal (t.Punct p.Question) = true
goes_on_terminal (t.Punct p.SquareOpen) = true
goes_on_terminal s = is_some_operator (binary_terminal s)

-- ---- answers

abbrev pub IsNameTaken : List Token → Result (Name × Span) ParseFault → List Token → Type 0
IsNameTaken ts (Ok r) us = (f : Name → Span → Goal) → Leads (names f) ts (f r.0 r.1) us
IsNameTaken ts (Err fault) us = (f : Name → Span → Goal) → Fails (names f) ts fault

abbrev pub IsOperatorTaken : List Token → Result Operator ParseFault → List Token → Type 0
IsOperatorTaken ts (Ok (Assign o)) us = (f : SetOp → Goal) (g : Bool → Span → Goal) → Leads (operator f g) ts (f o) us
IsOperatorTaken ts (Ok (Step up at)) us = (f : SetOp → Goal) (g : Bool → Span → Goal) → Leads (operator f g) ts (g up at) us
IsOperatorTaken ts (Err fault) us = (f : SetOp → Goal) (g : Bool → Span → Goal) → Fails (operator f g) ts fault

-- no token is taken, and the first one doesn't go on with an expression
abbrev pub IsStopped : List Token → Result (Unit {0}) ParseFault → Type 0
IsStopped ts (Ok r) = (g : Goal) → Leads (stopping g) ts g ts
IsStopped ts (Err fault) = (g : Goal) → Fails (stopping g) ts fault
