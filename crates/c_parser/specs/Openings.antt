-- What the first token of an item is to it, and what has to come after it.
use Rattle.std.specs.Prelude.{List, Option, Some, None, Result, Ok, Err, length, ◌<◌}
use Rattle.c_tree.specs.declared.tree.Span.{Span}
use Rattle.c_lexer.specs.declared.token.Token.{Token}
use Rattle.c_lexer.specs.declared.words.Keyword.TheVariants as k
use Rattle.pragma_grammar.specs.declared.phrase.ParseFault.{ParseFault}
use Rattle.pragma_grammar.specs.declared.terminal.Terminal.{Terminal}
use Rattle.pragma_grammar.specs.declared.terminal.Terminal.TheVariants as t
use Rattle.c_parser.specs.declared.openings.Opening.{Opening}
use Rattle.c_parser.specs.declared.openings.Opening.TheVariants as o
use Rattle.c_parser.specs.declared.openings.Single.{Single}
use Rattle.c_parser.specs.declared.openings.Single.TheVariants as s
use Rattle.c_grammar.specs.Programs.{Started}
use Rattle.c_parser.specs.Items.{ItemGoal}
use Rattle.c_grammar.specs.Goals.{Goal, tops, int_goal, long_goal, printer_goal, extern_goal, define_goal, function_goal}
use Rattle.c_parser.specs.Comes.{Leads, Fails}

abbrev pub opening_of : Terminal → Option Opening
opening_of (t.Keyword k.Int) = Some o.Int
opening_of (t.Keyword k.Long) = Some o.Long
opening_of (t.Keyword k.Void) = Some (o.One s.Void)
opening_of (t.Keyword k.Extern) = Some (o.One s.Extern)
opening_of t.Static = Some (o.One s.Static)
opening_of t.Hash = Some (o.One s.Hash)
opening_of _ = None

-- the goal after it, where it stands at `a`
abbrev pub single_goal : Single → Span → ItemGoal
single_goal s.Void a f = printer_goal a.start f
single_goal s.Extern a f = extern_goal a f
single_goal s.Static a f = function_goal a f
single_goal s.Hash a f = define_goal a f

abbrev pub opened : Opening → Span → ItemGoal
opened o.Int a f = int_goal a f
opened o.Long a f = long_goal a f
opened (o.One x) a f = single_goal x a f

abbrev pub IsOpeningTaken : List Token → Result (Opening × Span) ParseFault → List Token → Type 0
IsOpeningTaken ts (Ok r) us = (length us < length ts) × ((f : List Started → Goal) → Leads (tops f) ts (opened r.0 r.1 f) us)
IsOpeningTaken ts (Err fault) us = (f : List Started → Goal) → Fails (tops f) ts fault
