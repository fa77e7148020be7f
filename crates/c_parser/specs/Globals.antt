-- The variables and arrays of a file, as they are taken from the tokens that are left.
use Rattle.std.specs.Prelude.{◌≡◌, ℕ, List, Result, Ok, Err}
use Rattle.c_tree.specs.Bare.{Name}
use Rattle.c_tree.specs.declared.tree.Span.{Span}
use Rattle.c_tree.specs.declared.tree.Ty.{Ty}
use Rattle.c_tree.specs.declared.tree.Item.{Item}
use Rattle.c_lexer.specs.declared.token.Token.{Token}
use Rattle.pragma_grammar.specs.declared.phrase.ParseFault.{ParseFault}
use Rattle.pragma_grammar.specs.declared.directive_kept.Kept as code
use Rattle.c_grammar.specs.Programs.{Started}
use Rattle.c_grammar.specs.Goals.{Goal, global_goal}
use Rattle.c_parser.specs.Comes.{Leads, Fails}
use Rattle.c_parser.specs.Kept.{keep_top}
use Rattle.c_parser.specs.Items.{item_of}

-- the rest of a declarator, whose name `x` stands at `a`; as an item it begins at `from`
abbrev pub IsGlobalTaken : Ty → ℕ → Name → Span → List Token → Result (code.Kept Item) ParseFault → List Token → Type 0
IsGlobalTaken ty from x a ts (Ok r) us = (s : Started) × (item_of r ≡ keep_top s.top s.start) × ((f : Started → Goal) → Leads (global_goal ty from x a f) ts (f s) us)
IsGlobalTaken ty from x a ts (Err fault) us = (f : Started → Goal) → Fails (global_goal ty from x a f) ts fault
