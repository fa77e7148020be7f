-- How a program's items are read, and what `parse` answers.
use Rattle.std.specs.Prelude.{List, Result, Ok, Err}
use Rattle.c_tree.specs.Placed as placed
use Rattle.c_tree.specs.PlacedOf.{placed_program}
use Rattle.c_tree.specs.declared.tree.Item.{Item}
use Rattle.c_tree.specs.declared.tree.Program.{Program}
use Rattle.c_lexer.specs.declared.token.Token.{Token}
use Rattle.pragma_grammar.specs.declared.phrase.ParseKind.TheVariants.{TooDeep}
use Rattle.pragma_grammar.specs.declared.phrase.ParseFault.{ParseFault}
use Rattle.pragma_grammar.specs.declared.phrase.ParseFault.TheVariants.{At, Memory}
use Rattle.pragma_grammar.specs.declared.directive_kept.Kept as code
use Rattle.pragma_grammar.specs.declared.directive_kept.Kept.TheVariants.{Whole, Deep}
use Rattle.pragma_grammar.specs.DirectiveKept.{Kept}
use Rattle.c_parser.specs.declared.program.Tops.{Tops}
use Rattle.c_parser.specs.declared.program.Tops.TheVariants.{Open, Closed}
use Rattle.c_grammar.specs.Programs.{Started}
use Rattle.c_grammar.specs.Reading.{Blame, IsTree, IsTooDeep}
use Rattle.c_grammar.specs.Goals.{Goal, ends}
use Rattle.c_parser.specs.Comes.{Comes, ends_with, Fails}
use Rattle.c_parser.specs.Items.{ItemGoal, AreItemsTaken, AreAllTaken}

-- an item, or several, after those of which `k` was kept; after `main` the program ends
abbrev pub AreTopsTaken : ItemGoal → Kept placed.Program → List Token → Result Tops ParseFault → List Token → Type 0
AreTopsTaken x k ts (Ok (Open items)) us = AreItemsTaken x k ts (Ok items) us
AreTopsTaken x k ts (Ok (Closed items)) us = AreAllTaken x k ts (Ok items) us
AreTopsTaken x k ts (Err fault) us = (f : List Started → Goal) → Fails (x f) ts fault

-- only the last token of a text is left
abbrev pub IsEnded : List Token → Result (Unit {0}) ParseFault → Type 0
IsEnded ts (Ok r) = (items : List Started) → Comes (ends items) ts (ends_with items)
IsEnded ts (Err fault) = (items : List Started) → Fails (ends items) ts fault

abbrev pub whole_of : code.Kept (List Item) → Result Program ParseFault
whole_of (Whole tree height) = Ok (record { items = tree })
whole_of (Deep place) = Err (At TooDeep place)

-- ---- the answer

abbrev pub IsParsed : List Token → Result Program ParseFault → Type 0
IsParsed tokens (Ok program) = IsTree tokens (placed_program program)
IsParsed tokens (Err (At TooDeep place)) = IsTooDeep tokens place
IsParsed tokens (Err (At kind place)) = Blame tokens kind place
IsParsed tokens (Err Memory) = Unit {0}
