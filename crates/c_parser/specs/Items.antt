-- Items, as they are taken from the tokens that are left.
use Rattle.std.specs.Prelude.{◌≡◌, ℕ, List, [], ◌∷◌, ◌++◌, map, Result, Ok, Err}
use Rattle.c_tree.specs.Placed.{Top, Program}
use Rattle.c_tree.specs.PlacedOf.{placed_top}
use Rattle.c_tree.specs.Forget.{forget_program}
use Rattle.c_tree.specs.Height.{program_height}
use Rattle.c_tree.specs.declared.tree.Span.{Span}
use Rattle.c_tree.specs.declared.tree.Item.{Item}
use Rattle.c_lexer.specs.declared.token.Token.{Token}
use Rattle.pragma_grammar.specs.declared.phrase.ParseFault.{ParseFault}
use Rattle.pragma_grammar.specs.declared.directive_kept.Kept as code
use Rattle.pragma_grammar.specs.DirectiveKept.{Kept, both, kept_or}
use Rattle.pragma_grammar.specs.DirectiveStands.{kept_as}
use Rattle.c_grammar.specs.Programs.{Started, tops_of}
use Rattle.c_grammar.specs.Reading.{deep_items}
use Rattle.c_grammar.specs.Goals.{Goal, takes, may_name, tops, round_open, round_close, semicolon, long_word, input_word, long_rest, reader_goal}
use Rattle.c_parser.specs.Comes.{Leads, Fails}
use Rattle.c_parser.specs.Kept.{keep_top}

-- what the code's items stand for
abbrev pub item_of : code.Kept Item → Kept Top
item_of k = kept_as placed_top k

abbrev pub items_of : code.Kept (List Item) → Kept Program
items_of k = kept_as (λ items. map placed_top items) k

-- what is kept of items
abbrev pub keep_items : List Started → Kept Program
keep_items items = kept_or (deep_items items) (program_height (forget_program (tops_of items))) (tops_of items)

-- ---- an item whose goal is given

abbrev pub ItemGoal : Type 0
ItemGoal = (List Started → Goal) → Goal

abbrev pub IsItemTaken : ItemGoal → List Token → Result (code.Kept Item) ParseFault → List Token → Type 0
IsItemTaken x ts (Ok r) us = (s : Started) × (item_of r ≡ keep_top s.top s.start) × ((f : List Started → Goal) → Leads (x f) ts (tops (λ more. f (s ∷ more))) us)
IsItemTaken x ts (Err fault) us = (f : List Started → Goal) → Fails (x f) ts fault

-- `main`, after which no item comes
abbrev pub IsLastTaken : ItemGoal → List Token → Result (code.Kept Item) ParseFault → List Token → Type 0
IsLastTaken x ts (Ok r) us = (s : Started) × (item_of r ≡ keep_top s.top s.start) × ((f : List Started → Goal) → Leads (x f) ts (f (s ∷ [])) us)
IsLastTaken x ts (Err fault) us = (f : List Started → Goal) → Fails (x f) ts fault

-- ---- the parts of a declaration of the outside

-- a name was taken, where one stands first
abbrev pub IsMayNameTaken : List Token → List Token → Type 0
IsMayNameTaken ts us = (g : Goal) → Leads (may_name g) ts g us

-- `) ;`
abbrev pub IsEndTaken : List Token → Result Span ParseFault → List Token → Type 0
IsEndTaken ts (Ok z) us = (f : Span → Goal) → Leads (takes round_close (λ y. takes semicolon f)) ts (f z) us
IsEndTaken ts (Err fault) us = (f : Span → Goal) → Fails (takes round_close (λ y. takes semicolon f)) ts fault

-- the `(` and the parameter of `print`
abbrev pub parameter_goal : Goal → Goal
parameter_goal g = takes round_open (λ d. takes long_word (λ l. long_rest (may_name g)))

abbrev pub IsParameterTaken : List Token → Result (Unit {0}) ParseFault → List Token → Type 0
IsParameterTaken ts (Ok r) us = (g : Goal) → Leads (parameter_goal g) ts g us
IsParameterTaken ts (Err fault) us = (g : Goal) → Fails (parameter_goal g) ts fault

-- `input` after `extern`
abbrev pub extern_reader_goal : ℕ → ItemGoal
extern_reader_goal from f = takes long_word (λ l. long_rest (takes input_word (λ b. reader_goal from f)))

-- ---- items with more

abbrev pub add_top : Program → Top → Program
add_top xs top = xs ++ top ∷ []

abbrev pub add_items : Kept Program → List Started → Kept Program
add_items k [] = k
add_items k (s ∷ ss) = add_items (both add_top k (keep_top s.top s.start)) ss

-- after the items that were kept as `k` others were read: `before rest` are these, before the further ones
pub record Added (k : Kept Program) (all : code.Kept (List Item)) (before : List Started → List Started) : Type 0 where
  pub items : List Started
  pub joins : (rest : List Started) → before rest ≡ items ++ rest
  pub keeps : items_of all ≡ add_items k items

abbrev pub AreItemsTaken : ItemGoal → Kept Program → List Token → Result (code.Kept (List Item)) ParseFault → List Token → Type 0
AreItemsTaken x k ts (Ok r) us = (before : List Started → List Started) × Added k r before × ((f : List Started → Goal) → Leads (x f) ts (tops (λ more. f (before more))) us)
AreItemsTaken x k ts (Err fault) us = (f : List Started → Goal) → Fails (x f) ts fault

-- the rest of a program's items
abbrev pub AreAllTaken : ItemGoal → Kept Program → List Token → Result (code.Kept (List Item)) ParseFault → List Token → Type 0
AreAllTaken x k ts (Ok r) us = (before : List Started → List Started) × Added k r before × ((f : List Started → Goal) → Leads (x f) ts (f (before [])) us)
AreAllTaken x k ts (Err fault) us = (f : List Started → Goal) → Fails (x f) ts fault
