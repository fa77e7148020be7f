-- The value of a define, as it is taken from the tokens that are left.
use Rattle.std.specs.Prelude.{ℕ, Bool, true, false, List, Result, Ok, Err}
use Rattle.c_tree.specs.declared.tree.Ty.{Ty}
use Rattle.c_lexer.specs.declared.token.Token.{Token}
use Rattle.pragma_grammar.specs.declared.phrase.ParseFault.{ParseFault}
use Rattle.c_parser.specs.declared.constants.Constant.{Constant}
use Rattle.c_grammar.specs.Goals.{Goal, takes, numbers, signs, values, round_close}
use Rattle.c_parser.specs.Comes.{Leads, Fails}

-- a number, after a minus sign where `minus` is true
abbrev pub IsNumberTaken : Bool → List Token → Result Constant ParseFault → List Token → Type 0
IsNumberTaken minus ts (Ok r) us = (f : Bool → ℕ → Ty → Goal) → Leads (numbers (f minus)) ts (f r.negative r.value r.ty) us
IsNumberTaken minus ts (Err fault) us = (f : Bool → ℕ → Ty → Goal) → Fails (numbers (f minus)) ts fault

abbrev pub IsMinusTaken : List Token → Bool → List Token → Type 0
IsMinusTaken ts minus us = (f : Bool → ℕ → Ty → Goal) → Leads (signs f) ts (numbers (f minus)) us

-- the `(` of a value was taken, or none stands first
abbrev pub OpensValue : List Token → Bool → List Token → Type 0
OpensValue ts true us = (f : Bool → ℕ → Ty → Goal) → Leads (values f) ts (signs (λ minus n ty. takes round_close (λ z. f minus n ty))) us
OpensValue ts false us = (f : Bool → ℕ → Ty → Goal) → Leads (values f) ts (signs f) us

-- a number with its sign, where the goal says what may stand round it
abbrev pub IsConstantTaken : ((Bool → ℕ → Ty → Goal) → Goal) → List Token → Result Constant ParseFault → List Token → Type 0
IsConstantTaken x ts (Ok r) us = (f : Bool → ℕ → Ty → Goal) → Leads (x f) ts (f r.negative r.value r.ty) us
IsConstantTaken x ts (Err fault) us = (f : Bool → ℕ → Ty → Goal) → Fails (x f) ts fault
