-- What comes of items.
use Rattle.std.proofs.Common.{◌≡◌, Bool, true, false, List, ◌∷◌, drop, Option, Some, None, refl, sym, ap, ◌∙◌}
use Rattle.std.specs.Prelude.{cond, Result, Ok, Err}
use Rattle.c_tree.specs.declared.tree.Span.{Span}
use Rattle.c_lexer.specs.declared.token.Token.{Token}
use Rattle.pragma_grammar.specs.declared.phrase.ParseFault.{ParseFault}
use Rattle.pragma_grammar.specs.declared.terminal.Terminal.{Terminal}
use Rattle.pragma_grammar.specs.declared.terminal.Terminal.TheVariants as term
use Rattle.pragma_grammar.specs.Symbols.{Symbol, symbol, name}
use Rattle.pragma_grammar.specs.Terminals.{terminal_of}
use Rattle.c_parser.specs.Cursor.{IsMayTaken}
use Rattle.c_grammar.specs.Programs.{Started}
use Rattle.c_parser.specs.Items.{ItemGoal, IsItemTaken, IsMayNameTaken}
use Rattle.c_grammar.specs.Goals.{Goal, Class, may, may_name, on_may_name, step, Move, leads}
use Rattle.c_parser.specs.Comes.{Leads}
use Rattle.c_parser.proofs.Beginning.{first_goes, first_alike}
use Rattle.c_parser.proofs.SimpleTaken.{fails_by}

-- whether a symbol of the class was taken or not
pub may_either : (c : Class) (ts us : List Token) (r : Option Span) → IsMayTaken c ts r us → (g : Goal) → Leads (may c (λ z. g) g) ts g us
may_either c ts us (Some z) m g = m (λ z. g) g
may_either c ts us None m g = m (λ z. g) g

-- an item's goal that leads to another one
pub item_led : (x y : ItemGoal) (ts us vs : List Token) (r : Result _ ParseFault) → ((f : List Started → Goal) → Leads (x f) ts (y f) us) → IsItemTaken y us r vs → IsItemTaken x ts r vs
item_led x y ts us vs (Ok r) l i = (i.0, i.1, λ f o h. l f o (i.2 f o h))
item_led x y ts us vs (Err fault) l i = λ f. fails_by (x f) (y f) ts us fault (l f) (i f)

-- ---- a name that may stand there

abbrev is_name : Terminal → Bool
is_name term.Name = true
is_name k = false

may_name_as : (g : Goal) (s : Symbol) (m : Move) → on_may_name g s m ≡ cond (is_name (terminal_of s)) (leads g) m
may_name_as g (name x a) m = refl
may_name_as g s m = refl

may_name_by : (g : Goal) (t : Token) (k : Terminal) (b : Bool) → k ≡ terminal_of (symbol t) → is_name k ≡ b → step (may_name g) (symbol t) ≡ cond b (leads g) (step g (symbol t))
may_name_by g t k b e q = may_name_as g (symbol t) (step g (symbol t)) ∙ ap (λ z. cond z (leads g) (step g (symbol t))) (ap is_name (sym e) ∙ q)

other_name : (k : Terminal) → (k ≡ term.Name → ⊥) → is_name k ≡ false
other_name term.Name n = absurd (n refl)
other_name k n = refl

pub name_passed : (t : Token) (ts us : List Token) (k : Terminal) → ts ≡ t ∷ drop 1 ts → us ≡ drop 1 ts → k ≡ terminal_of (symbol t) → k ≡ term.Name → IsMayNameTaken ts us
name_passed t ts us k q r e n = λ g. first_goes (may_name g) g t ts us q r (may_name_by g t k true e (ap is_name n))

pub no_name : (t : Token) (ts : List Token) (k : Terminal) → ts ≡ t ∷ drop 1 ts → k ≡ terminal_of (symbol t) → (k ≡ term.Name → ⊥) → IsMayNameTaken ts ts
no_name t ts k q e n = λ g. first_alike (may_name g) g t ts q (may_name_by g t k false e (other_name k n))
