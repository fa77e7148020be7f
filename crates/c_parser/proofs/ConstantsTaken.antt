-- What comes of a define's value.
use Rattle.std.proofs.Common.{◌≡◌, ℕ, Bool, true, false, List, ◌∷◌, drop, refl, ap}
use Rattle.std.specs.Prelude.{Result, Ok, Err}
use Rattle.c_tree.specs.declared.tree.Ty.{Ty}
use Rattle.c_lexer.specs.declared.token.Token.{Token}
use Rattle.c_lexer.specs.declared.token.Punct.{Punct}
use Rattle.c_lexer.specs.declared.token.Punct.TheVariants as p
use Rattle.pragma_grammar.specs.declared.phrase.ParseFault.{ParseFault}
use Rattle.pragma_grammar.specs.declared.terminal.Terminal.TheVariants as term
use Rattle.pragma_grammar.specs.Symbols.{Symbol, symbol, number, punct}
use Rattle.pragma_grammar.specs.Terminals.{terminal_of}
use Rattle.pragma_grammar.proofs.Terminals.{is_punct}
use Rattle.c_parser.specs.Constants.{IsNumberTaken, IsMinusTaken, OpensValue, IsConstantTaken}
use Rattle.c_grammar.specs.Goals.{Goal, takes, round_close, numbers, signs, values, on_number, on_sign, on_value, stuck}
use Rattle.c_parser.specs.Comes.{IsBlamed}
use Rattle.c_parser.proofs.Beginning.{first_goes, first_alike}
use Rattle.c_parser.proofs.SimpleTaken.{fails_by}
use Rattle.c_parser.proofs.TerminalsTaken.{first_blamed}

-- ---- numbers and signs

not_number : (f : ℕ → Ty → Goal) (s : Symbol) → (terminal_of s ≡ term.Number → ⊥) → on_number f s ≡ stuck
not_number f (number v ty z a) n = absurd (n refl)
not_number f s n = refl

not_minus : (f : Bool → ℕ → Ty → Goal) (s : Symbol) → (terminal_of s ≡ term.Punct p.Minus → ⊥) → on_sign f s ≡ on_number (f false) s
not_minus f (punct x a) n = by_punct x n
  where
    by_punct : (x : Punct) → (term.Punct x ≡ term.Punct p.Minus → ⊥) → on_sign f (punct x a) ≡ stuck
    by_punct p.Minus n = absurd (n refl)
    by_punct x n = refl
not_minus f s n = refl

pub number_taken : (minus z : Bool) (n : ℕ) (ty : Ty) (t : Token) (ts us : List Token) → ts ≡ t ∷ drop 1 ts → us ≡ drop 1 ts → symbol t ≡ number n ty z t.span
    → IsNumberTaken minus ts (Ok (record { negative = minus; value = n; ty = ty })) us
number_taken minus z n ty t ts us q r s = λ f. first_goes (numbers (f minus)) (f minus n ty) t ts us q r (ap (on_number (f minus)) s)

pub number_untaken : (minus : Bool) (t : Token) (ts us : List Token) (fault : ParseFault) → ts ≡ t ∷ drop 1 ts → (terminal_of (symbol t) ≡ term.Number → ⊥) → IsBlamed ts fault → IsNumberTaken minus ts (Err fault) us
number_untaken minus t ts us fault q n b = λ f. first_blamed (numbers (f minus)) t ts (drop 1 ts) fault q (not_number (f minus) (symbol t) n) b

pub minus_taken : (t : Token) (ts us : List Token) → ts ≡ t ∷ drop 1 ts → us ≡ drop 1 ts → terminal_of (symbol t) ≡ term.Punct p.Minus → IsMinusTaken ts true us
minus_taken t ts us q r s = λ f. first_goes (signs f) (numbers (f true)) t ts us q r (ap (on_sign f) (is_punct p.Minus t s))

pub minus_untaken : (t : Token) (ts : List Token) → ts ≡ t ∷ drop 1 ts → (terminal_of (symbol t) ≡ term.Punct p.Minus → ⊥) → IsMinusTaken ts false ts
minus_untaken t ts q n = λ f. first_alike (signs f) (numbers (f false)) t ts q (not_minus f (symbol t) n)

pub signed_taken : (minus : Bool) (ts us vs : List Token) (r : Result _ ParseFault) → IsMinusTaken ts minus us → IsNumberTaken minus us r vs → IsConstantTaken signs ts r vs
signed_taken minus ts us vs (Ok r) m n = λ f o h. m f o (n f o h)
signed_taken minus ts us vs (Err fault) m n = λ f. fails_by (signs f) (numbers (f minus)) ts us fault (m f) (n f)

-- ---- parentheses

not_round_open : (f : Bool → ℕ → Ty → Goal) (s : Symbol) → (terminal_of s ≡ term.Punct p.RoundOpen → ⊥) → on_value f s ≡ on_sign f s
not_round_open f (punct x a) n = by_punct x n
  where
    by_punct : (x : Punct) → (term.Punct x ≡ term.Punct p.RoundOpen → ⊥) → on_value f (punct x a) ≡ on_sign f (punct x a)
    by_punct p.RoundOpen n = absurd (n refl)
    by_punct x n = refl
not_round_open f s n = refl

pub value_opens : (t : Token) (ts us : List Token) → ts ≡ t ∷ drop 1 ts → us ≡ drop 1 ts → terminal_of (symbol t) ≡ term.Punct p.RoundOpen → OpensValue ts true us
value_opens t ts us q r s = λ f. first_goes (values f) (signs (λ minus n ty. takes round_close (λ z. f minus n ty))) t ts us q r (ap (on_value f) (is_punct p.RoundOpen t s))

pub value_bare : (t : Token) (ts : List Token) → ts ≡ t ∷ drop 1 ts → (terminal_of (symbol t) ≡ term.Punct p.RoundOpen → ⊥) → OpensValue ts false ts
value_bare t ts q n = λ f. first_alike (values f) (signs f) t ts q (not_round_open f (symbol t) n)

pub bare_taken : (ts us vs : List Token) (r : Result _ ParseFault) → OpensValue ts false us → IsConstantTaken signs us r vs → IsConstantTaken values ts r vs
bare_taken ts us vs (Ok r) b n = λ f o h. b f o (n f o h)
bare_taken ts us vs (Err fault) b n = λ f. fails_by (values f) (signs f) ts us fault (b f) (n f)
