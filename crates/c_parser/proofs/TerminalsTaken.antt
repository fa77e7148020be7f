-- The first token by its terminal, and what comes where it is taken or blamed.
use Rattle.std.proofs.Common.{◌≡◌, Bool, true, false, List, [], ◌∷◌, drop, Option, Some, None, refl, sym, ap, ◌∙◌, subst}
use Rattle.std.specs.Prelude.{cond, Ok, Err}
use Rattle.c_tree.specs.Bare.{Name}
use Rattle.c_tree.specs.declared.tree.Span.{Span}
use Rattle.c_tree.specs.declared.tree.SetOp.{SetOp}
use Rattle.c_lexer.specs.declared.token.Token.{Token}
use Rattle.c_lexer.specs.declared.token.TokenKind.TheVariants as kind
use Rattle.c_lexer.specs.declared.token.Punct.{Punct}
use Rattle.c_lexer.specs.declared.token.Punct.TheVariants as p
use Rattle.pragma_grammar.specs.declared.phrase.ParseFault.{ParseFault}
use Rattle.pragma_grammar.specs.declared.terminal.Terminal.{Terminal}
use Rattle.pragma_grammar.specs.declared.terminal.Terminal.TheVariants as term
use Rattle.pragma_grammar.specs.Symbols.{Symbol, symbol, symbol_of, name, punct, end, place}
use Rattle.pragma_grammar.specs.Terminals.{terminal_of}
use Rattle.pragma_grammar.specs.Reading.{EndsText}
use Rattle.pragma_grammar.proofs.Terminals.{symbol_place}
use Rattle.c_parser.specs.declared.terminals.Operator.TheVariants.{Assign, Step}
use Rattle.c_grammar.specs.Statements.{assigns, steps}
use Rattle.c_grammar.specs.Goals.{Goal, names, operator, stopping, goes_on, step, stuck, leads, on_name, assigned_or, stepped_or}
use Rattle.c_parser.specs.Comes.{Comes, goes, alike, sticks, Fails, IsBlamed}
use Rattle.c_parser.specs.Terminals.{assigns_terminal, steps_terminal, goes_on_terminal, IsNameTaken, IsOperatorTaken, IsStopped}

-- ---- a symbol by its terminal

assigns_as : (s : Symbol) → assigns s ≡ assigns_terminal (terminal_of s)
assigns_as (punct x a) = by_punct x a
  where
    by_punct : (x : Punct) (a : Span) → assigns (punct x a) ≡ assigns_terminal (term.Punct x)
    by_punct p.Assign a = refl
    by_punct x a = refl
assigns_as s = refl

pub steps_as : (s : Symbol) → steps s ≡ steps_terminal (terminal_of s)
steps_as (punct x a) = by_punct x a
  where
    by_punct : (x : Punct) (a : Span) → steps (punct x a) ≡ steps_terminal (term.Punct x)
    by_punct p.PlusPlus a = refl
    by_punct x a = refl
steps_as s = refl

goes_on_as : (s : Symbol) → goes_on s ≡ goes_on_terminal (terminal_of s)
goes_on_as (punct x a) = by_punct x a
  where
    by_punct : (x : Punct) (a : Span) → goes_on (punct x a) ≡ goes_on_terminal (term.Punct x)
    by_punct p.Question a = refl
    by_punct x a = refl
goes_on_as s = refl

not_named : (f : Name → Span → Goal) (s : Symbol) → (terminal_of s ≡ term.Name → ⊥) → on_name f s ≡ stuck
not_named f (name x a) n = absurd (n refl)
not_named f s n = refl

-- ---- the last token has no such terminal

abbrev ends_there : (t : Token) → t.kind ≡ kind.End → symbol t ≡ end t.span
ends_there t q = ap (λ k. symbol_of k t.span) q

-- past a token that isn't the last one
pub past_other : (t : Token) (ts : List Token) → EndsText ts → ts ≡ t ∷ drop 1 ts → (terminal_of (symbol t) ≡ term.End → ⊥) → EndsText (drop 1 ts)
past_other t ts h q n = rest (drop 1 ts) (subst EndsText q h)
  where
    rest : (us : List Token) → EndsText (t ∷ us) → EndsText us
    rest [] e = absurd (n (ap terminal_of (ends_there t e)))
    rest (u ∷ us) e = e

pub not_end_name : (t : Token) → terminal_of (symbol t) ≡ term.Name → terminal_of (symbol t) ≡ term.End → ⊥
not_end_name t q e = let z : term.Name ≡ term.End = sym q ∙ e in cc

not_end_by : {X : Type 0} (f : Terminal → Option X) (t : Terminal) (x : X) → f term.End ≡ None → Some x ≡ f t → t ≡ term.End → ⊥
not_end_by {X = X} f t x q r e = none_is X x (sym q ∙ ap f (sym e) ∙ sym r)
  where
    none_is : (X : Type 0) (x : X) → None ≡ Some x → ⊥
    none_is X x q = cc

past_by : {X : Type 0} (f : Terminal → Option X) (t : Token) (ts : List Token) (k : Terminal) (x : X) → f term.End ≡ None → EndsText ts → ts ≡ t ∷ drop 1 ts → k ≡ terminal_of (symbol t) → Some x ≡ f k → EndsText (drop 1 ts)
past_by f t ts k x n e q r s = past_other t ts e q (λ h. not_end_by f k x n s (r ∙ h))

pub past_assign : (t : Token) (ts : List Token) (k : Terminal) (o : SetOp) → EndsText ts → ts ≡ t ∷ drop 1 ts → k ≡ terminal_of (symbol t) → Some o ≡ assigns_terminal k → EndsText (drop 1 ts)
past_assign t ts k o = past_by assigns_terminal t ts k o refl

pub past_step : (t : Token) (ts : List Token) (k : Terminal) (up : Bool) → EndsText ts → ts ≡ t ∷ drop 1 ts → k ≡ terminal_of (symbol t) → Some up ≡ steps_terminal k → EndsText (drop 1 ts)
past_step t ts k up = past_by steps_terminal t ts k up refl

-- ---- what comes

-- the first token leads on, or is blamed
pub first_leads : (x y : Goal) (t : Token) (ts us : List Token) (o : _) → ts ≡ t ∷ us → step x (symbol t) ≡ leads y → Comes y us o → Comes x ts o
first_leads x y t ts us o q l h = subst (λ z. Comes x z o) (sym q) (goes l h)

pub first_blamed : (x : Goal) (t : Token) (ts us : List Token) (fault : ParseFault) → ts ≡ t ∷ us → step x (symbol t) ≡ stuck → IsBlamed ts fault → Fails x ts fault
first_blamed x t ts us fault q l b = subst (λ z. Fails x z fault) (sym q) (subst (λ z. Fails x (t ∷ us) z) (sym (b t us q)) (sticks l))

-- the first token was taken
after_first : (t : Token) (ts us : List Token) → ts ≡ t ∷ drop 1 ts → us ≡ drop 1 ts → ts ≡ t ∷ us
after_first t ts us q r = q ∙ ap (λ z. t ∷ z) (sym r)

pub name_taken : (t : Token) (ts us : List Token) (x y : Name) → ts ≡ t ∷ drop 1 ts → us ≡ drop 1 ts → symbol t ≡ name x t.span → y ≡ x → IsNameTaken ts (Ok (y, t.span)) us
name_taken t ts us x y q r s e = λ f o h. first_leads (names f) (f y t.span) t ts us o (after_first t ts us q r) (ap (on_name f) s ∙ ap (λ z. leads (f z t.span)) (sym e)) h

pub name_untaken : (t : Token) (ts vs : List Token) (fault : ParseFault) → ts ≡ t ∷ drop 1 ts → (terminal_of (symbol t) ≡ term.Name → ⊥) → IsBlamed ts fault → IsNameTaken ts (Err fault) vs
name_untaken t ts vs fault q n b = λ f. first_blamed (names f) t ts (drop 1 ts) fault q (not_named f (symbol t) n) b

by_terminal : {X : Type 0} (f : Symbol → X) (g : Terminal → X) (t : Token) (k : Terminal) (x : X) → ((s : Symbol) → f s ≡ g (terminal_of s)) → k ≡ terminal_of (symbol t) → x ≡ g k → f (symbol t) ≡ x
by_terminal f g t k x same r s = same (symbol t) ∙ ap g (sym r) ∙ sym s

pub assign_taken : (t : Token) (ts us : List Token) (k : Terminal) (op : SetOp) → ts ≡ t ∷ drop 1 ts → us ≡ drop 1 ts → k ≡ terminal_of (symbol t) → Some op ≡ assigns_terminal k → IsOperatorTaken ts (Ok (Assign op)) us
assign_taken t ts us k op q r e a = λ f g o h.
    first_leads (operator f g) (f op) t ts us o (after_first t ts us q r) (ap (λ z. assigned_or f z (stepped_or (λ up. g up (place (symbol t))) (steps (symbol t)) stuck)) (by_terminal assigns assigns_terminal t k (Some op) assigns_as e a)) h

no_assign : (f : SetOp → Goal) (g : Bool → Span → Goal) (t : Token) (k : Terminal) (r : Option Bool) → k ≡ terminal_of (symbol t) → None ≡ assigns_terminal k → r ≡ steps_terminal k → step (operator f g) (symbol t) ≡ stepped_or (λ up. g up t.span) r stuck
no_assign f g t k r e a s =
    ap (λ z. assigned_or f z (stepped_or (λ up. g up (place (symbol t))) (steps (symbol t)) stuck)) (by_terminal assigns assigns_terminal t k None assigns_as e a)
    ∙ ap (λ z. stepped_or (λ up. g up (place (symbol t))) z stuck) (by_terminal steps steps_terminal t k r steps_as e s)
    ∙ ap (λ z. stepped_or (λ up. g up z) r stuck) (symbol_place t)

pub step_taken : (t : Token) (ts us : List Token) (k : Terminal) (up : Bool) → ts ≡ t ∷ drop 1 ts → us ≡ drop 1 ts → k ≡ terminal_of (symbol t) → None ≡ assigns_terminal k → Some up ≡ steps_terminal k → IsOperatorTaken ts (Ok (Step up t.span)) us
step_taken t ts us k up q r e a s = λ f g o h. first_leads (operator f g) (g up t.span) t ts us o (after_first t ts us q r) (no_assign f g t k (Some up) e a s) h

pub operator_untaken : (t : Token) (ts vs : List Token) (k : Terminal) (fault : ParseFault) → ts ≡ t ∷ drop 1 ts → k ≡ terminal_of (symbol t) → None ≡ assigns_terminal k → None ≡ steps_terminal k → IsBlamed ts fault → IsOperatorTaken ts (Err fault) vs
operator_untaken t ts vs k fault q e a s b = λ f g. first_blamed (operator f g) t ts (drop 1 ts) fault q (no_assign f g t k None e a s) b

stops_by : (g : Goal) (t : Token) (k : Terminal) (b c : Bool) → k ≡ terminal_of (symbol t) → b ≡ goes_on_terminal k → b ≡ c → step (stopping g) (symbol t) ≡ cond c stuck (step g (symbol t))
stops_by g t k b c e q r = ap (λ z. cond z stuck (step g (symbol t))) (by_terminal goes_on goes_on_terminal t k b goes_on_as e q ∙ r)

pub stopped : (t : Token) (ts : List Token) (k : Terminal) (b : Bool) (r : Unit {0}) → ts ≡ t ∷ drop 1 ts → k ≡ terminal_of (symbol t) → b ≡ goes_on_terminal k → b ≡ false → IsStopped ts (Ok r)
stopped t ts k b r q e s n = λ g o h. subst (λ z. Comes (stopping g) z o) (sym q) (alike (stops_by g t k b false e s n) (subst (λ z. Comes g z o) q h))

pub not_stopped : (t : Token) (ts : List Token) (k : Terminal) (b : Bool) (fault : ParseFault) → ts ≡ t ∷ drop 1 ts → k ≡ terminal_of (symbol t) → b ≡ goes_on_terminal k → b ≡ true → IsBlamed ts fault → IsStopped ts (Err fault)
not_stopped t ts k b fault q e s n h = λ g. first_blamed (stopping g) t ts (drop 1 ts) fault q (stops_by g t k b true e s n) h
