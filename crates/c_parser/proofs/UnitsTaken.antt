-- What comes of a unit of a list of statements.
use Rattle.std.proofs.Common.{◌≡◌, Bool, true, false, List, ◌∷◌, drop, refl, sym, ap, ◌∙◌, subst}
use Rattle.std.specs.Prelude.{cond, Result, Ok, Err}
use Rattle.c_tree.specs.Placed.{Stmts, no_stmts, more_stmts}
use Rattle.c_tree.specs.declared.tree.Span.{Span}
use Rattle.c_lexer.specs.declared.token.Token.{Token}
use Rattle.pragma_grammar.specs.declared.phrase.ParseFault.{ParseFault}
use Rattle.pragma_grammar.specs.declared.terminal.Terminal.{Terminal}
use Rattle.pragma_grammar.specs.declared.terminal.Terminal.TheVariants as term
use Rattle.pragma_grammar.specs.Reading.{EndsText}
use Rattle.pragma_grammar.specs.Symbols.{Symbol, symbol, number, place}
use Rattle.pragma_grammar.specs.Terminals.{terminal_of}
use Rattle.pragma_grammar.proofs.Terminals.{symbol_place}
use Rattle.c_parser.specs.declared.beginnings.Beginning.{Beginning}
use Rattle.c_parser.specs.declared.beginnings.Beginning.TheVariants as b
use Rattle.c_parser.specs.Beginnings.{beginning_of}
use Rattle.c_parser.specs.Bodies.{BeginsAt}
use Rattle.c_parser.specs.Comes.{IsBlamed, Leads, Fails}
use Rattle.c_grammar.specs.Goals.{Goal, takes, semicolon, curly_close, zero, units, leads, stuck, step, begin, on_zero}
use Rattle.c_parser.specs.Units.{zero_of, IsZeroTaken, IsReturnTaken}
use Rattle.c_parser.specs.Cursor.{IsTaken}
use Rattle.c_parser.proofs.SimpleTaken.{fails_by}
use Rattle.c_parser.proofs.Beginning.{continues, continues_as, first_goes}
use Rattle.c_parser.proofs.TerminalsTaken.{past_other, first_blamed}

-- ---- `0`

zero_as : (g : Goal) (s : Symbol) → on_zero g s ≡ cond (zero_of s) (leads g) stuck
zero_as g (number n ty true a) = refl
zero_as g (number n ty false a) = refl
zero_as g s = refl

pub not_zero : (s : Symbol) → (terminal_of s ≡ term.Number → ⊥) → false ≡ zero_of s
not_zero (number n ty z a) h = absurd (h refl)
not_zero s h = refl

zero_not_end : (s : Symbol) → zero_of s ≡ true → terminal_of s ≡ term.End → ⊥
zero_not_end (number n ty z a) q e = cc
zero_not_end s q e = let f : false ≡ true = q in cc

pub past_zero : (t : Token) (ts : List Token) (x : Bool) → EndsText ts → ts ≡ t ∷ drop 1 ts → x ≡ zero_of (symbol t) → x ≡ true → EndsText (drop 1 ts)
past_zero t ts x e q r i = past_other t ts e q (zero_not_end (symbol t) (sym r ∙ i))

pub zero_taken : (t : Token) (ts us : List Token) (x : Bool) (r : Unit {0}) → ts ≡ t ∷ drop 1 ts → us ≡ drop 1 ts → x ≡ zero_of (symbol t) → x ≡ true → IsZeroTaken ts (Ok r) us
zero_taken t ts us x r q s e i = λ g. first_goes (zero g) g t ts us q s (zero_as g (symbol t) ∙ ap (λ z. cond z (leads g) stuck) (sym e ∙ i))

pub zero_untaken : (t : Token) (ts us : List Token) (x : Bool) (fault : ParseFault) → ts ≡ t ∷ drop 1 ts → x ≡ zero_of (symbol t) → x ≡ false → IsBlamed ts fault → IsZeroTaken ts (Err fault) us
zero_untaken t ts us x fault q e i b = λ g. first_blamed (zero g) t ts (drop 1 ts) fault q (zero_as g (symbol t) ∙ ap (λ z. cond z (leads g) stuck) (sym e ∙ i)) b

-- ---- units

continued : (m : Bool) (f : Stmts → Span → Goal) (t : Token) (k : Terminal) (y z : Beginning) → k ≡ terminal_of (symbol t) → y ≡ beginning_of k → y ≡ z → step (units m f) (symbol t) ≡ continues m f z (symbol t)
continued m f t k y z r s i = continues_as m f (symbol t) ∙ ap (λ v. continues m f v (symbol t)) (ap beginning_of (sym r) ∙ sym s ∙ i)

pub unit_by : (g : Span → Goal) (m : Bool) (f : Stmts → Span → Goal) (t : Token) (ts us : List Token) (k : Terminal) (y z : Beginning) → ((s : Symbol) → continues m f z s ≡ leads (g (place s))) → ts ≡ t ∷ drop 1 ts → us ≡ drop 1 ts → k ≡ terminal_of (symbol t) → y ≡ beginning_of k → y ≡ z → Leads (units m f) ts (g t.span) us
unit_by g m f t ts us k y z l q u r s i = first_goes (units m f) (g t.span) t ts us q u (continued m f t k y z r s i ∙ l (symbol t) ∙ ap (λ v. leads (g v)) (symbol_place t))

-- `return` in another list than that of `main`
pub no_return : (f : Stmts → Span → Goal) (t : Token) (ts : List Token) (k : Terminal) (y : Beginning) (m : Bool) (fault : ParseFault) → ts ≡ t ∷ drop 1 ts → k ≡ terminal_of (symbol t) → y ≡ beginning_of k → y ≡ b.Return → m ≡ false → IsBlamed ts fault → Fails (units m f) ts fault
no_return f t ts k y m fault q r s i e h = first_blamed (units m f) t ts (drop 1 ts) fault q (continued m f t k y b.Return r s i ∙ (rw e refl)) h

continues_other : (m : Bool) (f : Stmts → Span → Goal) (s : Symbol) (x : Beginning) → (x ≡ b.CurlyOpen → ⊥) → (x ≡ b.CurlyClose → ⊥) → (x ≡ b.Return → ⊥) → (x ≡ b.Int → ⊥) → (x ≡ b.Long → ⊥) → continues m f x s ≡ begin (λ s y. units m (λ ss. f (more_stmts s ss))) s
continues_other m f s b.CurlyOpen g h i j k = absurd (g refl)
continues_other m f s b.CurlyClose g h i j k = absurd (h refl)
continues_other m f s b.Return g h i j k = absurd (i refl)
continues_other m f s b.Int g h i j k = absurd (j refl)
continues_other m f s b.Long g h i j k = absurd (k refl)
continues_other m f s x g h i j k = refl

-- anything else begins a statement
pub begins_unit : (m : Bool) (f : Stmts → Span → Goal) (t : Token) (ts : List Token) (k : Terminal) (y : Beginning) → ts ≡ t ∷ drop 1 ts → k ≡ terminal_of (symbol t) → y ≡ beginning_of k
    → (y ≡ b.CurlyOpen → ⊥) → (y ≡ b.CurlyClose → ⊥) → (y ≡ b.Return → ⊥) → (y ≡ b.Int → ⊥) → (y ≡ b.Long → ⊥) → BeginsAt (units m f) (λ s y. units m (λ ss. f (more_stmts s ss))) ts
begins_unit m f t ts k y q r s c d e g h u rest o =
    let same : t ≡ u = (let z : t ∷ drop 1 ts ≡ u ∷ rest = sym q ∙ o in cc) in
    subst (λ z. step (units m f) (symbol z) ≡ begin (λ s y. units m (λ ss. f (more_stmts s ss))) (symbol z)) same (continued m f t k y y r s refl ∙ continues_other m f (symbol t) y c d e g h)

-- ---- the end of `main`

pub return_taken : (ts us vs ws : List Token) (at : Span) (r : Result Span ParseFault) → ((g : Goal) → Leads (zero g) ts g us) → IsTaken semicolon us (Ok at) vs → IsTaken curly_close vs r ws → IsReturnTaken ts r ws
return_taken ts us vs ws at (Ok last) z s c = λ f o h. z (takes semicolon (λ b. takes curly_close (λ y. f no_stmts y))) o (s (λ b. takes curly_close (λ y. f no_stmts y)) o (c (λ y. f no_stmts y) o h))
return_taken ts us vs ws at (Err fault) z s c = λ f. fails_by _ _ ts vs fault (λ o h. z (takes semicolon (λ b. takes curly_close (λ y. f no_stmts y))) o (s (λ b. takes curly_close (λ y. f no_stmts y)) o h)) (c (λ y. f no_stmts y))
