-- What a goal does where a statement or a declaration may begin, by what the first token is to it.
use Rattle.std.proofs.Common.{◌≡◌, Bool, false, List, ◌∷◌, drop, refl, sym, ap, ◌∙◌, subst}
use Rattle.c_tree.specs.Placed.{Stmt, empty, break_, continue_, block, Stmts, no_stmts, more_stmts, MaybeStmt, no_stmt}
use Rattle.c_tree.specs.declared.tree.Span.{Span}
use Rattle.c_tree.specs.declared.tree.Ty.TheVariants as ty
use Rattle.c_lexer.specs.declared.token.Token.{Token}
use Rattle.c_lexer.specs.declared.token.Punct.{Punct}
use Rattle.c_lexer.specs.declared.token.Punct.TheVariants as p
use Rattle.c_lexer.specs.declared.words.Keyword.{Keyword}
use Rattle.c_lexer.specs.declared.words.Keyword.TheVariants as k
use Rattle.pragma_grammar.specs.declared.terminal.Terminal.{Terminal}
use Rattle.pragma_grammar.specs.declared.terminal.Terminal.TheVariants as term
use Rattle.pragma_grammar.specs.Symbols.{Symbol, symbol, punct, keyword, place, spanning}
use Rattle.pragma_grammar.specs.Terminals.{terminal_of}
use Rattle.pragma_grammar.specs.Reading.{EndsText}
use Rattle.pragma_grammar.proofs.Terminals.{symbol_place}
use Rattle.c_parser.specs.declared.beginnings.Beginning.{Beginning}
use Rattle.c_parser.specs.declared.beginnings.Beginning.TheVariants as b
use Rattle.c_parser.specs.Beginnings.{keyword_begins, beginning_of}
use Rattle.c_grammar.specs.Goals.{Goal, takes, names, semicolon, simple, units, Move, leads, step, begin, in_units, on_body, on_init, on_return, name_goal, print_goal, if_goal, while_goal, do_goal, for_goal, pragma_goal, ends_statement, declaration, long_rest, init_declares, init_simple, init, init}
use Rattle.c_parser.specs.Bodies.{BeginsAt}
use Rattle.c_parser.specs.Comes.{Comes, goes, alike, Leads}
use Rattle.c_parser.proofs.TerminalsTaken.{past_other}

-- ---- statements

abbrev pub begins : (Stmt → Span → Goal) → Beginning → Symbol → Move
begins f b.Name s = step (names (λ x a. name_goal x a f)) s
begins f b.Empty s = leads (f (empty (place s)) (place s))
begins f b.Print s = leads (print_goal (place s) f)
begins f b.If s = leads (if_goal (place s) f)
begins f b.While s = leads (while_goal (place s) f)
begins f b.Do s = leads (do_goal (place s) f)
begins f b.For s = leads (for_goal (place s) f)
begins f b.Break s = leads (takes semicolon (λ z. f (break_ (spanning (place s) z)) z))
begins f b.Continue s = leads (takes semicolon (λ z. f (continue_ (spanning (place s) z)) z))
begins f b.Pragma s = leads (pragma_goal (place s) f)
begins f _ s = step (simple (ends_statement f)) s

begins_punct : (f : Stmt → Span → Goal) (x : Punct) (a : Span) → begin f (punct x a) ≡ begins f (beginning_of (term.Punct x)) (punct x a)
begins_punct f p.Semicolon a = refl
begins_punct f x a = refl

begins_keyword : (f : Stmt → Span → Goal) (x : Keyword) (a : Span) → begin f (keyword x a) ≡ begins f (keyword_begins x) (keyword x a)
begins_keyword f k.Print a = refl
begins_keyword f x a = refl

pub begins_as : (f : Stmt → Span → Goal) (s : Symbol) → begin f s ≡ begins f (beginning_of (terminal_of s)) s
begins_as f (punct x a) = begins_punct f x a
begins_as f (keyword x a) = begins_keyword f x a
begins_as f s = refl

-- ---- units of a list

abbrev pub continues : Bool → (Stmts → Span → Goal) → Beginning → Symbol → Move
continues m f b.CurlyOpen s = leads (units false (λ ss z. units m (λ rs. f (more_stmts (block ss (spanning (place s) z)) rs))))
continues m f b.CurlyClose s = leads (f no_stmts (place s))
continues m f b.Return s = on_return m f
continues m f b.Int s = leads (declaration ty.Int (place s).start m f)
continues m f b.Long s = leads (long_rest (declaration ty.Long (place s).start m f))
continues m f _ s = begin (λ s y. units m (λ ss. f (more_stmts s ss))) s

continues_punct : (m : Bool) (f : Stmts → Span → Goal) (x : Punct) (a : Span) → in_units m f (punct x a) ≡ continues m f (beginning_of (term.Punct x)) (punct x a)
continues_punct m f p.CurlyOpen a = refl
continues_punct m f x a = refl

continues_keyword : (m : Bool) (f : Stmts → Span → Goal) (x : Keyword) (a : Span) → in_units m f (keyword x a) ≡ continues m f (keyword_begins x) (keyword x a)
continues_keyword m f k.Return a = refl
continues_keyword m f x a = refl

pub continues_as : (m : Bool) (f : Stmts → Span → Goal) (s : Symbol) → in_units m f s ≡ continues m f (beginning_of (terminal_of s)) s
continues_as m f (punct x a) = continues_punct m f x a
continues_as m f (keyword x a) = continues_keyword m f x a
continues_as m f s = refl

-- ---- a body

abbrev pub embodies : (Stmts → Span → Goal) → Beginning → Symbol → Move
embodies f b.CurlyOpen s = leads (units false f)
embodies f _ s = begin (λ s z. f (more_stmts s no_stmts) z) s

embodies_punct : (f : Stmts → Span → Goal) (x : Punct) (a : Span) → on_body f (punct x a) ≡ embodies f (beginning_of (term.Punct x)) (punct x a)
embodies_punct f p.CurlyOpen a = refl
embodies_punct f x a = refl

embodies_keyword : (f : Stmts → Span → Goal) (x : Keyword) (a : Span) → on_body f (keyword x a) ≡ embodies f (keyword_begins x) (keyword x a)
embodies_keyword f k.Return a = refl
embodies_keyword f x a = refl

pub embodies_as : (f : Stmts → Span → Goal) (s : Symbol) → on_body f s ≡ embodies f (beginning_of (terminal_of s)) s
embodies_as f (punct x a) = embodies_punct f x a
embodies_as f (keyword x a) = embodies_keyword f x a
embodies_as f s = refl

-- ---- the first part of a `for` head

abbrev pub initiates : (MaybeStmt → Goal) → Beginning → Symbol → Move
initiates f b.Empty s = leads (f no_stmt)
initiates f b.Int s = leads (init_declares ty.Int (place s).start f)
initiates f b.Long s = leads (long_rest (init_declares ty.Long (place s).start f))
initiates f _ s = step (simple (init_simple f)) s

initiates_punct : (f : MaybeStmt → Goal) (x : Punct) (a : Span) → on_init f (punct x a) ≡ initiates f (beginning_of (term.Punct x)) (punct x a)
initiates_punct f p.Semicolon a = refl
initiates_punct f x a = refl

initiates_keyword : (f : MaybeStmt → Goal) (x : Keyword) (a : Span) → on_init f (keyword x a) ≡ initiates f (keyword_begins x) (keyword x a)
initiates_keyword f k.Int a = refl
initiates_keyword f x a = refl

pub initiates_as : (f : MaybeStmt → Goal) (s : Symbol) → on_init f s ≡ initiates f (beginning_of (terminal_of s)) s
initiates_as f (punct x a) = initiates_punct f x a
initiates_as f (keyword x a) = initiates_keyword f x a
initiates_as f s = refl

-- ---- past the first token

other_end : beginning_of term.End ≡ b.Other
other_end = refl

pub past_beginning : (t : Token) (ts : List Token) (k : Terminal) (x y : Beginning) → EndsText ts → ts ≡ t ∷ drop 1 ts → k ≡ terminal_of (symbol t) → x ≡ beginning_of k → x ≡ y → (b.Other ≡ y → ⊥) → EndsText (drop 1 ts)
past_beginning t ts k x y e q r s i n = past_other t ts e q (λ h. n (sym (ap beginning_of (r ∙ h)) ∙ sym s ∙ i))

-- the first token leads on, or does what it does at another goal
pub first_goes : (x y : Goal) (t : Token) (ts us : List Token) → ts ≡ t ∷ drop 1 ts → us ≡ drop 1 ts → step x (symbol t) ≡ leads y → Leads x ts y us
first_goes x y t ts us q r s = λ o h. subst (λ l. Comes x l o) (sym (q ∙ ap (λ z. t ∷ z) (sym r))) (goes s h)

pub first_alike : (x y : Goal) (t : Token) (ts : List Token) → ts ≡ t ∷ drop 1 ts → step x (symbol t) ≡ step y (symbol t) → Leads x ts y ts
first_alike x y t ts q s = λ o h. subst (λ l. Comes x l o) (sym q) (alike s (subst (λ l. Comes y l o) q h))

abbrev pub Begins : Beginning → Type 0
Begins b.Other = ⊥
Begins x = Unit {0}

-- a first token that is something else than `Other` isn't the last one
pub other_than : (x : Beginning) → Begins x → b.Other ≡ x → ⊥
other_than x h q = absurd (subst Begins (sym q) h)

pub init_leads : (f : MaybeStmt → Goal) (t : Token) (k : Terminal) (x y : Beginning) → k ≡ terminal_of (symbol t) → x ≡ beginning_of k → x ≡ y → step (init f) (symbol t) ≡ initiates f y (symbol t)
init_leads f t k x y r s i = initiates_as f (symbol t) ∙ ap (λ z. initiates f z (symbol t)) (ap beginning_of (sym r) ∙ sym s ∙ i)

pub init_empty : (f : MaybeStmt → Goal) (t : Token) (ts us : List Token) (k : Terminal) (x : Beginning) → ts ≡ t ∷ drop 1 ts → us ≡ drop 1 ts → k ≡ terminal_of (symbol t) → x ≡ beginning_of k → x ≡ b.Empty → Leads (init f) ts (f no_stmt) us
init_empty f t ts us k x q u r s i = first_goes _ _ t ts us q u (init_leads f t k x b.Empty r s i)

pub init_int : (f : MaybeStmt → Goal) (t : Token) (ts us : List Token) (k : Terminal) (x : Beginning) → ts ≡ t ∷ drop 1 ts → us ≡ drop 1 ts → k ≡ terminal_of (symbol t) → x ≡ beginning_of k → x ≡ b.Int → Leads (init f) ts (init_declares ty.Int t.span.start f) us
init_int f t ts us k x q u r s i = first_goes _ _ t ts us q u (init_leads f t k x b.Int r s i ∙ ap (λ z. leads (init_declares ty.Int z.start f)) (symbol_place t))

pub init_long : (f : MaybeStmt → Goal) (t : Token) (ts us : List Token) (k : Terminal) (x : Beginning) → ts ≡ t ∷ drop 1 ts → us ≡ drop 1 ts → k ≡ terminal_of (symbol t) → x ≡ beginning_of k → x ≡ b.Long → Leads (init f) ts (long_rest (init_declares ty.Long t.span.start f)) us
init_long f t ts us k x q u r s i = first_goes _ _ t ts us q u (init_leads f t k x b.Long r s i ∙ ap (λ z. leads (long_rest (init_declares ty.Long z.start f))) (symbol_place t))

initiates_other : (f : MaybeStmt → Goal) (s : Symbol) (x : Beginning) → (x ≡ b.Empty → ⊥) → (x ≡ b.Int → ⊥) → (x ≡ b.Long → ⊥) → initiates f x s ≡ step (simple (init_simple f)) s
initiates_other f s b.Empty m n o = absurd (m refl)
initiates_other f s b.Int m n o = absurd (n refl)
initiates_other f s b.Long m n o = absurd (o refl)
initiates_other f s x m n o = refl

pub init_other : (f : MaybeStmt → Goal) (t : Token) (ts : List Token) (k : Terminal) (x : Beginning) → ts ≡ t ∷ drop 1 ts → k ≡ terminal_of (symbol t) → x ≡ beginning_of k → (x ≡ b.Empty → ⊥) → (x ≡ b.Int → ⊥) → (x ≡ b.Long → ⊥) → Leads (init f) ts (simple (init_simple f)) ts
init_other f t ts k x q r s l m n = first_alike _ _ t ts q (init_leads f t k x x r s refl ∙ initiates_other f (symbol t) x l m n)

-- ---- a statement

begun : (x : Goal) (f : Stmt → Span → Goal) (t : Token) (ts : List Token) (k : Terminal) (y z : Beginning) → BeginsAt x f ts → ts ≡ t ∷ drop 1 ts → k ≡ terminal_of (symbol t) → y ≡ beginning_of k → y ≡ z → step x (symbol t) ≡ begins f z (symbol t)
begun x f t ts k y z h q r s i = h t (drop 1 ts) q ∙ begins_as f (symbol t) ∙ ap (λ v. begins f v (symbol t)) (ap beginning_of (sym r) ∙ sym s ∙ i)

pub begun_by : (g : Span → Goal) (x : Goal) (f : Stmt → Span → Goal) (t : Token) (ts us : List Token) (k : Terminal) (y z : Beginning) → ((s : Symbol) → begins f z s ≡ leads (g (place s))) → BeginsAt x f ts → ts ≡ t ∷ drop 1 ts → us ≡ drop 1 ts → k ≡ terminal_of (symbol t) → y ≡ beginning_of k → y ≡ z → Leads x ts (g t.span) us
begun_by g x f t ts us k y z l h q u r s i = first_goes x (g t.span) t ts us q u (begun x f t ts k y z h q r s i ∙ l (symbol t) ∙ ap (λ v. leads (g v)) (symbol_place t))

pub begun_name : (x : Goal) (f : Stmt → Span → Goal) (t : Token) (ts : List Token) (k : Terminal) (y : Beginning) → BeginsAt x f ts → ts ≡ t ∷ drop 1 ts → k ≡ terminal_of (symbol t) → y ≡ beginning_of k → y ≡ b.Name → Leads x ts (names (λ x a. name_goal x a f)) ts
begun_name x f t ts k y h q r s i = first_alike x _ t ts q (begun x f t ts k y b.Name h q r s i)

begins_other : (f : Stmt → Span → Goal) (s : Symbol) (x : Beginning) → (x ≡ b.If → ⊥) → (x ≡ b.While → ⊥) → (x ≡ b.Do → ⊥) → (x ≡ b.For → ⊥) → (x ≡ b.Pragma → ⊥) → (x ≡ b.Empty → ⊥) → (x ≡ b.Print → ⊥) → (x ≡ b.Break → ⊥) → (x ≡ b.Continue → ⊥) → (x ≡ b.Name → ⊥) → begins f x s ≡ step (simple (ends_statement f)) s
begins_other f s b.If g h i j k l m n o p = absurd (g refl)
begins_other f s b.While g h i j k l m n o p = absurd (h refl)
begins_other f s b.Do g h i j k l m n o p = absurd (i refl)
begins_other f s b.For g h i j k l m n o p = absurd (j refl)
begins_other f s b.Pragma g h i j k l m n o p = absurd (k refl)
begins_other f s b.Empty g h i j k l m n o p = absurd (l refl)
begins_other f s b.Print g h i j k l m n o p = absurd (m refl)
begins_other f s b.Break g h i j k l m n o p = absurd (n refl)
begins_other f s b.Continue g h i j k l m n o p = absurd (o refl)
begins_other f s b.Name g h i j k l m n o p = absurd (p refl)
begins_other f s x g h i j k l m n o p = refl

pub begun_other : (x : Goal) (f : Stmt → Span → Goal) (t : Token) (ts : List Token) (k : Terminal) (y : Beginning) → BeginsAt x f ts → ts ≡ t ∷ drop 1 ts → k ≡ terminal_of (symbol t) → y ≡ beginning_of k
    → (y ≡ b.If → ⊥) → (y ≡ b.While → ⊥) → (y ≡ b.Do → ⊥) → (y ≡ b.For → ⊥) → (y ≡ b.Pragma → ⊥) → (y ≡ b.Empty → ⊥) → (y ≡ b.Print → ⊥) → (y ≡ b.Break → ⊥) → (y ≡ b.Continue → ⊥) → (y ≡ b.Name → ⊥) → Leads x ts (simple (ends_statement f)) ts
begun_other x f t ts k y v q r s c d e g h i j l m n = first_alike x _ t ts q (begun x f t ts k y y v q r s refl ∙ begins_other f (symbol t) y c d e g h i j l m n)
