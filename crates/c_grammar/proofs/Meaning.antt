-- What completes a goal: the symbols from there to the end of the text, for a program.
use Rattle.std.proofs.Common.{◌≡◌, ℕ, ◌⊎◌, List, [], ◌∷◌, Some, Bool, true}
use Rattle.c_tree.specs.Bare.{Name}
use Rattle.c_tree.specs.Placed.{Expr, Exprs, Directive, Stmt, Stmts, MaybeStmt, Param}
use Rattle.c_tree.specs.declared.tree.Span.{Span}
use Rattle.c_tree.specs.declared.tree.Ty.{Ty}
use Rattle.c_tree.specs.declared.tree.SetOp.{SetOp}
use Rattle.c_lexer.specs.declared.token.Punct.TheVariants.{RoundClose, CurlyClose, Semicolon}
use Rattle.c_lexer.specs.declared.words.Keyword.TheVariants.{Return}
use Rattle.pragma_grammar.specs.Symbols.{Symbol, name, number, punct, keyword, end, place, start_of}
use Rattle.pragma_grammar.specs.Expressions.{Phrase, Subscripts, Listed}
use Rattle.pragma_grammar.specs.Directives.{DirectivePhrase}
use Rattle.pragma_grammar.specs.Reading.{Stops}
use Rattle.c_grammar.specs.Statements.{assigns, steps, Simple, Declarators, Init, Body, Units, Plain}
use Rattle.c_grammar.specs.Programs.{Signed, Value, Started, Params, Globals, Tops}
use Rattle.c_grammar.specs.Goals.{Class, the_line_end, fixed, Goal, ends, takes, may, names, may_name, numbers, zero, signs, values, at, expr, stopping, directive, subscripts, listed, operator, simple, body, units, declarators, init, params, globals, tops, Move, stuck, leads, reads, directs, accepts}
use Rattle.c_grammar.proofs.Classes.{Absent}

pub data AllRead (q : List Started) : List Started → List Symbol → Type 0 where
  all_is_read : AllRead q q []

pub data Ends (q : List Started) : List Started → List Symbol → Type 0 where
  ends_here : {a : Span} → Ends q q (end a ∷ [])

-- a symbol of the class stands first, and its place and what is left then meet `f`
pub data Takes (c : Class) (f : Span → List Symbol → Type 0) : List Symbol → Type 0 where
  takes_it : {z : Span} {ts : List Symbol} → f z ts → Takes c f (fixed c z ∷ ts)

pub data Without (c : Class) (f : List Symbol → Type 0) (ts : List Symbol) : Type 0 where
  without : Absent c ts → f ts → Without c f ts

pub data TakesName (f : Name → Span → List Symbol → Type 0) : List Symbol → Type 0 where
  takes_name : {x : Name} {a : Span} {ts : List Symbol} → f x a ts → TakesName f (name x a ∷ ts)

abbrev pub Unnamed : List Symbol → Type 0
Unnamed [] = Unit {0}
Unnamed (name x a ∷ ts) = ⊥
Unnamed (t ∷ ts) = Unit {0}

pub data Nameless (f : List Symbol → Type 0) (ts : List Symbol) : Type 0 where
  nameless : Unnamed ts → f ts → Nameless f ts

pub data TakesNumber (f : ℕ → Ty → List Symbol → Type 0) : List Symbol → Type 0 where
  takes_number : {n : ℕ} {ty : Ty} {z : Bool} {a : Span} {ts : List Symbol} → f n ty ts → TakesNumber f (number n ty z a ∷ ts)

pub data TakesZero (f : List Symbol → Type 0) : List Symbol → Type 0 where
  takes_zero : {n : ℕ} {ty : Ty} {a : Span} {ts : List Symbol} → f ts → TakesZero f (number n ty true a ∷ ts)

pub data SignReads (f : Bool → ℕ → Ty → List Symbol → Type 0) (ts : List Symbol) : Type 0 where
  sign_reads : {minus : Bool} {n : ℕ} {ty : Ty} {us : List Symbol} → Signed minus n ty ts us → f minus n ty us → SignReads f ts

pub data ValueReads (f : Bool → ℕ → Ty → List Symbol → Type 0) (ts : List Symbol) : Type 0 where
  value_reads : {minus : Bool} {n : ℕ} {ty : Ty} {us : List Symbol} → Value minus n ty ts us → f minus n ty us → ValueReads f ts

-- a whole expression stands first
pub data ExprReads (f : Expr → Span → List Symbol → Type 0) (ts : List Symbol) : Type 0 where
  expr_reads : {e : Expr} {w : Span} {us : List Symbol} → Phrase 0 e w ts us → Stops us → f e w us → ExprReads f ts

pub data Stopping (f : List Symbol → Type 0) (ts : List Symbol) : Type 0 where
  stopping_at : Stops ts → f ts → Stopping f ts

pub data DirectiveReads (f : Directive → List Symbol → Type 0) (ts : List Symbol) : Type 0 where
  directive_reads : {d : Directive} {us : List Symbol} → DirectivePhrase true d ts us → Takes the_line_end (λ z vs. f d vs) us → DirectiveReads f ts

pub data IndicesRead (f : Exprs → Span → List Symbol → Type 0) (a : Span) (ts : List Symbol) : Type 0 where
  indices_read : {es : Exprs} {z : Span} {us : List Symbol} → Subscripts es a z ts us → Stops us → f es z us → IndicesRead f a ts

pub data ListedReads (f : Exprs → Span → List Symbol → Type 0) (ts : List Symbol) : Type 0 where
  listed_reads : {es : Exprs} {z : Span} {us : List Symbol} → Listed es ts (punct RoundClose z ∷ us) → f es z us → ListedReads f ts

pub data Operates (f : SetOp → List Symbol → Type 0) (g : Bool → Span → List Symbol → Type 0) : List Symbol → Type 0 where
  assigning : {t : Symbol} {o : SetOp} {ts : List Symbol} → assigns t ≡ Some o → f o ts → Operates f g (t ∷ ts)
  stepping : {t : Symbol} {up : Bool} {ts : List Symbol} → steps t ≡ Some up → g up (place t) ts → Operates f g (t ∷ ts)

pub data SimpleReads (f : (ℕ → Stmt) → Span → List Symbol → Type 0) (ts : List Symbol) : Type 0 where
  simple_reads : {s : ℕ → Stmt} {z : Span} {us : List Symbol} → Simple s z ts us → Stops us → f s z us → SimpleReads f ts

pub data PlainReads (f : Stmt → Span → List Symbol → Type 0) (ts : List Symbol) : Type 0 where
  plain_reads : {s : Stmt} {z : Span} {us : List Symbol} → Plain s z ts us → f s z us → PlainReads f ts

pub data BodyReads (f : Stmts → Span → List Symbol → Type 0) (ts : List Symbol) : Type 0 where
  body_reads : {ss : Stmts} {z : Span} {us : List Symbol} → Body ss z ts us → f ss z us → BodyReads f ts

-- before the `}` of a list, and in `main` before that with `return 0;`
pub data Closing : Bool → List Symbol → List Symbol → Type 0 where
  closes : {b : Bool} {ts : List Symbol} → Closing b ts ts
  closes_returned : {n : ℕ} {ty : Ty} {a b c : Span} {ts : List Symbol} → Closing true (keyword Return a ∷ number n ty true b ∷ punct Semicolon c ∷ ts) ts

pub data UnitsRead (b : Bool) (f : Stmts → Span → List Symbol → Type 0) (ts : List Symbol) : Type 0 where
  units_read : {ss : Stmts} {z : Span} {us vs : List Symbol} → Units ss ts us → Closing b us (punct CurlyClose z ∷ vs) → f ss z vs → UnitsRead b f ts

pub data DeclaratorsRead (ty : Ty) (from : ℕ) (b : Bool) (f : Stmts → Span → List Symbol → Type 0) (ts : List Symbol) : Type 0 where
  declarators_read : {ss rs : Stmts} {z : Span} {us vs ws : List Symbol} → Declarators ty from ss rs ts us → Units rs us vs → Closing b vs (punct CurlyClose z ∷ ws) → f ss z ws → DeclaratorsRead ty from b f ts

pub data InitReads (f : MaybeStmt → List Symbol → Type 0) (ts : List Symbol) : Type 0 where
  init_reads : {s : MaybeStmt} {y : Span} {us : List Symbol} → Init s ts (punct Semicolon y ∷ us) → f s us → InitReads f ts

pub data ParamsRead (f : List Param → Span → List Symbol → Type 0) (ts : List Symbol) : Type 0 where
  params_read : {ps : List Param} {z : Span} {us : List Symbol} → Params ps ts (punct RoundClose z ∷ us) → f ps z us → ParamsRead f ts

pub data GlobalsRead (ty : Ty) (from : ℕ) (f : List Started → List Symbol → Type 0) (ts : List Symbol) : Type 0 where
  globals_read : {items rest : List Started} {us vs : List Symbol} → Globals ty from items rest ts us → Tops rest us vs → f items vs → GlobalsRead ty from f ts

pub data TopsRead (f : List Started → List Symbol → Type 0) (ts : List Symbol) : Type 0 where
  tops_read : {items : List Started} {us : List Symbol} → Tops items ts us → f items us → TopsRead f ts

abbrev pub Meets : List Started → Goal → List Symbol → Type 0
Meets p (ends q) ts = Ends p q ts
Meets p (takes c f) ts = Takes c (λ z us. Meets p (f z) us) ts
Meets p (may c f g) ts = Takes c (λ z us. Meets p (f z) us) ts ⊎ Without c (λ us. Meets p g us) ts
Meets p (names f) ts = TakesName (λ x a us. Meets p (f x a) us) ts
Meets p (may_name g) ts = TakesName (λ x a us. Meets p g us) ts ⊎ Nameless (λ us. Meets p g us) ts
Meets p (numbers f) ts = TakesNumber (λ n ty us. Meets p (f n ty) us) ts
Meets p (zero g) ts = TakesZero (λ us. Meets p g us) ts
Meets p (signs f) ts = SignReads (λ minus n ty us. Meets p (f minus n ty) us) ts
Meets p (values f) ts = ValueReads (λ minus n ty us. Meets p (f minus n ty) us) ts
Meets p (at f) ts = Meets p (f (start_of ts)) ts
Meets p (expr f) ts = ExprReads (λ e w us. Meets p (f e w) us) ts
Meets p (stopping g) ts = Stopping (λ us. Meets p g us) ts
Meets p (directive f) ts = DirectiveReads (λ d us. Meets p (f d) us) ts
Meets p (subscripts a f) ts = IndicesRead (λ es z us. Meets p (f es z) us) a ts
Meets p (listed f) ts = ListedReads (λ es z us. Meets p (f es z) us) ts
Meets p (operator f g) ts = Operates (λ o us. Meets p (f o) us) (λ up z us. Meets p (g up z) us) ts
Meets p (simple f) ts = SimpleReads (λ s z us. Meets p (f s z) us) ts
Meets p (body f) ts = BodyReads (λ ss z us. Meets p (f ss z) us) ts
Meets p (units b f) ts = UnitsRead b (λ ss z us. Meets p (f ss z) us) ts
Meets p (declarators ty b f) ts = DeclaratorsRead ty (start_of ts) b (λ ss z us. Meets p (f ss z) us) ts
Meets p (init f) ts = InitReads (λ s us. Meets p (f s) us) ts
Meets p (params f) ts = ParamsRead (λ ps z us. Meets p (f ps z) us) ts
Meets p (globals ty f) ts = GlobalsRead ty (start_of ts) (λ items us. Meets p (f items) us) ts
Meets p (tops f) ts = TopsRead (λ items us. Meets p (f items) us) ts

-- what completes the goal after a symbol, which is not taken yet where an expression or a directive begins
abbrev pub Moves : List Started → Move → Symbol → List Symbol → Type 0
Moves p stuck t ts = ⊥
Moves p (leads g) t ts = Meets p g ts
Moves p (reads f) t ts = ExprReads (λ e w us. Meets p (f e w) us) (t ∷ ts)
Moves p (directs f) t ts = DirectiveReads (λ d us. Meets p (f d) us) (t ∷ ts)
Moves p (accepts q) t ts = AllRead p q ts
