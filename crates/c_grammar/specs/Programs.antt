-- The grammar of programs (C11 6.9, 6.10.3, with the items of the profile): which tokens spell which program.
use Rattle.std.specs.Prelude.{◌≡◌, ℕ, Bool, true, false, List, [], ◌∷◌, Some, None, codes}
use Rattle.c_tree.specs.Bare.{Name}
use Rattle.c_tree.specs.Placed.{Expr, Exprs, no_exprs, Stmts, Param, Top, define, extern_, global, function, main, Program}
use Rattle.c_tree.specs.declared.tree.Span.{Span}
use Rattle.c_tree.specs.declared.tree.Ty.{Ty}
use Rattle.c_tree.specs.declared.tree.Ty.TheVariants as type
use Rattle.c_tree.specs.declared.tree.Port.TheVariants as port
use Rattle.c_lexer.specs.declared.token.Token.{Token}
use Rattle.c_lexer.specs.declared.token.Punct.TheVariants.{RoundOpen, RoundClose, CurlyOpen, CurlyClose, Semicolon, Comma, Assign, Minus}
use Rattle.c_lexer.specs.declared.words.Keyword.{Keyword}
use Rattle.c_lexer.specs.declared.words.Keyword.TheVariants.{Int, Void, Extern, Print, Input, Main, Return}
use Rattle.pragma_grammar.specs.Symbols.{Symbol, symbols, name, number, punct, keyword, static, hash, line_end, end, start_of, spanning}
use Rattle.pragma_grammar.specs.Expressions.{Phrase, Subscripts, TypeName}
use Rattle.c_grammar.specs.Statements.{Units}

abbrev pub IsDefine : Name → Type 0
IsDefine x = x ≡ codes "define"

-- `Value negative n ty ts us`: the value of a define, with a minus sign before it or without, in parentheses or without
pub data Signed : Bool → ℕ → Ty → List Symbol → List Symbol → Type 0 where
  positive : {n : ℕ} {ty : Ty} {z : Bool} {a : Span} {ts : List Symbol} → Signed false n ty (number n ty z a ∷ ts) ts
  negative : {n : ℕ} {ty : Ty} {z : Bool} {a b : Span} {ts : List Symbol} → Signed true n ty (punct Minus a ∷ number n ty z b ∷ ts) ts

pub data Value : Bool → ℕ → Ty → List Symbol → List Symbol → Type 0 where
  bare : {minus : Bool} {n : ℕ} {ty : Ty} {ts us : List Symbol} → Signed minus n ty ts us → Value minus n ty ts us
  in_parens : {minus : Bool} {n : ℕ} {ty : Ty} {a z : Span} {ts us : List Symbol} → Signed minus n ty ts (punct RoundClose z ∷ us) → Value minus n ty (punct RoundOpen a ∷ ts) us

-- the word may stand here or be left out
pub data MayStand : Keyword → List Symbol → List Symbol → Type 0 where
  absent : {k : Keyword} {ts : List Symbol} → MayStand k ts ts
  present : {k : Keyword} {a : Span} {ts : List Symbol} → MayStand k (keyword k a ∷ ts) ts

pub data MayBeNamed : List Symbol → List Symbol → Type 0 where
  unnamed : {ts : List Symbol} → MayBeNamed ts ts
  named : {x : Name} {a : Span} {ts : List Symbol} → MayBeNamed (name x a ∷ ts) ts

-- a declarator at file scope (6.7.6, 6.7.9): a scalar, maybe with an initial value, or an array with its dimensions
pub data Global : Ty → Top → List Symbol → List Symbol → Type 0 where
  plain : {ty : Ty} {x : Name} {es : Exprs} {a z : Span} {ts us : List Symbol} → Subscripts es a z ts us → Global ty (global ty x a es None) (name x a ∷ ts) us
  valued : {ty : Ty} {x : Name} {e : Expr} {a b w : Span} {ts us : List Symbol} → Phrase 0 e w ts us → Global ty (global ty x a no_exprs (Some e)) (name x a ∷ punct Assign b ∷ ts) us

-- an item and the place of its first token
pub record Started : Type 0 where
  pub start : ℕ
  pub top : Top

abbrev pub started : ℕ → Top → Started
started start top = record { start = start; top = top }

-- with commas between them, through `;`, before the items `rest`: the first begins at `from`, which is the type's place,
-- and each other one at its name
pub data Globals : Ty → ℕ → List Started → List Started → List Symbol → List Symbol → Type 0 where
  last_global : {ty : Ty} {from : ℕ} {top : Top} {rest : List Started} {z : Span} {ts us : List Symbol} → Global ty top ts (punct Semicolon z ∷ us) → Globals ty from (started from top ∷ rest) rest ts us
  next_global : {ty : Ty} {from : ℕ} {top : Top} {tops rest : List Started} {z : Span} {ts us vs : List Symbol} → Global ty top ts (punct Comma z ∷ us) → Globals ty (start_of us) tops rest us vs → Globals ty from (started from top ∷ tops) rest ts vs

pub data Params : List Param → List Symbol → List Symbol → Type 0 where
  last_param : {ty : Ty} {x : Name} {a : Span} {ts us : List Symbol} → TypeName ty ts (name x a ∷ us) → Params (record { ty = ty; name = x; name_span = a } ∷ []) ts us
  next_param : {ty : Ty} {ps : List Param} {x : Name} {a z : Span} {ts us vs : List Symbol} → TypeName ty ts (name x a ∷ punct Comma z ∷ us) → Params ps us vs → Params (record { ty = ty; name = x; name_span = a } ∷ ps) ts vs

-- between the parentheses of a function: nothing, `void`, or parameters
pub data Parameters : List Param → List Symbol → List Symbol → Type 0 where
  none : {ts us : List Symbol} → MayStand Void ts us → Parameters [] ts us
  some : {ps : List Param} {ts us : List Symbol} → Params ps ts us → Parameters ps ts us

-- `return 0;` may end `main`; of the numbers that are 0 only the one spelled `0` may stand there
pub data MayReturn : List Symbol → List Symbol → Type 0 where
  goes_off : {ts : List Symbol} → MayReturn ts ts
  returns : {n : ℕ} {ty : Ty} {a b c : Span} {ts : List Symbol} → MayReturn (keyword Return a ∷ number n ty true b ∷ punct Semicolon c ∷ ts) ts

-- `Tops tops ts us`: the items of a file with `main` as the last one; `main` and functions keep their braces
pub data Tops : List Started → List Symbol → List Symbol → Type 0 where
  -- 5.1.2.2.1
  the_main : {ss : Stmts} {a b c d e z : Span} {ts us vs ws : List Symbol} → MayStand Void ts (punct RoundClose d ∷ punct CurlyOpen e ∷ us) → Units ss us vs → MayReturn vs (punct CurlyClose z ∷ ws) → Tops (started a.start (main ss (spanning a z)) ∷ []) (keyword Int a ∷ keyword Main b ∷ punct RoundOpen c ∷ ts) ws
  -- 6.10.3
  defines : {x y : Name} {minus : Bool} {n : ℕ} {ty : Ty} {tops : List Started} {a b c z : Span} {ts us vs : List Symbol} → IsDefine x → Value minus n ty ts (line_end z ∷ us) → Tops tops us vs → Tops (started a.start (define y minus n ty c) ∷ tops) (hash a ∷ name x b ∷ name y c ∷ ts) vs
  -- the functions of the outside
  printer : {tops : List Started} {b c d y z : Span} {ts us vs ws xs : List Symbol} → MayStand Extern ts (keyword Void b ∷ keyword Print c ∷ punct RoundOpen d ∷ us) → TypeName type.Long us vs → MayBeNamed vs (punct RoundClose y ∷ punct Semicolon z ∷ ws) → Tops tops ws xs → Tops (started (start_of ts) (extern_ port.Print (record { start = start_of ts; end = z.end })) ∷ tops) ts xs
  reader : {tops : List Started} {b c y z : Span} {ts us vs ws xs : List Symbol} → MayStand Extern ts us → TypeName type.Long us (keyword Input b ∷ punct RoundOpen c ∷ vs) → MayStand Void vs (punct RoundClose y ∷ punct Semicolon z ∷ ws) → Tops tops ws xs → Tops (started (start_of ts) (extern_ port.Input (record { start = start_of ts; end = z.end })) ∷ tops) ts xs
  -- 6.7
  variables : {ty : Ty} {tops rest : List Started} {ts us vs ws : List Symbol} → TypeName ty ts us → Globals ty (start_of ts) tops rest us vs → Tops rest vs ws → Tops tops ts ws
  -- 6.9.1
  a_function : {x : Name} {ps : List Param} {ss : Stmts} {tops : List Started} {a b c d e f z : Span} {ts us vs ws : List Symbol} → Parameters ps ts (punct RoundClose e ∷ punct CurlyOpen f ∷ us) → Units ss us (punct CurlyClose z ∷ vs) → Tops tops vs ws → Tops (started a.start (function x c ps ss (spanning a z)) ∷ tops) (static a ∷ keyword Void b ∷ name x c ∷ punct RoundOpen d ∷ ts) ws

abbrev pub tops_of : List Started → Program
tops_of [] = []
tops_of (s ∷ ss) = s.top ∷ tops_of ss

-- the tokens of a text, with the last one, spell the items
pub data SpellsSymbols : List Started → List Symbol → Type 0 where
  spells : {tops : List Started} {a : Span} {ts : List Symbol} → Tops tops ts (end a ∷ []) → SpellsSymbols tops ts

abbrev pub SpellsItems : List Started → List Token → Type 0
SpellsItems tops tokens = SpellsSymbols tops (symbols tokens)

-- and so the program
pub record Spells (program : Program) (tokens : List Token) : Type 0 where
  pub items : List Started
  pub spelled : SpellsItems items tokens
  pub same : program ≡ tops_of items
