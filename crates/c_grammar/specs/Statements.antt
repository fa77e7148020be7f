-- The grammar of statements and declarations (C11 6.7, 6.8, and the directives of OpenMP before a statement): which
-- symbols spell which tree. In `.. ts us` the symbols of `ts` before its end `us` spell it.
use Rattle.std.specs.Prelude.{◌≡◌, ℕ, Bool, true, false, List, [], ◌∷◌, Option, Some, None, codes}
use Rattle.c_tree.specs.Bare.{Name}
use Rattle.c_tree.specs.Placed.{Expr, Exprs, no_exprs, Target, target, Directive, Stmt, decl, set, step, print, input, if_, if_else, while_, do_, for_, block, break_, continue_, empty, omp, call, Stmts, no_stmts, more_stmts, MaybeStmt, no_stmt, a_stmt, Head, head}
use Rattle.c_tree.specs.declared.tree.Span.{Span}
use Rattle.c_tree.specs.declared.tree.Ty.{Ty}
use Rattle.c_tree.specs.declared.tree.SetOp.{SetOp}
use Rattle.c_tree.specs.declared.tree.SetOp.TheVariants as op
use Rattle.c_lexer.specs.declared.token.Punct.TheVariants.{RoundOpen, RoundClose, CurlyOpen, CurlyClose, Semicolon, Comma, Assign, PlusAssign, MinusAssign, StarAssign, SlashAssign, PercentAssign, PlusPlus, MinusMinus}
use Rattle.c_lexer.specs.declared.words.Keyword.TheVariants.{If, Else, While, Do, For, Break, Continue, Print, Input}
use Rattle.pragma_grammar.specs.Symbols.{Symbol, name, punct, keyword, hash, line_end, place, start_of, spanning}
use Rattle.pragma_grammar.specs.Expressions.{Phrase, Subscripts, Listed, TypeName}
use Rattle.pragma_grammar.specs.Directives.{DirectivePhrase}

-- the operator of an assignment (6.5.16)
abbrev pub assigns : Symbol → Option SetOp
assigns (punct Assign s) = Some op.Plain
assigns (punct PlusAssign s) = Some op.Add
assigns (punct MinusAssign s) = Some op.Sub
assigns (punct StarAssign s) = Some op.Mul
assigns (punct SlashAssign s) = Some op.Div
assigns (punct PercentAssign s) = Some op.Rem
assigns t = None

-- `++`, which steps up, or `--` (6.5.2.4, 6.5.3.1)
abbrev pub steps : Symbol → Option Bool
steps (punct PlusPlus s) = Some true
steps (punct MinusMinus s) = Some false
steps t = None

-- the word after `#`, and the one after it (C11 6.10.6, OpenMP 6.0, directive syntax in C)
abbrev pub IsPragma : Name → Type 0
IsPragma x = x ≡ codes "pragma"

abbrev pub IsOmp : Name → Type 0
IsOmp x = x ≡ codes "omp"

-- what is assigned, which stands at `w`: a name, with subscripts or without
pub data TargetPhrase : Target → Span → List Symbol → List Symbol → Type 0 where
  targets : {x : Name} {es : Exprs} {a z : Span} {ts us : List Symbol} → Subscripts es a z ts us → TargetPhrase (target x es (spanning a z)) (spanning a z) (name x a ∷ ts) us

-- `Simple s z ts us`: an assignment or a step (6.8.3); `s to` is its node where that ends at `to`, and its last token
-- stands at `z`
pub data Simple : (ℕ → Stmt) → Span → List Symbol → List Symbol → Type 0 where
  assignment : {x : Target} {t : Symbol} {o : SetOp} {e : Expr} {v w : Span} {ts us vs : List Symbol} → TargetPhrase x v ts (t ∷ us) → assigns t ≡ Some o → Phrase 0 e w us vs → Simple (λ to. set x o e (record { start = v.start; end = to })) w ts vs
  step_after : {x : Target} {t : Symbol} {up : Bool} {v : Span} {ts us : List Symbol} → TargetPhrase x v ts (t ∷ us) → steps t ≡ Some up → Simple (λ to. step x up (record { start = v.start; end = to })) (place t) ts us
  step_before : {x : Target} {t : Symbol} {up : Bool} {v : Span} {ts us : List Symbol} → steps t ≡ Some up → TargetPhrase x v ts us → Simple (λ to. step x up (record { start = (place t).start; end = to })) v (t ∷ ts) us

-- `Declarator ty from ss z ts us`: a declarator (6.7.6) of a declaration of type `ty`; `ss to rest` is its nodes, which
-- begin at `from` and end at `to`, before the statements `rest`. Its last token stands at `z`. What is declared and read
-- at once is a declaration that ends at its name, and then the reading.
pub data Declarator : Ty → ℕ → (ℕ → Stmts → Stmts) → Span → List Symbol → List Symbol → Type 0 where
  unset : {ty : Ty} {from : ℕ} {x : Name} {a : Span} {ts : List Symbol} → Declarator ty from (λ to rest. more_stmts (decl ty x a None (record { start = from; end = to })) rest) a (name x a ∷ ts) ts
  valued : {ty : Ty} {from : ℕ} {x : Name} {e : Expr} {a b w : Span} {ts us : List Symbol} → Phrase 0 e w ts us → Declarator ty from (λ to rest. more_stmts (decl ty x a (Some e) (record { start = from; end = to })) rest) w (name x a ∷ punct Assign b ∷ ts) us
  read_in : {ty : Ty} {from : ℕ} {x : Name} {a b c d z : Span} {ts : List Symbol} → Declarator ty from (λ to rest. more_stmts (decl ty x a None (record { start = from; end = a.end })) (more_stmts (input (target x no_exprs a) c.start (record { start = a.start; end = to })) rest)) z (name x a ∷ punct Assign b ∷ keyword Input c ∷ punct RoundOpen d ∷ punct RoundClose z ∷ ts) ts

-- declarators with commas between them, through `;`, and the statements `rest` after them: the first begins at `from`,
-- which is the type's place, and each other one at its name; the last one ends at `;`, and each other one at its last
-- token
pub data Declarators : Ty → ℕ → Stmts → Stmts → List Symbol → List Symbol → Type 0 where
  last_declarator : {ty : Ty} {from : ℕ} {ss : ℕ → Stmts → Stmts} {rest : Stmts} {y z : Span} {ts us : List Symbol} → Declarator ty from ss y ts (punct Semicolon z ∷ us) → Declarators ty from (ss z.end rest) rest ts us
  next_declarator : {ty : Ty} {from : ℕ} {ss : ℕ → Stmts → Stmts} {rs rest : Stmts} {y z : Span} {ts us vs : List Symbol} → Declarator ty from ss y ts (punct Comma z ∷ us) → Declarators ty (start_of us) rs rest us vs → Declarators ty from (ss y.end rs) rest ts vs

-- the parts of a `for` head (6.8.5.3): each is absent, or ends with its last token
pub data Init : MaybeStmt → List Symbol → List Symbol → Type 0 where
  no_init : {ts : List Symbol} → Init no_stmt ts ts
  declares : {ty : Ty} {x : Name} {e : Expr} {a b w : Span} {ts us vs : List Symbol} → TypeName ty ts (name x a ∷ punct Assign b ∷ us) → Phrase 0 e w us vs → Init (a_stmt (decl ty x a (Some e) (record { start = start_of ts; end = w.end }))) ts vs
  begins : {s : ℕ → Stmt} {z : Span} {ts us : List Symbol} → Simple s z ts us → Init (a_stmt (s z.end)) ts us

pub data Test : Option Expr → List Symbol → List Symbol → Type 0 where
  no_test : {ts : List Symbol} → Test None ts ts
  tests : {e : Expr} {w : Span} {ts us : List Symbol} → Phrase 0 e w ts us → Test (Some e) ts us

pub data Next : MaybeStmt → List Symbol → List Symbol → Type 0 where
  no_next : {ts : List Symbol} → Next no_stmt ts ts
  goes_on : {s : ℕ → Stmt} {z : Span} {ts us : List Symbol} → Simple s z ts us → Next (a_stmt (s z.end)) ts us

-- the place of a part is that of its first token, and of an absent one that of the token which follows
pub data HeadPhrase : Head → List Symbol → List Symbol → Type 0 where
  three_parts : {init next : MaybeStmt} {test : Option Expr} {y z : Span} {ts us vs ws : List Symbol} → Init init ts (punct Semicolon y ∷ us) → Test test us (punct Semicolon z ∷ vs) → Next next vs ws → HeadPhrase (head init (start_of ts) test (start_of us) next (start_of vs)) ts ws

-- `else` belongs to the nearest `if` (6.8.4.1): one without `else` is never followed by it
abbrev pub NoElse : List Symbol → Type 0
NoElse [] = Unit {0}
NoElse (keyword Else s ∷ ts) = ⊥
NoElse (t ∷ ts) = Unit {0}

-- `Plain s z ts us`: a statement other than a list in braces; its last token stands at `z`.
-- `Body ss z ts us`: the body of a statement. A list in braces gives that list, and one other statement is a list too.
-- `Units ss ts us`: declarations and statements, as in a list in braces.
mutual
  pub data Plain : Stmt → Span → List Symbol → List Symbol → Type 0 where
    -- 6.8.3
    nothing : {a : Span} {ts : List Symbol} → Plain (empty a) a (punct Semicolon a ∷ ts) ts
    simply : {s : ℕ → Stmt} {y z : Span} {ts us : List Symbol} → Simple s y ts (punct Semicolon z ∷ us) → Plain (s z.end) z ts us
    reads : {x : Target} {t : Symbol} {v c d e z : Span} {ts us : List Symbol} → assigns t ≡ Some op.Plain → TargetPhrase x v ts (t ∷ keyword Input c ∷ punct RoundOpen d ∷ punct RoundClose e ∷ punct Semicolon z ∷ us) → Plain (input x c.start (spanning v z)) z ts us
    prints : {e : Expr} {a b w y z : Span} {ts us : List Symbol} → Phrase 0 e w ts (punct RoundClose y ∷ punct Semicolon z ∷ us) → Plain (print e (spanning a z)) z (keyword Print a ∷ punct RoundOpen b ∷ ts) us
    calls : {x : Name} {a b y z : Span} {ts : List Symbol} → Plain (call x a no_exprs (spanning a z)) z (name x a ∷ punct RoundOpen b ∷ punct RoundClose y ∷ punct Semicolon z ∷ ts) ts
    calls_with : {x : Name} {es : Exprs} {a b y z : Span} {ts us : List Symbol} → Listed es ts (punct RoundClose y ∷ punct Semicolon z ∷ us) → Plain (call x a es (spanning a z)) z (name x a ∷ punct RoundOpen b ∷ ts) us
    -- 6.8.4.1
    decides : {e : Expr} {ss : Stmts} {a b c w z : Span} {ts us vs : List Symbol} → Phrase 0 e w ts (punct RoundClose c ∷ us) → Body ss z us vs → NoElse vs → Plain (if_ e ss (spanning a z)) z (keyword If a ∷ punct RoundOpen b ∷ ts) vs
    chooses : {e : Expr} {ss rs : Stmts} {a b c d w y z : Span} {ts us vs ws : List Symbol} → Phrase 0 e w ts (punct RoundClose c ∷ us) → Body ss y us (keyword Else d ∷ vs) → Body rs z vs ws → Plain (if_else e ss rs (spanning a z)) z (keyword If a ∷ punct RoundOpen b ∷ ts) ws
    -- 6.8.5
    repeats : {e : Expr} {ss : Stmts} {a b c w z : Span} {ts us vs : List Symbol} → Phrase 0 e w ts (punct RoundClose c ∷ us) → Body ss z us vs → Plain (while_ e ss (spanning a z)) z (keyword While a ∷ punct RoundOpen b ∷ ts) vs
    does : {e : Expr} {ss : Stmts} {a b c d w y z : Span} {ts us vs : List Symbol} → Body ss y ts (keyword While b ∷ punct RoundOpen c ∷ us) → Phrase 0 e w us (punct RoundClose d ∷ punct Semicolon z ∷ vs) → Plain (do_ ss e (spanning a z)) z (keyword Do a ∷ ts) vs
    loops : {h : Head} {ss : Stmts} {a b c z : Span} {ts us vs : List Symbol} → HeadPhrase h ts (punct RoundClose c ∷ us) → Body ss z us vs → Plain (for_ h ss (spanning a z)) z (keyword For a ∷ punct RoundOpen b ∷ ts) vs
    -- 6.8.6
    breaks : {a z : Span} {ts : List Symbol} → Plain (break_ (spanning a z)) z (keyword Break a ∷ punct Semicolon z ∷ ts) ts
    continues : {a z : Span} {ts : List Symbol} → Plain (continue_ (spanning a z)) z (keyword Continue a ∷ punct Semicolon z ∷ ts) ts
    -- OpenMP 6.0, directive syntax in C
    transforms : {x y : Name} {d : Directive} {ss : Stmts} {a b c e z : Span} {ts us vs : List Symbol} → IsPragma x → IsOmp y → DirectivePhrase true d ts (line_end e ∷ us) → Body ss z us vs → Plain (omp d ss (spanning a z)) z (hash a ∷ name x b ∷ name y c ∷ ts) vs

  pub data Body : Stmts → Span → List Symbol → List Symbol → Type 0 where
    braced : {ss : Stmts} {a z : Span} {ts us : List Symbol} → Units ss ts (punct CurlyClose z ∷ us) → Body ss z (punct CurlyOpen a ∷ ts) us
    lone : {s : Stmt} {z : Span} {ts us : List Symbol} → Plain s z ts us → Body (more_stmts s no_stmts) z ts us

  -- 6.8.2
  pub data Units : Stmts → List Symbol → List Symbol → Type 0 where
    over : {ts : List Symbol} → Units no_stmts ts ts
    next : {s : Stmt} {ss : Stmts} {z : Span} {ts us vs : List Symbol} → Plain s z ts us → Units ss us vs → Units (more_stmts s ss) ts vs
    inner : {ss rs : Stmts} {a z : Span} {ts us vs : List Symbol} → Units ss ts (punct CurlyClose z ∷ us) → Units rs us vs → Units (more_stmts (block ss (spanning a z)) rs) (punct CurlyOpen a ∷ ts) vs
    declared : {ty : Ty} {ss rs : Stmts} {ts us vs ws : List Symbol} → TypeName ty ts us → Declarators ty (start_of ts) ss rs us vs → Units rs vs ws → Units ss ts ws
