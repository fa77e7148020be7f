-- The automaton that reads programs. Its state is a goal: what the next symbols have to spell, and, as a function of the
-- tree that they spell, what comes after it. A symbol leads from a goal to the next one. A whole expression and a whole
-- directive are read in one step.
use Rattle.std.specs.Prelude.{ℕ, Bool, true, false, cond, List, [], ◌∷◌, Option, Some, None, codes, bytes_eq}
use Rattle.c_tree.specs.Bare.{Name}
use Rattle.c_tree.specs.Placed.{Expr, Exprs, no_exprs, more_exprs, Target, target, Directive, Stmt, decl, set, step as steps_, print, input, if_, if_else, while_, do_, for_, block, break_, continue_, empty, omp, call, Stmts, no_stmts, more_stmts, MaybeStmt, no_stmt, a_stmt, head, Param, define, extern_, global, function, main}
use Rattle.c_tree.specs.declared.tree.Span.{Span}
use Rattle.c_tree.specs.declared.tree.Ty.{Ty}
use Rattle.c_tree.specs.declared.tree.Ty.TheVariants as ty
use Rattle.c_tree.specs.declared.tree.BinOp.{BinOp}
use Rattle.c_tree.specs.declared.tree.SetOp.{SetOp}
use Rattle.c_tree.specs.declared.tree.SetOp.TheVariants as op
use Rattle.c_tree.specs.declared.tree.Port.TheVariants as port
use Rattle.c_lexer.specs.declared.token.Punct.TheVariants as p
use Rattle.c_lexer.specs.declared.words.Keyword.TheVariants as k
use Rattle.pragma_grammar.specs.Symbols.{Symbol, name, number, punct, keyword, static, hash, line_end, end, place, spanning}
use Rattle.pragma_grammar.specs.Expressions.{binary_of}
use Rattle.c_grammar.specs.Statements.{assigns, steps}
use Rattle.c_grammar.specs.Programs.{Started, started}

-- a symbol that may be asked for at a fixed place
pub data Class : Type 0 where
  round_open : Class
  round_close : Class
  curly_open : Class
  curly_close : Class
  square_close : Class
  semicolon : Class
  comma : Class
  assign : Class
  else_word : Class
  while_word : Class
  void_word : Class
  print_word : Class
  input_word : Class
  main_word : Class
  int_word : Class
  long_word : Class
  return_word : Class
  pragma_word : Class
  omp_word : Class
  define_word : Class
  the_line_end : Class

-- the symbol of a class at a place
abbrev pub fixed : Class → Span → Symbol
fixed round_open s = punct p.RoundOpen s
fixed round_close s = punct p.RoundClose s
fixed curly_open s = punct p.CurlyOpen s
fixed curly_close s = punct p.CurlyClose s
fixed square_close s = punct p.SquareClose s
fixed semicolon s = punct p.Semicolon s
fixed comma s = punct p.Comma s
fixed assign s = punct p.Assign s
fixed else_word s = keyword k.Else s
fixed while_word s = keyword k.While s
fixed void_word s = keyword k.Void s
fixed print_word s = keyword k.Print s
fixed input_word s = keyword k.Input s
fixed main_word s = keyword k.Main s
fixed int_word s = keyword k.Int s
fixed long_word s = keyword k.Long s
fixed return_word s = keyword k.Return s
fixed pragma_word s = name (codes "pragma") s
fixed omp_word s = name (codes "omp") s
fixed define_word s = name (codes "define") s
fixed the_line_end s = line_end s

-- the place of a symbol of the class, and no place of any other
abbrev pub spelled : Name → Name → Span → Option Span
spelled x y s = cond (bytes_eq x y) (Some s) None

abbrev pub take : Class → Symbol → Option Span
take round_open (punct p.RoundOpen s) = Some s
take round_close (punct p.RoundClose s) = Some s
take curly_open (punct p.CurlyOpen s) = Some s
take curly_close (punct p.CurlyClose s) = Some s
take square_close (punct p.SquareClose s) = Some s
take semicolon (punct p.Semicolon s) = Some s
take comma (punct p.Comma s) = Some s
take assign (punct p.Assign s) = Some s
take else_word (keyword k.Else s) = Some s
take while_word (keyword k.While s) = Some s
take void_word (keyword k.Void s) = Some s
take print_word (keyword k.Print s) = Some s
take input_word (keyword k.Input s) = Some s
take main_word (keyword k.Main s) = Some s
take int_word (keyword k.Int s) = Some s
take long_word (keyword k.Long s) = Some s
take return_word (keyword k.Return s) = Some s
take pragma_word (name x s) = spelled x (codes "pragma") s
take omp_word (name x s) = spelled x (codes "omp") s
take define_word (name x s) = spelled x (codes "define") s
take the_line_end (line_end s) = Some s
take c t = None

-- What has to come: the last token; a symbol of a class; such a symbol or else something other; a
-- name, or maybe a name; a number; one spelled `0`; a number with a sign or without, and the value of a define; anything,
-- whose place is asked for; an expression; something that doesn't go on with an expression; a directive and the end of
-- its line; subscripts after a token; expressions through `)`; an assignment operator or a step; an assignment or a step;
-- a body; statements through `}`, maybe with `return 0;` before it; further declarators, and the statements after them;
-- the parts of a `for` head through its `)`; parameters through `)`; further declarators at file scope, and the items
-- after them; items
pub data Goal : Type 0 where
  ends : List Started → Goal
  takes : Class → (Span → Goal) → Goal
  may : Class → (Span → Goal) → Goal → Goal
  names : (Name → Span → Goal) → Goal
  may_name : Goal → Goal
  numbers : (ℕ → Ty → Goal) → Goal
  zero : Goal → Goal
  signs : (Bool → ℕ → Ty → Goal) → Goal
  values : (Bool → ℕ → Ty → Goal) → Goal
  at : (ℕ → Goal) → Goal
  expr : (Expr → Span → Goal) → Goal
  stopping : Goal → Goal
  directive : (Directive → Goal) → Goal
  subscripts : Span → (Exprs → Span → Goal) → Goal
  listed : (Exprs → Span → Goal) → Goal
  operator : (SetOp → Goal) → (Bool → Span → Goal) → Goal
  simple : ((ℕ → Stmt) → Span → Goal) → Goal
  body : (Stmts → Span → Goal) → Goal
  units : Bool → (Stmts → Span → Goal) → Goal
  declarators : Ty → Bool → (Stmts → Span → Goal) → Goal
  init : (MaybeStmt → Goal) → Goal
  params : (List Param → Span → Goal) → Goal
  globals : Ty → (List Started → Goal) → Goal
  tops : (List Started → Goal) → Goal

-- what a symbol does: it fits nowhere, it leads to a goal, it begins an expression or a directive, or it ends the program
pub data Move : Type 0 where
  stuck : Move
  leads : Goal → Move
  reads : (Expr → Span → Goal) → Move
  directs : (Directive → Goal) → Move
  accepts : List Started → Move

-- ---- the goals of productions

-- the rest of `long long` or `long long int`
abbrev pub long_rest : Goal → Goal
long_rest g = takes long_word (λ b. may int_word (λ c. g) g)

-- a target, whose name stands at `a`
abbrev pub target_goal : Name → Span → (Target → Span → Goal) → Goal
target_goal x a f = subscripts a (λ es z. f (target x es (spanning a z)) (spanning a z))

-- an operator of an assignment and its right side, or a step, after a target at `v`
abbrev pub operated : Target → Span → ((ℕ → Stmt) → Span → Goal) → Goal
operated x v f = operator (λ o. expr (λ e w. f (λ to. set x o e (record { start = v.start; end = to })) w)) (λ up z. stopping (f (λ to. steps_ x up (record { start = v.start; end = to })) z))

-- a step before a target
abbrev pub step_first : Bool → Span → ((ℕ → Stmt) → Span → Goal) → Goal
step_first up a f = names (λ x b. target_goal x b (λ t v. f (λ to. steps_ t up (record { start = a.start; end = to })) v))

-- the other statements begin with their targets: `input ( ) ;` may be on the right side
abbrev pub input_goal : Target → Span → Span → (Stmt → Span → Goal) → Goal
input_goal x v c f = takes round_open (λ d. takes round_close (λ e. takes semicolon (λ z. f (input x c.start (spanning v z)) z)))

abbrev pub ends_statement : (Stmt → Span → Goal) → (ℕ → Stmt) → Span → Goal
ends_statement f s y = takes semicolon (λ z. f (s z.end) z)

abbrev pub assigned : Target → Span → (Stmt → Span → Goal) → SetOp → Goal
assigned x v f op.Plain = may input_word (λ c. input_goal x v c f) (expr (λ e w. ends_statement f (λ to. set x op.Plain e (record { start = v.start; end = to })) w))
assigned x v f o = expr (λ e w. ends_statement f (λ to. set x o e (record { start = v.start; end = to })) w)

abbrev pub after_target : (Stmt → Span → Goal) → Target → Span → Goal
after_target f x v = operator (assigned x v f) (λ up z. ends_statement f (λ to. steps_ x up (record { start = v.start; end = to })) z)

abbrev pub call_goal : Name → Span → (Stmt → Span → Goal) → Goal
call_goal x a f = may round_close (λ y. takes semicolon (λ z. f (call x a no_exprs (spanning a z)) z)) (listed (λ es y. takes semicolon (λ z. f (call x a es (spanning a z)) z)))

abbrev pub name_goal : Name → Span → (Stmt → Span → Goal) → Goal
name_goal x a f = may round_open (λ b. call_goal x a f) (target_goal x a (after_target f))

abbrev pub print_goal : Span → (Stmt → Span → Goal) → Goal
print_goal a f = takes round_open (λ b. expr (λ e w. takes round_close (λ y. takes semicolon (λ z. f (print e (spanning a z)) z))))

abbrev pub else_goal : Expr → Span → (Stmt → Span → Goal) → Stmts → Span → Goal
else_goal e a f ss y = may else_word (λ d. body (λ rs z. f (if_else e ss rs (spanning a z)) z)) (f (if_ e ss (spanning a y)) y)

abbrev pub if_goal : Span → (Stmt → Span → Goal) → Goal
if_goal a f = takes round_open (λ b. expr (λ e w. takes round_close (λ c. body (else_goal e a f))))

abbrev pub while_goal : Span → (Stmt → Span → Goal) → Goal
while_goal a f = takes round_open (λ b. expr (λ e w. takes round_close (λ c. body (λ ss z. f (while_ e ss (spanning a z)) z))))

abbrev pub do_goal : Span → (Stmt → Span → Goal) → Goal
do_goal a f = body (λ ss y. takes while_word (λ b. takes round_open (λ c. expr (λ e w. takes round_close (λ d. takes semicolon (λ z. f (do_ ss e (spanning a z)) z))))))

-- the parts of a head after each other
abbrev pub next_goal : Span → (Stmt → Span → Goal) → MaybeStmt → ℕ → Option Expr → ℕ → ℕ → Goal
next_goal a f init' i test j n = may round_close (λ c. body (λ ss z. f (for_ (head init' i test j no_stmt n) ss (spanning a z)) z)) (simple (λ s y. takes round_close (λ c. body (λ ss z. f (for_ (head init' i test j (a_stmt (s y.end)) n) ss (spanning a z)) z))))

abbrev pub test_goal : Span → (Stmt → Span → Goal) → MaybeStmt → ℕ → ℕ → Goal
test_goal a f init' i j = may semicolon (λ y. at (next_goal a f init' i None j)) (expr (λ e w. takes semicolon (λ y. at (next_goal a f init' i (Some e) j))))

abbrev pub for_goal : Span → (Stmt → Span → Goal) → Goal
for_goal a f = takes round_open (λ b. at (λ i. init (λ s. at (test_goal a f s i))))

abbrev pub pragma_goal : Span → (Stmt → Span → Goal) → Goal
pragma_goal a f = takes pragma_word (λ b. takes omp_word (λ c. directive (λ d. body (λ ss z. f (omp d ss (spanning a z)) z))))

-- after a declarator whose last token stands at `y`
abbrev pub declared : Ty → Bool → (Stmts → Span → Goal) → (ℕ → Stmts → Stmts) → Span → Goal
declared t b f ss y = may comma (λ z. declarators t b (λ rs. f (ss y.end rs))) (takes semicolon (λ z. units b (λ rs. f (ss z.end rs))))

abbrev pub declarator : Ty → ℕ → Name → Span → ((ℕ → Stmts → Stmts) → Span → Goal) → Goal
declarator t from x a f =
    may assign (λ b.
    may input_word (λ c. takes round_open (λ d. takes round_close (λ z. f (λ to rest. more_stmts (decl t x a None (record { start = from; end = a.end })) (more_stmts (input (target x no_exprs a) c.start (record { start = a.start; end = to })) rest)) z)))
    (expr (λ e w. f (λ to rest. more_stmts (decl t x a (Some e) (record { start = from; end = to })) rest) w)))
    (f (λ to rest. more_stmts (decl t x a None (record { start = from; end = to })) rest) a)

abbrev pub declaration : Ty → ℕ → Bool → (Stmts → Span → Goal) → Goal
declaration t from b f = names (λ x a. declarator t from x a (declared t b f))

abbrev pub return_goal : (Stmts → Span → Goal) → Goal
return_goal f = zero (takes semicolon (λ c. takes curly_close (λ z. f no_stmts z)))

abbrev pub init_declares : Ty → ℕ → (MaybeStmt → Goal) → Goal
init_declares t from f = names (λ x a. takes assign (λ b. expr (λ e w. takes semicolon (λ y. f (a_stmt (decl t x a (Some e) (record { start = from; end = w.end })))))))

abbrev pub init_simple : (MaybeStmt → Goal) → (ℕ → Stmt) → Span → Goal
init_simple f s z = takes semicolon (λ y. f (a_stmt (s z.end)))

-- ---- items

abbrev pub globals_after : Ty → (List Started → Goal) → Started → Goal
globals_after t f top = may comma (λ z. globals t (λ more. f (top ∷ more))) (takes semicolon (λ z. tops (λ more. f (top ∷ more))))

abbrev pub global_goal : Ty → ℕ → Name → Span → (Started → Goal) → Goal
global_goal t from x a f = may assign (λ b. expr (λ e w. f (started from (global t x a no_exprs (Some e))))) (subscripts a (λ es z. f (started from (global t x a es None))))

abbrev pub global_named : Ty → ℕ → (List Started → Goal) → Goal
global_named t from f = names (λ x a. global_goal t from x a (globals_after t f))

abbrev pub main_body : Span → (List Started → Goal) → Goal
main_body a f = takes round_close (λ d. takes curly_open (λ e. units true (λ ss z. f (started a.start (main ss (spanning a z)) ∷ []))))

abbrev pub main_goal : Span → (List Started → Goal) → Goal
main_goal a f = takes round_open (λ c. may void_word (λ v. main_body a f) (main_body a f))

abbrev pub int_goal : Span → (List Started → Goal) → Goal
int_goal a f = may main_word (λ b. main_goal a f) (global_named ty.Int a.start f)

abbrev pub reader_rest : ℕ → (List Started → Goal) → Goal
reader_rest from f = takes round_close (λ y. takes semicolon (λ z. tops (λ more. f (started from (extern_ port.Input (record { start = from; end = z.end })) ∷ more))))

abbrev pub reader_goal : ℕ → (List Started → Goal) → Goal
reader_goal from f = takes round_open (λ c. may void_word (λ v. reader_rest from f) (reader_rest from f))

abbrev pub long_goal : Span → (List Started → Goal) → Goal
long_goal a f = long_rest (may input_word (λ b. reader_goal a.start f) (global_named ty.Long a.start f))

abbrev pub printer_rest : ℕ → (List Started → Goal) → Goal
printer_rest from f = takes round_close (λ y. takes semicolon (λ z. tops (λ more. f (started from (extern_ port.Print (record { start = from; end = z.end })) ∷ more))))

abbrev pub printer_goal : ℕ → (List Started → Goal) → Goal
printer_goal from f = takes print_word (λ c. takes round_open (λ d. takes long_word (λ l. long_rest (may_name (printer_rest from f)))))

abbrev pub extern_goal : Span → (List Started → Goal) → Goal
extern_goal a f = may void_word (λ b. printer_goal a.start f) (takes long_word (λ l. long_rest (takes input_word (λ b. reader_goal a.start f))))

abbrev pub define_goal : Span → (List Started → Goal) → Goal
define_goal a f = takes define_word (λ b. names (λ y c. values (λ minus n t. takes the_line_end (λ z. tops (λ more. f (started a.start (define y minus n t c) ∷ more))))))

abbrev pub function_body : Span → Name → Span → List Param → (List Started → Goal) → Goal
function_body a x c ps f = takes curly_open (λ e. units false (λ ss z. tops (λ more. f (started a.start (function x c ps ss (spanning a z)) ∷ more))))

abbrev pub function_goal : Span → (List Started → Goal) → Goal
function_goal a f = takes void_word (λ b. names (λ x c. takes round_open (λ d. may round_close (λ e. function_body a x c [] f) (may void_word (λ v. takes round_close (λ e. function_body a x c [] f)) (params (λ ps e. function_body a x c ps f))))))

abbrev pub param_after : (List Param → Span → Goal) → Param → Goal
param_after f q = may comma (λ z. params (λ qs. f (q ∷ qs))) (takes round_close (λ z. f (q ∷ []) z))

abbrev pub param_named : Ty → (List Param → Span → Goal) → Goal
param_named t f = names (λ x a. param_after f (record { ty = t; name = x; name_span = a }))

-- ---- the steps

abbrev pub took : (Span → Goal) → Option Span → Move → Move
took f (Some z) m = leads (f z)
took f None m = m

abbrev pub assigned_or : (SetOp → Goal) → Option SetOp → Move → Move
assigned_or f (Some o) m = leads (f o)
assigned_or f None m = m

abbrev pub stepped_or : (Bool → Goal) → Option Bool → Move → Move
stepped_or f (Some up) m = leads (f up)
stepped_or f None m = m

abbrev pub on_name : (Name → Span → Goal) → Symbol → Move
on_name f (name x a) = leads (f x a)
on_name f t = stuck

abbrev pub on_may_name : Goal → Symbol → Move → Move
on_may_name g (name x a) m = leads g
on_may_name g t m = m

abbrev pub on_number : (ℕ → Ty → Goal) → Symbol → Move
on_number f (number n t z a) = leads (f n t)
on_number f t = stuck

abbrev pub on_zero : Goal → Symbol → Move
on_zero g (number n t true a) = leads g
on_zero g t = stuck

abbrev pub on_sign : (Bool → ℕ → Ty → Goal) → Symbol → Move
on_sign f (number n t z a) = leads (f false n t)
on_sign f (punct p.Minus a) = leads (numbers (f true))
on_sign f t = stuck

abbrev pub on_value : (Bool → ℕ → Ty → Goal) → Symbol → Move
on_value f (punct p.RoundOpen a) = leads (signs (λ minus n t. takes round_close (λ z. f minus n t)))
on_value f t = on_sign f t

abbrev pub on_end : List Started → Symbol → Move
on_end q (end a) = accepts q
on_end q t = stuck

-- the symbol goes on with an expression
abbrev pub is_some_operator : Option BinOp → Bool
is_some_operator None = false
is_some_operator (Some o) = true

abbrev pub goes_on : Symbol → Bool
goes_on (punct p.Question a) = true
goes_on (punct p.SquareOpen a) = true
goes_on t = is_some_operator (binary_of t)

abbrev pub on_subscript : Span → (Exprs → Span → Goal) → Symbol → Move → Move
on_subscript a f (punct p.SquareOpen b) m = leads (expr (λ e w. takes square_close (λ y. subscripts y (λ es z. f (more_exprs e es) z))))
on_subscript a f t m = cond (goes_on t) stuck m

abbrev pub on_operator : (SetOp → Goal) → (Bool → Span → Goal) → Symbol → Move
on_operator f g t = assigned_or f (assigns t) (stepped_or (λ up. g up (place t)) (steps t) stuck)

abbrev pub on_step_first : ((ℕ → Stmt) → Span → Goal) → Symbol → Move
on_step_first f t = stepped_or (λ up. step_first up (place t) f) (steps t) stuck

abbrev pub on_simple : ((ℕ → Stmt) → Span → Goal) → Symbol → Move
on_simple f (name x a) = leads (target_goal x a (λ t v. operated t v f))
on_simple f t = on_step_first f t

abbrev pub begin : (Stmt → Span → Goal) → Symbol → Move
begin f (punct p.Semicolon a) = leads (f (empty a) a)
begin f (name x a) = leads (name_goal x a f)
begin f (keyword k.Print a) = leads (print_goal a f)
begin f (keyword k.If a) = leads (if_goal a f)
begin f (keyword k.While a) = leads (while_goal a f)
begin f (keyword k.Do a) = leads (do_goal a f)
begin f (keyword k.For a) = leads (for_goal a f)
begin f (keyword k.Break a) = leads (takes semicolon (λ z. f (break_ (spanning a z)) z))
begin f (keyword k.Continue a) = leads (takes semicolon (λ z. f (continue_ (spanning a z)) z))
begin f (hash a) = leads (pragma_goal a f)
begin f t = on_step_first (ends_statement f) t

abbrev pub on_body : (Stmts → Span → Goal) → Symbol → Move
on_body f (punct p.CurlyOpen a) = leads (units false f)
on_body f t = begin (λ s z. f (more_stmts s no_stmts) z) t

abbrev pub on_return : Bool → (Stmts → Span → Goal) → Move
on_return true f = leads (return_goal f)
on_return false f = stuck

abbrev pub in_units : Bool → (Stmts → Span → Goal) → Symbol → Move
in_units b f (punct p.CurlyOpen a) = leads (units false (λ ss z. units b (λ rs. f (more_stmts (block ss (spanning a z)) rs))))
in_units b f (punct p.CurlyClose z) = leads (f no_stmts z)
in_units b f (keyword k.Return a) = on_return b f
in_units b f (keyword k.Int a) = leads (declaration ty.Int a.start b f)
in_units b f (keyword k.Long a) = leads (long_rest (declaration ty.Long a.start b f))
in_units b f t = begin (λ s y. units b (λ ss. f (more_stmts s ss))) t

abbrev pub on_declarators : Ty → Bool → (Stmts → Span → Goal) → Symbol → Move
on_declarators t b f (name x a) = leads (declarator t a.start x a (declared t b f))
on_declarators t b f s = stuck

abbrev pub on_init : (MaybeStmt → Goal) → Symbol → Move
on_init f (punct p.Semicolon a) = leads (f no_stmt)
on_init f (keyword k.Int a) = leads (init_declares ty.Int a.start f)
on_init f (keyword k.Long a) = leads (long_rest (init_declares ty.Long a.start f))
on_init f t = on_simple (init_simple f) t

abbrev pub on_params : (List Param → Span → Goal) → Symbol → Move
on_params f (keyword k.Int a) = leads (param_named ty.Int f)
on_params f (keyword k.Long a) = leads (long_rest (param_named ty.Long f))
on_params f t = stuck

abbrev pub on_globals : Ty → (List Started → Goal) → Symbol → Move
on_globals t f (name x a) = leads (global_goal t a.start x a (globals_after t f))
on_globals t f s = stuck

abbrev pub on_tops : (List Started → Goal) → Symbol → Move
on_tops f (keyword k.Int a) = leads (int_goal a f)
on_tops f (keyword k.Long a) = leads (long_goal a f)
on_tops f (keyword k.Void a) = leads (printer_goal a.start f)
on_tops f (keyword k.Extern a) = leads (extern_goal a f)
on_tops f (hash a) = leads (define_goal a f)
on_tops f (static a) = leads (function_goal a f)
on_tops f t = stuck

abbrev pub step : Goal → Symbol → Move
step (ends q) t = on_end q t
step (takes c f) t = took f (take c t) stuck
step (may c f g) t = took f (take c t) (step g t)
step (names f) t = on_name f t
step (may_name g) t = on_may_name g t (step g t)
step (numbers f) t = on_number f t
step (zero g) t = on_zero g t
step (signs f) t = on_sign f t
step (values f) t = on_value f t
step (at f) t = step (f (place t).start) t
step (expr f) t = reads f
step (stopping g) t = cond (goes_on t) stuck (step g t)
step (directive f) t = directs f
step (subscripts a f) t = on_subscript a f t (step (f no_exprs a) t)
step (listed f) t = reads (λ e w. may comma (λ z. listed (λ es. f (more_exprs e es))) (takes round_close (λ z. f (more_exprs e no_exprs) z)))
step (operator f g) t = on_operator f g t
step (simple f) t = on_simple f t
step (body f) t = on_body f t
step (units b f) t = in_units b f t
step (declarators t b f) s = on_declarators t b f s
step (init f) t = on_init f t
step (params f) t = on_params f t
step (globals t f) s = on_globals t f s
step (tops f) t = on_tops f t

-- a program
abbrev pub program_goal : Goal
program_goal = tops ends
