-- The printed form of statements (C11 6.7, 6.8), each on lines of its own. The body of each stands in braces.
use Rattle.std.specs.Prelude.{ℕ, ◌+◌, Bool, true, false, cond, Option, Some, None, codes}
use Rattle.c_tree.specs.Bare.{Expr, Exprs, Target, target, Directive, Stmt, decl, set, step, print, input, if_, if_else, while_, do_, for_, block, break_, continue_, empty, omp, call, Stmts, no_stmts, more_stmts, MaybeStmt, no_stmt, a_stmt, Head, head}
use Rattle.c_tree.specs.declared.tree.SetOp.{SetOp}
use Rattle.c_tree.specs.declared.tree.SetOp.TheVariants as op
use Rattle.c_lexer.specs.declared.token.Punct.{Punct}
use Rattle.c_lexer.specs.declared.token.Punct.TheVariants.{PlusPlus, MinusMinus, Assign, PlusAssign, MinusAssign, StarAssign, SlashAssign, PercentAssign}
use Rattle.c_lexer.specs.declared.words.Keyword.TheVariants as k
use Rattle.c_printer.specs.Layout.{Layout, nothing, mark, hash, line_end, ◌&◌, word, key, sign, gap, type_name, parens, indent, line, braces, semicolon}
use Rattle.c_printer.specs.Expressions.{expr_form, subscripts, listed}
use Rattle.c_printer.specs.Directives.{directive_form}

abbrev pub set_sign : SetOp → Punct
set_sign op.Plain = Assign
set_sign op.Add = PlusAssign
set_sign op.Sub = MinusAssign
set_sign op.Mul = StarAssign
set_sign op.Div = SlashAssign
set_sign op.Rem = PercentAssign

abbrev pub step_sign : Bool → Punct
step_sign true = PlusPlus
step_sign false = MinusMinus

abbrev pub target_form : Target → Layout
target_form (target x es) = word x & subscripts es

abbrev pub initial : Option Expr → Layout
initial None = nothing
initial (Some e) = gap & sign Assign & gap & expr_form e

-- a statement that ends with a semicolon, without it
abbrev pub simple : Stmt → Layout
simple (decl t x init) = type_name t & gap & word x & initial init
simple (set to op e) = target_form to & gap & sign (set_sign op) & gap & expr_form e
simple (step to up) = target_form to & sign (step_sign up)
simple (print e) = key k.Print & parens (expr_form e)
simple (input to) = target_form to & gap & sign Assign & gap & key k.Input & parens nothing
simple break_ = key k.Break
simple continue_ = key k.Continue
simple (call x es) = word x & parens (listed es)
simple _ = nothing

-- the parts of a `for` head: no space stands where a part is absent
abbrev pub first_part : MaybeStmt → Layout
first_part no_stmt = nothing
first_part (a_stmt s) = simple s

abbrev pub test_part : Option Expr → Layout
test_part None = nothing
test_part (Some e) = gap & expr_form e

abbrev pub last_part : MaybeStmt → Layout
last_part no_stmt = nothing
last_part (a_stmt s) = gap & simple s

abbrev pub head_form : Head → Layout
head_form (head init test last) = first_part init & semicolon & test_part test & semicolon & last_part last

abbrev pub pragma : ℕ → Directive → Layout
pragma level d = indent level & mark hash & word (codes "pragma") & gap & word (codes "omp") & gap & directive_form d & mark line_end

abbrev pub is_loop : Stmt → Bool
is_loop (for_ h body) = true
is_loop (omp d body) = true
is_loop _ = false

-- a `for` or a directive, alone
abbrev pub is_one_loop : Stmts → Bool
is_one_loop no_stmts = false
is_one_loop (more_stmts s no_stmts) = is_loop s
is_one_loop (more_stmts s (more_stmts t ss)) = false

-- what a directive is applied to: a single `for` or directive at the same level, else a body in braces
abbrev pub carried : ℕ → Stmts → Layout → Layout → Layout
carried level body alone inner = cond (is_one_loop body) alone (line level (braces level inner))

abbrev mutual
  pub stmt_form : ℕ → Stmt → Layout
  stmt_form level (if_ e body) = line level (key k.If & gap & parens (expr_form e) & gap & braces level (stmts_form (level + 1) body))
  stmt_form level (if_else e body other) = line level (key k.If & gap & parens (expr_form e) & gap & braces level (stmts_form (level + 1) body) & gap & key k.Else & gap & braces level (stmts_form (level + 1) other))
  stmt_form level (while_ e body) = line level (key k.While & gap & parens (expr_form e) & gap & braces level (stmts_form (level + 1) body))
  stmt_form level (do_ body e) = line level (key k.Do & gap & braces level (stmts_form (level + 1) body) & gap & key k.While & gap & parens (expr_form e) & semicolon)
  stmt_form level (for_ h body) = line level (key k.For & gap & parens (head_form h) & gap & braces level (stmts_form (level + 1) body))
  stmt_form level (block body) = line level (braces level (stmts_form (level + 1) body))
  stmt_form level (omp d body) = pragma level d & carried level body (stmts_form level body) (stmts_form (level + 1) body)
  stmt_form level s = line level (simple s & semicolon)

  pub stmts_form : ℕ → Stmts → Layout
  stmts_form level no_stmts = nothing
  stmts_form level (more_stmts s ss) = stmt_form level s & stmts_form level ss
