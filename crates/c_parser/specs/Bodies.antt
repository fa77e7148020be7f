-- The statements that are open while a body is read, and what comes after each of them.
use Rattle.std.specs.Prelude.{◌≡◌, ◌<◌, Bool, length, List, [], ◌∷◌, Result, Ok, Err}
use Rattle.c_tree.specs.Placed.{Expr, Directive, Stmt, if_else, while_, do_, for_, block, omp, Stmts, no_stmts, more_stmts, Head}
use Rattle.c_tree.specs.declared.tree.Span.{Span}
use Rattle.c_tree.specs.declared.tree.Stmt as code_stmt
use Rattle.c_tree.specs.declared.tree.Directive as code_directive
use Rattle.c_lexer.specs.declared.token.Token.{Token}
use Rattle.pragma_grammar.specs.declared.phrase.ParseFault.{ParseFault}
use Rattle.pragma_grammar.specs.declared.directive_kept.Kept as code
use Rattle.pragma_grammar.specs.Symbols.{symbol, spanning}
use Rattle.pragma_grammar.specs.DirectiveKept.{keep_expr, keep_directive}
use Rattle.pragma_grammar.specs.DirectiveStands.{expr_of, directive_of}
use Rattle.c_parser.specs.declared.owners.Owner as code_owner
use Rattle.c_parser.specs.declared.owners.Owner.TheVariants as w
use Rattle.c_parser.specs.declared.owners.Frame.{Frame}
use Rattle.c_parser.specs.declared.owners.Frame.TheVariants as v
use Rattle.c_parser.specs.declared.owners.Begun.{Begun}
use Rattle.c_parser.specs.declared.owners.Begun.TheVariants as b
use Rattle.c_grammar.specs.Goals.{Goal, takes, pragma_word, omp_word, directive, expr, body, units, while_word, round_open, round_close, semicolon, else_goal, begin, step}
use Rattle.c_parser.specs.Comes.{Leads, Fails}
use Rattle.c_parser.specs.Kept.{stmt_of, stmts_of, head_of, keep_stmt, keep_stmts, keep_head, join}

-- a statement whose body is read, with what was read before it; its first token stands at the place
pub data Owner : Type 0 where
  if_then : Expr → Span → Owner
  or_else : Expr → Stmts → Span → Owner
  while_body : Expr → Span → Owner
  do_body : Span → Owner
  for_body : Head → Span → Owner
  omp_body : Directive → Span → Owner

-- what comes after its body
abbrev pub after_body : Owner → (Stmt → Span → Goal) → Stmts → Span → Goal
after_body (if_then e a) f = else_goal e a f
after_body (or_else e ss a) f = λ rs z. f (if_else e ss rs (spanning a z)) z
after_body (while_body e a) f = λ ss z. f (while_ e ss (spanning a z)) z
after_body (do_body a) f = λ ss y. takes while_word (λ b. takes round_open (λ c. expr (λ e w. takes round_close (λ d. takes semicolon (λ z. f (do_ ss e (spanning a z)) z)))))
after_body (for_body h a) f = λ ss z. f (for_ h ss (spanning a z)) z
after_body (omp_body d a) f = λ ss z. f (omp d ss (spanning a z)) z

-- A list in braces that is open at the place, with the statements before the further ones, as a function of these; or a
-- statement whose body is read.
pub data Open : Type 0 where
  list : Bool → (Stmts → Stmts) → Span → Open
  owner : Owner → Open

-- what comes after a statement, and after a list in braces that was open at a place
pub record After : Type 0 where
  pub stmt : Stmt → Span → Goal
  pub list : Span → Stmts → Span → Goal

abbrev pub after_stmt : Bool → (Stmts → Stmts) → (Stmts → Span → Goal) → Stmt → Span → Goal
after_stmt b before f s z = units b (λ rs. f (before (more_stmts s rs)))

-- `after f k` with the open statements `k`, the innermost first, where the outermost list goes to `f`
abbrev pub after : (Stmts → Span → Goal) → List Open → After
after f [] = record { stmt = λ s z. f (more_stmts s no_stmts) z; list = λ a. f }
after f (list b before a ∷ k) = record {
  stmt = after_stmt b before ((after f k).list a);
  list = λ at ss z. after_stmt b before ((after f k).list a) (block ss (spanning at z)) z;
}
after f (owner o ∷ k) = record {
  stmt = λ s z. after_body o (after f k).stmt (more_stmts s no_stmts) z;
  list = λ a. after_body o (after f k).stmt;
}

-- ---- what is kept of them

-- the statements that were read, before the further ones
pub record Grown (kept_stmts : code.Kept (List code_stmt.Stmt)) (before : Stmts → Stmts) : Type 0 where
  pub stmts : Stmts
  pub joins : (rs : Stmts) → before rs ≡ join stmts rs
  pub keeps : stmts_of kept_stmts ≡ keep_stmts stmts

abbrev pub IsOwner : code_owner.Owner → Owner → Type 0
IsOwner (w.IfThen test at) o = (e : Expr) × (expr_of test ≡ keep_expr e) × (o ≡ if_then e at)
IsOwner (w.IfElse test stmts at) o = (e : Expr) × (expr_of test ≡ keep_expr e) × (ss : Stmts) × (stmts_of stmts ≡ keep_stmts ss) × (o ≡ or_else e ss at)
IsOwner (w.While test at) o = (e : Expr) × (expr_of test ≡ keep_expr e) × (o ≡ while_body e at)
IsOwner (w.Do at) o = o ≡ do_body at
IsOwner (w.For head at) o = (h : Head) × (head_of head ≡ keep_head h) × (o ≡ for_body h at)
IsOwner (w.Omp line at) o = (d : Directive) × (directive_of line ≡ keep_directive d) × (o ≡ omp_body d at)

abbrev pub IsOpen : Frame → Open → Type 0
IsOpen (v.List l) (list b before a) = (b ≡ l.ends_main) × (a ≡ l.at) × Grown l.stmts before
IsOpen (v.List l) (owner o) = ⊥
IsOpen (v.Owner code) (owner o) = IsOwner code o
IsOpen (v.Owner code) (list b before a) = ⊥

-- ---- a statement that begins here

-- the first token does what it does where a statement begins
abbrev pub BeginsAt : Goal → (Stmt → Span → Goal) → List Token → Type 0
BeginsAt x f ts = (t : Token) (rest : List Token) → ts ≡ t ∷ rest → step x (symbol t) ≡ begin f (symbol t)

-- the first token does to a body what it does where its one statement begins
abbrev pub BeginsBody : List Token → Type 0
BeginsBody ts = (f : Stmts → Span → Goal) → BeginsAt (body f) (λ s z. f (more_stmts s no_stmts) z) ts

-- a whole statement was taken, or one through what stands before its body: some token in any case
abbrev pub IsBegun : List Token → Result Begun ParseFault → List Token → Type 0
IsBegun ts (Ok (b.Whole stmt last)) us = (s : Stmt) × (stmt_of stmt ≡ keep_stmt s) × ((x : Goal) (f : Stmt → Span → Goal) → BeginsAt x f ts → Leads x ts (f s last) us) × (length us < length ts)
IsBegun ts (Ok (b.Opens code)) us = (o : Owner) × IsOwner code o × ((x : Goal) (f : Stmt → Span → Goal) → BeginsAt x f ts → Leads x ts (body (after_body o f)) us) × (length us < length ts)
IsBegun ts (Err fault) us = (x : Goal) (f : Stmt → Span → Goal) → BeginsAt x f ts → Fails x ts fault

-- the rest of a directive's line
abbrev pub IsConstructTaken : List Token → Result (code.Kept code_directive.Directive) ParseFault → List Token → Type 0
IsConstructTaken ts (Ok r) us = (d : Directive) × (directive_of r ≡ keep_directive d) × ((f : Directive → Goal) → Leads (takes pragma_word (λ b. takes omp_word (λ c. directive f))) ts (f d) us)
IsConstructTaken ts (Err fault) us = (f : Directive → Goal) → Fails (takes pragma_word (λ b. takes omp_word (λ c. directive f))) ts fault
