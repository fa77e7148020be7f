-- What `parse` answers, in terms of the grammar alone.
use Rattle.std.specs.Prelude.{◌≡◌, ℕ, ◌≤◌, List, [], ◌∷◌, ◌++◌, Option, Some, None}
use Rattle.c_tree.specs.Placed.{Stmt, decl, set, step, print, input, if_, if_else, while_, do_, for_, block, break_, continue_, empty, omp, call, Stmts, no_stmts, more_stmts, MaybeStmt, no_stmt, a_stmt, Head, head, Target, target, Top, define, extern_, global, function, main, Program}
use Rattle.c_tree.specs.Forget.{forget_stmt, forget_top, forget_program}
use Rattle.c_tree.specs.Height.{stmt_height, top_height, program_height}
use Rattle.c_lexer.specs.declared.token.Token.{Token}
use Rattle.pragma_grammar.specs.declared.phrase.ParseKind.{ParseKind}
use Rattle.pragma_grammar.specs.Deep.{first, too_deep, deep_expr, deep_exprs, deep_option, deep_directive}
use Rattle.pragma_grammar.specs.Reading.{blamed_as}
use Rattle.c_grammar.specs.Programs.{Spells, SpellsItems, Started, tops_of}

-- some program's tokens begin with these
pub record Begins (ts : List Token) : Type 0 where
  pub program : Program
  pub more : List Token
  pub spells : Spells program (ts ++ more)

-- the least place such that no program's tokens begin with those through it, and how its token is blamed
pub record Blame (ts : List Token) (kind : ParseKind) (place : ℕ) : Type 0 where
  pub before : List Token
  pub token : Token
  pub rest : List Token
  pub parts : ts ≡ before ++ token ∷ rest
  pub at_place : place ≡ token.span.start
  pub of_kind : kind ≡ blamed_as token rest
  pub begins : Begins before
  pub none : (program : Program) (more : List Token) → Spells program (before ++ token ∷ more) → ⊥

-- ---- where a program is too deep, as Deep has it for expressions and directives

abbrev pub deep_target : Target → Option ℕ
deep_target (target x es s) = deep_exprs es

abbrev mutual
  pub deep_stmt : Stmt → Option ℕ
  deep_stmt (decl ty x at init s) = first (deep_option init) (too_deep (stmt_height (forget_stmt (decl ty x at init s))) s.start)
  deep_stmt (set t o e s) = first (deep_target t) (first (deep_expr e) (too_deep (stmt_height (forget_stmt (set t o e s))) s.start))
  deep_stmt (step t up s) = first (deep_target t) (too_deep (stmt_height (forget_stmt (step t up s))) s.start)
  deep_stmt (print e s) = first (deep_expr e) (too_deep (stmt_height (forget_stmt (print e s))) s.start)
  deep_stmt (input t at s) = first (deep_target t) (too_deep (stmt_height (forget_stmt (input t at s))) s.start)
  deep_stmt (if_ e ss s) = first (deep_expr e) (first (deep_stmts ss) (too_deep (stmt_height (forget_stmt (if_ e ss s))) s.start))
  deep_stmt (if_else e ss rs s) = first (deep_expr e) (first (deep_stmts ss) (first (deep_stmts rs) (too_deep (stmt_height (forget_stmt (if_else e ss rs s))) s.start)))
  deep_stmt (while_ e ss s) = first (deep_expr e) (first (deep_stmts ss) (too_deep (stmt_height (forget_stmt (while_ e ss s))) s.start))
  deep_stmt (do_ ss e s) = first (deep_stmts ss) (first (deep_expr e) (too_deep (stmt_height (forget_stmt (do_ ss e s))) s.start))
  deep_stmt (for_ h ss s) = first (deep_head h) (first (deep_stmts ss) (too_deep (stmt_height (forget_stmt (for_ h ss s))) s.start))
  deep_stmt (block ss s) = first (deep_stmts ss) (too_deep (stmt_height (forget_stmt (block ss s))) s.start)
  deep_stmt (break_ s) = None
  deep_stmt (continue_ s) = None
  deep_stmt (empty s) = None
  deep_stmt (omp d ss s) = first (deep_directive d) (first (deep_stmts ss) (too_deep (stmt_height (forget_stmt (omp d ss s))) s.start))
  deep_stmt (call x at es s) = first (deep_exprs es) (too_deep (stmt_height (forget_stmt (call x at es s))) s.start)

  pub deep_stmts : Stmts → Option ℕ
  deep_stmts no_stmts = None
  deep_stmts (more_stmts s ss) = first (deep_stmt s) (deep_stmts ss)

  pub deep_part : MaybeStmt → Option ℕ
  deep_part no_stmt = None
  deep_part (a_stmt s) = deep_stmt s

  pub deep_head : Head → Option ℕ
  deep_head (head init at test test_at next next_at) = first (deep_part init) (first (deep_option test) (deep_part next))

abbrev pub deep_top : Top → ℕ → Option ℕ
deep_top (define x minus n ty s) start = None
deep_top (extern_ port s) start = None
deep_top (global ty x s es init) start = first (deep_exprs es) (first (deep_option init) (too_deep (top_height (forget_top (global ty x s es init))) start))
deep_top (function x at ps ss s) start = first (deep_stmts ss) (too_deep (top_height (forget_top (function x at ps ss s))) start)
deep_top (main ss s) start = first (deep_stmts ss) (too_deep (top_height (forget_top (main ss s))) start)

abbrev pub deep_items : List Started → Option ℕ
deep_items [] = None
deep_items (item ∷ items) = first (deep_top item.top item.start) (deep_items items)

-- some place is too deep exactly where the height is above 256
abbrev pub DeepWhereAbove : List Started → Type 0
DeepWhereAbove items = (deep_items items ≡ None → program_height (forget_program (tops_of items)) ≤ 256) × (program_height (forget_program (tops_of items)) ≤ 256 → deep_items items ≡ None)

-- ---- the answer

-- The tree is the one that the tokens spell, where no part of it is too deep; the place of a tree that is too deep is
-- that of the part which ends first; another fault is the blame of the tokens.
abbrev pub IsTree : List Token → Program → Type 0
IsTree tokens program = (items : List Started) × SpellsItems items tokens × (tops_of items ≡ program) × (deep_items items ≡ None)

abbrev pub IsTooDeep : List Token → ℕ → Type 0
IsTooDeep tokens place = (items : List Started) × SpellsItems items tokens × (deep_items items ≡ Some place)
