-- Where expressions, directives and statements break a name rule. A name's place is that of its first byte.
use Rattle.std.specs.Prelude.{ℕ, List, [], ◌∷◌, ◌++◌, length, Option, Some, None, Bool, true, false, not, ◌&&◌, ◌==◌, nat_le}
use Rattle.c_tree.specs.Bare.{Name}
use Rattle.c_tree.specs.Placed.{Expr, num, read, item, un, bin, cond, cast, Exprs, no_exprs, more_exprs, expr_list, Target, target, Count, fill, given, Directive, directive, Clauses, no_clauses, more_clauses, Clause, clause, ClauseKind, sizes, permutation, counts, looprange, full, partial, apply, Items, no_items, more_items, Item, nothing, acts, Stmt, decl, set, step, print, input, if_, if_else, while_, do_, for_, block, break_, continue_, empty, omp, call, Stmts, no_stmts, more_stmts, MaybeStmt, no_stmt, a_stmt, Head, head}
use Rattle.c_tree.specs.declared.name_rule.NameRule.{NameRule}
use Rattle.c_tree.specs.declared.name_rule.NameRule.TheVariants.{N1, N2, N3, N4, N6, N7, N10, N11, N12}
use Rattle.c_tree.specs.NameRules.BreachSets.{BreachSet, none, one, ◌&◌}
use Rattle.c_tree.specs.declared.name_rule.Entity.{Entity}
use Rattle.c_tree.specs.declared.name_rule.Entity.TheVariants.{Define, Variable, Function}
use Rattle.c_tree.specs.NameRules.Scopes.{Scope, meaning, is_taken, declare, a_scalar, inner, after_stmt, after_part, after_head}

-- this rule at this place, where the condition holds
abbrev pub breach_if : Bool → NameRule → ℕ → BreachSet
breach_if true rule place = one (record { place = place; rule = rule })
breach_if false rule place = none

-- ---- the rules at one name

-- a name in an expression or as a target, with so many subscripts. N1: nothing makes it visible. N3: the subscripts
-- aren't as many as the dimensions, which are 0 for a scalar or a define. N10: it is a function's, and N3 isn't tested
abbrev pub use_breaches : Option Entity → ℕ → ℕ → BreachSet
use_breaches None subs at = breach_if true N1 at
use_breaches (Some (Define c)) subs at = breach_if (not (subs == 0)) N3 at
use_breaches (Some (Variable dims)) subs at = breach_if (not (subs == dims)) N3 at
use_breaches (Some (Function params depth)) subs at = breach_if true N10 at

-- N4: a define is assigned, stepped or read into
abbrev pub assign_breaches : Option Entity → ℕ → BreachSet
assign_breaches (Some (Define c)) at = breach_if true N4 at
assign_breaches _ at = none

-- a called name, with so many arguments. N1: no finished function or other declaration makes it visible. N10: it is a
-- variable's or a define's. N11: the arguments aren't as many as the parameters. N12: in a function, the called one has
-- depth 16
abbrev pub call_breaches : Bool → Option Entity → ℕ → ℕ → BreachSet
call_breaches in_function None args at = breach_if true N1 at
call_breaches in_function (Some (Function params depth)) args at =
    breach_if (not (args == params)) N11 at & breach_if (in_function && nat_le 16 depth) N12 at
call_breaches in_function (Some _) args at = breach_if true N10 at

-- N2: a name is declared again in the same scope, or after a define of it
abbrev pub declare_breaches : Scope → Name → ℕ → BreachSet
declare_breaches s x at = breach_if (is_taken s x) N2 at

-- ---- expressions

abbrev mutual
  pub expr_breaches : Scope → Expr → BreachSet
  expr_breaches s (num k t span) = none
  expr_breaches s (read x span) = use_breaches (meaning s x) 0 span.start
  expr_breaches s (item x es span) = use_breaches (meaning s x) (length (expr_list es)) span.start & exprs_breaches s es
  expr_breaches s (un op a span) = expr_breaches s a
  expr_breaches s (bin op a b span) = expr_breaches s a & expr_breaches s b
  expr_breaches s (cond a b c span) = expr_breaches s a & (expr_breaches s b & expr_breaches s c)
  expr_breaches s (cast t a span) = expr_breaches s a

  pub exprs_breaches : Scope → Exprs → BreachSet
  exprs_breaches s no_exprs = none
  exprs_breaches s (more_exprs e es) = expr_breaches s e & exprs_breaches s es

abbrev pub option_breaches : Scope → Option Expr → BreachSet
option_breaches s None = none
option_breaches s (Some e) = expr_breaches s e

abbrev pub target_breaches : Scope → Target → BreachSet
target_breaches s (target x es span) =
    use_breaches (meaning s x) (length (expr_list es)) span.start & (assign_breaches (meaning s x) span.start & exprs_breaches s es)

-- ---- directives: their expressions use names like any other

abbrev pub count_breaches : Scope → Count → BreachSet
count_breaches s (fill span) = none
count_breaches s (given e) = expr_breaches s e

abbrev pub counts_breaches : Scope → List Count → BreachSet
counts_breaches s [] = none
counts_breaches s (c ∷ cs) = count_breaches s c & counts_breaches s cs

abbrev mutual
  pub directive_breaches : Scope → Directive → BreachSet
  directive_breaches s (directive kind cs span) = clauses_breaches s cs

  pub clauses_breaches : Scope → Clauses → BreachSet
  clauses_breaches s no_clauses = none
  clauses_breaches s (more_clauses c cs) = clause_breaches s c & clauses_breaches s cs

  pub clause_breaches : Scope → Clause → BreachSet
  clause_breaches s (clause kind span) = kind_breaches s kind

  pub kind_breaches : Scope → ClauseKind → BreachSet
  kind_breaches s (sizes es) = exprs_breaches s es
  kind_breaches s (permutation es) = exprs_breaches s es
  kind_breaches s (counts cs) = counts_breaches s cs
  kind_breaches s (looprange first count) = expr_breaches s first & expr_breaches s count
  kind_breaches s full = none
  kind_breaches s (partial factor) = option_breaches s factor
  kind_breaches s (apply modifier indices is) = exprs_breaches s indices & items_breaches s is

  pub items_breaches : Scope → Items → BreachSet
  items_breaches s no_items = none
  items_breaches s (more_items i is) = item_breaches s i & items_breaches s is

  pub item_breaches : Scope → Item → BreachSet
  item_breaches s (nothing span) = none
  item_breaches s (acts d) = directive_breaches s d

-- ---- statements, in a function or in `main`, and in a loop or not

module _ (in_function : Bool) where
  abbrev mutual
    pub stmt_breaches : Bool → Scope → Stmt → BreachSet
    -- a variable is visible from directly after its name on
    stmt_breaches in_loop s (decl t x at init span) = declare_breaches s x at.start & option_breaches (declare x a_scalar s) init
    stmt_breaches in_loop s (set t op e span) = target_breaches s t & expr_breaches s e
    stmt_breaches in_loop s (step t up span) = target_breaches s t
    -- N1 at the word `print`, and at the word `input`
    stmt_breaches in_loop s (print e span) = breach_if (not s.print_known) N1 span.start & expr_breaches s e
    stmt_breaches in_loop s (input t input_at span) = target_breaches s t & breach_if (not s.input_known) N1 input_at
    stmt_breaches in_loop s (if_ e a span) = expr_breaches s e & stmts_breaches in_loop (inner s) a
    stmt_breaches in_loop s (if_else e a b span) =
        expr_breaches s e & (stmts_breaches in_loop (inner s) a & stmts_breaches in_loop (inner s) b)
    stmt_breaches in_loop s (while_ e a span) = expr_breaches s e & stmts_breaches true (inner s) a
    stmt_breaches in_loop s (do_ a e span) = stmts_breaches true (inner s) a & expr_breaches s e
    stmt_breaches in_loop s (for_ h a span) = head_breaches in_loop s h & stmts_breaches true (inner (after_head s h)) a
    stmt_breaches in_loop s (block a span) = stmts_breaches in_loop (inner s) a
    -- N6 and N7
    stmt_breaches in_loop s (break_ span) = breach_if (not in_loop) N6 span.start
    stmt_breaches in_loop s (continue_ span) = breach_if (not in_loop) N7 span.start
    stmt_breaches in_loop s (empty span) = none
    stmt_breaches in_loop s (omp d a span) = directive_breaches s d & stmts_breaches in_loop (inner s) a
    stmt_breaches in_loop s (call x at args span) =
        call_breaches in_function (meaning s x) (length (expr_list args)) at.start & exprs_breaches s args

    -- one after another in one scope
    pub stmts_breaches : Bool → Scope → Stmts → BreachSet
    stmts_breaches in_loop s no_stmts = none
    stmts_breaches in_loop s (more_stmts a as') = stmt_breaches in_loop s a & stmts_breaches in_loop (after_stmt s a) as'

    pub part_breaches : Bool → Scope → MaybeStmt → BreachSet
    part_breaches in_loop s no_stmt = none
    part_breaches in_loop s (a_stmt a) = stmt_breaches in_loop s a

    pub head_breaches : Bool → Scope → Head → BreachSet
    head_breaches in_loop s (head init init_at test test_at next next_at) =
        part_breaches in_loop (inner s) init
        & (option_breaches (after_part (inner s) init) test & part_breaches in_loop (after_part (inner s) init) next)
