-- Worked examples of the printed form.
use Rattle.std.specs.Prelude.{◌≡◌, ℕ, ◌-◌, ◌^◌, List, [], ◌∷◌, ◌++◌, Option, Some, None, Bool, true, false, codes}
use Rattle.c_tree.specs.Bare.{Name, Expr, num, read, item, un, bin, cond, cast, Exprs, no_exprs, more_exprs, Target, target, Count, fill, given, Directive, directive, Clauses, no_clauses, more_clauses, Clause, sizes, permutation, counts, looprange, full, partial, apply, Items, no_items, more_items, Item, nothing, acts, Stmt, decl, set, step, print, input, if_, if_else, while_, do_, for_, block, break_, continue_, empty, omp, call, Stmts, no_stmts, more_stmts, no_stmt, a_stmt, head, Top, define, extern_, global, function, main}
use Rattle.c_tree.specs.declared.tree.Ty.TheVariants.{Int, Long}
use Rattle.c_tree.specs.declared.tree.UnOp.TheVariants.{Neg, Plus, Not}
use Rattle.c_tree.specs.declared.tree.BinOp.TheVariants.{Mul, Div, Rem, Add, Sub, Lt, Le, Gt, Ge, Eq, Ne, And, Or}
use Rattle.c_tree.specs.declared.tree.SetOp.TheVariants as op
use Rattle.c_tree.specs.declared.tree.Kind.TheVariants.{Tile, Unroll, Interchange, Reverse, Split, Fuse}
use Rattle.c_tree.specs.declared.tree.Port.TheVariants.{Print, Input}
use Rattle.c_printer.specs.Layout.{text}
use Rattle.c_printer.specs.Expressions.{expr_form}
use Rattle.c_printer.specs.Directives.{directive_form}
use Rattle.c_printer.specs.Statements.{stmt_form}
use Rattle.c_printer.specs.Programs.{top_form, printed}

-- ---- short forms of trees

abbrev pub a : Expr
a = read (codes "a")

abbrev pub b : Expr
b = read (codes "b")

abbrev pub c : Expr
c = read (codes "c")

abbrev pub int : ℕ → Expr
int n = num n Int

abbrev pub exprs : List Expr → Exprs
exprs [] = no_exprs
exprs (e ∷ es) = more_exprs e (exprs es)

abbrev pub list : List Stmt → Stmts
list [] = no_stmts
list (s ∷ ss) = more_stmts s (list ss)

abbrev pub clauses : List Clause → Clauses
clauses [] = no_clauses
clauses (d ∷ ds) = more_clauses d (clauses ds)

abbrev pub items : List Item → Items
items [] = no_items
items (i ∷ is) = more_items i (items is)

abbrev pub scalar : Name → Target
scalar x = target x no_exprs

abbrev pub is_printed : Expr → List ℕ → Type 0
is_printed e bytes = text (expr_form e) ≡ bytes

-- ---- expressions

pub record Expressions : Type 0 where
  pub int_constant : is_printed (int 40) (codes "40")
  pub long_constant : is_printed (num (2 ^ 63 - 1) Long) (codes "9223372036854775807LL")
  pub element : is_printed (item (codes "m") (exprs (a ∷ int 1 ∷ []))) (codes "m[a][1]")
  pub left_associative : is_printed (bin Sub (bin Sub a b) c) (codes "a - b - c")
  pub right_operand : is_printed (bin Sub a (bin Sub b c)) (codes "a - (b - c)")
  pub looser_operands : is_printed (bin Mul (bin Add a b) (bin Add b c)) (codes "(a + b) * (b + c)")
  pub tighter_operands : is_printed (bin Add (bin Mul a b) (bin Rem b c)) (codes "a * b + b % c")
  pub comparisons : is_printed (bin Eq (bin Lt a b) (bin Ge (bin Le a b) c)) (codes "a < b == a <= b >= c")
  pub compared_comparison : is_printed (bin Gt a (bin Ne b c)) (codes "a > (b != c)")
  pub logical : is_printed (bin Or (bin And a b) (bin Or b c)) (codes "a && b || (b || c)")
  pub quotient : is_printed (bin Div (int 7) (un Neg (int 2))) (codes "7 / -2")
  pub minus_of_minus : is_printed (un Neg (un Neg a)) (codes "-(-a)")
  pub minus_of_plus : is_printed (un Neg (un Plus a)) (codes "-(+a)")
  pub plus_of_not : is_printed (un Plus (un Not (un Neg a))) (codes "+!-a")
  pub not_of_not : is_printed (un Not (un Not a)) (codes "!!a")
  pub minus_of_a_sum : is_printed (un Neg (bin Add a b)) (codes "-(a + b)")
  pub binary_minus_of_minus : is_printed (bin Sub a (un Neg b)) (codes "a - -b")
  pub minus_of_a_cast : is_printed (un Neg (cast Int (un Neg a))) (codes "-(int)-a")
  pub cast_of_a_cast : is_printed (cast Long (cast Int a)) (codes "(long long)(int)a")
  pub cast_of_a_product : is_printed (bin Mul (cast Long a) b) (codes "(long long)a * b")
  pub product_in_a_cast : is_printed (cast Int (bin Mul a b)) (codes "(int)(a * b)")
  pub choice : is_printed (cond (bin Lt a b) a b) (codes "a < b ? a : b")
  pub choice_in_branches : is_printed (cond a (cond a b c) (cond b a c)) (codes "a ? a ? b : c : b ? a : c")
  pub choice_in_the_test : is_printed (cond (cond a b c) a b) (codes "(a ? b : c) ? a : b")
  pub choice_as_operand : is_printed (bin Add a (cond a b c)) (codes "a + (a ? b : c)")
  pub choice_in_a_subscript : is_printed (item (codes "m") (exprs (cond a b c ∷ []))) (codes "m[a ? b : c]")

-- ---- directives

abbrev pub is_directive : Directive → List ℕ → Type 0
is_directive d bytes = text (directive_form d) ≡ bytes

pub record Directives : Type 0 where
  pub no_clause : is_directive (directive Interchange no_clauses) (codes "interchange")
  pub sizes_and_apply : is_directive (directive Tile (clauses (sizes (exprs (bin Add (int 2) (int 2) ∷ int 1 ∷ [])) ∷ apply (Some (codes "grid")) (exprs (int 1 ∷ [])) (items (acts (directive Reverse no_clauses) ∷ [])) ∷ []))) (codes "tile sizes(2 + 2, 1) apply(grid(1): reverse)")
  pub no_indices : is_directive (directive Tile (clauses (sizes (exprs (int 4 ∷ [])) ∷ apply (Some (codes "intratile")) no_exprs (items (acts (directive Unroll (clauses (full ∷ []))) ∷ nothing ∷ [])) ∷ []))) (codes "tile sizes(4) apply(intratile: unroll full, nothing)")
  pub no_modifier : is_directive (directive Reverse (clauses (apply None no_exprs (items (nothing ∷ acts (directive Unroll (clauses (partial (Some (int 2)) ∷ []))) ∷ [])) ∷ []))) (codes "reverse apply(nothing, unroll partial(2))")
  pub permutation_of_three : is_directive (directive Interchange (clauses (permutation (exprs (int 2 ∷ int 3 ∷ int 1 ∷ [])) ∷ []))) (codes "interchange permutation(2, 3, 1)")
  pub counts_with_fill : is_directive (directive Split (clauses (counts (given (int 3) ∷ fill ∷ given (int 2) ∷ []) ∷ []))) (codes "split counts(3, omp_fill, 2)")
  pub range_of_a_sequence : is_directive (directive Fuse (clauses (looprange (int 1) (int 2) ∷ []))) (codes "fuse looprange(1, 2)")
  pub no_factor : is_directive (directive Unroll (clauses (partial None ∷ []))) (codes "unroll partial")

-- ---- statements

abbrev pub is_statement : Stmt → List ℕ → Type 0
is_statement s bytes = text (stmt_form 0 s) ≡ bytes

abbrev pub loop_over : Stmts → Stmt
loop_over body = for_ (head (a_stmt (decl Int (codes "i") (Some (int 0)))) (Some (bin Lt (read (codes "i")) (int 4))) (a_stmt (step (scalar (codes "i")) true))) body

pub record Statements : Type 0 where
  pub declaration : is_statement (decl Int (codes "y") None) (codes "int y;\n")
  pub declaration_with_value : is_statement (decl Long (codes "x") (Some (num 5 Long))) (codes "long long x = 5LL;\n")
  pub assignment : is_statement (set (target (codes "m") (exprs (a ∷ b ∷ []))) op.Plain c) (codes "m[a][b] = c;\n")
  pub compound_assignments : is_statement (block (list (set (scalar (codes "x")) op.Add a ∷ set (scalar (codes "x")) op.Sub a ∷ set (scalar (codes "x")) op.Mul a ∷ set (scalar (codes "x")) op.Div a ∷ set (scalar (codes "x")) op.Rem a ∷ []))) (codes "{\n    x += a;\n    x -= a;\n    x *= a;\n    x /= a;\n    x %= a;\n}\n")
  pub steps : is_statement (block (list (step (scalar (codes "x")) true ∷ step (target (codes "m") (exprs (a ∷ []))) false ∷ []))) (codes "{\n    x++;\n    m[a]--;\n}\n")
  pub reading_and_printing : is_statement (block (list (input (scalar (codes "x")) ∷ print (bin Add a b) ∷ []))) (codes "{\n    x = input();\n    print(a + b);\n}\n")
  pub calls : is_statement (block (list (call (codes "f") no_exprs ∷ call (codes "g") (exprs (int 1 ∷ a ∷ [])) ∷ []))) (codes "{\n    f();\n    g(1, a);\n}\n")
  pub alone : is_statement (if_ a (list (empty ∷ []))) (codes "if (a) {\n    ;\n}\n")
  pub alternative : is_statement (if_else a (list (break_ ∷ [])) (list (if_else b (list (continue_ ∷ [])) no_stmts ∷ []))) (codes "if (a) {\n    break;\n} else {\n    if (b) {\n        continue;\n    } else {\n    }\n}\n")
  pub inner_alternative : is_statement (if_ a (list (if_else b (list (break_ ∷ [])) (list (empty ∷ [])) ∷ []))) (codes "if (a) {\n    if (b) {\n        break;\n    } else {\n        ;\n    }\n}\n")
  pub outer_alternative : is_statement (if_else a (list (if_ b (list (break_ ∷ [])) ∷ [])) (list (empty ∷ []))) (codes "if (a) {\n    if (b) {\n        break;\n    }\n} else {\n    ;\n}\n")
  pub while_loop : is_statement (while_ (bin Lt a b) no_stmts) (codes "while (a < b) {\n}\n")
  pub do_loop : is_statement (do_ (list (print a ∷ [])) (int 0)) (codes "do {\n    print(a);\n} while (0);\n")
  pub for_loop : is_statement (loop_over (list (print a ∷ []))) (codes "for (int i = 0; i < 4; i++) {\n    print(a);\n}\n")
  pub no_parts : is_statement (for_ (head no_stmt None no_stmt) no_stmts) (codes "for (;;) {\n}\n")
  pub only_a_test : is_statement (for_ (head no_stmt (Some a) no_stmt) no_stmts) (codes "for (; a;) {\n}\n")
  pub only_an_end : is_statement (for_ (head no_stmt None (a_stmt (set (scalar (codes "i")) op.Sub (int 2)))) no_stmts) (codes "for (;; i -= 2) {\n}\n")
  pub only_a_start : is_statement (for_ (head (a_stmt (set (scalar (codes "i")) op.Plain (int 2))) None no_stmt) no_stmts) (codes "for (i = 2;;) {\n}\n")
  pub empty_block : is_statement (block (list (block no_stmts ∷ []))) (codes "{\n    {\n    }\n}\n")
  pub directive_on_a_loop : is_statement (omp (directive Reverse no_clauses) (list (loop_over no_stmts ∷ []))) (codes "#pragma omp reverse\nfor (int i = 0; i < 4; i++) {\n}\n")
  pub directive_on_a_directive : is_statement (block (list (omp (directive Tile (clauses (sizes (exprs (int 4 ∷ [])) ∷ []))) (list (omp (directive Reverse no_clauses) (list (loop_over no_stmts ∷ [])) ∷ [])) ∷ []))) (codes "{\n    #pragma omp tile sizes(4)\n    #pragma omp reverse\n    for (int i = 0; i < 4; i++) {\n    }\n}\n")
  pub directive_on_a_sequence : is_statement (omp (directive Fuse no_clauses) (list (loop_over no_stmts ∷ loop_over no_stmts ∷ []))) (codes "#pragma omp fuse\n{\n    for (int i = 0; i < 4; i++) {\n    }\n    for (int i = 0; i < 4; i++) {\n    }\n}\n")
  pub directive_on_a_block : is_statement (omp (directive Reverse no_clauses) (list (block (list (loop_over no_stmts ∷ [])) ∷ []))) (codes "#pragma omp reverse\n{\n    {\n        for (int i = 0; i < 4; i++) {\n        }\n    }\n}\n")

-- ---- programs

abbrev pub is_item : Top → List ℕ → Type 0
is_item t bytes = text (top_form t) ≡ bytes

pub record Programs : Type 0 where
  pub define_a_number : is_item (define (codes "N") false 3 Int) (codes "#define N 3\n")
  pub define_a_negative : is_item (define (codes "M") true 1 Int) (codes "#define M (-1)\n")
  pub define_a_long : is_item (define (codes "L") true 7 Long) (codes "#define L (-7LL)\n")
  pub print_made_known : is_item (extern_ Print) (codes "extern void print(long long);\n")
  pub input_made_known : is_item (extern_ Input) (codes "extern long long input(void);\n")
  pub array : is_item (global Int (codes "m") (exprs (read (codes "N") ∷ int 4 ∷ [])) None) (codes "int m[N][4];\n")
  pub variable_with_value : is_item (global Long (codes "x") no_exprs (Some (num 5 Long))) (codes "long long x = 5LL;\n")
  pub function_of_two : is_item (function (codes "f") (record { ty = Int; name = codes "a" } ∷ record { ty = Long; name = codes "b" } ∷ []) (list (print a ∷ []))) (codes "static void f(int a, long long b) {\n    print(a);\n}\n")
  pub function_of_none : is_item (function (codes "g") [] no_stmts) (codes "static void g(void) {\n}\n")
  pub empty_main : printed (main no_stmts ∷ []) ≡ codes "int main(void) {\n    return 0;\n}\n"
  pub whole : printed (
      define (codes "N") false 3 Int
      ∷ extern_ Print
      ∷ global Int (codes "a") (exprs (read (codes "N") ∷ [])) None
      ∷ global Int (codes "s") no_exprs (Some (int 2))
      ∷ main (list (
      decl Int (codes "k") None
      ∷ for_ (head (a_stmt (set (scalar (codes "k")) op.Plain (int 0))) (Some (bin Lt (read (codes "k")) (read (codes "N")))) (a_stmt (step (scalar (codes "k")) true)))
      (list (set (target (codes "a") (exprs (read (codes "k") ∷ []))) op.Plain (bin Mul (read (codes "k")) (bin Add (read (codes "s")) (int 1))) ∷ []))
      ∷ if_else (bin Gt (item (codes "a") (exprs (int 2 ∷ []))) (int 5)) (list (print (item (codes "a") (exprs (int 2 ∷ []))) ∷ [])) (list (empty ∷ []))
      ∷ []))
      ∷ [])
      ≡ codes "#define N 3\nextern void print(long long);\nint a[N];\nint s = 2;\nint main(void) {\n    int k;\n    for (k = 0; k < N; k++) {\n        a[k] = k * (s + 1);\n    }\n    if (a[2] > 5) {\n        print(a[2]);\n    } else {\n        ;\n    }\n    return 0;\n}\n"
