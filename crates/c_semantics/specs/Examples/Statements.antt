-- Worked examples: expressions, statements and traps, without directives.
use Rattle.std.specs.Prelude.{◌≡◌, [], ◌∷◌, Some, None, pos, negsuc, codes}
use Rattle.c_tree.specs.Bare.{Name, no_exprs, read, item, un, bin, cond, target, decl, print, input, while_, do_, if_else, block, empty, Stmts, global, main}
use Rattle.c_tree.specs.declared.tree.Ty.TheVariants.{Int}
use Rattle.c_tree.specs.declared.tree.UnOp.TheVariants.{Neg}
use Rattle.c_tree.specs.declared.tree.BinOp.TheVariants.{Add, Sub, Div, Rem, Lt}
use Rattle.c_tree.specs.declared.tree.SetOp.TheVariants as assigned
use Rattle.c_semantics.specs.Meaning.State.{scalar}
use Rattle.c_tree.specs.declared.arithmetic.Trap.TheVariants.{Overflow, DivideByZero, Unset, Narrow, Index, InputEnd}
use Rattle.c_semantics.specs.Meaning.Programs.{Ended, Stopped, CutOff, outcome}
use Rattle.c_semantics.specs.Structure.Parts.{round, leaf, shapes_of, While, Do, Set, Step}
use Rattle.c_semantics.specs.Examples.Notation.{int, long, exprs, list, only, assign, up, for_declared, for_to, print_all, in_main, Does, Prints, Traps, nats, p, HasLoops}

abbrev x : Name
x = codes "x"

abbrev i : Name
i = codes "i"

abbrev j : Name
j = codes "j"

-- int n = input(); print(n + n); n = input();
abbrev doubled_input : Stmts
doubled_input = list (decl Int x None ∷ input (target x no_exprs) ∷ print (bin Add (read x) (read x)) ∷ input (target x no_exprs) ∷ [])

-- int x = 3; { int x = x; }
abbrev reads_itself : Stmts
reads_itself = list (decl Int x (Some (int 3)) ∷ block (only (decl Int x (Some (read x)))) ∷ [])

-- int i = 3; for (int i = i; i < 5; i++) ;
abbrev head_reads_itself : Stmts
head_reads_itself = list (
    decl Int i (Some (int 3)) ∷
    for_declared Int i (read i) (bin Lt (read i) (int 5)) (up i) (only empty) ∷ [])

-- while (1) print(1); do print(2); while (1); do print(3); while (0);
-- if (1) { print(4); } else { print(5); }
-- { int x = 6; x += 1; x++; }
abbrev nested_statements : Stmts
nested_statements = list (
    while_ (int 1) (print_all (int 1 ∷ [])) ∷ do_ (print_all (int 2 ∷ [])) (int 1) ∷ do_ (print_all (int 3 ∷ [])) (int 0) ∷
    if_else (int 1) (print_all (int 4 ∷ [])) (print_all (int 5 ∷ [])) ∷
    block (list (decl Int x (Some (int 6)) ∷ assign x assigned.Add (int 1) ∷ up x ∷ [])) ∷ [])

pub record Statements : Type 0 where
  -- for (int i = 0; i < 20; i++) print(i); for (int i = 0; i < 30; i++) for (int j = 0; j < 30; j++) ;
  pub turns_of_all_for_loops :
      Prints (list (for_to i 20 (print_all (read i ∷ [])) ∷ for_to i 30 (only (for_to j 30 (only empty))) ∷ []))
      (nats (0 ∷ 1 ∷ 2 ∷ 3 ∷ 4 ∷ 5 ∷ 6 ∷ 7 ∷ 8 ∷ 9 ∷ 10 ∷ 11 ∷ 12 ∷ 13 ∷ 14 ∷ 15 ∷ 16 ∷ 17 ∷ 18 ∷ 19 ∷ [])) 950
  -- int x; print(x);
  pub unset_variable : Traps (list (decl Int x None ∷ print (read x) ∷ [])) [] Unset
  pub variable_in_its_own_initial_value : Traps reads_itself [] Unset
  pub variable_in_its_own_head : Traps head_reads_itself [] Unset
  -- print(2147483647 + 1);
  pub sum_of_ints : Traps (print_all (bin Add (int 2147483647) (int 1) ∷ [])) [] Overflow
  -- print(2147483647 + 1LL);
  pub sum_in_the_common_type : Prints (print_all (bin Add (int 2147483647) (long 1) ∷ [])) (nats (2147483648 ∷ [])) 0
  -- print((1 ? 2147483647 : 1LL) + 1);
  pub type_of_the_branch_not_taken : Prints (print_all (bin Add (cond (int 1) (int 2147483647) (long 1)) (int 1) ∷ [])) (nats (2147483648 ∷ [])) 0
  -- int x = 4000000000LL;
  pub narrow_initial_value : Traps (only (decl Int x (Some (long 4000000000)))) [] Narrow
  -- print(-7 / 2); print(-7 % 2);
  pub division_toward_zero : Prints (print_all (bin Div (un Neg (int 7)) (int 2) ∷ bin Rem (un Neg (int 7)) (int 2) ∷ [])) (negsuc 2 ∷ negsuc 0 ∷ []) 0
  -- print(1 % 0);
  pub remainder_by_zero : Traps (print_all (bin Rem (int 1) (int 0) ∷ [])) [] DivideByZero
  -- print((-2147483647 - 1) % -1);
  pub remainder_of_the_least_int : Traps (print_all (bin Rem (bin Sub (un Neg (int 2147483647)) (int 1)) (un Neg (int 1)) ∷ [])) [] Overflow
  -- int a[2]; int main(void) { print(a[2]); }
  pub subscript_past_the_end :
      Does 100 (global Int x (exprs (int 2 ∷ [])) None ∷ main (print_all (item x (exprs (int 2 ∷ [])) ∷ [])) ∷ []) [] (Stopped Index) 0
  -- with the input 21
  pub input_ends :
      outcome 100 (in_main doubled_input) (pos 21 ∷ []) ≡ record { lines = pos 42 ∷ []; globals = []; input = []; end = Stopped InputEnd }
  -- with the input 4000000000: the number is taken
  pub input_does_not_fit :
      outcome 100 (in_main doubled_input) (pos 4000000000 ∷ []) ≡ record { lines = []; globals = []; input = []; end = Stopped Narrow }
  -- int x = 5; int main(void) { x += 2; }
  pub file_variables_at_the_end :
      outcome 100 (global Int x no_exprs (Some (int 5)) ∷ main (only (assign x assigned.Add (int 2))) ∷ []) [] ≡
      record { lines = []; globals = record { name = x; cell = scalar Int (Some (pos 7)) } ∷ []; input = []; end = Ended }
  pub loops_and_leaves :
      HasLoops nested_statements
      (round While (shapes_of (p ∷ [])) ∷ round Do (shapes_of (p ∷ [])) ∷ p ∷ p ∷ p ∷ leaf Set ∷ leaf Step ∷ [])
  -- print(3); while (1) ;
  pub endless_loop : Does 10 (in_main (list (print (int 3) ∷ while_ (int 1) (only empty) ∷ []))) (nats (3 ∷ [])) CutOff 0
