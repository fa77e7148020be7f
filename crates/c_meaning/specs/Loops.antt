-- What a loop of the code stands for.
use Rattle.std.specs.Prelude.{ℕ, ◌+◌, Option, Bool, true, false}
use Rattle.std.specs.Option.{option_map, option_copied}
use Rattle.c_tree.specs.Bare.{Expr, MaybeStmt}
use Rattle.resolved_names.specs.Numbered.{numbered_expr, numbered_stmt, numbered_stmts, maybe_stmt}
use Rattle.c_meaning.specs.Held.{HeldOption}
use Rattle.c_semantics.specs.Meaning.Runs.{Meaning, then_do, turn_of, for_turn, while_loop}
use Rattle.c_semantics.specs.Meaning.SimpleStatements.{Env, head_test}
use Rattle.c_semantics.specs.Meaning.Statements.{exec_all, exec_maybe}
use Rattle.c_meaning.specs.declared.loops.Loop.{Loop}
use Rattle.c_meaning.specs.Runnable.{RunnableStmts, RunnablePart}
use Rattle.c_meaning.specs.Sizes.{stmts_size, part_size}

abbrev pub test_of : Loop → Option Expr
test_of l = option_map numbered_expr (option_copied l.test)

abbrev pub next_of : Loop → MaybeStmt
next_of l = maybe_stmt (option_map numbered_stmt (option_copied l.next))

-- a turn of a `for`, or of another loop
abbrev pub counted_turn : Bool → Meaning → Meaning → Meaning
counted_turn true f next = for_turn f next
counted_turn false f next = turn_of f

abbrev pub turn_in : ℕ → Env → Loop → Meaning
turn_in n env l = counted_turn l.counts (exec_all n env (numbered_stmts l.body.now)) (exec_maybe n env (next_of l))

-- what a `for` head begins with, and then its loop
abbrev pub head_run : ℕ → Env → MaybeStmt → Loop → Meaning
head_run n env init l s = then_do (exec_maybe n env init s) (while_loop n (head_test env.defines (test_of l)) (turn_in n env l))

abbrev pub loop_size : Loop → ℕ
loop_size l = stmts_size (numbered_stmts l.body.now) + part_size (next_of l)

pub record RunnableLoop (l : Loop) : Type 0 where
  pub test : HeldOption (test_of l)
  pub body : RunnableStmts (numbered_stmts l.body.now)
  pub next : RunnablePart (next_of l)
