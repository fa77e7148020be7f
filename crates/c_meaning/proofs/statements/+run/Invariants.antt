use Rattle.std.proofs.Common.{◌+◌, drop, map}
use Rattle.std.specs.Option.{option_copied, option_map}
use Rattle.c_tree.specs.Bare.{for_}
use Rattle.resolved_names.specs.Numbered.{numbered_top, numbered_expr, numbered_stmt, numbered_stmts, numbered_head, maybe_stmt}
use Rattle.c_semantics.specs.Meaning.Runs.{repeat}
use Rattle.c_semantics.specs.Meaning.SimpleStatements.{head_test}
use Rattle.c_semantics.specs.Meaning.Statements.{exec_all}
use Rattle.c_meaning.specs.Choices.{if_of}
use Rattle.c_meaning.specs.Loops.{test_of, turn_in, loop_size}
use Rattle.c_meaning.specs.Running.{sunk}
use Rattle.c_meaning.specs.Scopes.{env_of}
use Rattle.c_meaning.specs.Sizes.{stmt_size, stmts_size, part_size, tops_size}
use Rattle.c_meaning.proofs.Running.{Leads}
use Rattle.c_meaning.proofs.statements.+run.Given as goal

-- To run the whole is to run what is left from where the statements so far came.
abbrev pub invariant-run_stmts-each : goal.invariant-run_stmts-each
invariant-run_stmts-each g l =
    Leads (exec_all l.scope.bound (env_of l.scope) (numbered_stmts l.stmts)) l.initial.m (sunk (g.K.Sink.held l.initial.out) (g.K.Sink.faults l.initial.out))
    (exec_all l.scope.bound (env_of l.scope) (numbered_stmts (drop l.stmt-index l.stmts))) l.m (sunk (g.K.Sink.held l.out) (g.K.Sink.faults l.out))

-- Likewise the turns that are left.
abbrev pub invariant-repeat-each : goal.invariant-repeat-each
invariant-repeat-each g l =
    Leads (repeat l.turns (head_test (env_of l.scope).defines (test_of l.repeated)) (turn_in l.scope.bound (env_of l.scope) l.repeated)) l.initial.m (sunk (g.K.Sink.held l.initial.out) (g.K.Sink.faults l.initial.out))
    (repeat l.left (head_test (env_of l.scope).defines (test_of l.repeated)) (turn_in l.scope.bound (env_of l.scope) l.repeated)) l.m (sunk (g.K.Sink.held l.out) (g.K.Sink.faults l.out))

abbrev pub decreases-repeat-each : goal.decreases-repeat-each
decreases-repeat-each g l = l.left

-- The items that are known and the part that is run get smaller.
abbrev pub decreases-run_stmt : goal.decreases-run_stmt
decreases-run_stmt g l = tops_size (map numbered_top l.scope.now.items.now) + stmt_size (numbered_stmt l.stmt.now) + 1

abbrev pub decreases-run_stmts : goal.decreases-run_stmts
decreases-run_stmts g l = tops_size (map numbered_top l.scope.now.items.now) + stmts_size (numbered_stmts l.stmts.now) + 2

abbrev pub decreases-run_block : goal.decreases-run_block
decreases-run_block g l = tops_size (map numbered_top l.scope.now.items.now) + stmts_size (numbered_stmts l.body.now) + 3

abbrev pub decreases-run_if : goal.decreases-run_if
decreases-run_if g l = tops_size (map numbered_top l.scope.now.items.now) + stmt_size (if_of (numbered_expr l.test.now) (numbered_stmts l.yes.now) (option_map numbered_stmts l.no.now))

abbrev pub decreases-run_part : goal.decreases-run_part
decreases-run_part g l = tops_size (map numbered_top l.scope.now.items.now) + part_size (maybe_stmt (option_map numbered_stmt (option_copied l.part))) + 2

abbrev pub decreases-run_turn : goal.decreases-run_turn
decreases-run_turn g l = tops_size (map numbered_top l.scope.now.items.now) + loop_size l.repeated.now + 4

abbrev pub decreases-repeat : goal.decreases-repeat
decreases-repeat g l = tops_size (map numbered_top l.scope.now.items.now) + loop_size l.repeated.now + 5

abbrev pub decreases-repeat_after : goal.decreases-repeat_after
decreases-repeat_after g l = tops_size (map numbered_top l.scope.now.items.now) + loop_size l.repeated.now + 6

abbrev pub decreases-run_head : goal.decreases-run_head
decreases-run_head g l = tops_size (map numbered_top l.scope.now.items.now) + part_size (maybe_stmt (option_map numbered_stmt (option_copied l.init))) + loop_size l.repeated.now + 6

abbrev pub decreases-run_for : goal.decreases-run_for
decreases-run_for g l = tops_size (map numbered_top l.scope.now.items.now) + stmt_size (for_ (numbered_head l.head.now) (numbered_stmts l.body.now))

abbrev pub decreases-call : goal.decreases-call
decreases-call g l = tops_size (map numbered_top l.scope.now.items.now) + 9
