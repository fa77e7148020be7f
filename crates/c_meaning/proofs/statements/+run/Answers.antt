-- Each statement runs as its meaning does, by the runs of its parts.
use Rattle.std.proofs.Common.{◌≡◌, ◌<◌, ◌∙◌, sym, ap, refl, subst, map, List, [], Option, Ok, Err, true, arith}
use Rattle.std.proofs.lemmas.Result.{err_from_is_err_and}
use Rattle.std.specs.Option.{option_copied, option_map}
use Rattle.c_tree.specs.Bare as b
use Rattle.resolved_names.specs.Numbered.{number_name, numbered_top, numbered_expr, numbered_exprs, numbered_stmt, numbered_stmts, numbered_head, numbered_target, maybe_stmt}
use Rattle.resolved_names.specs.declared.tree.Expr.{Expr}
use Rattle.resolved_names.specs.declared.tree.Stmt.{Stmt}
use Rattle.c_meaning.specs.Held.{HeldExprs}
use Rattle.c_semantics.specs.Meaning.SimpleStatements as meaning
use Rattle.c_meaning.specs.declared.loops.Loop.{Loop}
use Rattle.c_meaning.specs.Ends.{end_of}
use Rattle.c_meaning.specs.Functions.{Stops, function_of, stopped_as}
use Rattle.c_meaning.specs.Loops.{next_of, test_of}
use Rattle.c_meaning.specs.Running.{sunk}
use Rattle.c_meaning.specs.Scopes.{env_of}
use Rattle.c_meaning.specs.Runnable.{RunnableHead, RunnablePart, RunnableStmt, RunnableStmts}
use Rattle.c_meaning.specs.Sizes.{stmt_size, stmts_size, part_size, head_size}
use Rattle.c_meaning.proofs.ChoiceParts.{choice_test, choice_yes, choice_no, yes_smaller, no_smaller}
use Rattle.c_meaning.proofs.EachKind.{run_as, decl_runs, set_runs, step_runs, input_runs, block_runs, block_faults, part_skips, part_runs, left_ends, if_traps, if_holds, else_runs, if_skips, while_ends, while_fails, do_ends, do_fails, head_goes, head_goes_on, head_stops, head_fails, for_runs, call_unknown, call_stops, call_ends, call_fails}
use Rattle.c_meaning.proofs.Lists.{runnable_at, smaller_at}
use Rattle.c_meaning.proofs.Nodes.{bare_decl, bare_set, bare_step, bare_print, bare_input, bare_choice, bare_while, bare_do, bare_for, bare_block, bare_break, bare_continue, bare_empty, bare_call, head_is}
use Rattle.c_meaning.proofs.Running.{leads_same, leads_on, ran_as, ran_ends, ran_next, ran_fault, ran_from, block_fails}
use Rattle.c_meaning.proofs.Steps.{stmts_done, stmts_next, stmts_stop, stmts_fail, repeat_trap, repeat_ends, repeat_cut, repeat_next, repeat_stop, repeat_fail, after_cut, after_next, after_stop, after_fail, turn_plain, turn_plain_fails, turn_goes, turn_stops, turn_fails}
use Rattle.c_meaning.proofs.statements.+run.Goals as goal

-- ---- calls

pub call-returns-in_default : goal.call-returns-in_default
call-returns-in_default g t c =
    let p = map numbered_top c.args.scope.now.items.now in
    call_unknown c.args.scope.now.bound p (number_name c.args.name) (numbered_exprs c.args.args.now) _ _ c.in_default.ensures.none

pub call-arguments-requires-clause-well_formed : goal.call-arguments-requires-clause-well_formed
call-arguments-requires-clause-well_formed g t c =
    subst (λ (es : List Expr). HeldExprs (numbered_exprs es)) (sym c.as_slice.ensures) c.requires.runnable

pub call-run_stmts-requires : goal.call-run_stmts-requires
call-run_stmts-requires g t c =
    let f = c.in-Some.ensures.found in
    λ κs sub. (omega (arith, f.before), (sub, (f.known, f.body)))

pub call-returns-in_err-end : goal.call-returns-in_err-end
call-returns-in_err-end g t c =
    let p = map numbered_top c.args.scope.now.items.now in
    let f = function_of c.in-Some.function in
    let found = c.in-Some.ensures.found in
    let q = err_from_is_err_and c.from_residual.result c.from_residual.ensures.1 in
    ran_fault c.from_residual.result c.in_err-end.field-0.0 q.0 q.1 q.2 (call_fails c.args.scope.now.bound p (number_name c.args.name) (numbered_exprs c.args.args.now) _ _ f found.means c.empty_frame-empty.new.self c.empty_frame-empty.ensures.same c.in-Ok.frame (subst (λ (es : List Expr). meaning.arguments (env_of c.args.scope.now).defines c.empty_frame-empty.new.self f.params (numbered_exprs es) [] ≡ Ok c.in-Ok.frame) c.as_slice.ensures c.in-Ok.ensures.frame) c.swap_frame-caller.new.self _ _ c.swap_frame-caller.ensures.frame _ c.in_err-end.ensures)

pub call-returns-in-Err : goal.call-returns-in-Err
call-returns-in-Err g t c =
    let p = map numbered_top c.args.scope.now.items.now in
    let f = function_of c.in-Some.function in
    let found = c.in-Some.ensures.found in
    ran_as c.stopped.result (stopped_as c.in-Err.stop) c.stopped.ensures (call_stops c.args.scope.now.bound p (number_name c.args.name) (numbered_exprs c.args.args.now) _ _ f found.means c.empty_frame-empty.new.self c.empty_frame-empty.ensures.same c.in-Err.stop (subst (λ (es : List Expr). Stops c.in-Err.stop (meaning.arguments (env_of c.args.scope.now).defines c.empty_frame-empty.new.self f.params (numbered_exprs es) [])) c.as_slice.ensures c.in-Err.ensures.trap))

pub call-returns : goal.call-returns
call-returns g t c =
    let p = map numbered_top c.args.scope.now.items.now in
    let f = function_of c.in-Some.function in
    let found = c.in-Some.ensures.found in
    call_ends c.args.scope.now.bound p (number_name c.args.name) (numbered_exprs c.args.args.now) _ _ f found.means c.empty_frame-empty.new.self c.empty_frame-empty.ensures.same c.in-Ok.frame (subst (λ (es : List Expr). meaning.arguments (env_of c.args.scope.now).defines c.empty_frame-empty.new.self f.params (numbered_exprs es) [] ≡ Ok c.in-Ok.frame) c.as_slice.ensures c.in-Ok.ensures.frame) c.swap_frame-caller.new.self c.run_stmts.new.m _ c.swap_frame-caller.ensures.frame _ c.swap_frame-caller.result (c.put_back.ensures ∙ c.swap_frame-ended.ensures.frame) c.swap_frame-caller.ensures.was c.in_ok-end.end c.call_end.result c.call_end.ensures c.in_ok-end.ensures

-- ---- turns

pub repeat-each-init : goal.repeat-each-init
repeat-each-init g t c = leads_same _ _ _

pub repeat-head_holds-requires-clause-well_formed : goal.repeat-head_holds-requires-clause-well_formed
repeat-head_holds-requires-clause-well_formed g t c = c.requires.runnable.test

pub repeat-returns-in-Err : goal.repeat-returns-in-Err
repeat-returns-in-Err g t c =
    let p = map numbered_top c.args.scope.now.items.now in
    let l = c.args.repeated.now in
    c.each.invariant.follows _ _ _ (repeat_trap c.args.scope.now.bound p (test_of l) l.counts (numbered_stmts l.body.now) (next_of l) c.each.m c.each.m _ (sunk (g.K.Sink.held c.args.out.now) (g.K.Sink.faults c.args.out.now)) c.each.left c.in-Err.trap (sym c.in-Err.ensures))

pub repeat-returns-in-Ok-false : goal.repeat-returns-in-Ok-false
repeat-returns-in-Ok-false g t c =
    let p = map numbered_top c.args.scope.now.items.now in
    let l = c.args.repeated.now in
    c.each.invariant.follows _ _ _ (repeat_ends c.args.scope.now.bound p (test_of l) l.counts (numbered_stmts l.body.now) (next_of l) c.each.m c.each.m _ (sunk (g.K.Sink.held c.args.out.now) (g.K.Sink.faults c.args.out.now)) c.each.left (sym c.in-Ok-false.ensures ∙ ap Ok c.in-Ok-false.field-0-test))

pub repeat-returns-then-left-eq0 : goal.repeat-returns-then-left-eq0
repeat-returns-then-left-eq0 g t c =
    let p = map numbered_top c.args.scope.now.items.now in
    let l = c.args.repeated.now in
    c.each.invariant.follows _ _ _ (repeat_cut c.args.scope.now.bound p (test_of l) l.counts (numbered_stmts l.body.now) (next_of l) c.each.m c.each.m _ (sunk (g.K.Sink.held c.args.out.now) (g.K.Sink.faults c.args.out.now)) c.each.left c.if-left-eq0.true (sym c.in-Ok-true.ensures ∙ ap Ok c.in-Ok-true.field-0-test))

pub repeat-run_turn-requires : goal.repeat-run_turn-requires
repeat-run_turn-requires g t c =
    λ κs sub. (omega arith, (sub, (c.requires.known, c.requires.runnable)))

pub repeat-returns-in_err-end : goal.repeat-returns-in_err-end
repeat-returns-in_err-end g t c =
    let p = map numbered_top c.args.scope.now.items.now in
    let l = c.args.repeated.now in
    let some : 0 < c.each.left = omega arith in
    let holds = sym c.in-Ok-true.ensures ∙ ap Ok c.in-Ok-true.field-0-test in
    let q = err_from_is_err_and c.from_residual.result c.from_residual.ensures.1 in
    ran_fault c.from_residual.result c.in_err-end.field-0.0 q.0 q.1 q.2 (c.each.invariant.follows _ _ _ (repeat_fail c.args.scope.now.bound p (test_of l) l.counts (numbered_stmts l.body.now) (next_of l) c.each.m c.run_turn.new.m _ _ c.each.left some holds _ c.in_err-end.ensures))

pub repeat-each-preserved : goal.repeat-each-preserved
repeat-each-preserved g t c =
    let p = map numbered_top c.args.scope.now.items.now in
    let l = c.args.repeated.now in
    let some : 0 < c.each.left = omega arith in
    let holds = sym c.in-Ok-true.ensures ∙ ap Ok c.in-Ok-true.field-0-test in
    leads_on _ _ _ _ _ _ _ _ _ c.each.invariant (repeat_next c.args.scope.now.bound p (test_of l) l.counts (numbered_stmts l.body.now) (next_of l) c.each.m c.run_turn.new.m _ _ c.each.left some holds (ran_next c.in_ok-end.end c.in-Next.is c.in_ok-end.ensures))

pub repeat-returns-in_default : goal.repeat-returns-in_default
repeat-returns-in_default g t c =
    let p = map numbered_top c.args.scope.now.items.now in
    let l = c.args.repeated.now in
    let some : 0 < c.each.left = omega arith in
    let holds = sym c.in-Ok-true.ensures ∙ ap Ok c.in-Ok-true.field-0-test in
    c.each.invariant.follows _ _ _ (repeat_stop c.args.scope.now.bound p (test_of l) l.counts (numbered_stmts l.body.now) (next_of l) c.each.m c.run_turn.new.m _ _ c.each.left some holds c.in_ok-end.end c.in_default.not-Next c.in_ok-end.ensures)

pub repeat_after-returns-then-scope-eq0 : goal.repeat_after-returns-then-scope-eq0
repeat_after-returns-then-scope-eq0 g t c =
    let n = c.args.scope.now.bound in
    let p = map numbered_top c.args.scope.now.items.now in
    let l = c.args.repeated.now in
    after_cut n p (test_of l) l.counts (numbered_stmts l.body.now) (next_of l) c.args.m.now c.args.m.now _ (sunk (g.K.Sink.held c.args.out.now) (g.K.Sink.faults c.args.out.now)) n c.if-scope-eq0.true

pub repeat_after-run_turn-requires : goal.repeat_after-run_turn-requires
repeat_after-run_turn-requires g t c =
    λ κs sub. (omega arith, (sub, (c.requires.known, c.requires.runnable)))

pub repeat_after-returns-in_err-end : goal.repeat_after-returns-in_err-end
repeat_after-returns-in_err-end g t c =
    let n = c.args.scope.now.bound in
    let p = map numbered_top c.args.scope.now.items.now in
    let l = c.args.repeated.now in
    let some : 0 < c.args.scope.now.bound = omega arith in
    let q = err_from_is_err_and c.from_residual.result c.from_residual.ensures.1 in
    ran_fault c.from_residual.result c.in_err-end.field-0.0 q.0 q.1 q.2 (after_fail n p (test_of l) l.counts (numbered_stmts l.body.now) (next_of l) c.args.m.now c.run_turn.new.m _ _ n some _ c.in_err-end.ensures)

pub repeat_after-repeat-requires : goal.repeat_after-repeat-requires
repeat_after-repeat-requires g t c =
    λ κs sub. (omega arith, (sub, (c.requires.known, c.requires.runnable)))

pub repeat_after-returns-in-Next : goal.repeat_after-returns-in-Next
repeat_after-returns-in-Next g t c =
    let n = c.args.scope.now.bound in
    let p = map numbered_top c.args.scope.now.items.now in
    let l = c.args.repeated.now in
    let some : 0 < c.args.scope.now.bound = omega arith in
    (after_next n p (test_of l) l.counts (numbered_stmts l.body.now) (next_of l) c.args.m.now c.run_turn.new.m _ _ n some (ran_next c.in_ok-end.end c.in-Next.is c.in_ok-end.ensures)).follows _ _ _ c.repeat.ensures

pub repeat_after-returns-in_default : goal.repeat_after-returns-in_default
repeat_after-returns-in_default g t c =
    let n = c.args.scope.now.bound in
    let p = map numbered_top c.args.scope.now.items.now in
    let l = c.args.repeated.now in
    let some : 0 < c.args.scope.now.bound = omega arith in
    after_stop n p (test_of l) l.counts (numbered_stmts l.body.now) (next_of l) c.args.m.now c.run_turn.new.m _ _ n some c.in_ok-end.end c.in_default.not-Next c.in_ok-end.ensures

pub run_turn-run_block-requires : goal.run_turn-run_block-requires
run_turn-run_block-requires g t c =
    λ κs sub. (omega arith, (sub, (c.requires.known, c.requires.runnable.body)))

pub run_turn-returns-in_err-run_block : goal.run_turn-returns-in_err-run_block
run_turn-returns-in_err-run_block g t c =
    let p = map numbered_top c.args.scope.now.items.now in
    let l = c.args.repeated.now in
    let q = err_from_is_err_and c.from_residual.result c.from_residual.ensures.1 in
    ran_fault c.from_residual.result c.in_err-run_block.field-0.0 q.0 q.1 q.2 (turn_plain_fails c.args.scope.now.bound p (numbered_stmts l.body.now) (next_of l) l.counts c.args.m.now c.run_block.new.m _ _ c.if-not-repeated.true _ c.in_err-run_block.ensures)

pub run_turn-returns-then-not-repeated : goal.run_turn-returns-then-not-repeated
run_turn-returns-then-not-repeated g t c =
    let p = map numbered_top c.args.scope.now.items.now in
    let l = c.args.repeated.now in
    turn_plain c.args.scope.now.bound p (numbered_stmts l.body.now) (next_of l) l.counts c.args.m.now c.run_block.new.m _ _ c.if-not-repeated.true c.in_ok-run_block.field-0 c.turn_end.result c.turn_end.ensures c.in_ok-run_block.ensures

pub run_turn-run_block-requires-2 : goal.run_turn-run_block-requires-2
run_turn-run_block-requires-2 g t c =
    λ κs sub. (omega arith, (sub, (c.requires.known, c.requires.runnable.body)))

pub run_turn-returns-in_err-run_block-2 : goal.run_turn-returns-in_err-run_block-2
run_turn-returns-in_err-run_block-2 g t c =
    let p = map numbered_top c.args.scope.now.items.now in
    let l = c.args.repeated.now in
    let q = err_from_is_err_and c.from_residual-in_err-run_block-2.result c.from_residual-in_err-run_block-2.ensures.1 in
    ran_fault c.from_residual-in_err-run_block-2.result c.in_err-run_block-2.field-0.0 q.0 q.1 q.2 (turn_fails c.args.scope.now.bound p (numbered_stmts l.body.now) (next_of l) l.counts c.args.m.now c.run_block-2.new.m _ _ c.if-not-repeated.false _ (ran_from c.count_turn.new.self c.count_turn.ensures c.in_err-run_block-2.ensures))

pub run_turn-run_part-requires : goal.run_turn-run_part-requires
run_turn-run_part-requires g t c =
    λ κs sub. (omega arith, (sub, (c.requires.known, c.requires.runnable.next)))

pub run_turn-returns-in-Next : goal.run_turn-returns-in-Next
run_turn-returns-in-Next g t c =
    let p = map numbered_top c.args.scope.now.items.now in
    let l = c.args.repeated.now in
    (turn_goes c.args.scope.now.bound p (numbered_stmts l.body.now) (next_of l) l.counts c.args.m.now c.run_block-2.new.m _ _ c.if-not-repeated.false c.in_ok-run_block-2.field-0 (sym (ap end_of c.in-Next.is) ∙ c.turn_end-2.ensures) (ran_from c.count_turn.new.self c.count_turn.ensures c.in_ok-run_block-2.ensures)).follows _ _ _ c.run_part.ensures

pub run_turn-returns-in_default : goal.run_turn-returns-in_default
run_turn-returns-in_default g t c =
    let p = map numbered_top c.args.scope.now.items.now in
    let l = c.args.repeated.now in
    turn_stops c.args.scope.now.bound p (numbered_stmts l.body.now) (next_of l) l.counts c.args.m.now c.run_block-2.new.m _ _ c.if-not-repeated.false c.in_ok-run_block-2.field-0 c.turn_end-2.result c.turn_end-2.ensures c.in_default.not-Next (ran_from c.count_turn.new.self c.count_turn.ensures c.in_ok-run_block-2.ensures)

-- ---- blocks

pub run_block-run_stmts-requires : goal.run_block-run_stmts-requires
run_block-run_stmts-requires g t c =
    λ κs sub. (omega (arith, ap (λ (xs : List Stmt). stmts_size (numbered_stmts xs)) c.as_slice.ensures), (sub, (c.requires.known, subst (λ (xs : List Stmt). RunnableStmts (numbered_stmts xs)) (sym c.as_slice.ensures) c.requires.runnable)))

pub run_block-returns-in_err-end : goal.run_block-returns-in_err-end
run_block-returns-in_err-end g t c =
    let p = map numbered_top c.args.scope.now.items.now in
    let q = err_from_is_err_and c.from_residual.result c.from_residual.ensures.1 in
    ran_fault c.from_residual.result c.in_err-end.field-0.0 q.0 q.1 q.2 (block_faults c.args.scope.now.bound p c.as_slice.result.now c.args.body.now c.as_slice.ensures _ _ _ _ _ c.in_err-end.ensures)

pub run_block-returns : goal.run_block-returns
run_block-returns g t c =
    let p = map numbered_top c.args.scope.now.items.now in
    block_runs c.args.scope.now.bound p c.as_slice.result.now c.args.body.now c.as_slice.ensures _ c.run_stmts.new.m _ _ _ c.frame_len-len.result c.frame_len-len.ensures c.keep.ensures _ c.in_ok-end.ensures

-- ---- `for`

pub run_for-run_head-requires : goal.run_for-run_head-requires
run_for-run_head-requires g t c =
    let h = c.args.head.now in
    let is = head_is h (option_copied c.head_part-2.result) (option_copied c.as_ref.result) (option_copied c.head_part.result) c.head_part-2.ensures c.as_ref.ensures.value c.head_part.ensures in
    let parts = subst (λ (k : b.Head). RunnableHead k) is c.requires.runnable.0 in
    λ κs sub. (omega (arith, ap head_size is), (sub, (c.requires.known, (parts.0, record { test = parts.1; body = c.requires.runnable.1; next = parts.2 }))))

pub run_for-returns-in_err-end : goal.run_for-returns-in_err-end
run_for-returns-in_err-end g t c =
    let p = map numbered_top c.args.scope.now.items.now in
    let h = c.args.head.now in
    let is = head_is h (option_copied c.head_part-2.result) (option_copied c.as_ref.result) (option_copied c.head_part.result) c.head_part-2.ensures c.as_ref.ensures.value c.head_part.ensures in
    let l : Loop = record { test = c.as_ref.result; body = c.args.body; counts = true; next = c.head_part.result } in
    let i = maybe_stmt (option_map numbered_stmt (option_copied c.head_part-2.result)) in
    let q = err_from_is_err_and c.from_residual.result c.from_residual.ensures.1 in
    ran_fault c.from_residual.result c.in_err-end.field-0.0 q.0 q.1 q.2 (for_runs c.args.scope.now.bound p i l c.args.m.now c.run_head.new.m _ _ (numbered_head h) is refl (Err c.in_err-end.field-0.0) (block_fails _ c.args.m.now c.run_head.new.m _ _ _ _ c.in_err-end.ensures))

pub run_for-returns : goal.run_for-returns
run_for-returns g t c =
    let p = map numbered_top c.args.scope.now.items.now in
    let h = c.args.head.now in
    let is = head_is h (option_copied c.head_part-2.result) (option_copied c.as_ref.result) (option_copied c.head_part.result) c.head_part-2.ensures c.as_ref.ensures.value c.head_part.ensures in
    let l : Loop = record { test = c.as_ref.result; body = c.args.body; counts = true; next = c.head_part.result } in
    let i = maybe_stmt (option_map numbered_stmt (option_copied c.head_part-2.result)) in
    for_runs c.args.scope.now.bound p i l c.args.m.now c.keep.new.self _ _ (numbered_head h) is refl (Ok c.in_ok-end.end) (left_ends _ c.args.m.now c.run_head.new.m c.keep.new.self _ _ c.frame_len-len.result c.frame_len-len.ensures c.keep.ensures c.in_ok-end.end c.in_ok-end.ensures)

pub run_head-run_part-requires : goal.run_head-run_part-requires
run_head-run_part-requires g t c = λ κs sub. (omega arith, (sub, (c.requires.known, c.requires.begin)))

pub run_head-returns-in_err-end : goal.run_head-returns-in_err-end
run_head-returns-in_err-end g t c =
    let p = map numbered_top c.args.scope.now.items.now in
    let i = maybe_stmt (option_map numbered_stmt (option_copied c.args.init)) in
    let l = c.args.repeated.now in
    let q = err_from_is_err_and c.from_residual.result c.from_residual.ensures.1 in
    ran_fault c.from_residual.result c.in_err-end.field-0.0 q.0 q.1 q.2 (head_fails c.args.scope.now.bound p i l c.args.m.now c.run_part.new.m _ _ _ c.in_err-end.ensures)

pub run_head-repeat-requires : goal.run_head-repeat-requires
run_head-repeat-requires g t c =
    λ κs sub. (omega arith, (sub, (c.requires.known, c.requires.runnable)))

pub run_head-returns-in_err-repeat-in-Next : goal.run_head-returns-in_err-repeat-in-Next
run_head-returns-in_err-repeat-in-Next g t c =
    let p = map numbered_top c.args.scope.now.items.now in
    let i = maybe_stmt (option_map numbered_stmt (option_copied c.args.init)) in
    let l = c.args.repeated.now in
    let begun = ran_next c.in_ok-end.end c.in-Next.is c.in_ok-end.ensures in
    let q = err_from_is_err_and c.from_residual-in_err-repeat-in-Next.result c.from_residual-in_err-repeat-in-Next.ensures.1 in
    ran_fault c.from_residual-in_err-repeat-in-Next.result c.in_err-repeat-in-Next.field-0.0 q.0 q.1 q.2 (head_goes_on c.args.scope.now.bound p i l c.args.m.now c.run_part.new.m c.repeat.new.m _ _ _ begun _ c.in_err-repeat-in-Next.ensures)

pub run_head-returns-in_ok-repeat-in-Next : goal.run_head-returns-in_ok-repeat-in-Next
run_head-returns-in_ok-repeat-in-Next g t c =
    let p = map numbered_top c.args.scope.now.items.now in
    let i = maybe_stmt (option_map numbered_stmt (option_copied c.args.init)) in
    let l = c.args.repeated.now in
    let begun = ran_next c.in_ok-end.end c.in-Next.is c.in_ok-end.ensures in
    head_goes c.args.scope.now.bound p i l c.args.m.now c.run_part.new.m c.repeat.new.m _ _ _ begun c.in_ok-repeat-in-Next.field-0 c.loop_end.result c.loop_end.ensures c.in_ok-repeat-in-Next.ensures

pub run_head-returns-in_default : goal.run_head-returns-in_default
run_head-returns-in_default g t c =
    let p = map numbered_top c.args.scope.now.items.now in
    let i = maybe_stmt (option_map numbered_stmt (option_copied c.args.init)) in
    let l = c.args.repeated.now in
    head_stops c.args.scope.now.bound p i l c.args.m.now c.run_part.new.m _ _ c.in_ok-end.end c.in_default.not-Next c.in_ok-end.ensures

pub run_part-run_stmt-requires : goal.run_part-run_stmt-requires
run_part-run_stmt-requires g t c =
    let is = ap option_copied c.in-Some.is in
    λ κs sub. (omega (arith, ap (λ (a : Option Stmt). part_size (maybe_stmt (option_map numbered_stmt a))) is), (sub, (c.requires.known, subst (λ (a : Option Stmt). RunnablePart (maybe_stmt (option_map numbered_stmt a))) is c.requires.runnable)))

pub run_part-returns-in-None : goal.run_part-returns-in-None
run_part-returns-in-None g t c =
    let p = map numbered_top c.args.scope.now.items.now in
    part_skips c.args.scope.now.bound p (option_copied c.args.part) _ _ (ap option_copied c.in-None.is)

pub run_part-returns-in-Some : goal.run_part-returns-in-Some
run_part-returns-in-Some g t c =
    let p = map numbered_top c.args.scope.now.items.now in
    let is = ap option_copied c.in-Some.is in
    part_runs c.args.scope.now.bound p (option_copied c.args.part) c.in-Some.stmt.now _ _ _ _ _ is c.run_stmt.ensures

-- ---- `if`

pub run_if-holds-requires-clause-well_formed : goal.run_if-holds-requires-clause-well_formed
run_if-holds-requires-clause-well_formed g t c =
    let e = numbered_expr c.args.test.now in
    let a = numbered_stmts c.args.yes.now in
    let d = option_map numbered_stmts c.args.no.now in
    choice_test e a d c.requires.runnable

pub run_if-run_block-requires : goal.run_if-run_block-requires
run_if-run_block-requires g t c =
    let e = numbered_expr c.args.test.now in
    let a = numbered_stmts c.args.yes.now in
    let d = option_map numbered_stmts c.args.no.now in
    λ κs sub. (omega (arith, yes_smaller e a d), (sub, (c.requires.known, choice_yes e a d c.requires.runnable)))

pub run_if-run_block-requires-in-Some : goal.run_if-run_block-requires-in-Some
run_if-run_block-requires-in-Some g t c =
    let e = numbered_expr c.args.test.now in
    let a = numbered_stmts c.args.yes.now in
    let d = option_map numbered_stmts c.args.no.now in
    let is = ap (option_map numbered_stmts) c.in-Some.is in
    λ κs sub. (omega (arith, no_smaller e a d (numbered_stmts c.in-Some.no) is), (sub, (c.requires.known, choice_no e a d (numbered_stmts c.in-Some.no) is c.requires.runnable)))

pub run_if-returns-in-Err : goal.run_if-returns-in-Err
run_if-returns-in-Err g t c =
    let p = map numbered_top c.args.scope.now.items.now in
    let e = numbered_expr c.args.test.now in
    let a = numbered_stmts c.args.yes.now in
    let d = option_map numbered_stmts c.args.no.now in
    if_traps c.args.scope.now.bound p e a d c.args.m.now c.args.m.now _ (sunk (g.K.Sink.held c.args.out.now) (g.K.Sink.faults c.args.out.now)) c.in-Err.trap c.in-Err.ensures

pub run_if-returns-in-Ok-true : goal.run_if-returns-in-Ok-true
run_if-returns-in-Ok-true g t c =
    let p = map numbered_top c.args.scope.now.items.now in
    let e = numbered_expr c.args.test.now in
    let a = numbered_stmts c.args.yes.now in
    let d = option_map numbered_stmts c.args.no.now in
    if_holds c.args.scope.now.bound p e a d _ _ _ _ _ (ap Ok (sym c.in-Ok-true.field-0-test) ∙ c.in-Ok-true.ensures) c.run_block.ensures

pub run_if-returns-in-Some : goal.run_if-returns-in-Some
run_if-returns-in-Some g t c =
    let p = map numbered_top c.args.scope.now.items.now in
    let e = numbered_expr c.args.test.now in
    let a = numbered_stmts c.args.yes.now in
    let d = option_map numbered_stmts c.args.no.now in
    else_runs c.args.scope.now.bound p e a d _ _ _ _ _ (numbered_stmts c.in-Some.no) (ap (option_map numbered_stmts) c.in-Some.is) (ap Ok (sym c.in-Ok-false.field-0-test) ∙ c.in-Ok-false.ensures) c.run_block-in-Some.ensures

pub run_if-returns-in-None : goal.run_if-returns-in-None
run_if-returns-in-None g t c =
    let p = map numbered_top c.args.scope.now.items.now in
    let e = numbered_expr c.args.test.now in
    let a = numbered_stmts c.args.yes.now in
    let d = option_map numbered_stmts c.args.no.now in
    if_skips c.args.scope.now.bound p e a d _ _ (ap (option_map numbered_stmts) c.in-None.is) (ap Ok (sym c.in-Ok-false.field-0-test) ∙ c.in-Ok-false.ensures)

-- ---- lists

pub run_stmts-each-init : goal.run_stmts-each-init
run_stmts-each-init g t c = leads_same _ _ _

pub run_stmts-run_stmt-requires : goal.run_stmts-run_stmt-requires
run_stmts-run_stmt-requires g t c =
    let xs = c.args.stmts.now in
    let i = c.each.stmt-index in
    let x = c.stmt-item.result in
    λ κs sub. (omega (arith, smaller_at xs i x c.each-test.true c.stmt-item.is), (sub, (c.requires.known, runnable_at xs i x c.each-test.true c.stmt-item.is c.requires.runnable)))

pub run_stmts-returns-in_err-end : goal.run_stmts-returns-in_err-end
run_stmts-returns-in_err-end g t c =
    let p = map numbered_top c.args.scope.now.items.now in
    let xs = c.args.stmts.now in
    let i = c.each.stmt-index in
    let x = c.stmt-item.result in
    let q = err_from_is_err_and c.from_residual.result c.from_residual.ensures.1 in
    ran_fault c.from_residual.result c.in_err-end.field-0.0 q.0 q.1 q.2 (c.each.invariant.follows _ _ _ (stmts_fail c.args.scope.now.bound p xs i c.each.m c.run_stmt.new.m _ _ x c.each-test.true c.stmt-item.is _ c.in_err-end.ensures))

pub run_stmts-returns-in_default : goal.run_stmts-returns-in_default
run_stmts-returns-in_default g t c =
    let p = map numbered_top c.args.scope.now.items.now in
    let xs = c.args.stmts.now in
    let i = c.each.stmt-index in
    let x = c.stmt-item.result in
    c.each.invariant.follows _ _ _ (stmts_stop c.args.scope.now.bound p xs i c.each.m c.run_stmt.new.m _ _ x c.each-test.true c.stmt-item.is c.in_ok-end.end c.in_default.not-Next c.in_ok-end.ensures)

pub run_stmts-each-preserved : goal.run_stmts-each-preserved
run_stmts-each-preserved g t c =
    let p = map numbered_top c.args.scope.now.items.now in
    let xs = c.args.stmts.now in
    let i = c.each.stmt-index in
    let x = c.stmt-item.result in
    leads_on _ _ _ _ _ _ _ _ _ c.each.invariant (stmts_next c.args.scope.now.bound p xs i c.each.m c.run_stmt.new.m _ _ x c.each-test.true c.stmt-item.is (ran_next c.in_ok-end.end c.in-Next.is c.in_ok-end.ensures))

pub run_stmts-returns : goal.run_stmts-returns
run_stmts-returns g t c =
    let p = map numbered_top c.args.scope.now.items.now in
    c.each.invariant.follows _ _ _ (stmts_done c.args.scope.now.bound p c.args.stmts.now c.each.stmt-index c.each.m c.each.m _ (sunk (g.K.Sink.held c.args.out.now) (g.K.Sink.faults c.args.out.now)) c.each-test.false)

-- ---- one statement

pub run_stmt-declare-requires-clause-well_formed : goal.run_stmt-declare-requires-clause-well_formed
run_stmt-declare-requires-clause-well_formed g t c =
    let is = bare_decl c.args.stmt.now c.in-Decl.ty c.in-Decl.name c.in-Decl.init c.in-Decl.is in
    let fits = subst (λ (a : b.Stmt). RunnableStmt a) is c.requires.runnable in
    fits

pub run_stmt-set_to-requires-clause-target : goal.run_stmt-set_to-requires-clause-target
run_stmt-set_to-requires-clause-target g t c =
    let is = bare_set c.args.stmt.now c.in-Set.target c.in-Set.op c.in-Set.value c.in-Set.is in
    let fits = subst (λ (a : b.Stmt). RunnableStmt a) is c.requires.runnable in
    fits.0

pub run_stmt-set_to-requires-clause-well_formed : goal.run_stmt-set_to-requires-clause-well_formed
run_stmt-set_to-requires-clause-well_formed g t c =
    let is = bare_set c.args.stmt.now c.in-Set.target c.in-Set.op c.in-Set.value c.in-Set.is in
    let fits = subst (λ (a : b.Stmt). RunnableStmt a) is c.requires.runnable in
    fits.1

pub run_stmt-step_by-requires-clause-target : goal.run_stmt-step_by-requires-clause-target
run_stmt-step_by-requires-clause-target g t c =
    let is = bare_step c.args.stmt.now c.in-Step.target c.in-Step.up c.in-Step.is in
    let fits = subst (λ (a : b.Stmt). RunnableStmt a) is c.requires.runnable in
    fits

pub run_stmt-print-requires-clause-well_formed : goal.run_stmt-print-requires-clause-well_formed
run_stmt-print-requires-clause-well_formed g t c =
    let is = bare_print c.args.stmt.now c.in-Print.value c.in-Print.is in
    let fits = subst (λ (a : b.Stmt). RunnableStmt a) is c.requires.runnable in
    fits

pub run_stmt-take_input-requires-clause-target : goal.run_stmt-take_input-requires-clause-target
run_stmt-take_input-requires-clause-target g t c =
    let is = bare_input c.args.stmt.now c.in-Input.target c.in-Input.is in
    let fits = subst (λ (a : b.Stmt). RunnableStmt a) is c.requires.runnable in
    fits

pub run_stmt-run_if-requires : goal.run_stmt-run_if-requires
run_stmt-run_if-requires g t c =
    let is = bare_choice c.args.stmt.now c.in-If.test c.in-If.yes c.in-If.no c.in-If.is in
    let fits = subst (λ (a : b.Stmt). RunnableStmt a) is c.requires.runnable in
    λ κs sub. (omega (arith, ap stmt_size is), (sub, (c.requires.known, fits)))

pub run_stmt-repeat-requires : goal.run_stmt-repeat-requires
run_stmt-repeat-requires g t c =
    let is = bare_while c.args.stmt.now c.in-While.test c.in-While.body c.in-While.is in
    let fits = subst (λ (a : b.Stmt). RunnableStmt a) is c.requires.runnable in
    λ κs sub. (omega (arith, ap stmt_size is), (sub, (c.requires.known, record { test = fits.0; body = fits.1; next = tt })))

pub run_stmt-repeat_after-requires : goal.run_stmt-repeat_after-requires
run_stmt-repeat_after-requires g t c =
    let is = bare_do c.args.stmt.now c.in-Do.body c.in-Do.test c.in-Do.is in
    let fits = subst (λ (a : b.Stmt). RunnableStmt a) is c.requires.runnable in
    λ κs sub. (omega (arith, ap stmt_size is), (sub, (c.requires.known, record { test = fits.1; body = fits.0; next = tt })))

pub run_stmt-run_for-requires : goal.run_stmt-run_for-requires
run_stmt-run_for-requires g t c =
    let is = bare_for c.args.stmt.now c.in-For.head c.in-For.body c.in-For.is in
    let fits = subst (λ (a : b.Stmt). RunnableStmt a) is c.requires.runnable in
    λ κs sub. (omega (arith, ap stmt_size is), (sub, (c.requires.known, fits)))

pub run_stmt-run_block-requires : goal.run_stmt-run_block-requires
run_stmt-run_block-requires g t c =
    let is = bare_block c.args.stmt.now c.in-Block.body c.in-Block.is in
    let fits = subst (λ (a : b.Stmt). RunnableStmt a) is c.requires.runnable in
    λ κs sub. (omega (arith, ap stmt_size is), (sub, (c.requires.known, fits)))

pub run_stmt-call-requires : goal.run_stmt-call-requires
run_stmt-call-requires g t c =
    let is = bare_call c.args.stmt.now c.in-Call.name c.in-Call.args c.in-Call.is in
    let fits = subst (λ (a : b.Stmt). RunnableStmt a) is c.requires.runnable in
    λ κs sub. (omega (arith, ap stmt_size is), (sub, (c.requires.known, fits)))

pub run_stmt-returns-in-Decl : goal.run_stmt-returns-in-Decl
run_stmt-returns-in-Decl g t c =
    let n = c.args.scope.now.bound in
    let p = map numbered_top c.args.scope.now.items.now in
    let is = bare_decl c.args.stmt.now c.in-Decl.ty c.in-Decl.name c.in-Decl.init c.in-Decl.is in
    run_as n p (numbered_stmt c.args.stmt.now) _ _ _ _ _ _ is (decl_runs n p _ _ _ c.in-Decl.ty (number_name c.in-Decl.name) (option_map numbered_expr c.in-Decl.init) _ c.declare.ensures.run c.declare.ensures.turns c.declare.ensures.fault)

pub run_stmt-returns-in-Set : goal.run_stmt-returns-in-Set
run_stmt-returns-in-Set g t c =
    let n = c.args.scope.now.bound in
    let p = map numbered_top c.args.scope.now.items.now in
    let is = bare_set c.args.stmt.now c.in-Set.target c.in-Set.op c.in-Set.value c.in-Set.is in
    run_as n p (numbered_stmt c.args.stmt.now) _ _ _ _ _ _ is (set_runs n p _ _ _ (numbered_target c.in-Set.target) c.in-Set.op (numbered_expr c.in-Set.value) _ c.set_to.ensures.run c.set_to.ensures.turns)

pub run_stmt-returns-in-Step : goal.run_stmt-returns-in-Step
run_stmt-returns-in-Step g t c =
    let n = c.args.scope.now.bound in
    let p = map numbered_top c.args.scope.now.items.now in
    let is = bare_step c.args.stmt.now c.in-Step.target c.in-Step.up c.in-Step.is in
    run_as n p (numbered_stmt c.args.stmt.now) _ _ _ _ _ _ is (step_runs n p _ _ _ (numbered_target c.in-Step.target) c.in-Step.up _ c.step_by.ensures.run c.step_by.ensures.turns)

pub run_stmt-returns-in-Print : goal.run_stmt-returns-in-Print
run_stmt-returns-in-Print g t c =
    let p = map numbered_top c.args.scope.now.items.now in
    let is = bare_print c.args.stmt.now c.in-Print.value c.in-Print.is in
    run_as c.args.scope.now.bound p (numbered_stmt c.args.stmt.now) _ _ _ _ _ _ is (c.print.ensures)

pub run_stmt-returns-in-Input : goal.run_stmt-returns-in-Input
run_stmt-returns-in-Input g t c =
    let n = c.args.scope.now.bound in
    let p = map numbered_top c.args.scope.now.items.now in
    let is = bare_input c.args.stmt.now c.in-Input.target c.in-Input.is in
    run_as n p (numbered_stmt c.args.stmt.now) _ _ _ _ _ _ is (input_runs n p _ _ _ (numbered_target c.in-Input.target) _ c.take_input.ensures.run c.take_input.ensures.turns)

pub run_stmt-returns-in-If : goal.run_stmt-returns-in-If
run_stmt-returns-in-If g t c =
    let p = map numbered_top c.args.scope.now.items.now in
    let is = bare_choice c.args.stmt.now c.in-If.test c.in-If.yes c.in-If.no c.in-If.is in
    run_as c.args.scope.now.bound p (numbered_stmt c.args.stmt.now) _ _ _ _ _ _ is (c.run_if.ensures)

pub run_stmt-returns-in_err-repeat-in-While : goal.run_stmt-returns-in_err-repeat-in-While
run_stmt-returns-in_err-repeat-in-While g t c =
    let n = c.args.scope.now.bound in
    let p = map numbered_top c.args.scope.now.items.now in
    let is = bare_while c.args.stmt.now c.in-While.test c.in-While.body c.in-While.is in
    let e = numbered_expr c.in-While.test in
    let a = numbered_stmts c.in-While.body in
    let q = err_from_is_err_and c.from_residual.result c.from_residual.ensures.1 in
    ran_fault c.from_residual.result c.in_err-repeat-in-While.field-0.0 q.0 q.1 q.2 (run_as n p (numbered_stmt c.args.stmt.now) _ _ _ _ _ _ is (while_fails n p e a _ _ _ _ _ c.in_err-repeat-in-While.ensures))

pub run_stmt-returns-in_ok-repeat-in-While : goal.run_stmt-returns-in_ok-repeat-in-While
run_stmt-returns-in_ok-repeat-in-While g t c =
    let n = c.args.scope.now.bound in
    let p = map numbered_top c.args.scope.now.items.now in
    let is = bare_while c.args.stmt.now c.in-While.test c.in-While.body c.in-While.is in
    let e = numbered_expr c.in-While.test in
    let a = numbered_stmts c.in-While.body in
    run_as n p (numbered_stmt c.args.stmt.now) _ _ _ _ _ _ is (while_ends n p e a _ _ _ _ c.in_ok-repeat-in-While.field-0 c.loop_end.result c.loop_end.ensures c.in_ok-repeat-in-While.ensures)

pub run_stmt-returns-in_err-repeat_after-in-Do : goal.run_stmt-returns-in_err-repeat_after-in-Do
run_stmt-returns-in_err-repeat_after-in-Do g t c =
    let n = c.args.scope.now.bound in
    let p = map numbered_top c.args.scope.now.items.now in
    let is = bare_do c.args.stmt.now c.in-Do.body c.in-Do.test c.in-Do.is in
    let e = numbered_expr c.in-Do.test in
    let a = numbered_stmts c.in-Do.body in
    let q = err_from_is_err_and c.from_residual-in_err-repeat_after-in-Do.result c.from_residual-in_err-repeat_after-in-Do.ensures.1 in
    ran_fault c.from_residual-in_err-repeat_after-in-Do.result c.in_err-repeat_after-in-Do.field-0.0 q.0 q.1 q.2 (run_as n p (numbered_stmt c.args.stmt.now) _ _ _ _ _ _ is (do_fails n p e a _ _ _ _ _ c.in_err-repeat_after-in-Do.ensures))

pub run_stmt-returns-in_ok-repeat_after-in-Do : goal.run_stmt-returns-in_ok-repeat_after-in-Do
run_stmt-returns-in_ok-repeat_after-in-Do g t c =
    let n = c.args.scope.now.bound in
    let p = map numbered_top c.args.scope.now.items.now in
    let is = bare_do c.args.stmt.now c.in-Do.body c.in-Do.test c.in-Do.is in
    let e = numbered_expr c.in-Do.test in
    let a = numbered_stmts c.in-Do.body in
    run_as n p (numbered_stmt c.args.stmt.now) _ _ _ _ _ _ is (do_ends n p e a _ _ _ _ c.in_ok-repeat_after-in-Do.field-0 c.loop_end-in-Do.result c.loop_end-in-Do.ensures c.in_ok-repeat_after-in-Do.ensures)

pub run_stmt-returns-in-For : goal.run_stmt-returns-in-For
run_stmt-returns-in-For g t c =
    let p = map numbered_top c.args.scope.now.items.now in
    let is = bare_for c.args.stmt.now c.in-For.head c.in-For.body c.in-For.is in
    run_as c.args.scope.now.bound p (numbered_stmt c.args.stmt.now) _ _ _ _ _ _ is (c.run_for.ensures)

pub run_stmt-returns-in-Block : goal.run_stmt-returns-in-Block
run_stmt-returns-in-Block g t c =
    let p = map numbered_top c.args.scope.now.items.now in
    let is = bare_block c.args.stmt.now c.in-Block.body c.in-Block.is in
    run_as c.args.scope.now.bound p (numbered_stmt c.args.stmt.now) _ _ _ _ _ _ is (c.run_block.ensures)

pub run_stmt-returns-in-Break : goal.run_stmt-returns-in-Break
run_stmt-returns-in-Break g t c =
    let p = map numbered_top c.args.scope.now.items.now in
    let is = bare_break c.args.stmt.now c.in-Break.is in
    run_as c.args.scope.now.bound p (numbered_stmt c.args.stmt.now) _ _ _ _ _ _ is (ran_ends _ _ _)

pub run_stmt-returns-in-Continue : goal.run_stmt-returns-in-Continue
run_stmt-returns-in-Continue g t c =
    let p = map numbered_top c.args.scope.now.items.now in
    let is = bare_continue c.args.stmt.now c.in-Continue.is in
    run_as c.args.scope.now.bound p (numbered_stmt c.args.stmt.now) _ _ _ _ _ _ is (ran_ends _ _ _)

pub run_stmt-returns-in-Empty : goal.run_stmt-returns-in-Empty
run_stmt-returns-in-Empty g t c =
    let p = map numbered_top c.args.scope.now.items.now in
    let is = bare_empty c.args.stmt.now c.in-Empty.is in
    run_as c.args.scope.now.bound p (numbered_stmt c.args.stmt.now) _ _ _ _ _ _ is (ran_ends _ _ _)

pub run_stmt-returns-in-Call : goal.run_stmt-returns-in-Call
run_stmt-returns-in-Call g t c =
    let p = map numbered_top c.args.scope.now.items.now in
    let is = bare_call c.args.stmt.now c.in-Call.name c.in-Call.args c.in-Call.is in
    run_as c.args.scope.now.bound p (numbered_stmt c.args.stmt.now) _ _ _ _ _ _ is (c.call.ensures)
