use Rattle.std.proofs.lemmas.Result.{err_from_is_err_and}
use Rattle.c_parser.proofs.SimpleTaken.{fails_by}
use Rattle.c_tree.specs.Placed.{head}
use Rattle.c_grammar.specs.Goals.{at, init}
use Rattle.c_parser.specs.Heads.{test_part, next_part}
use Rattle.c_parser.proofs.HeadsTaken.{kept_head}
use Rattle.c_parser.proofs.heads.head.Goals as goal

pub returns-in_err-take : goal.returns-in_err-take
returns-in_err-take c =
    let p = err_from_is_err_and c.from_residual.result c.from_residual.ensures.1 in
    rw (p.1, p.2) (λ f. c.in_err-take.ensures _)

pub returns-in_err-init : goal.returns-in_err-init
returns-in_err-init c =
    let p = err_from_is_err_and c.from_residual-in_err-init.result c.from_residual-in_err-init.ensures.1 in
    rw (p.1, p.2) (λ f. fails_by _ _ c.args.cursor.now c.take.new.self c.in_err-init.field-0.0 (λ o h. c.in_ok-take.ensures _ o (c.place-init_at.ensures (λ i. init (λ s. at (λ j. test_part (λ e. at (λ n. next_part (λ m. f (head s i e j m n))))))) o h)) (c.in_err-init.ensures (λ s. at (λ j. test_part (λ e. at (λ n. next_part (λ m. f (head s c.place-init_at.result e j m n))))))))

pub returns-in_err-test : goal.returns-in_err-test
returns-in_err-test c =
    let p = err_from_is_err_and c.from_residual-in_err-test.result c.from_residual-in_err-test.ensures.1 in
    rw (p.1, p.2) (λ f. fails_by _ _ c.args.cursor.now c.init_part.new.cursor c.in_err-test.field-0.0 (λ o h. c.in_ok-take.ensures _ o (c.place-init_at.ensures (λ i. init (λ s. at (λ j. test_part (λ e. at (λ n. next_part (λ m. f (head s i e j m n))))))) o (c.in_ok-init.ensures.2 (λ s. at (λ j. test_part (λ e. at (λ n. next_part (λ m. f (head s c.place-init_at.result e j m n)))))) o (c.place-test_at.ensures (λ j. test_part (λ e. at (λ n. next_part (λ m. f (head c.in_ok-init.ensures.0 c.place-init_at.result e j m n))))) o h)))) (c.in_err-test.ensures (λ e. at (λ n. next_part (λ m. f (head c.in_ok-init.ensures.0 c.place-init_at.result e c.place-test_at.result m n))))))

pub returns-in_err-step : goal.returns-in_err-step
returns-in_err-step c =
    let p = err_from_is_err_and c.from_residual-in_err-step.result c.from_residual-in_err-step.ensures.1 in
    rw (p.1, p.2) (λ f. fails_by _ _ c.args.cursor.now c.test_part.new.cursor c.in_err-step.field-0.0 (λ o h. c.in_ok-take.ensures _ o (c.place-init_at.ensures (λ i. init (λ s. at (λ j. test_part (λ e. at (λ n. next_part (λ m. f (head s i e j m n))))))) o (c.in_ok-init.ensures.2 (λ s. at (λ j. test_part (λ e. at (λ n. next_part (λ m. f (head s c.place-init_at.result e j m n)))))) o (c.place-test_at.ensures (λ j. test_part (λ e. at (λ n. next_part (λ m. f (head c.in_ok-init.ensures.0 c.place-init_at.result e j m n))))) o (c.in_ok-test.ensures.2 (λ e. at (λ n. next_part (λ m. f (head c.in_ok-init.ensures.0 c.place-init_at.result e c.place-test_at.result m n)))) o (c.place-step_at.ensures (λ n. next_part (λ m. f (head c.in_ok-init.ensures.0 c.place-init_at.result c.in_ok-test.ensures.0 c.place-test_at.result m n))) o h)))))) (c.in_err-step.ensures (λ m. f (head c.in_ok-init.ensures.0 c.place-init_at.result c.in_ok-test.ensures.0 c.place-test_at.result m c.place-step_at.result))))

pub returns : goal.returns
returns c = (head c.in_ok-init.ensures.0 c.place-init_at.result c.in_ok-test.ensures.0 c.place-test_at.result c.in_ok-step.ensures.0 c.place-step_at.result, kept_head _ _ _ _ c.in_ok-init.ensures.0 c.in_ok-step.ensures.0 c.in_ok-test.ensures.0 c.place-init_at.result c.place-test_at.result c.place-step_at.result c.head_node.ensures c.in_ok-init.ensures.1 c.in_ok-test.ensures.1 c.in_ok-step.ensures.1, λ f o h. c.in_ok-take.ensures _ o (c.place-init_at.ensures (λ i. init (λ s. at (λ j. test_part (λ e. at (λ n. next_part (λ m. f (head s i e j m n))))))) o (c.in_ok-init.ensures.2 (λ s. at (λ j. test_part (λ e. at (λ n. next_part (λ m. f (head s c.place-init_at.result e j m n)))))) o (c.place-test_at.ensures (λ j. test_part (λ e. at (λ n. next_part (λ m. f (head c.in_ok-init.ensures.0 c.place-init_at.result e j m n))))) o (c.in_ok-test.ensures.2 (λ e. at (λ n. next_part (λ m. f (head c.in_ok-init.ensures.0 c.place-init_at.result e c.place-test_at.result m n)))) o (c.place-step_at.ensures (λ n. next_part (λ m. f (head c.in_ok-init.ensures.0 c.place-init_at.result c.in_ok-test.ensures.0 c.place-test_at.result m n))) o (c.in_ok-step.ensures.2 (λ m. f (head c.in_ok-init.ensures.0 c.place-init_at.result c.in_ok-test.ensures.0 c.place-test_at.result m c.place-step_at.result)) o h)))))))
