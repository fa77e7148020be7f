use Rattle.std.proofs.lemmas.Result.{err_from_is_err_and}
use Rattle.c_parser.proofs.SimpleTaken.{fails_by}
use Rattle.std.proofs.Common.{◌∙◌}
use Rattle.c_tree.specs.Placed.{no_stmt, a_stmt}
use Rattle.c_grammar.specs.Goals.{takes, round_close}
use Rattle.c_parser.proofs.HeadsTaken.{kept_absent, kept_part}
use Rattle.c_parser.proofs.heads.next_part.Goals as goal

pub returns-in-Some : goal.returns-in-Some
returns-in-Some c = (no_stmt, kept_absent c.none.result c.none.ensures, λ f o h. c.in-Some.ensures.taken _ _ o h)

pub returns-in_err-simple-in-None : goal.returns-in_err-simple-in-None
returns-in_err-simple-in-None c =
    let p = err_from_is_err_and c.from_residual.result c.from_residual.ensures.1 in
    rw (p.1, p.2) (λ f. fails_by _ _ c.args.cursor.now c.may.new.self c.in_err-simple-in-None.field-0.0 (λ o h. c.in-None.ensures.taken _ _ o h) (c.in_err-simple-in-None.ensures (λ s y. takes round_close (λ c'. f (a_stmt (s y.end))))))

pub returns-in_err-take-in-None : goal.returns-in_err-take-in-None
returns-in_err-take-in-None c =
    let p = err_from_is_err_and c.from_residual-in_err-take-in-None.result c.from_residual-in_err-take-in-None.ensures.1 in
    rw (p.1, p.2) (λ f. fails_by _ _ c.args.cursor.now c.take_simple.new.cursor c.in_err-take-in-None.field-0.0 (λ o h. c.in-None.ensures.taken _ _ o (c.in_ok-simple-in-None.ensures.2 (λ s y. takes round_close (λ c'. f (a_stmt (s y.end)))) o h)) (c.in_err-take-in-None.ensures _))

pub returns-in_ok-boxed-in-None : goal.returns-in_ok-boxed-in-None
returns-in_ok-boxed-in-None c = (a_stmt (c.in_ok-simple-in-None.ensures.0 c.in_ok-simple-in-None.last.end), kept_part (c.in_ok-simple-in-None.ensures.0 c.in_ok-simple-in-None.last.end) c.simple_stmt.result c.in_ok-boxed-in-None.field-0 c.in_ok-boxed-in-None.ensures (c.simple_stmt.ensures ∙ c.in_ok-simple-in-None.ensures.1 c.in_ok-simple-in-None.last.end), λ f o h. c.in-None.ensures.taken _ _ o (c.in_ok-simple-in-None.ensures.2 (λ s y. takes round_close (λ c'. f (a_stmt (s y.end)))) o (c.in_ok-take-in-None.ensures _ o h)))
