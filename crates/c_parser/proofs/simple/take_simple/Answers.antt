use Rattle.std.proofs.lemmas.Result.{err_from_is_err_and}
use Rattle.c_grammar.specs.Goals.{operated, target_goal}
use Rattle.c_parser.proofs.SimpleTaken.{fails_by}
use Rattle.c_parser.proofs.SimplesTaken.{simple_named, simple_stepped, simple_operated, past_sign}
use Rattle.c_parser.proofs.simple.take_simple.Goals as goal

pub advance-requires : goal.advance-requires
advance-requires c = past_sign c.first-token.result.now c.args.cursor.now c.terminal_of.result c.in-Some.up c.first-token.ensures.ended c.first-token.ensures.first c.terminal_of.ensures c.in-Some.ensures

pub returns-in_err-name-in-None : goal.returns-in_err-name-in-None
returns-in_err-name-in-None c =
    let p = err_from_is_err_and c.from_residual.result c.from_residual.ensures.1 in
    rw (p.1, p.2) (λ f. fails_by _ _ c.args.cursor.now c.args.cursor.now c.in_err-name-in-None.field-0.0 (simple_named f c.first-token.result.now c.args.cursor.now c.terminal_of.result c.first-token.ensures.first c.terminal_of.ensures c.in-None.ensures) (c.in_err-name-in-None.ensures _))

pub returns-in_err-target-in-None : goal.returns-in_err-target-in-None
returns-in_err-target-in-None c =
    let p = err_from_is_err_and c.from_residual-in_err-target-in-None.result c.from_residual-in_err-target-in-None.ensures.1 in
    rw (p.1, p.2) (λ f. fails_by _ _ c.args.cursor.now c.name.new.cursor c.in_err-target-in-None.field-0.0 (λ o h. simple_named f c.first-token.result.now c.args.cursor.now c.terminal_of.result c.first-token.ensures.first c.terminal_of.ensures c.in-None.ensures o (c.in_ok-name-in-None.ensures (λ x a. target_goal x a (λ t v. operated t v f)) o h)) (c.in_err-target-in-None.ensures (λ t v. operated t v f)))

pub returns-in-Some : goal.returns-in-Some
returns-in-Some c = simple_stepped c.first-token.result.now c.args.cursor.now c.advance.new.self c.stepped.new.cursor c.terminal_of.result c.in-Some.up c.stepped.result c.first-token.ensures.first c.advance.ensures c.terminal_of.ensures c.in-Some.ensures c.stepped.ensures

pub returns-in_ok-target-in-None : goal.returns-in_ok-target-in-None
returns-in_ok-target-in-None c = simple_operated c.first-token.result.now c.args.cursor.now c.name.new.cursor c.target.new.cursor c.operated.new.cursor c.terminal_of.result c.in_ok-name-in-None.name c.in_ok-name-in-None.name_at c.in_ok-target-in-None.at c.in_ok-target-in-None.target c.operated.result c.first-token.ensures.first c.terminal_of.ensures c.in-None.ensures c.in_ok-name-in-None.ensures c.in_ok-target-in-None.ensures c.operated.ensures
