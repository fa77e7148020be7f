use Rattle.std.proofs.lemmas.Result.{err_from_is_err_and}
use Rattle.c_tree.specs.Placed.{step}
use Rattle.c_grammar.specs.Goals.{target_goal}
use Rattle.c_parser.proofs.SimpleTaken.{fails_by}
use Rattle.c_parser.proofs.SimplesTaken.{until_step}
use Rattle.c_parser.proofs.simple.stepped.Goals as goal

pub returns-in_err-name : goal.returns-in_err-name
returns-in_err-name c =
    let p = err_from_is_err_and c.from_residual.result c.from_residual.ensures.1 in
    rw (p.1, p.2) (λ f. c.in_err-name.ensures _)

pub returns-in_err-target : goal.returns-in_err-target
returns-in_err-target c =
    let p = err_from_is_err_and c.from_residual-in_err-target.result c.from_residual-in_err-target.ensures.1 in
    rw (p.1, p.2) (λ f. fails_by _ _ c.args.cursor.now c.name.new.cursor c.in_err-target.field-0.0 (λ o h. c.in_ok-name.ensures (λ x b. target_goal x b (λ t v. f (λ to. step t c.args.up (record { start = c.args.at.start; end = to })) v)) o h) (c.in_err-target.ensures (λ t v. f (λ to. step t c.args.up (record { start = c.args.at.start; end = to })) v)))

pub returns : goal.returns
returns c = (λ to. step c.in_ok-target.ensures.0 c.args.up (record { start = c.args.at.start; end = to }), until_step c.in_ok-target.ensures.0 c.args.up c.args.at.start c.in_ok-target.target c.in_ok-target.ensures.1, λ f o h. c.in_ok-name.ensures (λ x b. target_goal x b (λ t v. f (λ to. step t c.args.up (record { start = c.args.at.start; end = to })) v)) o (c.in_ok-target.ensures.2 (λ t v. f (λ to. step t c.args.up (record { start = c.args.at.start; end = to })) v) o h))
