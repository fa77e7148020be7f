use Rattle.std.proofs.lemmas.Result.{err_from_is_err_and}
use Rattle.c_parser.proofs.SimpleTaken.{fails_by}
use Rattle.std.proofs.Common.{◌∙◌}
use Rattle.c_tree.specs.Placed.{no_stmt, a_stmt}
use Rattle.c_tree.specs.declared.tree.Ty.TheVariants.{Int, Long}
use Rattle.c_parser.specs.declared.beginnings.Beginning.TheVariants as b
use Rattle.c_grammar.specs.Goals.{init_simple}
use Rattle.c_parser.proofs.Beginning.{past_beginning, other_than, init_empty, init_int, init_long, init_other}
use Rattle.c_parser.proofs.HeadsTaken.{kept_absent, kept_part, init_passed}
use Rattle.c_parser.proofs.heads.init_part.Goals as goal

pub advance-requires : goal.advance-requires
advance-requires c = past_beginning c.first-token.result.now c.args.cursor.now c.terminal_of.result c.beginning_of.result b.Empty c.first-token.ensures.ended c.first-token.ensures.first c.terminal_of.ensures c.beginning_of.ensures c.in-Empty.is (other_than b.Empty tt)

pub advance-requires-in-Int : goal.advance-requires-in-Int
advance-requires-in-Int c = past_beginning c.first-token.result.now c.args.cursor.now c.terminal_of.result c.beginning_of.result b.Int c.first-token.ensures.ended c.first-token.ensures.first c.terminal_of.ensures c.beginning_of.ensures c.in-Int.is (other_than b.Int tt)

pub advance-requires-in-Long : goal.advance-requires-in-Long
advance-requires-in-Long c = past_beginning c.first-token.result.now c.args.cursor.now c.terminal_of.result c.beginning_of.result b.Long c.first-token.ensures.ended c.first-token.ensures.first c.terminal_of.ensures c.beginning_of.ensures c.in-Long.is (other_than b.Long tt)

pub returns-in-Empty : goal.returns-in-Empty
returns-in-Empty c = (no_stmt, kept_absent c.none.result c.none.ensures, λ f. init_empty f c.first-token.result.now c.args.cursor.now c.advance.new.self c.terminal_of.result c.beginning_of.result c.first-token.ensures.first c.advance.ensures c.terminal_of.ensures c.beginning_of.ensures c.in-Empty.is)

pub returns-in-Int : goal.returns-in-Int
returns-in-Int c = init_passed Int c.first-token.result.now.span.start c.args.cursor.now c.advance-in-Int.new.self c.declares.new.cursor c.declares.result (λ f. init_int f c.first-token.result.now c.args.cursor.now c.advance-in-Int.new.self c.terminal_of.result c.beginning_of.result c.first-token.ensures.first c.advance-in-Int.ensures c.terminal_of.ensures c.beginning_of.ensures c.in-Int.is) c.declares.ensures

pub returns-in_err-long_rest-in-Long : goal.returns-in_err-long_rest-in-Long
returns-in_err-long_rest-in-Long c =
    let p = err_from_is_err_and c.from_residual.result c.from_residual.ensures.1 in
    rw (p.1, p.2) (λ f. fails_by _ _ c.args.cursor.now c.advance-in-Long.new.self c.in_err-long_rest-in-Long.field-0.0 (λ o h. init_long f c.first-token.result.now c.args.cursor.now c.advance-in-Long.new.self c.terminal_of.result c.beginning_of.result c.first-token.ensures.first c.advance-in-Long.ensures c.terminal_of.ensures c.beginning_of.ensures c.in-Long.is o h) (c.in_err-long_rest-in-Long.ensures _))

pub returns-in_ok-long_rest-in-Long : goal.returns-in_ok-long_rest-in-Long
returns-in_ok-long_rest-in-Long c = init_passed Long c.first-token.result.now.span.start c.args.cursor.now c.long_rest.new.cursor c.declares-in-Long.new.cursor c.declares-in-Long.result (λ f o h. init_long f c.first-token.result.now c.args.cursor.now c.advance-in-Long.new.self c.terminal_of.result c.beginning_of.result c.first-token.ensures.first c.advance-in-Long.ensures c.terminal_of.ensures c.beginning_of.ensures c.in-Long.is o (c.in_ok-long_rest-in-Long.ensures _ o h)) c.declares-in-Long.ensures

pub returns-in_err-simple-in_default : goal.returns-in_err-simple-in_default
returns-in_err-simple-in_default c =
    let p = err_from_is_err_and c.from_residual-in_err-simple-in_default.result c.from_residual-in_err-simple-in_default.ensures.1 in
    rw (p.1, p.2) (λ f. fails_by _ _ c.args.cursor.now c.args.cursor.now c.in_err-simple-in_default.field-0.0 (λ o h. init_other f c.first-token.result.now c.args.cursor.now c.terminal_of.result c.beginning_of.result c.first-token.ensures.first c.terminal_of.ensures c.beginning_of.ensures c.in_default.not-Empty c.in_default.not-Int c.in_default.not-Long o h) (c.in_err-simple-in_default.ensures (init_simple f)))

pub returns-in_err-take-in_default : goal.returns-in_err-take-in_default
returns-in_err-take-in_default c =
    let p = err_from_is_err_and c.from_residual-in_err-take-in_default.result c.from_residual-in_err-take-in_default.ensures.1 in
    rw (p.1, p.2) (λ f. fails_by _ _ c.args.cursor.now c.take_simple.new.cursor c.in_err-take-in_default.field-0.0 (λ o h. init_other f c.first-token.result.now c.args.cursor.now c.terminal_of.result c.beginning_of.result c.first-token.ensures.first c.terminal_of.ensures c.beginning_of.ensures c.in_default.not-Empty c.in_default.not-Int c.in_default.not-Long o (c.in_ok-simple-in_default.ensures.2 (init_simple f) o h)) (c.in_err-take-in_default.ensures _))

pub returns-in_ok-boxed-in_default : goal.returns-in_ok-boxed-in_default
returns-in_ok-boxed-in_default c = (a_stmt (c.in_ok-simple-in_default.ensures.0 c.in_ok-simple-in_default.last.end), kept_part (c.in_ok-simple-in_default.ensures.0 c.in_ok-simple-in_default.last.end) c.simple_stmt.result c.in_ok-boxed-in_default.field-0 c.in_ok-boxed-in_default.ensures (c.simple_stmt.ensures ∙ c.in_ok-simple-in_default.ensures.1 c.in_ok-simple-in_default.last.end), λ f o h. init_other f c.first-token.result.now c.args.cursor.now c.terminal_of.result c.beginning_of.result c.first-token.ensures.first c.terminal_of.ensures c.beginning_of.ensures c.in_default.not-Empty c.in_default.not-Int c.in_default.not-Long o (c.in_ok-simple-in_default.ensures.2 (init_simple f) o (c.in_ok-take-in_default.ensures _ o h)))
