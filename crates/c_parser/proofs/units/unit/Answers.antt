use Rattle.std.proofs.Common.{true, false, refl, subst, Ok}
use Rattle.std.proofs.lemmas.Result.{err_from_is_err_and}
use Rattle.c_tree.specs.Placed.{block, no_stmts, more_stmts}
use Rattle.c_tree.specs.declared.tree.Ty.TheVariants as ty
use Rattle.pragma_grammar.specs.Symbols.{spanning}
use Rattle.c_parser.specs.declared.beginnings.Beginning.TheVariants as b
use Rattle.c_parser.specs.Bodies.{IsBegun, after_stmt}
use Rattle.c_grammar.specs.Goals.{units, declaration, long_rest, return_goal}
use Rattle.c_parser.proofs.Beginning.{past_beginning, other_than}
use Rattle.c_parser.proofs.Declaring.{grown}
use Rattle.c_parser.proofs.SimpleTaken.{fails_by, leads_shrinks}
use Rattle.c_parser.proofs.Passing.{any_expr, first_passed, further_passed}
use Rattle.c_parser.proofs.UnitsTaken.{unit_by, no_return, begins_unit}
use Rattle.c_parser.proofs.units.unit.Goals as goal

pub advance-requires : goal.advance-requires
advance-requires c = past_beginning c.first-token.result.now c.args.cursor.now c.terminal_of.result c.beginning_of.result b.CurlyOpen c.first-token.ensures.ended c.first-token.ensures.first c.terminal_of.ensures c.beginning_of.ensures c.in-CurlyOpen.is (other_than b.CurlyOpen tt)

pub advance-requires-in-CurlyClose : goal.advance-requires-in-CurlyClose
advance-requires-in-CurlyClose c = past_beginning c.first-token.result.now c.args.cursor.now c.terminal_of.result c.beginning_of.result b.CurlyClose c.first-token.ensures.ended c.first-token.ensures.first c.terminal_of.ensures c.beginning_of.ensures c.in-CurlyClose.is (other_than b.CurlyClose tt)

pub advance-requires-then-ends_main : goal.advance-requires-then-ends_main
advance-requires-then-ends_main c = past_beginning c.first-token.result.now c.args.cursor.now c.terminal_of.result c.beginning_of.result b.Return c.first-token.ensures.ended c.first-token.ensures.first c.terminal_of.ensures c.beginning_of.ensures c.in-Return.is (other_than b.Return tt)

pub advance-requires-in-Int : goal.advance-requires-in-Int
advance-requires-in-Int c = past_beginning c.first-token.result.now c.args.cursor.now c.terminal_of.result c.beginning_of.result b.Int c.first-token.ensures.ended c.first-token.ensures.first c.terminal_of.ensures c.beginning_of.ensures c.in-Int.is (other_than b.Int tt)

pub advance-requires-in-Long : goal.advance-requires-in-Long
advance-requires-in-Long c = past_beginning c.first-token.result.now c.args.cursor.now c.terminal_of.result c.beginning_of.result b.Long c.first-token.ensures.ended c.first-token.ensures.first c.terminal_of.ensures c.beginning_of.ensures c.in-Long.is (other_than b.Long tt)

pub returns-in-CurlyOpen : goal.returns-in-CurlyOpen
returns-in-CurlyOpen c = λ before g. (g, λ f o h. unit_by (λ a. units false (λ ss z. after_stmt c.args.ends_main before f (block ss (spanning a z)) z)) c.args.ends_main (λ rs. f (before rs)) c.first-token.result.now c.args.cursor.now c.advance.new.self c.terminal_of.result c.beginning_of.result b.CurlyOpen (λ s. refl) c.first-token.ensures.first c.advance.ensures c.terminal_of.ensures c.beginning_of.ensures c.in-CurlyOpen.is o h, first_passed c.first-token.result.now c.args.cursor.now c.advance.new.self c.first-token.ensures.first c.advance.ensures)

pub returns-in-CurlyClose : goal.returns-in-CurlyClose
returns-in-CurlyClose c = λ before g. (g, λ f o h. unit_by (λ a. f (before no_stmts) a) c.args.ends_main (λ rs. f (before rs)) c.first-token.result.now c.args.cursor.now c.advance-in-CurlyClose.new.self c.terminal_of.result c.beginning_of.result b.CurlyClose (λ s. refl) c.first-token.ensures.first c.advance-in-CurlyClose.ensures c.terminal_of.ensures c.beginning_of.ensures c.in-CurlyClose.is o h, first_passed c.first-token.result.now c.args.cursor.now c.advance-in-CurlyClose.new.self c.first-token.ensures.first c.advance-in-CurlyClose.ensures)

pub returns-in_err-last-in-Return : goal.returns-in_err-last-in-Return
returns-in_err-last-in-Return c =
    let p = err_from_is_err_and c.from_residual.result c.from_residual.ensures.1 in
    rw (p.1, p.2, c.if-ends_main.true) (λ before g f. fails_by _ _ c.args.cursor.now c.advance-then-ends_main.new.self c.in_err-last-in-Return.field-0.0 (λ o h. unit_by (λ a. return_goal (λ rs. f (before rs))) true (λ rs. f (before rs)) c.first-token.result.now c.args.cursor.now c.advance-then-ends_main.new.self c.terminal_of.result c.beginning_of.result b.Return (λ s. refl) c.first-token.ensures.first c.advance-then-ends_main.ensures c.terminal_of.ensures c.beginning_of.ensures c.in-Return.is o h) (c.in_err-last-in-Return.ensures (λ rs. f (before rs))))

pub returns-in_ok-last-in-Return : goal.returns-in_ok-last-in-Return
returns-in_ok-last-in-Return c = rw c.if-ends_main.true (λ before g. (g, λ f o h. unit_by (λ a. return_goal (λ rs. f (before rs))) true (λ rs. f (before rs)) c.first-token.result.now c.args.cursor.now c.advance-then-ends_main.new.self c.terminal_of.result c.beginning_of.result b.Return (λ s. refl) c.first-token.ensures.first c.advance-then-ends_main.ensures c.terminal_of.ensures c.beginning_of.ensures c.in-Return.is o (c.in_ok-last-in-Return.ensures (λ rs. f (before rs)) o h), further_passed c.first-token.result.now c.args.cursor.now c.advance-then-ends_main.new.self c.returned.new.cursor c.first-token.ensures.first c.advance-then-ends_main.ensures (leads_shrinks _ _ c.advance-then-ends_main.new.self c.returned.new.cursor (c.in_ok-last-in-Return.ensures (λ ss z. any_expr)))))

pub returns-else-ends_main : goal.returns-else-ends_main
returns-else-ends_main c = λ before g f. no_return (λ rs. f (before rs)) c.first-token.result.now c.args.cursor.now c.terminal_of.result c.beginning_of.result c.args.ends_main c.blamed.result c.first-token.ensures.first c.terminal_of.ensures c.beginning_of.ensures c.in-Return.is c.if-ends_main.false c.blamed.ensures

pub returns-in_err-declare-in-Int : goal.returns-in_err-declare-in-Int
returns-in_err-declare-in-Int c =
    let p = err_from_is_err_and c.from_residual-in_err-declare-in-Int.result c.from_residual-in_err-declare-in-Int.ensures.1 in
    rw (p.1, p.2) (λ before g f. fails_by _ _ c.args.cursor.now c.advance-in-Int.new.self c.in_err-declare-in-Int.field-0.0 (λ o h. unit_by (λ a. declaration ty.Int a.start c.args.ends_main (λ rs. f (before rs))) c.args.ends_main (λ rs. f (before rs)) c.first-token.result.now c.args.cursor.now c.advance-in-Int.new.self c.terminal_of.result c.beginning_of.result b.Int (λ s. refl) c.first-token.ensures.first c.advance-in-Int.ensures c.terminal_of.ensures c.beginning_of.ensures c.in-Int.is o h) (c.in_err-declare-in-Int.ensures before g c.args.ends_main f))

pub returns-in_ok-declare-in-Int : goal.returns-in_ok-declare-in-Int
returns-in_ok-declare-in-Int c = λ before g. let d = c.in_ok-declare-in-Int.ensures before g in (d.0, d.1, λ f o h. unit_by (λ a. declaration ty.Int a.start c.args.ends_main (λ rs. f (before rs))) c.args.ends_main (λ rs. f (before rs)) c.first-token.result.now c.args.cursor.now c.advance-in-Int.new.self c.terminal_of.result c.beginning_of.result b.Int (λ s. refl) c.first-token.ensures.first c.advance-in-Int.ensures c.terminal_of.ensures c.beginning_of.ensures c.in-Int.is o (d.2 c.args.ends_main f o h), further_passed c.first-token.result.now c.args.cursor.now c.advance-in-Int.new.self c.declare.new.cursor c.first-token.ensures.first c.advance-in-Int.ensures (leads_shrinks _ _ c.advance-in-Int.new.self c.declare.new.cursor (d.2 c.args.ends_main (λ ss z. any_expr))))

pub returns-in_err-long_rest-in-Long : goal.returns-in_err-long_rest-in-Long
returns-in_err-long_rest-in-Long c =
    let p = err_from_is_err_and c.from_residual-in_err-long_rest-in-Long.result c.from_residual-in_err-long_rest-in-Long.ensures.1 in
    rw (p.1, p.2) (λ before g f. fails_by _ _ c.args.cursor.now c.advance-in-Long.new.self c.in_err-long_rest-in-Long.field-0.0 (λ o h. unit_by (λ a. long_rest (declaration ty.Long a.start c.args.ends_main (λ rs. f (before rs)))) c.args.ends_main (λ rs. f (before rs)) c.first-token.result.now c.args.cursor.now c.advance-in-Long.new.self c.terminal_of.result c.beginning_of.result b.Long (λ s. refl) c.first-token.ensures.first c.advance-in-Long.ensures c.terminal_of.ensures c.beginning_of.ensures c.in-Long.is o h) (c.in_err-long_rest-in-Long.ensures (declaration ty.Long c.first-token.result.now.span.start c.args.ends_main (λ rs. f (before rs)))))

pub returns-in_err-declare-in-Long : goal.returns-in_err-declare-in-Long
returns-in_err-declare-in-Long c =
    let p = err_from_is_err_and c.from_residual-in_err-declare-in-Long.result c.from_residual-in_err-declare-in-Long.ensures.1 in
    rw (p.1, p.2) (λ before g f. fails_by _ _ c.args.cursor.now c.long_rest.new.cursor c.in_err-declare-in-Long.field-0.0 (λ o h. unit_by (λ a. long_rest (declaration ty.Long a.start c.args.ends_main (λ rs. f (before rs)))) c.args.ends_main (λ rs. f (before rs)) c.first-token.result.now c.args.cursor.now c.advance-in-Long.new.self c.terminal_of.result c.beginning_of.result b.Long (λ s. refl) c.first-token.ensures.first c.advance-in-Long.ensures c.terminal_of.ensures c.beginning_of.ensures c.in-Long.is o (c.in_ok-long_rest-in-Long.ensures (declaration ty.Long c.first-token.result.now.span.start c.args.ends_main (λ rs. f (before rs))) o h)) (c.in_err-declare-in-Long.ensures before g c.args.ends_main f))

pub returns-in_ok-declare-in-Long : goal.returns-in_ok-declare-in-Long
returns-in_ok-declare-in-Long c = λ before g. let d = c.in_ok-declare-in-Long.ensures before g in (d.0, d.1, λ f o h. unit_by (λ a. long_rest (declaration ty.Long a.start c.args.ends_main (λ rs. f (before rs)))) c.args.ends_main (λ rs. f (before rs)) c.first-token.result.now c.args.cursor.now c.advance-in-Long.new.self c.terminal_of.result c.beginning_of.result b.Long (λ s. refl) c.first-token.ensures.first c.advance-in-Long.ensures c.terminal_of.ensures c.beginning_of.ensures c.in-Long.is o (c.in_ok-long_rest-in-Long.ensures (declaration ty.Long c.first-token.result.now.span.start c.args.ends_main (λ rs. f (before rs))) o (d.2 c.args.ends_main f o h)), further_passed c.first-token.result.now c.args.cursor.now c.advance-in-Long.new.self c.declare-in-Long.new.cursor c.first-token.ensures.first c.advance-in-Long.ensures (leads_shrinks _ _ c.advance-in-Long.new.self c.declare-in-Long.new.cursor (λ o h. c.in_ok-long_rest-in-Long.ensures (declaration ty.Long c.first-token.result.now.span.start c.args.ends_main (λ rs z. any_expr)) o (d.2 c.args.ends_main (λ rs z. any_expr) o h))))

pub returns-in_err-stmt-in_default : goal.returns-in_err-stmt-in_default
returns-in_err-stmt-in_default c =
    let p = err_from_is_err_and c.from_residual-in_err-stmt-in_default.result c.from_residual-in_err-stmt-in_default.ensures.1 in
    rw (p.1, p.2) (λ before g f. c.in_err-stmt-in_default.ensures (units c.args.ends_main (λ rs. f (before rs))) (λ s y. units c.args.ends_main (λ ss. f (before (more_stmts s ss)))) (begins_unit c.args.ends_main (λ rs. f (before rs)) c.first-token.result.now c.args.cursor.now c.terminal_of.result c.beginning_of.result c.first-token.ensures.first c.terminal_of.ensures c.beginning_of.ensures c.in_default.not-CurlyOpen c.in_default.not-CurlyClose c.in_default.not-Return c.in_default.not-Int c.in_default.not-Long))

pub returns-in_ok-add_stmt-in-Whole : goal.returns-in_ok-add_stmt-in-Whole
returns-in_ok-add_stmt-in-Whole c = λ before g. let e = subst (λ z. IsBegun c.args.cursor.now (Ok z) c.begin.new.cursor) c.in-Whole.is c.in_ok-stmt-in_default.ensures in
    (λ rs. before (more_stmts e.0 rs), grown _ _ _ before e.0 g e.1 c.in_ok-add_stmt-in-Whole.ensures, λ f o h. e.2 (units c.args.ends_main (λ rs. f (before rs))) (λ s y. units c.args.ends_main (λ ss. f (before (more_stmts s ss)))) (begins_unit c.args.ends_main (λ rs. f (before rs)) c.first-token.result.now c.args.cursor.now c.terminal_of.result c.beginning_of.result c.first-token.ensures.first c.terminal_of.ensures c.beginning_of.ensures c.in_default.not-CurlyOpen c.in_default.not-CurlyClose c.in_default.not-Return c.in_default.not-Int c.in_default.not-Long) o h, e.3)

pub returns-in-Opens : goal.returns-in-Opens
returns-in-Opens c = λ before g. let e = subst (λ z. IsBegun c.args.cursor.now (Ok z) c.begin.new.cursor) c.in-Opens.is c.in_ok-stmt-in_default.ensures in (g, e.0, e.1, λ f o h. e.2 (units c.args.ends_main (λ rs. f (before rs))) (λ s y. units c.args.ends_main (λ ss. f (before (more_stmts s ss)))) (begins_unit c.args.ends_main (λ rs. f (before rs)) c.first-token.result.now c.args.cursor.now c.terminal_of.result c.beginning_of.result c.first-token.ensures.first c.terminal_of.ensures c.beginning_of.ensures c.in_default.not-CurlyOpen c.in_default.not-CurlyClose c.in_default.not-Return c.in_default.not-Int c.in_default.not-Long) o h, e.3)
