use Rattle.std.proofs.lemmas.Result.{err_from_is_err_and}
use Rattle.std.proofs.Common.{refl}
use Rattle.c_parser.proofs.SimpleTaken.{fails_by, leads_shrinks}
use Rattle.c_parser.proofs.Passing.{any_expr, name_passed, simple_passed, first_passed, further_passed}
use Rattle.c_tree.specs.Placed.{while_, for_, omp, break_, continue_, empty}
use Rattle.pragma_grammar.specs.Symbols.{spanning}
use Rattle.c_parser.specs.declared.beginnings.Beginning.TheVariants as b
use Rattle.c_parser.specs.Bodies.{if_then, while_body, do_body, for_body, omp_body}
use Rattle.c_grammar.specs.Goals.{takes, semicolon, body, else_goal, if_goal, while_goal, do_goal, for_goal, pragma_goal, print_goal}
use Rattle.c_parser.proofs.Built.{built_empty, built_break, built_continue}
use Rattle.c_parser.proofs.Beginning.{past_beginning, other_than, begun_by, begun_name, begun_other}
use Rattle.c_parser.proofs.begin.begin.Goals as goal

pub advance-requires : goal.advance-requires
advance-requires c = past_beginning c.first-token.result.now c.args.cursor.now c.terminal_of.result c.beginning_of.result b.If c.first-token.ensures.ended c.first-token.ensures.first c.terminal_of.ensures c.beginning_of.ensures c.in-If.is (other_than b.If tt)

pub returns-in_err-test-in-If : goal.returns-in_err-test-in-If
returns-in_err-test-in-If c =
    let p = err_from_is_err_and c.from_residual.result c.from_residual.ensures.1 in
    rw (p.1, p.2) (λ x f b'. fails_by _ _ c.args.cursor.now c.advance.new.self c.in_err-test-in-If.field-0.0 (λ o h. begun_by (λ a. if_goal a f) x f c.first-token.result.now c.args.cursor.now c.advance.new.self c.terminal_of.result c.beginning_of.result b.If (λ s. refl) b' c.first-token.ensures.first c.advance.ensures c.terminal_of.ensures c.beginning_of.ensures c.in-If.is o h) (c.in_err-test-in-If.ensures (λ e. body (else_goal e c.first-token.result.now.span f))))

pub returns-in_ok-test-in-If : goal.returns-in_ok-test-in-If
returns-in_ok-test-in-If c = (if_then c.in_ok-test-in-If.ensures.0 c.first-token.result.now.span, (c.in_ok-test-in-If.ensures.0, c.in_ok-test-in-If.ensures.1, refl), λ x f b' o h. begun_by (λ a. if_goal a f) x f c.first-token.result.now c.args.cursor.now c.advance.new.self c.terminal_of.result c.beginning_of.result b.If (λ s. refl) b' c.first-token.ensures.first c.advance.ensures c.terminal_of.ensures c.beginning_of.ensures c.in-If.is o (c.in_ok-test-in-If.ensures.2 (λ e. body (else_goal e c.first-token.result.now.span f)) o h), further_passed c.first-token.result.now c.args.cursor.now c.advance.new.self c.condition.new.cursor c.first-token.ensures.first c.advance.ensures (leads_shrinks _ _ c.advance.new.self c.condition.new.cursor (c.in_ok-test-in-If.ensures.2 (λ e. any_expr))))

pub advance-requires-in-While : goal.advance-requires-in-While
advance-requires-in-While c = past_beginning c.first-token.result.now c.args.cursor.now c.terminal_of.result c.beginning_of.result b.While c.first-token.ensures.ended c.first-token.ensures.first c.terminal_of.ensures c.beginning_of.ensures c.in-While.is (other_than b.While tt)

pub returns-in_err-test-in-While : goal.returns-in_err-test-in-While
returns-in_err-test-in-While c =
    let p = err_from_is_err_and c.from_residual-in_err-test-in-While.result c.from_residual-in_err-test-in-While.ensures.1 in
    rw (p.1, p.2) (λ x f b'. fails_by _ _ c.args.cursor.now c.advance-in-While.new.self c.in_err-test-in-While.field-0.0 (λ o h. begun_by (λ a. while_goal a f) x f c.first-token.result.now c.args.cursor.now c.advance-in-While.new.self c.terminal_of.result c.beginning_of.result b.While (λ s. refl) b' c.first-token.ensures.first c.advance-in-While.ensures c.terminal_of.ensures c.beginning_of.ensures c.in-While.is o h) (c.in_err-test-in-While.ensures (λ e. body (λ ss z. f (while_ e ss (spanning c.first-token.result.now.span z)) z))))

pub returns-in_ok-test-in-While : goal.returns-in_ok-test-in-While
returns-in_ok-test-in-While c = (while_body c.in_ok-test-in-While.ensures.0 c.first-token.result.now.span, (c.in_ok-test-in-While.ensures.0, c.in_ok-test-in-While.ensures.1, refl), λ x f b' o h. begun_by (λ a. while_goal a f) x f c.first-token.result.now c.args.cursor.now c.advance-in-While.new.self c.terminal_of.result c.beginning_of.result b.While (λ s. refl) b' c.first-token.ensures.first c.advance-in-While.ensures c.terminal_of.ensures c.beginning_of.ensures c.in-While.is o (c.in_ok-test-in-While.ensures.2 (λ e. body (λ ss z. f (while_ e ss (spanning c.first-token.result.now.span z)) z)) o h), further_passed c.first-token.result.now c.args.cursor.now c.advance-in-While.new.self c.condition-in-While.new.cursor c.first-token.ensures.first c.advance-in-While.ensures (leads_shrinks _ _ c.advance-in-While.new.self c.condition-in-While.new.cursor (c.in_ok-test-in-While.ensures.2 (λ e. any_expr))))

pub advance-requires-in-Do : goal.advance-requires-in-Do
advance-requires-in-Do c = past_beginning c.first-token.result.now c.args.cursor.now c.terminal_of.result c.beginning_of.result b.Do c.first-token.ensures.ended c.first-token.ensures.first c.terminal_of.ensures c.beginning_of.ensures c.in-Do.is (other_than b.Do tt)

pub returns-in-Do : goal.returns-in-Do
returns-in-Do c = (do_body c.first-token.result.now.span, refl, λ x f b' o h. begun_by (λ a. do_goal a f) x f c.first-token.result.now c.args.cursor.now c.advance-in-Do.new.self c.terminal_of.result c.beginning_of.result b.Do (λ s. refl) b' c.first-token.ensures.first c.advance-in-Do.ensures c.terminal_of.ensures c.beginning_of.ensures c.in-Do.is o h, first_passed c.first-token.result.now c.args.cursor.now c.advance-in-Do.new.self c.first-token.ensures.first c.advance-in-Do.ensures)

pub advance-requires-in-For : goal.advance-requires-in-For
advance-requires-in-For c = past_beginning c.first-token.result.now c.args.cursor.now c.terminal_of.result c.beginning_of.result b.For c.first-token.ensures.ended c.first-token.ensures.first c.terminal_of.ensures c.beginning_of.ensures c.in-For.is (other_than b.For tt)

pub returns-in_err-head-in-For : goal.returns-in_err-head-in-For
returns-in_err-head-in-For c =
    let p = err_from_is_err_and c.from_residual-in_err-head-in-For.result c.from_residual-in_err-head-in-For.ensures.1 in
    rw (p.1, p.2) (λ x f b'. fails_by _ _ c.args.cursor.now c.advance-in-For.new.self c.in_err-head-in-For.field-0.0 (λ o h. begun_by (λ a. for_goal a f) x f c.first-token.result.now c.args.cursor.now c.advance-in-For.new.self c.terminal_of.result c.beginning_of.result b.For (λ s. refl) b' c.first-token.ensures.first c.advance-in-For.ensures c.terminal_of.ensures c.beginning_of.ensures c.in-For.is o h) (c.in_err-head-in-For.ensures (λ h. body (λ ss z. f (for_ h ss (spanning c.first-token.result.now.span z)) z))))

pub returns-in_ok-head-in-For : goal.returns-in_ok-head-in-For
returns-in_ok-head-in-For c = (for_body c.in_ok-head-in-For.ensures.0 c.first-token.result.now.span, (c.in_ok-head-in-For.ensures.0, c.in_ok-head-in-For.ensures.1, refl), λ x f b' o h. begun_by (λ a. for_goal a f) x f c.first-token.result.now c.args.cursor.now c.advance-in-For.new.self c.terminal_of.result c.beginning_of.result b.For (λ s. refl) b' c.first-token.ensures.first c.advance-in-For.ensures c.terminal_of.ensures c.beginning_of.ensures c.in-For.is o (c.in_ok-head-in-For.ensures.2 (λ h. body (λ ss z. f (for_ h ss (spanning c.first-token.result.now.span z)) z)) o h), further_passed c.first-token.result.now c.args.cursor.now c.advance-in-For.new.self c.head.new.cursor c.first-token.ensures.first c.advance-in-For.ensures (leads_shrinks _ _ c.advance-in-For.new.self c.head.new.cursor (c.in_ok-head-in-For.ensures.2 (λ h. any_expr))))

pub advance-requires-in-Pragma : goal.advance-requires-in-Pragma
advance-requires-in-Pragma c = past_beginning c.first-token.result.now c.args.cursor.now c.terminal_of.result c.beginning_of.result b.Pragma c.first-token.ensures.ended c.first-token.ensures.first c.terminal_of.ensures c.beginning_of.ensures c.in-Pragma.is (other_than b.Pragma tt)

pub returns-in_err-directive-in-Pragma : goal.returns-in_err-directive-in-Pragma
returns-in_err-directive-in-Pragma c =
    let p = err_from_is_err_and c.from_residual-in_err-directive-in-Pragma.result c.from_residual-in_err-directive-in-Pragma.ensures.1 in
    rw (p.1, p.2) (λ x f b'. fails_by _ _ c.args.cursor.now c.advance-in-Pragma.new.self c.in_err-directive-in-Pragma.field-0.0 (λ o h. begun_by (λ a. pragma_goal a f) x f c.first-token.result.now c.args.cursor.now c.advance-in-Pragma.new.self c.terminal_of.result c.beginning_of.result b.Pragma (λ s. refl) b' c.first-token.ensures.first c.advance-in-Pragma.ensures c.terminal_of.ensures c.beginning_of.ensures c.in-Pragma.is o h) (c.in_err-directive-in-Pragma.ensures (λ d. body (λ ss z. f (omp d ss (spanning c.first-token.result.now.span z)) z))))

pub returns-in_ok-directive-in-Pragma : goal.returns-in_ok-directive-in-Pragma
returns-in_ok-directive-in-Pragma c = (omp_body c.in_ok-directive-in-Pragma.ensures.0 c.first-token.result.now.span, (c.in_ok-directive-in-Pragma.ensures.0, c.in_ok-directive-in-Pragma.ensures.1, refl), λ x f b' o h. begun_by (λ a. pragma_goal a f) x f c.first-token.result.now c.args.cursor.now c.advance-in-Pragma.new.self c.terminal_of.result c.beginning_of.result b.Pragma (λ s. refl) b' c.first-token.ensures.first c.advance-in-Pragma.ensures c.terminal_of.ensures c.beginning_of.ensures c.in-Pragma.is o (c.in_ok-directive-in-Pragma.ensures.2 (λ d. body (λ ss z. f (omp d ss (spanning c.first-token.result.now.span z)) z)) o h), further_passed c.first-token.result.now c.args.cursor.now c.advance-in-Pragma.new.self c.construct_line.new.cursor c.first-token.ensures.first c.advance-in-Pragma.ensures (leads_shrinks _ _ c.advance-in-Pragma.new.self c.construct_line.new.cursor (c.in_ok-directive-in-Pragma.ensures.2 (λ d. any_expr))))

pub advance-requires-in-Empty : goal.advance-requires-in-Empty
advance-requires-in-Empty c = past_beginning c.first-token.result.now c.args.cursor.now c.terminal_of.result c.beginning_of.result b.Empty c.first-token.ensures.ended c.first-token.ensures.first c.terminal_of.ensures c.beginning_of.ensures c.in-Empty.is (other_than b.Empty tt)

pub returns-in-Empty : goal.returns-in-Empty
returns-in-Empty c = (empty c.first-token.result.now.span, built_empty c.plain.result c.first-token.result.now.span c.plain.ensures, λ x f b' o h. begun_by (λ a. f (empty a) a) x f c.first-token.result.now c.args.cursor.now c.advance-in-Empty.new.self c.terminal_of.result c.beginning_of.result b.Empty (λ s. refl) b' c.first-token.ensures.first c.advance-in-Empty.ensures c.terminal_of.ensures c.beginning_of.ensures c.in-Empty.is o h, first_passed c.first-token.result.now c.args.cursor.now c.advance-in-Empty.new.self c.first-token.ensures.first c.advance-in-Empty.ensures)

pub advance-requires-in-Print : goal.advance-requires-in-Print
advance-requires-in-Print c = past_beginning c.first-token.result.now c.args.cursor.now c.terminal_of.result c.beginning_of.result b.Print c.first-token.ensures.ended c.first-token.ensures.first c.terminal_of.ensures c.beginning_of.ensures c.in-Print.is (other_than b.Print tt)

pub returns-in_err-stmt-in-Print : goal.returns-in_err-stmt-in-Print
returns-in_err-stmt-in-Print c =
    let p = err_from_is_err_and c.from_residual-in_err-stmt-in-Print.result c.from_residual-in_err-stmt-in-Print.ensures.1 in
    rw (p.1, p.2) (λ x f b'. fails_by _ _ c.args.cursor.now c.advance-in-Print.new.self c.in_err-stmt-in-Print.field-0.0 (λ o h. begun_by (λ a. print_goal a f) x f c.first-token.result.now c.args.cursor.now c.advance-in-Print.new.self c.terminal_of.result c.beginning_of.result b.Print (λ s. refl) b' c.first-token.ensures.first c.advance-in-Print.ensures c.terminal_of.ensures c.beginning_of.ensures c.in-Print.is o h) (c.in_err-stmt-in-Print.ensures f))

pub returns-in_ok-stmt-in-Print : goal.returns-in_ok-stmt-in-Print
returns-in_ok-stmt-in-Print c = (c.in_ok-stmt-in-Print.ensures.0, c.in_ok-stmt-in-Print.ensures.1, λ x f b' o h. begun_by (λ a. print_goal a f) x f c.first-token.result.now c.args.cursor.now c.advance-in-Print.new.self c.terminal_of.result c.beginning_of.result b.Print (λ s. refl) b' c.first-token.ensures.first c.advance-in-Print.ensures c.terminal_of.ensures c.beginning_of.ensures c.in-Print.is o (c.in_ok-stmt-in-Print.ensures.2 f o h), further_passed c.first-token.result.now c.args.cursor.now c.advance-in-Print.new.self c.print_stmt.new.cursor c.first-token.ensures.first c.advance-in-Print.ensures (leads_shrinks _ _ c.advance-in-Print.new.self c.print_stmt.new.cursor (c.in_ok-stmt-in-Print.ensures.2 (λ s z. any_expr))))

pub advance-requires-in-Break : goal.advance-requires-in-Break
advance-requires-in-Break c = past_beginning c.first-token.result.now c.args.cursor.now c.terminal_of.result c.beginning_of.result b.Break c.first-token.ensures.ended c.first-token.ensures.first c.terminal_of.ensures c.beginning_of.ensures c.in-Break.is (other_than b.Break tt)

pub returns-in_err-last-in-Break : goal.returns-in_err-last-in-Break
returns-in_err-last-in-Break c =
    let p = err_from_is_err_and c.from_residual-in_err-last-in-Break.result c.from_residual-in_err-last-in-Break.ensures.1 in
    rw (p.1, p.2) (λ x f b'. fails_by _ _ c.args.cursor.now c.advance-in-Break.new.self c.in_err-last-in-Break.field-0.0 (λ o h. begun_by (λ a. takes semicolon (λ z. f (break_ (spanning a z)) z)) x f c.first-token.result.now c.args.cursor.now c.advance-in-Break.new.self c.terminal_of.result c.beginning_of.result b.Break (λ s. refl) b' c.first-token.ensures.first c.advance-in-Break.ensures c.terminal_of.ensures c.beginning_of.ensures c.in-Break.is o h) (c.in_err-last-in-Break.ensures (λ z. f (break_ (spanning c.first-token.result.now.span z)) z)))

pub returns-in_ok-last-in-Break : goal.returns-in_ok-last-in-Break
returns-in_ok-last-in-Break c = (break_ (spanning c.first-token.result.now.span c.in_ok-last-in-Break.last), built_break c.plain-in-Break.result (spanning c.first-token.result.now.span c.in_ok-last-in-Break.last) c.spanning-span.result c.spanning-span.ensures c.plain-in-Break.ensures, λ x f b' o h. begun_by (λ a. takes semicolon (λ z. f (break_ (spanning a z)) z)) x f c.first-token.result.now c.args.cursor.now c.advance-in-Break.new.self c.terminal_of.result c.beginning_of.result b.Break (λ s. refl) b' c.first-token.ensures.first c.advance-in-Break.ensures c.terminal_of.ensures c.beginning_of.ensures c.in-Break.is o (c.in_ok-last-in-Break.ensures (λ z. f (break_ (spanning c.first-token.result.now.span z)) z) o h), further_passed c.first-token.result.now c.args.cursor.now c.advance-in-Break.new.self c.take.new.self c.first-token.ensures.first c.advance-in-Break.ensures (leads_shrinks _ _ c.advance-in-Break.new.self c.take.new.self (c.in_ok-last-in-Break.ensures (λ z. any_expr))))

pub advance-requires-in-Continue : goal.advance-requires-in-Continue
advance-requires-in-Continue c = past_beginning c.first-token.result.now c.args.cursor.now c.terminal_of.result c.beginning_of.result b.Continue c.first-token.ensures.ended c.first-token.ensures.first c.terminal_of.ensures c.beginning_of.ensures c.in-Continue.is (other_than b.Continue tt)

pub returns-in_err-last-in-Continue : goal.returns-in_err-last-in-Continue
returns-in_err-last-in-Continue c =
    let p = err_from_is_err_and c.from_residual-in_err-last-in-Continue.result c.from_residual-in_err-last-in-Continue.ensures.1 in
    rw (p.1, p.2) (λ x f b'. fails_by _ _ c.args.cursor.now c.advance-in-Continue.new.self c.in_err-last-in-Continue.field-0.0 (λ o h. begun_by (λ a. takes semicolon (λ z. f (continue_ (spanning a z)) z)) x f c.first-token.result.now c.args.cursor.now c.advance-in-Continue.new.self c.terminal_of.result c.beginning_of.result b.Continue (λ s. refl) b' c.first-token.ensures.first c.advance-in-Continue.ensures c.terminal_of.ensures c.beginning_of.ensures c.in-Continue.is o h) (c.in_err-last-in-Continue.ensures (λ z. f (continue_ (spanning c.first-token.result.now.span z)) z)))

pub returns-in_ok-last-in-Continue : goal.returns-in_ok-last-in-Continue
returns-in_ok-last-in-Continue c = (continue_ (spanning c.first-token.result.now.span c.in_ok-last-in-Continue.last), built_continue c.plain-in-Continue.result (spanning c.first-token.result.now.span c.in_ok-last-in-Continue.last) c.spanning-span-in-Continue.result c.spanning-span-in-Continue.ensures c.plain-in-Continue.ensures, λ x f b' o h. begun_by (λ a. takes semicolon (λ z. f (continue_ (spanning a z)) z)) x f c.first-token.result.now c.args.cursor.now c.advance-in-Continue.new.self c.terminal_of.result c.beginning_of.result b.Continue (λ s. refl) b' c.first-token.ensures.first c.advance-in-Continue.ensures c.terminal_of.ensures c.beginning_of.ensures c.in-Continue.is o (c.in_ok-last-in-Continue.ensures (λ z. f (continue_ (spanning c.first-token.result.now.span z)) z) o h), further_passed c.first-token.result.now c.args.cursor.now c.advance-in-Continue.new.self c.take-in-Continue.new.self c.first-token.ensures.first c.advance-in-Continue.ensures (leads_shrinks _ _ c.advance-in-Continue.new.self c.take-in-Continue.new.self (c.in_ok-last-in-Continue.ensures (λ z. any_expr))))

pub returns-in_err-stmt-in-Name : goal.returns-in_err-stmt-in-Name
returns-in_err-stmt-in-Name c =
    let p = err_from_is_err_and c.from_residual-in_err-stmt-in-Name.result c.from_residual-in_err-stmt-in-Name.ensures.1 in
    rw (p.1, p.2) (λ x f b'. fails_by _ _ c.args.cursor.now c.args.cursor.now c.in_err-stmt-in-Name.field-0.0 (λ o h. begun_name x f c.first-token.result.now c.args.cursor.now c.terminal_of.result c.beginning_of.result b' c.first-token.ensures.first c.terminal_of.ensures c.beginning_of.ensures c.in-Name.is o h) (c.in_err-stmt-in-Name.ensures f))

pub returns-in_ok-stmt-in-Name : goal.returns-in_ok-stmt-in-Name
returns-in_ok-stmt-in-Name c = (c.in_ok-stmt-in-Name.ensures.0, c.in_ok-stmt-in-Name.ensures.1, λ x f b' o h. begun_name x f c.first-token.result.now c.args.cursor.now c.terminal_of.result c.beginning_of.result b' c.first-token.ensures.first c.terminal_of.ensures c.beginning_of.ensures c.in-Name.is o (c.in_ok-stmt-in-Name.ensures.2 f o h), name_passed _ c.first-token.result.now c.args.cursor.now c.named.new.cursor c.first-token.ensures.first (c.in_ok-stmt-in-Name.ensures.2 (λ s z. any_expr)))

pub returns-in_err-stmt-in_default : goal.returns-in_err-stmt-in_default
returns-in_err-stmt-in_default c =
    let p = err_from_is_err_and c.from_residual-in_err-stmt-in_default.result c.from_residual-in_err-stmt-in_default.ensures.1 in
    rw (p.1, p.2) (λ x f b'. fails_by _ _ c.args.cursor.now c.args.cursor.now c.in_err-stmt-in_default.field-0.0 (λ o h. begun_other x f c.first-token.result.now c.args.cursor.now c.terminal_of.result c.beginning_of.result b' c.first-token.ensures.first c.terminal_of.ensures c.beginning_of.ensures c.in_default.not-If c.in_default.not-While c.in_default.not-Do c.in_default.not-For c.in_default.not-Pragma c.in_default.not-Empty c.in_default.not-Print c.in_default.not-Break c.in_default.not-Continue c.in_default.not-Name o h) (c.in_err-stmt-in_default.ensures f))

pub returns-in_ok-stmt-in_default : goal.returns-in_ok-stmt-in_default
returns-in_ok-stmt-in_default c = (c.in_ok-stmt-in_default.ensures.0, c.in_ok-stmt-in_default.ensures.1, λ x f b' o h. begun_other x f c.first-token.result.now c.args.cursor.now c.terminal_of.result c.beginning_of.result b' c.first-token.ensures.first c.terminal_of.ensures c.beginning_of.ensures c.in_default.not-If c.in_default.not-While c.in_default.not-Do c.in_default.not-For c.in_default.not-Pragma c.in_default.not-Empty c.in_default.not-Print c.in_default.not-Break c.in_default.not-Continue c.in_default.not-Name o (c.in_ok-stmt-in_default.ensures.2 f o h), simple_passed _ c.first-token.result.now c.args.cursor.now c.simple_then.new.cursor c.first-token.ensures.first (c.in_ok-stmt-in_default.ensures.2 (λ s z. any_expr)))
