-- One statement more is carried out; it is among those of the list, so it is well formed and no larger.
use Rattle.std.proofs.Common.{◌≡◌, ◌≤◌, ◌++◌, sym, ap, ◌∙◌, subst, rules, arith}
use Rattle.std.specs.Prelude.{IfOk, OnOk}
use Rattle.std.specs.Option.{option_map}
use Rattle.std.specs.Vec.Iter.{into_iter_items}
use denote.Param.Weighed.{most}
use Rattle.c_semantics.specs.Structure.Skeleton.{scope_after}
use Rattle.c_tree.specs.BareOf.{bare_stmt, bare_stmts}
use Rattle.c_tree.specs.declared.tree.Stmt.TheVariants.{If}
use Rattle.c_tree.proofs.tree.Stmt.TheLaws.{the_size}
use Rattle.carried_out.specs.CarriedOut.{carried}
use Rattle.loop_normal.specs.GenOf.{bare_gen}
use Rattle.loop_normal.specs.SourceOf.{source_of}
use Rattle.loop_counts.specs.Visible.{Visible}
use Rattle.apply_rewrite.proofs.Scopes.{out_of_list}
use Rattle.apply_rewrite.proofs.StatementMore.{if_else_left, if_else_tree, if_left, if_tree, left_step, nest_other, nest_step, next_no_larger, next_well_formed, next_whole, nowhere, scope_step, tree_step}
use Rattle.apply_rewrite.proofs.carrying.+carrying.Goals.{carried-in-None, carried-in-Some+in_ok-carried_all-in-Some}
use Rattle.apply_rewrite.proofs.carrying.+carrying.Goals as goal

pub carried_all-carried-requires : goal.carried_all-carried-requires
carried_all-carried-requires t c =
    let all = c.args.stmts in
    let whole : all ≡ c.each.yielded ++ into_iter_items c.each.stmt-iterator = c.each.invariant.whole in
    let next = whole ∙ ap (λ zs. c.each.yielded ++ zs) c.in-Some.ensures.steps.0 in
    let less : the_size c.in-Some.stmt ≤ most the_size all = next_no_larger the_size c.each.yielded c.in-Some.stmt (into_iter_items c.next.new.self) all next in
    (first_of (omega arith, search rules), next_well_formed c.each.yielded c.in-Some.stmt (into_iter_items c.next.new.self) all next c.requires)

pub carried_all-each-preserved : goal.carried_all-each-preserved
carried_all-each-preserved t c =
    let ds = c.args.scope.now.defines in
    let s = c.args.scope.now.state in
    let u = c.each.scope.state in
    let a = bare_stmt c.in-Some.stmt in
    let kept = c.each.invariant in
    let said = c.in_ok-stmt.ensures in
    let tree : bare_stmt c.in_ok-stmt.stmt ≡ (carried ds u a c.each.fresh).tree = said.tree ∙ ap (λ es. (carried es u a c.each.fresh).tree) kept.defines in
    let left : c.carried.new.fresh ≡ (carried ds u a c.each.fresh).left = said.left ∙ ap (λ es. (carried es u a c.each.fresh).left) kept.defines in
    let after : c.declare.new.scope ≡ record c.each.scope { state = scope_after (bare_stmt c.in_ok-stmt.stmt) u } =
    c.in_ok-declare.ensures ∙ ap (λ (v : Visible). record v { state = scope_after (bare_stmt c.in_ok-stmt.stmt) v.state }) said.scope in
    record {
      whole = next_whole c.each.yielded c.in-Some.stmt (into_iter_items c.next.new.self) (into_iter_items c.each.stmt-iterator) c.args.stmts kept.whole c.in-Some.ensures.steps.0;
      defines = ap (λ (v : Visible). v.defines) after ∙ kept.defines;
      state =
          scope_step ds s u c.each.yielded c.in-Some.stmt c.args.fresh.now c.each.fresh kept.state kept.left c.declare.new.scope.state c.in_ok-stmt.stmt tree
          (ap (λ (v : Visible). v.state) after);
      tree = tree_step ds s u c.each.yielded c.in-Some.stmt c.args.fresh.now c.each.fresh kept.state kept.left c.each.done c.push.new.self c.in_ok-stmt.stmt kept.tree tree c.in_ok-push.ensures.ok;
      left = left_step ds s u c.each.yielded c.in-Some.stmt c.args.fresh.now c.each.fresh kept.state kept.left c.carried.new.fresh left;
    }

pub nest-returns-in-None-clause-tree : goal.nest-returns-in-None-clause-tree
nest-returns-in-None-clause-tree t c =
    c.no_code.ensures ∙ sym (ap (λ m. m.tree) (nest_other c.args.scope.now.defines c.args.scope.now.state c.args.stmts c.args.fresh.now c.in-None.ensures))

pub nest-returns-in-None-clause-left : goal.nest-returns-in-None-clause-left
nest-returns-in-None-clause-left t c =
    sym (ap (λ m. m.left) (nest_other c.args.scope.now.defines c.args.scope.now.state c.args.stmts c.args.fresh.now c.in-None.ensures))

pub nest_in-returns-in_default-clause-tree : goal.nest_in-returns-in_default-clause-tree
nest_in-returns-in_default-clause-tree t c =
    c.no_code.ensures
    ∙ sym (ap (λ m. m.tree) (nowhere c.args.scope.now.defines c.args.scope.now.state c.args.stmt c.args.fresh.now c.in_default.not-For c.in_default.not-Block c.in_default.not-Omp))

pub nest_in-returns-in_default-clause-left : goal.nest_in-returns-in_default-clause-left
nest_in-returns-in_default-clause-left t c =
    sym (ap (λ m. m.left) (nowhere c.args.scope.now.defines c.args.scope.now.state c.args.stmt c.args.fresh.now c.in_default.not-For c.in_default.not-Block c.in_default.not-Omp))

pub carried_all-returns-clause-scope : goal.carried_all-returns-clause-scope
carried_all-returns-clause-scope t c =
    c.keep.ensures
    ∙ (λ i. record {
      defines = c.each.invariant.defines i;
      state = out_of_list (bare_stmts c.each.yielded) c.args.scope.now.state c.each.scope.state c.len-len.result c.each.invariant.state c.len-len.ensures i;
    })

pub carried-returns-after-no-2-clause-tree : goal.carried-returns-after-no-2-clause-tree
carried-returns-after-no-2-clause-tree t c =
    let v = c.args.scope.now in
    let f = c.args.fresh.now in
    let first = c.in_ok-yes-in-If.ensures in
    let step = if_else_tree v.defines v.state c.args.stmt c.in-If.test c.in-If.yes c.in_ok-yes-in-If.yes c.in-If.span f in
    elim c.match-no-2.branch [
      | carried-in-None w ↦
          ap (λ o. bare_stmt (If c.in-If.test c.in_ok-yes-in-If.yes o c.in-If.span)) w.no-is
          ∙ if_tree v.defines v.state c.args.stmt c.in-If.test c.in-If.yes c.in_ok-yes-in-If.yes c.in-If.span f (c.in-If.is ∙ ap (λ o. If c.in-If.test c.in-If.yes o c.in-If.span) w.in-None.is) first.tree
      | carried-in-Some+in_ok-carried_all-in-Some w ↦
          ap (λ o. bare_stmt (If c.in-If.test c.in_ok-yes-in-If.yes o c.in-If.span)) w.no-is
          ∙ step w.in-Some.no w.in_ok-carried_all-in-Some.field-0 c.carried_all.new.fresh w.carried_all-in-Some.new.fresh c.carried_all.new.scope (c.in-If.is ∙ ap (λ o. If c.in-If.test c.in-If.yes o c.in-If.span) w.in-Some.is) first.scope first.left first.tree w.in_ok-carried_all-in-Some.ensures.tree
    ]

pub carried-returns-after-no-2-clause-left : goal.carried-returns-after-no-2-clause-left
carried-returns-after-no-2-clause-left t c =
    let v = c.args.scope.now in
    let f = c.args.fresh.now in
    let first = c.in_ok-yes-in-If.ensures in
    let step = if_else_left v.defines v.state c.args.stmt c.in-If.test c.in-If.yes c.in_ok-yes-in-If.yes c.in-If.span f in
    elim c.match-no-2.branch [
      | carried-in-None w ↦
          w.fresh-is ∙ if_left v.defines v.state c.args.stmt c.in-If.test c.in-If.yes c.in_ok-yes-in-If.yes c.in-If.span f (c.in-If.is ∙ ap (λ o. If c.in-If.test c.in-If.yes o c.in-If.span) w.in-None.is) c.carried_all.new.fresh first.left
      | carried-in-Some+in_ok-carried_all-in-Some w ↦
          w.fresh-is
          ∙ step w.in-Some.no w.in_ok-carried_all-in-Some.field-0 c.carried_all.new.fresh w.carried_all-in-Some.new.fresh c.carried_all.new.scope (c.in-If.is ∙ ap (λ o. If c.in-If.test c.in-If.yes o c.in-If.span) w.in-Some.is) first.scope first.left w.in_ok-carried_all-in-Some.ensures.left
    ]

pub nest_in-returns-in_ok-body-in-For-clause-tree : goal.nest_in-returns-in_ok-body-in-For-clause-tree
nest_in-returns-in_ok-body-in-For-clause-tree t c =
    let said = c.in_ok-body-in-For.ensures in
    let made = nest_step c.args.scope.now.defines c.args.scope.now.state c.args.stmt c.in-For.head c.in-For.body c.in-For._span c.in_ok-body-in-For.body c.args.fresh.now c.carried_in_loop.new.fresh (option_map source_of c.in_ok-found-in-For.found) c.in-For.is c.in_ok-found-in-For.ensures said.tree said.left in
    subst (λ m. IfOk c.leaf.result (λ code. bare_gen code ≡ m.tree)) made c.leaf.ensures.tree

pub nest_in-returns-in_ok-body-in-For-clause-left : goal.nest_in-returns-in_ok-body-in-For-clause-left
nest_in-returns-in_ok-body-in-For-clause-left t c =
    let said = c.in_ok-body-in-For.ensures in
    let made = nest_step c.args.scope.now.defines c.args.scope.now.state c.args.stmt c.in-For.head c.in-For.body c.in-For._span c.in_ok-body-in-For.body c.args.fresh.now c.carried_in_loop.new.fresh (option_map source_of c.in_ok-found-in-For.found) c.in-For.is c.in_ok-found-in-For.ensures said.tree said.left in
    subst (λ m. OnOk c.leaf.result (c.leaf.new.fresh ≡ m.left)) made c.leaf.ensures.left
