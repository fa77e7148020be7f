-- Behind the place where the search begins no function has the name. The last item that is left is the function, or the
-- others have it.
use Rattle.std.proofs.Common.{◌≡◌, ◌∙◌, sym, ap, refl, subst, ℕ, min, length, map, take, ◌-◌, Some, List, Option, true, false, rules, arith}
use Rattle.std.specs.Prelude.{bytes_eq, unwrap_or}
use Rattle.resolved_names.specs.Numbered.{numbered_stmts}
use Rattle.resolved_names.specs.declared.tree.Param.{Param}
use Rattle.resolved_names.specs.declared.tree.Stmt.{Stmt}
use Rattle.c_semantics.specs.Meaning.SimpleStatements.{Function, function_named}
use Rattle.c_meaning.specs.Runnable.{RunnableStmts}
use Rattle.c_meaning.specs.Sizes.{stmts_size}
use Rattle.resolved_names.specs.Numbered.{number_name, numbered_top}
use Rattle.c_semantics.specs.Meaning.Programs.{env_after, no_env}
use Rattle.c_meaning.specs.PlaceTables.{place_at}
use Rattle.c_meaning.proofs.LastItems.{functions_before}
use Rattle.c_meaning.proofs.Numbers.{number_eq}
use Rattle.c_meaning.proofs.Lists.{good_before}
use Rattle.c_meaning.proofs.Calls.{function_at, function_found, function_passed, function_other, function_body, function_smaller}
use Rattle.c_meaning.proofs.functions.function_named.Goals as goal

pub each-init : goal.each-init
each-init c =
    let s = c.args.scope.now in
    let xs = s.items.now in
    let is : c.min-left.result ≡ min (unwrap_or (place_at s.last.now.functions c.args.name) 0) (length xs) = c.min-left.ensures ∙ ap (λ (k : ℕ). min k (length xs)) c.up_to_function.ensures in
    record {
      within = omega arith;
      among = ap (λ (k : ℕ). function_named (number_name c.args.name) (env_after s.bound no_env (map numbered_top (take k xs))).functions) is ∙ functions_before s.last.now xs s.stand_before s.bound c.args.name;
    }

pub returns-then-name-defined-clause-found : goal.returns-then-name-defined-clause-found
returns-then-name-defined-clause-found c =
    let s = c.args.scope.now in
    let xs = s.items.now in
    let left = c.each.left in
    let y = c.index-scope-left.result in
    let d = c.in-Function in
    let hit : bytes_eq (number_name c.args.name) (number_name d.defined) ≡ true = number_eq c.args.name d.defined ∙ search rules in
    let params = c.as_slice.ensures in
    let body = c.as_slice-then-name-defined.ensures in
    record {
      means = sym c.each.invariant.among
          ∙ (function_found s.bound xs left y c.each-test.true c.each.invariant.within c.index-scope-left.is (number_name c.args.name) d.defined d.params d.body (c.index-scope-left.is ∙ d.is) hit
          ∙ (ap {B = Option Function} (λ (ps : List Param). Some (function_at s.bound xs left y c.each-test.true c.each.invariant.within c.index-scope-left.is d.defined ps d.body)) (sym params)
          ∙ ap {B = Option Function} (λ (b : List Stmt). Some (function_at s.bound xs left y c.each-test.true c.each.invariant.within c.index-scope-left.is d.defined c.as_slice.result.now b)) (sym body)));
      bound = refl;
      known = good_before xs (left - 1) c.requires;
      body = subst (λ (b : List Stmt). RunnableStmts (numbered_stmts b)) (sym body) (function_body s.bound xs left y c.each-test.true c.each.invariant.within c.index-scope-left.is d.defined d.params d.body (c.index-scope-left.is ∙ d.is) c.requires);
      before = omega (arith, function_smaller s.bound xs left y c.each-test.true c.each.invariant.within c.index-scope-left.is d.defined d.params d.body (c.index-scope-left.is ∙ d.is), ap (λ (b : List Stmt). stmts_size (numbered_stmts b)) body);
    }

pub each-preserved-else-name-defined : goal.each-preserved-else-name-defined
each-preserved-else-name-defined c =
    let s = c.args.scope.now in
    let d = c.in-Function in
    let miss : bytes_eq (number_name c.args.name) (number_name d.defined) ≡ false = number_eq c.args.name d.defined ∙ search rules in
    record {
      within = omega arith;
      among = sym (function_passed s.bound s.items.now c.each.left c.index-scope-left.result c.each-test.true c.each.invariant.within c.index-scope-left.is (number_name c.args.name) d.defined d.params d.body (c.index-scope-left.is ∙ d.is) miss) ∙ c.each.invariant.among;
    }

pub each-preserved : goal.each-preserved
each-preserved c =
    let s = c.args.scope.now in
    record {
      within = omega arith;
      among = sym (function_other s.bound s.items.now c.each.left c.index-scope-left.result c.each-test.true c.each.invariant.within c.index-scope-left.is (number_name c.args.name) (λ d ps body e. c.in_default.not-Function d ps body (sym c.index-scope-left.is ∙ e))) ∙ c.each.invariant.among;
    }
