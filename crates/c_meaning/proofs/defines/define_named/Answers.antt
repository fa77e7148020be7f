-- Behind the place where the search begins no define has the name. The last item that is left is the define, or the others
-- have it.
use Rattle.std.proofs.Common.{◌≡◌, ◌∙◌, sym, ap, ℕ, min, Some, true, false, length, map, take, rules, arith}
use Rattle.std.specs.Prelude.{bytes_eq, unwrap_or}
use Rattle.resolved_names.specs.Numbered.{number_name, numbered_top}
use Rattle.c_semantics.specs.Meaning.Programs.{env_after, no_env}
use Rattle.c_meaning.specs.PlaceTables.{place_at}
use Rattle.c_meaning.specs.Scopes.{constant_in}
use Rattle.c_meaning.proofs.LastItems.{defines_before}
use Rattle.c_meaning.proofs.Numbers.{number_eq}
use Rattle.c_meaning.proofs.Scopes.{define_found, define_passed, define_other}
use Rattle.c_meaning.proofs.defines.define_named.Goals as goal

pub each-init : goal.each-init
each-init c =
    let s = c.args.scope.now in
    let xs = s.items.now in
    let is : c.min-left.result ≡ min (unwrap_or (place_at s.last.now.defines c.args.name) 0) (length xs) = c.min-left.ensures ∙ ap (λ (k : ℕ). min k (length xs)) c.up_to_define.ensures in
    record {
      within = omega arith;
      among = ap (λ (k : ℕ). constant_in (env_after s.bound no_env (map numbered_top (take k xs))).defines (number_name c.args.name)) is ∙ defines_before s.last.now xs s.stand_before s.bound c.args.name;
    }

pub returns-then-name-defined : goal.returns-then-name-defined
returns-then-name-defined c =
    let s = c.args.scope.now in
    let d = c.in-Define in
    let hit : bytes_eq (number_name c.args.name) (number_name d.defined) ≡ true = number_eq c.args.name d.defined ∙ search rules in
    ap Some c.defined_as.ensures
    ∙ (sym (define_found s.bound s.items.now c.each.left c.index-scope-left.result c.each-test.true c.each.invariant.within c.index-scope-left.is (number_name c.args.name) d.defined d.negative d.value d.ty (c.index-scope-left.is ∙ d.is) hit)
    ∙ c.each.invariant.among)

pub each-preserved-else-name-defined : goal.each-preserved-else-name-defined
each-preserved-else-name-defined c =
    let s = c.args.scope.now in
    let d = c.in-Define in
    let miss : bytes_eq (number_name c.args.name) (number_name d.defined) ≡ false = number_eq c.args.name d.defined ∙ search rules in
    record {
      within = omega arith;
      among = sym (define_passed s.bound s.items.now c.each.left c.index-scope-left.result c.each-test.true c.each.invariant.within c.index-scope-left.is (number_name c.args.name) d.defined d.negative d.value d.ty (c.index-scope-left.is ∙ d.is) miss) ∙ c.each.invariant.among;
    }

pub each-preserved : goal.each-preserved
each-preserved c =
    let s = c.args.scope.now in
    record {
      within = omega arith;
      among = sym (define_other s.bound s.items.now c.each.left c.index-scope-left.result c.each-test.true c.each.invariant.within c.index-scope-left.is (number_name c.args.name) (λ d neg k t e. c.in_default.not-Define d neg k t (sym c.index-scope-left.is ∙ e))) ∙ c.each.invariant.among;
    }
