-- The form of a head, by its parts.
use Rattle.std.proofs.Common.{◌≡◌, ◌∙◌, refl, sym, ap, ℕ, List, true, false, Option, Some, None}
use Rattle.std.specs.Prelude.{is_none}
use Rattle.std.proofs.lemmas.Bool.{false≢true}
use Rattle.std.specs.Option.{option_map}
use Rattle.c_tree.specs.Bare as b
use Rattle.c_tree.specs.BareOf as bare
use Rattle.c_tree.specs.BareOf.{bare_expr, bare_stmt, bare_head}
use Rattle.c_tree.specs.Placed as p
use Rattle.c_tree.specs.PlacedOf.{placed_head}
use Rattle.c_tree.specs.Forget.{forget_head}
use Rattle.c_tree.specs.declared.tree.ForHead.{ForHead, out-ForHead}
use Rattle.c_tree.proofs.Heads.{bare_head_out, placed_head_out}
use Rattle.c_tree.proofs.Forgotten.Stmts.{bare_head_is}
use Rattle.c_semantics.specs.Meaning.Expressions.{Define}
use Rattle.c_semantics.specs.Loops.CanonicalForm as form
use Rattle.c_semantics.specs.Loops.CanonicalForm.{Canonical, Init, Test, canonical}
use Rattle.canonical_nests.specs.LoopRules.BreachSets.{BreachSet, least, breach_if}
use Rattle.canonical_nests.specs.LoopRules.Heads.{form_breaches, init_breaches, test_breaches, step_breaches}
use Rattle.canonical_nests.specs.declared.rules.LoopRule.TheVariants.{L2, L3, L4}

-- by the bare head and the places of its parts
bare_form : List Define → b.Head → ℕ → ℕ → ℕ → BreachSet
bare_form ds (b.head i e next) i_at e_at next_at = init_breaches (form.init i) e i_at e_at (canonical ds (b.head i e next)) next_at

init_place : p.Head → ℕ
init_place (p.head i i_at e e_at next next_at) = i_at

test_place : p.Head → ℕ
test_place (p.head i i_at e e_at next next_at) = e_at

step_place : p.Head → ℕ
step_place (p.head i i_at e e_at next next_at) = next_at

placed_form : (ds : List Define) (h : p.Head) → form_breaches ds h ≡ bare_form ds (forget_head h) (init_place h) (test_place h) (step_place h)
unfolding bare_form init_place test_place step_place
placed_form ds (p.head i i_at e e_at next next_at) = refl

module _ (ds : List Define) (h : ForHead) where
  abbrev pub begin : b.MaybeStmt
  begin = bare.maybe_stmt (option_map bare_stmt (out-ForHead h).init)

  abbrev pub end : Option b.Expr
  end = option_map bare_expr (out-ForHead h).test

  form_is : form_breaches ds (placed_head h)
      ≡ init_breaches (form.init begin) end (out-ForHead h).init_at (out-ForHead h).test_at (canonical ds (bare_head h)) (out-ForHead h).step_at
  unfolding bare_form init_place test_place step_place
  form_is =
      let at = placed_head_out h in
      placed_form ds (placed_head h)
      ∙ ((λ j. bare_form ds (sym (bare_head_is h) j) (init_place (at j)) (test_place (at j)) (step_place (at j)))
      ∙ ((λ j. bare_form ds (bare_head_out h j) (out-ForHead h).init_at (out-ForHead h).test_at (out-ForHead h).step_at)
      ∙ (λ j. init_breaches (form.init begin) end (out-ForHead h).init_at (out-ForHead h).test_at (canonical ds (sym (bare_head_out h) j)) (out-ForHead h).step_at)))

  pub no_init : form.init begin ≡ None → least (form_breaches ds (placed_head h)) ≡ least (breach_if true L2 (out-ForHead h).init_at)
  no_init e =
      ap least form_is
      ∙ ap (λ o. least (init_breaches o end (out-ForHead h).init_at (out-ForHead h).test_at (canonical ds (bare_head h)) (out-ForHead h).step_at)) e

  some_init : (i : Init) → form.init begin ≡ Some i → form_breaches ds (placed_head h)
      ≡ test_breaches (form.test i.var end) (out-ForHead h).test_at (canonical ds (bare_head h)) (out-ForHead h).step_at
  some_init i e =
      form_is
      ∙ ap (λ o. init_breaches o end (out-ForHead h).init_at (out-ForHead h).test_at (canonical ds (bare_head h)) (out-ForHead h).step_at) e

  untested : (o : Option Test) (c : Option Canonical) (at next_at : ℕ) → is_none o ≡ true → test_breaches o at c next_at ≡ breach_if true L3 at
  untested None c at next_at e = refl
  untested (Some t) c at next_at e = absurd (false≢true e)

  tested : (o : Option Test) (c : Option Canonical) (at next_at : ℕ) → is_none o ≡ false → test_breaches o at c next_at ≡ step_breaches c next_at
  tested None c at next_at e = absurd (false≢true (sym e))
  tested (Some t) c at next_at e = refl

  pub no_test : (i : Init) → form.init begin ≡ Some i → is_none (form.test i.var end) ≡ true
      → least (form_breaches ds (placed_head h)) ≡ least (breach_if true L3 (out-ForHead h).test_at)
  no_test i e f = ap least (some_init i e ∙ untested (form.test i.var end) (canonical ds (bare_head h)) (out-ForHead h).test_at (out-ForHead h).step_at f)

  pub step_left : (i : Init) → form.init begin ≡ Some i → is_none (form.test i.var end) ≡ false
      → least (form_breaches ds (placed_head h)) ≡ least (breach_if (is_none (canonical ds (bare_head h))) L4 (out-ForHead h).step_at)
  step_left i e f = ap least (some_init i e ∙ tested (form.test i.var end) (canonical ds (bare_head h)) (out-ForHead h).test_at (out-ForHead h).step_at f)

pub none_of_map : {A B : Type 0} (f : A → B) (o : Option A) → is_none (option_map f o) ≡ is_none o
none_of_map f None = refl
none_of_map f (Some x) = refl

pub ruleset forms = (no_init, no_test, step_left)
