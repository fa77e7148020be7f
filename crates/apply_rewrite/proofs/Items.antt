-- Programs with their constructs carried out, item by item.
use Rattle.std.proofs.Common.{◌≡◌, refl, List, [], ◌∷◌, true}
use Rattle.c_tree.specs.Bare.{Name, define, extern_, global, function, main, Program}
use Rattle.c_tree.specs.WellFormed.{WellFormedTops}
use Rattle.c_semantics.specs.Meaning.State.{State}
use Rattle.c_semantics.specs.Meaning.Expressions.{Define}
use Rattle.c_semantics.specs.Meaning.FileVariables.{defines_with}
use Rattle.c_semantics.specs.Laws.Names.{UsesAll}
use Rattle.c_scopes.specs.Types.{with_params}
use Rattle.c_scopes.specs.Laws.{scope_with}
use Rattle.loop_normal.specs.DrawnNames.{FreshNames, AreDigits}
use Rattle.apply_rewrite.specs.NoDirectives.{HoldsNoDirective}
use Rattle.apply_rewrite.specs.Rewritten.{ProgramRewritten}
use Rattle.carried_out.specs.CarriedOut.{carried_all, carried_items}
use Rattle.carried_out.specs.Reversible.{are_reversible, are_reversible_items}
use Rattle.apply_rewrite.proofs.NamesMore.{AnyCall, all_more}
use Rattle.carried_out.proofs.SpentNames.{Spent}
use Rattle.apply_rewrite.proofs.CarriedOut.{good_stmts}
use Rattle.std.proofs.lemmas.Bool.{and_parts}

-- the names of the bodies
abbrev pub BodiesUse : (Name → Type 0) → Program → Type 0
BodiesUse P [] = Unit {0}
BodiesUse P (function x ps a ∷ is) = UsesAll P AnyCall a × BodiesUse P is
BodiesUse P (main a ∷ is) = UsesAll P AnyCall a × BodiesUse P is
BodiesUse P (_ ∷ is) = BodiesUse P is

pub bodies_more : (P Q : Name → Type 0) → ((x : Name) → P x → Q x) → (is : Program) → BodiesUse P is → BodiesUse Q is
bodies_more P Q more [] u = tt
bodies_more P Q more (function x ps a ∷ is) u = (all_more P Q more a u.0, bodies_more P Q more is u.1)
bodies_more P Q more (main a ∷ is) u = (all_more P Q more a u.0, bodies_more P Q more is u.1)
bodies_more P Q more (define x minus k t ∷ is) u = bodies_more P Q more is u
bodies_more P Q more (extern_ p ∷ is) u = bodies_more P Q more is u
bodies_more P Q more (global t x dims e ∷ is) u = bodies_more P Q more is u

-- what is made of a program
pub record GoodItems (ds : List Define) (s : State) (is js : Program) : Type 0 where
  pub related : ProgramRewritten ds s is js
  pub plain : HoldsNoDirective js

pub good_items : (is : Program) (ds : List Define) (s : State) → are_reversible_items ds s is ≡ true → WellFormedTops is → (f : FreshNames) → AreDigits f.digits → BodiesUse (Spent f) is → GoodItems ds s is (carried_items ds s is f).tree
good_items [] ds s h w f d u = record { related = tt; plain = tt }
good_items (function x ps a ∷ is) ds s h w f d u =
    let g = good_stmts ds (with_params ps s) a (and_parts _ _ h).0 w.0.2 f d u.0 in
    let m = carried_all ds (with_params ps s) a f in
    let rest = good_items is ds s (and_parts (are_reversible ds (with_params ps s) a) _ h).1 w.1 m.left g.digits (bodies_more (Spent f) (Spent m.left) g.later is u.1) in
    record { related = ((refl, refl, g.related), rest.related); plain = (g.plain, rest.plain) }
good_items (main a ∷ is) ds s h w f d u =
    let g = good_stmts ds s a (and_parts _ _ h).0 w.0 f d u.0 in
    let m = carried_all ds s a f in
    let rest = good_items is ds s (and_parts (are_reversible ds s a) _ h).1 w.1 m.left g.digits (bodies_more (Spent f) (Spent m.left) g.later is u.1) in
    record { related = (g.related, rest.related); plain = (g.plain, rest.plain) }
good_items (define x minus k t ∷ is) ds s h w f d u =
    let rest = good_items is (defines_with ds (define x minus k t)) s h w.1 f d u in
    record { related = (refl, rest.related); plain = rest.plain }
good_items (extern_ p ∷ is) ds s h w f d u =
    let rest = good_items is ds s h w.1 f d u in
    record { related = (refl, rest.related); plain = rest.plain }
good_items (global t x dims e ∷ is) ds s h w f d u =
    let rest = good_items is ds (scope_with s (global t x dims e)) h w.1 f d u in
    record { related = (refl, rest.related); plain = rest.plain }
