-- A program that breaks no loop rule, and whose directives only reverse, has bounds that don't name their loop's variable.
use Rattle.std.proofs.Common.{◌≡◌, refl, sym, subst, List, [], ◌∷◌, map, true, false, arith}
use Rattle.std.specs.Prelude.{is_some}
use Rattle.std.proofs.lemmas.Bool.{both_ways, and_parts}
use Rattle.c_tree.specs.Bare.{Name}
use Rattle.c_tree.specs.BareOf.{bare_program}
use Rattle.c_tree.specs.Placed.{Stmt, decl, set, step, print, input, if_, if_else, while_, do_, for_, block, break_, continue_, empty, omp, call, Stmts, no_stmts, more_stmts, head, define, extern_, global, function, main, Program}
use Rattle.c_tree.specs.PlacedOf.{placed_program}
use Rattle.c_tree.specs.Forget.{forget_stmt, forget_stmts, forget_head, forget_directive, forget_top, forget_param, forget_program}
use Rattle.c_tree.proofs.Forgotten.Programs.{bare_program_is}
use Rattle.c_semantics.specs.Meaning.State.{State, nowhere, with_frame}
use Rattle.c_semantics.specs.Meaning.Expressions.{Define}
use Rattle.c_semantics.specs.Meaning.FileVariables.{FunctionAccess, accesses_with, defines_with}
use Rattle.c_semantics.specs.Loops.CanonicalForm.{canonical}
use Rattle.c_semantics.specs.Loops.Directives.{plan_of}
use Rattle.c_semantics.specs.Structure.Skeleton.{scope_after, scope_in, params_frame}
use Rattle.c_scopes.specs.Types.{with_params}
use Rattle.c_scopes.specs.Laws as scopes
use Rattle.c_soundness.proofs.Checked.{breaks_none}
use Rattle.canonical_nests.specs.Weight as weight
use Rattle.canonical_nests.specs.LoopRules.BreachSets.{HasNone, or_else}
use Rattle.canonical_nests.specs.LoopRules.Accesses.{assigned_in, calls_in}
use Rattle.canonical_nests.specs.LoopRules.Heads as heads
use Rattle.canonical_nests.specs.LoopRules.Heads.{Changes, init_of, scope_below}
use Rattle.canonical_nests.specs.LoopRules.Structure as structure
use Rattle.canonical_nests.specs.LoopRules.Counts as counts
use Rattle.canonical_nests.specs.LoopRules.Programs.{clause_breaches, stmt_breaches, stmts_breaches, breaches_from, nest_breaches, height_breaches, weight_breaches, first_directive}
use Rattle.carried_out.specs.CarriedOut as c
use Rattle.carried_out.specs.CarriedOut.{loop_at, in_head}
use Rattle.carried_out.specs.Reversible.{all_stay_in, is_reversal, is_reversible, are_reversible, is_nest, is_nest_in, are_reversible_items, is_reversible_program}
use Rattle.carried_names.specs.BoundsApart.{HasBoundsApart, HaveBoundsApart, LeadsToBoundsApart, IsWithBoundsApart, ItemsHaveBoundsApart}
use Rattle.carried_names.specs.Laws.{AdmittedHaveBoundsApart, AdmittedCarriedOutBreaksNone}
use Rattle.carried_out.proofs.LoopsAsked.{asks_one}
use Rattle.canonical_nests.proofs.BreachSets.{neither_breaks}
use Rattle.carried_names.proofs.BoundReads.{bounds_free}
use Rattle.carried_names.proofs.Items as items

-- ---- statements

module _ (ds : List Define) (fs : List FunctionAccess) where
  mutual
    own_stmt : (u s : State) (a : Stmt) → is_reversible ds u (forget_stmt a) ≡ true → HasNone (stmt_breaches ds fs s 0 a) → HasBoundsApart ds (forget_stmt a)
    own_stmt u s (decl t x at e p) r h = tt
    own_stmt u s (set t o e p) r h = tt
    own_stmt u s (step t up p) r h = tt
    own_stmt u s (print e p) r h = tt
    own_stmt u s (input t at p) r h = tt
    own_stmt u s (break_ p) r h = tt
    own_stmt u s (continue_ p) r h = tt
    own_stmt u s (empty p) r h = tt
    own_stmt u s (call x at es p) r h = tt
    own_stmt u s (if_ e a p) r h = own_stmts u s a r h
    own_stmt u s (if_else e a b p) r h = (own_stmts u s a (and_parts _ _ r).0 h.0, own_stmts u s b (and_parts (are_reversible ds u (forget_stmts a)) _ r).1 h.1)
    own_stmt u s (while_ e a p) r h = own_stmts u s a r h
    own_stmt u s (do_ a e p) r h = own_stmts u s a r h
    own_stmt u s (for_ g a p) r h = own_stmts (in_head (forget_head g) u) (scope_in (init_of g) s) a r h
    own_stmt u s (block a p) r h = own_stmts u s a r h
    own_stmt u s (omp d a p) r h =
        let one = asks_one (plan_of ds (forget_directive d)) 0 (omega arith) (and_parts (is_reversal (plan_of ds (forget_directive d))) _ r).0 in
        let k : Changes = record { assigned = assigned_in [] a; called = calls_in a } in
        let tier1 = neither_breaks (clause_breaches ds d a) _ h.0 in
        let tier2 = neither_breaks (structure.construct_breaches ds d a) _ tier1.1 in
        let tier3 = neither_breaks (heads.construct_breaches ds fs s d a) (counts.construct_breaches ds s d a) tier2.1 in
        own_nest k u s s [] a (and_parts (is_reversal (plan_of ds (forget_directive d))) _ r).1
        (subst (λ m. HasNone (heads.stmts_breaches ds fs k s [] m a)) one tier3.0) (subst (λ m. HasNone (stmts_breaches ds fs s m a)) one h.1)

    own_stmts : (u s : State) (a : Stmts) → are_reversible ds u (forget_stmts a) ≡ true → HasNone (stmts_breaches ds fs s 0 a) → HaveBoundsApart ds (forget_stmts a)
    own_stmts u s no_stmts r h = tt
    own_stmts u s (more_stmts a as') r h =
        (own_stmt u s a (and_parts _ _ r).0 h.0, own_stmts (scope_after (forget_stmt a) u) (scope_after (forget_stmt a) s) as' (and_parts (is_reversible ds u (forget_stmt a)) _ r).1 h.1)

    own_nest : (k : Changes) (u s v : State) (round : List Name) (a : Stmts) → is_nest ds u (forget_stmts a) ≡ true → HasNone (heads.stmts_breaches ds fs k s round 1 a) → HasNone (stmts_breaches ds fs v 1 a) → LeadsToBoundsApart ds (forget_stmts a)
    own_nest k u s v round no_stmts r h g = tt
    own_nest k u s v round (more_stmts a no_stmts) r h g = own_nest_in k u s v round a r h.0 g.0
    own_nest k u s v round (more_stmts a (more_stmts b as')) r h g = tt

    own_nest_in : (k : Changes) (u s v : State) (round : List Name) (a : Stmt) → is_nest_in ds u (forget_stmt a) ≡ true → HasNone (heads.stmt_breaches ds fs k s round 1 a) → HasNone (stmt_breaches ds fs v 1 a) → IsWithBoundsApart ds (forget_stmt a)
    own_nest_in k u s v round (for_ (head i i_at e e_at next next_at) a p) r h g =
        let o = forget_head (head i i_at e e_at next next_at) in
        let rest = (and_parts (is_some (loop_at ds u o)) _ r).1 in (
          bounds_free fs s k round ds i i_at e e_at next next_at a h.1.1.0,
          own_stmts (c.scope_below u (loop_at ds u o)) (scope_below ds v (init_of (head i i_at e e_at next next_at)) (canonical ds o)) a (and_parts (all_stay_in (forget_stmts a)) _ rest).1 g,
        )
    own_nest_in k u s v round (block a p) r h g = own_nest k u s v round a r h g
    own_nest_in k u s v round (omp d a p) r h g =
        let one = asks_one (plan_of ds (forget_directive d)) 1 (omega arith) (and_parts (is_reversal (plan_of ds (forget_directive d))) _ r).0 in
        own_nest k u s v round a (and_parts (is_reversal (plan_of ds (forget_directive d))) _ r).1
        (subst (λ m. HasNone (heads.stmts_breaches ds fs k s round m a)) one h) (subst (λ m. HasNone (stmts_breaches ds fs v m a)) one g)
    own_nest_in k u s v round a r h g = absurd (both_ways false refl r)

-- ---- items

own_items : (ds : List Define) (fs : List FunctionAccess) (u s : State) (p : Program) → are_reversible_items ds u (forget_program p) ≡ true → HasNone (breaches_from ds fs s p) → ItemsHaveBoundsApart ds (forget_program p)
own_items ds fs u s [] r h = tt
own_items ds fs u s (define x minus v t at ∷ is) r h = (tt, own_items (defines_with ds (forget_top (define x minus v t at))) fs u s is r h.1)
own_items ds fs u s (extern_ port at ∷ is) r h = (tt, own_items ds fs u s is r h.1)
own_items ds fs u s (global t x at dims e ∷ is) r h =
    (tt, own_items ds fs (scopes.scope_with u (forget_top (global t x at dims e))) (weight.scope_with s (forget_top (global t x at dims e))) is r h.1)
own_items ds fs u s (function x at ps a span ∷ is) r h = (
  own_stmts ds fs (with_params (map forget_param ps) u) (with_frame (params_frame (map forget_param ps)) s) a (and_parts _ _ r).0 h.0,
  own_items ds (accesses_with ds fs (forget_top (function x at ps a span))) u s is (and_parts (are_reversible ds (with_params (map forget_param ps) u) (forget_stmts a)) _ r).1 h.1,
)
own_items ds fs u s (main a span ∷ is) r h =
    (own_stmts ds fs u s a (and_parts _ _ r).0 h.0, own_items ds (accesses_with ds fs (forget_top (main a span))) u s is (and_parts (are_reversible ds u (forget_stmts a)) _ r).1 h.1)

pub bounds_apart : AdmittedHaveBoundsApart
bounds_apart p h r = own_items [] [] nowhere nowhere p r h

pub admitted_breaks_none : AdmittedCarriedOutBreaksNone
admitted_breaks_none program admitted r =
    let p = placed_program program in
    let same = bare_program_is program in
    let rules = neither_breaks (nest_breaches p) (or_else (height_breaches (first_directive p) p) (weight_breaches (first_directive p) p)) admitted.no_breach in
    let own = bounds_apart p rules.0 (subst (λ q. is_reversible_program q ≡ true) same r) in
    items.breaks_none (bare_program program) admitted.checked.well_formed (breaks_none program admitted.checked) r (subst (λ q. ItemsHaveBoundsApart [] q) (sym same) own)
