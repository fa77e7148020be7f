-- The tall height of an admitted program is within the limit: by a rule where it has a directive, and elsewhere it is the
-- height.
use Rattle.std.proofs.Common.{◌≡◌, refl, sym, subst, ◌≤◌, ◌<◌, ℕ, [], ◌∷◌, Option, Some, None, Bool, true, false, arith}
use Rattle.std.specs.Prelude.{nat_lt}
use Rattle.std.specs.Option.{option_or}
use Rattle.std.proofs.lemmas.Bool.{both_ways, lt-ltb, cases_lt}
use Rattle.std.proofs.Common.{◌⊎◌, inl, inr}
use Rattle.c_tree.specs.BareOf.{bare_program}
use Rattle.c_tree.specs.Checked.{most_height}
use Rattle.c_tree.specs.Height.{expr_height, head_height, stmt_height, stmts_height, top_height, program_height}
use Rattle.c_tree.specs.Placed.{Stmt, decl, set, step, print, input, if_, if_else, while_, do_, for_, block, break_, continue_, empty, omp, directive, call, Stmts, no_stmts, more_stmts, Top, define, extern_, global, function, main, Program}
use Rattle.c_tree.specs.PlacedOf.{placed_program}
use Rattle.c_tree.specs.Forget.{forget_expr, forget_head, forget_stmt, forget_stmts, forget_top, forget_program}
use Rattle.c_tree.proofs.Forgotten.Programs.{bare_program_is}
use Rattle.canonical_nests.specs.TallHeight.{tall_stmt, tall_stmts, tall_top, tall_height}
use Rattle.canonical_nests.specs.LoopRules.BreachSets.{BreachSet, HasNone, or_else, breach_if}
use Rattle.canonical_nests.specs.LoopRules.Programs.{stmt_directive, stmts_directive, top_directive, first_directive, nest_breaches, height_breaches, weight_breaches}
use Rattle.canonical_nests.specs.declared.rules.LoopRule.TheVariants.{L26}
use Rattle.canonical_nests.proofs.BreachSets.{neither_breaks}
use Rattle.carried_heights.specs.Laws.{AdmittedCarriedOutIsLow}
use Rattle.carried_heights.proofs.Walk.{under_both, one_more, no_higher}

-- ---- without a directive

first_later : (o p : Option ℕ) → option_or o p ≡ None → o ≡ None
first_later None p h = refl
first_later (Some k) p h = h

second_later : (o p : Option ℕ) → option_or o p ≡ None → p ≡ None
second_later None p h = h
second_later (Some k) p h = absurd (cc)

mutual
  stmt_plain : (a : Stmt) → stmt_directive a ≡ None → tall_stmt (forget_stmt a) ≤ stmt_height (forget_stmt a)
  stmt_plain (decl t x at e s) h = omega arith
  stmt_plain (set t o e s) h = omega arith
  stmt_plain (step t up s) h = omega arith
  stmt_plain (print e s) h = omega arith
  stmt_plain (input t at s) h = omega arith
  stmt_plain (break_ s) h = omega arith
  stmt_plain (continue_ s) h = omega arith
  stmt_plain (empty s) h = omega arith
  stmt_plain (call x at es s) h = omega arith
  stmt_plain (if_ e a s) h = one_more (under_both (expr_height (forget_expr e)) _ (expr_height (forget_expr e)) _ (omega arith) (stmts_plain a h))
  stmt_plain (if_else e a b s) h =
      one_more (under_both (expr_height (forget_expr e)) _ (expr_height (forget_expr e)) _ (omega arith) (under_both _ _ _ _ (stmts_plain a (first_later _ _ h)) (stmts_plain b (second_later (stmts_directive a) _ h))))
  stmt_plain (while_ e a s) h = one_more (under_both (expr_height (forget_expr e)) _ (expr_height (forget_expr e)) _ (omega arith) (stmts_plain a h))
  stmt_plain (do_ a e s) h = one_more (under_both _ (expr_height (forget_expr e)) _ (expr_height (forget_expr e)) (stmts_plain a h) (omega arith))
  stmt_plain (for_ g a s) h = one_more (under_both (head_height (forget_head g)) _ (head_height (forget_head g)) _ (omega arith) (stmts_plain a h))
  stmt_plain (block a s) h = one_more (stmts_plain a h)
  stmt_plain (omp (directive k cs at) a s) h = absurd (cc)

  stmts_plain : (a : Stmts) → stmts_directive a ≡ None → tall_stmts (forget_stmts a) ≤ stmts_height (forget_stmts a)
  stmts_plain no_stmts h = omega arith
  stmts_plain (more_stmts a as') h = under_both _ _ _ _ (stmt_plain a (first_later _ _ h)) (stmts_plain as' (second_later (stmt_directive a) _ h))

top_plain : (i : Top) → top_directive i ≡ None → tall_top (forget_top i) ≤ top_height (forget_top i)
top_plain (define x minus k t at) h = omega arith
top_plain (extern_ port s) h = omega arith
top_plain (global t x at dims e) h = omega arith
top_plain (function x at ps a s) h = one_more (stmts_plain a h)
top_plain (main a s) h = one_more (stmts_plain a h)

plain_low : (p : Program) → first_directive p ≡ None → tall_height (forget_program p) ≤ program_height (forget_program p)
plain_low [] h = omega arith
plain_low (i ∷ is) h = under_both _ _ _ _ (top_plain i (first_later _ _ h)) (plain_low is (second_later (top_directive i) _ h))

-- ---- by the rules

-- a rule that isn't broken
not_broken : (t : Bool) (at : ℕ) (ys : BreachSet) → HasNone (or_else (breach_if t L26 at) ys) → t ≡ false
not_broken true at ys h = absurd h
not_broken false at ys h = refl

tall_low : (p : Program) → (o : Option ℕ) → first_directive p ≡ o → (ys : BreachSet) → HasNone (or_else (height_breaches o p) ys) → program_height (forget_program p) ≤ most_height → tall_height (forget_program p) ≤ most_height
tall_low p None e ys h low = let m = plain_low p e in omega arith
tall_low p (Some at) e ys h low =
    let within : nat_lt most_height (tall_height (forget_program p)) ≡ false = not_broken (nat_lt most_height (tall_height (forget_program p))) at ys h in
    by within (cases_lt most_height (tall_height (forget_program p)))
  where
    by : nat_lt most_height (tall_height (forget_program p)) ≡ false → (most_height < tall_height (forget_program p)) ⊎ (tall_height (forget_program p) ≤ most_height) → tall_height (forget_program p) ≤ most_height
    by e (inl l) = absurd (both_ways (nat_lt most_height (tall_height (forget_program p))) e (lt-ltb most_height (tall_height (forget_program p)) l))
    by e (inr l) = l

pub admitted_low : AdmittedCarriedOutIsLow
admitted_low program admitted =
    let p = placed_program program in
    let o = first_directive p in
    let same = bare_program_is program in
    let tall = tall_low p o refl (weight_breaches o p) (neither_breaks (nest_breaches p) (or_else (height_breaches o p) (weight_breaches o p)) admitted.no_breach).1
    (subst (λ q. program_height q ≤ most_height) same admitted.checked.height) in
    let own : tall_height (bare_program program) ≤ most_height = subst (λ q. tall_height q ≤ most_height) (sym same) tall in
    let no_more = no_higher (bare_program program) in
    omega arith
