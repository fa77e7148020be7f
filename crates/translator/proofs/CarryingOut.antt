-- What stands for a program: itself where it has no directive, else the program in which its directives are carried out.
use Rattle.std.proofs.Common.{◌≡◌, ℕ, List, ℤ, true, [], ◌∷◌, None, refl, sym, ◌∙◌, ap, subst}
use Rattle.c_tree.specs.Bare.{Stmt, decl, set, step, print, input, if_, if_else, while_, do_, for_, block, break_, continue_, empty, omp, call, Stmts, no_stmts, more_stmts, head, MaybeStmt, no_stmt, a_stmt, define, extern_, global, function, main, Program}
use Rattle.c_tree.specs.BareOf.{bare_program}
use Rattle.c_tree.specs.PlacedOf.{placed_program}
use Rattle.c_tree.specs.Checked.{IsChecked}
use Rattle.c_tree.specs.Forget.{forget_program}
use Rattle.c_tree.specs.WellFormed.{WellFormed}
use Rattle.c_tree.specs.declared.tree.Program as code
use Rattle.c_semantics.specs.Meaning.State.{State, nowhere}
use Rattle.c_semantics.specs.Meaning.Expressions.{Define}
use Rattle.c_semantics.specs.Meaning.FileVariables.{defines_with}
use Rattle.c_semantics.specs.Meaning.Programs.{outcome, turns_of}
use Rattle.c_semantics.specs.Structure.Skeleton.{skeleton, scope_after}
use Rattle.c_scopes.specs.Types.{with_params}
use Rattle.c_scopes.specs.Laws.{scope_with}
use Rattle.c_meaning.specs.Plain.{is_plain_stmt, are_plain_stmts, is_plain_part, is_plain_head, is_plain}
use Rattle.canonical_nests.specs.LoopRules.Programs.{first_directive}
use Rattle.loop_normal.specs.DrawnNames.{FreshNames}
use Rattle.carried_out.specs.CarriedOut.{in_head, carried, carried_all, carried_items, carried_out}
use Rattle.loop_normal.specs.SourceNames.{beside_program}
use Rattle.std.proofs.lemmas.Bool.{and_parts, and_from}
use Rattle.apply_rewrite.specs.NoDirectives.{NoDirective, NoDirectives, NoDirectiveIf, HoldsNoDirective}
use Rattle.translator.specs.Answers.{IsBuilt, StandsFor, CarriesOut}
use Rattle.translator.proofs.AllReverse.{built_reverses}
use Rattle.translator.proofs.Breaches.{breaks_none}
use Rattle.translator.proofs.Plain.{plain_program}

-- ---- what holds no directive is plain

mutual
  plain_stmt : (a : Stmt) → NoDirective a → is_plain_stmt a ≡ true
  plain_stmt (if_ e a) h = plain_stmts a h
  plain_stmt (if_else e a b) h = and_from _ _ (plain_stmts a h.0) (plain_stmts b h.1)
  plain_stmt (while_ e a) h = plain_stmts a h
  plain_stmt (do_ a e) h = plain_stmts a h
  plain_stmt (for_ (head i e next) a) h = and_from _ _ (and_from _ _ (plain_part i h.0) (plain_part next h.1)) (plain_stmts a h.2)
  plain_stmt (block a) h = plain_stmts a h
  plain_stmt (omp d a) h = absurd h
  plain_stmt (decl t x e) h = refl
  plain_stmt (set t op e) h = refl
  plain_stmt (step t up) h = refl
  plain_stmt (print e) h = refl
  plain_stmt (input t) h = refl
  plain_stmt break_ h = refl
  plain_stmt continue_ h = refl
  plain_stmt empty h = refl
  plain_stmt (call x es) h = refl

  plain_stmts : (a : Stmts) → NoDirectives a → are_plain_stmts a ≡ true
  plain_stmts no_stmts h = refl
  plain_stmts (more_stmts a as') h = and_from _ _ (plain_stmt a h.0) (plain_stmts as' h.1)

  plain_part : (i : MaybeStmt) → NoDirectiveIf i → is_plain_part i ≡ true
  plain_part no_stmt h = refl
  plain_part (a_stmt a) h = plain_stmt a h

holds_none : (p : Program) → HoldsNoDirective p → is_plain p ≡ true
holds_none [] h = refl
holds_none (define x minus k t ∷ is) h = holds_none is h
holds_none (extern_ port ∷ is) h = holds_none is h
holds_none (global t x dims e ∷ is) h = holds_none is h
holds_none (function x ps a ∷ is) h = and_from _ _ (plain_stmts a h.0) (holds_none is h.1)
holds_none (main a ∷ is) h = and_from _ _ (plain_stmts a h.0) (holds_none is h.1)

-- ---- a plain program stays as it is

module _ (ds : List Define) where
  mutual
    stmt_stays : (s : State) (a : Stmt) (f : FreshNames) → is_plain_stmt a ≡ true → (carried ds s a f).tree ≡ a
    stmt_stays s (if_ e a) f h = ap (if_ e) (stmts_stay s a f h)
    stmt_stays s (if_else e a b) f h =
        ap (λ c. if_else e c (carried_all ds s b (carried_all ds s a f).left).tree) (stmts_stay s a f (and_parts (are_plain_stmts a) (are_plain_stmts b) h).0)
        ∙ ap (if_else e a) (stmts_stay s b (carried_all ds s a f).left (and_parts (are_plain_stmts a) (are_plain_stmts b) h).1)
    stmt_stays s (while_ e a) f h = ap (while_ e) (stmts_stay s a f h)
    stmt_stays s (do_ a e) f h = ap (λ b. do_ b e) (stmts_stay s a f h)
    stmt_stays s (for_ i a) f h = ap (for_ i) (stmts_stay (in_head i s) a f (and_parts (is_plain_head i) (are_plain_stmts a) h).1)
    stmt_stays s (block a) f h = ap block (stmts_stay s a f h)
    stmt_stays s (omp d a) f h = cc
    stmt_stays s (decl t x e) f h = refl
    stmt_stays s (set t op e) f h = refl
    stmt_stays s (step t up) f h = refl
    stmt_stays s (print e) f h = refl
    stmt_stays s (input t) f h = refl
    stmt_stays s break_ f h = refl
    stmt_stays s continue_ f h = refl
    stmt_stays s empty f h = refl
    stmt_stays s (call x es) f h = refl

    stmts_stay : (s : State) (a : Stmts) (f : FreshNames) → are_plain_stmts a ≡ true → (carried_all ds s a f).tree ≡ a
    stmts_stay s no_stmts f h = refl
    stmts_stay s (more_stmts a as') f h =
        ap (λ b. more_stmts b (carried_all ds (scope_after a s) as' (carried ds s a f).left).tree) (stmt_stays s a f (and_parts (is_plain_stmt a) (are_plain_stmts as') h).0)
        ∙ ap (more_stmts a) (stmts_stay (scope_after a s) as' (carried ds s a f).left (and_parts (is_plain_stmt a) (are_plain_stmts as') h).1)

items_stay : (ds : List Define) (s : State) (p : Program) (f : FreshNames) → is_plain p ≡ true → (carried_items ds s p f).tree ≡ p
items_stay ds s [] f h = refl
items_stay ds s (define x minus k t ∷ is) f h = ap (λ js. define x minus k t ∷ js) (items_stay (defines_with ds (define x minus k t)) (scope_with s (define x minus k t)) is f h)
items_stay ds s (extern_ port ∷ is) f h = ap (λ js. extern_ port ∷ js) (items_stay (defines_with ds (extern_ port)) (scope_with s (extern_ port)) is f h)
items_stay ds s (global t x dims e ∷ is) f h = ap (λ js. global t x dims e ∷ js) (items_stay (defines_with ds (global t x dims e)) (scope_with s (global t x dims e)) is f h)
items_stay ds s (function x ps a ∷ is) f h =
    let m = carried_all ds (with_params ps s) a f in
    let i = function x ps a in
    ap (λ b. function x ps b ∷ (carried_items (defines_with ds i) (scope_with s i) is m.left).tree) (stmts_stay ds (with_params ps s) a f (and_parts (are_plain_stmts a) (is_plain is) h).0)
    ∙ ap (λ js. i ∷ js) (items_stay (defines_with ds i) (scope_with s i) is m.left (and_parts (are_plain_stmts a) (is_plain is) h).1)
items_stay ds s (main a ∷ is) f h =
    let m = carried_all ds s a f in
    let i = main a in
    ap (λ b. main b ∷ (carried_items (defines_with ds i) (scope_with s i) is m.left).tree) (stmts_stay ds s a f (and_parts (are_plain_stmts a) (is_plain is) h).0)
    ∙ ap (λ js. i ∷ js) (items_stay (defines_with ds i) (scope_with s i) is m.left (and_parts (are_plain_stmts a) (is_plain is) h).1)

plain_stays : (p : Program) → is_plain p ≡ true → carried_out p ≡ p
plain_stays p h = items_stay [] nowhere p (beside_program p) h

-- ---- what stands for a program

-- a program without a directive stands for itself
pub stands_for_itself : (source : code.Program) → IsChecked source → first_directive (placed_program source) ≡ None → IsBuilt (placed_program source)
    → bare_program source ≡ forget_program (placed_program source) → StandsFor (placed_program source) (bare_program source)
stands_for_itself source checked without built same =
    let p = placed_program source in
    let plain : is_plain (forget_program p) ≡ true = plain_program p without (subst WellFormed same checked.well_formed).0 in
    record {
      built = built;
      text = same ∙ sym (plain_stays (forget_program p) plain);
      carried_out = subst (λ q. CarriesOut q (forget_program p)) (sym same) (record { plain = plain; outcome = λ n input least. refl; turns = λ n input least. refl; loops = refl });
      unchanged = λ is. same;
      names = breaks_none (bare_program source) p same checked.no_breach;
      height = checked.height;
    }

-- what is carried out of a program stands for it
pub stands_carried_out : (source result : code.Program) → bare_program source ≡ forget_program (placed_program source) → IsBuilt (placed_program source)
    → IsChecked result → bare_program result ≡ forget_program (placed_program result) → bare_program result ≡ carried_out (bare_program source) → HoldsNoDirective (bare_program result)
    → ((n : ℕ) (input : List ℤ) → outcome n (bare_program result) input ≡ outcome n (bare_program source) input)
    → ((n : ℕ) (input : List ℤ) → turns_of n (bare_program result) input ≡ turns_of n (bare_program source) input)
    → skeleton (bare_program result) ≡ skeleton (bare_program source) → StandsFor (placed_program source) (bare_program result)
stands_carried_out source result same built checked forgotten text plain outcomes turns loops =
    let p = placed_program source in
    let is_text : bare_program result ≡ carried_out (forget_program p) = text ∙ ap carried_out same in
    record {
      built = built;
      text = is_text;
      carried_out = subst (CarriesOut (bare_program result)) same (record {
        plain = holds_none (bare_program result) plain;
        outcome = λ n input least. outcomes n input;
        turns = λ n input least. turns n input;
        loops = loops;
      });
      unchanged = λ is. is_text ∙ plain_stays (forget_program p) is;
      names = breaks_none (bare_program result) (placed_program result) forgotten checked.no_breach;
      height = checked.height;
    }

pub ruleset carrying_out = (built_reverses, stands_for_itself, stands_carried_out)
