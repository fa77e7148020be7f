-- A program without a first directive holds none, where it is well formed; and one that holds none has no first one.
use Rattle.std.proofs.Common.{◌≡◌, ℕ, true, [], ◌∷◌, Option, Some, None, refl}
use Rattle.std.specs.Option.{option_or}
use Rattle.c_tree.specs.Bare as b
use Rattle.c_tree.specs.Placed.{Stmt, decl, set, step, print, input, if_, if_else, while_, do_, for_, block, break_, continue_, empty, omp, call, Stmts, no_stmts, more_stmts, head, directive, Top, define, extern_, global, function, main, Program}
use Rattle.c_tree.specs.Forget.{forget_stmt, forget_stmts, forget_maybe, forget_head, forget_top, forget_program}
use Rattle.c_tree.specs.WellFormed.{MayBegin, MayEnd, WellFormedStmt, WellFormedStmts, WellFormedTop, WellFormedTops}
use Rattle.std.proofs.lemmas.Bool.{and_parts, and_from}
use Rattle.canonical_nests.specs.LoopRules.Programs.{stmt_directive, stmts_directive, top_directive, first_directive}
use Rattle.c_meaning.specs.Plain.{is_plain_stmt, are_plain_stmts, is_plain_part, is_plain_head, is_plain_top, is_plain}

pub both_none : (p q : Option ℕ) → option_or p q ≡ None → (p ≡ None) × (q ≡ None)
both_none None q none = (refl, none)
both_none (Some p) q none = cc

begins_plain : (i : b.MaybeStmt) → MayBegin i → is_plain_part i ≡ true
begins_plain b.no_stmt may = refl
begins_plain (b.a_stmt (b.decl t x (Some e))) may = refl
begins_plain (b.a_stmt (b.set t op e)) may = refl
begins_plain (b.a_stmt (b.step t up)) may = refl
begins_plain (b.a_stmt _) may = absurd may

ends_plain : (i : b.MaybeStmt) → MayEnd i → is_plain_part i ≡ true
ends_plain b.no_stmt may = refl
ends_plain (b.a_stmt (b.set t op e)) may = refl
ends_plain (b.a_stmt (b.step t up)) may = refl
ends_plain (b.a_stmt _) may = absurd may

mutual
  plain_stmt : (a : Stmt) → stmt_directive a ≡ None → WellFormedStmt (forget_stmt a) → is_plain_stmt (forget_stmt a) ≡ true
  plain_stmt (if_ e a s) none well = plain_stmts a none well.1
  plain_stmt (if_else e a c s) none well =
      and_from _ _ (plain_stmts a (both_none _ _ none).0 well.1) (plain_stmts c (both_none _ _ none).1 well.2)
  plain_stmt (while_ e a s) none well = plain_stmts a none well.1
  plain_stmt (do_ a e s) none well = plain_stmts a none well.0
  plain_stmt (for_ (head i at e at' next at'') a s) none well =
      and_from _ _ (and_from _ _ (begins_plain (forget_maybe i) well.0.0) (ends_plain (forget_maybe next) well.0.3)) (plain_stmts a none well.1)
  plain_stmt (block a s) none well = plain_stmts a none well
  plain_stmt (omp (directive k cs at) a s) none well = cc
  plain_stmt (decl ty x at init s) none well = refl
  plain_stmt (set t o e s) none well = refl
  plain_stmt (step t up s) none well = refl
  plain_stmt (print e s) none well = refl
  plain_stmt (input t at s) none well = refl
  plain_stmt (break_ s) none well = refl
  plain_stmt (continue_ s) none well = refl
  plain_stmt (empty s) none well = refl
  plain_stmt (call x at es s) none well = refl

  plain_stmts : (a : Stmts) → stmts_directive a ≡ None → WellFormedStmts (forget_stmts a) → are_plain_stmts (forget_stmts a) ≡ true
  plain_stmts no_stmts none well = refl
  plain_stmts (more_stmts a as') none well =
      and_from _ _ (plain_stmt a (both_none _ _ none).0 well.0) (plain_stmts as' (both_none _ _ none).1 well.1)

plain_top : (top : Top) → top_directive top ≡ None → WellFormedTop (forget_top top) → is_plain_top (forget_top top) ≡ true
plain_top (define x minus n ty s) none well = refl
plain_top (extern_ port s) none well = refl
plain_top (global ty x s es init) none well = refl
plain_top (function x at ps a s) none well = plain_stmts a none well.2
plain_top (main a s) none well = plain_stmts a none well

pub plain_program : (p : Program) → first_directive p ≡ None → WellFormedTops (forget_program p) → is_plain (forget_program p) ≡ true
plain_program [] none well = refl
plain_program (top ∷ tops) none well =
    and_from _ _ (plain_top top (both_none _ _ none).0 well.0) (plain_program tops (both_none _ _ none).1 well.1)

-- ---- the other way

pub neither : (p q : Option ℕ) → p ≡ None → q ≡ None → option_or p q ≡ None
neither p q a b = rw (a, b) refl

mutual
  stmt_holds_none : (a : Stmt) → is_plain_stmt (forget_stmt a) ≡ true → stmt_directive a ≡ None
  stmt_holds_none (if_ e a s) plain = stmts_hold_none a plain
  stmt_holds_none (if_else e a c s) plain = neither _ _ (stmts_hold_none a (and_parts _ _ plain).0) (stmts_hold_none c (and_parts _ _ plain).1)
  stmt_holds_none (while_ e a s) plain = stmts_hold_none a plain
  stmt_holds_none (do_ a e s) plain = stmts_hold_none a plain
  stmt_holds_none (for_ h a s) plain = stmts_hold_none a (and_parts (is_plain_head (forget_head h)) _ plain).1
  stmt_holds_none (block a s) plain = stmts_hold_none a plain
  stmt_holds_none (omp d a s) plain = cc
  stmt_holds_none (decl ty x at init s) plain = refl
  stmt_holds_none (set t o e s) plain = refl
  stmt_holds_none (step t up s) plain = refl
  stmt_holds_none (print e s) plain = refl
  stmt_holds_none (input t at s) plain = refl
  stmt_holds_none (break_ s) plain = refl
  stmt_holds_none (continue_ s) plain = refl
  stmt_holds_none (empty s) plain = refl
  stmt_holds_none (call x at es s) plain = refl

  stmts_hold_none : (a : Stmts) → are_plain_stmts (forget_stmts a) ≡ true → stmts_directive a ≡ None
  stmts_hold_none no_stmts plain = refl
  stmts_hold_none (more_stmts a as') plain = neither _ _ (stmt_holds_none a (and_parts _ _ plain).0) (stmts_hold_none as' (and_parts (is_plain_stmt (forget_stmt a)) _ plain).1)

top_holds_none : (top : Top) → is_plain_top (forget_top top) ≡ true → top_directive top ≡ None
top_holds_none (define x minus n ty s) plain = refl
top_holds_none (extern_ port s) plain = refl
top_holds_none (global ty x s es init) plain = refl
top_holds_none (function x at ps a s) plain = stmts_hold_none a plain
top_holds_none (main a s) plain = stmts_hold_none a plain

pub plain_holds_none : (p : Program) → is_plain (forget_program p) ≡ true → first_directive p ≡ None
plain_holds_none [] plain = refl
plain_holds_none (top ∷ tops) plain =
    neither _ _ (top_holds_none top (and_parts _ _ plain).0) (plain_holds_none tops (and_parts (is_plain_top (forget_top top)) _ plain).1)
