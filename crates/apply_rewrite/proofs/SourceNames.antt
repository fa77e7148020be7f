-- No name of the source's bodies is a fresh name.
use Rattle.std.proofs.Common.{List, [], ◌∷◌, ◌++◌, Option, Some, None}
use Rattle.c_tree.specs.Bare.{Name, Expr, num, read, item, un, bin, cond, cast, Exprs, no_exprs, more_exprs, Target, target, Stmt, decl, set, step, print, input, if_, if_else, while_, do_, for_, block, break_, continue_, empty, omp, call, Stmts, no_stmts, more_stmts, head, MaybeStmt, no_stmt, a_stmt, define, extern_, global, function, main, Program}
use Rattle.c_semantics.specs.Laws.Names.{Names, NamesEach, NamesIf, NamesIn, Uses, UsesAll, UsesIf}
use Rattle.loop_normal.specs.DrawnNames.{AreDigits}
use Rattle.loop_normal.specs.SourceNames.{kept, expr_names, exprs_names, option_names, target_names, stmt_names, stmts_names, part_names, head_names, params_names, program_names, beside_program}
use Rattle.loop_normal.specs.TakenNames.{taken_names}
use Rattle.loop_normal.proofs.TakenNames.{all_taken}
use Rattle.apply_rewrite.proofs.NamesMore.{AnyCall}
use Rattle.carried_out.proofs.SpentNames.{Spent}
use Rattle.carried_out.proofs.KnownNames.{Known, Within, known_spent, first, second, kept_known}
use Rattle.apply_rewrite.proofs.Items.{BodiesUse, bodies_more}

module _ (taken : List Name) where
  abbrev P : Name → Type 0
  P = Known taken

  mutual
    expr_known : (e : Expr) → Within taken (expr_names e) → Names P e
    expr_known (num k t) h = tt
    expr_known (read x) h = kept_known taken x h
    expr_known (item x es) h = (kept_known taken x (first taken (kept x) (exprs_names es) h), exprs_known es (second taken (kept x) (exprs_names es) h))
    expr_known (un op a) h = expr_known a h
    expr_known (bin op a b) h = (expr_known a (first taken (expr_names a) (expr_names b) h), expr_known b (second taken (expr_names a) (expr_names b) h))
    expr_known (cond a b c) h =
        let rest = second taken (expr_names a) (expr_names b ++ expr_names c) h in
        (expr_known a (first taken (expr_names a) (expr_names b ++ expr_names c) h), expr_known b (first taken (expr_names b) (expr_names c) rest), expr_known c (second taken (expr_names b) (expr_names c) rest))
    expr_known (cast t a) h = expr_known a h

    exprs_known : (es : Exprs) → Within taken (exprs_names es) → NamesEach P es
    exprs_known no_exprs h = tt
    exprs_known (more_exprs e es) h = (expr_known e (first taken (expr_names e) (exprs_names es) h), exprs_known es (second taken (expr_names e) (exprs_names es) h))

  option_known : (e : Option Expr) → Within taken (option_names e) → NamesIf P e
  option_known None h = tt
  option_known (Some e) h = expr_known e h

  target_known : (t : Target) → Within taken (target_names t) → NamesIn P t
  target_known (target x es) h = (kept_known taken x (first taken (kept x) (exprs_names es) h), exprs_known es (second taken (kept x) (exprs_names es) h))

  mutual
    stmt_known : (a : Stmt) → Within taken (stmt_names a) → Uses P AnyCall a
    stmt_known (decl t x e) h = (kept_known taken x (first taken (kept x) (option_names e) h), option_known e (second taken (kept x) (option_names e) h))
    stmt_known (set t op e) h = (target_known t (first taken (target_names t) (expr_names e) h), expr_known e (second taken (target_names t) (expr_names e) h))
    stmt_known (step t up) h = target_known t h
    stmt_known (print e) h = expr_known e h
    stmt_known (input t) h = target_known t h
    stmt_known (if_ e a) h = (expr_known e (first taken (expr_names e) (stmts_names a) h), stmts_known a (second taken (expr_names e) (stmts_names a) h))
    stmt_known (if_else e a b) h =
        let rest = second taken (expr_names e) (stmts_names a ++ stmts_names b) h in
        (expr_known e (first taken (expr_names e) (stmts_names a ++ stmts_names b) h), stmts_known a (first taken (stmts_names a) (stmts_names b) rest), stmts_known b (second taken (stmts_names a) (stmts_names b) rest))
    stmt_known (while_ e a) h = (expr_known e (first taken (expr_names e) (stmts_names a) h), stmts_known a (second taken (expr_names e) (stmts_names a) h))
    stmt_known (do_ a e) h = (stmts_known a (first taken (stmts_names a) (expr_names e) h), expr_known e (second taken (stmts_names a) (expr_names e) h))
    stmt_known (for_ (head i e next) a) h =
        let top = first taken (head_names (head i e next)) (stmts_names a) h in
        let rest = second taken (part_names i) (option_names e ++ part_names next) top in
        (part_known i (first taken (part_names i) (option_names e ++ part_names next) top), option_known e (first taken (option_names e) (part_names next) rest), part_known next (second taken (option_names e) (part_names next) rest), stmts_known a (second taken (head_names (head i e next)) (stmts_names a) h))
    stmt_known (block a) h = stmts_known a h
    stmt_known break_ h = tt
    stmt_known continue_ h = tt
    stmt_known empty h = tt
    stmt_known (omp d a) h = stmts_known a h
    stmt_known (call x es) h = (tt, exprs_known es (second taken (kept x) (exprs_names es) h))

    stmts_known : (as' : Stmts) → Within taken (stmts_names as') → UsesAll P AnyCall as'
    stmts_known no_stmts h = tt
    stmts_known (more_stmts a as') h = (stmt_known a (first taken (stmt_names a) (stmts_names as') h), stmts_known as' (second taken (stmt_names a) (stmts_names as') h))

    part_known : (a : MaybeStmt) → Within taken (part_names a) → UsesIf P AnyCall a
    part_known no_stmt h = tt
    part_known (a_stmt a) h = stmt_known a h

  program_known : (is : Program) → Within taken (program_names is) → BodiesUse P is
  program_known [] h = tt
  program_known (define x minus k t ∷ is) h = program_known is (second taken (kept x) (program_names is) h)
  program_known (extern_ p ∷ is) h = program_known is h
  program_known (global t x dims e ∷ is) h = program_known is (second taken (kept x ++ (exprs_names dims ++ option_names e)) (program_names is) h)
  program_known (function x ps a ∷ is) h =
      let own = first taken (kept x ++ (params_names ps ++ stmts_names a)) (program_names is) h in
      (stmts_known a (second taken (params_names ps) (stmts_names a) (second taken (kept x) (params_names ps ++ stmts_names a) own)), program_known is (second taken (kept x ++ (params_names ps ++ stmts_names a)) (program_names is) h))
  program_known (main a ∷ is) h = (stmts_known a (first taken (stmts_names a) (program_names is) h), program_known is (second taken (stmts_names a) (program_names is) h))

-- the names of a program's bodies are spent before any draw
pub source_spent : (p : Program) → AreDigits (beside_program p).digits → BodiesUse (Spent (beside_program p)) p
source_spent p d = bodies_more (Known (taken_names (program_names p))) (Spent (beside_program p)) (λ x k. known_spent (beside_program p) d x k) p (program_known (taken_names (program_names p)) p (all_taken (program_names p)))
