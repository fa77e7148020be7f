-- No name that a program declares or defines is drawn beside it: it is taken, or doesn't begin as fresh names do.
use Rattle.std.proofs.Common.{List, [], ◌∷◌, ◌++◌}
use Rattle.c_tree.specs.Bare.{Name, Stmt, decl, set, step, print, input, if_, if_else, while_, do_, for_, block, break_, continue_, empty, omp, call, Stmts, no_stmts, more_stmts, head, MaybeStmt, no_stmt, a_stmt, Param, Top, define, extern_, global, function, main, Program}
use Rattle.loop_normal.specs.DrawnNames.{AreDigits}
use Rattle.loop_normal.specs.SourceNames.{kept, expr_names, exprs_names, option_names, stmt_names, stmts_names, part_names, head_names, params_names, top_names, program_names, beside_program}
use Rattle.loop_normal.specs.TakenNames.{taken_names}
use Rattle.loop_normal.proofs.TakenNames.{all_taken}
use Rattle.carried_out.proofs.KnownNames.{Known, Within, known_spent, first, second, kept_known}
use Rattle.carried_names.proofs.Fresh.{Source, source}
use Rattle.carried_names.proofs.Declares.{Declares, DeclareAll, DeclaresIf}

-- ---- what items declare

module _ (P : Name → Type 0) where
  abbrev pub ParamsDeclare : List Param → Type 0
  ParamsDeclare [] = Unit {0}
  ParamsDeclare (p ∷ ps) = P p.name × ParamsDeclare ps

  abbrev pub ItemDeclares : Top → Type 0
  ItemDeclares (define x minus k t) = P x
  ItemDeclares (extern_ port) = Unit {0}
  ItemDeclares (global t x dims e) = P x
  ItemDeclares (function x ps a) = P x × ParamsDeclare ps × DeclareAll P a
  ItemDeclares (main a) = DeclareAll P a

  abbrev pub ItemsDeclare : Program → Type 0
  ItemsDeclare [] = Unit {0}
  ItemsDeclare (i ∷ is) = ItemDeclares i × ItemsDeclare is

-- ---- lists of names

module _ (taken : List Name) (P : Name → Type 0) (known : (x : Name) → Known taken x → P x) where
  own : (x : Name) → Within taken (kept x) → P x
  own x h = known x (kept_known taken x h)

  mutual
    stmt_declares : (a : Stmt) → Within taken (stmt_names a) → Declares P a
    stmt_declares (decl t x e) h = own x (first taken (kept x) (option_names e) h)
    stmt_declares (set t op e) h = tt
    stmt_declares (step t up) h = tt
    stmt_declares (print e) h = tt
    stmt_declares (input t) h = tt
    stmt_declares (if_ e a) h = stmts_declare a (second taken (expr_names e) (stmts_names a) h)
    stmt_declares (if_else e a b) h =
        let rest = second taken (expr_names e) (stmts_names a ++ stmts_names b) h in
        (stmts_declare a (first taken (stmts_names a) (stmts_names b) rest), stmts_declare b (second taken (stmts_names a) (stmts_names b) rest))
    stmt_declares (while_ e a) h = stmts_declare a (second taken (expr_names e) (stmts_names a) h)
    stmt_declares (do_ a e) h = stmts_declare a (first taken (stmts_names a) (expr_names e) h)
    stmt_declares (for_ (head i e next) a) h =
        (part_declares i (first taken (part_names i) (option_names e ++ part_names next) (first taken (head_names (head i e next)) (stmts_names a) h)), stmts_declare a (second taken (head_names (head i e next)) (stmts_names a) h))
    stmt_declares (block a) h = stmts_declare a h
    stmt_declares break_ h = tt
    stmt_declares continue_ h = tt
    stmt_declares empty h = tt
    stmt_declares (omp d a) h = stmts_declare a h
    stmt_declares (call x es) h = tt

    stmts_declare : (as' : Stmts) → Within taken (stmts_names as') → DeclareAll P as'
    stmts_declare no_stmts h = tt
    stmts_declare (more_stmts a as') h = (stmt_declares a (first taken (stmt_names a) (stmts_names as') h), stmts_declare as' (second taken (stmt_names a) (stmts_names as') h))

    part_declares : (a : MaybeStmt) → Within taken (part_names a) → DeclaresIf P a
    part_declares no_stmt h = tt
    part_declares (a_stmt a) h = stmt_declares a h

  params_declare : (ps : List Param) → Within taken (params_names ps) → ParamsDeclare P ps
  params_declare [] h = tt
  params_declare (p ∷ ps) h = (own p.name (first taken (kept p.name) (params_names ps) h), params_declare ps (second taken (kept p.name) (params_names ps) h))

  item_declares : (i : Top) → Within taken (top_names i) → ItemDeclares P i
  item_declares (define x minus k t) h = own x h
  item_declares (extern_ port) h = tt
  item_declares (global t x dims e) h = own x (first taken (kept x) (exprs_names dims ++ option_names e) h)
  item_declares (function x ps a) h =
      let rest = second taken (kept x) (params_names ps ++ stmts_names a) h in
      (own x (first taken (kept x) (params_names ps ++ stmts_names a) h), params_declare ps (first taken (params_names ps) (stmts_names a) rest), stmts_declare a (second taken (params_names ps) (stmts_names a) rest))
  item_declares (main a) h = stmts_declare a h

  items_declare : (is : Program) → Within taken (program_names is) → ItemsDeclare P is
  items_declare [] h = tt
  items_declare (i ∷ is) h = (item_declares i (first taken (top_names i) (program_names is) h), items_declare is (second taken (top_names i) (program_names is) h))

pub declares_source : (p : Program) → AreDigits (beside_program p).digits → ItemsDeclare (Source (beside_program p)) p
declares_source p d = items_declare (taken_names (program_names p)) (Source (beside_program p)) (λ x k. source (beside_program p) x (known_spent (beside_program p) d x k)) p (all_taken (program_names p))
