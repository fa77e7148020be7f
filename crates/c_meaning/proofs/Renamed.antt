-- A program with other names is runnable where the program is, and runs alike.
use Rattle.std.proofs.Common.{◌≡◌, ap, ◌∙◌, sym, subst, ℕ, List, [], ◌∷◌, map, Option, Some, None, ℤ, true}
use Rattle.std.specs.Option.{option_map}
use Rattle.c_tree.specs.Bare.{Expr, num, read, item, un, bin, cond, cast, Exprs, no_exprs, more_exprs, Target, target, Stmt, decl, set, step, print, input, if_, if_else, while_, do_, for_, block, break_, continue_, empty, omp, call, Stmts, no_stmts, more_stmts, MaybeStmt, no_stmt, a_stmt, head, Top, define, extern_, global, function, main, Program}
use Rattle.c_semantics.specs.Meaning.Programs.{run_program, finish, outcome, turns_of}
use Rattle.resolved_names.specs.Renaming.{Renaming, renamed_expr, renamed_exprs, renamed_target, renamed_stmt, renamed_stmts, renamed_part, renamed_top, renamed_program, PlainStmt, PlainStmts, PlainPart, PlainTop, PlainProgram}
use Rattle.resolved_names.specs.RenamedRuns.{renamed_run}
use Rattle.resolved_names.specs.Resolved.{Resolved}
use Rattle.resolved_names.proofs.Programs.{runs_alike}
use Rattle.resolved_names.specs.Numbered.{numbered_top}
use Rattle.resolved_names.specs.declared.tree.Item.{Item}
use Rattle.c_tree.specs.BareOf.{bare_program, bare_top}
use Rattle.c_tree.specs.Checked.{IsChecked}
use Rattle.c_tree.specs.declared.tree.Item as code-item
use Rattle.c_tree.specs.declared.tree.Program as code
use Rattle.c_meaning.specs.Plain.{is_plain}
use Rattle.c_meaning.proofs.RunnableParts.{runnable_tops}
use Rattle.c_meaning.specs.Held.{HeldExpr, HeldExprs, HeldOption, HeldTarget}
use Rattle.c_meaning.specs.Runnable.{RunnableStmt, RunnableStmts, RunnablePart, RunnableTop, RunnableTops}

module _ (f : Renaming) where
  mutual
    expr_renamed : (e : Expr) → HeldExpr e → HeldExpr (renamed_expr f e)
    expr_renamed (num k t) h = h
    expr_renamed (read x) h = tt
    expr_renamed (item x es) h = exprs_renamed es h
    expr_renamed (un op a) h = expr_renamed a h
    expr_renamed (bin op a b) h = (expr_renamed a h.0, expr_renamed b h.1)
    expr_renamed (cond a b c) h = (expr_renamed a h.0, expr_renamed b h.1, expr_renamed c h.2)
    expr_renamed (cast t a) h = expr_renamed a h

    exprs_renamed : (es : Exprs) → HeldExprs es → HeldExprs (renamed_exprs f es)
    exprs_renamed no_exprs h = tt
    exprs_renamed (more_exprs e es) h = (expr_renamed e h.0, exprs_renamed es h.1)

  option_renamed : (o : Option Expr) → HeldOption o → HeldOption (option_map (renamed_expr f) o)
  option_renamed None h = tt
  option_renamed (Some e) h = expr_renamed e h

  target_renamed : (t : Target) → HeldTarget t → HeldTarget (renamed_target f t)
  target_renamed (target x es) h = exprs_renamed es h

  mutual
    stmt_renamed : (a : Stmt) → RunnableStmt a → RunnableStmt (renamed_stmt f a)
    stmt_renamed (decl t x init) h = option_renamed init h
    stmt_renamed (set t op e) h = (target_renamed t h.0, expr_renamed e h.1)
    stmt_renamed (step t up) h = target_renamed t h
    stmt_renamed (print e) h = expr_renamed e h
    stmt_renamed (input t) h = target_renamed t h
    stmt_renamed (if_ e a) h = (expr_renamed e h.0, stmts_renamed a h.1)
    stmt_renamed (if_else e a b) h = (expr_renamed e h.0, stmts_renamed a h.1, stmts_renamed b h.2)
    stmt_renamed (while_ e a) h = (expr_renamed e h.0, stmts_renamed a h.1)
    stmt_renamed (do_ a e) h = (stmts_renamed a h.0, expr_renamed e h.1)
    stmt_renamed (for_ (head i e next) a) h = ((part_renamed i h.0.0, option_renamed e h.0.1, part_renamed next h.0.2), stmts_renamed a h.1)
    stmt_renamed (block a) h = stmts_renamed a h
    stmt_renamed break_ h = tt
    stmt_renamed continue_ h = tt
    stmt_renamed empty h = tt
    stmt_renamed (omp d a) h = absurd h
    stmt_renamed (call x es) h = exprs_renamed es h

    stmts_renamed : (a : Stmts) → RunnableStmts a → RunnableStmts (renamed_stmts f a)
    stmts_renamed no_stmts h = tt
    stmts_renamed (more_stmts a as') h = (stmt_renamed a h.0, stmts_renamed as' h.1)

    part_renamed : (a : MaybeStmt) → RunnablePart a → RunnablePart (renamed_part f a)
    part_renamed no_stmt h = tt
    part_renamed (a_stmt a) h = stmt_renamed a h

  top_renamed : (a : Top) → RunnableTop a → RunnableTop (renamed_top f a)
  top_renamed (define x negative k t) h = h
  top_renamed (extern_ port) h = tt
  top_renamed (global t x dims init) h = (exprs_renamed dims h.0, option_renamed init h.1)
  top_renamed (function x ps a) h = stmts_renamed a h
  top_renamed (main a) h = stmts_renamed a h

  tops_renamed : (p : Program) → RunnableTops p → RunnableTops (renamed_program f p)
  tops_renamed [] h = tt
  tops_renamed (t ∷ ts) h = (top_renamed t h.0, tops_renamed ts h.1)

mutual
  plain_stmt : (a : Stmt) → RunnableStmt a → PlainStmt a
  plain_stmt (decl t x init) h = tt
  plain_stmt (set t op e) h = tt
  plain_stmt (step t up) h = tt
  plain_stmt (print e) h = tt
  plain_stmt (input t) h = tt
  plain_stmt (if_ e a) h = plain_stmts a h.1
  plain_stmt (if_else e a b) h = (plain_stmts a h.1, plain_stmts b h.2)
  plain_stmt (while_ e a) h = plain_stmts a h.1
  plain_stmt (do_ a e) h = plain_stmts a h.0
  plain_stmt (for_ (head i e next) a) h = (plain_part i h.0.0, plain_part next h.0.2, plain_stmts a h.1)
  plain_stmt (block a) h = plain_stmts a h
  plain_stmt break_ h = tt
  plain_stmt continue_ h = tt
  plain_stmt empty h = tt
  plain_stmt (omp d a) h = h
  plain_stmt (call x es) h = tt

  plain_stmts : (a : Stmts) → RunnableStmts a → PlainStmts a
  plain_stmts no_stmts h = tt
  plain_stmts (more_stmts a as') h = (plain_stmt a h.0, plain_stmts as' h.1)

  plain_part : (a : MaybeStmt) → RunnablePart a → PlainPart a
  plain_part no_stmt h = tt
  plain_part (a_stmt a) h = plain_stmt a h

plain_top : (a : Top) → RunnableTop a → PlainTop a
plain_top (define x negative k t) h = tt
plain_top (extern_ port) h = tt
plain_top (global t x dims init) h = tt
plain_top (function x ps a) h = plain_stmts a h
plain_top (main a) h = plain_stmts a h

plain_tops : (p : Program) → RunnableTops p → PlainProgram p
plain_tops [] h = tt
plain_tops (t ∷ ts) h = (plain_top t h.0, plain_tops ts h.1)

module _ (p q : Program) (r : Resolved p q) (good : RunnableTops p) where
  pub still_runnable : RunnableTops q
  still_runnable = subst RunnableTops (sym r.renamed) (tops_renamed r.renaming p good)

  module _ (n : ℕ) (input : List ℤ) where
    same_run : run_program n q input ≡ renamed_run r.renaming (run_program n p input)
    same_run = ap (λ z. run_program n z input) r.renamed ∙ runs_alike r.renaming r.injective p (plain_tops p good) n input

    pub same_lines : (outcome n q input).lines ≡ (outcome n p input).lines
    same_lines = ap (λ u. u.state.lines) same_run

    pub same_end : (outcome n q input).end ≡ (outcome n p input).end
    same_end = ap (λ u. finish u.end) same_run

    pub same_turns : turns_of n q input ≡ turns_of n p input
    same_turns = ap (λ u. u.state.turns) same_run

-- ---- of a checked program

module _ (checked program : code.Program) (is : program ≡ checked) (ok : IsChecked program) (plain : is_plain (bare_program checked) ≡ true) (xs : List code-item.Item) (read : xs ≡ program.items) (items slice : List Item) (sliced : slice ≡ items) (resolved : Resolved (map bare_top xs) (map numbered_top items)) where
  good : RunnableTops (bare_program checked)
  good = subst (λ (z : code.Program). RunnableTops (bare_program z)) is (runnable_tops (bare_program program) ok.well_formed.0 (ap (λ (z : code.Program). is_plain (bare_program z)) is ∙ plain))

  told : Resolved (bare_program checked) (map numbered_top slice)
  told =
      let read_as : map bare_top xs ≡ bare_program checked = ap (map bare_top) read ∙ ap bare_program is in
      subst (λ (z : List Item). Resolved (bare_program checked) (map numbered_top z)) (sym sliced) (subst (λ (z : Program). Resolved z (map numbered_top items)) read_as resolved)

  pub slice_runnable : RunnableTops (map numbered_top slice)
  slice_runnable = still_runnable (bare_program checked) (map numbered_top slice) told good

  module _ (n : ℕ) (input : List ℤ) where
    pub slice_lines : (outcome n (map numbered_top slice) input).lines ≡ (outcome n (bare_program checked) input).lines
    slice_lines = same_lines (bare_program checked) (map numbered_top slice) told good n input

    pub slice_end : (outcome n (map numbered_top slice) input).end ≡ (outcome n (bare_program checked) input).end
    slice_end = same_end (bare_program checked) (map numbered_top slice) told good n input

    pub slice_turns : turns_of n (map numbered_top slice) input ≡ turns_of n (bare_program checked) input
    slice_turns = same_turns (bare_program checked) (map numbered_top slice) told good n input
