-- What is kept of a statement that was built is what is kept of its tree.
use Rattle.std.proofs.Common.{◌≡◌, ℕ, Bool, Option, sym, ap, ◌∙◌, subst}
use Rattle.c_tree.specs.Bare.{Name}
use Rattle.c_tree.specs.Placed.{Expr, Exprs, Target, Directive, Stmt, decl, set, step, print, input, if_, if_else, while_, do_, for_, block, omp, call, empty, break_, continue_, Stmts, Head}
use Rattle.c_tree.specs.PlacedOf.{placed_stmt, stmt_layer, head_layer}
use Rattle.c_tree.specs.declared.tree.Stmt as code_stmt
use Rattle.c_tree.specs.declared.tree.Stmt.{fold-roll-Stmt}
use Rattle.c_tree.specs.declared.tree.Stmt.TheVariants as v
use Rattle.c_tree.specs.declared.tree.Stmt.TheOpen as layer
use Rattle.pragma_grammar.specs.declared.directive_kept.Kept as code
use Rattle.pragma_grammar.specs.declared.directive_kept.Kept.TheVariants.{Whole}
use Rattle.c_tree.specs.declared.tree.Span.{Span}
use Rattle.c_tree.specs.declared.tree.Ty.{Ty}
use Rattle.c_tree.specs.declared.tree.SetOp.{SetOp}
use Rattle.pragma_grammar.specs.DirectiveKept.{Kept, kept, one, both, keep_expr, keep_exprs, keep_directive}
use Rattle.c_parser.specs.Kept.{stmt_of, keep_option, keep_target, keep_stmt, keep_stmts, keep_head, node_of, pair}
use Rattle.c_parser.proofs.Keeping.{keep_set, keep_step, keep_print, keep_input, keep_decl, keep_call, keep_if, keep_if_else, keep_while, keep_do, keep_for, keep_block, keep_omp}

pub built_print : (r : Kept Stmt) (k : Kept Expr) (e : Expr) (s w : Span) → w ≡ s → r ≡ node_of w.start (one (λ x. print x w) k) → k ≡ keep_expr e → r ≡ keep_stmt (print e s)
built_print r k e s w q b p = subst (λ v. r ≡ keep_stmt (print e v)) q (b ∙ ap (λ z. node_of w.start (one (λ x. print x w) z)) p ∙ sym (keep_print e w))

pub built_input : (r : Kept Stmt) (k : Kept Target) (at : ℕ) (t : Target) (s w : Span) → w ≡ s → r ≡ node_of w.start (one (λ x. input x at w) k) → k ≡ keep_target t → r ≡ keep_stmt (input t at s)
built_input r k at t s w q b p = subst (λ v. r ≡ keep_stmt (input t at v)) q (b ∙ ap (λ z. node_of w.start (one (λ x. input x at w) z)) p ∙ sym (keep_input t at w))

pub built_step : (r : Kept Stmt) (k : Kept Target) (up : Bool) (t : Target) (s w : Span) → w ≡ s → r ≡ node_of w.start (one (λ x. step x up w) k) → k ≡ keep_target t → r ≡ keep_stmt (step t up s)
built_step r k up t s w q b p = subst (λ v. r ≡ keep_stmt (step t up v)) q (b ∙ ap (λ z. node_of w.start (one (λ x. step x up w) z)) p ∙ sym (keep_step t up w))

pub built_call : (r : Kept Stmt) (k : Kept Exprs) (x : Name) (a : Span) (es : Exprs) (s w : Span) → w ≡ s → r ≡ node_of w.start (one (λ y. call x a y w) k) → k ≡ keep_exprs es → r ≡ keep_stmt (call x a es s)
built_call r k x a es s w q b p = subst (λ v. r ≡ keep_stmt (call x a es v)) q (b ∙ ap (λ z. node_of w.start (one (λ y. call x a y w) z)) p ∙ sym (keep_call x a es w))

pub built_decl : (r : Kept Stmt) (k : Kept (Option Expr)) (ty : Ty) (x : Name) (a : Span) (i : (Option Expr)) (s w : Span) → w ≡ s → r ≡ node_of w.start (one (λ y. decl ty x a y w) k) → k ≡ keep_option i → r ≡ keep_stmt (decl ty x a i s)
built_decl r k ty x a i s w q b p = subst (λ v. r ≡ keep_stmt (decl ty x a i v)) q (b ∙ ap (λ z. node_of w.start (one (λ y. decl ty x a y w) z)) p ∙ sym (keep_decl ty x a i w))

pub built_block : (r : Kept Stmt) (k : Kept Stmts) (ss : Stmts) (s w : Span) → w ≡ s → r ≡ node_of w.start (one (λ x. block x w) k) → k ≡ keep_stmts ss → r ≡ keep_stmt (block ss s)
built_block r k ss s w q b p = subst (λ v. r ≡ keep_stmt (block ss v)) q (b ∙ ap (λ z. node_of w.start (one (λ x. block x w) z)) p ∙ sym (keep_block ss w))

pub built_set : (r : Kept Stmt) (k : Kept Target) (l : Kept Expr) (o : SetOp) (t : Target) (e : Expr) (s w : Span) → w ≡ s → r ≡ node_of w.start (both (λ x y. set x o y w) k l) → k ≡ keep_target t → l ≡ keep_expr e → r ≡ keep_stmt (set t o e s)
built_set r k l o t e s w q b p i =
    subst (λ v. r ≡ keep_stmt (set t o e v)) q
    (b ∙ ap (λ z. node_of w.start (both (λ x y. set x o y w) z l)) p ∙ ap (λ z. node_of w.start (both (λ x y. set x o y w) (keep_target t) z)) i ∙ sym (keep_set t o e w))

pub built_if : (r : Kept Stmt) (k : Kept Expr) (l : Kept Stmts) (e : Expr) (ss : Stmts) (s w : Span) → w ≡ s → r ≡ node_of w.start (both (λ x y. if_ x y w) k l) → k ≡ keep_expr e → l ≡ keep_stmts ss → r ≡ keep_stmt (if_ e ss s)
built_if r k l e ss s w q b p i =
    subst (λ v. r ≡ keep_stmt (if_ e ss v)) q
    (b ∙ ap (λ z. node_of w.start (both (λ x y. if_ x y w) z l)) p ∙ ap (λ z. node_of w.start (both (λ x y. if_ x y w) (keep_expr e) z)) i ∙ sym (keep_if e ss w))

pub built_while : (r : Kept Stmt) (k : Kept Expr) (l : Kept Stmts) (e : Expr) (ss : Stmts) (s w : Span) → w ≡ s → r ≡ node_of w.start (both (λ x y. while_ x y w) k l) → k ≡ keep_expr e → l ≡ keep_stmts ss → r ≡ keep_stmt (while_ e ss s)
built_while r k l e ss s w q b p i =
    subst (λ v. r ≡ keep_stmt (while_ e ss v)) q
    (b ∙ ap (λ z. node_of w.start (both (λ x y. while_ x y w) z l)) p ∙ ap (λ z. node_of w.start (both (λ x y. while_ x y w) (keep_expr e) z)) i ∙ sym (keep_while e ss w))

pub built_do : (r : Kept Stmt) (k : Kept Stmts) (l : Kept Expr) (ss : Stmts) (e : Expr) (s w : Span) → w ≡ s → r ≡ node_of w.start (both (λ x y. do_ x y w) k l) → k ≡ keep_stmts ss → l ≡ keep_expr e → r ≡ keep_stmt (do_ ss e s)
built_do r k l ss e s w q b p i =
    subst (λ v. r ≡ keep_stmt (do_ ss e v)) q
    (b ∙ ap (λ z. node_of w.start (both (λ x y. do_ x y w) z l)) p ∙ ap (λ z. node_of w.start (both (λ x y. do_ x y w) (keep_stmts ss) z)) i ∙ sym (keep_do ss e w))

pub built_for : (r : Kept Stmt) (k : Kept Head) (l : Kept Stmts) (h : Head) (ss : Stmts) (s w : Span) → w ≡ s → r ≡ node_of w.start (both (λ x y. for_ x y w) k l) → k ≡ keep_head h → l ≡ keep_stmts ss → r ≡ keep_stmt (for_ h ss s)
built_for r k l h ss s w q b p i =
    subst (λ v. r ≡ keep_stmt (for_ h ss v)) q
    (b ∙ ap (λ z. node_of w.start (both (λ x y. for_ x y w) z l)) p ∙ ap (λ z. node_of w.start (both (λ x y. for_ x y w) (keep_head h) z)) i ∙ sym (keep_for h ss w))

pub built_omp : (r : Kept Stmt) (k : Kept Directive) (l : Kept Stmts) (d : Directive) (ss : Stmts) (s w : Span) → w ≡ s → r ≡ node_of w.start (both (λ x y. omp x y w) k l) → k ≡ keep_directive d → l ≡ keep_stmts ss → r ≡ keep_stmt (omp d ss s)
built_omp r k l d ss s w q b p i =
    subst (λ v. r ≡ keep_stmt (omp d ss v)) q
    (b ∙ ap (λ z. node_of w.start (both (λ x y. omp x y w) z l)) p ∙ ap (λ z. node_of w.start (both (λ x y. omp x y w) (keep_directive d) z)) i ∙ sym (keep_omp d ss w))

pub built_if_else : (r : Kept Stmt) (k : Kept Expr) (l m : Kept Stmts) (e : Expr) (ss rs : Stmts) (s w : Span) → w ≡ s → r ≡ node_of w.start (both (λ x p. if_else x p.0 p.1 w) k (both pair l m)) → k ≡ keep_expr e → l ≡ keep_stmts ss → m ≡ keep_stmts rs → r ≡ keep_stmt (if_else e ss rs s)
built_if_else r k l m e ss rs s w q b p i j =
    subst (λ v. r ≡ keep_stmt (if_else e ss rs v)) q
    (b ∙ ap (λ z. node_of w.start (both (λ x p. if_else x p.0 p.1 w) z (both pair l m))) p
    ∙ ap (λ z. node_of w.start (both (λ x p. if_else x p.0 p.1 w) (keep_expr e) (both pair z m))) i
    ∙ ap (λ z. node_of w.start (both (λ x p. if_else x p.0 p.1 w) (keep_expr e) (both pair (keep_stmts ss) z))) j ∙ sym (keep_if_else e ss rs w))

-- ---- those that hold no other tree

placed_empty : (s : Span) → placed_stmt (v.Empty s) ≡ empty s
placed_empty s = ap placed_stmt (sym (v.rolls-Empty s)) ∙ fold-roll-Stmt Stmt Head stmt_layer head_layer (layer.Empty s)

placed_break : (s : Span) → placed_stmt (v.Break s) ≡ break_ s
placed_break s = ap placed_stmt (sym (v.rolls-Break s)) ∙ fold-roll-Stmt Stmt Head stmt_layer head_layer (layer.Break s)

placed_continue : (s : Span) → placed_stmt (v.Continue s) ≡ continue_ s
placed_continue s = ap placed_stmt (sym (v.rolls-Continue s)) ∙ fold-roll-Stmt Stmt Head stmt_layer head_layer (layer.Continue s)

pub built_empty : (r : code.Kept code_stmt.Stmt) (s : Span) → r ≡ Whole (v.Empty s) 1 → stmt_of r ≡ keep_stmt (empty s)
built_empty r s q = ap stmt_of q ∙ ap (λ x. kept 1 x) (placed_empty s)

pub built_break : (r : code.Kept code_stmt.Stmt) (s w : Span) → w ≡ s → r ≡ Whole (v.Break w) 1 → stmt_of r ≡ keep_stmt (break_ s)
built_break r s w p q = ap stmt_of q ∙ ap (λ x. kept 1 x) (placed_break w) ∙ ap (λ x. kept 1 (break_ x)) p

pub built_continue : (r : code.Kept code_stmt.Stmt) (s w : Span) → w ≡ s → r ≡ Whole (v.Continue w) 1 → stmt_of r ≡ keep_stmt (continue_ s)
built_continue r s w p q = ap stmt_of q ∙ ap (λ x. kept 1 x) (placed_continue w) ∙ ap (λ x. kept 1 (continue_ x)) p
