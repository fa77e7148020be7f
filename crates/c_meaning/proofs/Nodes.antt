-- The bare tree of each kind of statement.
use Rattle.std.proofs.Common.{◌≡◌, ◌∙◌, sym, ap, ℕ, Bool, List, Option, Some, None}
use Rattle.std.specs.Option.{option_map}
use Rattle.c_tree.specs.Bare as b
use Rattle.resolved_names.specs.Numbered.{expr_layer, stmt_layer, head_layer, numbered_expr, numbered_exprs, numbered_target, numbered_stmt, numbered_stmts, numbered_head, number_name, maybe_stmt}
use Rattle.resolved_names.specs.declared.tree.Expr.{Expr, fold-roll-Expr}
use Rattle.resolved_names.specs.declared.tree.Expr.TheVariants as ve
use Rattle.resolved_names.specs.declared.tree.Expr.TheOpen as se
use Rattle.resolved_names.specs.declared.tree.ForHead.{ForHead, out-ForHead}
use Rattle.c_tree.specs.declared.tree.SetOp.{SetOp}
use Rattle.resolved_names.specs.declared.tree.Stmt.{Stmt, fold-roll-Stmt}
use Rattle.resolved_names.specs.declared.tree.Stmt.TheVariants as v
use Rattle.resolved_names.specs.declared.tree.Stmt.TheOpen as s
use Rattle.resolved_names.specs.declared.tree.Target.{Target}
use Rattle.c_tree.specs.declared.tree.Ty.{Ty}
use Rattle.c_meaning.proofs.Heads.{numbered_head_out}
use Rattle.c_meaning.specs.Choices.{if_of}

module _ (stmt : Stmt) where
  pub bare_decl : (ty : Ty) (x : ℕ) (init : Option Expr) → stmt ≡ v.Decl ty x init → numbered_stmt stmt ≡ b.decl ty (number_name x) (option_map numbered_expr init)
  bare_decl ty x init is = ap numbered_stmt is ∙ (ap numbered_stmt (sym (v.rolls-Decl ty x init)) ∙ fold-roll-Stmt b.Stmt b.Head stmt_layer head_layer (s.Decl ty x init))

  pub bare_set : (t : Target) (op : SetOp) (e : Expr) → stmt ≡ v.Set t op e → numbered_stmt stmt ≡ b.set (numbered_target t) op (numbered_expr e)
  bare_set t op e is = ap numbered_stmt is ∙ (ap numbered_stmt (sym (v.rolls-Set t op e)) ∙ fold-roll-Stmt b.Stmt b.Head stmt_layer head_layer (s.Set t op e))

  pub bare_step : (t : Target) (up : Bool) → stmt ≡ v.Step t up → numbered_stmt stmt ≡ b.step (numbered_target t) up
  bare_step t up is = ap numbered_stmt is ∙ (ap numbered_stmt (sym (v.rolls-Step t up)) ∙ fold-roll-Stmt b.Stmt b.Head stmt_layer head_layer (s.Step t up))

  pub bare_print : (e : Expr) → stmt ≡ v.Print e → numbered_stmt stmt ≡ b.print (numbered_expr e)
  bare_print e is = ap numbered_stmt is ∙ (ap numbered_stmt (sym (v.rolls-Print e)) ∙ fold-roll-Stmt b.Stmt b.Head stmt_layer head_layer (s.Print e))

  pub bare_input : (t : Target) → stmt ≡ v.Input t → numbered_stmt stmt ≡ b.input (numbered_target t)
  bare_input t is = ap numbered_stmt is ∙ (ap numbered_stmt (sym (v.rolls-Input t)) ∙ fold-roll-Stmt b.Stmt b.Head stmt_layer head_layer (s.Input t))

  pub bare_if : (e : Expr) (first : List Stmt) → stmt ≡ v.If e first None → numbered_stmt stmt ≡ b.if_ (numbered_expr e) (numbered_stmts first)
  bare_if e first is = ap numbered_stmt is ∙ (ap numbered_stmt (sym (v.rolls-If e first None)) ∙ fold-roll-Stmt b.Stmt b.Head stmt_layer head_layer (s.If e first None))

  pub bare_if_else : (e : Expr) (first other : List Stmt) → stmt ≡ v.If e first (Some other) → numbered_stmt stmt ≡ b.if_else (numbered_expr e) (numbered_stmts first) (numbered_stmts other)
  bare_if_else e first other is = ap numbered_stmt is ∙ (ap numbered_stmt (sym (v.rolls-If e first (Some other))) ∙ fold-roll-Stmt b.Stmt b.Head stmt_layer head_layer (s.If e first (Some other)))

  pub bare_choice : (e : Expr) (first : List Stmt) (other : Option (List Stmt)) → stmt ≡ v.If e first other → numbered_stmt stmt ≡ if_of (numbered_expr e) (numbered_stmts first) (option_map numbered_stmts other)
  bare_choice e first None is = bare_if e first is
  bare_choice e first (Some other) is = bare_if_else e first other is

  pub bare_while : (e : Expr) (body : List Stmt) → stmt ≡ v.While e body → numbered_stmt stmt ≡ b.while_ (numbered_expr e) (numbered_stmts body)
  bare_while e body is = ap numbered_stmt is ∙ (ap numbered_stmt (sym (v.rolls-While e body)) ∙ fold-roll-Stmt b.Stmt b.Head stmt_layer head_layer (s.While e body))

  pub bare_do : (body : List Stmt) (e : Expr) → stmt ≡ v.Do body e → numbered_stmt stmt ≡ b.do_ (numbered_stmts body) (numbered_expr e)
  bare_do body e is = ap numbered_stmt is ∙ (ap numbered_stmt (sym (v.rolls-Do body e)) ∙ fold-roll-Stmt b.Stmt b.Head stmt_layer head_layer (s.Do body e))

  pub bare_for : (h : ForHead) (body : List Stmt) → stmt ≡ v.For h body → numbered_stmt stmt ≡ b.for_ (numbered_head h) (numbered_stmts body)
  bare_for h body is = ap numbered_stmt is ∙ (ap numbered_stmt (sym (v.rolls-For h body)) ∙ fold-roll-Stmt b.Stmt b.Head stmt_layer head_layer (s.For h body))

  pub bare_block : (body : List Stmt) → stmt ≡ v.Block body → numbered_stmt stmt ≡ b.block (numbered_stmts body)
  bare_block body is = ap numbered_stmt is ∙ (ap numbered_stmt (sym (v.rolls-Block body)) ∙ fold-roll-Stmt b.Stmt b.Head stmt_layer head_layer (s.Block body))

  pub bare_break : stmt ≡ v.Break → numbered_stmt stmt ≡ b.break_
  bare_break is = ap numbered_stmt is ∙ (ap numbered_stmt (sym (v.rolls-Break)) ∙ fold-roll-Stmt b.Stmt b.Head stmt_layer head_layer (s.Break))

  pub bare_continue : stmt ≡ v.Continue → numbered_stmt stmt ≡ b.continue_
  bare_continue is = ap numbered_stmt is ∙ (ap numbered_stmt (sym (v.rolls-Continue)) ∙ fold-roll-Stmt b.Stmt b.Head stmt_layer head_layer (s.Continue))

  pub bare_empty : stmt ≡ v.Empty → numbered_stmt stmt ≡ b.empty
  bare_empty is = ap numbered_stmt is ∙ (ap numbered_stmt (sym (v.rolls-Empty)) ∙ fold-roll-Stmt b.Stmt b.Head stmt_layer head_layer (s.Empty))

  pub bare_call : (x : ℕ) (args : List Expr) → stmt ≡ v.Call x args → numbered_stmt stmt ≡ b.call (number_name x) (numbered_exprs args)
  bare_call x args is = ap numbered_stmt is ∙ (ap numbered_stmt (sym (v.rolls-Call x args)) ∙ fold-roll-Stmt b.Stmt b.Head stmt_layer head_layer (s.Call x args))

pub head_is : (h : ForHead) (i : Option Stmt) (e : Option Expr) (k : Option Stmt) → i ≡ (out-ForHead h).init → e ≡ (out-ForHead h).test → k ≡ (out-ForHead h).step → numbered_head h ≡ b.head (maybe_stmt (option_map numbered_stmt i)) (option_map numbered_expr e) (maybe_stmt (option_map numbered_stmt k))
head_is h i e k is_i is_e is_k =
    numbered_head_out h
    ∙ (ap (λ x. b.head (maybe_stmt (option_map numbered_stmt x)) (option_map numbered_expr (out-ForHead h).test) (maybe_stmt (option_map numbered_stmt (out-ForHead h).step))) (sym is_i)
    ∙ (ap (λ x. b.head (maybe_stmt (option_map numbered_stmt i)) (option_map numbered_expr x) (maybe_stmt (option_map numbered_stmt (out-ForHead h).step))) (sym is_e)
    ∙ ap (λ x. b.head (maybe_stmt (option_map numbered_stmt i)) (option_map numbered_expr e) (maybe_stmt (option_map numbered_stmt x))) (sym is_k)))

module _ (expr : Expr) where
  pub bare_read : (x : ℕ) → expr ≡ ve.Read x → numbered_expr expr ≡ b.read (number_name x)
  bare_read x is = ap numbered_expr is ∙ (ap numbered_expr (sym (ve.rolls-Read x)) ∙ fold-roll-Expr b.Expr expr_layer (se.Read x))

  pub bare_item : (x : ℕ) (subs : List Expr) → expr ≡ ve.Item x subs → numbered_expr expr ≡ b.item (number_name x) (numbered_exprs subs)
  bare_item x subs is = ap numbered_expr is ∙ (ap numbered_expr (sym (ve.rolls-Item x subs)) ∙ fold-roll-Expr b.Expr expr_layer (se.Item x subs))
