-- Lists that are resolved element by element.
use Rattle.std.proofs.Common.{◌≡◌, refl, ap, ◌∙◌, ℕ, ◌≤◌, List, [], ◌∷◌, map, length, take}
use Rattle.std.proofs.lemmas.List.{take_all}
use Rattle.c_tree.specs.Bare.{more_exprs, more_stmts}
use Rattle.c_tree.specs.BareOf.{gather_exprs, gather_stmts, bare_expr, bare_exprs, bare_stmt, bare_stmts, bare_param, bare_top}
use Rattle.c_tree.specs.declared.tree.Expr as named
use Rattle.c_tree.specs.declared.tree.Stmt as named-stmt
use Rattle.c_tree.specs.declared.tree.Param as named-param
use Rattle.c_tree.specs.declared.tree.Item as named-item
use Rattle.resolved_names.specs.Renaming.{Renaming, renamed_expr, renamed_exprs, renamed_stmt, renamed_stmts, renamed_param, renamed_top}
use Rattle.resolved_names.specs.Numbered.{numbered_expr, numbered_exprs, numbered_stmt, numbered_stmts, numbered_param, numbered_top}
use Rattle.resolved_names.specs.declared.tree.Expr.{Expr}
use Rattle.resolved_names.specs.declared.tree.Stmt.{Stmt}
use Rattle.resolved_names.specs.declared.tree.Param.{Param}
use Rattle.resolved_names.specs.declared.tree.Item.{Item}

module _ (f : Renaming) where
  exprs_gathered : (es : List named.Expr) → gather_exprs (map (λ e. renamed_expr f (bare_expr e)) es) ≡ renamed_exprs f (bare_exprs es)
  exprs_gathered [] = refl
  exprs_gathered (e ∷ es) = ap (more_exprs (renamed_expr f (bare_expr e))) (exprs_gathered es)

  pub exprs_resolved : (es : List named.Expr) (rs : List Expr) (i : ℕ) → length es ≤ i → map numbered_expr rs ≡ map (λ e. renamed_expr f (bare_expr e)) (take i es) → numbered_exprs rs ≡ renamed_exprs f (bare_exprs es)
  exprs_resolved es rs i h k = ap gather_exprs (k ∙ ap (map (λ e. renamed_expr f (bare_expr e))) (take_all i es h)) ∙ exprs_gathered es

  stmts_gathered : (es : List named-stmt.Stmt) → gather_stmts (map (λ e. renamed_stmt f (bare_stmt e)) es) ≡ renamed_stmts f (bare_stmts es)
  stmts_gathered [] = refl
  stmts_gathered (e ∷ es) = ap (more_stmts (renamed_stmt f (bare_stmt e))) (stmts_gathered es)

  pub stmts_resolved : (es : List named-stmt.Stmt) (rs : List Stmt) (i : ℕ) → length es ≤ i → map numbered_stmt rs ≡ map (λ e. renamed_stmt f (bare_stmt e)) (take i es) → numbered_stmts rs ≡ renamed_stmts f (bare_stmts es)
  stmts_resolved es rs i h k = ap gather_stmts (k ∙ ap (map (λ e. renamed_stmt f (bare_stmt e))) (take_all i es h)) ∙ stmts_gathered es

  params_gathered : (es : List named-param.Param) → map (λ e. renamed_param f (bare_param e)) es ≡ map (renamed_param f) (map bare_param es)
  params_gathered [] = refl
  params_gathered (e ∷ es) = ap (λ rest. renamed_param f (bare_param e) ∷ rest) (params_gathered es)

  pub params_resolved : (es : List named-param.Param) (rs : List Param) (i : ℕ) → length es ≤ i → map numbered_param rs ≡ map (λ e. renamed_param f (bare_param e)) (take i es) → map numbered_param rs ≡ map (renamed_param f) (map bare_param es)
  params_resolved es rs i h k = k ∙ (ap (map (λ e. renamed_param f (bare_param e))) (take_all i es h) ∙ params_gathered es)

  items_gathered : (es : List named-item.Item) → map (λ e. renamed_top f (bare_top e)) es ≡ map (renamed_top f) (map bare_top es)
  items_gathered [] = refl
  items_gathered (e ∷ es) = ap (λ rest. renamed_top f (bare_top e) ∷ rest) (items_gathered es)

  pub items_resolved : (es : List named-item.Item) (rs : List Item) (i : ℕ) → length es ≤ i → map numbered_top rs ≡ map (λ e. renamed_top f (bare_top e)) (take i es) → map numbered_top rs ≡ map (renamed_top f) (map bare_top es)
  items_resolved es rs i h k = k ∙ (ap (map (λ e. renamed_top f (bare_top e))) (take_all i es h) ∙ items_gathered es)
