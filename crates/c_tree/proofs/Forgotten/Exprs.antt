-- The bare tree of an expression.
use Rattle.std.proofs.Common.{◌≡◌, ◌∙◌, sym, ap, refl, subst, List, [], ◌∷◌, map, Option, Some, None}
use Rattle.std.specs.Option.{option_map}
use Rattle.c_tree.specs.Bare as b
use Rattle.c_tree.specs.Placed as p
use Rattle.c_tree.specs.BareOf as bare
use Rattle.c_tree.specs.BareOf.{bare_expr, bare_exprs, bare_target, bare_count}
use Rattle.c_tree.specs.PlacedOf as placed
use Rattle.c_tree.specs.PlacedOf.{placed_expr, placed_exprs, placed_target, placed_count}
use Rattle.c_tree.specs.Forget.{forget_expr, forget_exprs, forget_target, forget_count}
use Rattle.c_tree.specs.declared.tree.Expr.{Expr, Expr-F, ind-Expr, fold-roll-Expr, map-Expr}
use Rattle.c_tree.specs.declared.tree.Expr.TheOpen as e
use Rattle.c_tree.specs.declared.tree.Target.{Target}
use Rattle.c_tree.specs.declared.tree.Count.{Count}
use Rattle.c_tree.specs.declared.tree.Count.TheVariants.{Fill, Given}

abbrev IsForgotten : Expr → Type 0
IsForgotten t = bare_expr t ≡ forget_expr (placed_expr t)

abbrev Known : Type 0
Known = (t : Expr) × IsForgotten t

lists_agree : (es : List Known) → bare_exprs (map (λ e. e.0) es) ≡ forget_exprs (placed_exprs (map (λ e. e.0) es))
lists_agree [] = refl
lists_agree (e ∷ es) = λ i. b.more_exprs (e.1 i) (lists_agree es i)

abbrev LayerAgrees : Expr-F Expr → Type 0
LayerAgrees x = bare.expr_layer (map-Expr Expr b.Expr bare_expr x) ≡ forget_expr (placed.expr_layer (map-Expr Expr p.Expr placed_expr x))

layer_agrees : (y : Expr-F Known) → LayerAgrees (map-Expr Known Expr (λ e. e.0) y)
layer_agrees (e.Num n ty s) = refl
layer_agrees (e.Read x s) = refl
layer_agrees (e.Item x es s) = ap (b.item x) (lists_agree es)
layer_agrees (e.Un op e s) = ap (b.un op) e.1
layer_agrees (e.Bin op l r s) = λ i. b.bin op (l.1 i) (r.1 i)
layer_agrees (e.Cond t y n s) = λ i. b.cond (t.1 i) (y.1 i) (n.1 i)
layer_agrees (e.Cast ty e s) = ap (b.cast ty) e.1

pub bare_expr_is : (t : Expr) → bare_expr t ≡ forget_expr (placed_expr t)
bare_expr_is = ind-Expr IsForgotten (λ x y is.
    fold-roll-Expr b.Expr bare.expr_layer x ∙ subst LayerAgrees is (layer_agrees y) ∙ sym (ap forget_expr (fold-roll-Expr p.Expr placed.expr_layer x)))

pub bare_exprs_is : (es : List Expr) → bare_exprs es ≡ forget_exprs (placed_exprs es)
bare_exprs_is [] = refl
bare_exprs_is (e ∷ es) = λ i. b.more_exprs (bare_expr_is e i) (bare_exprs_is es i)

pub bare_option_is : (o : Option Expr) → option_map bare_expr o ≡ option_map forget_expr (option_map placed_expr o)
bare_option_is None = refl
bare_option_is (Some e) = ap Some (bare_expr_is e)

pub bare_target_is : (t : Target) → bare_target t ≡ forget_target (placed_target t)
bare_target_is t = ap (b.target t.name) (bare_exprs_is t.subs)

pub bare_count_is : (c : Count) → bare_count c ≡ forget_count (placed_count c)
bare_count_is (Fill s) = refl
bare_count_is (Given e) = ap b.given (bare_expr_is e)

pub bare_counts_is : (cs : List Count) → map bare_count cs ≡ map forget_count (map placed_count cs)
bare_counts_is [] = refl
bare_counts_is (c ∷ cs) = λ i. bare_count_is c i ∷ bare_counts_is cs i
