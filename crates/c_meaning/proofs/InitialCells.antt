-- What an array holds at the start, by its dimensions in the code's tree.
use Rattle.std.proofs.Common.{◌≡◌, ◌∙◌, sym, ap, refl, List, [], ◌∷◌, map, Option, Result, Ok, Err, Bool, true, false}
use Rattle.std.specs.Prelude.{◌↔◌, IsTrue, IfOk}
use Rattle.c_tree.specs.Bare as b
use Rattle.c_tree.specs.Bare.{expr_list}
use Rattle.resolved_names.specs.Numbered.{numbered_expr, numbered_exprs}
use Rattle.resolved_names.specs.declared.tree.Expr.{Expr}
use Rattle.c_tree.specs.declared.tree.Ty.{Ty}
use Rattle.c_semantics.specs.Loops.Directives.{number}
use Rattle.c_semantics.specs.Meaning.Expressions.{Define}
use Rattle.c_semantics.specs.Meaning.Programs.{initial}
use Rattle.c_meaning.specs.declared.variable.Cell.{Cell}
use Rattle.c_meaning.specs.Globals.{zeros}
use Rattle.c_meaning.specs.Variables.{cell_of}

numbers_same : (ds : List Define) (dims : List Expr) → map (number ds) (expr_list (numbered_exprs dims)) ≡ map (λ e. number ds (numbered_expr e)) dims
numbers_same ds [] = refl
numbers_same ds (d ∷ dims) = ap (λ ks. number ds (numbered_expr d) ∷ ks) (numbers_same ds dims)

initial_array : (ds : List Define) (t : Ty) (dims : List Expr) (o : Option b.Expr) → (dims ≡ [] → ⊥) → initial ds t (expr_list (numbered_exprs dims)) o ≡ zeros t (map (λ e. number ds (numbered_expr e)) dims)
initial_array ds t [] o some = absurd (some refl)
initial_array ds t (d ∷ dims) o some = ap (zeros t) (numbers_same ds (d ∷ dims))

-- a list that is told not to be empty isn't
some_dims : (dims : List Expr) (empty : Bool) → (IsTrue empty ↔ (dims ≡ [])) → empty ≡ false → dims ≡ [] → ⊥
some_dims dims empty tells not is = let true_too : empty ≡ true = tells.1 is in absurd (cc)

pub array_is_initial : {E : Type 0} (ds : List Define) (t : Ty) (dims : List Expr) (o : Option b.Expr) (empty : Bool) → (IsTrue empty ↔ (dims ≡ [])) → empty ≡ false → (r : Result Cell E) → IfOk r (λ cell. cell_of cell ≡ zeros t (map (λ e. number ds (numbered_expr e)) dims)) → IfOk r (λ cell. cell_of cell ≡ initial ds t (expr_list (numbered_exprs dims)) o)
array_is_initial ds t dims o empty tells not (Ok cell) is = is ∙ sym (initial_array ds t dims o (some_dims dims empty tells not))
array_is_initial ds t dims o empty tells not (Err e) is = tt
