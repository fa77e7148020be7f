-- A list with one statement and any other, without a block that alone holds its statements.
use Rattle.std.proofs.Common.{◌≡◌, ◌∙◌, sym, ap, refl, ◌≢◌, List, [], ◌∷◌, map, length, slice_index_or, arith}
use Rattle.c_tree.specs.Placed as p
use Rattle.c_tree.specs.PlacedOf.{placed_stmt, placed_stmts}
use Rattle.c_tree.specs.declared.tree.Stmt.{Stmt}
use Rattle.canonical_nests.specs.LoopRules.Structure.{stmt_list, unwrapped}
use Rattle.loop_structure.specs.Members.{unwrapped_one}
use Rattle.loop_structure.proofs.FoundDepths.{single_good}

one_is : (s : p.Stmt) → unwrapped (p.more_stmts s p.no_stmts) ≡ unwrapped_one s
one_is (p.block a s) = refl
one_is (p.for_ h a s) = refl
one_is (p.omp d a s) = refl
one_is (p.decl t x at e s) = refl
one_is (p.set t o e s) = refl
one_is (p.step t up s) = refl
one_is (p.print e s) = refl
one_is (p.input t at s) = refl
one_is (p.if_ e a s) = refl
one_is (p.if_else e a b s) = refl
one_is (p.while_ e a s) = refl
one_is (p.do_ a e s) = refl
one_is (p.break_ s) = refl
one_is (p.continue_ s) = refl
one_is (p.empty s) = refl
one_is (p.call x at es s) = refl

rest_is : (xs : List Stmt) → stmt_list (placed_stmts xs) ≡ map placed_stmt xs
rest_is [] = refl
rest_is (x ∷ xs) = ap (λ as'. placed_stmt x ∷ as') (rest_is xs)

all_of : (s t : p.Stmt) (as' : p.Stmts) → unwrapped (p.more_stmts s (p.more_stmts t as')) ≡ s ∷ t ∷ stmt_list as'
all_of (p.block a z) t as' = refl
all_of (p.for_ h a z) t as' = refl
all_of (p.omp d a z) t as' = refl
all_of (p.decl ty x at e z) t as' = refl
all_of (p.set g o e z) t as' = refl
all_of (p.step g up z) t as' = refl
all_of (p.print e z) t as' = refl
all_of (p.input g at z) t as' = refl
all_of (p.if_ e a z) t as' = refl
all_of (p.if_else e a b z) t as' = refl
all_of (p.while_ e a z) t as' = refl
all_of (p.do_ a e z) t as' = refl
all_of (p.break_ z) t as' = refl
all_of (p.continue_ z) t as' = refl
all_of (p.empty z) t as' = refl
all_of (p.call x at es z) t as' = refl

several : (s t : p.Stmt) (xs : List Stmt) → unwrapped (p.more_stmts s (p.more_stmts t (placed_stmts xs))) ≡ s ∷ t ∷ map placed_stmt xs
several s t xs = all_of s t (placed_stmts xs) ∙ ap (λ as'. s ∷ t ∷ as') (rest_is xs)

pub not_one : (xs : List Stmt) → length xs ≢ 1 → unwrapped (placed_stmts xs) ≡ map placed_stmt xs
not_one [] other = refl
not_one (x ∷ []) other = absurd (other refl)
not_one (x ∷ y ∷ xs) other = several (placed_stmt x) (placed_stmt y) xs

pub only_one : (xs : List Stmt) (x : Stmt) → length xs ≡ 1 → x ≡ slice_index_or xs 0 x → unwrapped (placed_stmts xs) ≡ unwrapped_one (placed_stmt x)
only_one [] x one is = absurd (omega (arith, one))
only_one (y ∷ []) x one is = one_is (placed_stmt y) ∙ ap (λ z. unwrapped_one (placed_stmt z)) (sym is)
only_one (y ∷ z ∷ xs) x one is = absurd (omega (arith, one))

pub list_of_one : (xs : List Stmt) (x : Stmt) → length xs ≡ 1 → x ≡ slice_index_or xs 0 x → map placed_stmt xs ≡ placed_stmt x ∷ []
list_of_one [] x one is = absurd (omega (arith, one))
list_of_one (y ∷ []) x one is = ap (λ z. placed_stmt z ∷ []) (sym is)
list_of_one (y ∷ z ∷ xs) x one is = absurd (omega (arith, one))

pub ruleset unwrapping = (not_one, only_one, list_of_one, single_good)
