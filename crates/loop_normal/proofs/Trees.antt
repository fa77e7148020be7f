-- The bare trees of joined lists.
use Rattle.std.proofs.Common.{◌≡◌, refl, sym, ap, ℕ, ◌<◌, List, [], ◌∷◌, ◌++◌, length, remove, slice_index_or, arith}
use Rattle.c_tree.specs.declared.tree.Stmt.{Stmt}
use Rattle.c_tree.specs.Bare.{more_stmts}
use Rattle.c_tree.specs.BareOf.{bare_stmt, bare_stmts}
use Rattle.loop_normal.specs.Gens.{join}

pub stmts_join : (xs ys : List Stmt) → bare_stmts (xs ++ ys) ≡ join (bare_stmts xs) (bare_stmts ys)
stmts_join [] ys = refl
stmts_join (x ∷ xs) ys = ap (more_stmts (bare_stmt x)) (stmts_join xs ys)

-- the first item of a list, and what is left without it
pub first_and_rest : {T : Type 0} (xs : List T) (x : T) → 0 < length xs → x ≡ slice_index_or xs 0 x → xs ≡ x ∷ remove xs 0
first_and_rest [] x h e = absurd (omega (arith, h))
first_and_rest (y ∷ xs) x h e = ap (λ z. z ∷ xs) (sym e)

pub ruleset trees = (stmts_join, first_and_rest)
