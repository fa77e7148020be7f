-- The outer variables in a larger frame, and names that a frame doesn't have.
use Rattle.std.proofs.Common.{◌≡◌, List, [], ◌∷◌, ◌++◌, Ok, ℤ}
use Rattle.c_tree.specs.Bare.{Name}
use Rattle.c_tree.specs.Arithmetic.{and_then, convert}
use Rattle.c_semantics.specs.Meaning.State.{Var, State}
use Rattle.c_semantics.specs.Meaning.Expressions.{Define, eval}
use Rattle.loop_normal.specs.Frames.{above}
use Rattle.loop_normal.specs.FreshNames.{Source, Apart}
use Rattle.loop_normal.proofs.FreshFrames.{find_other}
use Rattle.nest_normal.specs.OuterVariables.{Outer, AgreesOn, Given}
use Rattle.nest_normal.specs.NestDenotes.{HasNone}

-- one variable more
pub has_none_push : (v : Var) (xs : List Name) (p : List Var) → Apart v.name xs → HasNone xs p → HasNone xs (v ∷ p)
has_none_push v [] p a h = tt
has_none_push v (x ∷ xs) p a h = (find_other x v p a.0 h.0, has_none_push v xs p a.1 h.1)

-- one outer variable more, the innermost
pub given_more : (Out : Name → Type 0) (es : List Define) (p : List Var) (ds : List Outer) (zs : List ℤ) (d : Outer) (z : ℤ) →
    Source Out d.name → ((f : List Var) (s : State) → AgreesOn Out p f → and_then (eval es (above f s) d.value) (convert d.ty) ≡ Ok z) →
    Given Out es p ds zs → Given Out es p (ds ++ d ∷ []) (zs ++ z ∷ [])
given_more Out es p [] [] d z a v h = (a, v, tt)
given_more Out es p [] (y ∷ zs) d z a v h = absurd h
given_more Out es p (c ∷ ds) [] d z a v h = absurd h
given_more Out es p (c ∷ ds) (y ∷ zs) d z a v h = (h.0, h.1, given_more Out es p ds zs d z a v h.2)
