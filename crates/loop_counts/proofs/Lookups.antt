-- Lists of which the latest stands first, and what a name means in a state.
use Rattle.std.proofs.Common.{◌≡◌, ◌∙◌, sym, ap, refl, suc, List, [], ◌∷◌, ◌++◌, length, reverse, map}
use Rattle.std.proofs.lemmas.List.{reverse-append}
use Rattle.std.specs.Prelude.{Option, Some, None}
use Rattle.c_tree.specs.Bare.{Name}
use Rattle.c_tree.specs.declared.tree.Ty.{Ty}
use Rattle.c_semantics.specs.Meaning.State.{scalar, Cell, State, find, look, or_else}

-- ---- one more at the end

module _ {A B : Type 0} (f : A → B) where
  pub map_length : (vs : List A) → length (map f vs) ≡ length vs
  map_length [] = refl
  map_length (v ∷ vs) = ap suc (map_length vs)

  pub map_reverse_more : (vs : List A) (v : A) → map f (reverse (vs ++ v ∷ [])) ≡ f v ∷ map f (reverse vs)
  map_reverse_more vs v = ap (map f) (reverse-append vs (v ∷ []))

-- ---- in a state

pub look_frame : (s : State) (x : Name) (t : Ty) → Some (scalar t None) ≡ find x s.frame → look s x ≡ Some (scalar t None)
look_frame s x t e = ap (λ o. or_else o (find x s.globals)) (sym e)

pub look_globals : (s : State) (x : Name) (o : Option Cell) → None ≡ find x s.frame → o ≡ find x s.globals → look s x ≡ o
look_globals s x o e f = ap (λ p. or_else p (find x s.globals)) (sym e) ∙ sym f

pub ruleset seen = (look_frame, look_globals)
