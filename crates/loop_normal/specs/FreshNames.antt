-- What the names of generated code have to be: apart from each other, from what the source names, and from what stands
-- in a frame.
use Rattle.std.specs.Prelude.{◌≡◌, List, [], ◌∷◌, None, true}
use Rattle.c_tree.specs.Bare.{Name, Stmts}
use Rattle.c_semantics.specs.Meaning.State.{Var, find}
use Rattle.c_semantics.specs.Meaning.FileVariables.{has_name}
use Rattle.c_semantics.specs.Laws.Names.{UsesAll}
use Rattle.c_semantics.specs.Laws.Apart.{Differ}
use Rattle.loop_normal.specs.Templates.{LoopNames}
use Rattle.loop_normal.specs.Denotes.{Undeclared}

-- one of these names
abbrev pub Among : List Name → Name → Type 0
Among names x = has_name names x ≡ true

-- a name that differs from each name of a kind
abbrev pub Source : (Name → Type 0) → Name → Type 0
Source Out x = (y : Name) → Out y → Differ x y

-- no statement of the list names a variable of that kind
abbrev pub NamesNone : (Name → Type 0) → Stmts → Type 0
NamesNone Out as' = (x : Name) → Out x → UsesAll (λ y. Differ y x) (λ f. Unit {0}) as'

-- the names of a normal form
pub record AreApart (m : LoopNames) : Type 0 where
  pub begin_end : Differ m.begin m.end
  pub begin_count : Differ m.begin m.count
  pub begin_counter : Differ m.begin m.counter
  pub end_count : Differ m.end m.count
  pub count_counter : Differ m.count m.counter

-- a name is none of the list
abbrev pub Apart : Name → List Name → Type 0
Apart x [] = Unit {0}
Apart x (y ∷ ys) = Differ y x × Apart x ys

-- names that neither the frame nor the declarations have, each once
abbrev pub NewAll : List Name → Stmts → List Var → Type 0
NewAll [] ls p = Unit {0}
NewAll (x ∷ xs) ls p = Undeclared x ls × (find x p ≡ None) × Apart x xs × NewAll xs ls p
