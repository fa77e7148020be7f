-- Declarations before a loop: what they leave unseen, lists of them, and names that are new to a frame.
use Rattle.std.proofs.Common.{◌≡◌, refl, sym, ap, ◌∙◌, subst, ℕ, List, [], ◌∷◌, Some, None, Ok, Bool, true, false}
use Rattle.std.specs.Prelude.{bytes_eq, nat_abs, Result, ℤ}
use Rattle.std.proofs.lemmas.Slice.Eq.{bytes_eq-Decides}
use Rattle.c_tree.specs.Bare.{Name, Expr, decl, Stmts, no_stmts, more_stmts}
use Rattle.c_tree.specs.declared.tree.Ty.TheVariants.{Long}
use Rattle.c_tree.specs.declared.arithmetic.Trap.{Trap}
use Rattle.c_semantics.specs.Meaning.State.{Var, find, nowhere}
use Rattle.c_semantics.specs.Meaning.Expressions.{Define}
use Rattle.c_semantics.specs.Meaning.SimpleStatements.{Env}
use Rattle.c_semantics.specs.Loops.Execution.{Body}
use Rattle.loop_normal.specs.Frames.{long, Agrees, AgreesBut}
use Rattle.loop_normal.specs.Gens.{join}
use Rattle.loop_normal.specs.Denotes.{Value, LetsRun, Undeclared}
use Rattle.loop_normal.specs.FreshNames.{Apart, NewAll}
use Rattle.loop_normal.proofs.FreshFrames.{find_other, not_none}

-- a value is one value
abbrev number : Result ℤ Trap → ℕ
number (Ok z) = nat_abs z
number _ = 0

pub value_one : (ds : List Define) (F : List Var → Type 0) (f : List Var) (e : Expr) (j k : ℕ) → F f → Value ds F e j → Value ds F e k → j ≡ k
value_one ds F f e j k a v w = ap number (sym (v.1 f nowhere a).0 ∙ (w.1 f nowhere a).0)

-- what agrees but for a name that the frame doesn't have agrees
pub agrees_where_new : (x : Name) (p f : List Var) → find x p ≡ None → AgreesBut x p f → Agrees p f
agrees_where_new x p f new h y c e = by (bytes_eq y x) refl
  where
    by : (t : Bool) → bytes_eq y x ≡ t → find y f ≡ Some c
    by true q = absurd (not_none c (sym new ∙ subst (λ z. find z p ≡ Some c) ((bytes_eq-Decides y x).0 q) e))
    by false q = h y c q e

-- names that the frame doesn't have, each once
abbrev pub Fresh : List Name → List Var → Type 0
Fresh [] p = Unit {0}
Fresh (x ∷ xs) p = (find x p ≡ None) × Apart x xs × Fresh xs p

pub fresh_push : (x : Name) (k : ℕ) (xs : List Name) (p : List Var) → Apart x xs → Fresh xs p → Fresh xs (long x k ∷ p)
fresh_push x k [] p a h = tt
fresh_push x k (y ∷ ys) p a h = (find_other y (long x k) p a.0 h.0, h.1, fresh_push x k ys p a.1 h.2)

module _ (n : ℕ) (env : Env) (bs : List Body) (Out : Name → Type 0) where
  pub lets_new : (x : Name) (ls : Stmts) (p q : List Var) → Undeclared x ls → LetsRun n env bs Out ls p q → find x p ≡ None → find x q ≡ None
  lets_new x no_stmts p q a h e = ap (find x) h ∙ e
  lets_new x (more_stmts (decl Long y (Some d)) ls) p q a h e = lets_new x ls (long y h.1 ∷ p) q a.1 h.3 (find_other x (long y h.1) p a.0 e)
  lets_new x (more_stmts _ ls) p q a h e = absurd h

  pub fresh_after : (xs : List Name) (ls : Stmts) (p q : List Var) → LetsRun n env bs Out ls p q → NewAll xs ls p → Fresh xs q
  fresh_after [] ls p q h m = tt
  fresh_after (x ∷ xs) ls p q h m = (lets_new x ls p q m.0 h m.1, m.2, fresh_after xs ls p q h m.3)

  pub lets_append : (ls ms : Stmts) (p q r : List Var) → LetsRun n env bs Out ls p q → LetsRun n env bs Out ms q r → LetsRun n env bs Out (join ls ms) p r
  lets_append no_stmts ms p q r h k = subst (λ x. LetsRun n env bs Out ms x r) h k
  lets_append (more_stmts (decl Long y (Some d)) ls) ms p q r h k = (h.0, h.1, h.2, lets_append ls ms (long y h.1 ∷ p) q r h.3 k)
  lets_append (more_stmts _ ls) ms p q r h k = absurd h
