-- What is visible in a scope inside another one, and after declarations.
use Rattle.std.proofs.Common.{◌≡◌, refl, sym, ap, ◌∙◌, subst, List, [], ◌∷◌, ◌++◌, Option, Some, None, Bool, true, false}
use Rattle.std.specs.Prelude.{bytes_eq, is_some, if◌then◌else◌}
use Rattle.std.proofs.lemmas.Bool.{or_parts, or_from}
use Rattle.c_tree.specs.Bare.{Name, read}
use Rattle.c_tree.specs.declared.name_rule.Declaration.{Declaration}
use Rattle.c_tree.specs.declared.name_rule.Entity.{Entity}
use Rattle.c_tree.specs.NameRules.BreachSets.{HasNone}
use Rattle.c_tree.specs.NameRules.Breaches.{use_breaches, assign_breaches, expr_breaches}
use Rattle.c_tree.specs.NameRules.Scopes.{Scope, find, or_else, meaning, is_define, is_taken, add, declare, a_scalar, inner}
use Rattle.c_semantics.specs.Laws.Apart.{Differ}
use Rattle.loop_normal.proofs.FreshFrames.{same_name}
use Rattle.c_soundness.specs.Unplaced.{unplaced_expr}

find_in_both : (x : Name) (here outside : List Declaration) → find x (here ++ outside) ≡ or_else (find x here) (find x outside)
find_in_both x [] outside = refl
find_in_both x (d ∷ here) outside = by (find_in_both x here outside) (bytes_eq x d.name)
  where
    by : find x (here ++ outside) ≡ or_else (find x here) (find x outside) → (t : Bool) → (if t then Some d.entity else find x (here ++ outside)) ≡ or_else (if t then Some d.entity else find x here) (find x outside)
    by rest true = refl
    by rest false = rest

pub meaning_inner : (s : Scope) (x : Name) → meaning (inner s) x ≡ meaning s x
meaning_inner s x = find_in_both x s.here s.outside

meaning_added : (s : Scope) (x y : Name) → meaning (add x a_scalar s) y ≡ (if bytes_eq y x then Some a_scalar else meaning s y)
meaning_added s x y = by (bytes_eq y x)
  where
    by : (t : Bool) → or_else (if t then Some a_scalar else find y s.here) (find y s.outside) ≡ (if t then Some a_scalar else meaning s y)
    by true = refl
    by false = refl

pub is_added : (s : Scope) (x : Name) → is_taken s x ≡ false → declare x a_scalar s ≡ add x a_scalar s
is_added s x h = ap (λ t. if t then s else add x a_scalar s) h

pub meaning_declared : (s : Scope) (x y : Name) → is_taken s x ≡ false → meaning (declare x a_scalar s) y ≡ (if bytes_eq y x then Some a_scalar else meaning s y)
meaning_declared s x y h = ap (λ u. meaning u y) (is_added s x h) ∙ meaning_added s x y

-- another name means what it did, declared anew or not
pub meaning_other : (s : Scope) (x y : Name) → Differ y x → meaning (declare x a_scalar s) y ≡ meaning s y
meaning_other s x y d = by (is_taken s x)
  where
    by : (t : Bool) → meaning (if t then s else add x a_scalar s) y ≡ meaning s y
    by true = refl
    by false = meaning_added s x y ∙ ap (λ t. if t then Some a_scalar else meaning s y) d

-- ---- names that may be declared

pub not_taken : (s : Scope) (x : Name) → is_some (find x s.here) ≡ false → is_define (meaning s x) ≡ false → is_taken s x ≡ false
not_taken s x h k = or_from (is_some (find x s.here)) (is_define (meaning s x)) h k

pub own_free : (s : Scope) (x : Name) → is_taken s x ≡ false → is_some (find x s.here) ≡ false
own_free s x h = (or_parts (is_some (find x s.here)) (is_define (meaning s x)) h).0

pub no_define : (s : Scope) (x : Name) → is_taken s x ≡ false → is_define (meaning s x) ≡ false
no_define s x h = (or_parts (is_some (find x s.here)) (is_define (meaning s x)) h).1

pub unseen_free : (s : Scope) (x : Name) → meaning s x ≡ None → is_taken s x ≡ false
unseen_free s x h = not_taken s x (by (find x s.here) (find x s.outside) h) (ap is_define h)
  where
    by : (o p : Option Entity) → or_else o p ≡ None → is_some o ≡ false
    by None p e = refl
    by (Some c) p e = absurd (cc)

-- ---- scalars

abbrev pub Scalar : Scope → Name → Type 0
Scalar s x = meaning s x ≡ Some a_scalar

pub own_scalar : (s : Scope) (x : Name) → is_taken s x ≡ false → Scalar (declare x a_scalar s) x
own_scalar s x h = meaning_declared s x x h ∙ ap (λ t. if t then Some a_scalar else meaning s x) (same_name x)

pub still_scalar : (s : Scope) (x y : Name) → Differ y x → Scalar s y → Scalar (declare x a_scalar s) y
still_scalar s x y d k = meaning_other s x y d ∙ k

pub inner_scalar : (s : Scope) (x : Name) → Scalar s x → Scalar (inner s) x
inner_scalar s x h = meaning_inner s x ∙ h

pub scalar_read : (t : Scope) (x : Name) → Scalar t x → HasNone (expr_breaches t (unplaced_expr (read x)))
scalar_read t x h = subst (λ o. HasNone (use_breaches o 0 0)) (sym h) tt

pub scalar_assigned : (t : Scope) (x : Name) → Scalar t x → HasNone (assign_breaches (meaning t x) 0)
scalar_assigned t x h = subst (λ o. HasNone (assign_breaches o 0)) (sym h) tt
