-- What a scope has that another one has, and fresh scalars beside it.
use Rattle.std.proofs.Common.{◌≡◌, refl, sym, ap, ◌∙◌, subst, List, [], ◌∷◌, ◌++◌, Some, None, Bool, true, false, ◌||◌}
use Rattle.std.specs.Prelude.{bytes_eq, is_some, if◌then◌else◌}
use Rattle.c_tree.specs.Bare.{Name}
use Rattle.c_tree.specs.declared.name_rule.Declaration.{Declaration}
use Rattle.c_tree.specs.NameRules.Scopes.{Scope, find, or_else, meaning, is_define, is_taken, add, declare, a_scalar, inner}
use Rattle.c_semantics.specs.Laws.Apart.{Differ}
use Rattle.c_soundness.proofs.Files.{one_name}
use Rattle.loop_normal.specs.DrawnNames.{FreshNames}
use Rattle.loop_normal.proofs.FreshFrames.{same_name}
use Rattle.carried_names.proofs.Fresh.{Fresh, Source}

-- ---- what a name means in a scope inside, and after a declaration

find_in_both : (x : Name) (here outside : List Declaration) → find x (here ++ outside) ≡ or_else (find x here) (find x outside)
find_in_both x [] outside = refl
find_in_both x (d ∷ here) outside = by (find_in_both x here outside) (bytes_eq x d.name)
  where
    by : find x (here ++ outside) ≡ or_else (find x here) (find x outside) → (t : Bool) → (if t then Some d.entity else find x (here ++ outside)) ≡ or_else (if t then Some d.entity else find x here) (find x outside)
    by rest true = refl
    by rest false = rest

pub meaning_inner : (s : Scope) (x : Name) → meaning (inner s) x ≡ meaning s x
meaning_inner s x = find_in_both x s.here s.outside

pub is_added : (s : Scope) (x : Name) → is_taken s x ≡ false → declare x a_scalar s ≡ add x a_scalar s
is_added s x h = ap (λ t. if t then s else add x a_scalar s) h

meaning_added : (s : Scope) (x y : Name) → meaning (add x a_scalar s) y ≡ (if bytes_eq y x then Some a_scalar else meaning s y)
meaning_added s x y = by (bytes_eq y x)
  where
    by : (t : Bool) → or_else (if t then Some a_scalar else find y s.here) (find y s.outside) ≡ (if t then Some a_scalar else meaning s y)
    by true = refl
    by false = refl

pub meaning_declared : (s : Scope) (x y : Name) → is_taken s x ≡ false → meaning (declare x a_scalar s) y ≡ (if bytes_eq y x then Some a_scalar else meaning s y)
meaning_declared s x y h = ap (λ u. meaning u y) (is_added s x h) ∙ meaning_added s x y

pub not_taken : (s : Scope) (x : Name) → find x s.here ≡ None → is_define (meaning s x) ≡ false → is_taken s x ≡ false
not_taken s x h k = (λ i. is_some (h i) || is_define (meaning s x)) ∙ k

-- ---- scalars

abbrev pub Scalar : Scope → Name → Type 0
Scalar s x = meaning s x ≡ Some a_scalar

pub own_scalar : (s : Scope) (x : Name) → is_taken s x ≡ false → Scalar (declare x a_scalar s) x
own_scalar s x h = meaning_declared s x x h ∙ ap (λ t. if t then Some a_scalar else meaning s x) (same_name x)

pub still_scalar : (s : Scope) (x y : Name) → is_taken s x ≡ false → Scalar s y → Scalar (declare x a_scalar s) y
still_scalar s x y h k = meaning_declared s x y h ∙ by (bytes_eq y x)
  where
    by : (t : Bool) → (if t then Some a_scalar else meaning s y) ≡ Some a_scalar
    by true = refl
    by false = k

pub inner_scalar : (s : Scope) (x : Name) → Scalar s x → Scalar (inner s) x
inner_scalar s x h = meaning_inner s x ∙ h

-- ---- names that a scope doesn't declare itself

abbrev pub Free : Scope → Name → Type 0
Free s x = find x s.here ≡ None

pub still_free : (s : Scope) (x y : Name) → is_taken s x ≡ false → Differ y x → Free s y → Free (declare x a_scalar s) y
still_free s x y h d f = ap (λ u. find y u.here) (is_added s x h) ∙ ap (λ t. if t then Some a_scalar else find y s.here) d ∙ f

-- ---- one scope seen in another

module _ (start : FreshNames) where
  -- the second has what the first has, and besides at most fresh names, which are no defines
  pub record Under (s t : Scope) : Type 0 where
    pub same : (x : Name) → Source start x → meaning t x ≡ meaning s x
    pub plain : (x : Name) → Fresh start x → is_define (meaning t x) ≡ false
    pub print_same : t.print_known ≡ s.print_known
    pub input_same : t.input_known ≡ s.input_known

  -- no fresh name is declared
  abbrev pub Clean : Scope → Type 0
  Clean s = (x : Name) → Fresh start x → meaning s x ≡ None

  pub under_self : (s : Scope) → Clean s → Under s s
  under_self s c = record { same = λ x h. refl; plain = λ x h. ap is_define (c x h); print_same = refl; input_same = refl }

  pub under_then : (s t u : Scope) → Under s t → Under t u → Under s u
  under_then s t u h k = record {
    same = λ x d. k.same x d ∙ h.same x d;
    plain = k.plain;
    print_same = k.print_same ∙ h.print_same;
    input_same = k.input_same ∙ h.input_same;
  }

  pub under_inner : (s t : Scope) → Under s t → Under s (inner t)
  under_inner s t h = record {
    same = λ x d. meaning_inner t x ∙ h.same x d;
    plain = λ x d. ap is_define (meaning_inner t x) ∙ h.plain x d;
    print_same = h.print_same;
    input_same = h.input_same;
  }

  pub inner_under : (s t : Scope) → Under s t → Under (inner s) t
  inner_under s t h = record {
    same = λ x d. h.same x d ∙ sym (meaning_inner s x);
    plain = h.plain;
    print_same = h.print_same;
    input_same = h.input_same;
  }

  pub clean_inner : (s : Scope) → Clean s → Clean (inner s)
  clean_inner s c x h = meaning_inner s x ∙ c x h

  pub fresh_apart : (x y : Name) → Source start x → Fresh start y → Differ y x
  fresh_apart x y h k = by (bytes_eq y x) refl
    where
      by : (t : Bool) → bytes_eq y x ≡ t → t ≡ false
      by true e = absurd (h (subst (Fresh start) (one_name y x e) k))
      by false e = refl

  pub source_apart : (x y : Name) → Source start x → Fresh start y → Differ x y
  source_apart x y h k = by (bytes_eq x y) refl
    where
      by : (t : Bool) → bytes_eq x y ≡ t → t ≡ false
      by true e = absurd (h (subst (Fresh start) (sym (one_name x y e)) k))
      by false e = refl

  -- a fresh scalar more
  pub under_fresh : (s t : Scope) (x : Name) → Under s t → Fresh start x → is_taken t x ≡ false → Under s (declare x a_scalar t)
  under_fresh s t x h f free = record {
    same = λ y d. meaning_declared t x y free ∙ ap (λ b. if b then Some a_scalar else meaning t y) (source_apart y x d f) ∙ h.same y d;
    plain = λ y d. ap is_define (meaning_declared t x y free) ∙ by y d (bytes_eq y x);
    print_same = ap (λ u. u.print_known) (is_added t x free) ∙ h.print_same;
    input_same = ap (λ u. u.input_known) (is_added t x free) ∙ h.input_same;
  }
    where
      by : (y : Name) → Fresh start y → (b : Bool) → is_define (if b then Some a_scalar else meaning t y) ≡ false
      by y d true = refl
      by y d false = h.plain y d

  -- a scalar of the source, declared in the second; in the first it is one already
  pub under_source : (s t w : Scope) (x : Name) → Under s t → Source start x → is_taken t x ≡ false →
      ((y : Name) → meaning w y ≡ (if bytes_eq y x then Some a_scalar else meaning s y)) → w.print_known ≡ s.print_known → w.input_known ≡ s.input_known → Under w (declare x a_scalar t)
  under_source s t w x h source free is print input = record {
    same = λ y d. meaning_declared t x y free ∙ ap (λ o. if bytes_eq y x then Some a_scalar else o) (h.same y d) ∙ sym (is y);
    plain = λ y d. ap is_define (meaning_declared t x y free) ∙ ap (λ b. is_define (if b then Some a_scalar else meaning t y)) (fresh_apart x y source d) ∙ h.plain y d;
    print_same = ap (λ u. u.print_known) (is_added t x free) ∙ h.print_same ∙ sym print;
    input_same = ap (λ u. u.input_known) (is_added t x free) ∙ h.input_same ∙ sym input;
  }

  pub clean_source : (s w : Scope) (x : Name) → Clean s → Source start x → ((y : Name) → meaning w y ≡ (if bytes_eq y x then Some a_scalar else meaning s y)) → Clean w
  clean_source s w x c source is y d = is y ∙ ap (λ b. if b then Some a_scalar else meaning s y) (fresh_apart x y source d) ∙ c y d

  -- the second has the first's declarations of its own, too
  pub record Alike (s t : Scope) : Type 0 where
    pub under : Under s t
    pub clean : Clean s
    pub here : (x : Name) → Source start x → is_some (find x t.here) ≡ is_some (find x s.here)

  pub alike_self : (s : Scope) → Clean s → Alike s s
  alike_self s c = record { under = under_self s c; clean = c; here = λ x h. refl }

  pub alike_inside : (s t : Scope) → Under s t → Clean s → Alike (inner s) (inner t)
  alike_inside s t h c = record { under = inner_under s (inner t) (under_inner s t h); clean = clean_inner s c; here = λ x d. refl }

  pub alike_inner : (s t : Scope) → Alike s t → Alike (inner s) (inner t)
  alike_inner s t h = alike_inside s t h.under h.clean

  pub taken_alike : (s t : Scope) (x : Name) → Alike s t → Source start x → is_taken s x ≡ false → is_taken t x ≡ false
  taken_alike s t x h d free = (λ i. h.here x d i || is_define (h.under.same x d i)) ∙ free

  pub alike_declared : (s t : Scope) (x : Name) → Alike s t → Source start x → is_taken s x ≡ false → Alike (declare x a_scalar s) (declare x a_scalar t)
  alike_declared s t x h d free =
      let after = taken_alike s t x h d free in
      let is = λ (y : Name). meaning_declared s x y free in
      record {
        under = under_source s t (declare x a_scalar s) x h.under d after is (ap (λ u. u.print_known) (is_added s x free)) (ap (λ u. u.input_known) (is_added s x free));
        clean = clean_source s (declare x a_scalar s) x h.clean d is;
        here = λ y k. ap (λ u. is_some (find y u.here)) (is_added t x after) ∙ by y (bytes_eq y x) (h.here y k) ∙ sym (ap (λ u. is_some (find y u.here)) (is_added s x free));
      }
    where
      by : (y : Name) (b : Bool) → is_some (find y t.here) ≡ is_some (find y s.here) → is_some (if b then Some a_scalar else find y t.here) ≡ is_some (if b then Some a_scalar else find y s.here)
      by y true k = refl
      by y false k = k
