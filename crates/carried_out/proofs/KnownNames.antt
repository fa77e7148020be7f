-- A name of a list that is taken is no fresh name: it is taken, or it doesn't begin as fresh names do.
use Rattle.std.proofs.Common.{◌≡◌, refl, ap, ◌∙◌, subst, zero, suc, List, [], ◌∷◌, ◌++◌, Bool, true, false}
use Rattle.std.specs.Prelude.{bytes_eq, if◌then◌else◌}
use Rattle.std.proofs.lemmas.Bool.{both_ways}
use Rattle.std.proofs.lemmas.Slice.Eq.{bytes_eq-Decides}
use Rattle.c_tree.specs.Bare.{Name}
use Rattle.c_semantics.specs.Meaning.FileVariables.{has_name}
use Rattle.loop_normal.specs.DrawnNames.{FreshNames, drawn, after_draw, AreDigits}
use Rattle.loop_normal.proofs.FreshFrames.{same_name}
use Rattle.loop_normal.proofs.Drawn.{drawn_is_untaken}
use Rattle.loop_normal.proofs.TakenNames.{first_has, second_has}
use Rattle.loop_normal.specs.SourceNames.{begins_like_fresh, kept}
use Rattle.carried_out.proofs.SpentNames.{Spent, after_are}

-- taken, where it begins as fresh names do
abbrev pub Known : List Name → Name → Type 0
Known taken x = begins_like_fresh x ≡ true → has_name taken x ≡ true

pub known_spent : (f : FreshNames) → AreDigits f.digits → (x : Name) → Known f.taken x → Spent f x
known_spent f d x k zero = by (bytes_eq (drawn f) x) refl
  where
    by : (t : Bool) → bytes_eq (drawn f) x ≡ t → t ≡ false
    by false e = refl
    by true e =
        let is : drawn f ≡ x = (bytes_eq-Decides (drawn f) x).0 e in
        absurd (both_ways (has_name f.taken x) (subst (λ y. has_name f.taken y ≡ false) is (drawn_is_untaken f d)) (k (subst (λ y. begins_like_fresh y ≡ true) is refl)))
known_spent f d x k (suc j) = known_spent (after_draw f) (after_are f d) x k j

-- ---- lists of names

module _ (taken : List Name) where
  abbrev pub Within : List Name → Type 0
  Within xs = (z : Name) → has_name xs z ≡ true → has_name taken z ≡ true

  pub first : (xs ys : List Name) → Within (xs ++ ys) → Within xs
  first xs ys h z i = h z (first_has xs ys z i)

  pub second : (xs ys : List Name) → Within (xs ++ ys) → Within ys
  second xs ys h z i = h z (second_has xs ys z i)

  pub kept_known : (x : Name) → Within (kept x) → Known taken x
  kept_known x h e = h x (ap (λ t. has_name (if t then x ∷ [] else []) x) e ∙ ap (λ t. if t then true else false) (same_name x))
