-- What a table of functions knows.
use Rattle.std.proofs.Common.{◌≡◌, refl, Bool, true, false, cond, List, [], ◌∷◌, map, Some}
use Rattle.std.specs.Prelude.{bytes_eq, if◌then◌else◌}
use Rattle.std.specs.Map.{lookup}
use Rattle.c_tree.specs.Bare.{Name}
use Rattle.c_semantics.specs.Meaning.FileVariables.{Access, access_of}
use Rattle.loop_heads.specs.Touching.{or_no_access}

pub known_access : (es : List (Name × Access)) (f : Name) → or_no_access (lookup (bytes_eq f) es) ≡ access_of (map (λ e. record { name = e.0; access = e.1 }) es) f
known_access [] f = refl
known_access (e ∷ es) f = by (bytes_eq f e.0) (known_access es f)
  where
    by : (b : Bool) → or_no_access (lookup (bytes_eq f) es) ≡ access_of (map (λ e. record { name = e.0; access = e.1 }) es) f
        → or_no_access (cond b (Some e.1) (lookup (bytes_eq f) es)) ≡ (if b then e.1 else access_of (map (λ e. record { name = e.0; access = e.1 }) es) f)
    by true h = refl
    by false h = h

pub ruleset known = (known_access)
