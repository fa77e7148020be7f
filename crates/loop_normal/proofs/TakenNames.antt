-- Names taken one after another: what the table has of them.
use Rattle.std.proofs.Common.{◌≡◌, ◌∙◌, refl, sym, ap, subst, Bool, true, false, List, [], ◌∷◌, ◌++◌}
use Rattle.std.specs.Prelude.{◌||◌, bytes_eq, if◌then◌else◌}
use Rattle.std.specs.List.{list_any}
use Rattle.std.proofs.lemmas.Bool.{both_ways}
use Rattle.std.proofs.lemmas.Slice.Eq.{bytes_eq-Decides}
use Rattle.indexmap.specs.IndexSet.{insert_key}
use Rattle.c_tree.specs.Bare.{Name}
use Rattle.c_semantics.specs.Meaning.FileVariables.{has_name}
use Rattle.loop_normal.specs.TakenNames.{with_name, with_names, taken_names}
use Rattle.loop_normal.proofs.FreshFrames.{same_name}

-- ---- the table

pub has_any : (ks : List Name) (x : Name) → has_name ks x ≡ list_any (bytes_eq x) ks
has_any [] x = refl
has_any (k ∷ ks) x = by (bytes_eq x k) (has_any ks x)
  where
    by : (b : Bool) → has_name ks x ≡ list_any (bytes_eq x) ks → (if b then true else has_name ks x) ≡ (b || list_any (bytes_eq x) ks)
    by true rest = refl
    by false rest = rest

put_last : (ks : List Name) (x : Name) → insert_key bytes_eq ks x ≡ with_name ks x
put_last ks x = ap (λ b. if b then ks else ks ++ x ∷ []) (sym (has_any ks x))

more_names : (taken xs : List Name) (x : Name) → with_names taken (xs ++ x ∷ []) ≡ with_name (with_names taken xs) x
more_names taken [] x = refl
more_names taken (y ∷ xs) x = more_names (with_name taken y) xs x

pub taken_more : (xs : List Name) (x : Name) → insert_key bytes_eq (taken_names xs) x ≡ taken_names (xs ++ x ∷ [])
taken_more xs x = put_last (taken_names xs) x ∙ sym (more_names [] xs x)

pub ruleset table = (has_any, taken_more)

-- ---- each name is taken

pub first_has : (xs ys : List Name) (z : Name) → has_name xs z ≡ true → has_name (xs ++ ys) z ≡ true
first_has [] ys z h = absurd (both_ways false refl h)
first_has (x ∷ xs) ys z h = by (bytes_eq z x) (first_has xs ys z) h
  where
    by : (t : Bool) → (has_name xs z ≡ true → has_name (xs ++ ys) z ≡ true) → (if t then true else has_name xs z) ≡ true → (if t then true else has_name (xs ++ ys) z) ≡ true
    by true go h = refl
    by false go h = go h

pub second_has : (xs ys : List Name) (z : Name) → has_name ys z ≡ true → has_name (xs ++ ys) z ≡ true
second_has [] ys z h = h
second_has (x ∷ xs) ys z h = by (bytes_eq z x) (second_has xs ys z h)
  where
    by : (t : Bool) → has_name (xs ++ ys) z ≡ true → (if t then true else has_name (xs ++ ys) z) ≡ true
    by true h = refl
    by false h = h

stays : (taken : List Name) (x z : Name) → has_name taken z ≡ true → has_name (with_name taken x) z ≡ true
stays taken x z h = by (has_name taken x)
  where
    by : (b : Bool) → has_name (if b then taken else taken ++ x ∷ []) z ≡ true
    by true = h
    by false = first_has taken (x ∷ []) z h

stay : (taken xs : List Name) (z : Name) → has_name taken z ≡ true → has_name (with_names taken xs) z ≡ true
stay taken [] z h = h
stay taken (x ∷ xs) z h = stay (with_name taken x) xs z (stays taken x z h)

is_put : (taken : List Name) (x : Name) → has_name (with_name taken x) x ≡ true
is_put taken x = by (has_name taken x) refl
  where
    by : (b : Bool) → has_name taken x ≡ b → has_name (if b then taken else taken ++ x ∷ []) x ≡ true
    by true e = e
    by false e = second_has taken (x ∷ []) x (ap (λ t. if t then true else false) (same_name x))

are_put : (taken xs : List Name) (z : Name) → has_name xs z ≡ true → has_name (with_names taken xs) z ≡ true
are_put taken [] z h = absurd (both_ways false refl h)
are_put taken (x ∷ xs) z h = by (bytes_eq z x) refl (are_put (with_name taken x) xs z) h
  where
    by : (b : Bool) → bytes_eq z x ≡ b → (has_name xs z ≡ true → has_name (with_names (with_name taken x) xs) z ≡ true) → (if b then true else has_name xs z) ≡ true → has_name (with_names (with_name taken x) xs) z ≡ true
    by true e go h = stay (with_name taken x) xs z (subst (λ y. has_name (with_name taken x) y ≡ true) (sym ((bytes_eq-Decides z x).0 e)) (is_put taken x))
    by false e go h = go h

pub all_taken : (xs : List Name) (z : Name) → has_name xs z ≡ true → has_name (taken_names xs) z ≡ true
all_taken xs z h = are_put [] xs z h
