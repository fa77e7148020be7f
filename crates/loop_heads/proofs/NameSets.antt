-- Sets of names: what has a name after another was put in.
use Rattle.std.proofs.Common.{◌≡◌, ◌∙◌, refl, sym, ap, subst, ◌<◌, ◌≤◌, ◌+◌, ℕ, Bool, true, false, List, [], ◌∷◌, ◌++◌, length, take, slice_index_or}
use Rattle.std.specs.Prelude.{◌||◌, bytes_eq, if◌then◌else◌}
use Rattle.std.specs.List.{list_any}
use Rattle.std.specs.Cmp.Lexicographic.{bytes_decides}
use Rattle.std.proofs.lemmas.List.{take_more, take_all}
use Rattle.indexmap.specs.IndexSet.{insert_key}
use Rattle.c_tree.specs.Bare.{Name}
use Rattle.c_semantics.specs.Meaning.FileVariables.{has_name}
use Rattle.loop_heads.specs.Touching.{Grows}

one_name : (x y : Name) → bytes_eq x y ≡ true → x ≡ y
one_name x y h = (bytes_decides x y).0 h

-- ---- in either

pub in_either : (xs ys : List Name) (x : Name) → has_name (xs ++ ys) x ≡ (has_name xs x || has_name ys x)
in_either [] ys x = refl
in_either (y ∷ xs) ys x = by (bytes_eq x y) (in_either xs ys x)
  where
    by : (b : Bool) → has_name (xs ++ ys) x ≡ (has_name xs x || has_name ys x) → (if b then true else has_name (xs ++ ys) x) ≡ ((if b then true else has_name xs x) || has_name ys x)
    by true rest = refl
    by false rest = rest

pub or_nothing : (b : Bool) → (b || false) ≡ b
or_nothing true = refl
or_nothing false = refl

pub or_joins : (a b c : Bool) → ((a || b) || c) ≡ (a || (b || c))
or_joins true b c = refl
or_joins false b c = refl

-- ---- the set

pub has_any : (ks : List Name) (x : Name) → has_name ks x ≡ list_any (bytes_eq x) ks
has_any [] x = refl
has_any (k ∷ ks) x = by (bytes_eq x k) (has_any ks x)
  where
    by : (b : Bool) → has_name ks x ≡ list_any (bytes_eq x) ks → (if b then true else has_name ks x) ≡ (b || list_any (bytes_eq x) ks)
    by true rest = refl
    by false rest = rest

pub grown_already : (ks : List Name) (n : Name) → has_name ks n ≡ true → Grows ks (n ∷ []) ks
grown_already ks n there = record { has = λ x. by x (bytes_eq x n) refl }
  where
    by : (x : Name) (b : Bool) → bytes_eq x n ≡ b → has_name ks x ≡ (has_name ks x || (if b then true else false))
    by x true e = let t : has_name ks x ≡ true = ap (has_name ks) (one_name x n e) ∙ there in t ∙ sym (ap (λ a. a || true) t)
    by x false e = sym (or_nothing (has_name ks x))

pub grown_by_key : (ks : List Name) (n : Name) → Grows ks (n ∷ []) (insert_key bytes_eq ks n)
grown_by_key ks n = by (list_any (bytes_eq n) ks) refl
  where
    by : (b : Bool) → list_any (bytes_eq n) ks ≡ b → Grows ks (n ∷ []) (if b then ks else ks ++ n ∷ [])
    by true e = grown_already ks n (has_any ks n ∙ e)
    by false e = record { has = in_either ks (n ∷ []) }

pub grown_to : (ks new : List Name) (n : Name) → new ≡ insert_key bytes_eq ks n → Grows ks (n ∷ []) new
grown_to ks new n is = subst (Grows ks (n ∷ [])) (sym is) (grown_by_key ks n)

-- ---- one after another

pub grows_none : (a : List Name) → Grows a [] a
grows_none a = record { has = λ x. sym (or_nothing (has_name a x)) }

pub grows_both : (a b c xs ys : List Name) → Grows a xs b → Grows b ys c → Grows a (xs ++ ys) c
grows_both a b c xs ys first second = record {
  has = λ x. second.has x ∙ (ap (λ t. t || has_name ys x) (first.has x)
      ∙ (or_joins (has_name a x) (has_name xs x) (has_name ys x) ∙ sym (ap (λ t. has_name a x || t) (in_either xs ys x))));
}

pub grows_more : (a b c xs : List Name) (i : ℕ) (n : Name) → i < length xs → n ≡ slice_index_or xs i n → Grows a (take i xs) b → Grows b (n ∷ []) c → Grows a (take (i + 1) xs) c
grows_more a b c xs i n within is first second =
    subst (λ ys. Grows a ys c) (sym (take_more xs i n within ∙ ap (λ m. take i xs ++ m ∷ []) (sym is))) (grows_both a b c (take i xs) (n ∷ []) first second)

pub grows_all : (a b xs : List Name) (i : ℕ) → length xs ≤ i → Grows a (take i xs) b → Grows a xs b
grows_all a b xs i past h = subst (λ ys. Grows a ys b) (take_all i xs past) h

pub ruleset name_sets = (has_any, grown_already, grown_to)

pub ruleset unions = (grows_none, grows_more, grows_all)
