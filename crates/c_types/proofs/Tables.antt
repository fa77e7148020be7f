-- A table of declarations: entering a scope and leaving it, and names that are noted once.
use Rattle.std.proofs.Common.{◌≡◌, ◌∙◌, sym, ap, refl, ℕ, ◌-◌, ◌≤◌, Bool, true, false, ◌||◌, if◌then◌else◌, List, [], ◌∷◌, ◌++◌, length, take, drop, reverse, arith}
use Rattle.std.proofs.lemmas.List.{reverse-append, length-reverse, length-drop, take-append-drop, take_all, drop_all, take-append-le, drop-append-le}
use Rattle.std.proofs.Math.Seq.{take-append_seam, drop-append_seam}
use Rattle.std.specs.Prelude.{bytes_eq, Some}
use Rattle.c_tree.specs.Bare.{Name}
use Rattle.c_tree.specs.NameRules.DeclaredNames.{is_among, with_name}
use Rattle.c_tree.specs.NameRules.Scopes.{find, or_else, add}
use Rattle.c_tree.specs.declared.name_rule.Declaration.{Declaration}
use Rattle.c_tree.specs.declared.name_rule.Entity.{Entity}
use Rattle.c_tree.specs.NameRules.Programs.{Known}
use Rattle.c_types.specs.Noted.{Noted, with_declaration}
use Rattle.c_types.specs.declared.known.Table.TheInside.{Inside}
use Rattle.c_types.specs.Visible.{scope_of, known_of, scope_left}

-- ---- scopes

abbrev known_here : Inside → List Declaration → List Declaration → Known
known_here t here outside = record (known_of t) { scope = record (scope_of t) { here = here; outside = outside } }

module _ (ds : List Declaration) where
  pub nothing_here : reverse (drop (length ds) ds) ≡ []
  nothing_here = ap reverse (drop_all (length ds) ds (omega arith))

  pub cut_at : (start : ℕ) → reverse ds ≡ reverse (drop start ds) ++ reverse (take start ds)
  cut_at start = ap reverse (sym (take-append-drop start ds)) ∙ reverse-append (take start ds) (drop start ds)

  pub all_outside : (start : ℕ) → reverse (take (length ds) ds) ≡ reverse (drop start ds) ++ reverse (take start ds)
  all_outside start = ap reverse (take_all (length ds) ds (omega arith)) ∙ cut_at start

  over_cut : (round : ℕ) → round ≤ length ds → length (reverse ds) - round ≡ length (reverse (drop round ds))
  over_cut round h = omega (arith, length-reverse ds, length-reverse (drop round ds), length-drop round ds)

  pub left_here : (round : ℕ) → round ≤ length ds → take (length (reverse ds) - round) (reverse ds) ≡ reverse (drop round ds)
  left_here round h = ap (λ n. take n (reverse ds)) (over_cut round h) ∙ (ap (take (length (reverse (drop round ds)))) (cut_at round) ∙ take-append_seam (reverse (drop round ds)) (reverse (take round ds)))

  pub left_outside : (round : ℕ) → round ≤ length ds → drop (length (reverse ds) - round) (reverse ds) ≡ reverse (take round ds)
  left_outside round h = ap (λ n. drop n (reverse ds)) (over_cut round h) ∙ (ap (drop (length (reverse (drop round ds)))) (cut_at round) ∙ drop-append_seam (reverse (drop round ds)) (reverse (take round ds)))

abbrev with_declared : Inside → Noted → ℕ → Inside
with_declared t kept round = record t { declared = kept; start = round }

abbrev left_as : ℕ → Known → Known
left_as round k = record k { scope = scope_left round k.scope }

pub left : (t : Inside) (kept : Noted) (round : ℕ) → kept ≡ record t.declared { declarations = take t.start t.declared.declarations } → t.start ≤ length t.declared.declarations → round ≤ length (scope_of t).outside → known_of (with_declared t kept round) ≡ left_as round (known_of t)
unfolding scope_left
left t kept round e within h =
    let xs : List Declaration = take t.start t.declared.declarations in
    let fits : round ≤ length xs = omega (arith, length-reverse xs) in
    ap (λ n. known_of (with_declared t n round)) e
    ∙ (λ i. known_here t (sym (left_here xs round fits) i) (sym (left_outside xs round fits) i))

-- one declaration more
pub added : (t : Inside) (x : Name) (e : Entity) (more : Noted) → more ≡ with_declaration x e t.declared → t.start ≤ length t.declared.declarations → known_of (record t { declared = more }) ≡ record (known_of t) { scope = add x e (scope_of t); names = with_name x t.declared.names }
added t x e more is within =
    let ds : List Declaration = t.declared.declarations in
    let d : Declaration = record { name = x; entity = e } in
    let here : reverse (drop t.start (ds ++ d ∷ [])) ≡ d ∷ reverse (drop t.start ds) = ap reverse (drop-append-le t.start ds (d ∷ []) within) ∙ reverse-append (drop t.start ds) (d ∷ []) in
    let outside : reverse (take t.start (ds ++ d ∷ [])) ≡ reverse (take t.start ds) = ap reverse (take-append-le t.start ds (d ∷ []) within) in
    ap (λ n. known_of (record t { declared = n })) is
    ∙ (λ i. record (known_of t) { scope = record (scope_of t) { here = here i; outside = outside i }; names = with_name x t.declared.names })

-- ---- what a name means

find_in_both : (x : Name) (here outside : List Declaration) → find x (here ++ outside) ≡ or_else (find x here) (find x outside)
find_in_both x [] outside = refl
find_in_both x (d ∷ here) outside = by (find_in_both x here outside) (bytes_eq x d.name)
  where
    by : find x (here ++ outside) ≡ or_else (find x here) (find x outside) → (t : Bool) → (if t then Some d.entity else find x (here ++ outside)) ≡ or_else (if t then Some d.entity else find x here) (find x outside)
    by rest true = refl
    by rest false = rest

pub meaning_cut : (x : Name) (ds : List Declaration) (start : ℕ) → find x (reverse ds) ≡ or_else (find x (reverse (drop start ds))) (find x (reverse (take start ds)))
meaning_cut x ds start = ap (find x) (cut_at ds start) ∙ find_in_both x (reverse (drop start ds)) (reverse (take start ds))

-- ---- names

there_in : (x y : Name) (ys : List Name) (b : Bool) → (is_among x ys ≡ true → with_name x ys ≡ ys) → (b || is_among x ys) ≡ true → (if b then y ∷ ys else y ∷ with_name x ys) ≡ y ∷ ys
there_in x y ys true rest k = refl
there_in x y ys false rest k = ap (λ zs. y ∷ zs) (rest k)

pub noted_already : (x : Name) (ns : List Name) → is_among x ns ≡ true → with_name x ns ≡ ns
noted_already x [] h = absurd (cc)
noted_already x (y ∷ ys) h = there_in x y ys (bytes_eq x y) (noted_already x ys) h

pub ruleset tables = (nothing_here, all_outside, left_here, left_outside, meaning_cut, added, noted_already)
