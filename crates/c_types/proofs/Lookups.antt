-- A table of declarations by name: what a look-up finds, and what a new declaration and one that is taken back change.
use Rattle.std.proofs.Common.{◌≡◌, ◌∙◌, sym, ap, refl, subst, ℕ, suc, ◌-◌, ◌≤◌, Bool, true, false, cond, ◌||◌, if◌then◌else◌, List, [], ◌∷◌, ◌++◌, length, take, drop, reverse, arith, length-append, le-leb, nat_le, Option, Some, None, is_some, Result, Ok, Err, OnOk, OnErr}
use Rattle.std.proofs.lemmas.List.{reverse-append, length-reverse, map-append, take-append-drop, take-map, take_at, length-take-le}
use Rattle.std.proofs.lemmas.Bool.{lt-leb}
use Rattle.std.specs.Prelude.{bytes_eq}
use Rattle.std.specs.Cmp.Lexicographic.{nat_list_eq_equiv, bytes_decides}
use Rattle.std.specs.Map.{keys_of, lookup}
use Rattle.indexmap.specs.IndexMap.{get, insert_entry}
use Rattle.c_tree.specs.Bare.{Name}
use Rattle.c_tree.specs.NameRules.DeclaredNames.{is_among, with_name}
use Rattle.c_tree.specs.NameRules.Scopes.{find}
use Rattle.c_tree.specs.declared.name_rule.Declaration.{Declaration}
use Rattle.c_tree.specs.declared.name_rule.Entity.{Entity}
use Rattle.c_types.specs.declared.declarations.Visible.{Visible}
use Rattle.c_types.specs.declared.declarations.Declared.{Declared}
use Rattle.c_types.specs.declared.declarations.Declarations.TheInside.{Inside}
use Rattle.c_types.specs.Noted.{visible, with_declaration}
use Rattle.c_types.specs.Lookup.{declaration_of, declarations_of, noted_of, or_nothing, HidesEach, IsLookup}
use Rattle.c_types.proofs.Tables.{noted_already}

-- ---- what a look-up finds

abbrev entity_of : Option Visible → Option Entity
entity_of None = None
entity_of (Some v) = Some v.entity

visible_find : (x : Name) (ds : List Declaration) → find x ds ≡ entity_of (visible x ds)
visible_find x [] = refl
visible_find x (d ∷ ds) = by (visible_find x ds) (bytes_eq x d.name)
  where
    by : find x ds ≡ entity_of (visible x ds) → (b : Bool) → (if b then Some d.entity else find x ds) ≡ entity_of (if b then Some (record { entity = d.entity; index = length ds }) else visible x ds)
    by rest true = refl
    by rest false = rest

pub find_none : (x : Name) (ds : List Declaration) → visible x ds ≡ None → find x ds ≡ None
find_none x ds h = visible_find x ds ∙ ap entity_of h

pub find_some : (x : Name) (ds : List Declaration) (v : Visible) → visible x ds ≡ Some v → find x ds ≡ Some v.entity
find_some x ds v h = visible_find x ds ∙ ap entity_of h

-- ---- since an index

abbrev since : ℕ → Option Visible → Bool
since n None = false
since n (Some v) = nat_le n v.index

visible_below : (x : Name) (ds : List Declaration) (n : ℕ) → length ds ≤ n → since n (visible x ds) ≡ false
visible_below x [] n h = refl
visible_below x (d ∷ ds) n h = by (visible_below x ds n (omega arith)) (bytes_eq x d.name)
  where
    by : since n (visible x ds) ≡ false → (b : Bool) → since n (if b then Some (record { entity = d.entity; index = length ds }) else visible x ds) ≡ false
    by rest true = lt-leb n (length ds) (omega arith)
    by rest false = rest

found_since : (x : Name) (here outside : List Declaration) → is_some (find x here) ≡ since (length outside) (visible x (here ++ outside))
found_since x [] outside = sym (visible_below x outside (length outside) (omega arith))
found_since x (d ∷ here) outside = by (found_since x here outside) (bytes_eq x d.name)
  where
    by : is_some (find x here) ≡ since (length outside) (visible x (here ++ outside)) → (b : Bool) → is_some (if b then Some d.entity else find x here) ≡ since (length outside) (if b then Some (record { entity = d.entity; index = length (here ++ outside) }) else visible x (here ++ outside))
    by rest true = sym (le-leb (length outside) (length (here ++ outside)) (omega (arith, length-append here outside)))
    by rest false = rest

-- ---- turned round

pub turned : (ds : List Declared) → declarations_of (reverse ds) ≡ reverse (declarations_of ds)
turned [] = refl
turned (d ∷ ds) =
    ap declarations_of (reverse-append (d ∷ []) ds)
    ∙ (map-append declaration_of (reverse ds) (d ∷ [])
    ∙ (ap (λ xs. xs ++ declaration_of d ∷ []) (turned ds) ∙ sym (reverse-append (declaration_of d ∷ []) (declarations_of ds))))

latest_first : (ds : List Declared) (d : Declared) → reverse (declarations_of (ds ++ d ∷ [])) ≡ declaration_of d ∷ reverse (declarations_of ds)
latest_first ds d = ap reverse (map-append declaration_of ds (d ∷ [])) ∙ reverse-append (declarations_of ds) (declaration_of d ∷ [])

pub same_length : (ds : List Declared) → length (declarations_of ds) ≡ length ds
same_length [] = refl
same_length (d ∷ ds) = ap suc (same_length ds)

pub first_of : (n : ℕ) (ds : List Declared) → declarations_of (take n ds) ≡ take n (declarations_of ds)
first_of n ds = sym (take-map declaration_of n ds)

-- ---- each name has its meaning

abbrev pub Meanings : (Name → Option (Option Visible)) → List Declared → Type 0
Meanings g ds = (x : Name) → or_nothing (g x) ≡ visible x (reverse (declarations_of ds))

one_name : (x y : Name) → bytes_eq x y ≡ true → x ≡ y
one_name x y h = (bytes_decides x y).0 h

not_both : (v : Visible) (o : Option Visible) → o ≡ None → o ≡ Some v → ⊥
not_both v None e f = absurd (cc)
not_both v (Some w) e f = absurd (cc)

module _ (g g' : Name → Option (Option Visible)) (ds : List Declared) (d : Declared) where
  shown : (q : Name) → visible q (reverse (declarations_of (ds ++ d ∷ []))) ≡ (if bytes_eq d.name q then Some (record { entity = d.entity; index = length ds }) else visible q (reverse (declarations_of ds)))
  shown q =
      ap (visible q) (latest_first ds d)
      ∙ (λ i. if nat_list_eq_equiv.symm q d.name i then Some (record { entity = d.entity; index = (length-reverse (declarations_of ds) ∙ same_length ds) i }) else visible q (reverse (declarations_of ds)))

  pub meanings_added : (n : ℕ) → Meanings g ds → n ≡ length ds → ((q : Name) → g' q ≡ cond (bytes_eq d.name q) (Some (Some (record { entity = d.entity; index = n }))) (g q)) → Meanings g' (ds ++ d ∷ [])
  meanings_added n old long new q = ap or_nothing (new q) ∙ (by (bytes_eq d.name q) ∙ sym (shown q))
    where
      by : (t : Bool) → or_nothing (cond t (Some (Some (record { entity = d.entity; index = n }))) (g q)) ≡ (if t then Some (record { entity = d.entity; index = length ds }) else visible q (reverse (declarations_of ds)))
      by true = ap (λ k. Some (record { entity = d.entity; index = k })) long
      by false = old q

  pub meanings_left : Meanings g (ds ++ d ∷ []) → d.hides ≡ visible d.name (reverse (declarations_of ds)) → ((q : Name) → g' q ≡ cond (bytes_eq d.name q) (Some d.hides) (g q)) → Meanings g' ds
  meanings_left old hides new q = ap or_nothing (new q) ∙ by (bytes_eq d.name q) refl
    where
      by : (t : Bool) → bytes_eq d.name q ≡ t → or_nothing (cond t (Some d.hides) (g q)) ≡ visible q (reverse (declarations_of ds))
      by true e = hides ∙ ap (λ x. visible x (reverse (declarations_of ds))) (one_name d.name q e)
      by false e = old q ∙ (shown q ∙ ap (λ t. if t then Some (record { entity = d.entity; index = length ds }) else visible q (reverse (declarations_of ds))) e)

  -- what is declared was noted
  pub is_noted : Meanings g (ds ++ d ∷ []) → ¬ (g d.name ≡ None)
  is_noted old none =
      not_both (record { entity = d.entity; index = length ds }) (visible d.name (reverse (declarations_of (ds ++ d ∷ [])))) (sym (old d.name) ∙ ap or_nothing none)
      (shown d.name ∙ ap (λ t. if t then Some (record { entity = d.entity; index = length ds }) else visible d.name (reverse (declarations_of ds))) (nat_list_eq_equiv.refl d.name))

  pub hidden_added : d.hides ≡ visible d.name (reverse (declarations_of ds)) → HidesEach (reverse ds) → HidesEach (reverse (ds ++ d ∷ []))
  hidden_added h rest = subst HidesEach (sym (reverse-append ds (d ∷ []))) (h ∙ ap (visible d.name) (sym (turned ds)), rest)

  pub hidden_left : HidesEach (reverse (ds ++ d ∷ [])) → (d.hides ≡ visible d.name (reverse (declarations_of ds))) × HidesEach (reverse ds)
  hidden_left h = let both = subst HidesEach (reverse-append ds (d ∷ [])) h in (both.0 ∙ ap (visible d.name) (turned ds), both.1)

-- a name without a declaration
pub meanings_noted : (g g' : Name → Option (Option Visible)) (ds : List Declared) (x : Name) → Meanings g ds → g x ≡ None → ((q : Name) → g' q ≡ cond (bytes_eq x q) (Some None) (g q)) → Meanings g' ds
meanings_noted g g' ds x old none new q = ap or_nothing (new q) ∙ by (bytes_eq x q) refl
  where
    by : (t : Bool) → bytes_eq x q ≡ t → or_nothing (cond t (Some None) (g q)) ≡ visible q (reverse (declarations_of ds))
    by true e = sym (ap or_nothing (ap g (sym (one_name x q e)) ∙ none)) ∙ old q
    by false e = old q

-- ---- names

pub keys_with : (x : Name) (v : Option Visible) (es : List (Name × Option Visible)) → keys_of (insert_entry bytes_eq es x v) ≡ with_name x (keys_of es)
keys_with x v [] = refl
keys_with x v (e ∷ es) = by (keys_with x v es) (bytes_eq x e.0)
  where
    by : keys_of (insert_entry bytes_eq es x v) ≡ with_name x (keys_of es) → (t : Bool) → keys_of (if t then (e.0, v) ∷ es else e ∷ insert_entry bytes_eq es x v) ≡ (if t then e.0 ∷ keys_of es else e.0 ∷ with_name x (keys_of es))
    by rest true = refl
    by rest false = ap (λ ns. e.0 ∷ ns) rest

pub among_keys : (x : Name) (es : List (Name × Option Visible)) → is_some (lookup (bytes_eq x) es) ≡ is_among x (keys_of es)
among_keys x [] = refl
among_keys x (e ∷ es) = by (among_keys x es) (bytes_eq x e.0)
  where
    by : is_some (lookup (bytes_eq x) es) ≡ is_among x (keys_of es) → (t : Bool) → is_some (cond t (Some e.1) (lookup (bytes_eq x) es)) ≡ (t || is_among x (keys_of es))
    by rest true = refl
    by rest false = rest

-- ---- at an index or after it

pub is_since : (x : Name) (ds : List Declaration) (start : ℕ) → start ≤ length ds → is_some (find x (reverse (drop start ds))) ≡ since start (visible x (reverse ds))
is_since x ds start h =
    let here = reverse (drop start ds) in
    let outside = reverse (take start ds) in
    let cut : reverse ds ≡ here ++ outside = ap reverse (sym (take-append-drop start ds)) ∙ reverse-append (take start ds) (drop start ds) in
    let long : length outside ≡ start = length-reverse (take start ds) ∙ length-take-le start ds h in
    found_since x here outside ∙ (λ i. since (long i) (visible x (sym cut i)))

pub since_none : (x : Name) (ds : List Declaration) (start : ℕ) → start ≤ length ds → visible x (reverse ds) ≡ None → is_some (find x (reverse (drop start ds))) ≡ false
since_none x ds start h e = is_since x ds start h ∙ ap (since start) e

pub since_some : (x : Name) (ds : List Declaration) (start : ℕ) (v : Visible) → start ≤ length ds → visible x (reverse ds) ≡ Some v → is_some (find x (reverse (drop start ds))) ≡ nat_le start v.index
since_some x ds start v h e = is_since x ds start h ∙ ap (since start) e

-- ---- what the invariant says at one name

pub meaning_some : (o : Option (Option Visible)) (m v : Option Visible) → or_nothing o ≡ v → o ≡ Some m → m ≡ v
meaning_some o m v h e = sym (ap or_nothing e) ∙ h

pub meaning_none : (o : Option (Option Visible)) (v : Option Visible) → or_nothing o ≡ v → o ≡ None → v ≡ None
meaning_none o v h e = sym h ∙ ap or_nothing e

-- ---- one declaration more, or fewer

no_value : {X : Type 0} (o : Option X) → is_some o ≡ false → o ≡ None
no_value None h = refl
no_value (Some x) h = absurd (cc)

a_value : {X : Type 0} (o : Option X) → ¬ (o ≡ None) → is_some o ≡ true
a_value None h = absurd (h refl)
a_value (Some x) h = refl

pub only_ok : {X E : Type 0} (U A : Type 0) (r : Result X E) → OnOk r U → OnErr r A → ¬ A → U
only_ok U A (Ok a) h k n = h
only_ok U A (Err e) h k n = absurd (n k)

pub not_noted : (x : Name) (es : List (Name × Option Visible)) (ns : List Name) (r : Bool) → keys_of es ≡ ns → r ≡ is_among x ns → r ≡ false → lookup (bytes_eq x) es ≡ None
not_noted x es ns r keys is none = no_value (lookup (bytes_eq x) es) (among_keys x es ∙ (ap (is_among x) keys ∙ (sym is ∙ none)))

abbrev meaning_in : Inside → Name → Option (Option Visible)
meaning_in t x = get bytes_eq t.meanings x

module _ (t t' : Inside) (d : Declared) where
  pub lookup_added : (n : ℕ) → t'.declared.items ≡ t.declared.items ++ d ∷ [] → IsLookup t → n ≡ length t.declared.items → d.hides ≡ visible d.name (reverse (declarations_of t.declared.items))
      → ((q : Name) → meaning_in t' q ≡ cond (bytes_eq d.name q) (Some (Some (record { entity = d.entity; index = n }))) (meaning_in t q)) → IsLookup t'
  lookup_added n is old long hides new = record {
    meanings = λ x. meanings_added (meaning_in t) (meaning_in t') t.declared.items d n old.meanings long new x ∙ ap (λ ds. visible x (reverse (declarations_of ds))) (sym is);
    hidden = subst (λ ds. HidesEach (reverse ds)) (sym is) (hidden_added (meaning_in t) (meaning_in t') t.declared.items d hides old.hidden);
  }

  pub view_added : (v : Option Visible) → t'.declared.items ≡ t.declared.items ++ d ∷ [] → t'.meanings.entries ≡ insert_entry bytes_eq t.meanings.entries d.name v → noted_of t' ≡ with_declaration d.name d.entity (noted_of t)
  view_added v is entries =
      let ds = ap declarations_of is ∙ map-append declaration_of t.declared.items (d ∷ []) in
      let ns = ap keys_of entries ∙ keys_with d.name v t.meanings.entries in
      λ i. record { declarations = ds i; names = ns i }

  before : t.declared.items ≡ t'.declared.items ++ d ∷ [] → IsLookup t → Meanings (meaning_in t) (t'.declared.items ++ d ∷ [])
  before is old x = old.meanings x ∙ ap (λ ds. visible x (reverse (declarations_of ds))) is

  pub present : t.declared.items ≡ t'.declared.items ++ d ∷ [] → IsLookup t → ¬ (meaning_in t d.name ≡ None)
  present is old = is_noted (meaning_in t) (meaning_in t') t'.declared.items d (before is old)

  pub lookup_left : t.declared.items ≡ t'.declared.items ++ d ∷ [] → IsLookup t
      → ((q : Name) → meaning_in t' q ≡ cond (bytes_eq d.name q) (Some d.hides) (meaning_in t q)) → IsLookup t'
  lookup_left is old new =
      let hid = hidden_left (meaning_in t) (meaning_in t') t'.declared.items d (subst (λ ds. HidesEach (reverse ds)) is old.hidden) in
      record { meanings = meanings_left (meaning_in t) (meaning_in t') t'.declared.items d (before is old) hid.0 new; hidden = hid.1 }

  pub view_left : (v : Option Visible) → t.declared.items ≡ t'.declared.items ++ d ∷ [] → IsLookup t → t'.meanings.entries ≡ insert_entry bytes_eq t.meanings.entries d.name v
      → noted_of t' ≡ record { declarations = take (length (declarations_of t.declared.items) - 1) (declarations_of t.declared.items); names = keys_of t.meanings.entries }
  view_left v is old entries =
      let all : declarations_of t.declared.items ≡ declarations_of t'.declared.items ++ declaration_of d ∷ [] = ap declarations_of is ∙ map-append declaration_of t'.declared.items (d ∷ []) in
      let long : length (declarations_of t'.declared.items) ≡ length (declarations_of t.declared.items) - 1 = omega (arith, ap length all, length-append (declarations_of t'.declared.items) (declaration_of d ∷ [])) in
      let ds : declarations_of t'.declared.items ≡ take (length (declarations_of t.declared.items) - 1) (declarations_of t.declared.items) =
      sym (take_at (declarations_of t'.declared.items) (declaration_of d ∷ []) (length (declarations_of t.declared.items) - 1) long) ∙ ap (take (length (declarations_of t.declared.items) - 1)) (sym all) in
      let there : is_among d.name (keys_of t.meanings.entries) ≡ true = sym (among_keys d.name t.meanings.entries) ∙ a_value (meaning_in t d.name) (present is old) in
      let ns : keys_of t'.meanings.entries ≡ keys_of t.meanings.entries = ap keys_of entries ∙ (keys_with d.name v t.meanings.entries ∙ noted_already d.name (keys_of t.meanings.entries) there) in
      λ i. record { declarations = ds i; names = ns i }

pub ruleset lookups = (find_none, find_some, since_none, since_some, meaning_some, meaning_none, same_length, first_of, keys_with, among_keys)
