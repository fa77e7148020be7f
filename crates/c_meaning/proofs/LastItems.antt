-- Items behind the last one of a name change nothing of what is known of it.
use Rattle.std.proofs.Common.{◌≡◌, ◌∙◌, sym, ap, refl, subst, ℕ, zero, suc, ◌+◌, ◌-◌, ◌<◌, ◌≤◌, Bool, true, false, List, [], length, map, take, nat_eq, min, nat_lt, add-zero, arith}
use Rattle.std.proofs.lemmas.List.{get_or_default, get_or-take, length-take}
use Rattle.std.proofs.lemmas.Bool.{ltb-true}
use Rattle.std.proofs.lemmas.Bool.Decides.{nat_tests}
use Rattle.std.specs.Prelude.{slice_index_or, bytes_eq, if◌then◌else◌, unwrap_or, Option, Some}
use Rattle.resolved_names.specs.Numbered.{number_name, numbered_top, numbered_param, numbered_stmts}
use Rattle.c_tree.specs.declared.constant.TypedValue.{TypedValue}
use Rattle.c_tree.specs.Constants.{defined_as}
use Rattle.c_tree.specs.declared.tree.Ty.{Ty}
use Rattle.resolved_names.specs.declared.tree.Param.{Param}
use Rattle.resolved_names.specs.declared.tree.Stmt.{Stmt}
use Rattle.resolved_names.specs.declared.tree.Item.{Item}
use Rattle.resolved_names.specs.declared.tree.Item.TheVariants.{Define, Extern, Global, Function, Main}
use Rattle.c_semantics.specs.Meaning.SimpleStatements.{Env, function_named}
use Rattle.c_semantics.specs.Meaning.SimpleStatements as simple
use Rattle.c_semantics.specs.Meaning.Statements.{exec_all}
use Rattle.c_semantics.specs.Meaning.Programs.{env_after, env_with, no_env}
use Rattle.c_meaning.specs.declared.place_table.PlaceTable.{PlaceTable}
use Rattle.c_meaning.specs.declared.last_items.LastItems.{LastItems}
use Rattle.c_meaning.specs.PlaceTables.{place_at}
use Rattle.c_meaning.specs.LastItems.{IsNoDefine, IsNoFunction, StandBefore}
use Rattle.c_meaning.specs.Scopes.{constant_in}
use Rattle.c_meaning.proofs.Numbers.{number_eq}
use Rattle.c_meaning.proofs.Scopes.{env_next, define_all}
use Rattle.c_meaning.proofs.Calls.{function_all}

other_number : (m n : ℕ) → (m ≡ n → ⊥) → bytes_eq (number_name m) (number_name n) ≡ false
other_number m n other = number_eq m n ∙ by (nat_eq m n) refl
  where
    by : (b : Bool) → nat_eq m n ≡ b → b ≡ false
    by true is = absurd (other (grind arith))
    by false is = refl

same_constant : (m n : ℕ) (env : Env) (y : Item) → IsNoDefine n y → constant_in (env_with m env (numbered_top y)).defines (number_name n) ≡ constant_in env.defines (number_name n)
same_constant m n env (Define d neg k t) other = ap {B = Option TypedValue} (λ b. if b then Some (defined_as neg k t) else constant_in env.defines (number_name n)) (other_number n d (λ e. other neg k t (ap (λ (x : ℕ). Define x neg k t) (sym e))))
same_constant m n env (Extern port) other = refl
same_constant m n env (Global t d dims e) other = refl
same_constant m n env (Function d ps body) other = refl
same_constant m n env (Main body) other = refl

same_function : (m n : ℕ) (env : Env) (y : Item) → IsNoFunction n y → function_named (number_name n) (env_with m env (numbered_top y)).functions ≡ function_named (number_name n) env.functions
same_function m n env (Define d neg k t) other = refl
same_function m n env (Extern port) other = refl
same_function m n env (Global t d dims e) other = refl
same_function m n env (Function d ps body) other =
    ap {B = Option simple.Function} (λ b. if b then Some (record { name = number_name d; params = map numbered_param ps; run = exec_all m env (numbered_stmts body) }) else function_named (number_name n) env.functions) (other_number n d (λ e. other ps body (ap (λ (x : ℕ). Function x ps body) (sym e))))
same_function m n env (Main body) other = refl

module _ (m : ℕ) (xs : List Item) (n from : ℕ) where
  abbrev env_at : ℕ → Env
  env_at k = env_after m no_env (map numbered_top (take k xs))

  there : (k : ℕ) → k < length xs → slice_index_or xs k (Main []) ≡ slice_index_or xs k (slice_index_or xs k (Main []))
  there k h = get_or_default xs k (Main []) (slice_index_or xs k (Main [])) h

  next : (d : ℕ) → from + suc d ≤ length xs → env_at (from + suc d) ≡ env_with m (env_at (from + d)) (numbered_top (slice_index_or xs (from + d) (Main [])))
  next d h =
      let less : from + d < length xs = omega arith in
      let more : from + d + 1 ≡ from + suc d = omega arith in
      ap env_at (sym more) ∙ env_next m xs (from + d) (slice_index_or xs (from + d) (Main [])) less (there (from + d) less)

  constant_after : ((j : ℕ) (y : Item) → from ≤ j → j < length xs → y ≡ slice_index_or xs j y → IsNoDefine n y) → (d : ℕ) → from + d ≤ length xs → constant_in (env_at (from + d)).defines (number_name n) ≡ constant_in (env_at from).defines (number_name n)
  constant_after others zero h = ap (λ k. constant_in (env_at k).defines (number_name n)) (add-zero from)
  constant_after others (suc d) h =
      let less : from + d < length xs = omega arith in
      let y : Item = slice_index_or xs (from + d) (Main []) in
      ap (λ env. constant_in env.defines (number_name n)) (next d h)
      ∙ (same_constant m n (env_at (from + d)) y (others (from + d) y (omega arith) less (there (from + d) less))
      ∙ constant_after others d (omega arith))

  function_after : ((j : ℕ) (y : Item) → from ≤ j → j < length xs → y ≡ slice_index_or xs j y → IsNoFunction n y) → (d : ℕ) → from + d ≤ length xs → function_named (number_name n) (env_at (from + d)).functions ≡ function_named (number_name n) (env_at from).functions
  function_after others zero h = ap (λ k. function_named (number_name n) (env_at k).functions) (add-zero from)
  function_after others (suc d) h =
      let less : from + d < length xs = omega arith in
      let y : Item = slice_index_or xs (from + d) (Main []) in
      ap (λ env. function_named (number_name n) env.functions) (next d h)
      ∙ (same_function m n (env_at (from + d)) y (others (from + d) y (omega arith) less (there (from + d) less))
      ∙ function_after others d (omega arith))

behind : (a b j : ℕ) → min a b ≤ j → j < b → a ≤ j
behind a b j h less = omega arith

module _ (last : LastItems) (xs : List Item) (before : StandBefore last xs) (m n : ℕ) where
  whole : (from : ℕ) → from ≤ length xs → from + (length xs - from) ≡ length xs
  whole from h = omega arith

  -- what is known of a name at the place that is told, or here where that lies behind
  pub defines_before : constant_in (env_after m no_env (map numbered_top (take (min (unwrap_or (place_at last.defines n) 0) (length xs)) xs))).defines (number_name n) ≡ constant_in (env_after m no_env (map numbered_top xs)).defines (number_name n)
  defines_before =
      let a : ℕ = unwrap_or (place_at last.defines n) 0 in
      let from : ℕ = min a (length xs) in
      let others = λ (j : ℕ) (y : Item) (h : from ≤ j) (less : j < length xs) (at : y ≡ slice_index_or xs j y). before.defines n j y (behind a (length xs) j h less) less at in
      sym (constant_after m xs n from others (length xs - from) (omega arith))
      ∙ (ap (λ k. constant_in (env_after m no_env (map numbered_top (take k xs))).defines (number_name n)) (whole from (omega arith))
      ∙ define_all m xs (number_name n))

  pub functions_before : function_named (number_name n) (env_after m no_env (map numbered_top (take (min (unwrap_or (place_at last.functions n) 0) (length xs)) xs))).functions ≡ function_named (number_name n) (env_after m no_env (map numbered_top xs)).functions
  functions_before =
      let a : ℕ = unwrap_or (place_at last.functions n) 0 in
      let from : ℕ = min a (length xs) in
      let others = λ (j : ℕ) (y : Item) (h : from ≤ j) (less : j < length xs) (at : y ≡ slice_index_or xs j y). before.functions n j y (behind a (length xs) j h less) less at in
      sym (function_after m xs n from others (length xs - from) (omega arith))
      ∙ (ap (λ k. function_named (number_name n) (env_after m no_env (map numbered_top (take k xs))).functions) (whole from (omega arith))
      ∙ function_all m xs (number_name n))

-- ---- a first part of the items, and one item more

pub stand_before_less : (last : LastItems) (xs : List Item) (k : ℕ) → StandBefore last xs → StandBefore last (take k xs)
stand_before_less last xs k before = record {
  defines = λ n j y h less at. before.defines n j y h (inside j less) (at ∙ get_or-take k xs j y (below j less));
  functions = λ n j y h less at. before.functions n j y h (inside j less) (at ∙ get_or-take k xs j y (below j less));
}
  where
    inside : (j : ℕ) → j < length (take k xs) → j < length xs
    inside j less = omega (arith, length-take k xs)

    below : (j : ℕ) → j < length (take k xs) → j < k
    below j less = omega (arith, length-take k xs)

pub stand_before_none : (last : LastItems) (xs : List Item) → StandBefore last (take 0 xs)
stand_before_none last xs = record { defines = λ n j y h less at. absurd (omega arith); functions = λ n j y h less at. absurd (omega arith) }

module _ (xs : List Item) (i : ℕ) (within : i < length xs) where
  under : (j : ℕ) → j < i → j < length (take i xs)
  under j h = omega (arith, length-take i xs)

  upto : (j : ℕ) → j < length (take (i + 1) xs) → j < i + 1
  upto j h = omega (arith, length-take (i + 1) xs)

  -- an earlier item stays where it was
  same_at : (j : ℕ) (z : Item) → j < i → z ≡ slice_index_or (take (i + 1) xs) j z → z ≡ slice_index_or (take i xs) j z
  same_at j z h at = at ∙ (get_or-take (i + 1) xs j z (omega arith) ∙ sym (get_or-take i xs j z h))

  -- the item at the place is the new one
  new_at : (j : ℕ) (z y : Item) → i ≤ j → j < i + 1 → y ≡ slice_index_or xs i y → z ≡ slice_index_or (take (i + 1) xs) j z → y ≡ z
  new_at j z y h less here at =
      let same : j ≡ i = omega arith in
      here ∙ (get_or_default xs i y z within ∙ (ap (λ k. slice_index_or xs k z) (sym same) ∙ (sym (get_or-take (i + 1) xs j z less) ∙ sym at)))

  module _ (last new : LastItems) (y : Item) (here : y ≡ slice_index_or xs i y) (before : StandBefore last (take i xs)) where
    pub stand_before_more : ((n j : ℕ) → j < i → unwrap_or (place_at new.defines n) 0 ≤ j → unwrap_or (place_at last.defines n) 0 ≤ j) → ((n : ℕ) → unwrap_or (place_at new.defines n) 0 ≤ i → IsNoDefine n y)
        → ((n j : ℕ) → j < i → unwrap_or (place_at new.functions n) 0 ≤ j → unwrap_or (place_at last.functions n) 0 ≤ j) → ((n : ℕ) → unwrap_or (place_at new.functions n) 0 ≤ i → IsNoFunction n y)
        → StandBefore new (take (i + 1) xs)
    stand_before_more old_defines new_define old_functions new_function = record {
      defines = λ n j z h less at. define n j z h (upto j less) at (nat_lt j i) refl;
      functions = λ n j z h less at. function n j z h (upto j less) at (nat_lt j i) refl;
    }
      where
        define : (n j : ℕ) (z : Item) → unwrap_or (place_at new.defines n) 0 ≤ j → j < i + 1 → z ≡ slice_index_or (take (i + 1) xs) j z → (b : Bool) → nat_lt j i ≡ b → IsNoDefine n z
        define n j z h less at true is = let earlier : j < i = ltb-true j i is in before.defines n j z (old_defines n j earlier h) (under j earlier) (same_at j z earlier at)
        define n j z h less at false is = let later : i ≤ j = grind (arith, nat_tests) in subst (IsNoDefine n) (new_at j z y later less here at) (new_define n (omega arith))

        function : (n j : ℕ) (z : Item) → unwrap_or (place_at new.functions n) 0 ≤ j → j < i + 1 → z ≡ slice_index_or (take (i + 1) xs) j z → (b : Bool) → nat_lt j i ≡ b → IsNoFunction n z
        function n j z h less at true is = let earlier : j < i = ltb-true j i is in before.functions n j z (old_functions n j earlier h) (under j earlier) (same_at j z earlier at)
        function n j z h less at false is = let later : i ≤ j = grind (arith, nat_tests) in subst (IsNoFunction n) (new_at j z y later less here at) (new_function n (omega arith))

-- a table that has a place more tells no less of the others
module _ (old new : PlaceTable) (k place : ℕ) (is : (n : ℕ) → place_at new n ≡ (if nat_eq n k then Some place else place_at old n)) where
  still_here : (n j : ℕ) (b : Bool) → nat_eq n k ≡ b → j < place → unwrap_or (if b then Some place else place_at old n) 0 ≤ j → unwrap_or (place_at old n) 0 ≤ j
  still_here n j true same less h = absurd (omega arith)
  still_here n j false same less h = h

  pub still : (n j : ℕ) → j < place → unwrap_or (place_at new n) 0 ≤ j → unwrap_or (place_at old n) 0 ≤ j
  still n j less h = still_here n j (nat_eq n k) refl less (subst (λ o. unwrap_or o 0 ≤ j) (is n) h)

  another_here : (n j : ℕ) (b : Bool) → nat_eq n k ≡ b → j < place → unwrap_or (if b then Some place else place_at old n) 0 ≤ j → n ≡ k → ⊥
  another_here n j true same less h e = absurd (omega arith)
  another_here n j false same less h e = grind arith

  pub another : (n j : ℕ) → j < place → unwrap_or (place_at new n) 0 ≤ j → n ≡ k → ⊥
  another n j less h = another_here n j (nat_eq n k) refl less (subst (λ o. unwrap_or o 0 ≤ j) (is n) h)

-- ---- an item that is noted

module _ (xs : List Item) (i : ℕ) (within : i < length xs) (last : LastItems) (y : Item) (here : y ≡ slice_index_or xs i y) (before : StandBefore last (take i xs)) where
  pub define_noted : (d : ℕ) (neg : Bool) (k : ℕ) (t : Ty) → y ≡ Define d neg k t → (table : PlaceTable) → ((n : ℕ) → place_at table n ≡ (if nat_eq n d then Some (i + 1) else place_at last.defines n)) → StandBefore (record { defines = table; functions = last.functions }) (take (i + 1) xs)
  define_noted d neg k t is table put =
      stand_before_more xs i within last (record { defines = table; functions = last.functions }) y here before
      (λ n j h told. still last.defines table d (i + 1) put n j (omega arith) told)
      (λ n told neg' k' t' e. another last.defines table d (i + 1) put n i (omega arith) told (let same : Define n neg' k' t' ≡ Define d neg k t = sym e ∙ is in cc))
      (λ n j h told. told)
      (λ n told ps body e. (let same : Function n ps body ≡ Define d neg k t = sym e ∙ is in cc))

  pub function_noted : (d : ℕ) (ps : List Param) (body : List Stmt) → y ≡ Function d ps body → (table : PlaceTable) → ((n : ℕ) → place_at table n ≡ (if nat_eq n d then Some (i + 1) else place_at last.functions n)) → StandBefore (record { defines = last.defines; functions = table }) (take (i + 1) xs)
  function_noted d ps body is table put =
      stand_before_more xs i within last (record { defines = last.defines; functions = table }) y here before
      (λ n j h told. told)
      (λ n told neg k t e. (let same : Define n neg k t ≡ Function d ps body = sym e ∙ is in cc))
      (λ n j h told. still last.functions table d (i + 1) put n j (omega arith) told)
      (λ n told ps' body' e. another last.functions table d (i + 1) put n i (omega arith) told (let same : Function n ps' body' ≡ Function d ps body = sym e ∙ is in cc))

  pub other_noted : ((d : ℕ) (neg : Bool) (k : ℕ) (t : Ty) → y ≡ Define d neg k t → ⊥) → ((d : ℕ) (ps : List Param) (body : List Stmt) → y ≡ Function d ps body → ⊥) → StandBefore last (take (i + 1) xs)
  other_noted no_define no_function =
      stand_before_more xs i within last last y here before (λ n j h told. told) (λ n told neg k t e. no_define n neg k t e) (λ n j h told. told) (λ n told ps body e. no_function n ps body e)
