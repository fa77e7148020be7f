-- Fresh names as they are drawn: `omp_t` followed by a number, counted up past the names that are taken.
use Rattle.std.specs.Prelude.{◌≡◌, ℕ, zero, suc, ◌+◌, ◌≤◌, false, List, [], ◌∷◌, ◌++◌, reverse, length, nat_lt, codes, if◌then◌else◌}
use Rattle.c_tree.specs.Bare.{Name}
use Rattle.c_semantics.specs.Meaning.FileVariables.{has_name}
use Rattle.c_semantics.specs.Laws.Apart.{Differ}
use Rattle.loop_normal.specs.Templates.{LoopNames}

-- the names that may not be drawn, and the digits of the next number, as ASCII codes, the least significant first
pub record FreshNames : Type 0 where
  pub taken : List Name
  pub digits : List ℕ

-- the next number: 57 is the code of `9`, 48 that of `0`
abbrev pub next_digits : List ℕ → List ℕ
next_digits [] = 49 ∷ []
next_digits (d ∷ ds) = if nat_lt d 57 then (d + 1) ∷ ds else 48 ∷ next_digits ds

-- the name with a number
abbrev pub numbered : List ℕ → Name
numbered ds = codes "omp_t" ++ reverse ds

-- past the numbers whose names are taken, of which there are so many at most
abbrev pub untaken : List Name → ℕ → List ℕ → List ℕ
untaken taken zero ds = ds
untaken taken (suc k) ds = if has_name taken (numbered ds) then untaken taken k (next_digits ds) else ds

abbrev pub drawn_digits : FreshNames → List ℕ
drawn_digits f = untaken f.taken (length f.taken) f.digits

-- the name that is drawn next, and what is left after it
abbrev pub drawn : FreshNames → Name
drawn f = numbered (drawn_digits f)

abbrev pub after_draw : FreshNames → FreshNames
after_draw f = record { taken = f.taken; digits = next_digits (drawn_digits f) }

-- before any draw: the number is 0
abbrev pub no_draws : List Name → FreshNames
no_draws taken = record { taken = taken; digits = 48 ∷ [] }

-- after so many draws
abbrev pub after_draws : ℕ → FreshNames → FreshNames
after_draws zero f = f
after_draws (suc k) f = after_draws k (after_draw f)

-- the names of a normal form, drawn in their order
abbrev pub loop_names : FreshNames → LoopNames
loop_names f =
    record {
      begin = drawn f;
      end = drawn (after_draws 1 f);
      count = drawn (after_draws 2 f);
      counter = drawn (after_draws 3 f);
    }

-- digits from `0` on, as a number that was counted up has them
abbrev pub AreDigits : List ℕ → Type 0
AreDigits [] = Unit {0}
AreDigits (d ∷ ds) = (48 ≤ d) × AreDigits ds

-- a drawn name isn't taken
abbrev pub DrawnIsUntaken : Type 0
DrawnIsUntaken = (f : FreshNames) → AreDigits f.digits → has_name f.taken (drawn f) ≡ false

-- and is none that is drawn later
abbrev pub DrawnOnce : Type 0
DrawnOnce = (f : FreshNames) → AreDigits f.digits → (k : ℕ) → Differ (drawn (after_draws (suc k) f)) (drawn f)
