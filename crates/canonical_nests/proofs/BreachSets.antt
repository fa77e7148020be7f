-- Sets of breaches: whether one has a breach, its least breach, and a set that counts where another has none.
use Rattle.std.proofs.Common.{◌≡◌, refl, ℕ, Bool, true, false, Option, None}
use Rattle.std.specs.Prelude.{◌||◌, not, if◌then◌else◌}
use Rattle.std.proofs.lemmas.Bool.{or_parts, or_from}
use Rattle.canonical_nests.specs.declared.rules.LoopBreach.{LoopBreach}
use Rattle.canonical_nests.specs.declared.rules.LoopRule.{LoopRule}
use Rattle.canonical_nests.specs.LoopRules.BreachSets.{BreachSet, none, one, ◌&◌, HasNone, has_some, or_else, breach_if, least}

pub is_not_there : (xs : BreachSet) → HasNone xs → has_some xs ≡ false
is_not_there none h = refl
is_not_there (one b) h = absurd h
is_not_there (xs & ys) h = or_from (has_some xs) (has_some ys) (is_not_there xs h.0) (is_not_there ys h.1)

pub is_none_there : (xs : BreachSet) → has_some xs ≡ false → HasNone xs
is_none_there none h = tt
is_none_there (one b) h = absurd (cc)
is_none_there (xs & ys) h = let k = or_parts (has_some xs) (has_some ys) h in (is_none_there xs k.0, is_none_there ys k.1)

-- where the first set that has a breach has none, neither has one
pub neither_breaks : (xs ys : BreachSet) → HasNone (or_else xs ys) → HasNone xs × HasNone ys
neither_breaks xs ys h = by (has_some xs) refl h
  where
    by : (t : Bool) → has_some xs ≡ t → HasNone (if t then xs else ys) → HasNone xs × HasNone ys
    by true is k = absurd (cc (is_not_there xs k))
    by false is k = (is_none_there xs is, k)

pub least_of_none : (xs : BreachSet) → HasNone xs → least xs ≡ None
least_of_none none h = refl
least_of_none (one b) h = absurd h
least_of_none (xs & ys) h = rw (least_of_none xs h.0, least_of_none ys h.1) refl

-- what it says of a test that the rule which it decides isn't broken
pub none_if : (b : Bool) (rule : LoopRule) (at : ℕ) → HasNone (breach_if b rule at) → b ≡ false
none_if true rule at h = absurd h
none_if false rule at h = refl

pub none_unless : (b : Bool) (rule : LoopRule) (at : ℕ) → HasNone (breach_if (not b) rule at) → b ≡ true
none_unless true rule at h = refl
none_unless false rule at h = absurd h
