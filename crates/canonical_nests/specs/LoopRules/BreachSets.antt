-- Sets of breaches of loop rules, and the breach that a program is refused by: the least by place, and then by the number
-- of the rule.
use Rattle.std.specs.Prelude.{ℕ, ◌≡◌, Option, Some, None, Bool, true, false, ◌||◌, ◌&&◌, ◌==◌, ◌⊎◌, nat_lt, nat_le, if◌then◌else◌}
use Rattle.canonical_nests.specs.declared.rules.LoopRule.{LoopRule}
use Rattle.canonical_nests.specs.declared.rules.LoopRule.TheVariants.{L1, L2, L3, L4, L5, L6, L7, L8, L9, L10, L11, L12, L13, L14, L15, L16, L17, L18, L19, L20, L21, L22, L23, L24, L25, L26, L27, L28}
use Rattle.canonical_nests.specs.declared.rules.LoopBreach.{LoopBreach}

infixr 5 ◌&◌
-- no breach, one, or those of two sets
pub data BreachSet : Type 0 where
  none : BreachSet
  one : LoopBreach → BreachSet
  ◌&◌ : BreachSet → BreachSet → BreachSet

abbrev pub IsIn : LoopBreach → BreachSet → Type 0
IsIn b none = ⊥
IsIn b (one c) = b ≡ c
IsIn b (xs & ys) = IsIn b xs ⊎ IsIn b ys

abbrev pub HasNone : BreachSet → Type 0
HasNone none = Unit {0}
HasNone (one b) = ⊥
HasNone (xs & ys) = HasNone xs × HasNone ys

-- this rule at this place, where the condition holds
abbrev pub breach_if : Bool → LoopRule → ℕ → BreachSet
breach_if true rule place = one (record { place = place; rule = rule })
breach_if false rule place = none

abbrev pub breach : LoopRule → ℕ → BreachSet
breach = breach_if true

abbrev pub has_some : BreachSet → Bool
has_some none = false
has_some (one b) = true
has_some (xs & ys) = has_some xs || has_some ys

-- the first set that has a breach, else the second
abbrev pub or_else : BreachSet → BreachSet → BreachSet
or_else xs ys = if has_some xs then xs else ys

-- ---- the least

abbrev pub rule_number : LoopRule → ℕ
rule_number L1 = 1
rule_number L2 = 2
rule_number L3 = 3
rule_number L4 = 4
rule_number L5 = 5
rule_number L6 = 6
rule_number L7 = 7
rule_number L8 = 8
rule_number L9 = 9
rule_number L10 = 10
rule_number L11 = 11
rule_number L12 = 12
rule_number L13 = 13
rule_number L14 = 14
rule_number L15 = 15
rule_number L16 = 16
rule_number L17 = 17
rule_number L18 = 18
rule_number L19 = 19
rule_number L20 = 20
rule_number L21 = 21
rule_number L22 = 22
rule_number L23 = 23
rule_number L24 = 24
rule_number L25 = 25
rule_number L26 = 26
rule_number L27 = 27
rule_number L28 = 28

-- a comes before b, or they are one
abbrev pub is_before : LoopBreach → LoopBreach → Bool
is_before a b = nat_lt a.place b.place || (a.place == b.place && nat_le (rule_number a.rule) (rule_number b.rule))

-- the lesser of two, of those that there are
abbrev pub lesser : Option LoopBreach → Option LoopBreach → Option LoopBreach
lesser None o = o
lesser (Some a) None = Some a
lesser (Some a) (Some b) = if is_before a b then Some a else Some b

abbrev pub least : BreachSet → Option LoopBreach
least none = None
least (one b) = Some b
least (xs & ys) = lesser (least xs) (least ys)
