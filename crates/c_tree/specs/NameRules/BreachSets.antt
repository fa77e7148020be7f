-- Sets of breaches, and the breach that a program is refused by: the least by place, and then by the number of the rule.
use Rattle.std.specs.Prelude.{ℕ, ◌≡◌, Option, Some, None, Bool, ◌||◌, ◌&&◌, ◌==◌, ◌⊎◌, nat_lt, nat_le, if◌then◌else◌}
use Rattle.c_tree.specs.declared.name_rule.NameRule.{NameRule}
use Rattle.c_tree.specs.declared.name_rule.NameRule.TheVariants.{N1, N2, N3, N4, N5, N6, N7, N8, N9, N10, N11, N12}
use Rattle.c_tree.specs.declared.name_rule.Breach.{Breach}

infixr 5 ◌&◌
-- no breach, one, or those of two sets
pub data BreachSet : Type 0 where
  none : BreachSet
  one : Breach → BreachSet
  ◌&◌ : BreachSet → BreachSet → BreachSet

abbrev pub IsIn : Breach → BreachSet → Type 0
IsIn b none = ⊥
IsIn b (one c) = b ≡ c
IsIn b (xs & ys) = IsIn b xs ⊎ IsIn b ys

abbrev pub HasNone : BreachSet → Type 0
HasNone none = Unit {0}
HasNone (one b) = ⊥
HasNone (xs & ys) = HasNone xs × HasNone ys

-- ---- the least

abbrev pub rule_number : NameRule → ℕ
rule_number N1 = 1
rule_number N2 = 2
rule_number N3 = 3
rule_number N4 = 4
rule_number N5 = 5
rule_number N6 = 6
rule_number N7 = 7
rule_number N8 = 8
rule_number N9 = 9
rule_number N10 = 10
rule_number N11 = 11
rule_number N12 = 12

-- a comes before b, or they are one
abbrev pub is_before : Breach → Breach → Bool
is_before a b = nat_lt a.place b.place || (a.place == b.place && nat_le (rule_number a.rule) (rule_number b.rule))

-- the lesser of two, of those that there are
abbrev pub lesser : Option Breach → Option Breach → Option Breach
lesser None o = o
lesser (Some a) None = Some a
lesser (Some a) (Some b) = if is_before a b then Some a else Some b

abbrev pub least : BreachSet → Option Breach
least none = None
least (one b) = Some b
least (xs & ys) = lesser (least xs) (least ys)
