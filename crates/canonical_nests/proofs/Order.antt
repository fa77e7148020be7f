-- The least of several breaches: that of a list is the lesser of what was seen and of what is left.
use Rattle.std.proofs.Common.{◌≡◌, ◌∙◌, sym, ap, refl, Bool, true, false, if◌then◌else◌, Option, Some, None, arith}
use Rattle.std.specs.Prelude.{is_some, ◌||◌}
use Rattle.std.proofs.lemmas.Bool.Decides.{nat_tests}
use Rattle.canonical_nests.specs.declared.rules.LoopBreach.{LoopBreach}
use Rattle.canonical_nests.specs.LoopRules.BreachSets.{BreachSet, none, one, ◌&◌, HasNone, has_some, or_else, is_before, lesser, least}

-- ---- the order

before_both : (a b c : LoopBreach) → is_before a b ≡ true → is_before b c ≡ true → is_before a c ≡ true
before_both a b c h k = grind (arith, nat_tests)

after_both : (a b c : LoopBreach) → is_before a b ≡ false → is_before b c ≡ false → is_before a c ≡ false
after_both a b c h k = grind (arith, nat_tests)

abbrev choose : Bool → LoopBreach → LoopBreach → Option LoopBreach
choose b x y = if b then Some x else Some y

joined : (a b c : LoopBreach) (ab bc ac : Bool) → is_before a b ≡ ab → is_before b c ≡ bc → is_before a c ≡ ac → lesser (choose ab a b) (Some c) ≡ lesser (Some a) (choose bc b c)
joined a b c true true true h k m = ap (λ t. choose t a c) m ∙ sym (ap (λ t. choose t a b) h)
joined a b c true true false h k m = absurd (cc (before_both a b c h k))
joined a b c true false ac h k m = refl
joined a b c false true ac h k m = ap (λ t. choose t b c) k ∙ sym (ap (λ t. choose t a b) h)
joined a b c false false true h k m = absurd (cc (after_both a b c h k))
joined a b c false false false h k m = ap (λ t. choose t b c) k ∙ sym (ap (λ t. choose t a c) m)

pub lesser_joins : (a b c : Option LoopBreach) → lesser (lesser a b) c ≡ lesser a (lesser b c)
lesser_joins None b c = refl
lesser_joins (Some a) None c = refl
lesser_joins (Some a) (Some b) None = both_there (is_before a b)
  where
    both_there : (t : Bool) → lesser (choose t a b) None ≡ choose t a b
    both_there true = refl
    both_there false = refl
lesser_joins (Some a) (Some b) (Some c) = joined a b c (is_before a b) (is_before b c) (is_before a c) refl refl refl

pub lesser_none : (a : Option LoopBreach) → lesser a None ≡ a
lesser_none None = refl
lesser_none (Some a) = refl

neither : (a b : Option LoopBreach) → lesser a b ≡ None → (a ≡ None) × (b ≡ None)
neither None b h = (refl, h)
neither (Some a) None h = absurd (cc)
neither (Some a) (Some b) h = absurd (some_is (is_before a b) h)
  where
    some_is : (t : Bool) → choose t a b ≡ None → ⊥
    some_is true k = cc
    some_is false k = cc

pub has_none : (xs : BreachSet) → least xs ≡ None → HasNone xs
has_none none h = tt
has_none (one b) h = absurd (cc)
has_none (xs & ys) h = let both = neither (least xs) (least ys) h in (has_none xs both.0, has_none ys both.1)

-- ---- the first set that has a breach

some_of_lesser : (a b : Option LoopBreach) → is_some (lesser a b) ≡ (is_some a || is_some b)
some_of_lesser None b = refl
some_of_lesser (Some a) None = refl
some_of_lesser (Some a) (Some b) = either (is_before a b)
  where
    either : (t : Bool) → is_some (choose t a b) ≡ true
    either true = refl
    either false = refl

has_least : (xs : BreachSet) → has_some xs ≡ is_some (least xs)
has_least none = refl
has_least (one b) = refl
has_least (xs & ys) = (λ i. has_least xs i || has_least ys i) ∙ sym (some_of_lesser (least xs) (least ys))

chosen : (xs ys : BreachSet) (t : Bool) → has_some xs ≡ t → least (or_else xs ys) ≡ (if t then least xs else least ys)
chosen xs ys true h = ap (λ b. least (if b then xs else ys)) h
chosen xs ys false h = ap (λ b. least (if b then xs else ys)) h

pub else_first : (xs ys : BreachSet) (b : LoopBreach) → least xs ≡ Some b → least (or_else xs ys) ≡ Some b
else_first xs ys b h = chosen xs ys true (has_least xs ∙ ap is_some h) ∙ h

pub else_second : (xs ys : BreachSet) → least xs ≡ None → least (or_else xs ys) ≡ least ys
else_second xs ys h = chosen xs ys false (has_least xs ∙ ap is_some h)

pub ruleset leasts = (lesser_joins, lesser_none)

pub ruleset tiers = (else_first, else_second)
