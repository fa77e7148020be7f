-- What the kinds of counts of a part say of an iteration tree (OpenMP 6.0, 6.4.1: the counts of a canonical loop nest; 11:
-- of the generated loops). The loop at a position of the part is every tree as many loops down as loops stand round it.
use Rattle.std.specs.Prelude.{ℕ, zero, suc, ◌≡◌, ◌<◌, List, [], ◌∷◌, length, Some, Bool, true}
use Rattle.c_semantics.specs.Loops.IterationTrees.{Tree, loop, children, nth, members}
use Rattle.canonical_nests.specs.declared.nest.CountKind.{CountKind}
use Rattle.canonical_nests.specs.Kinds.{Part, kind_at, known_count, depends_on}
use Rattle.canonical_nests.specs.LoopRules.Clauses.{is_in}

abbrev pub IsLoop : Tree → Type 0
IsLoop (loop ts) = Unit {0}
IsLoop _ = ⊥

-- how often a loop turns
abbrev pub turns : Tree → ℕ
turns t = length (children t)

abbrev pub child : Tree → ℕ → Tree
child t i = nth i (children t)

-- every tree so many loops down
abbrev pub EachBelow : (Tree → Type 0) → ℕ → Tree → Type 0
EachBelow P zero t = P t
EachBelow P (suc n) t = (i : ℕ) → i < turns t → EachBelow P n (child t i)

-- which of the first n positions are among these
abbrev pub flags : ℕ → List ℕ → List Bool
flags n ps = members n (λ i. is_in (suc i) ps)

-- The trees that two ways lead to are related, wherever the two ways have the same index in each loop that is flagged.
-- Such ways also find each flagged loop with as many turns.
abbrev pub Related : (Tree → Tree → Type 0) → List Bool → Tree → Tree → Type 0
Related R [] t u = R t u
Related R (b ∷ bs) t u =
    (b ≡ true → 0 < turns t → 0 < turns u → turns t ≡ turns u)
    × ((i j : ℕ) → i < turns t → j < turns u → (b ≡ true → i ≡ j) → Related R bs (child t i) (child u j))

abbrev pub SameTurns : Tree → Tree → Type 0
SameTurns t u = turns t ≡ turns u

-- the trees below n loops are loops with a count of this kind: of that many turns where it is known, and else of as many
-- as the indices in the loops on which it depends say
pub record HasCount (k : CountKind) (n : ℕ) (t : Tree) : Type 0 where
  pub loops : EachBelow IsLoop n t
  pub known : (v : ℕ) → known_count k ≡ Some v → EachBelow (λ u. turns u ≡ v) n t
  pub same : Related SameTurns (flags n (depends_on k)) t t

-- a tree has the kinds of counts of a part
abbrev pub HasKinds : Part → Tree → Type 0
HasKinds ks t = (n : ℕ) → n < length ks → HasCount (kind_at ks n) n t
