-- Which of the clauses before exclude a clause, told by what is known of those before.
use Rattle.std.proofs.Common.{◌≡◌, ◌∙◌, ap, refl, List, [], ◌∷◌, ◌||◌}
use Rattle.std.specs.List.{list_any}
use Rattle.c_tree.specs.Placed.{ClauseKind, sizes, permutation, counts, looprange, full, partial, apply}
use Rattle.canonical_nests.specs.LoopRules.Clauses.{exclude}
use Rattle.loop_clauses.specs.declared.earlier.Earlier.{Earlier}
use Rattle.loop_clauses.specs.Earlier.{no_clause, excludes, with_clause}

-- what is known of clauses, the latest first
abbrev pub known_of : List ClauseKind → Earlier
known_of [] = no_clause
known_of (c ∷ cs) = with_clause c (known_of cs)

none_excludes : (c : ClauseKind) → excludes no_clause c ≡ list_any (exclude c) []
none_excludes (sizes es) = refl
none_excludes (permutation es) = refl
none_excludes (counts cs) = refl
none_excludes (looprange a b) = refl
none_excludes full = refl
none_excludes (partial f) = refl
none_excludes (apply m es is) = refl

one_more : (s : Earlier) (c d : ClauseKind) → excludes (with_clause d s) c ≡ (exclude c d || excludes s c)
one_more s (sizes es) (sizes fs) = refl
one_more s (sizes es) (permutation fs) = refl
one_more s (sizes es) (counts bs) = refl
one_more s (sizes es) (looprange u v) = refl
one_more s (sizes es) full = refl
one_more s (sizes es) (partial g) = refl
one_more s (sizes es) (apply n fs js) = refl
one_more s (permutation es) (sizes fs) = refl
one_more s (permutation es) (permutation fs) = refl
one_more s (permutation es) (counts bs) = refl
one_more s (permutation es) (looprange u v) = refl
one_more s (permutation es) full = refl
one_more s (permutation es) (partial g) = refl
one_more s (permutation es) (apply n fs js) = refl
one_more s (counts cs) (sizes fs) = refl
one_more s (counts cs) (permutation fs) = refl
one_more s (counts cs) (counts bs) = refl
one_more s (counts cs) (looprange u v) = refl
one_more s (counts cs) full = refl
one_more s (counts cs) (partial g) = refl
one_more s (counts cs) (apply n fs js) = refl
one_more s (looprange a b) (sizes fs) = refl
one_more s (looprange a b) (permutation fs) = refl
one_more s (looprange a b) (counts bs) = refl
one_more s (looprange a b) (looprange u v) = refl
one_more s (looprange a b) full = refl
one_more s (looprange a b) (partial g) = refl
one_more s (looprange a b) (apply n fs js) = refl
one_more s full (sizes fs) = refl
one_more s full (permutation fs) = refl
one_more s full (counts bs) = refl
one_more s full (looprange u v) = refl
one_more s full full = refl
one_more s full (partial g) = refl
one_more s full (apply n fs js) = refl
one_more s (partial f) (sizes fs) = refl
one_more s (partial f) (permutation fs) = refl
one_more s (partial f) (counts bs) = refl
one_more s (partial f) (looprange u v) = refl
one_more s (partial f) full = refl
one_more s (partial f) (partial g) = refl
one_more s (partial f) (apply n fs js) = refl
one_more s (apply m es is) (sizes fs) = refl
one_more s (apply m es is) (permutation fs) = refl
one_more s (apply m es is) (counts bs) = refl
one_more s (apply m es is) (looprange u v) = refl
one_more s (apply m es is) full = refl
one_more s (apply m es is) (partial g) = refl
one_more s (apply m es is) (apply n fs js) = refl

pub excluded_is : (c : ClauseKind) (earlier : List ClauseKind) → excludes (known_of earlier) c ≡ list_any (exclude c) earlier
excluded_is c [] = none_excludes c
excluded_is c (d ∷ ds) = one_more (known_of ds) c d ∙ ap (λ b. exclude c d || b) (excluded_is c ds)
