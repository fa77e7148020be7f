-- The rules of a directive's clauses (OpenMP 6.0, 11: the clauses of the loop-transforming constructs and their
-- restrictions): L10 to L15, L17 to L19, and L23 to L25. An item of `apply` is a directive like any other. A clause stands
-- at its first byte, a directive and an item at its name.
use Rattle.std.specs.Prelude.{ℕ, zero, suc, ◌+◌, List, [], ◌∷◌, ◌++◌, map, length, Option, Some, None, Bool, true, false, not, ◌&&◌, ◌||◌, ◌==◌, nat_lt, nat_le, ℤ, pos, int_le, if◌then◌else◌, bytes_eq, codes}
use Rattle.std.specs.List.{list_any, list_all}
use Rattle.c_tree.specs.Bare.{Name}
use Rattle.c_tree.specs.Placed.{Expr, expr_list, expr_span, Exprs, no_exprs, more_exprs, Count, fill, given, Directive, directive, Clauses, no_clauses, more_clauses, clause, ClauseKind, sizes, permutation, counts, looprange, full, partial, apply, Items, no_items, more_items, Item, nothing, acts}
use Rattle.c_tree.specs.Forget.{forget_expr}
use Rattle.c_tree.specs.declared.tree.Kind.{Kind}
use Rattle.c_tree.specs.declared.tree.Kind.TheVariants.{Tile, Unroll, Interchange, Reverse, Split, Fuse}
use Rattle.c_semantics.specs.Meaning.Expressions.{Define, constant}
use Rattle.c_semantics.specs.Loops.Directives.{number, before}
use Rattle.canonical_nests.specs.declared.rules.LoopRule.TheVariants.{L10, L11, L12, L13, L14, L15, L17, L18, L19, L23, L24, L25}
use Rattle.canonical_nests.specs.LoopRules.BreachSets.{BreachSet, none, ◌&◌, breach_if}

-- ---- constants

abbrev pub is_from : ℕ → Option ℤ → Bool
is_from k None = false
is_from k (Some z) = int_le (pos k) z

-- a constant of at least k
abbrev pub is_constant_from : List Define → ℕ → Expr → Bool
is_constant_from ds k e = is_from k (constant ds (forget_expr e))

abbrev pub placed_number : List Define → Expr → ℕ
placed_number ds e = number ds (forget_expr e)

abbrev pub numbers : List Define → Exprs → List ℕ
numbers ds es = map (placed_number ds) (expr_list es)

abbrev pub is_in : ℕ → List ℕ → Bool
is_in k ks = list_any (λ j. k == j) ks

abbrev pub all_different : List ℕ → Bool
all_different [] = true
all_different (k ∷ ks) = not (is_in k ks) && all_different ks

-- constants from 1 to n
abbrev pub are_from_one_to : List Define → ℕ → Exprs → Bool
are_from_one_to ds n es = list_all (λ e. is_constant_from ds 1 e && nat_le (placed_number ds e) n) (expr_list es)

-- ---- what is written

abbrev pub is_fill : Count → Bool
is_fill (fill s) = true
is_fill (given e) = false

abbrev pub fills : List Count → ℕ
fills [] = 0
fills (c ∷ cs) = if is_fill c then fills cs + 1 else fills cs

abbrev pub is_apply : ClauseKind → Bool
is_apply (apply m is ks) = true
is_apply _ = false

-- the two are clauses of which only one may stand
abbrev pub exclude : ClauseKind → ClauseKind → Bool
exclude (sizes es) (sizes fs) = true
exclude (permutation es) (permutation fs) = true
exclude (counts cs) (counts bs) = true
exclude (looprange a b) (looprange c d) = true
exclude full full = true
exclude full (partial f) = true
exclude (partial f) full = true
exclude (partial f) (partial g) = true
exclude _ _ = false

-- the clauses that a directive may have
abbrev pub belongs : Kind → ClauseKind → Bool
belongs k (apply m is ks) = true
belongs Tile (sizes es) = true
belongs Interchange (permutation es) = true
belongs Split (counts cs) = true
belongs Fuse (looprange a b) = true
belongs Unroll full = true
belongs Unroll (partial f) = true
belongs _ _ = false

abbrev pub has_kind : (ClauseKind → Bool) → Clauses → Bool
has_kind f no_clauses = false
has_kind f (more_clauses (clause k s) cs) = f k || has_kind f cs

abbrev pub is_sizes : ClauseKind → Bool
is_sizes (sizes es) = true
is_sizes _ = false

abbrev pub is_counts : ClauseKind → Bool
is_counts (counts cs) = true
is_counts _ = false

abbrev pub is_full : ClauseKind → Bool
is_full full = true
is_full _ = false

-- ---- how many loops a directive generates of each kind

-- the number of arguments of the first clause that counts them
abbrev pub arguments : ClauseKind → Option ℕ
arguments (sizes es) = Some (length (expr_list es))
arguments (permutation es) = Some (length (expr_list es))
arguments (counts cs) = Some (length cs)
arguments _ = None

abbrev pub first_some : Option ℕ → ℕ → ℕ
first_some None n = n
first_some (Some k) n = k

-- of the first clause for which f holds, else n
abbrev pub arguments_of : (ClauseKind → Bool) → ℕ → Clauses → ℕ
arguments_of f n no_clauses = n
arguments_of f n (more_clauses (clause k s) cs) = if f k then first_some (arguments k) n else arguments_of f n cs

abbrev pub is_permutation : ClauseKind → Bool
is_permutation (permutation es) = true
is_permutation _ = false

abbrev pub loops_of_kind : Kind → Clauses → ℕ
loops_of_kind Tile cs = arguments_of is_sizes 0 cs
loops_of_kind Interchange cs = arguments_of is_permutation 2 cs
loops_of_kind Split cs = arguments_of is_counts 0 cs
loops_of_kind Unroll cs = if has_kind is_full cs then 0 else 1
loops_of_kind _ cs = 1

-- ---- L10 to L19

-- L10: a size isn't a constant of at least 1
abbrev pub size_breaches : List Define → List Expr → BreachSet
size_breaches ds [] = none
size_breaches ds (e ∷ es) = breach_if (not (is_constant_from ds 1 e)) L10 (expr_span e).start & size_breaches ds es

-- L14: the items aren't the constants 1 to n, each once, or n is below 2
abbrev pub is_permutation_of : List Define → Exprs → Bool
is_permutation_of ds es =
    are_from_one_to ds (length (expr_list es)) es && (all_different (numbers ds es) && nat_le 2 (length (expr_list es)))

-- L15: a factor isn't a constant of at least 1
abbrev pub factor_breaches : List Define → Option Expr → BreachSet
factor_breaches ds None = none
factor_breaches ds (Some e) = breach_if (not (is_constant_from ds 1 e)) L15 (expr_span e).start

-- L18: a count isn't a constant of at least 0
abbrev pub count_breaches : List Define → List Count → BreachSet
count_breaches ds [] = none
count_breaches ds (fill s ∷ cs) = count_breaches ds cs
count_breaches ds (given e ∷ cs) = breach_if (not (is_constant_from ds 0 e)) L18 (expr_span e).start & count_breaches ds cs

-- L11: `tile` without `sizes`, `split` without `counts`
abbrev pub required_breaches : Kind → Clauses → ℕ → BreachSet
required_breaches Tile cs at = breach_if (not (has_kind is_sizes cs)) L11 at
required_breaches Split cs at = breach_if (not (has_kind is_counts cs)) L11 at
required_breaches _ cs at = none

-- ---- apply

-- the modifiers of each directive
abbrev pub modifiers : Kind → List Name
modifiers Tile = codes "grid" ∷ codes "intratile" ∷ []
modifiers Interchange = codes "interchanged" ∷ []
modifiers Reverse = codes "reversed" ∷ []
modifiers Split = codes "split" ∷ []
modifiers Fuse = codes "fused" ∷ []
modifiers Unroll = codes "unrolled" ∷ []

-- it may be left out, but on `tile`
abbrev pub fits_modifier : Kind → Option Name → Bool
fits_modifier Tile None = false
fits_modifier k None = true
fits_modifier k (Some x) = list_any (bytes_eq x) (modifiers k)

abbrev pub is_fuse : Item → Bool
is_fuse (acts (directive Fuse cs s)) = true
is_fuse _ = false

abbrev pub item_list : Items → List Item
item_list no_items = []
item_list (more_items i is) = i ∷ item_list is

-- L23: the modifier isn't one of this directive's, is missing on `tile`, or an item is `fuse`
abbrev pub modifier_is_wrong : Kind → Option Name → Items → Bool
modifier_is_wrong k m is = not (fits_modifier k m) || list_any is_fuse (item_list is)

abbrev pub has_indices : Exprs → Bool
has_indices no_exprs = false
has_indices (more_exprs e es) = true

-- the numbers, from 1 and within their kind, of the loops to which so many items go
abbrev pub one_to : ℕ → List ℕ
one_to zero = []
one_to (suc n) = one_to n ++ suc n ∷ []

abbrev pub loop_numbers : List Define → Exprs → Items → List ℕ
loop_numbers ds no_exprs is = one_to (length (item_list is))
loop_numbers ds es is = numbers ds es

-- the positions on which a clause puts directives: n grid loops stand before the tile loops
abbrev pub positions_put : ℕ → List ℕ → List Item → List ℕ
positions_put n ps [] = []
positions_put n [] (i ∷ is) = []
positions_put n (p ∷ ps) (nothing s ∷ is) = positions_put n ps is
positions_put n (p ∷ ps) (acts d ∷ is) = (n + p) ∷ positions_put n ps is

abbrev pub apply_positions : List Define → ℕ → Option Name → Exprs → Items → List ℕ
apply_positions ds n m es is = positions_put (before n m) (loop_numbers ds es is) (item_list is)

abbrev pub shares : List ℕ → List ℕ → Bool
shares ps qs = list_any (λ p. is_in p qs) ps

-- the indices, where there are any, are constants from 1 to n, each once, and as many as the items
abbrev pub indices_fit : List Define → ℕ → Exprs → Items → Bool
indices_fit ds n no_exprs is = true
indices_fit ds n es is =
    are_from_one_to ds n es && (all_different (numbers ds es) && length (expr_list es) == length (item_list is))

-- taken are the positions on which earlier clauses of the directive put directives; n is the number of loops of the kind
abbrev pub apply_breaches : List Define → Kind → ℕ → List ℕ → Option Name → Exprs → Items → ℕ → BreachSet
apply_breaches ds k n taken m es is at =
    breach_if (modifier_is_wrong k m is) L23 at
    & (breach_if (nat_lt n (length (item_list is))) L24 at
    & breach_if (not (indices_fit ds n es is) || shares (apply_positions ds n m es is) taken) L25 at)

abbrev pub also_taken : List Define → ℕ → ClauseKind → List ℕ → List ℕ
also_taken ds n (apply m es is) taken = taken ++ apply_positions ds n m es is
also_taken ds n _ taken = taken

-- ---- all

module _ (ds : List Define) where
  abbrev mutual
    -- of a directive and of all its items
    pub directive_breaches : Directive → BreachSet
    directive_breaches (directive k cs s) =
        required_breaches k cs s.start & clauses_breaches k (loops_of_kind k cs) [] [] cs

    -- n loops of each kind, the clauses before, and the positions on which they put directives
    pub clauses_breaches : Kind → ℕ → List ClauseKind → List ℕ → Clauses → BreachSet
    clauses_breaches k n earlier taken no_clauses = none
    clauses_breaches k n earlier taken (more_clauses (clause c s) cs) =
        breach_if (list_any (exclude c) earlier) L12 s.start
        & (breach_if (not (belongs k c)) L13 s.start
        & (clause_breaches k n taken s.start c
        & clauses_breaches k n (c ∷ earlier) (also_taken ds n c taken) cs))

    pub clause_breaches : Kind → ℕ → List ℕ → ℕ → ClauseKind → BreachSet
    clause_breaches k n taken at (sizes es) = size_breaches ds (expr_list es)
    clause_breaches k n taken at (permutation es) = breach_if (not (is_permutation_of ds es)) L14 at
    clause_breaches k n taken at (counts cs) = breach_if (not (fills cs == 1)) L17 at & count_breaches ds cs
    clause_breaches k n taken at (looprange a b) = breach_if (not (is_constant_from ds 1 a && is_constant_from ds 1 b)) L19 at
    clause_breaches k n taken at full = none
    clause_breaches k n taken at (partial f) = factor_breaches ds f
    clause_breaches k n taken at (apply m es is) = apply_breaches ds k n taken m es is at & items_breaches is

    pub items_breaches : Items → BreachSet
    items_breaches no_items = none
    items_breaches (more_items (nothing s) is) = items_breaches is
    items_breaches (more_items (acts d) is) = directive_breaches d & items_breaches is
