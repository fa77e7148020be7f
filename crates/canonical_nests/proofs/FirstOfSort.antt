-- The first clause of a sort says what the clauses say.
use Rattle.std.proofs.Common.{◌≡◌, refl, List, Option, Some, None}
use Rattle.std.specs.Prelude.{is_some}
use Rattle.c_tree.specs.Bare as b
use Rattle.c_semantics.specs.Meaning.Expressions.{Define}
use Rattle.c_semantics.specs.Loops.Directives.{sizes_in, permutation_in, counts_in, range_in, full_in, factor_in}
use Rattle.canonical_nests.specs.FirstClauses.{first_of, sizes_from, permutation_from, counts_from, range_from, factor_from}
use Rattle.canonical_nests.specs.declared.clauses.Sort.TheVariants.{Sizes, Permutation, Counts, LoopRange, Full, Partial}

pub sizes_first : (cs : b.Clauses) → sizes_in cs ≡ sizes_from (first_of Sizes cs)
sizes_first b.no_clauses = refl
sizes_first (b.more_clauses (b.sizes es) cs) = refl
sizes_first (b.more_clauses (b.permutation es) cs) = sizes_first cs
sizes_first (b.more_clauses (b.counts ks) cs) = sizes_first cs
sizes_first (b.more_clauses (b.looprange a c) cs) = sizes_first cs
sizes_first (b.more_clauses b.full cs) = sizes_first cs
sizes_first (b.more_clauses (b.partial (Some e)) cs) = sizes_first cs
sizes_first (b.more_clauses (b.partial None) cs) = sizes_first cs
sizes_first (b.more_clauses (b.apply m es is) cs) = sizes_first cs

pub permutation_first : (ds : List Define) (cs : b.Clauses) → permutation_in ds cs ≡ permutation_from ds (first_of Permutation cs)
permutation_first ds b.no_clauses = refl
permutation_first ds (b.more_clauses (b.sizes es) cs) = permutation_first ds cs
permutation_first ds (b.more_clauses (b.permutation es) cs) = refl
permutation_first ds (b.more_clauses (b.counts ks) cs) = permutation_first ds cs
permutation_first ds (b.more_clauses (b.looprange a c) cs) = permutation_first ds cs
permutation_first ds (b.more_clauses b.full cs) = permutation_first ds cs
permutation_first ds (b.more_clauses (b.partial (Some e)) cs) = permutation_first ds cs
permutation_first ds (b.more_clauses (b.partial None) cs) = permutation_first ds cs
permutation_first ds (b.more_clauses (b.apply m es is) cs) = permutation_first ds cs

pub counts_first : (cs : b.Clauses) → counts_in cs ≡ counts_from (first_of Counts cs)
counts_first b.no_clauses = refl
counts_first (b.more_clauses (b.sizes es) cs) = counts_first cs
counts_first (b.more_clauses (b.permutation es) cs) = counts_first cs
counts_first (b.more_clauses (b.counts ks) cs) = refl
counts_first (b.more_clauses (b.looprange a c) cs) = counts_first cs
counts_first (b.more_clauses b.full cs) = counts_first cs
counts_first (b.more_clauses (b.partial (Some e)) cs) = counts_first cs
counts_first (b.more_clauses (b.partial None) cs) = counts_first cs
counts_first (b.more_clauses (b.apply m es is) cs) = counts_first cs

pub range_first : (ds : List Define) (cs : b.Clauses) → range_in ds cs ≡ range_from ds (first_of LoopRange cs)
range_first ds b.no_clauses = refl
range_first ds (b.more_clauses (b.sizes es) cs) = range_first ds cs
range_first ds (b.more_clauses (b.permutation es) cs) = range_first ds cs
range_first ds (b.more_clauses (b.counts ks) cs) = range_first ds cs
range_first ds (b.more_clauses (b.looprange a c) cs) = refl
range_first ds (b.more_clauses b.full cs) = range_first ds cs
range_first ds (b.more_clauses (b.partial (Some e)) cs) = range_first ds cs
range_first ds (b.more_clauses (b.partial None) cs) = range_first ds cs
range_first ds (b.more_clauses (b.apply m es is) cs) = range_first ds cs

pub full_first : (cs : b.Clauses) → full_in cs ≡ is_some (first_of Full cs)
full_first b.no_clauses = refl
full_first (b.more_clauses (b.sizes es) cs) = full_first cs
full_first (b.more_clauses (b.permutation es) cs) = full_first cs
full_first (b.more_clauses (b.counts ks) cs) = full_first cs
full_first (b.more_clauses (b.looprange a c) cs) = full_first cs
full_first (b.more_clauses b.full cs) = refl
full_first (b.more_clauses (b.partial (Some e)) cs) = full_first cs
full_first (b.more_clauses (b.partial None) cs) = full_first cs
full_first (b.more_clauses (b.apply m es is) cs) = full_first cs

pub factor_first : (ds : List Define) (cs : b.Clauses) → factor_in ds cs ≡ factor_from ds (first_of Partial cs)
factor_first ds b.no_clauses = refl
factor_first ds (b.more_clauses (b.sizes es) cs) = factor_first ds cs
factor_first ds (b.more_clauses (b.permutation es) cs) = factor_first ds cs
factor_first ds (b.more_clauses (b.counts ks) cs) = factor_first ds cs
factor_first ds (b.more_clauses (b.looprange a c) cs) = factor_first ds cs
factor_first ds (b.more_clauses b.full cs) = factor_first ds cs
factor_first ds (b.more_clauses (b.partial (Some e)) cs) = refl
factor_first ds (b.more_clauses (b.partial None) cs) = refl
factor_first ds (b.more_clauses (b.apply m es is) cs) = factor_first ds cs

pub ruleset firsts = (sizes_first, permutation_first, counts_first, range_first, full_first, factor_first)
