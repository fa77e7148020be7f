-- What a loop over the clauses of a directive, or over the items of a clause, has left.
use Rattle.std.proofs.Common.{◌≡◌, ◌∙◌, sym, ap, refl, ◌<◌, ◌≤◌, ◌+◌, ℕ, List, [], ◌∷◌, length, drop, slice_index_or, Option, None}
use Rattle.std.specs.Prelude.{not}
use Rattle.c_tree.specs.Placed as p
use Rattle.c_tree.specs.Placed.{ClauseKind, Clauses, no_clauses, more_clauses, clause}
use Rattle.c_tree.specs.PlacedOf.{placed_kind, placed_clause, placed_clauses, placed_item, placed_items}
use Rattle.c_tree.specs.declared.tree.Kind.{Kind}
use Rattle.c_tree.specs.declared.tree.Span.{Span}
use Rattle.c_tree.specs.declared.tree.Clause.{Clause, out-Clause}
use Rattle.c_tree.specs.declared.tree.ApplyItem.{ApplyItem}
use Rattle.c_tree.proofs.Walks.{rest_more, rest_none}
use Rattle.c_semantics.specs.Meaning.Expressions.{Define}
use Rattle.canonical_nests.specs.declared.rules.LoopBreach.{LoopBreach}
use Rattle.canonical_nests.specs.declared.rules.LoopRule.TheVariants.{L12, L13}
use Rattle.canonical_nests.specs.LoopRules.BreachSets.{BreachSet, none, ◌&◌, breach_if, lesser, least}
use Rattle.canonical_nests.specs.LoopRules.Clauses.{belongs, also_taken, clauses_breaches, clause_breaches, items_breaches}
use Rattle.canonical_nests.proofs.ClauseFields.{placed_clause_out}
use Rattle.canonical_nests.proofs.Order.{lesser_joins, lesser_none}
use Rattle.canonical_nests.proofs.PutItems.{items_held}
use Rattle.loop_clauses.specs.declared.earlier.Earlier.{Earlier}
use Rattle.loop_clauses.specs.Earlier.{no_clause, excludes, with_clause}
use Rattle.loop_clauses.specs.Items.{item_breaches}
use Rattle.loop_clauses.specs.Taken.{one_clause}
use Rattle.loop_clauses.proofs.EarlierClauses.{known_of, excluded_is}

module _ (ds : List Define) (k : Kind) (n : ℕ) where
  -- of clauses after those of which this is known
  abbrev pub clauses_from : Earlier → List ℕ → Clauses → BreachSet
  clauses_from e taken no_clauses = none
  clauses_from e taken (more_clauses (clause c s) cs) =
      breach_if (excludes e c) L12 s.start
      & (breach_if (not (belongs k c)) L13 s.start
      & (clause_breaches ds k n taken s.start c & clauses_from (with_clause c e) (also_taken ds n c taken) cs))

  from_known : (earlier : List ClauseKind) (taken : List ℕ) (cs : Clauses) → clauses_from (known_of earlier) taken cs ≡ clauses_breaches ds k n earlier taken cs
  from_known earlier taken no_clauses = refl
  from_known earlier taken (more_clauses (clause c s) cs) =
      λ i. breach_if (excluded_is c earlier i) L12 s.start
      & (breach_if (not (belongs k c)) L13 s.start
      & (clause_breaches ds k n taken s.start c & from_known (c ∷ earlier) (also_taken ds n c taken) cs i))

  pub from_start : (cs : Clauses) → clauses_from no_clause [] cs ≡ clauses_breaches ds k n [] [] cs
  from_start = from_known [] []

  joined : (e : Earlier) (taken : List ℕ) (c : ClauseKind) (s : Span) (cs : Clauses)
      → least (clauses_from e taken (more_clauses (clause c s) cs))
      ≡ lesser (least (one_clause ds k n e taken (clause c s))) (least (clauses_from (with_clause c e) (also_taken ds n c taken) cs))
  joined e taken c s cs =
      let a : Option LoopBreach = least (breach_if (excludes e c) L12 s.start) in
      let b : Option LoopBreach = least (breach_if (not (belongs k c)) L13 s.start) in
      let d : Option LoopBreach = least (clause_breaches ds k n taken s.start c) in
      let rest : Option LoopBreach = least (clauses_from (with_clause c e) (also_taken ds n c taken) cs) in
      sym (lesser_joins a (lesser b d) rest ∙ ap (lesser a) (lesser_joins b d rest))

  pub clauses_more : (e : Earlier) (taken : List ℕ) (xs : List Clause) (i : ℕ) (x : Clause) → i < length xs → x ≡ slice_index_or xs i x
      → least (clauses_from e taken (placed_clauses (drop i xs)))
      ≡ lesser (least (one_clause ds k n e taken (placed_clause x)))
      (least (clauses_from (with_clause (placed_kind (out-Clause x).kind) e) (also_taken ds n (placed_kind (out-Clause x).kind) taken) (placed_clauses (drop (i + 1) xs))))
  clauses_more e taken xs i x within is =
      let rest : Clauses = placed_clauses (drop (i + 1) xs) in
      let kind : ClauseKind = placed_kind (out-Clause x).kind in
      rest_more (λ ys. least (clauses_from e taken (placed_clauses ys))) xs i x within is
      ∙ (ap (λ c. least (clauses_from e taken (more_clauses c rest))) (placed_clause_out x)
      ∙ (joined e taken kind (out-Clause x).span rest
      ∙ ap (λ c. lesser (least (one_clause ds k n e taken c)) (least (clauses_from (with_clause kind e) (also_taken ds n kind taken) rest))) (sym (placed_clause_out x))))

  pub clauses_end : (e : Earlier) (taken : List ℕ) (xs : List Clause) (i : ℕ) → length xs ≤ i → least (clauses_from e taken (placed_clauses (drop i xs))) ≡ None
  clauses_end e taken xs i = rest_none (λ ys. least (clauses_from e taken (placed_clauses ys))) xs i

  -- one clause more
  pub clauses_step : (e e' : Earlier) (taken taken' : List ℕ) (xs : List Clause) (i : ℕ) (x : Clause) (found here new all : Option LoopBreach)
      → i < length xs → x ≡ slice_index_or xs i x → here ≡ least (one_clause ds k n e taken (placed_clause x)) → new ≡ lesser found here
      → e' ≡ with_clause (placed_kind (out-Clause x).kind) e → taken' ≡ also_taken ds n (placed_kind (out-Clause x).kind) taken
      → lesser found (least (clauses_from e taken (placed_clauses (drop i xs)))) ≡ all
      → lesser new (least (clauses_from e' taken' (placed_clauses (drop (i + 1) xs)))) ≡ all
  clauses_step e e' taken taken' xs i x found here new all within is here_is new_is e_is taken_is all_is =
      (λ j. lesser (new_is j) (least (clauses_from (e_is j) (taken_is j) (placed_clauses (drop (i + 1) xs)))))
      ∙ (lesser_joins found here _
      ∙ (ap (λ h. lesser found (lesser h (least (clauses_from (with_clause (placed_kind (out-Clause x).kind) e) (also_taken ds n (placed_kind (out-Clause x).kind) taken) (placed_clauses (drop (i + 1) xs)))))) here_is
      ∙ (ap (lesser found) (sym (clauses_more e taken xs i x within is)) ∙ all_is)))

module _ (ds : List Define) where
  item_step : (i : p.Item) (is : p.Items) → least (items_breaches ds (p.more_items i is)) ≡ lesser (least (item_breaches ds i)) (least (items_breaches ds is))
  item_step (p.nothing s) is = refl
  item_step (p.acts d) is = refl

  pub items_more : (xs : List ApplyItem) (i : ℕ) (x : ApplyItem) → i < length xs → x ≡ slice_index_or xs i x
      → least (items_breaches ds (placed_items (drop i xs))) ≡ lesser (least (item_breaches ds (placed_item x))) (least (items_breaches ds (placed_items (drop (i + 1) xs))))
  items_more xs i x within is =
      rest_more (λ ys. least (items_breaches ds (placed_items ys))) xs i x within is ∙ item_step (placed_item x) (placed_items (drop (i + 1) xs))

  pub items_end : (xs : List ApplyItem) (i : ℕ) → length xs ≤ i → least (items_breaches ds (placed_items (drop i xs))) ≡ None
  items_end xs i = rest_none (λ ys. least (items_breaches ds (placed_items ys))) xs i

pub ruleset clause_steps = (from_start, clauses_end, lesser_none)

pub ruleset item_steps = (items_more, items_end, items_held, lesser_joins, lesser_none)
