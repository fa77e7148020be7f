-- A `for` or a directive that has to give loops gives some, where no directive that has to breaks a rule of structure.
use Rattle.std.proofs.Common.{◌≡◌, refl, sym, ap, ◌∙◌, subst, ℕ, suc, List, [], ◌∷◌, ◌++◌, length, Option, Some, None, Bool, true, false}
use Rattle.std.specs.Prelude.{unwrap_or, if◌then◌else◌}
use Rattle.c_tree.specs.Placed.{Stmt, for_, block, omp, Stmts, no_stmts, more_stmts, Directive, directive, Clauses, stmt_span}
use Rattle.c_tree.specs.Forget.{forget_stmt, forget_stmts, forget_clauses, forget_directive}
use Rattle.c_tree.specs.declared.tree.Kind.TheVariants.{Tile, Unroll, Interchange, Reverse, Split, Fuse}
use Rattle.c_semantics.specs.Meaning.Expressions.{Define}
use Rattle.c_semantics.specs.Loops.Transformations.{Applied, none_applied, fuse, plan}
use Rattle.c_semantics.specs.Loops.Directives.{plan_of, clauses_items, range_in, sizes_in}
use Rattle.c_semantics.specs.Loops.Need.{depths, if_some, serves, loops_asked}
use Rattle.c_semantics.specs.Loops.StatementDepths.{kind_of, joined, found_by, stmt_depths, single_depths, member_depths, body_depth}
use Rattle.canonical_nests.specs.LoopRules.BreachSets.{HasNone, breach}
use Rattle.canonical_nests.specs.LoopRules.PlacedPlans as placed
use Rattle.canonical_nests.specs.LoopRules.PlacedPlans.{PlacedPlan, PlacedItems, placed_plan, forget_plan}
use Rattle.canonical_nests.specs.LoopRules.Structure.{is_loop, stmt_list, unwrapped, parts_of, parts_of_all, nest_breaches, one_loop_breaches, member_breaches, range_place, sequence_breaches, loops_breaches, body_breaches, stmt_breaches, stmts_breaches, plan_breaches}
use Rattle.canonical_nests.specs.declared.rules.LoopRule.TheVariants.{L1}
use Rattle.canonical_nests.proofs.ForgottenPlans.{plan_is}
use Rattle.nest_counts.specs.Laws.{LoopsGiveDepths}
use Rattle.canonical_nests.proofs.BreachSets.{neither_breaks}
use Rattle.nest_counts.proofs.Structured.{plan_some, sequence_some}

-- ---- one loop

one_part : (q : PlacedPlan) (at : ℕ) (o : Option (List ℕ)) → HasNone (nest_breaches q at (unwrap_or o [])) → (k : ℕ) × ((o ≡ Some (k ∷ [])) × HasNone (plan_breaches q k))
one_part q at None h = absurd h
one_part q at (Some []) h = absurd h
one_part q at (Some (k ∷ [])) h = (k, (refl, h))
one_part q at (Some (k ∷ l ∷ ks)) h = absurd h

two_are_not_one : (a c d : Stmt) (ss : List Stmt) → a ∷ c ∷ ss ≡ d ∷ [] → ⊥
two_are_not_one a c d ss e = cc

both_stand : (a c : Stmt) (ss : Stmts) → unwrapped (more_stmts a (more_stmts c ss)) ≡ a ∷ c ∷ stmt_list ss
both_stand (block a s) c ss = refl
both_stand a c ss = refl

module _ (ds : List Define) where
  -- the one statement of a list gives one part, over which the directive breaks no rule
  abbrev OneLoop : PlacedPlan → List Stmt → Type 0
  OneLoop q ss = (a : Stmt) × ((ss ≡ a ∷ []) × ((k : ℕ) × ((stmt_depths ds (forget_stmt a) ≡ Some (k ∷ [])) × HasNone (plan_breaches q k))))

  one_loop : (q : PlacedPlan) (at : ℕ) (ss : List Stmt) → HasNone (one_loop_breaches ds q at ss) → OneLoop q ss
  one_loop q at [] h = absurd h
  one_loop q at (a ∷ c ∷ ss) h = absurd h.1
  one_loop q at (a ∷ []) h = by (is_loop a) h
    where
      by : (t : Bool) → HasNone (if t then nest_breaches q at (parts_of ds a) else breach L1 (stmt_span a).start) → OneLoop q (a ∷ [])
      by true h = (a, (refl, one_part q at (stmt_depths ds (forget_stmt a)) h))
      by false h = absurd h

  single_is : (ss : Stmts) (a : Stmt) → unwrapped ss ≡ a ∷ [] → single_depths ds (forget_stmts ss) ≡ stmt_depths ds (forget_stmt a)
  single_is no_stmts a e = absurd (cc)
  single_is (more_stmts (block ss s) no_stmts) a e = single_is ss a e
  single_is (more_stmts c no_stmts) a e = let is : c ≡ a = cc in ap (λ x. stmt_depths ds (forget_stmt x)) is
  single_is (more_stmts c (more_stmts d ss)) a e = absurd (two_are_not_one c d a (stmt_list ss) (sym (both_stand c d ss) ∙ e))

  -- so it does where blocks stand round it
  pub one_body : (q : PlacedPlan) (at : ℕ) (ss : Stmts) → HasNone (one_loop_breaches ds q at (unwrapped ss)) → (k : ℕ) × ((single_depths ds (forget_stmts ss) ≡ Some (k ∷ [])) × HasNone (plan_breaches q k))
  one_body q at ss h = let r = one_loop q at (unwrapped ss) h in (r.1.1.0, (single_is ss r.0 r.1.0 ∙ r.1.1.1.0, r.1.1.1.1))

  one_some : (d : Directive) (at : ℕ) (ss : Stmts) → HasNone (one_loop_breaches ds (placed_plan ds d) at (unwrapped ss))
      → (es : List ℕ) × (if_some (single_depths ds (forget_stmts ss)) (depths (plan_of ds (forget_directive d))) ≡ Some es)
  one_some d at ss h =
      let r = one_body (placed_plan ds d) at ss h in
      let s = plan_some (placed_plan ds d) r.0 r.1.1 in
      (s.0, ap (λ o. if_some o (depths (plan_of ds (forget_directive d)))) r.1.0 ∙ subst (λ q. depths q (r.0 ∷ []) ≡ Some s.0) (plan_is ds d) s.1)

  -- ---- the members of a sequence

  abbrev GivesSome : Stmt → Type 0
  GivesSome a = is_loop a ≡ true → (es : List ℕ) × (stmt_depths ds (forget_stmt a) ≡ Some es)

  abbrev pub EachGives : List Stmt → Type 0
  EachGives [] = Unit {0}
  EachGives (a ∷ ss) = GivesSome a × EachGives ss

  joined_some : (o r : Option (List ℕ)) (es fs : List ℕ) → o ≡ Some es → r ≡ Some fs → joined o r ≡ Some (unwrap_or o [] ++ fs)
  joined_some o r es fs e e' = (λ i. joined (e i) (e' i)) ∙ ap (λ x. Some (unwrap_or x [] ++ fs)) (sym e)

  listed_are : (ss : Stmts) → HasNone (member_breaches (stmt_list ss)) → EachGives (stmt_list ss) → member_depths ds (forget_stmts ss) ≡ Some (parts_of_all ds (stmt_list ss))
  listed_are no_stmts h g = refl
  listed_are (more_stmts (for_ hd a s) ss) h g =
      let r = g.0 refl in joined_some (stmt_depths ds (forget_stmt (for_ hd a s))) (member_depths ds (forget_stmts ss)) r.0 (parts_of_all ds (stmt_list ss)) r.1 (listed_are ss h.1 g.1)
  listed_are (more_stmts (omp d a s) ss) h g =
      let r = g.0 refl in joined_some (stmt_depths ds (forget_stmt (omp d a s))) (member_depths ds (forget_stmts ss)) r.0 (parts_of_all ds (stmt_list ss)) r.1 (listed_are ss h.1 g.1)
  listed_are (more_stmts a ss) h g = absurd h.0

  members_are : (ss : Stmts) → HasNone (member_breaches (unwrapped ss)) → EachGives (unwrapped ss) → member_depths ds (forget_stmts ss) ≡ Some (parts_of_all ds (unwrapped ss))
  members_are no_stmts h g = refl
  members_are (more_stmts (block a s) no_stmts) h g = members_are a h g
  members_are (more_stmts a ss) h g = listed_are (more_stmts a ss) h g

  loops_tested : (q : PlacedPlan) (at : ℕ) (cs : Clauses) (ss : List Stmt) → HasNone (loops_breaches ds q at cs ss)
      → HasNone (member_breaches ss) × HasNone (sequence_breaches q (range_place at cs) (parts_of_all ds ss))
  loops_tested q at cs [] h = absurd h
  loops_tested q at cs (a ∷ ss) h = neither_breaks (member_breaches (a ∷ ss)) (sequence_breaches q (range_place at cs) (parts_of_all ds (a ∷ ss))) h

  pub fuse_asks_one : (r : Option (ℕ × ℕ)) (w : Applied) (m : ℕ) → loops_asked (plan (fuse r) w) m ≡ 1
  fuse_asks_one r w m = by (serves (plan (fuse r) w) m 1) 1
    where
      by : (t : Bool) (n : ℕ) → unwrap_or (if t then Some n else None) n ≡ n
      by true n = refl
      by false n = refl

  pub sequence_body : (r : Option (ℕ × ℕ)) (at : ℕ) (w : PlacedItems) (cs : Clauses) (ss : Stmts) → EachGives (unwrapped ss) → HasNone (loops_breaches ds (placed.plan (fuse r) at w) at cs (unwrapped ss))
      → (ks : List ℕ) × ((member_depths ds (forget_stmts ss) ≡ Some ks) × HasNone (sequence_breaches (placed.plan (fuse r) at w) (range_place at cs) ks))
  sequence_body r at w cs ss gives h =
      let t = loops_tested (placed.plan (fuse r) at w) at cs (unwrapped ss) h in
      (parts_of_all ds (unwrapped ss), (members_are ss t.0 gives, t.1))

  all_some : (d : Directive) (r : Option (ℕ × ℕ)) (at : ℕ) (w : PlacedItems) (cs : Clauses) (ss : Stmts) → placed_plan ds d ≡ placed.plan (fuse r) at w
      → EachGives (unwrapped ss) → HasNone (loops_breaches ds (placed.plan (fuse r) at w) at cs (unwrapped ss))
      → (es : List ℕ) × (if_some (member_depths ds (forget_stmts ss)) (depths (plan_of ds (forget_directive d))) ≡ Some es)
  all_some d r at w cs ss is gives h =
      let t = sequence_body r at w cs ss gives h in
      let s = sequence_some r at (range_place at cs) w t.0 t.1.1 in
      let plans : forget_plan (placed.plan (fuse r) at w) ≡ plan_of ds (forget_directive d) = ap forget_plan (sym is) ∙ plan_is ds d in
      (s.0, ap (λ o. if_some o (depths (plan_of ds (forget_directive d)))) t.1.0 ∙ subst (λ q. depths q t.0 ≡ Some s.0) plans s.1)

  -- ---- directives

  -- the depths of what a directive makes of its body
  abbrev pub directive_depths : Directive → Stmts → Option (List ℕ)
  directive_depths d a =
      if_some (found_by (kind_of (forget_directive d)) (single_depths ds (forget_stmts a)) (member_depths ds (forget_stmts a))) (depths (plan_of ds (forget_directive d)))

  directive_some : (m : ℕ) (d : Directive) (a : Stmts) → (loops_asked (plan_of ds (forget_directive d)) m ≡ 1 → EachGives (unwrapped a)) → HasNone (body_breaches ds d a)
      → (es : List ℕ) × (directive_depths d a ≡ Some es)
  directive_some m (directive Fuse cs at) a gives h =
      let one : loops_asked (plan_of ds (forget_directive (directive Fuse cs at))) m ≡ 1 = fuse_asks_one (range_in ds (forget_clauses cs)) (clauses_items ds (length (sizes_in (forget_clauses cs))) (forget_clauses cs) none_applied) m in
      all_some (directive Fuse cs at) (range_in ds (forget_clauses cs)) at.start (placed.clauses_items ds (length (sizes_in (forget_clauses cs))) cs placed.none_applied) cs a refl (gives one) h
  directive_some m (directive Tile cs at) a gives h = one_some (directive Tile cs at) at.start a h
  directive_some m (directive Unroll cs at) a gives h = one_some (directive Unroll cs at) at.start a h
  directive_some m (directive Interchange cs at) a gives h = one_some (directive Interchange cs at) at.start a h
  directive_some m (directive Reverse cs at) a gives h = one_some (directive Reverse cs at) at.start a h
  directive_some m (directive Split cs at) a gives h = one_some (directive Split cs at) at.start a h

  -- ---- statements

  mutual
    pub gives_some : (m : ℕ) (a : Stmt) → HasNone (stmt_breaches ds (suc m) a) → GivesSome a
    gives_some m (for_ h a s) none = λ e. (suc (body_depth (single_depths ds (forget_stmts a))) ∷ [], refl)
    gives_some m (omp d a s) none = λ e.
        let q = neither_breaks (stmts_breaches ds (loops_asked (plan_of ds (forget_directive d)) (suc m)) a) (body_breaches ds d a) none in
        directive_some (suc m) d a (λ one. unwrapped_give 0 a (subst (λ n. HasNone (stmts_breaches ds n a)) one q.0)) q.1
    gives_some m a none = λ e. absurd (cc)

    pub unwrapped_give : (m : ℕ) (a : Stmts) → HasNone (stmts_breaches ds (suc m) a) → EachGives (unwrapped a)
    unwrapped_give m no_stmts h = tt
    unwrapped_give m (more_stmts (block a s) no_stmts) h = unwrapped_give m a h.0
    unwrapped_give m (more_stmts a ss) h = (gives_some m a h.0, listed_give m ss h.1)

    listed_give : (m : ℕ) (a : Stmts) → HasNone (stmts_breaches ds (suc m) a) → EachGives (stmt_list a)
    listed_give m no_stmts h = tt
    listed_give m (more_stmts a ss) h = (gives_some m a h.0, listed_give m ss h.1)

  -- of a directive of which m loops are wanted
  pub body_gives : (m : ℕ) (d : Directive) (a : Stmts) → HasNone (stmts_breaches ds (loops_asked (plan_of ds (forget_directive d)) m) a) → HasNone (body_breaches ds d a)
      → (es : List ℕ) × (directive_depths d a ≡ Some es)
  body_gives m d a none h = directive_some m d a (λ one. unwrapped_give 0 a (subst (λ n. HasNone (stmts_breaches ds n a)) one none)) h

pub loops_give_depths : LoopsGiveDepths
loops_give_depths ds m a loop none = gives_some ds m a none loop
