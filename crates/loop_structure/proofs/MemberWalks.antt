-- What a loop over the members of a sequence has left.
use Rattle.std.proofs.Common.{◌≡◌, ◌∙◌, sym, ap, refl, ◌<◌, ◌≤◌, ◌+◌, ℕ, suc, List, [], ◌∷◌, ◌++◌, append_assoc, length, drop, slice_index_or, Option, Some, None, Bool, true, false, nat_eq, length-drop, arith, rules}
use Rattle.std.proofs.lemmas.Bool.Decides.{nat_tests}
use Rattle.c_tree.specs.Bare as b
use Rattle.c_tree.specs.BareOf.{bare_stmt, bare_stmts}
use Rattle.c_tree.specs.declared.tree.Stmt.{Stmt}
use Rattle.c_tree.proofs.Walks.{rest_more, rest_none}
use Rattle.c_semantics.specs.Meaning.Expressions.{Define}
use Rattle.c_semantics.specs.Loops.StatementDepths.{joined, member_depths}
use Rattle.canonical_nests.proofs.HeldTrees.{good_more}
use Rattle.loop_structure.specs.Members.{standing_depths, standing_at}

-- ---- joined

joined_none : (o : Option (List ℕ)) → joined o (Some []) ≡ o
joined_none None = refl
joined_none (Some ks) = ap Some (append_nil ks)
  where
    append_nil : (ks : List ℕ) → ks ++ [] ≡ ks
    append_nil ks = search rules

joined_joins : (ks ls : List ℕ) (o : Option (List ℕ)) → joined (Some (ks ++ ls)) o ≡ joined (Some ks) (joined (Some ls) o)
joined_joins ks ls None = refl
joined_joins ks ls (Some ms) = ap Some (append_assoc ks ls ms)

-- ---- one member

abbrev is_end : b.Stmts → Bool
is_end b.no_stmts = true
is_end (b.more_stmts a as') = false

member_step : (ds : List Define) (s : b.Stmt) (as' : b.Stmts) → member_depths ds (b.more_stmts s as') ≡ joined (standing_depths ds s (standing_at (is_end as'))) (member_depths ds as')
member_step ds (b.block a) b.no_stmts = sym (joined_none (member_depths ds a))
member_step ds (b.block a) (b.more_stmts c as') = refl
member_step ds (b.for_ h a) as' = refl
member_step ds (b.omp d a) as' = refl
member_step ds (b.decl t x e) as' = refl
member_step ds (b.set t o e) as' = refl
member_step ds (b.step t up) as' = refl
member_step ds (b.print e) as' = refl
member_step ds (b.input t) as' = refl
member_step ds (b.if_ e a) as' = refl
member_step ds (b.if_else e a c) as' = refl
member_step ds (b.while_ e a) as' = refl
member_step ds (b.do_ a e) as' = refl
member_step ds b.break_ as' = refl
member_step ds b.continue_ as' = refl
member_step ds b.empty as' = refl
member_step ds (b.call x es) as' = refl

not_zero : (n : ℕ) → false ≡ nat_eq (suc n) 0
not_zero n = grind (arith, nat_tests)

end_here : (xs : List Stmt) → is_end (bare_stmts xs) ≡ nat_eq (length xs) 0
end_here [] = refl
end_here (x ∷ xs) = not_zero (length xs)

same_test : (i n m : ℕ) → i < n → m + (i + 1) ≡ n → nat_eq m 0 ≡ nat_eq (i + 1) n
same_test i n m lt is = grind (arith, nat_tests)

pub end_is : (xs : List Stmt) (i : ℕ) → i < length xs → is_end (bare_stmts (drop (i + 1) xs)) ≡ nat_eq (i + 1) (length xs)
end_is xs i within = end_here (drop (i + 1) xs) ∙ same_test i (length xs) (length (drop (i + 1) xs)) within (omega (arith, length-drop (i + 1) xs))

module _ (ds : List Define) (xs : List Stmt) (i : ℕ) (x : Stmt) (within : i < length xs) (is : x ≡ slice_index_or xs i x) where
  pub members_more : member_depths ds (bare_stmts (drop i xs)) ≡ joined (standing_depths ds (bare_stmt x) (standing_at (nat_eq (i + 1) (length xs)))) (member_depths ds (bare_stmts (drop (i + 1) xs)))
  members_more =
      rest_more (λ ys. member_depths ds (bare_stmts ys)) xs i x within is
      ∙ (member_step ds (bare_stmt x) (bare_stmts (drop (i + 1) xs))
      ∙ ap (λ e. joined (standing_depths ds (bare_stmt x) (standing_at e)) (member_depths ds (bare_stmts (drop (i + 1) xs)))) (end_is xs i within))

  pub member_none : (all : List ℕ) → standing_depths ds (bare_stmt x) (standing_at (nat_eq (i + 1) (length xs))) ≡ None
      → joined (Some all) (member_depths ds (bare_stmts (drop i xs))) ≡ None
  member_none all none = ap (joined (Some all)) (members_more ∙ ap (λ o. joined o (member_depths ds (bare_stmts (drop (i + 1) xs)))) none)

  pub member_some : (all own : List ℕ) → standing_depths ds (bare_stmt x) (standing_at (nat_eq (i + 1) (length xs))) ≡ Some own
      → joined (Some all) (member_depths ds (bare_stmts (drop i xs))) ≡ joined (Some (all ++ own)) (member_depths ds (bare_stmts (drop (i + 1) xs)))
  member_some all own some =
      ap (joined (Some all)) (members_more ∙ ap (λ o. joined o (member_depths ds (bare_stmts (drop (i + 1) xs)))) some)
      ∙ sym (joined_joins all own (member_depths ds (bare_stmts (drop (i + 1) xs))))

pub members_start : (o : Option (List ℕ)) → joined (Some []) o ≡ o
members_start None = refl
members_start (Some ks) = refl

pub members_end : (ds : List Define) (xs : List Stmt) (i : ℕ) (all : List ℕ) → length xs ≤ i → joined (Some all) (member_depths ds (bare_stmts (drop i xs))) ≡ Some all
members_end ds xs i all past = ap (joined (Some all)) (rest_none (λ ys. member_depths ds (bare_stmts ys)) xs i past) ∙ joined_none (Some all)

pub ruleset member_walks = (member_none, member_some, members_start, members_end, good_more)
