-- What the code of a nest shows.
use Rattle.std.proofs.Common.{◌≡◌, refl, ap, ◌∙◌, ℕ, zero, suc, List, [], ◌∷◌, ◌++◌, None, Bool, true, false}
use Rattle.std.specs.Prelude.{if◌then◌else◌}
use Rattle.std.proofs.lemmas.List.{append-nil}
use Rattle.c_tree.specs.Bare.{read, block, Stmts, no_stmts, more_stmts}
use Rattle.c_semantics.specs.Meaning.State.{State}
use Rattle.c_semantics.specs.Meaning.Expressions.{Define}
use Rattle.c_semantics.specs.Structure.Parts.{For, Shape, shapes_of, nested}
use Rattle.c_semantics.specs.Structure.Parts as parts
use Rattle.c_semantics.specs.Structure.Skeleton.{shapes, all_shapes, scope_after}
use Rattle.loop_normal.specs.Gens.{GenLoop, gen_loop, Nest, Seq, Plain, Parts, no_parts, more_parts, join, loop_stmts, parts_stmts, emit}
use Rattle.loop_normal.specs.Templates.{ll, only, LoopNames, SourceLoop, source_var, source_front}
use Rattle.nest_normal.specs.NestTexts.{nest_of, innermost, declares, loop_round, at_loop, counted_to}
use Rattle.nest_normal.specs.OuterVariables.{Outer, declaration_of}
use Rattle.nest_normal.specs.Outlines.{Shows, ShowsNothing, NestShows}
use Rattle.nest_normal.proofs.OuterLists.{variable_of, declared_round, declared_parts, declared_leaf, visible, parts_visible}

join_none : (a : Stmts) → join a no_stmts ≡ a
join_none no_stmts = refl
join_none (more_stmts a as') = ap (more_stmts a) (join_none as')

module _ (ds : List Define) where
  -- declarations show nothing
  visible_shows : (os : List Outer) (as' : Stmts) (xs : List Shape) → Shows ds as' xs → Shows ds (visible os as') xs
  visible_shows [] as' xs h = h
  visible_shows (d ∷ os) as' xs h = by (declares d.name (visible os as')) (visible_shows os as' xs h)
    where
      by : (t : Bool) → Shows ds (visible os as') xs → Shows ds (if t then visible os as' else more_stmts (declaration_of d) (visible os as')) xs
      by true k = k
      by false k = λ s. k (scope_after (declaration_of d) s)

  module _ (m : LoopNames) (h : SourceLoop) where
    abbrev leaf_parts : Stmts → Parts
    leaf_parts as' = more_parts (Plain (more_stmts (source_var m h) (only (block as')))) no_parts

    pub innermost_shows : (as' : Stmts) (xs : List Shape) → Shows ds as' xs → NestShows ds (innermost m h as') (nested 1 xs)
    innermost_shows as' xs e os s =
        let list : Shows ds (parts_stmts (leaf_parts as')) xs = λ u. ap (λ z. z ++ []) (e (scope_after (source_var m h) u)) ∙ append-nil xs in
        let inside : Shows ds (parts_stmts (declared_parts os (leaf_parts as'))) xs = λ u. ap (all_shapes ds u) (parts_visible os (leaf_parts as')) ∙ visible_shows os (parts_stmts (leaf_parts as')) xs list u in
        ap (λ l. all_shapes ds s (loop_stmts l)) (declared_leaf os no_stmts m.counter (ll 0) (read m.count) (leaf_parts as')) ∙ ap (λ z. parts.round For (shapes_of z) ∷ []) (inside _)

    pub round_shows : (l : GenLoop) (xs : List Shape) → NestShows ds l xs → NestShows ds (loop_round m h l) (nested 1 xs)
    round_shows l xs e os s = ap (λ l. all_shapes ds s (loop_stmts l)) (declared_round os m h l) ∙ ap (λ z. parts.round For (shapes_of z) ∷ []) (e (os ++ variable_of m h ∷ []) _)

    pub front_shows : (front : Stmts) → ShowsNothing ds front → ShowsNothing ds (source_front m h front)
    front_shows front e rest xs k s = e rest xs k _

  pub nest_shows : (front : Stmts) (l : GenLoop) (xs : List Shape) → ShowsNothing ds front → NestShows ds l xs → Shows ds (emit (nest_of front l)) xs
  nest_shows front l xs f e = f (join (loop_stmts l) no_stmts) xs (λ s. ap (all_shapes ds s) (join_none (loop_stmts l)) ∙ e [] s)

  -- ---- a known count

  after_lets : (ls a b : Stmts) → ((s : State) → all_shapes ds s a ≡ all_shapes ds s b) → (s : State) → all_shapes ds s (join ls a) ≡ all_shapes ds s (join ls b)
  after_lets no_stmts a b e s = e s
  after_lets (more_stmts d ls) a b e s = ap (λ z. shapes ds s d ++ z) (after_lets ls a b e (scope_after d s))

  pub counts_shown : (d k : ℕ) (l : GenLoop) (s : State) → all_shapes ds s (loop_stmts (at_loop d (counted_to k None) l)) ≡ all_shapes ds s (loop_stmts l)
  counts_shown zero k (gen_loop ls c a b inner) s = after_lets ls _ _ (λ u. refl) s
  counts_shown (suc d) k (gen_loop ls c a b (Seq ps)) s = refl
  counts_shown (suc d) k (gen_loop ls c a b (Nest l)) s = after_lets ls _ _ (λ u. ap (λ z. parts.round For (shapes_of z) ∷ []) (counts_shown d k l _)) s
