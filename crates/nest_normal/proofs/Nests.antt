-- The innermost loop of a nest, a loop round a nest, and a whole nest.
use Rattle.std.proofs.Common.{◌≡◌, refl, sym, ap, ◌∙◌, subst, ℕ, List, [], ◌∷◌, ◌++◌, Option, Some, Result, Ok, Err, slice_get}
use Rattle.c_tree.specs.Bare.{Name, Expr, read, block, Stmt, Stmts, no_stmts, more_stmts}
use Rattle.c_tree.specs.declared.tree.Ty.{Ty}
use Rattle.c_tree.specs.declared.arithmetic.Trap.{Trap}
use Rattle.c_tree.specs.Arithmetic.{and_then}
use Rattle.c_semantics.specs.Meaning.State.{Var, State}
use Rattle.c_semantics.specs.Meaning.SimpleStatements.{Env}
use Rattle.c_semantics.specs.Meaning.Statements.{exec_all}
use Rattle.c_semantics.specs.Loops.CanonicalForm.{Canonical}
use Rattle.c_semantics.specs.Loops.TripCount.{loop_type, entry}
use Rattle.c_semantics.specs.Loops.IterationTrees.{Tree, body}
use Rattle.c_semantics.specs.Loops.Forest.{loop_over}
use Rattle.c_semantics.specs.Loops.Execution.{Body}
use Rattle.loop_normal.specs.Gens.{GenLoop, gen_loop, Inner, Nest, Seq, Parts, no_parts, more_parts, Plain, Looped, parts_stmts}
use Rattle.loop_normal.specs.Templates.{ll, only, LoopNames, source_var, source_front}
use Rattle.loop_normal.specs.Denotes.{LoopMeans, InnerMeans, PartMeans, Turns, GenMeans, Undeclared}
use Rattle.loop_normal.specs.FreshNames.{Among, NamesNone, Apart}
use Rattle.loop_normal.specs.Laws.{source_loop}
use Rattle.loop_normal.proofs.FreshFrames.{not_none}
use Rattle.nest_normal.specs.NestTexts.{nest_of, innermost, declare_in, declare_below, loop_round}
use Rattle.nest_normal.specs.OuterVariables.{Outer, declared, puts}
use Rattle.nest_normal.specs.NestDenotes.{HasNone, IsSteady, SteadyBelow, Within, NestMeans}
use Rattle.nest_normal.specs.Laws.{IsSource, with_names}
use Rattle.nest_normal.proofs.OuterLists.{declared_round, declared_parts, declared_leaf, visible, visible_more, parts_visible, puts_body}
use Rattle.nest_normal.proofs.Innermost.{body_turns}
use Rattle.nest_normal.proofs.RoundNests.{var_declared, loop_code, loop_within}

module _ (n : ℕ) (env : Env) (bs : List Body) (Out : Name → Type 0) where
  -- what is said for all values of the outer variables, weakened
  within_map : (own : List Name) (xs : List (Name × Ty)) (front : Stmts) (S S' : List Var → Type 0) (M M' : List Outer → List Var → Tree → Type 0) (s : State) (r : Result (List Tree) Trap) →
      ((p : List Var) → S p → S' p) → ((os : List Outer) (p : List Var) (t : Tree) → M os p t → M' os p t) → Within n env bs Out own xs front S M s r → Within n env bs Out own xs front S' M' s r
  within_map own xs front S S' M M' s (Err x) g f h = h
  within_map own xs front S S' M M' s (Ok []) g f h = absurd h
  within_map own xs front S S' M M' s (Ok (t ∷ u ∷ ts)) g f h = absurd h
  within_map own xs front S S' M M' s (Ok (t ∷ [])) g f h = (h.0, h.1, (λ p a. g (h.0 ++ p) (h.2 p a)), λ p os zs a b c d. f os (h.0 ++ p) (puts zs t) (h.3 p os zs a b c d))

  -- what is below a loop, weakened
  loop_inner : (ls : Stmts) (c : Name) (a b : Expr) (i j : Inner) (p : List Var) (t : Tree) → ((q : List Var) (u : Tree) → InnerMeans n env bs Out i q u → InnerMeans n env bs Out j q u) →
      LoopMeans n env bs Out (gen_loop ls c a b i) p t → LoopMeans n env bs Out (gen_loop ls c a b j) p t
  loop_inner ls c a b i j p t f h =
      record {
        frame = h.frame;
        lets = h.lets;
        first = h.first;
        width = h.width;
        begins = h.begins;
        stops = h.stops;
        foreign = h.foreign;
        child = h.child;
        shape = h.shape;
        below = λ k l. f _ (h.child k) (h.below k l);
      }

  mutual
    -- a declaration below the innermost loop changes no bound
    steady_declared : (d : Stmt) (l : GenLoop) (p : List Var) → IsSteady n env bs Out l p → IsSteady n env bs Out (declare_in d l) p
    steady_declared d (gen_loop ls c a b inner) p h = (h.0, h.1, h.2, h.3, h.4, h.5, steady_below d inner h.0 h.6)

    steady_below : (d : Stmt) (i : Inner) (p : List Var) → SteadyBelow n env bs Out i p → SteadyBelow n env bs Out (declare_below d i) p
    steady_below d (Nest l) p h = steady_declared d l p h
    steady_below d (Seq ps) p h = tt

  pub nest_means : (own : List Name) (front : Stmts) (l : GenLoop) (p : List Var) (s : State) (r : Result (List Tree) Trap) → HasNone own p → NestMeans n env bs Out own [] front l s r → GenMeans n env bs Out (nest_of front l) p s r
  nest_means own front l p s (Err x) none h = λ f a o. h f o
  nest_means own front l p s (Ok []) none h = absurd h
  nest_means own front l p s (Ok (t ∷ u ∷ ts)) none h = absurd h
  nest_means own front l p s (Ok (t ∷ [])) none h = (h.0, (h.1.0, (λ f a o. h.1.1 f (λ x c e. absurd (not_none c e)) o), h.1.2), (h.3 p [] [] none refl tt tt, tt))

module _ (n : ℕ) (env : Env) (names : List Name) (bs : List Body) (c : Canonical) (T : Ty) (m : LoopNames) (source : IsSource names m c) (xs : List (Name × Ty)) (s : State) (typed_so : loop_type env.defines s c ≡ T) where
  abbrev Out : Name → Type 0
  Out = Among names

  abbrev var_ : Outer
  var_ = var_declared n env names bs c T m source

  -- ---- round a nest
  module _ (own : List Name) (front : Stmts) (l : GenLoop) (new : Apart m.begin own × Apart m.end own × Apart m.count own × Apart m.counter own) (unseen : Undeclared m.count front × Undeclared m.counter front) where
    abbrev nest_code : List Outer → Inner
    nest_code os = Nest (declared os l)

    pub round_means : (r : Result (List Tree) Trap) → NestMeans n env bs Out own (xs ++ (c.var, T) ∷ []) front l s r →
        NestMeans n env bs Out (with_names m own) xs (source_front m (source_loop c T) front) (loop_round m (source_loop c T) l) s (and_then (entry env.defines s c) (λ e. and_then r (λ ts. Ok (loop_over e ts))))
    round_means r h =
        let d = source_var m (source_loop c T) in
        let bare = Nest (declare_in d l) in
        let inner = within_map n env bs Out own (xs ++ (c.var, T) ∷ []) front (IsSteady n env bs Out l) (SteadyBelow n env bs Out bare) (λ os p t. PartMeans n env bs Out (Looped (declared os l)) p t) (λ os p t. InnerMeans n env bs Out (nest_code os) p t) s r (λ p k. steady_declared n env bs Out d l p k) (λ os p t k. k.0) h in
        within_map n env bs Out (with_names m own) xs (source_front m (source_loop c T) front) (IsSteady n env bs Out (loop_round m (source_loop c T) l)) (IsSteady n env bs Out (loop_round m (source_loop c T) l))
        (λ os p t. LoopMeans n env bs Out (loop_code n env names bs c T m source own xs front bare nest_code new unseen s os) p t) (λ os p t. PartMeans n env bs Out (Looped (declared os (loop_round m (source_loop c T) l))) p t) s _ (λ p k. k)
        (λ os p t k. subst (λ g. PartMeans n env bs Out (Looped g) p t) (sym (declared_round os m (source_loop c T) l)) (k, tt))
        (loop_within n env names bs c T m source own xs front bare nest_code new unseen s r inner typed_so)

  -- ---- round a body
  module _ (as' : Stmts) (apart : NamesNone (Among names) as') (b : ℕ) (at : slice_get bs b ≡ Some (record { vars = xs ++ (c.var, T) ∷ []; run = exec_all n env as' })) where
    abbrev block_parts : Parts
    block_parts = more_parts (Plain (only (block as'))) no_parts

    abbrev leaf_parts : Parts
    leaf_parts = more_parts (Plain (more_stmts (source_var m (source_loop c T)) (only (block as')))) no_parts

    abbrev body_code : List Outer → Inner
    body_code os = Seq (declared_parts os block_parts)

    same_stmts : (os : List Outer) → parts_stmts (declared_parts (os ++ var_ ∷ []) block_parts) ≡ parts_stmts (declared_parts os leaf_parts)
    same_stmts os = parts_visible (os ++ var_ ∷ []) block_parts ∙ sym (visible_more os var_ (only (block as')) refl) ∙ sym (parts_visible os leaf_parts)

    inner_body : Within n env bs Out [] (xs ++ (c.var, T) ∷ []) no_stmts (SteadyBelow n env bs Out (Seq leaf_parts)) (λ os p t. InnerMeans n env bs Out (body_code os) p t) s (Ok (body b [] ∷ []))
    inner_body = (
      [],
      (tt, (λ f a o. refl), λ x u. refl),
      (λ p none. tt),
      λ p os zs none is given apart_.
          let turns = body_turns n env Out as' apart m.begin source.fresh.0 bs p b os zs (at ∙ ap {B = Option Body} (λ vs. Some (record { vars = vs; run = exec_all n env as' })) (sym is)) given in
          subst (λ l. Turns n env bs Out p l (puts zs (body b []))) (sym (parts_visible os block_parts)) (subst (Turns n env bs Out p (visible os (only (block as')))) (sym (puts_body b zs)) turns),
    )

    pub innermost_means : NestMeans n env bs Out (with_names m []) xs (source_front m (source_loop c T) no_stmts) (innermost m (source_loop c T) as') s (and_then (entry env.defines s c) (λ r. Ok (loop_over r (body b [] ∷ []))))
    innermost_means =
        let none : Apart m.begin [] × Apart m.end [] × Apart m.count [] × Apart m.counter [] = (tt, tt, tt, tt) in
        let unseen : Undeclared m.count no_stmts × Undeclared m.counter no_stmts = (tt, tt) in
        within_map n env bs Out (with_names m []) xs (source_front m (source_loop c T) no_stmts) (IsSteady n env bs Out (innermost m (source_loop c T) as')) (IsSteady n env bs Out (innermost m (source_loop c T) as'))
        (λ os p t. LoopMeans n env bs Out (loop_code n env names bs c T m source [] xs no_stmts (Seq leaf_parts) body_code none unseen s os) p t) (λ os p t. PartMeans n env bs Out (Looped (declared os (innermost m (source_loop c T) as'))) p t) s _ (λ p k. k)
        (λ os p t k. subst (λ g. PartMeans n env bs Out (Looped g) p t) (sym (declared_leaf os no_stmts m.counter (ll 0) (read m.count) leaf_parts))
        (loop_inner n env bs Out no_stmts m.counter (ll 0) (read m.count) (body_code (os ++ var_ ∷ [])) (Seq (declared_parts os leaf_parts)) p t (λ q u h. subst (λ l. Turns n env bs Out q l u) (same_stmts os) h) k, tt))
        (loop_within n env names bs c T m source [] xs no_stmts (Seq leaf_parts) body_code none unseen s (Ok (body b [] ∷ [])) inner_body typed_so)
