-- A known count within outer loops: the nest stays steady and denotes the same.
use Rattle.std.proofs.Common.{◌≡◌, refl, sym, ap, ◌∙◌, subst, ℕ, zero, suc, ◌+◌, ◌<◌, ◌^◌, List, [], ◌∷◌, ◌++◌, Result, Ok, Err, None, true, ℤ, arith}
use Rattle.c_tree.specs.Bare.{Name, Stmt, Stmts}
use Rattle.c_tree.specs.declared.tree.Ty.{Ty}
use Rattle.c_tree.specs.declared.arithmetic.Trap.{Trap}
use Rattle.c_semantics.specs.Meaning.State.{Var, State}
use Rattle.c_semantics.specs.Meaning.SimpleStatements.{Env}
use Rattle.c_semantics.specs.Loops.IterationTrees.{Tree, put}
use Rattle.c_semantics.specs.Loops.Execution.{Body}
use Rattle.loop_normal.specs.Frames.{AgreesBut}
use Rattle.loop_normal.specs.Gens.{GenLoop, gen_loop, Nest, Seq, Looped}
use Rattle.loop_normal.specs.Templates.{ll}
use Rattle.loop_normal.specs.Denotes.{Calm, Value, PartMeans, LetsApart}
use Rattle.loop_normal.proofs.FreshFrames.{value_num}
use Rattle.nest_counts.specs.HasKinds.{turns}
use Rattle.nest_counts.proofs.Source.{each_put, put_turns}
use Rattle.nest_normal.specs.NestTexts.{declare_in, counted_to, at_loop, known_at, zero_at}
use Rattle.nest_normal.specs.OuterVariables.{Outer, declaration_of, declared, puts}
use Rattle.nest_normal.specs.NestDenotes.{IsSteady, NestMeans}
use Rattle.nest_normal.specs.Spelled.{without_unread}
use Rattle.nest_normal.specs.KnownCounts.{Turns, AllTurns, AllFresh, DeclaresOwn}
use Rattle.nest_normal.proofs.KnownCount.{zero_value, known_means, lets_kept}
use Rattle.nest_normal.proofs.UnreadLets.{unread_steady, unread_apart}
use Rattle.nest_normal.proofs.UnreadWithin.{declared_unread}

-- ---- values before the values of the bodies

turns_put : (d k : ℕ) (z : ℤ) (t : Tree) → Turns d k t → Turns d k (put z t)
turns_put d k z t h = each_put (λ u. turns u ≡ k) z d t (λ u e. put_turns z u ∙ e) h

turns_puts : (d k : ℕ) (zs : List ℤ) (t : Tree) → Turns d k t → Turns d k (puts zs t)
turns_puts d k [] t h = h
turns_puts d k (z ∷ zs) t h = turns_put d k z (puts zs t) (turns_puts d k zs t h)

-- ---- declarations below the innermost loop

declare_counted : (x : Stmt) (d k : ℕ) (l : GenLoop) → declare_in x (at_loop d (counted_to k None) l) ≡ at_loop d (counted_to k None) (declare_in x l)
declare_counted x zero k (gen_loop ls c a b inner) = refl
declare_counted x (suc d) k (gen_loop ls c a b (Nest l)) = ap (λ m. gen_loop ls c a b (Nest m)) (declare_counted x d k l)
declare_counted x (suc d) k (gen_loop ls c a b (Seq ps)) = refl

declared_counted : (os : List Outer) (d k : ℕ) (l : GenLoop) → declared os (at_loop d (counted_to k None) l) ≡ at_loop d (counted_to k None) (declared os l)
declared_counted [] d k l = refl
declared_counted (o ∷ os) d k l = ap (declare_in (declaration_of o)) (declared_counted os d k l) ∙ declare_counted (declaration_of o) d k (declared os l)

declare_zero : (x : Stmt) (d : ℕ) (l : GenLoop) → zero_at d (declare_in x l) ≡ zero_at d l
declare_zero x zero (gen_loop ls c a b inner) = refl
declare_zero x (suc d) (gen_loop ls c a b (Nest l)) = declare_zero x d l
declare_zero x (suc d) (gen_loop ls c a b (Seq ps)) = refl

declared_zero : (os : List Outer) (d : ℕ) (l : GenLoop) → zero_at d (declared os l) ≡ zero_at d l
declared_zero [] d l = refl
declared_zero (o ∷ os) d l = declare_zero (declaration_of o) d (declared os l) ∙ declared_zero os d l

module _ (n : ℕ) (env : Env) (bs : List Body) (Out : Name → Type 0) where
  steady_counted : (d k : ℕ) (l : GenLoop) (p : List Var) → k < 2 ^ 63 → zero_at d l ≡ true → IsSteady n env bs Out l p → IsSteady n env bs Out (at_loop d (counted_to k None) l) p
  steady_counted zero k (gen_loop ls c a b inner) p small e h =
      let F = AgreesBut c h.0 in
      let none : h.2 ≡ 0 = zero_value env.defines F h.0 a h.2 (λ y x o q. q) e h.4 in
      let same : k ≡ h.2 + k = omega (arith, none) in
      (h.0, h.1, h.2, k, h.4, subst (Value env.defines F (ll k)) same (value_num env.defines F k small), h.6)
  steady_counted (suc d) k (gen_loop ls c a b (Nest l)) p small e h = (h.0, h.1, h.2, h.3, h.4, h.5, steady_counted d k l h.0 small e h.6)
  steady_counted (suc d) k (gen_loop ls c a b (Seq ps)) p small e h = h

  -- without the declarations that nothing reads any more
  pub known_steady : (d k : ℕ) (l : GenLoop) (p : List Var) → k < 2 ^ 63 → zero_at d l ≡ true → IsSteady n env bs Out l p → IsSteady n env bs Out (known_at d k None l) p
  known_steady d k l p small e h = unread_steady n env bs Out (at_loop d (counted_to k None) l) p (steady_counted d k l p small e h)

  ended_own : (own : List Name) (d k : ℕ) (l : GenLoop) → DeclaresOwn own l → DeclaresOwn own (at_loop d (counted_to k None) l)
  ended_own own zero k (gen_loop ls c a b inner) h = h
  ended_own own (suc d) k (gen_loop ls c a b (Nest l)) h = (h.0, ended_own own d k l h.1)
  ended_own own (suc d) k (gen_loop ls c a b (Seq ps)) h = h

  pub counted_within : Calm bs → (d k : ℕ) (own : List Name) (xs : List (Name × Ty)) (front : Stmts) (l : GenLoop) (s : State) (r : Result (List Tree) Trap) →
      AllFresh Out own → DeclaresOwn own l → zero_at d l ≡ true → k < 2 ^ 63 → AllTurns d k r → NestMeans n env bs Out own xs front l s r → NestMeans n env bs Out own xs front (known_at d k None l) s r
  counted_within calm d k own xs front l s (Err x) fresh lets e small turns h = h
  counted_within calm d k own xs front l s (Ok []) fresh lets e small turns h = h
  counted_within calm d k own xs front l s (Ok (t ∷ u ∷ ts)) fresh lets e small turns h = h
  counted_within calm d k own xs front l s (Ok (t ∷ [])) fresh lets e small turns h = (
    h.0,
    h.1,
    (λ p none. known_steady d k l (h.0 ++ p) small e (h.2 p none)),
    λ p os zs none is given others.
        let part = h.3 p os zs none is given others in
        let frame = h.0 ++ p in
        let ended = at_loop d (counted_to k None) (declared os l) in
        let same = declared_unread own Out fresh env.defines p os zs (at_loop d (counted_to k None) l) given others (ended_own own d k l lets) ∙ ap without_unread (declared_counted os d k l) in
        let means = known_means n env bs Out calm d k None (declared os l) frame (puts zs t) (declared_zero os d l ∙ e) small (turns_puts d k zs t turns.0) part.0 in
        let apart = subst (λ ls. LetsApart ls frame) (sym (lets_kept n env bs Out calm d k None (declared os l))) part.1 in
        subst (λ m. PartMeans n env bs Out (Looped m) frame (puts zs t)) (sym same) (means, unread_apart ended frame apart),
  )
