-- A nest denotes the same without the declarations that nothing reads.
use Rattle.std.proofs.Common.{◌≡◌, refl, ℕ, List, ◌∷◌, Some, Bool, true, false, not}
use Rattle.std.specs.Prelude.{if◌then◌else◌}
use Rattle.c_tree.specs.Bare.{Name, Expr, decl, Stmt, Stmts, no_stmts, more_stmts}
use Rattle.c_tree.specs.declared.tree.Ty.TheVariants.{Long}
use Rattle.c_semantics.specs.Meaning.State.{Var}
use Rattle.c_semantics.specs.Meaning.SimpleStatements.{Env}
use Rattle.c_semantics.specs.Loops.IterationTrees.{Tree}
use Rattle.c_semantics.specs.Loops.Execution.{Body}
use Rattle.loop_normal.specs.Frames.{long, AgreesBut}
use Rattle.loop_normal.specs.Gens.{GenLoop, gen_loop, Inner, Nest, Seq, let_stmt}
use Rattle.loop_normal.specs.Denotes.{Calm, Value, LoopMeans, InnerMeans, LetsApart, lets_of}
use Rattle.loop_normal.proofs.Weaker.{put_let_means}
use Rattle.nest_normal.specs.Spelled.{in_loop, before, before_if_read, all_if_read, without_unread, below_without_unread}
use Rattle.nest_normal.specs.NestDenotes.{IsSteady, SteadyBelow}
use Rattle.nest_normal.proofs.WithoutVariable.{but_dropped, loop_without, steady_without}

-- a Boolean by its two values
pub by_value : (P : Bool → Type 0) → (b : Bool) → (b ≡ true → P true) → (b ≡ false → P false) → P b
by_value P true h k = h refl
by_value P false h k = k refl

module _ (n : ℕ) (env : Env) (bs : List Body) (Out : Name → Type 0) where
  -- ---- the tree

  module _ (calm : Calm bs) where
    abbrev Means : GenLoop → List Var → Tree → Type 0
    Means = LoopMeans n env bs Out

    let_means : (x : Name) (e : Expr) (k : ℕ) (l : GenLoop) (p : List Var) (t : Tree) → Out x → Value env.defines (AgreesBut x p) e k → Means l (long x k ∷ p) t → Means (before_if_read (let_stmt x e) l) p t
    let_means x e k (gen_loop ls c a b inner) p t own v h =
        let l = gen_loop ls c a b inner in
        by_value (λ r. Means (if not r then l else before (let_stmt x e) l) p t) (in_loop x l)
        (λ r. put_let_means n env bs Out calm (Nest l) x e p k t own v h)
        (λ r. loop_without n env bs Out x calm own l (long x k ∷ p) p t r (but_dropped x k p) h)

    all_mean : (ls : Stmts) (c : Name) (a b : Expr) (inner : Inner) (p : List Var) (t : Tree) → Means (gen_loop ls c a b inner) p t → Means (all_if_read ls (gen_loop no_stmts c a b inner)) p t
    all_mean no_stmts c a b inner p t h = h
    all_mean (more_stmts (decl Long x (Some e)) ls) c a b inner p t h =
        let_means x e h.lets.1 (all_if_read ls (gen_loop no_stmts c a b inner)) p t h.lets.0 h.lets.2
        (all_mean ls c a b inner (long x h.lets.1 ∷ p) t (record {
          frame = h.frame;
          lets = h.lets.3;
          first = h.first;
          width = h.width;
          begins = h.begins;
          stops = h.stops;
          foreign = h.foreign;
          child = h.child;
          shape = h.shape;
          below = h.below;
        }))
    all_mean (more_stmts _ ls) c a b inner p t h = absurd h.lets

    mutual
      pub unread_means : (l : GenLoop) (p : List Var) (t : Tree) → Means l p t → Means (without_unread l) p t
      unread_means (gen_loop ls c a b inner) p t h = all_mean ls c a b (below_without_unread inner) p t (record {
        frame = h.frame;
        lets = h.lets;
        first = h.first;
        width = h.width;
        begins = h.begins;
        stops = h.stops;
        foreign = h.foreign;
        child = h.child;
        shape = h.shape;
        below = λ i l. below_means inner _ (h.child i) (h.below i l);
      })

      below_means : (i : Inner) (p : List Var) (t : Tree) → InnerMeans n env bs Out i p t → InnerMeans n env bs Out (below_without_unread i) p t
      below_means (Nest l) p t h = unread_means l p t h
      below_means (Seq ps) p t h = h

  -- ---- steadiness

  let_steady : (x : Name) (e : Expr) (k : ℕ) (l : GenLoop) (p : List Var) → Out x → Value env.defines (AgreesBut x p) e k → IsSteady n env bs Out l (long x k ∷ p) → IsSteady n env bs Out (before_if_read (let_stmt x e) l) p
  let_steady x e k (gen_loop ls c a b inner) p own v h =
      let l = gen_loop ls c a b inner in
      by_value (λ r. IsSteady n env bs Out (if not r then l else before (let_stmt x e) l) p) (in_loop x l)
      (λ r. (h.0, (own, k, v, h.1), h.2, h.3, h.4, h.5, h.6))
      (λ r. steady_without n env bs Out x l (long x k ∷ p) p r (but_dropped x k p) h)

  all_steady : (ls : Stmts) (c : Name) (a b : Expr) (inner : Inner) (p : List Var) → IsSteady n env bs Out (gen_loop ls c a b inner) p → IsSteady n env bs Out (all_if_read ls (gen_loop no_stmts c a b inner)) p
  all_steady no_stmts c a b inner p h = h
  all_steady (more_stmts (decl Long x (Some e)) ls) c a b inner p h =
      let_steady x e h.1.1 (all_if_read ls (gen_loop no_stmts c a b inner)) p h.1.0 h.1.2 (all_steady ls c a b inner (long x h.1.1 ∷ p) (h.0, h.1.3, h.2, h.3, h.4, h.5, h.6))
  all_steady (more_stmts _ ls) c a b inner p h = absurd h.1

  mutual
    pub unread_steady : (l : GenLoop) (p : List Var) → IsSteady n env bs Out l p → IsSteady n env bs Out (without_unread l) p
    unread_steady (gen_loop ls c a b inner) p h = all_steady ls c a b (below_without_unread inner) p (h.0, h.1, h.2, h.3, h.4, h.5, below_steady inner h.0 h.6)

    below_steady : (i : Inner) (p : List Var) → SteadyBelow n env bs Out i p → SteadyBelow n env bs Out (below_without_unread i) p
    below_steady (Nest l) p h = unread_steady l p h
    below_steady (Seq ps) p h = tt

-- ---- names of declarations

-- what holds of no declaration's name of the frame holds of fewer
let_apart : (d : Stmt) (l : GenLoop) (p : List Var) → LetsApart (more_stmts d (lets_of l)) p → LetsApart (lets_of (before_if_read d l)) p
let_apart (decl u x e) (gen_loop ls c a b inner) p h =
    by_value (λ r. LetsApart (lets_of (if not r then gen_loop ls c a b inner else before (decl u x e) (gen_loop ls c a b inner))) p) (in_loop x (gen_loop ls c a b inner)) (λ r. h) (λ r. h.1)
let_apart d (gen_loop ls c a b inner) p h = h

all_apart : (ls : Stmts) (c : Name) (a b : Expr) (inner : Inner) (p : List Var) → LetsApart ls p → LetsApart (lets_of (all_if_read ls (gen_loop no_stmts c a b inner))) p
all_apart no_stmts c a b inner p h = h
all_apart (more_stmts (decl u x e) ls) c a b inner p h = let_apart (decl u x e) (all_if_read ls (gen_loop no_stmts c a b inner)) p (h.0, all_apart ls c a b inner p h.1)
all_apart (more_stmts d ls) c a b inner p h = let_apart d (all_if_read ls (gen_loop no_stmts c a b inner)) p (all_apart ls c a b inner p h)

pub unread_apart : (l : GenLoop) (p : List Var) → LetsApart (lets_of l) p → LetsApart (lets_of (without_unread l)) p
unread_apart (gen_loop ls c a b inner) p h = all_apart ls c a b (below_without_unread inner) p h
