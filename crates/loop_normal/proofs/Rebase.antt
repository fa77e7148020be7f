-- A loop that is brought to begin at 0, and a loop of a fixed count, denote what the loop denoted.
use Rattle.std.proofs.Common.{◌≡◌, refl, subst, ℕ, ◌+◌, ◌-◌, ◌<◌, ◌^◌, List, [], ◌∷◌, arith}
use Rattle.c_tree.specs.Bare.{Name, Expr, read, bin, Stmts, more_stmts}
use Rattle.c_tree.specs.declared.tree.BinOp.TheVariants.{Add, Sub}
use Rattle.c_semantics.specs.Meaning.State.{Var}
use Rattle.c_semantics.specs.Meaning.SimpleStatements.{Env}
use Rattle.c_semantics.specs.Loops.IterationTrees.{Tree}
use Rattle.c_semantics.specs.Loops.Execution.{Body}
use Rattle.c_semantics.specs.Laws.Apart.{Differ}
use Rattle.loop_normal.specs.Frames.{long, Agrees, AgreesBut}
use Rattle.loop_normal.specs.Gens.{gen_loop, Inner, let_stmt}
use Rattle.loop_normal.specs.Templates.{ll, only, rebased, fixed}
use Rattle.loop_normal.specs.Denotes.{Calm, Value, LoopMeans}
use Rattle.loop_normal.proofs.FreshFrames.{agrees_same, agrees_then, agrees_push, agrees_new, agrees_but_then, value_in, value_num, value_sub, value_add, value_read, found_but, found_top}
use Rattle.loop_normal.specs.FreshNames.{NewAll}
use Rattle.loop_normal.proofs.Weaker.{inner_more, put_let_means}
use Rattle.loop_normal.proofs.Lets.{agrees_where_new, fresh_push, fresh_after, lets_append}

module _ (n : ℕ) (env : Env) (bs : List Body) (Out : Name → Type 0) (calm : Calm bs) where
  pub fixed_means : (k : ℕ) (r : Name) (ls : Stmts) (c : Name) (a b : Expr) (inner : Inner) (p : List Var) (t : Tree) → Out r → Differ r c → NewAll (r ∷ []) ls p → k < 2 ^ 63 → (h : LoopMeans n env bs Out (gen_loop ls c a b inner) p t) → h.width ≡ k →
      LoopMeans n env bs Out (fixed k r (gen_loop ls c a b inner)) p t
  fixed_means k r ls c a b inner p t out other new small h e =
      let ds = env.defines in
      let q = h.frame in
      let f = fresh_after n env bs Out (r ∷ []) ls p q h.lets new in
      record {
        frame = q;
        lets = h.lets;
        first = 0;
        width = h.width;
        begins = value_num ds (AgreesBut r q) 0 (omega arith);
        stops = subst (Value ds (AgreesBut r q) (ll k)) (omega (arith, e)) (value_num ds (AgreesBut r q) k small);
        foreign = out;
        child = h.child;
        shape = h.shape;
        below = λ i l.
            let v = long r (0 + i) in
            let q1 = v ∷ q in
            let F = AgreesBut c q1 in
            let grown : Agrees q q1 = agrees_new v q q f.0 (agrees_same q) in
            let same : h.first + (0 + i) ≡ h.first + i = omega arith in
            let begin = value_in ds (AgreesBut c q) F a h.first (λ g. agrees_but_then c q q1 g grown) h.begins in
            let counter = value_read ds F r (0 + i) (omega (arith, l, h.stops.0)) (λ g m. found_but c r _ q1 g m other (found_top r (0 + i) q)) in
            let sum = value_add ds F a (read r) h.first (0 + i) begin counter (omega (arith, l, h.stops.0)) in
            put_let_means n env bs Out calm inner c (bin Add a (read r)) q1 (h.first + i) (h.child i) h.foreign (subst (Value ds F (bin Add a (read r))) same sum)
            (inner_more n env bs Out inner (long c (h.first + i) ∷ q) (long c (h.first + i) ∷ q1) (h.child i) (agrees_push (long c (h.first + i)) q q1 grown) (h.below i l));
      }

  pub rebase_means : (x y r : Name) (ls : Stmts) (c : Name) (a b : Expr) (inner : Inner) (p : List Var) (t : Tree) → Out x × Out y × Out r → Differ x c × Differ r c × Differ x r × Differ y r × Differ x y → NewAll (x ∷ y ∷ r ∷ []) ls p → LoopMeans n env bs Out (gen_loop ls c a b inner) p t →
      LoopMeans n env bs Out (rebased x y r (gen_loop ls c a b inner)) p t
  rebase_means x y r ls c a b inner p t out other new h =
      let ds = env.defines in
      let q = h.frame in
      let w = h.width in
      let s = h.first in
      let f = fresh_after n env bs Out (x ∷ y ∷ r ∷ []) ls p q h.lets new in
      let vx = long x s in
      let q1 = vx ∷ q in
      let a1 : Agrees q q1 = agrees_new vx q q f.0 (agrees_same q) in
      let f1 = fresh_push x s (y ∷ r ∷ []) q f.1 f.2 in
      let less : s + w - s ≡ w = omega arith in
      let vy = long y w in
      let q2 = vy ∷ q1 in
      let a2 : Agrees q1 q2 = agrees_new vy q1 q1 f1.0 (agrees_same q1) in
      let f2 = fresh_push y w (r ∷ []) q1 f1.1 f1.2 in
      let begin = value_in ds (AgreesBut c q) (AgreesBut x q) a s (λ g m y' d u k. agrees_where_new x q g f.0 m y' d k) h.begins in
      let F1 = AgreesBut y q1 in
      let stop_in = value_in ds (AgreesBut c q) F1 b (s + w) (λ g m y' d u k. agrees_where_new y q1 g f1.0 m y' d (a1 y' d k)) h.stops in
      let read_x = value_read ds F1 x s h.begins.0 (λ g m. found_but y x _ q1 g m other.4 (found_top x s q)) in
      let size = subst (Value ds F1 (bin Sub b (read x))) less (value_sub ds F1 b (read x) (s + w) s stop_in read_x (omega arith)) in
      let plus : w ≡ 0 + w = omega arith in
      let F2 = AgreesBut r q2 in
      record {
        frame = q2;
        lets = lets_append n env bs Out ls (more_stmts (let_stmt x a) (only (let_stmt y (bin Sub b (read x))))) p q q2 h.lets (out.0, s, begin, (out.1, w, size, refl));
        first = 0;
        width = w;
        begins = value_num ds F2 0 (omega arith);
        stops = subst (Value ds F2 (read y)) plus (value_read ds F2 y w size.0 (λ g m. found_but r y _ q2 g m other.3 (found_top y w q1)));
        foreign = out.2;
        child = h.child;
        shape = h.shape;
        below = λ i l.
            let vr = long r (0 + i) in
            let q3 = vr ∷ q2 in
            let F3 = AgreesBut c q3 in
            let a3 : Agrees q2 q3 = agrees_new vr q2 q2 f2.0 (agrees_same q2) in
            let grown : Agrees q q3 = agrees_then q q1 q3 a1 (agrees_then q1 q2 q3 a2 a3) in
            let same : s + (0 + i) ≡ s + i = omega arith in
            let at_x = agrees_then q1 q2 q3 a2 a3 x _ (found_top x s q) in
            let left = value_read ds F3 x s h.begins.0 (λ g m. found_but c x _ q3 g m other.0 at_x) in
            let right = value_read ds F3 r (0 + i) (omega (arith, l, h.stops.0)) (λ g m. found_but c r _ q3 g m other.1 (found_top r (0 + i) q2)) in
            let sum = value_add ds F3 (read x) (read r) s (0 + i) left right (omega (arith, l, h.stops.0)) in
            put_let_means n env bs Out calm inner c (bin Add (read x) (read r)) q3 (s + i) (h.child i) h.foreign (subst (Value ds F3 (bin Add (read x) (read r))) same sum)
            (inner_more n env bs Out inner (long c (s + i) ∷ q) (long c (s + i) ∷ q3) (h.child i) (agrees_push (long c (s + i)) q q3 grown) (h.below i l));
      }
