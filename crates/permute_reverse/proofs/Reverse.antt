-- A reversed loop denotes the loop of the reversed list.
use Rattle.std.proofs.Common.{◌≡◌, sym, ap, ◌∙◌, subst, ℕ, ◌+◌, ◌-◌, ◌<◌, List, ◌∷◌, reverse, None, arith}
use Rattle.c_tree.specs.Bare.{Name, Expr, read, bin, Stmts}
use Rattle.c_tree.specs.declared.tree.BinOp.TheVariants.{Sub}
use Rattle.c_semantics.specs.Meaning.State.{Var, find}
use Rattle.c_semantics.specs.Meaning.SimpleStatements.{Env}
use Rattle.c_semantics.specs.Loops.IterationTrees.{Tree, members, loop_of, children}
use Rattle.c_semantics.specs.Loops.Execution.{Body}
use Rattle.c_semantics.specs.Laws.Apart.{Differ}
use Rattle.loop_normal.specs.Frames.{long, Agrees, AgreesBut}
use Rattle.loop_normal.specs.Gens.{gen_loop, Inner}
use Rattle.loop_normal.specs.Templates.{ll}
use Rattle.loop_normal.specs.Denotes.{Calm, Value, LoopMeans, InnerMeans, Undeclared}
use Rattle.loop_normal.proofs.FreshFrames.{agrees_same, agrees_push, agrees_new, agrees_but, agrees_but_then, value_in, value_num, value_sub, value_read, found_but, found_top}
use Rattle.loop_normal.proofs.Members.{to_of, reverse_members}
use Rattle.loop_normal.proofs.Weaker.{inner_more, put_let_means}
use Rattle.loop_normal.proofs.Lets.{value_one, agrees_where_new, lets_new}
use Rattle.permute_reverse.specs.Reversed.{reversed}

module _ (n : ℕ) (env : Env) (bs : List Body) (Out : Name → Type 0) where
  pub reverse_means : Calm bs → (r : Name) → Out r → (ls : Stmts) (c : Name) (b : Expr) (inner : Inner) (p : List Var) (t : Tree) → Undeclared r ls → find r p ≡ None → Differ r c →
      LoopMeans n env bs Out (gen_loop ls c (ll 0) b inner) p t → LoopMeans n env bs Out (reversed r (gen_loop ls c (ll 0) b inner)) p (loop_of (reverse (children t)))
  reverse_means calm r fresh ls c b inner p t new apart other h =
      let ds = env.defines in
      let q = h.frame in
      let w = h.width in
      let none = lets_new n env bs Out r ls p q new h.lets apart in
      let origin : 0 ≡ h.first = value_one ds (AgreesBut c q) q (ll 0) 0 h.first (agrees_but c q q (agrees_same q)) (value_num ds (AgreesBut c q) 0 (omega arith)) h.begins in
      let stop = subst (λ k. Value ds (AgreesBut c q) b (k + w)) (sym origin) h.stops in
      let below = λ (i : ℕ) (l : i < w).
      let k = w - 1 - i in
      let v = long r (0 + i) in
      let f = v ∷ q in
      let F = AgreesBut c f in
      let grown : Agrees q f = agrees_new v q q none (agrees_same q) in
      let b' = value_in ds (AgreesBut c q) F b (0 + w) (λ g. agrees_but_then c q f g grown) stop in
      let e : 0 + w - 1 - (0 + i) ≡ k = omega arith in
      let one = value_sub ds F b (ll 1) (0 + w) 1 b' (value_num ds F 1 (omega arith)) (omega (arith, l)) in
      let counter = value_read ds F r (0 + i) (omega (arith, l, stop.0)) (λ g m. found_but c r _ f g m other (found_top r (0 + i) q)) in
      let value = value_sub ds F (bin Sub b (ll 1)) (read r) (0 + w - 1) (0 + i) one counter (omega (arith, l)) in
      let at : h.first + k ≡ k = omega (arith, origin) in
      let old = subst (λ j. InnerMeans n env bs Out inner (long c j ∷ q) (h.child k)) at (h.below k (omega (arith, l))) in
      put_let_means n env bs Out calm inner c (bin Sub (bin Sub b (ll 1)) (read r)) f k (h.child k) h.foreign (subst (Value ds F (bin Sub (bin Sub b (ll 1)) (read r))) e value)
      (inner_more n env bs Out inner (long c k ∷ q) (long c k ∷ f) (h.child k) (agrees_push (long c k) q f grown) old) in
      record {
        frame = q;
        lets = h.lets;
        first = 0;
        width = w;
        begins = value_num ds (AgreesBut r q) 0 (omega arith);
        stops = value_in ds (AgreesBut c q) (AgreesBut r q) b (0 + w) (λ g m y d u k. agrees_where_new r q g none m y d k) stop;
        foreign = fresh;
        child = λ i. h.child (w - 1 - i);
        shape = ap (λ u. loop_of (reverse (children u))) h.shape ∙ ap (λ l. loop_of (reverse l)) (to_of (members w h.child)) ∙ ap loop_of (reverse_members w h.child);
        below = below;
      }
