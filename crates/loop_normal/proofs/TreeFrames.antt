-- Trees leave frames as long as they were.
use Rattle.std.proofs.Common.{◌≡◌, refl, ◌∙◌, ℕ, zero, suc, ◌≤◌, List, length, Option, Some, None, ℤ, slice_get}
use Rattle.c_semantics.proofs.Invariant as invariant
use Rattle.c_semantics.specs.Meaning.State.{State, count_turn}
use Rattle.c_semantics.specs.Loops.IterationTrees.{Tree, body, do_all, loop, Trees, no_trees, more_trees}
use Rattle.c_semantics.specs.Meaning.Runs.{End, Next, Break, Continue, Trapped, Cut, Meaning, on_next}
use Rattle.c_semantics.specs.Loops.Execution.{Body, push_copies, run_body, run_tree, run_all, run_turns}
use Rattle.loop_normal.specs.Denotes.{BodyGrows}
use Rattle.c_semantics.proofs.Grows.{LongerFrame, frames_grow, length_keep}

-- ---- trees leave frames as long as they were

on_next_exact : (k : ℕ) (e : End) (u : State) (f : Meaning) → length u.frame ≡ k → length (f u).state.frame ≡ length u.frame → length (on_next e u f).state.frame ≡ k
on_next_exact k Next u f h g = g ∙ h
on_next_exact k Break u f h g = h
on_next_exact k Continue u f h g = h
on_next_exact k (Trapped t) u f h g = h
on_next_exact k Cut u f h g = h

module _ (n : ℕ) (bs : List Body) (grow : (b : ℕ) → BodyGrows (slice_get bs b)) where
  body_exact : (b : ℕ) (zs : List ℤ) (s : State) → length (run_body (slice_get bs b) zs s).state.frame ≡ length s.frame
  body_exact b zs s = by (slice_get bs b) (grow b)
    where
      by : (o : Option Body) → BodyGrows o → length (run_body o zs s).state.frame ≡ length s.frame
      by None h = refl
      by (Some b) h =
          let u = push_copies b.vars zs s in
          let more : length s.frame ≤ length (b.run u).state.frame = frames_grow.then_ s u (b.run u).state (invariant.copies_keep LongerFrame frames_grow b.vars zs s) (h u) in
          length_keep (length s.frame) (b.run u).state.frame more

  mutual
    pub tree_exact : (t : Tree) (s : State) → length (run_tree n bs t s).state.frame ≡ length s.frame
    tree_exact (body b zs) s = body_exact b zs s
    tree_exact (do_all ts) s = all_exact ts s
    tree_exact (loop ts) s = turns_exact ts n s

    pub all_exact : (ts : Trees) (s : State) → length (run_all n bs ts s).state.frame ≡ length s.frame
    all_exact no_trees s = refl
    all_exact (more_trees t ts) s = let r = run_tree n bs t s in on_next_exact _ r.end r.state (run_all n bs ts) (tree_exact t s) (all_exact ts r.state)

    pub turns_exact : (ts : Trees) (k : ℕ) (s : State) → length (run_turns n bs ts k s).state.frame ≡ length s.frame
    turns_exact no_trees k s = refl
    turns_exact (more_trees t ts) zero s = refl
    turns_exact (more_trees t ts) (suc k) s =
        let r = run_tree n bs t (count_turn s) in on_next_exact _ r.end r.state (run_turns n bs ts k) (tree_exact t (count_turn s)) (turns_exact ts k r.state)
