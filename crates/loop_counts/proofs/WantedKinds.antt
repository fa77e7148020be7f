-- The parts of a statement by what it is, and what a loop over members has left.
use Rattle.std.specs.Prelude.{◌==◌}
use Rattle.std.proofs.Common.{◌≡◌, ◌∙◌, refl, sym, ap, subst, Bool, false, ◌<◌, ◌≤◌, ◌+◌, ◌-◌, ◌≢◌, ℕ, zero, suc, List, [], ◌∷◌, ◌++◌, length, drop, slice_index_or, arith, length-drop}
use Rattle.std.proofs.lemmas.List.{append-nil}
use Rattle.c_tree.specs.Bare.{Stmt, decl, set, step, print, input, if_, if_else, while_, do_, for_, block, break_, continue_, empty, omp, call, Stmts, no_stmts, more_stmts, Head, head, no_stmt, a_stmt}
use Rattle.c_tree.specs.BareOf.{bare_stmt, bare_stmts}
use Rattle.c_tree.specs.WellFormed.{WellFormedStmt, WellFormedStmts}
use Rattle.c_tree.specs.declared.tree.Stmt as code
use Rattle.std.proofs.lemmas.Bool.Decides.{nat_tests}
use Rattle.c_tree.proofs.Walks.{rest_more, rest_none}
use Rattle.c_semantics.specs.Meaning.State.{State, Var, with_frame, keep}
use Rattle.c_semantics.specs.Meaning.Expressions.{Define}
use Rattle.c_semantics.specs.Structure.Skeleton.{scope_after, scope_in}
use Rattle.canonical_nests.specs.Shapes.{source_kind, below_source, stmt_kinds, single_kinds, member_kinds}
use Rattle.loop_counts.specs.Wanted.{in_head, wanted_kinds, last_kinds, member_of}

module _ (ds : List Define) (s : State) where
  pub none_wanted : (m : ℕ) (a : Stmt) → m ≡ 0 → stmt_kinds ds s m a ≡ []
  none_wanted m a e = ap (λ n. stmt_kinds ds s n a) e

  one_less : (m : ℕ) → suc m - 1 ≡ m
  one_less m = omega arith

  pub some_wanted : (m : ℕ) (a : Stmt) → 0 < m → stmt_kinds ds s m a ≡ wanted_kinds ds s m a
  some_wanted zero a lt = absurd (omega (arith, lt))
  some_wanted (suc m) (decl t x e) lt = refl
  some_wanted (suc m) (set t o e) lt = refl
  some_wanted (suc m) (step t up) lt = refl
  some_wanted (suc m) (print e) lt = refl
  some_wanted (suc m) (input t) lt = refl
  some_wanted (suc m) (if_ e a) lt = refl
  some_wanted (suc m) (if_else e a b) lt = refl
  some_wanted (suc m) (while_ e a) lt = refl
  some_wanted (suc m) (do_ a e) lt = refl
  some_wanted (suc m) (for_ (head i e next) a) lt =
      ap (λ n. (source_kind ds s (head i e next) ∷ below_source (single_kinds ds (scope_in i s) n a)) ∷ []) (sym (one_less m))
  some_wanted (suc m) (block a) lt = refl
  some_wanted (suc m) break_ lt = refl
  some_wanted (suc m) continue_ lt = refl
  some_wanted (suc m) empty lt = refl
  some_wanted (suc m) (omp d a) lt = refl
  some_wanted (suc m) (call f es) lt = refl

  -- a statement that holds no loop for a directive round it
  nothing : (m : ℕ) (a : Stmt) → wanted_kinds ds s m a ≡ [] → stmt_kinds ds s m a ≡ []
  nothing zero a e = refl
  nothing (suc m) a e = some_wanted (suc m) a (omega arith) ∙ e

  last_of : (m : ℕ) (a : Stmt) → member_kinds ds s m (more_stmts a no_stmts) ≡ last_kinds ds s m a
  last_of m (decl t x e) = append-nil (stmt_kinds ds s m (decl t x e)) ∙ nothing m (decl t x e) refl
  last_of m (set t o e) = append-nil (stmt_kinds ds s m (set t o e)) ∙ nothing m (set t o e) refl
  last_of m (step t up) = append-nil (stmt_kinds ds s m (step t up)) ∙ nothing m (step t up) refl
  last_of m (print e) = append-nil (stmt_kinds ds s m (print e)) ∙ nothing m (print e) refl
  last_of m (input t) = append-nil (stmt_kinds ds s m (input t)) ∙ nothing m (input t) refl
  last_of m (if_ e a) = append-nil (stmt_kinds ds s m (if_ e a)) ∙ nothing m (if_ e a) refl
  last_of m (if_else e a b) = append-nil (stmt_kinds ds s m (if_else e a b)) ∙ nothing m (if_else e a b) refl
  last_of m (while_ e a) = append-nil (stmt_kinds ds s m (while_ e a)) ∙ nothing m (while_ e a) refl
  last_of m (do_ a e) = append-nil (stmt_kinds ds s m (do_ a e)) ∙ nothing m (do_ a e) refl
  last_of m (for_ h a) = append-nil (stmt_kinds ds s m (for_ h a))
  last_of m (block a) = refl
  last_of m break_ = append-nil (stmt_kinds ds s m break_) ∙ nothing m break_ refl
  last_of m continue_ = append-nil (stmt_kinds ds s m continue_) ∙ nothing m continue_ refl
  last_of m empty = append-nil (stmt_kinds ds s m empty) ∙ nothing m empty refl
  last_of m (omp d a) = append-nil (stmt_kinds ds s m (omp d a))
  last_of m (call f es) = append-nil (stmt_kinds ds s m (call f es)) ∙ nothing m (call f es) refl

  not_last : (m : ℕ) (a b : Stmt) (as' : Stmts) → member_kinds ds s m (more_stmts a (more_stmts b as')) ≡ stmt_kinds ds s m a ++ member_kinds ds s m (more_stmts b as')
  not_last m (decl t x e) b as' = refl
  not_last m (set t o e) b as' = refl
  not_last m (step t up) b as' = refl
  not_last m (print e) b as' = refl
  not_last m (input t) b as' = refl
  not_last m (if_ e a) b as' = refl
  not_last m (if_else e a c) b as' = refl
  not_last m (while_ e a) b as' = refl
  not_last m (do_ a e) b as' = refl
  not_last m (for_ h a) b as' = refl
  not_last m (block a) b as' = refl
  not_last m break_ b as' = refl
  not_last m continue_ b as' = refl
  not_last m empty b as' = refl
  not_last m (omp d a) b as' = refl
  not_last m (call f es) b as' = refl

  member_last : (m : ℕ) (xs : List code.Stmt) (i : ℕ) (x : code.Stmt) → i < length xs → x ≡ slice_index_or xs i x → i ≡ length xs - 1
      → member_kinds ds s m (bare_stmts (drop i xs)) ≡ last_kinds ds s m (bare_stmt x)
  member_last m xs i x within is last =
      let past : length xs ≤ i + 1 = omega arith in
      rest_more (λ ys. member_kinds ds s m (bare_stmts ys)) xs i x within is
      ∙ (rest_none (λ ys. member_kinds ds s m (more_stmts (bare_stmt x) (bare_stmts ys))) xs (i + 1) past
      ∙ last_of m (bare_stmt x))

  followed : (m : ℕ) (x : code.Stmt) (ys : List code.Stmt) → 0 < length ys → member_kinds ds s m (more_stmts (bare_stmt x) (bare_stmts ys)) ≡ stmt_kinds ds s m (bare_stmt x) ++ member_kinds ds s m (bare_stmts ys)
  followed m x [] lt = absurd (omega (arith, lt))
  followed m x (y ∷ ys) lt = not_last m (bare_stmt x) (bare_stmt y) (bare_stmts ys)

  member_more : (m : ℕ) (xs : List code.Stmt) (i : ℕ) (x : code.Stmt) → i < length xs → x ≡ slice_index_or xs i x → i ≢ length xs - 1
      → member_kinds ds s m (bare_stmts (drop i xs)) ≡ stmt_kinds ds s m (bare_stmt x) ++ member_kinds ds s m (bare_stmts (drop (i + 1) xs))
  member_more m xs i x within is other =
      let some : 0 < length (drop (i + 1) xs) = omega (arith, length-drop (i + 1) xs) in
      rest_more (λ ys. member_kinds ds s m (bare_stmts ys)) xs i x within is ∙ followed m x (drop (i + 1) xs) some

  pub member_end : (m : ℕ) (xs : List code.Stmt) (i : ℕ) → length xs ≤ i → member_kinds ds s m (bare_stmts (drop i xs)) ≡ []
  member_end m xs i = rest_none (λ ys. member_kinds ds s m (bare_stmts ys)) xs i

  -- the next member, behind which so many are left
  pub member_next : (m : ℕ) (xs : List code.Stmt) (i : ℕ) (x : code.Stmt) (left : ℕ) (last : Bool) → i < length xs → x ≡ slice_index_or xs i x
      → left + i + 1 ≡ length xs → last ≡ (left == 0)
      → member_kinds ds s m (bare_stmts (drop i xs)) ≡ member_of last ds s m (bare_stmt x) ++ member_kinds ds s m (bare_stmts (drop (i + 1) xs))
  member_next m xs i x zero last within is e b =
      let at : i ≡ length xs - 1 = omega arith in
      let past : length xs ≤ i + 1 = omega arith in
      member_last m xs i x within is at
      ∙ (sym (append-nil (last_kinds ds s m (bare_stmt x)))
      ∙ (ap (λ ys. last_kinds ds s m (bare_stmt x) ++ ys) (sym (member_end m xs (i + 1) past))
      ∙ ap (λ c. member_of c ds s m (bare_stmt x) ++ member_kinds ds s m (bare_stmts (drop (i + 1) xs))) (sym b)))
  member_next m xs i x (suc left) last within is e b =
      let other : i ≢ length xs - 1 = omega arith in
      let no : (suc left == 0) ≡ false = grind (arith, nat_tests) in
      member_more m xs i x within is other
      ∙ ap (λ c. member_of c ds s m (bare_stmt x) ++ member_kinds ds s m (bare_stmts (drop (i + 1) xs))) (sym (b ∙ no))

  pub single_there : (m : ℕ) (xs : List code.Stmt) (x : code.Stmt) → length xs ≡ 1 → x ≡ slice_index_or xs 0 x → single_kinds ds s m (bare_stmts xs) ≡ stmt_kinds ds s m (bare_stmt x)
  single_there m [] x e is = absurd (omega (arith, e))
  single_there m (y ∷ []) x e is = ap (λ z. stmt_kinds ds s m (bare_stmt z)) (sym is)
  single_there m (y ∷ z ∷ ys) x e is = absurd (omega (arith, e))

  pub not_single : (m : ℕ) (xs : List code.Stmt) → length xs ≢ 1 → single_kinds ds s m (bare_stmts xs) ≡ []
  not_single m [] ne = refl
  not_single m (y ∷ []) ne = absurd (ne refl)
  not_single m (y ∷ z ∷ ys) ne = refl

pub ruleset wanted = (none_wanted, some_wanted)

-- ---- out of a head

keep_all : (k : ℕ) (vs : List Var) → k ≡ length vs → keep k vs ≡ vs
keep_all k vs e = let none : length vs - k ≡ 0 = omega arith in ap (λ n. drop n vs) none

keep_rest : (k : ℕ) (v : Var) (vs : List Var) → k ≡ length vs → keep k (v ∷ vs) ≡ vs
keep_rest k v vs e = let one : length (v ∷ vs) - k ≡ suc zero = omega arith in ap (λ n. drop n (v ∷ vs)) one

after_stmt : (a : Stmt) (s : State) (k : ℕ) → k ≡ length s.frame → keep k (scope_after a s).frame ≡ s.frame
after_stmt (decl t x e) s k is = keep_rest k _ s.frame is
after_stmt (set t o e) s k is = keep_all k s.frame is
after_stmt (step t up) s k is = keep_all k s.frame is
after_stmt (print e) s k is = keep_all k s.frame is
after_stmt (input t) s k is = keep_all k s.frame is
after_stmt (if_ e a) s k is = keep_all k s.frame is
after_stmt (if_else e a b) s k is = keep_all k s.frame is
after_stmt (while_ e a) s k is = keep_all k s.frame is
after_stmt (do_ a e) s k is = keep_all k s.frame is
after_stmt (for_ h a) s k is = keep_all k s.frame is
after_stmt (block a) s k is = keep_all k s.frame is
after_stmt break_ s k is = keep_all k s.frame is
after_stmt continue_ s k is = keep_all k s.frame is
after_stmt empty s k is = keep_all k s.frame is
after_stmt (omp d a) s k is = keep_all k s.frame is
after_stmt (call f es) s k is = keep_all k s.frame is

out_of_head : (h : Head) (s : State) (k : ℕ) → k ≡ length s.frame → keep k (in_head h s).frame ≡ s.frame
out_of_head (head no_stmt e next) s k is = keep_all k s.frame is
out_of_head (head (a_stmt a) e next) s k is = after_stmt a s k is

same_frame : (a : Stmt) (s : State) (f : List Var) → with_frame f (scope_after a s) ≡ with_frame f s
same_frame (decl t x e) s f = refl
same_frame (set t o e) s f = refl
same_frame (step t up) s f = refl
same_frame (print e) s f = refl
same_frame (input t) s f = refl
same_frame (if_ e a) s f = refl
same_frame (if_else e a b) s f = refl
same_frame (while_ e a) s f = refl
same_frame (do_ a e) s f = refl
same_frame (for_ h a) s f = refl
same_frame (block a) s f = refl
same_frame break_ s f = refl
same_frame continue_ s f = refl
same_frame empty s f = refl
same_frame (omp d a) s f = refl
same_frame (call f' es) s f = refl

same_in_head : (h : Head) (s : State) (f : List Var) → with_frame f (in_head h s) ≡ with_frame f s
same_in_head (head no_stmt e next) s f = refl
same_in_head (head (a_stmt a) e next) s f = same_frame a s f

pub left_head : (h : Head) (s : State) (k : ℕ) → k ≡ length s.frame → with_frame (keep k (in_head h s).frame) (in_head h s) ≡ s
left_head h s k is = ap (λ f. with_frame f (in_head h s)) (out_of_head h s k is) ∙ same_in_head h s s.frame

pub ruleset left = (left_head)

-- ---- lists

pub well_formed_at : (xs : List code.Stmt) (i : ℕ) (x : code.Stmt) → i < length xs → x ≡ slice_index_or xs i x → WellFormedStmts (bare_stmts xs) → WellFormedStmt (bare_stmt x)
well_formed_at [] i x h at k = absurd (omega (arith, h))
well_formed_at (y ∷ ys) zero x h at k = subst (λ z. WellFormedStmt (bare_stmt z)) (sym at) k.0
well_formed_at (y ∷ ys) (suc i) x h at k = well_formed_at ys i x (omega (arith, h)) at k.1

pub well_formed_only : (xs : List code.Stmt) (x : code.Stmt) → length xs ≡ 1 → x ≡ slice_index_or xs 0 x → WellFormedStmts (bare_stmts xs) → WellFormedStmt (bare_stmt x)
well_formed_only xs x e is w = well_formed_at xs 0 x (omega arith) is w

pub ruleset singles = (single_there, not_single, well_formed_only)

pub ruleset members = (member_end)
