-- Comments, a byte at a time: what is left of one before a byte is what is left of it after the byte.
use Rattle.std.proofs.Common.{◌≡◌, ◌≢◌, ◌⊎◌, ℕ, cond, List, ◌∷◌, refl, sym, subst, arith, inl, inr}
use Rattle.std.specs.Prelude.{IsFalse, ◌==◌}
use Rattle.std.proofs.lemmas.Bool.{cond_both, eqb-true, eqb-false, cases_eq}
use Rattle.c_lexer.specs.declared.mode.BlockStage.{BlockStage}
use Rattle.c_lexer.specs.declared.mode.BlockStage.TheVariants.{Inside as InsideBlock, Star as AtStar, StarBackslash, StarReturn}
use Rattle.c_lexer.specs.declared.mode.LineStage.{LineStage}
use Rattle.c_lexer.specs.declared.mode.LineStage.TheVariants.{Inside as InsideLine, Backslash as LineBackslash, Return as LineReturn}
use Rattle.c_lexer.specs.Bytes.{before_feed, before_return, NoJoin}
use Rattle.c_lexer.specs.Comments.{InBlock, star, other, AfterStar, slash, join, goes_on, InLine, joined, any}
use Rattle.c_lexer.specs.Machine.{block_stage, line_stage, ends_block, ends_line}
use Rattle.c_lexer.proofs.Meaning.{InStage, InLineStage}
use Rattle.c_lexer.proofs.Begins.{no_join_at}

-- a test of a byte, in a goal
pub tested : {A : Type 0} (P : A → Type 0) (b n : ℕ) (x y : A) → (b ≡ n → P x) → (b ≢ n → P y) → P (cond (b == n) x y)
tested P b n x y h k = cond_both (b == n) x y P (λ e. h (eqb-true b n e)) (λ e. k (eqb-false b n e))

pub no_join_backslash : (b : ℕ) (bs : List ℕ) → b ≢ 10 → b ≢ 13 → NoJoin (92 ∷ b ∷ bs)
no_join_backslash b bs n m cs (before_feed e f) = n f
no_join_backslash b bs n m cs (before_return e f g) = m f

pub no_join_return : (b : ℕ) (bs : List ℕ) → b ≢ 10 → NoJoin (92 ∷ 13 ∷ b ∷ bs)
no_join_return b bs n cs (before_feed e f) = omega arith
no_join_return b bs n cs (before_return e f g) = n g

-- a byte that is no star, in a block comment
in_other : {b : ℕ} {bs cs : List ℕ} → b ≢ 42 → InBlock (b ∷ bs) cs → InBlock bs cs
in_other n (star e h) = absurd (n e)
in_other n (other m h) = h

in_star : {b : ℕ} {bs cs : List ℕ} → b ≡ 42 → InBlock (b ∷ bs) cs → AfterStar bs cs
in_star e (star f h) = h
in_star e (other m h) = absurd (m e)

in_after : {b : ℕ} {bs cs : List ℕ} → b ≢ 47 → NoJoin (b ∷ bs) → AfterStar (b ∷ bs) cs → InBlock (b ∷ bs) cs
in_after n m (slash e) = absurd (n e)
in_after n m (join j h) = absurd (m _ j)
in_after n m (goes_on k l h) = h

in_joined : {a b : ℕ} {bs cs : List ℕ} → a ≡ 92 → b ≡ 10 → AfterStar (a ∷ b ∷ bs) cs → AfterStar bs cs
in_joined e f (slash g) = absurd (omega arith)
in_joined e f (join (before_feed g i) h) = h
in_joined e f (join (before_return g i k) h) = absurd (omega arith)
in_joined e f (goes_on k l h) = absurd (l _ (before_feed e f))

in_returned : {a b c : ℕ} {bs cs : List ℕ} → a ≡ 92 → b ≡ 13 → c ≡ 10 → AfterStar (a ∷ b ∷ c ∷ bs) cs → AfterStar bs cs
in_returned e f k (slash g) = absurd (omega arith)
in_returned e f k (join (before_feed g i) h) = absurd (omega arith)
in_returned e f k (join (before_return g i l) h) = h
in_returned e f k (goes_on m l h) = absurd (l _ (before_return e f k))

-- from the bytes after a byte to those from it on
pub block_from : (stage : BlockStage) (b : ℕ) (bs cs : List ℕ) → IsFalse (ends_block stage b) → InStage (block_stage stage b) bs cs → InStage stage (b ∷ bs) cs
block_from InsideBlock b bs cs f = tested (λ s. InStage s bs cs → InBlock (b ∷ bs) cs) b 42 AtStar InsideBlock (λ e h. star e h) (λ n h. other n h)
block_from AtStar b bs cs f =
    let n : b ≢ 47 = eqb-false b 47 f in
    tested (λ s. InStage s bs cs → AfterStar (b ∷ bs) cs) b 42 AtStar _ (λ e h. goes_on n (no_join_at b bs (λ k. omega arith)) (star e h)) (λ m.
    tested (λ s. InStage s bs cs → AfterStar (b ∷ bs) cs) b 92 StarBackslash InsideBlock (λ e h. subst (λ z. AfterStar (z ∷ bs) cs) (sym e) h) (λ k h. goes_on n (no_join_at b bs k) (other m h)))
block_from StarBackslash b bs cs f =
    tested (λ s. InStage s bs cs → AfterStar (92 ∷ b ∷ bs) cs) b 10 AtStar _ (λ e h. join (before_feed refl e) h) (λ n.
    tested (λ s. InStage s bs cs → AfterStar (92 ∷ b ∷ bs) cs) b 13 StarReturn _ (λ e h. subst (λ z. AfterStar (92 ∷ z ∷ bs) cs) (sym e) h) (λ m.
    tested (λ s. InStage s bs cs → AfterStar (92 ∷ b ∷ bs) cs) b 42 AtStar InsideBlock
    (λ e h. goes_on (λ k. omega arith) (no_join_backslash b bs n m) (other (λ k. omega arith) (star e h)))
    (λ k h. goes_on (λ l. omega arith) (no_join_backslash b bs n m) (other (λ l. omega arith) (other k h)))))
block_from StarReturn b bs cs f =
    tested (λ s. InStage s bs cs → AfterStar (92 ∷ 13 ∷ b ∷ bs) cs) b 10 AtStar _ (λ e h. join (before_return refl refl e) h) (λ n.
    tested (λ s. InStage s bs cs → AfterStar (92 ∷ 13 ∷ b ∷ bs) cs) b 42 AtStar InsideBlock
    (λ e h. goes_on (λ k. omega arith) (no_join_return b bs n) (other (λ k. omega arith) (other (λ k. omega arith) (star e h))))
    (λ k h. goes_on (λ l. omega arith) (no_join_return b bs n) (other (λ l. omega arith) (other (λ l. omega arith) (other k h)))))

-- and back
pub block_to : (stage : BlockStage) (b : ℕ) (bs cs : List ℕ) → IsFalse (ends_block stage b) → InStage stage (b ∷ bs) cs → InStage (block_stage stage b) bs cs
block_to InsideBlock b bs cs f h = tested (λ s. InStage s bs cs) b 42 AtStar InsideBlock (λ e. in_star e h) (λ n. in_other n h)
block_to AtStar b bs cs f h =
    let n : b ≢ 47 = eqb-false b 47 f in
    tested (λ s. InStage s bs cs) b 42 AtStar _ (λ e. in_star e (in_after n (no_join_at b bs (λ k. omega arith)) h)) (λ m.
    tested (λ s. InStage s bs cs) b 92 StarBackslash InsideBlock (λ e. subst (λ z. AfterStar (z ∷ bs) cs) e h) (λ k. in_other m (in_after n (no_join_at b bs k) h)))
block_to StarBackslash b bs cs f h =
    tested (λ s. InStage s bs cs) b 10 AtStar _ (λ e. in_joined refl e h) (λ n.
    tested (λ s. InStage s bs cs) b 13 StarReturn _ (λ e. subst (λ z. AfterStar (92 ∷ z ∷ bs) cs) e h) (λ m.
    tested (λ s. InStage s bs cs) b 42 AtStar InsideBlock
    (λ e. in_star e (in_other (λ k. omega arith) (in_after (λ k. omega arith) (no_join_backslash b bs n m) h)))
    (λ k. in_other k (in_other (λ l. omega arith) (in_after (λ l. omega arith) (no_join_backslash b bs n m) h)))))
block_to StarReturn b bs cs f h =
    tested (λ s. InStage s bs cs) b 10 AtStar _ (λ e. in_returned refl refl e h) (λ n.
    tested (λ s. InStage s bs cs) b 42 AtStar InsideBlock
    (λ e. in_star e (in_other (λ k. omega arith) (in_other (λ k. omega arith) (in_after (λ k. omega arith) (no_join_return b bs n) h))))
    (λ k. in_other k (in_other (λ l. omega arith) (in_other (λ l. omega arith) (in_after (λ l. omega arith) (no_join_return b bs n) h)))))

pub line_from : (stage : LineStage) (b : ℕ) (bs cs : List ℕ) → IsFalse (ends_line stage b) → InLineStage (line_stage stage b) bs cs → InLineStage stage (b ∷ bs) cs
line_from InsideLine b bs cs f =
    let n : b ≢ 10 = eqb-false b 10 f in
    tested (λ s. InLineStage s bs cs → InLine (b ∷ bs) cs) b 92 LineBackslash InsideLine (λ e h. subst (λ z. InLine (z ∷ bs) cs) (sym e) h) (λ m h. any n (no_join_at b bs m) h)
line_from LineBackslash b bs cs f =
    tested (λ s. InLineStage s bs cs → InLine (92 ∷ b ∷ bs) cs) b 92 LineBackslash _
    (λ e h. any (λ k. omega arith) (no_join_backslash b bs (λ k. omega arith) (λ k. omega arith)) (subst (λ z. InLine (z ∷ bs) cs) (sym e) h)) (λ m.
    tested (λ s. InLineStage s bs cs → InLine (92 ∷ b ∷ bs) cs) b 13 LineReturn InsideLine
    (λ e h. subst (λ z. InLine (92 ∷ z ∷ bs) cs) (sym e) h) (λ n h. inside m n h (cases_eq b 10)))
  where
    inside : b ≢ 92 → b ≢ 13 → InLine bs cs → ((b ≡ 10) ⊎ (b ≡ 10 → ⊥)) → InLine (92 ∷ b ∷ bs) cs
    inside m n h (inl e) = joined (before_feed refl e) h
    inside m n h (inr k) = any (λ l. omega arith) (no_join_backslash b bs k n) (any k (no_join_at b bs m) h)
line_from LineReturn b bs cs f =
    tested (λ s. InLineStage s bs cs → InLine (92 ∷ 13 ∷ b ∷ bs) cs) b 92 LineBackslash InsideLine
    (λ e h. any (λ k. omega arith) (no_join_return b bs (λ k. omega arith)) (any (λ k. omega arith) (no_join_at 13 (b ∷ bs) (λ k. omega arith)) (subst (λ z. InLine (z ∷ bs) cs) (sym e) h)))
    (λ m h. inside m h (cases_eq b 10))
  where
    inside : b ≢ 92 → InLine bs cs → ((b ≡ 10) ⊎ (b ≡ 10 → ⊥)) → InLine (92 ∷ 13 ∷ b ∷ bs) cs
    inside m h (inl e) = joined (before_return refl refl e) h
    inside m h (inr k) = any (λ l. omega arith) (no_join_return b bs k) (any (λ l. omega arith) (no_join_at 13 (b ∷ bs) (λ l. omega arith)) (any k (no_join_at b bs m) h))
