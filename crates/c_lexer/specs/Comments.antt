-- Comments (C11 6.4.9): the bytes of a list before its end that are one comment.
use Rattle.std.specs.Prelude.{◌≡◌, ◌≢◌, ℕ, Bool, false, ◌&&◌, ◌||◌, ◌==◌, List, [], ◌∷◌}
use Rattle.c_lexer.specs.Bytes.{Join, NoJoin}

-- `/*` or `//`
abbrev pub begins_comment : List ℕ → Bool
begins_comment [] = false
begins_comment (a ∷ []) = false
begins_comment (a ∷ b ∷ bs) = a == 47 && (b == 42 || b == 47)

-- The rest of a block comment, to its first `*` and `/` with only joins between them.
mutual
  pub data InBlock : List ℕ → List ℕ → Type 0 where
    star : {b : ℕ} {bs cs : List ℕ} → b ≡ 42 → AfterStar bs cs → InBlock (b ∷ bs) cs
    other : {b : ℕ} {bs cs : List ℕ} → b ≢ 42 → InBlock bs cs → InBlock (b ∷ bs) cs

  -- the same where a `*` and only joins stand directly before
  pub data AfterStar : List ℕ → List ℕ → Type 0 where
    slash : {b : ℕ} {bs : List ℕ} → b ≡ 47 → AfterStar (b ∷ bs) bs
    join : {bs cs ds : List ℕ} → Join bs cs → AfterStar cs ds → AfterStar bs ds
    goes_on : {b : ℕ} {bs cs : List ℕ} → b ≢ 47 → NoJoin (b ∷ bs) → InBlock (b ∷ bs) cs → AfterStar (b ∷ bs) cs

-- The rest of a line comment, to the end of its line; a join lets it go on.
pub data InLine : List ℕ → List ℕ → Type 0 where
  text_ends : InLine [] []
  line_ends : {b : ℕ} {bs : List ℕ} → b ≡ 10 → InLine (b ∷ bs) (b ∷ bs)
  joined : {bs cs ds : List ℕ} → Join bs cs → InLine cs ds → InLine bs ds
  any : {b : ℕ} {bs cs : List ℕ} → b ≢ 10 → NoJoin (b ∷ bs) → InLine bs cs → InLine (b ∷ bs) cs

pub data Comment : List ℕ → List ℕ → Type 0 where
  block : {a b : ℕ} {bs cs : List ℕ} → a ≡ 47 → b ≡ 42 → InBlock bs cs → Comment (a ∷ b ∷ bs) cs
  line : {a b : ℕ} {bs cs : List ℕ} → a ≡ 47 → b ≡ 47 → InLine bs cs → Comment (a ∷ b ∷ bs) cs
