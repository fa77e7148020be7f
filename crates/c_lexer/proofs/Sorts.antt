-- What stands first at a place tells which sort of piece or fault begins there.
use Rattle.std.proofs.Common.{◌≡◌, ◌⊎◌, ℕ, Bool, true, false, List, [], ◌∷◌, ◌++◌, refl, sym, ap, ◌∙◌, subst, inl, inr}
use Rattle.std.specs.Prelude.{IsTrue, IsFalse}
use Rattle.std.proofs.lemmas.Bool.{and_parts, both_ways, true≢false, cond-true, cond-false, ne_eqb}
use Rattle.c_lexer.specs.declared.class.Class.{Class}
use Rattle.c_lexer.specs.declared.class.Class.TheVariants.{Feed, Blank, Backslash, Letter, Digit, Hash, Punct as Punctuation, Other}
use Rattle.c_lexer.specs.declared.token.Token.{Token}
use Rattle.c_lexer.specs.declared.token.Punct.{Punct}
use Rattle.c_lexer.specs.Bytes.{is_blank, is_feed, Join, before_feed, before_return, Joins, last, more}
use Rattle.c_lexer.specs.Comments.{begins_comment, Comment, block, line}
use Rattle.c_lexer.specs.Lexemes.{spelling, IsLexeme}
use Rattle.c_lexer.specs.Cut.{Side, Piece, blank, feed, joins, comment, hash, lexeme}
use Rattle.c_lexer.specs.Classes.{class_of}
use Rattle.c_lexer.proofs.Seen.{class_letter, class_digit}
use Rattle.c_lexer.proofs.Shapes.{shape}
use Rattle.c_lexer.proofs.Longest.{punct_class, first_byte}

pub data Sort : Type 0 where
  white : Sort
  newline : Sort
  backslash : Sort
  remark : Sort
  number_sign : Sort
  token_ : Sort
  nothing : Sort

abbrev of_punct : Bool → Sort
of_punct true = remark
of_punct false = token_

abbrev of_class : Class → Bool → Sort
of_class Feed c = newline
of_class Blank c = white
of_class Backslash c = backslash
of_class Letter c = token_
of_class Digit c = token_
of_class Hash c = number_sign
of_class (Punctuation p) c = of_punct c
of_class Other c = nothing

abbrev pub sort : List ℕ → Sort
sort [] = nothing
sort (b ∷ bs) = of_class (class_of b) (begins_comment (b ∷ bs))

abbrev pub differ : Sort → Sort → Bool
differ white white = false
differ newline newline = false
differ backslash backslash = false
differ remark remark = false
differ number_sign number_sign = false
differ token_ token_ = false
differ nothing nothing = false
differ _ _ = true

same_sort : (x : Sort) → differ x x ≡ false
same_sort white = refl
same_sort newline = refl
same_sort backslash = refl
same_sort remark = refl
same_sort number_sign = refl
same_sort token_ = refl
same_sort nothing = refl

pub clash : (z x y : Sort) → z ≡ x → z ≡ y → differ x y ≡ true → ⊥
clash z x y e f d = true≢false (sym d ∙ ap (λ u. differ u y) (sym e ∙ f) ∙ same_sort y)

blank_sort : (b : ℕ) (bs : List ℕ) → IsTrue (is_blank b) → sort (b ∷ bs) ≡ white
blank_sort b bs e = ap (λ k. of_class k (begins_comment (b ∷ bs))) (cond-false _ _ _ (ne_eqb b 10 (λ f. both_ways _ (ap is_blank f) e)) ∙ cond-true _ _ _ e)

feed_sort : (b : ℕ) (bs : List ℕ) → IsTrue (is_feed b) → sort (b ∷ bs) ≡ newline
feed_sort b bs e = ap (λ k. of_class k (begins_comment (b ∷ bs))) (cond-true _ _ _ e)

byte_sort : (b n : ℕ) (bs : List ℕ) (k : Class) → b ≡ n → class_of n ≡ k → sort (b ∷ bs) ≡ of_class k (begins_comment (b ∷ bs))
byte_sort b n bs k e f = ap (λ z. of_class z (begins_comment (b ∷ bs))) (ap class_of e ∙ f)

join_sort : {bs cs : List ℕ} → Join bs cs → sort bs ≡ backslash
join_sort (before_feed {a = a} {b = b} {bs = bs} e f) = byte_sort a 92 (b ∷ bs) Backslash e refl
join_sort (before_return {a = a} {b = b} {c = c} {bs = bs} e f g) = byte_sort a 92 (b ∷ c ∷ bs) Backslash e refl

pub joins_sort : {bs cs : List ℕ} → Joins bs cs → sort bs ≡ backslash
joins_sort (last j n) = join_sort j
joins_sort (more j h) = join_sort j

comment_begins : (a b : ℕ) (bs : List ℕ) → a ≡ 47 → (b ≡ 42) ⊎ (b ≡ 47) → begins_comment (a ∷ b ∷ bs) ≡ true
comment_begins a b bs e (inl f) = ap (λ x. begins_comment (x ∷ b ∷ bs)) e ∙ ap (λ x. begins_comment (47 ∷ x ∷ bs)) f
comment_begins a b bs e (inr f) = ap (λ x. begins_comment (x ∷ b ∷ bs)) e ∙ ap (λ x. begins_comment (47 ∷ x ∷ bs)) f

pub remark_sort : (a b : ℕ) (bs : List ℕ) → a ≡ 47 → (b ≡ 42) ⊎ (b ≡ 47) → sort (a ∷ b ∷ bs) ≡ remark
remark_sort a b bs e f = byte_sort a 47 (b ∷ bs) _ e refl ∙ ap of_punct (comment_begins a b bs e f)

comment_sort : {bs cs : List ℕ} → Comment bs cs → sort bs ≡ remark
comment_sort (block {a = a} {b = b} {bs = bs} e f h) = remark_sort a b bs e (inl f)
comment_sort (line {a = a} {b = b} {bs = bs} e f h) = remark_sort a b bs e (inr f)

-- a lexeme is no empty list
pub lexeme_first : (w : List ℕ) → IsLexeme w → (c : ℕ) × (v : List ℕ) × (w ≡ c ∷ v)
lexeme_first (c ∷ v) h = (c, v, refl)
lexeme_first [] (inl h) = absurd (both_ways _ refl h)
lexeme_first [] (inr (inl h)) = absurd (both_ways _ refl h)
lexeme_first [] (inr (inr h)) = absurd (no_spelling h.0 h.1)
  where
    no_spelling : (p : Punct) → [] ≡ spelling p → ⊥
    no_spelling p e = let r = first_byte p (spelling p) (shape p) in let k : [] ≡ r.0 ∷ r.1 = e ∙ r.3 in cc

lexeme_class : (c : ℕ) (v : List ℕ) → IsLexeme (c ∷ v) → (b : Bool) → b ≡ false → of_class (class_of c) b ≡ token_
lexeme_class c v (inl h) b e = ap (λ k. of_class k b) (class_letter c (and_parts _ _ h).0)
lexeme_class c v (inr (inl h)) b e = ap (λ k. of_class k b) (class_digit c (and_parts _ _ h).0)
lexeme_class c v (inr (inr h)) b e = let k = punct_class h.0 c v h.1 in ap (λ z. of_class z b) k.1 ∙ ap of_punct e

pub lexeme_sort : (w cs bs : List ℕ) → bs ≡ w ++ cs → IsLexeme w → IsFalse (begins_comment bs) → sort bs ≡ token_
lexeme_sort [] cs bs e h n = let r = lexeme_first [] h in absurd cc
lexeme_sort (c ∷ v) cs bs e h n = subst (λ z. sort z ≡ token_) (sym e) (lexeme_class c v h _ (ap begins_comment (sym e) ∙ n))

abbrev pub piece_sort : {total : ℕ} {s t : Side} {bs cs : List ℕ} {ts : List Token} → Piece total s bs ts t cs → Sort
piece_sort (blank e) = white
piece_sort (feed e) = newline
piece_sort (joins j l) = backslash
piece_sort (comment c) = remark
piece_sort (hash e f) = number_sign
piece_sort (lexeme n l k) = token_

pub piece_is : {total : ℕ} {s t : Side} {bs cs : List ℕ} {ts : List Token} (p : Piece total s bs ts t cs) → sort bs ≡ piece_sort p
piece_is (blank {b = b} {bs = bs} e) = blank_sort b bs e
piece_is (feed {b = b} {bs = bs} e) = feed_sort b bs e
piece_is (joins j l) = joins_sort j
piece_is (comment c) = comment_sort c
piece_is (hash {b = b} {bs = bs} e f) = byte_sort b 35 bs _ e refl
piece_is (lexeme {bs = bs} {w = w} {cs = cs} n l k) = lexeme_sort w cs bs l.parts l.lexeme n
