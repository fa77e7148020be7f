-- A text has at most one answer: at each place at most one piece or fault begins, and it is as long as it is.
use Rattle.std.proofs.Common.{◌≡◌, ℕ, List, [], ◌∷◌, ◌++◌, length, Some, None, refl, sym, ap, ◌∙◌, subst, subst₂, arith, inl, inr}
use Rattle.std.specs.Prelude.{IsTrue, IsFalse}
use Rattle.std.proofs.lemmas.Bool.{and_parts, both_ways}
use Rattle.c_lexer.specs.declared.class.Class.{Class}
use Rattle.c_lexer.specs.declared.class.Class.TheVariants.{Letter, Digit, Punct as Punctuation}
use Rattle.c_lexer.specs.declared.token.Token.{Token}
use Rattle.c_lexer.specs.declared.token.TokenKind.{TokenKind}
use Rattle.c_lexer.specs.declared.token.TokenKind.TheVariants.{Word, Number, Punct as Punctuator, Hash as HashToken, LineEnd, End}
use Rattle.c_lexer.specs.declared.token.Punct.{Punct}
use Rattle.c_lexer.specs.declared.token.Punct.TheVariants.{Slash}
use Rattle.c_lexer.specs.declared.token.LexKind.{LexKind}
use Rattle.c_lexer.specs.declared.token.LexKind.TheVariants.{BadByte}
use Rattle.c_lexer.specs.Bytes.{Join, before_feed, before_return, Joins, last, more}
use Rattle.c_lexer.specs.Comments.{InBlock, star, other, AfterStar, slash, join, goes_on, InLine, text_ends, line_ends, joined, any, Comment, block, line, begins_comment}
use Rattle.c_lexer.specs.Numbers.{is_number, integer}
use Rattle.c_lexer.specs.Lexemes.{is_word, spelling, IsLexeme, IsLongest, Spells}
use Rattle.c_lexer.specs.Cut.{Side, side, token, with_token, after_kind, place, allowed, Piece, blank, feed, joins, comment, hash, lexeme, BeginsNothing, Fault, bad_byte, open_comment, bad_number, split_token, Answer, fault, after, Lexes, ends, stops, goes}
use Rattle.c_lexer.specs.Classes.{class_of, growth}
use Rattle.c_lexer.proofs.Seen.{class_letter, class_digit, digit_no_letter}
use Rattle.c_lexer.proofs.Shapes.{shape, same_punct}
use Rattle.c_lexer.proofs.Longest.{punct_class}
use Rattle.c_lexer.proofs.Steps.{number_no_comment}
use Rattle.c_lexer.proofs.Sorts.{token_, sort, clash, joins_sort, remark_sort, lexeme_first, lexeme_sort, piece_is}

join_one : {bs cs ds : List ℕ} → Join bs cs → Join bs ds → cs ≡ ds
join_one (before_feed e f) (before_feed g h) = refl
join_one (before_feed e f) (before_return g h i) = absurd (omega arith)
join_one (before_return e f g) (before_feed h i) = absurd (omega arith)
join_one (before_return e f g) (before_return h i k) = refl

join_byte : {b : ℕ} {bs cs : List ℕ} → Join (b ∷ bs) cs → b ≡ 92
join_byte (before_feed e f) = e
join_byte (before_return e f g) = e

first_join : {bs cs : List ℕ} → Joins bs cs → (ds : List ℕ) × Join bs ds
first_join (last j n) = (_, j)
first_join (more j h) = (_, j)

joins_one : {bs cs ds : List ℕ} → Joins bs cs → Joins bs ds → cs ≡ ds
joins_one (last j n) (last k m) = join_one j k
joins_one (last {cs = cs} j n) (more k m) = let i = first_join m in absurd (n i.0 (subst (λ z. Join z i.0) (join_one k j) i.1))
joins_one (more j h) (last k m) = let i = first_join h in absurd (m i.0 (subst (λ z. Join z i.0) (join_one j k) i.1))
joins_one {ds = ds} (more j h) (more k m) = joins_one h (subst (λ z. Joins z ds) (join_one k j) m)

mutual
  in_block_one : {bs cs ds : List ℕ} → InBlock bs cs → InBlock bs ds → cs ≡ ds
  in_block_one (star e h) (star f k) = after_star_one h k
  in_block_one (star e h) (other n k) = absurd (n e)
  in_block_one (other n h) (star e k) = absurd (n e)
  in_block_one (other n h) (other m k) = in_block_one h k

  after_star_one : {bs cs ds : List ℕ} → AfterStar bs cs → AfterStar bs ds → cs ≡ ds
  after_star_one (slash e) (slash f) = refl
  after_star_one (slash e) (join j k) = let i = join_byte j in absurd (omega arith)
  after_star_one (slash e) (goes_on n m k) = absurd (n e)
  after_star_one (join j h) (slash e) = let i = join_byte j in absurd (omega arith)
  after_star_one {ds = ds} (join j h) (join k m) = after_star_one h (subst (λ z. AfterStar z ds) (join_one k j) m)
  after_star_one (join j h) (goes_on n m k) = absurd (m _ j)
  after_star_one (goes_on n m h) (slash e) = absurd (n e)
  after_star_one (goes_on n m h) (join j k) = absurd (m _ j)
  after_star_one (goes_on n m h) (goes_on i l k) = in_block_one h k

no_join_none : (cs : List ℕ) → Join [] cs → ⊥
no_join_none cs j = elim j [ ]

in_line_one : {bs cs ds : List ℕ} → InLine bs cs → InLine bs ds → cs ≡ ds
in_line_one text_ends text_ends = refl
in_line_one text_ends (joined j k) = absurd (no_join_none _ j)
in_line_one (line_ends e) (line_ends f) = refl
in_line_one (line_ends e) (joined j k) = let i = join_byte j in absurd (omega arith)
in_line_one (line_ends e) (any n m k) = absurd (n e)
in_line_one (joined j h) text_ends = absurd (no_join_none _ j)
in_line_one (joined j h) (line_ends e) = let i = join_byte j in absurd (omega arith)
in_line_one {ds = ds} (joined j h) (joined k m) = in_line_one h (subst (λ z. InLine z ds) (join_one k j) m)
in_line_one (joined j h) (any n m k) = absurd (m _ j)
in_line_one (any n m h) (line_ends e) = absurd (n e)
in_line_one (any n m h) (joined j k) = absurd (m _ j)
in_line_one (any n m h) (any i l k) = in_line_one h k

comment_one : {bs cs ds : List ℕ} → Comment bs cs → Comment bs ds → cs ≡ ds
comment_one (block e f h) (block i j k) = in_block_one h k
comment_one (block e f h) (line i j k) = absurd (omega arith)
comment_one (line e f h) (block i j k) = absurd (omega arith)
comment_one (line e f h) (line i j k) = in_line_one h k

-- one list begins with two others of one length
split_one : (w v cs ds : List ℕ) → w ++ cs ≡ v ++ ds → length w ≡ length v → (w ≡ v) × (cs ≡ ds)
split_one [] [] cs ds e l = (refl, e)
split_one [] (y ∷ v) cs ds e l = absurd (omega arith)
split_one (x ∷ w) [] cs ds e l = absurd (omega arith)
split_one (x ∷ w) (y ∷ v) cs ds e l =
    let same : x ≡ y = cc in
    let tails : w ++ cs ≡ v ++ ds = cc in
    let r = split_one w v cs ds tails (omega arith) in
    ((let k : w ≡ v = r.0 in cc), r.1)

longest_one : {w v bs cs ds : List ℕ} → IsLongest w bs cs → IsLongest v bs ds → (w ≡ v) × (cs ≡ ds)
longest_one {w = w} {v = v} {cs = cs} {ds = ds} h k =
    let below = h.longest v ds k.parts k.lexeme in
    let above = k.longest w cs h.parts h.lexeme in
    split_one w v cs ds (sym h.parts ∙ k.parts) (omega arith)

-- bytes are spelled as one kind of token
letter_digit : (w : List ℕ) → IsTrue (is_word w) → IsTrue (is_number w) → ⊥
letter_digit [] h k = both_ways _ refl h
letter_digit (c ∷ w) h k = both_ways _ (digit_no_letter c (and_parts _ _ k).0) (and_parts _ _ h).0

no_letter : (k : Class) (q : Punct) → k ≡ Letter → k ≡ Punctuation q → ⊥
no_letter k q e f = cc

no_digit : (k : Class) (q : Punct) → k ≡ Digit → k ≡ Punctuation q → ⊥
no_digit k q e f = cc

letter_punct : (w : List ℕ) (p : Punct) → IsTrue (is_word w) → w ≡ spelling p → ⊥
letter_punct [] p h e = both_ways _ refl h
letter_punct (c ∷ w) p h e = let k = punct_class p c w e in no_letter (class_of c) k.0 (class_letter c (and_parts _ _ h).0) k.1

digit_punct : (w : List ℕ) (p : Punct) → IsTrue (is_number w) → w ≡ spelling p → ⊥
digit_punct [] p h e = both_ways _ refl h
digit_punct (c ∷ w) p h e = let k = punct_class p c w e in no_digit (class_of c) k.0 (class_digit c (and_parts _ _ h).0) k.1

spells_one : (k l : TokenKind) (w : List ℕ) → Spells k w → Spells l w → k ≡ l
spells_one (Word x) (Word y) w h i = ap Word (h.1 ∙ sym i.1)
spells_one (Word x) (Number v t z) w h i = absurd (letter_digit w h.0 i.0)
spells_one (Word x) (Punctuator p) w h i = absurd (letter_punct w p h.0 i)
spells_one (Number v t z) (Word y) w h i = absurd (letter_digit w i.0 h.0)
spells_one (Number v t z) (Number u s y) w h i = let e : Some (Number v t z) ≡ Some (Number u s y) = sym h.1 ∙ i.1 in cc
spells_one (Number v t z) (Punctuator p) w h i = absurd (digit_punct w p h.0 i)
spells_one (Punctuator p) (Word y) w h i = absurd (letter_punct w p i.0 h)
spells_one (Punctuator p) (Number u s y) w h i = absurd (digit_punct w p i.0 h)
spells_one (Punctuator p) (Punctuator q) w h i = ap Punctuator (same_punct class_of growth refl refl p q (spelling p) (spelling q) (shape p) (shape q) (sym h ∙ i))
spells_one (Word x) HashToken w h i = absurd i
spells_one (Word x) LineEnd w h i = absurd i
spells_one (Word x) End w h i = absurd i
spells_one (Number v t z) HashToken w h i = absurd i
spells_one (Number v t z) LineEnd w h i = absurd i
spells_one (Number v t z) End w h i = absurd i
spells_one (Punctuator p) HashToken w h i = absurd i
spells_one (Punctuator p) LineEnd w h i = absurd i
spells_one (Punctuator p) End w h i = absurd i
spells_one HashToken l w h i = absurd h
spells_one LineEnd l w h i = absurd h
spells_one End l w h i = absurd h

-- one piece
pub record Same (ts us : List Token) (t u : Side) (cs ds : List ℕ) : Type 0 where
  pub tokens : ts ≡ us
  pub side : t ≡ u
  pub rest : cs ≡ ds

lexeme_same : (total : ℕ) (s : Side) (bs cs ds : List ℕ) (k l : TokenKind) → k ≡ l → cs ≡ ds →
    Same (token k (place total bs) (place total cs) ∷ []) (token l (place total bs) (place total ds) ∷ []) (side (with_token s.line) (after_kind k)) (side (with_token s.line) (after_kind l)) cs ds
lexeme_same total s bs cs ds k l e f = record {
  tokens = ap (λ z. token z (place total bs) (place total cs) ∷ []) e ∙ ap (λ z. token l (place total bs) (place total z) ∷ []) f;
  side = ap (λ z. side (with_token s.line) (after_kind z)) e;
  rest = f;
}

piece_one : {total : ℕ} {s t u : Side} {bs cs ds : List ℕ} {ts us : List Token} → Piece total s bs ts t cs → Piece total s bs us u ds → Same ts us t u cs ds
piece_one (blank e) (blank f) = record { tokens = refl; side = refl; rest = refl }
piece_one (feed e) (feed f) = record { tokens = refl; side = refl; rest = refl }
piece_one (joins j l) (joins k m) = record { tokens = refl; side = refl; rest = joins_one j k }
piece_one (comment c) (comment d) = record { tokens = refl; side = refl; rest = comment_one c d }
piece_one (hash e f) (hash g h) = record { tokens = refl; side = refl; rest = refl }
piece_one {total = total} {s = s} (lexeme {kind = k} {bs = bs} {w = w} {cs = cs} n l sp) (lexeme {kind = k'} {w = w'} {cs = cs'} m l' sp') =
    let r = longest_one l l' in
    lexeme_same total s bs cs cs' k k' (spells_one k k' w' (subst (λ z. Spells k z) r.0 sp) sp') r.1
piece_one p q = let x = p in let y = q in absurd (clash _ _ _ (piece_is x) (piece_is y) refl)

-- a byte at which nothing begins
nothing_first : {s : Side} {b : ℕ} {bs w cs : List ℕ} → BeginsNothing s b bs → IsLongest w (b ∷ bs) cs → ⊥
nothing_first {b = b} {bs = bs} {w = w} {cs = cs} n l =
    let r = lexeme_first w l.lexeme in
    let parts : b ∷ bs ≡ r.0 ∷ (r.1 ++ cs) = l.parts ∙ ap (λ z. z ++ cs) r.2 in
    let same : r.0 ≡ b = cc in
    n.no_lexeme r.1 (subst IsLexeme (r.2 ∙ ap (λ z. z ∷ r.1) same) l.lexeme)

nothing_slash : {s : Side} {b : ℕ} {bs : List ℕ} → BeginsNothing s b bs → b ≡ 47 → ⊥
nothing_slash n e = n.no_lexeme [] (subst (λ z. IsLexeme (z ∷ [])) (sym e) (inr (inr (Slash, refl))))

comment_byte : {b : ℕ} {bs cs : List ℕ} → Comment (b ∷ bs) cs → b ≡ 47
comment_byte (block e f h) = e
comment_byte (line e f h) = e

nothing_piece : {total : ℕ} {s t : Side} {b : ℕ} {bs cs : List ℕ} {ts : List Token} → BeginsNothing s b bs → Piece total s (b ∷ bs) ts t cs → ⊥
nothing_piece n (blank e) = both_ways _ n.no_blank e
nothing_piece n (feed e) = both_ways _ n.no_feed e
nothing_piece n (joins j l) = let i = first_join j in n.no_join i.0 i.1
nothing_piece n (comment c) = nothing_slash n (comment_byte c)
nothing_piece n (hash e f) = n.no_hash e f
nothing_piece n (lexeme m l k) = nothing_first n l

nothing_fault : {s : Side} {b : ℕ} {bs : List ℕ} {kind : LexKind} → BeginsNothing s b bs → Fault s (b ∷ bs) kind → BadByte ≡ kind
nothing_fault n (bad_byte m) = refl
nothing_fault n (open_comment e f h) = absurd (nothing_slash n e)
nothing_fault n (bad_number l i k) = absurd (nothing_first n l)
nothing_fault n (split_token j l) = let i = first_join j in absurd (n.no_join i.0 i.1)

number_sort : {w bs cs : List ℕ} → IsLongest w bs cs → IsTrue (is_number w) → sort bs ≡ token_
number_sort {w = w} {bs = bs} {cs = cs} l n = lexeme_sort w cs bs l.parts l.lexeme (ap begins_comment l.parts ∙ number_no_comment w cs n)

-- the number of a fault is no token
number_token : (w : List ℕ) (k : TokenKind) → IsTrue (is_number w) → integer w ≡ None → Spells k w → ⊥
number_token w (Word x) n i h = letter_digit w h.0 n
number_token w (Number v t z) n i h = let e : Some (Number v t z) ≡ None = sym h.1 ∙ i in cc
number_token w (Punctuator p) n i h = digit_punct w p n h
number_token w HashToken n i h = h
number_token w LineEnd n i h = h
number_token w End n i h = h

fault_piece : {total : ℕ} {s t : Side} {bs cs : List ℕ} {ts : List Token} {kind : LexKind} → Fault s bs kind → Piece total s bs ts t cs → ⊥
fault_piece (bad_byte n) p = nothing_piece n p
fault_piece (open_comment e f h) (comment (block i j k)) = h _ k
fault_piece (open_comment e f h) (comment (line i j k)) = omega arith
fault_piece (open_comment {a = a} {b = b} {bs = bs} e f h) p = let q = p in clash _ _ _ (remark_sort a b bs e (inl f)) (piece_is q) refl
fault_piece (bad_number {w = w} l n i) (lexeme {kind = k} {w = v} m l' sp) = let r = longest_one l l' in number_token w k n i (subst (λ z. Spells k z) (sym r.0) sp)
fault_piece (bad_number l n i) p = let q = p in clash _ _ _ (number_sort l n) (piece_is q) refl
fault_piece {s = s} (split_token j l) (joins k m) = both_ways _ (subst (λ z. IsFalse (allowed s.before z)) (joins_one j k) l) m
fault_piece (split_token j l) p = let q = p in clash _ _ _ (joins_sort j) (piece_is q) refl

fault_one : {s : Side} {bs : List ℕ} {k l : LexKind} → Fault s bs k → Fault s bs l → k ≡ l
fault_one (bad_byte n) f = nothing_fault n f
fault_one f (bad_byte n) = let g = f in sym (nothing_fault n g)
fault_one (open_comment e f h) (open_comment i j k) = refl
fault_one (open_comment {a = a} {b = b} {bs = bs} e f h) (bad_number l n i) = absurd (clash _ _ _ (remark_sort a b bs e (inl f)) (number_sort l n) refl)
fault_one (open_comment {a = a} {b = b} {bs = bs} e f h) (split_token j l) = absurd (clash _ _ _ (remark_sort a b bs e (inl f)) (joins_sort j) refl)
fault_one (bad_number l n i) (open_comment {a = a} {b = b} {bs = bs} e f h) = absurd (clash _ _ _ (number_sort l n) (remark_sort a b bs e (inl f)) refl)
fault_one (bad_number l n i) (bad_number m o j) = refl
fault_one (bad_number l n i) (split_token j m) = absurd (clash _ _ _ (number_sort l n) (joins_sort j) refl)
fault_one (split_token j l) (open_comment {a = a} {b = b} {bs = bs} e f h) = absurd (clash _ _ _ (joins_sort j) (remark_sort a b bs e (inl f)) refl)
fault_one (split_token j l) (bad_number m n i) = absurd (clash _ _ _ (joins_sort j) (number_sort m n) refl)
fault_one (split_token j l) (split_token k m) = refl

-- nothing stands at the end of the text
none_longest : {w cs : List ℕ} → IsLongest w [] cs → ⊥
none_longest {w = w} {cs = cs} l = let r = lexeme_first w l.lexeme in let e : [] ≡ r.0 ∷ (r.1 ++ cs) = l.parts ∙ ap (λ z. z ++ cs) r.2 in cc

end_piece : {total : ℕ} {s t : Side} {cs : List ℕ} {ts : List Token} → Piece total s [] ts t cs → ⊥
end_piece (joins j l) = let i = first_join j in no_join_none i.0 i.1
end_piece (comment c) = elim c [ ]
end_piece (lexeme n l k) = none_longest l

end_fault : {s : Side} {k : LexKind} → Fault s [] k → ⊥
end_fault (bad_number l n i) = none_longest l
end_fault (split_token j l) = let i = first_join j in no_join_none i.0 i.1

pub one_answer : {total : ℕ} {s : Side} {bs : List ℕ} {a b : Answer} → Lexes total s bs a → Lexes total s bs b → a ≡ b
one_answer ends ends = refl
one_answer ends (stops f) = absurd (end_fault f)
one_answer ends (goes p h) = absurd (end_piece p)
one_answer (stops f) ends = absurd (end_fault f)
one_answer {total = total} (stops {bs = bs} f) (stops g) = ap (λ k. fault k (place total bs)) (fault_one f g)
one_answer (stops f) (goes p h) = absurd (fault_piece f p)
one_answer (goes p h) ends = absurd (end_piece p)
one_answer (goes p h) (stops f) = absurd (fault_piece f p)
one_answer {total = total} (goes {ts = ts} {a = a} p h) (goes {ts = us} {a = b} q k) =
    let r = piece_one p q in
    let i = one_answer h (subst₂ (λ x y. Lexes total x y b) (sym r.side) (sym r.rest) k) in
    ap (λ z. after z a) r.tokens ∙ ap (λ z. after us z) i
