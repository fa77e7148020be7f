-- Which words, numbers and punctuators are the longest where they end.
use Rattle.std.proofs.Common.{◌≡◌, ◌≢◌, ◌⊎◌, ℕ, ◌<◌, ◌≤◌, false, List, [], ◌∷◌, ◌++◌, length, refl, sym, ap, ◌∙◌, subst, arith, inl, inr}
use Rattle.std.proofs.lemmas.Bool.{and_parts, both_ways, ne_eqb, cases_lt, cases_eq, and_left, and_right, or_from}
use Rattle.std.specs.Prelude.{IsTrue, IsFalse}
use Rattle.std.specs.List.{list_all}
use Rattle.std.specs.Char.{is_ascii_digit}
use Rattle.c_lexer.specs.declared.class.Class.{Class}
use Rattle.c_lexer.specs.declared.class.Class.TheVariants.{Letter, Digit, Other, Punct as Punctuation}
use Rattle.c_lexer.specs.declared.mode.Growth.{Growth}
use Rattle.c_lexer.specs.declared.mode.Growth.TheVariants.{Grows, OpensBlock, OpensLine, Ends}
use Rattle.c_lexer.specs.declared.token.Punct.{Punct}
use Rattle.c_lexer.specs.declared.token.Punct.TheVariants.{Dot, Slash}
use Rattle.c_lexer.specs.Bytes.{begins_word, goes_in_word}
use Rattle.c_lexer.specs.Comments.{begins_comment}
use Rattle.c_lexer.specs.Numbers.{go_on, goes_on, is_number}
use Rattle.c_lexer.specs.Lexemes.{is_word, spelling, IsLexeme, IsLongest}
use Rattle.c_lexer.specs.Classes.{class_of, growth}
use Rattle.c_lexer.proofs.Seen.{class_letter, class_digit, digit_no_letter}
use Rattle.c_lexer.proofs.Shapes.{one, two, three, ellipsis, Shape, shape, no_longer, dotted}

-- lists of which each begins with one of two
pub longer : (xs ys vs ds : List ℕ) → xs ++ ys ≡ vs ++ ds → length xs < length vs → (b : ℕ) × (w : List ℕ) × (us : List ℕ) × (vs ≡ xs ++ b ∷ w) × (ys ≡ b ∷ us)
longer [] ys [] ds e h = absurd (omega arith)
longer [] ys (v ∷ vs) ds e h = (v, vs, vs ++ ds, refl, e)
longer (x ∷ xs) ys [] ds e h = absurd (omega arith)
longer (x ∷ xs) ys (v ∷ vs) ds e h =
    let tails : xs ++ ys ≡ vs ++ ds = cc in
    let same : x ≡ v = cc in
    let r = longer xs ys vs ds tails (omega arith) in
    (r.0, r.1, r.2, (let k : vs ≡ xs ++ r.0 ∷ r.1 = r.3 in cc), r.4)

-- what stands first decides what a lexeme is
first_class : (p : Punct) (s : List ℕ) (c : ℕ) (v : List ℕ) → Shape p s → s ≡ c ∷ v → (q : Punct) × (class_of c ≡ Punctuation q)
first_class p s c v (one {x = x} h) e = let k : x ≡ c = cc in (p, ap class_of (sym k) ∙ h)
first_class p s c v (two {q = q} {x = x} h i) e = let k : x ≡ c = cc in (q, ap class_of (sym k) ∙ h)
first_class p s c v (three {q = q} {x = x} h i j) e = let k : x ≡ c = cc in (q, ap class_of (sym k) ∙ h)
first_class p s c v ellipsis e = let k : 46 ≡ c = cc in (Dot, ap class_of (sym k))

pub punct_class : (p : Punct) (c : ℕ) (v : List ℕ) → c ∷ v ≡ spelling p → (q : Punct) × (class_of c ≡ Punctuation q)
punct_class p c v e = first_class p (spelling p) c v (shape p) (sym e)

pub word_only : (c : ℕ) (v : List ℕ) → IsTrue (begins_word c) → IsLexeme (c ∷ v) → IsTrue (is_word (c ∷ v))
word_only c v b (inl h) = h
word_only c v b (inr (inl h)) = absurd (both_ways _ (digit_no_letter c (and_parts _ _ h).0) b)
word_only c v b (inr (inr h)) = let k = punct_class h.0 c v h.1 in let l = class_letter c b in absurd (no_class (class_of c) k.0 l k.1)
  where
    no_class : (k : Class) (q : Punct) → k ≡ Letter → k ≡ Punctuation q → ⊥
    no_class k q e f = cc

pub number_only : (c : ℕ) (v : List ℕ) → IsTrue (is_ascii_digit c) → IsLexeme (c ∷ v) → IsTrue (is_number (c ∷ v))
number_only c v b (inl h) = absurd (both_ways _ (digit_no_letter c b) (and_parts _ _ h).0)
number_only c v b (inr (inl h)) = h
number_only c v b (inr (inr h)) = let k = punct_class h.0 c v h.1 in let l = class_digit c b in absurd (no_class (class_of c) k.0 l k.1)
  where
    no_class : (k : Class) (q : Punct) → k ≡ Digit → k ≡ Punctuation q → ⊥
    no_class k q e f = cc

pub punct_only : (c : ℕ) (v : List ℕ) (q : Punct) → class_of c ≡ Punctuation q → IsLexeme (c ∷ v) → (p : Punct) × (c ∷ v ≡ spelling p)
punct_only c v q b (inl h) = absurd (no_class (class_of c) (class_letter c (and_parts _ _ h).0) b)
  where
    no_class : (k : Class) → k ≡ Letter → k ≡ Punctuation q → ⊥
    no_class k e f = cc
punct_only c v q b (inr (inl h)) = absurd (no_class (class_of c) (class_digit c (and_parts _ _ h).0) b)
  where
    no_class : (k : Class) → k ≡ Digit → k ≡ Punctuation q → ⊥
    no_class k e f = cc
punct_only c v q b (inr (inr h)) = h

pub none_other : (c : ℕ) (v : List ℕ) → class_of c ≡ Other → IsLexeme (c ∷ v) → ⊥
none_other c v b (inl h) = no_class (class_of c) (class_letter c (and_parts _ _ h).0) b
  where
    no_class : (k : Class) → k ≡ Letter → k ≡ Other → ⊥
    no_class k e f = cc
none_other c v b (inr (inl h)) = no_class (class_of c) (class_digit c (and_parts _ _ h).0) b
  where
    no_class : (k : Class) → k ≡ Digit → k ≡ Other → ⊥
    no_class k e f = cc
none_other c v b (inr (inr h)) = let k = punct_class h.0 c v h.1 in no_class (class_of c) k.0 k.1 b
  where
    no_class : (k : Class) (q : Punct) → k ≡ Punctuation q → k ≡ Other → ⊥
    no_class k q e f = cc

-- what comes after the opened word, and after the opened number with a last byte
abbrev pub IsOpenWord : List ℕ → Type 0
IsOpenWord w = (bs : List ℕ) → is_word (w ++ bs) ≡ list_all goes_in_word bs

abbrev pub IsOpenNumber : ℕ → List ℕ → Type 0
IsOpenNumber last w = (bs : List ℕ) → is_number (w ++ bs) ≡ go_on last bs

pub append_none : (xs : List ℕ) → xs ++ [] ≡ xs
append_none [] = refl
append_none (x ∷ xs) = ap (λ ys. x ∷ ys) (append_none xs)

pub whole_word : (w : List ℕ) → IsOpenWord w → IsTrue (is_word w)
whole_word w h = ap is_word (sym (append_none w)) ∙ h []

pub whole_number : (last : ℕ) (w : List ℕ) → IsOpenNumber last w → IsTrue (is_number w)
whole_number last w h = ap is_number (sym (append_none w)) ∙ h []

-- the rest ends the word, or the number
abbrev pub EndsWord : List ℕ → Type 0
EndsWord [] = Unit {0}
EndsWord (b ∷ bs) = IsFalse (goes_in_word b)

abbrev pub EndsNumber : ℕ → List ℕ → Type 0
EndsNumber last [] = Unit {0}
EndsNumber last (b ∷ bs) = IsFalse (goes_on last b)

ends_word_at : (b : ℕ) (cs us : List ℕ) → cs ≡ b ∷ us → EndsWord cs → IsFalse (goes_in_word b)
ends_word_at b [] us e h = absurd cc
ends_word_at b (c ∷ cs) us e h = let k : c ≡ b = cc in subst (λ x. IsFalse (goes_in_word x)) k h

ends_number_at : (last b : ℕ) (cs us : List ℕ) → cs ≡ b ∷ us → EndsNumber last cs → IsFalse (goes_on last b)
ends_number_at last b [] us e h = absurd cc
ends_number_at last b (c ∷ cs) us e h = let k : c ≡ b = cc in subst (λ x. IsFalse (goes_on last x)) k h

pub word_longest : (w cs : List ℕ) → IsOpenWord w → EndsWord cs → IsLongest w (w ++ cs) cs
word_longest w cs opened ends = record { parts = refl; lexeme = inl (whole_word w opened); longest = λ v ds e h. bound v ds e h (cases_lt (length w) (length v)) }
  where
    as_word : (u : List ℕ) (v : List ℕ) → IsTrue (is_word u) → (b : ℕ) (x : List ℕ) → v ≡ u ++ b ∷ x → IsLexeme v → IsTrue (is_word v)
    as_word [] v i b x e h = absurd (both_ways _ refl i)
    as_word (c ∷ u) v i b x e h = subst (λ y. IsTrue (is_word y)) (sym e) (word_only c (u ++ b ∷ x) (and_parts _ _ i).0 (subst IsLexeme e h))

    bound : (v ds : List ℕ) → w ++ cs ≡ v ++ ds → IsLexeme v → (length w < length v) ⊎ (length v ≤ length w) → length v ≤ length w
    bound v ds e h (inr k) = k
    bound v ds e h (inl k) =
        let r = longer w cs v ds e k in
        let i = as_word w v (whole_word w opened) r.0 r.1 r.3 h in
        let j : IsTrue (list_all goes_in_word (r.0 ∷ r.1)) = sym (opened (r.0 ∷ r.1)) ∙ ap is_word (sym r.3) ∙ i in
        absurd (both_ways _ (ends_word_at r.0 cs r.2 r.4 ends) (and_parts _ _ j).0)

pub number_longest : (last : ℕ) (w cs : List ℕ) → IsOpenNumber last w → EndsNumber last cs → IsLongest w (w ++ cs) cs
number_longest last w cs opened ends = record { parts = refl; lexeme = inr (inl (whole_number last w opened)); longest = λ v ds e h. bound v ds e h (cases_lt (length w) (length v)) }
  where
    as_number : (u : List ℕ) (v : List ℕ) → IsTrue (is_number u) → (b : ℕ) (x : List ℕ) → v ≡ u ++ b ∷ x → IsLexeme v → IsTrue (is_number v)
    as_number [] v i b x e h = absurd (both_ways _ refl i)
    as_number (c ∷ u) v i b x e h = subst (λ y. IsTrue (is_number y)) (sym e) (number_only c (u ++ b ∷ x) (and_parts _ _ i).0 (subst IsLexeme e h))

    bound : (v ds : List ℕ) → w ++ cs ≡ v ++ ds → IsLexeme v → (length w < length v) ⊎ (length v ≤ length w) → length v ≤ length w
    bound v ds e h (inr k) = k
    bound v ds e h (inl k) =
        let r = longer w cs v ds e k in
        let i = as_number w v (whole_number last w opened) r.0 r.1 r.3 h in
        let j : IsTrue (go_on last (r.0 ∷ r.1)) = sym (opened (r.0 ∷ r.1)) ∙ ap is_number (sym r.3) ∙ i in
        absurd (both_ways _ (ends_number_at last r.0 cs r.2 r.4 ends) (and_parts _ _ j).0)

-- the rest ends the punctuator
abbrev pub EndsPunct : Punct → List ℕ → Type 0
EndsPunct p [] = Unit {0}
EndsPunct p (b ∷ bs) = growth p b ≡ Ends

ends_punct_at : (p : Punct) (b : ℕ) (cs us : List ℕ) → cs ≡ b ∷ us → EndsPunct p cs → growth p b ≡ Ends
ends_punct_at p b [] us e h = absurd cc
ends_punct_at p b (c ∷ cs) us e h = let k : c ≡ b = cc in subst (λ x. growth p x ≡ Ends) k h

-- the first byte of a punctuator
pub first_byte : (p : Punct) (s : List ℕ) → Shape p s → (c : ℕ) × (u : List ℕ) × (q : Punct) × (s ≡ c ∷ u) × (class_of c ≡ Punctuation q)
first_byte p s (one {x = c} k) = (c, [], p, refl, k)
first_byte p s (two {q = q} {x = c} {y = d} k i) = (c, d ∷ [], q, refl, k)
first_byte p s (three {q = q} {x = c} {y = d} {z = f} k i j) = (c, d ∷ f ∷ [], q, refl, k)
first_byte p s ellipsis = (46, 46 ∷ 46 ∷ [], Dot, refl, refl)

as_punct : (p : Punct) (s v : List ℕ) → Shape p s → (y : List ℕ) → v ≡ s ++ y → IsLexeme v → (q : Punct) × (v ≡ spelling q)
as_punct p s v h y e l =
    let r = first_byte p s h in
    let parts : v ≡ r.0 ∷ (r.1 ++ y) = e ∙ ap (λ z. z ++ y) r.3 in
    let k = punct_only r.0 (r.1 ++ y) r.2 r.4 (subst IsLexeme parts l) in
    (k.0, parts ∙ k.1)

pub punct_longest : (p : Punct) (cs : List ℕ) → EndsPunct p cs → IsLongest (spelling p) (spelling p ++ cs) cs
punct_longest p cs ends = record { parts = refl; lexeme = inr (inr (p, refl)); longest = λ v ds e h. bound v ds e h (cases_lt (length (spelling p)) (length v)) }
  where
    bound : (v ds : List ℕ) → spelling p ++ cs ≡ v ++ ds → IsLexeme v → (length (spelling p) < length v) ⊎ (length v ≤ length (spelling p)) → length v ≤ length (spelling p)
    bound v ds e h (inr k) = k
    bound v ds e h (inl k) =
        let r = longer (spelling p) cs v ds e k in
        let q = as_punct p (spelling p) v (shape p) (r.0 ∷ r.1) r.3 h in
        absurd (no_longer class_of growth refl refl p q.0 (spelling p) (spelling q.0) r.0 r.1 (shape p) (shape q.0) (sym q.1 ∙ r.3) (ends_punct_at p r.0 cs r.2 r.4 ends))

-- no third dot follows
abbrev pub EndsDots : List ℕ → Type 0
EndsDots [] = Unit {0}
EndsDots (b ∷ bs) = b ≢ 46

ends_dots_at : (b : ℕ) (cs us : List ℕ) → cs ≡ b ∷ us → EndsDots cs → b ≢ 46
ends_dots_at b [] us e h = absurd cc
ends_dots_at b (c ∷ cs) us e h = let k : c ≡ b = cc in subst (λ x. x ≢ 46) k h

pub dot_longest : (cs : List ℕ) → EndsDots cs → IsLongest (46 ∷ []) (46 ∷ 46 ∷ cs) (46 ∷ cs)
dot_longest cs ends = record { parts = refl; lexeme = inr (inr (Dot, refl)); longest = λ v ds e h. bound v ds e h (cases_lt 1 (length v)) }
  where
    third : (v w ds : List ℕ) → 46 ∷ 46 ∷ cs ≡ v ++ ds → v ≡ 46 ∷ 46 ∷ w → w ≡ 46 ∷ [] → ⊥
    third v w ds e f g =
        let parts : 46 ∷ 46 ∷ cs ≡ 46 ∷ 46 ∷ 46 ∷ ds = e ∙ ap (λ z. z ++ ds) (f ∙ ap (λ z. 46 ∷ 46 ∷ z) g) in
        let k : cs ≡ 46 ∷ ds = cc in
        ends_dots_at 46 cs ds k ends refl

    bound : (v ds : List ℕ) → 46 ∷ 46 ∷ cs ≡ v ++ ds → IsLexeme v → (1 < length v) ⊎ (length v ≤ 1) → length v ≤ 1
    bound v ds e h (inr k) = k
    bound v ds e h (inl k) =
        let r = longer (46 ∷ []) (46 ∷ cs) v ds e k in
        let b : r.0 ≡ 46 = (let i : 46 ∷ cs ≡ r.0 ∷ r.2 = r.4 in cc) in
        let f : v ≡ 46 ∷ 46 ∷ r.1 = r.3 ∙ ap (λ z. 46 ∷ z ∷ r.1) b in
        let q = as_punct Dot (46 ∷ []) v (shape Dot) (r.0 ∷ r.1) r.3 h in
        absurd (third v r.1 ds e f (dotted class_of growth refl refl q.0 (spelling q.0) r.1 (shape q.0) (sym q.1 ∙ f)))

-- what begins no comment
pub apart_no_comment : (c : ℕ) (bs : List ℕ) → c ≢ 47 → begins_comment (c ∷ bs) ≡ false
apart_no_comment c [] n = refl
apart_no_comment c (b ∷ bs) n = and_left _ _ (ne_eqb c 47 n)

slash_apart : (x y : ℕ) (q : Punct) → class_of x ≡ Punctuation q → growth q y ≢ OpensBlock → growth q y ≢ OpensLine → (x ≡ 47) → (y ≢ 42) × (y ≢ 47)
slash_apart x y q c n m e =
    let same : q ≡ Slash = slash_is (class_of x) c (ap class_of e) in
    (λ k. n (ap (λ z. growth z y) same ∙ ap (growth Slash) k), λ k. m (ap (λ z. growth z y) same ∙ ap (growth Slash) k))
  where
    slash_is : (k : Class) → k ≡ Punctuation q → k ≡ Punctuation Slash → q ≡ Slash
    slash_is k e f = cc

pub two_no_comment : (x y : ℕ) (bs : List ℕ) (q : Punct) → class_of x ≡ Punctuation q → growth q y ≢ OpensBlock → growth q y ≢ OpensLine → begins_comment (x ∷ y ∷ bs) ≡ false
two_no_comment x y bs q c n m = by (cases_eq x 47)
  where
    by : ((x ≡ 47) ⊎ (x ≡ 47 → ⊥)) → begins_comment (x ∷ y ∷ bs) ≡ false
    by (inr k) = and_left _ _ (ne_eqb x 47 k)
    by (inl k) = let h = slash_apart x y q c n m k in and_right _ _ (or_from _ _ (ne_eqb y 42 h.0) (ne_eqb y 47 h.1))

pub punct_no_comment : (p : Punct) (s cs : List ℕ) → Shape p s → EndsPunct p cs → begins_comment (s ++ cs) ≡ false
punct_no_comment p s [] (one c) h = refl
punct_no_comment p s (b ∷ bs) (one {x = x} c) h = two_no_comment x b bs p c (λ k. no_end _ h k) (λ k. no_line _ h k)
  where
    no_end : (g : Growth) → g ≡ Ends → g ≡ OpensBlock → ⊥
    no_end g e f = cc

    no_line : (g : Growth) → g ≡ Ends → g ≡ OpensLine → ⊥
    no_line g e f = cc
punct_no_comment p s cs (two {q = q} {x = x} {y = y} c g) h = two_no_comment x y cs q c (λ k. no_end _ g k) (λ k. no_line _ g k)
  where
    no_end : (g : Growth) → g ≡ Grows p → g ≡ OpensBlock → ⊥
    no_end g e f = cc

    no_line : (g : Growth) → g ≡ Grows p → g ≡ OpensLine → ⊥
    no_line g e f = cc
punct_no_comment p s cs (three {q = q} {r = r} {x = x} {y = y} {z = z} c g i) h = two_no_comment x y (z ∷ cs) q c (λ k. no_end _ g k) (λ k. no_line _ g k)
  where
    no_end : (g : Growth) → g ≡ Grows r → g ≡ OpensBlock → ⊥
    no_end g e f = cc

    no_line : (g : Growth) → g ≡ Grows r → g ≡ OpensLine → ⊥
    no_line g e f = cc
punct_no_comment p s cs ellipsis h = refl
