-- What completes open phrases, and that no symbol which goes on with an operand comes after a whole one.
use Rattle.std.proofs.Common.{◌≡◌, ℕ, suc, ◌≤◌, ◌<◌, ◌⊎◌, List, [], ◌∷◌, Option, Some, None, Bool, true, false, refl, sym, ap, ◌∙◌, subst, arith, lit≤}
use Rattle.std.proofs.Math.Dec.{leb}
use Rattle.std.proofs.lemmas.Bool.{leb-true, leb-false}
use Rattle.c_tree.specs.Placed.{Expr, un, bin, cond, cast, Exprs}
use Rattle.c_tree.specs.declared.tree.Span.{Span}
use Rattle.c_tree.specs.declared.tree.Ty.{Ty}
use Rattle.c_tree.specs.declared.tree.Ty.TheVariants as ty
use Rattle.c_tree.specs.declared.tree.BinOp.{BinOp}
use Rattle.c_tree.specs.declared.tree.BinOp.TheVariants as b
use Rattle.c_lexer.specs.declared.token.Punct.{Punct}
use Rattle.c_lexer.specs.declared.token.Punct.TheVariants.{RoundClose, SquareOpen, SquareClose, Question, Colon}
use Rattle.c_lexer.specs.declared.words.Keyword.{Keyword}
use Rattle.c_lexer.specs.declared.words.Keyword.TheVariants.{Int, Long}
use Rattle.pragma_grammar.specs.declared.open_phrase.Infix.{Infix}
use Rattle.pragma_grammar.specs.declared.open_phrase.Infix.TheVariants.{Between, Choice}
use Rattle.pragma_grammar.specs.Symbols.{Symbol, punct, keyword, spanning}
use Rattle.pragma_grammar.specs.Expressions.{binary_of, row, element, Phrase, Subscripts}
use Rattle.pragma_grammar.specs.Machine.{sign, casts, lhs, round, square, test, other, want, opened, half_long, long, typed, access, have, stuck, leads, ended, both, between, infix_of, settled}
use Rattle.pragma_grammar.specs.Trees.{join, join_last, Open, State, Move, asks}
use Rattle.pragma_grammar.proofs.Tails.{Tail, stop, operator, chooses, row_below, tail_bound}

-- what an operand with its place and the symbols after it meet
abbrev pub Owed : Type 1
Owed = Expr → Span → List Symbol → Type 0

-- `e`, of row `r` and at `w`, goes on to a phrase of row `s`, and what is left then meets `f`
pub record Goes (s : ℕ) (f : Owed) (r : ℕ) (e : Expr) (w : Span) (ts : List Symbol) : Type 0 where
  pub whole : Expr
  pub stands : Span
  pub rest : List Symbol
  pub tail : Tail s whole stands rest r e w ts
  pub after : f whole stands rest

-- a phrase of row `s` stands first, and what is left then meets `f`
pub record Reads (s : ℕ) (f : Owed) (ts : List Symbol) : Type 0 where
  pub whole : Expr
  pub stands : Span
  pub rest : List Symbol
  pub phrase : Phrase s whole stands ts rest
  pub after : f whole stands rest

-- the punctuator stands first, and its place and what is left then meet `f`
pub data Takes (p : Punct) (f : Span → List Symbol → Type 0) : List Symbol → Type 0 where
  takes : {z : Span} {ts : List Symbol} → f z ts → Takes p f (punct p z ∷ ts)

-- the keyword stands first
pub data TakesWord (k : Keyword) (f : List Symbol → Type 0) : List Symbol → Type 0 where
  takes_word : {z : Span} {ts : List Symbol} → f ts → TakesWord k f (keyword k z ∷ ts)

-- subscripts stand first, after a token at `a`
pub record Indices (f : Exprs → Span → List Symbol → Type 0) (a : Span) (ts : List Symbol) : Type 0 where
  pub all : Exprs
  pub stands : Span
  pub rest : List Symbol
  pub subscripts : Subscripts all a stands ts rest
  pub after : f all stands rest

-- each open phrase stands where its row is allowed
abbrev pub Sound : List Open → Type 0
Sound [] = Unit {0}
Sound (sign a o ∷ k) = Sound k
Sound (casts a t ∷ k) = Sound k
Sound (lhs e w o ∷ k) = (asks k ≤ row o) × Sound k
Sound (round a ∷ k) = Sound k
Sound (square x a es ∷ k) = Sound k
Sound (test c w ∷ k) = (asks k ≤ 0) × Sound k
Sound (other c w e ∷ k) = (asks k ≤ 0) × Sound k

abbrev pub SoundState : State → Type 0
SoundState (want k) = Sound k
SoundState (opened a k) = Sound k
SoundState (half_long a k) = Sound k
SoundState (long a k) = Sound k
SoundState (typed a t k) = Sound k
SoundState (access x a es z k) = Sound k
SoundState (have e w k) = Sound k

pub asks_below : (k : List Open) → asks k ≤ 7
asks_below [] = lit≤ tt
asks_below (sign a o ∷ k) = lit≤ tt
asks_below (casts a t ∷ k) = lit≤ tt
asks_below (lhs e w o ∷ k) = omega (arith, row_below o)
asks_below (round a ∷ k) = lit≤ tt
asks_below (square x a es ∷ k) = lit≤ tt
asks_below (test c w ∷ k) = lit≤ tt
asks_below (other c w e ∷ k) = lit≤ tt

pub no_operator : {o : BinOp} → None ≡ Some o → ⊥
no_operator q = cc

same_operator : {o p : BinOp} → Some o ≡ Some p → o ≡ p
same_operator q = cc

-- a symbol that goes on with an operand never comes after a whole one
pub data Past (s : ℕ) : Symbol → Type 0 where
  by_operator : {t : Symbol} {o : BinOp} → binary_of t ≡ Some o → s ≤ row o → Past s t
  by_question : {a : Span} → s ≤ 0 → Past s (punct Question a)
  by_square : {a : Span} → Past s (punct SquareOpen a)

-- a symbol that does not go on with an operand of row `r`, and comes after one
pub data Beyond (r : ℕ) : Symbol → Type 0 where
  by_operator : {t : Symbol} {o : BinOp} → binary_of t ≡ Some o → r < row o → Beyond r t
  by_question : {a : Span} → r < 1 → Beyond r (punct Question a)
  by_square : {a : Span} → Beyond r (punct SquareOpen a)

pub row_above : (o : BinOp) → 0 < row o
row_above b.Mul = lit≤ tt
row_above b.Div = lit≤ tt
row_above b.Rem = lit≤ tt
row_above b.Add = lit≤ tt
row_above b.Sub = lit≤ tt
row_above b.Lt = lit≤ tt
row_above b.Le = lit≤ tt
row_above b.Gt = lit≤ tt
row_above b.Ge = lit≤ tt
row_above b.Eq = lit≤ tt
row_above b.Ne = lit≤ tt
row_above b.And = lit≤ tt
row_above b.Or = lit≤ tt

past_row : {s r : ℕ} {t : Symbol} → s ≤ r → Beyond r t → Past s t
past_row l (by_operator q m) = by_operator q (omega arith)
past_row l (by_question m) = by_question (omega arith)
past_row l by_square = by_square

-- nothing is added to the operand
pub record Stays (e : Expr) (w : Span) (ts : List Symbol) (e' : Expr) (w' : Span) (us : List Symbol) : Type 0 where
  pub tree : e ≡ e'
  pub stands : w ≡ w'
  pub rest : ts ≡ us

stays : {e : Expr} {w : Span} {ts : List Symbol} → Stays e w ts e w ts
stays = record { tree = refl; stands = refl; rest = refl }

-- what is met after is met here
pub stayed : (f : Owed) (e : Expr) (w : Span) (ts : List Symbol) (e' : Expr) (w' : Span) (us : List Symbol) → Stays e w ts e' w' us → f e' w' us → f e w ts
stayed f e w ts e' w' us s h =
    subst (λ x. f x w ts) (sym s.tree) (subst (λ x. f e' x ts) (sym s.stands) (subst (λ x. f e' w' x) (sym s.rest) h))

past_tail : {s : ℕ} {e' : Expr} {w' : Span} {us : List Symbol} {r : ℕ} {e : Expr} {w : Span} {t : Symbol} {ts : List Symbol} → Beyond r t → Tail s e' w' us r e w (t ∷ ts) → Stays e w (t ∷ ts) e' w' us
past_tail h (stop l) = stays
past_tail (by_operator q l) (operator q' m n p u) = absurd (let e = same_operator (sym q ∙ q') in let k = ap row e in omega arith)
past_tail (by_question l) (operator q' m n p u) = absurd (no_operator q')
past_tail by_square (operator q' m n p u) = absurd (no_operator q')
past_tail (by_operator q l) (chooses m n p p' u) = absurd (no_operator q)
past_tail (by_question l) (chooses m n p p' u) = absurd (omega arith)

beyond_sign : {t : Symbol} → Past 7 t → Beyond 7 t
beyond_sign (by_operator {o = o} q l) = by_operator q (omega (arith, row_below o))
beyond_sign (by_question l) = by_question (omega arith)
beyond_sign by_square = by_square

beyond_left : {s : ℕ} {t : Symbol} → Past (suc s) t → Beyond s t
beyond_left (by_operator q l) = by_operator q (omega arith)
beyond_left (by_question l) = by_question (omega arith)
beyond_left by_square = by_square

beyond_other : {t : Symbol} → Past 0 t → Beyond 0 t
beyond_other (by_operator {o = o} q l) = by_operator q (row_above o)
beyond_other (by_question l) = by_question (lit≤ tt)
beyond_other by_square = by_square

pub past_goes : (s r : ℕ) (f : Owed) (e : Expr) (w : Span) (t : Symbol) (ts : List Symbol) → Beyond r t → ((e' : Expr) (w' : Span) → f e' w' (t ∷ ts) → Past s t → ⊥) → Goes s f r e w (t ∷ ts) → ⊥
past_goes s r f e w t ts h ih g =
    let l = tail_bound g.tail in
    let same = past_tail h g.tail in
    ih g.whole g.stands (subst (f g.whole g.stands) (sym same.rest) g.after) (past_row l h)

-- what a symbol is to an operand of row `r`, where row `s` is asked for
pub data View (s r : ℕ) (t : Symbol) : Option Infix → Type 0 where
  goes_on : {o : BinOp} → binary_of t ≡ Some o → s ≤ row o → row o ≤ r → View s r t (Some (Between o))
  goes_if : {a : Span} → t ≡ punct Question a → s ≤ 0 → 1 ≤ r → View s r t (Some Choice)
  ends : ((e e' : Expr) (w w' : Span) (ts us : List Symbol) → Tail s e' w' us r e w (t ∷ ts) → Stays e w (t ∷ ts) e' w' us) → View s r t None

abbrev Plain : Symbol → Type 0
Plain (punct Question a) = ⊥
Plain t = Unit {0}

plain_ends : (s r : ℕ) (t : Symbol) → Plain t → ((o : BinOp) → binary_of t ≡ Some o → s ≤ row o → row o ≤ r → ⊥) → (e e' : Expr) (w w' : Span) (ts us : List Symbol) → Tail s e' w' us r e w (t ∷ ts) → Stays e w (t ∷ ts) e' w' us
plain_ends s r t n f e e' w w' ts us (stop l) = stays
plain_ends s r t n f e e' w w' ts us (operator {o = o} q l m p u) = absurd (f o q l m)
plain_ends s r t n f e e' w w' ts us (chooses l m p p' u) = absurd n

view_rows : (s r : ℕ) (t : Symbol) (o : BinOp) → Plain t → binary_of t ≡ Some o → (x y : Bool) → leb s (row o) ≡ x → leb (row o) r ≡ y → View s r t (both x y (Between o))
view_rows s r t o n q true true a c = goes_on q (leb-true s (row o) a) (leb-true (row o) r c)
view_rows s r t o n q false y a c = ends (plain_ends s r t n (λ o' q' l m. let k = ap row (same_operator (sym q ∙ q')) in let z = leb-false s (row o) a in omega arith))
view_rows s r t o n q true false a c = ends (plain_ends s r t n (λ o' q' l m. let k = ap row (same_operator (sym q ∙ q')) in let z = leb-false (row o) r c in omega arith))

view_operator : (s r : ℕ) (t : Symbol) → Plain t → (o : Option BinOp) → binary_of t ≡ o → View s r t (between s r o)
view_operator s r t n None q = ends (plain_ends s r t n (λ o' q' l m. no_operator (sym q ∙ q')))
view_operator s r t n (Some o) q = view_rows s r t o n q (leb s (row o)) (leb (row o) r) refl refl

question_ends : (s r : ℕ) (a : Span) → (s ≤ 0 → 1 ≤ r → ⊥) → (e e' : Expr) (w w' : Span) (ts us : List Symbol) → Tail s e' w' us r e w (punct Question a ∷ ts) → Stays e w (punct Question a ∷ ts) e' w' us
question_ends s r a f e e' w w' ts us (stop l) = stays
question_ends s r a f e e' w w' ts us (operator q l m p u) = absurd (no_operator q)
question_ends s r a f e e' w w' ts us (chooses l m p p' u) = absurd (f l m)

view_question : (s r : ℕ) (a : Span) (x y : Bool) → leb s 0 ≡ x → leb 1 r ≡ y → View s r (punct Question a) (both x y Choice)
view_question s r a true true p q = goes_if refl (leb-true s 0 p) (leb-true 1 r q)
view_question s r a false y p q = ends (question_ends s r a (λ l m. let z = leb-false s 0 p in omega arith))
view_question s r a true false p q = ends (question_ends s r a (λ l m. let z = leb-false 1 r q in omega arith))

pub view : (s r : ℕ) (t : Symbol) → View s r t (infix_of s r t)
view s r (punct Question a) = view_question s r a (leb s 0) (leb 1 r) refl refl
view s r t = let x = t in view_operator s r x tt (binary_of x) refl

-- expressions between other phrases: `F p e w ts` is what is owed after the whole expression `e`
module _ (P : Type 0) (F : P → Owed) where
  -- the innermost open phrase gets its operand `e`, and the symbols complete all of them to `p`
  abbrev pub Fills : P → List Open → Owed
  Fills p [] e w ts = F p e w ts
  Fills p (sign a o ∷ k) e w ts = Goes (asks k) (Fills p k) 7 (un o e (spanning a w)) (spanning a w) ts
  Fills p (casts a t ∷ k) e w ts = Goes (asks k) (Fills p k) 7 (cast t e (spanning a w)) (spanning a w) ts
  Fills p (lhs f v o ∷ k) e w ts = Goes (asks k) (Fills p k) (row o) (bin o f e (spanning v w)) (spanning v w) ts
  Fills p (round a ∷ k) e w ts = Takes RoundClose (λ z us. Goes (asks k) (Fills p k) 8 e (spanning a z) us) ts
  Fills p (square x a es ∷ k) e w ts = Takes SquareClose (λ z us. Indices (λ fs y vs. Goes (asks k) (Fills p k) 8 (element x (join (join_last es e) fs) (spanning a y)) (spanning a y) vs) z us) ts
  Fills p (test c v ∷ k) e w ts = Takes Colon (λ z us. Reads 0 (λ f y vs. Goes (asks k) (Fills p k) 0 (cond c e f (spanning v y)) (spanning v y) vs) us) ts
  Fills p (other c v f ∷ k) e w ts = Goes (asks k) (Fills p k) 0 (cond c f e (spanning v w)) (spanning v w) ts

  abbrev pub Wants : P → List Open → List Symbol → Type 0
  Wants p k ts = Reads (asks k) (Fills p k) ts

  abbrev pub EndsType : P → Span → Ty → List Open → List Symbol → Type 0
  EndsType p a t k ts = Takes RoundClose (λ z us. Wants p (casts a t ∷ k) us) ts

  abbrev pub EndsLong : P → Span → List Open → List Symbol → Type 0
  EndsLong p a k ts = EndsType p a ty.Long k ts ⊎ TakesWord Int (EndsType p a ty.Long k) ts

  abbrev pub Casts : P → Span → List Open → List Symbol → Type 0
  Casts p a k ts = TakesWord Int (EndsType p a ty.Int k) ts ⊎ TakesWord Long (TakesWord Long (EndsLong p a k)) ts

  abbrev pub Completes : P → State → List Symbol → Type 0
  Completes p (want k) ts = Wants p k ts
  Completes p (opened a k) ts = Wants p (round a ∷ k) ts ⊎ Casts p a k ts
  Completes p (half_long a k) ts = TakesWord Long (EndsLong p a k) ts
  Completes p (long a k) ts = EndsLong p a k ts
  Completes p (typed a t k) ts = EndsType p a t k ts
  Completes p (access x a es z k) ts = Indices (λ fs y us. Goes (asks k) (Fills p k) 8 (element x (join es fs) (spanning a y)) (spanning a y) us) z ts
  Completes p (have e w k) ts = Goes (asks k) (Fills p k) 8 e w ts

  -- what the symbols after one owe
  abbrev pub Moves : P → Move → Symbol → List Symbol → Type 0
  Moves p stuck t ts = ⊥
  Moves p (leads s) t ts = Completes p s ts
  Moves p (ended e w) t ts = F p e w (t ∷ ts)

  pub question_from : (p : P) (k : List Open) (r : ℕ) (e : Expr) (w a : Span) (ts : List Symbol) → asks k ≤ 0 → 1 ≤ r → Wants p (test e w ∷ k) ts → Goes (asks k) (Fills p k) r e w (punct Question a ∷ ts)
  question_from p k r e w a ts l m h = go h.whole h.stands h.rest h.phrase h.after
    where
      go : (f : Expr) (v : Span) (us : List Symbol) → Phrase 0 f v ts us → Fills p (test e w ∷ k) f v us → Goes (asks k) (Fills p k) r e w (punct Question a ∷ ts)
      go f v us q (takes j) = record { whole = j.after.whole; stands = j.after.stands; rest = j.after.rest; tail = chooses l m q j.phrase j.after.tail; after = j.after.after }

  pub goes_from : (p : P) (k : List Open) (r : ℕ) (e : Expr) (w : Span) (t : Symbol) (ts : List Symbol) (i : Option Infix) (next : Move) → View (asks k) r t i → asks k ≤ r → (Moves p next t ts → Fills p k e w (t ∷ ts)) → Moves p (settled Expr Exprs i e w k next) t ts → Goes (asks k) (Fills p k) r e w (t ∷ ts)
  goes_from p k r e w t ts i next (goes_on q l m) c ih h = record { whole = h.after.whole; stands = h.after.stands; rest = h.after.rest; tail = operator q l m h.phrase h.after.tail; after = h.after.after }
  goes_from p k r e w t ts i next (goes_if {a = a} q l m) c ih h = subst (λ z. Goes (asks k) (Fills p k) r e w (z ∷ ts)) (sym q) (question_from p k r e w a ts l m h)
  goes_from p k r e w t ts i next (ends f) c ih h = record { whole = e; stands = w; rest = t ∷ ts; tail = stop c; after = ih h }

-- and none of those symbols goes on with an operand
module _ (P : Type 0) (F : P → Owed) (bounds : (p : P) (e : Expr) (w : Span) (t : Symbol) (ts : List Symbol) → F p e w (t ∷ ts) → Past 0 t → ⊥) where
  pub past : (p : P) (k : List Open) (e : Expr) (w : Span) (t : Symbol) (ts : List Symbol) → Fills P F p k e w (t ∷ ts) → Past (asks k) t → ⊥
  past p [] e w t ts g h = bounds p e w t ts g h
  past p (sign a o ∷ k) e w t ts g h = past_goes (asks k) 7 (Fills P F p k) (un o e (spanning a w)) (spanning a w) t ts (beyond_sign h) (λ e' w'. past p k e' w' t ts) g
  past p (casts a y ∷ k) e w t ts g h = past_goes (asks k) 7 (Fills P F p k) (cast y e (spanning a w)) (spanning a w) t ts (beyond_sign h) (λ e' w'. past p k e' w' t ts) g
  past p (lhs f v o ∷ k) e w t ts g h = past_goes (asks k) (row o) (Fills P F p k) (bin o f e (spanning v w)) (spanning v w) t ts (beyond_left h) (λ e' w'. past p k e' w' t ts) g
  past p (round a ∷ k) e w t ts (takes g) (by_operator q l) = no_operator q
  past p (square x a es ∷ k) e w t ts (takes g) (by_operator q l) = no_operator q
  past p (test c v ∷ k) e w t ts (takes g) (by_operator q l) = no_operator q
  past p (other c v f ∷ k) e w t ts g h = past_goes (asks k) 0 (Fills P F p k) (cond c f e (spanning v w)) (spanning v w) t ts (beyond_other h) (λ e' w'. past p k e' w' t ts) g

  -- an operator that goes on with the operand: what completes it is what completes its phrase
  pub operator_to : (p : P) (k : List Open) (r : ℕ) (e : Expr) (w : Span) (t : Symbol) (ts : List Symbol) (o : BinOp) → binary_of t ≡ Some o → asks k ≤ row o → (e' : Expr) (w' : Span) (us : List Symbol) → Tail (asks k) e' w' us r e w (t ∷ ts) → Fills P F p k e' w' us → Wants P F p (lhs e w o ∷ k) ts
  operator_to p k r e w t ts o q l e' w' us (stop m) h = absurd (past p k e w t ts h (by_operator q l))
  operator_to p k r e w t ts o q l e' w' us (operator {o = o'} q' l' m x u) h =
      let same : o' ≡ o = same_operator (sym q' ∙ q) in
      let made : Wants P F p (lhs e w o' ∷ k) ts = record { whole = _; stands = _; rest = _; phrase = x; after = record { whole = e'; stands = w'; rest = us; tail = u; after = h } } in
      subst (λ z. Wants P F p (lhs e w z ∷ k) ts) same made
  operator_to p k r e w t ts o q l e' w' us (chooses l' m x x' u) h = absurd (no_operator q)

  pub question_to : (p : P) (k : List Open) (r : ℕ) (e : Expr) (w a : Span) (ts : List Symbol) → asks k ≤ 0 → (e' : Expr) (w' : Span) (us : List Symbol) → Tail (asks k) e' w' us r e w (punct Question a ∷ ts) → Fills P F p k e' w' us → Wants P F p (test e w ∷ k) ts
  question_to p k r e w a ts l e' w' us (stop m) h = absurd (past p k e w (punct Question a) ts h (by_question l))
  question_to p k r e w a ts l e' w' us (operator q l' m x u) h = absurd (no_operator q)
  question_to p k r e w a ts l e' w' us (chooses l' m x x' u) h = record { whole = _; stands = _; rest = _; phrase = x; after = takes (record { whole = _; stands = _; rest = _; phrase = x'; after = record { whole = e'; stands = w'; rest = us; tail = u; after = h } }) }

  pub goes_to : (p : P) (k : List Open) (r : ℕ) (e : Expr) (w : Span) (t : Symbol) (ts : List Symbol) (i : Option Infix) (next : Move) → View (asks k) r t i → (Fills P F p k e w (t ∷ ts) → Moves P F p next t ts) → Goes (asks k) (Fills P F p k) r e w (t ∷ ts) → Moves P F p (settled Expr Exprs i e w k next) t ts
  goes_to p k r e w t ts i next (goes_on {o = o} q l m) ih h = operator_to p k r e w t ts o q l h.whole h.stands h.rest h.tail h.after
  goes_to p k r e w t ts i next (goes_if {a = a} q l m) ih h =
      let u = subst (λ z. Tail (asks k) h.whole h.stands h.rest r e w (z ∷ ts)) q h.tail in
      question_to p k r e w a ts l h.whole h.stands h.rest u h.after
  goes_to p k r e w t ts i next (ends f) ih h = ih (stayed (Fills P F p k) e w (t ∷ ts) h.whole h.stands h.rest (f e h.whole w h.stands ts h.rest h.tail) h.after)
