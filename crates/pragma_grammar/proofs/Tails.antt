-- A phrase is its first operand and a tail of operators: the left recursion of the rows, undone.
use Rattle.std.proofs.Common.{◌≡◌, ℕ, suc, ◌≤◌, List, ◌∷◌, Some, arith, lit≤}
use Rattle.c_tree.specs.Bare.{Name}
use Rattle.c_tree.specs.Placed.{Expr, num, un, bin, cond, cast, Exprs}
use Rattle.c_tree.specs.declared.tree.Span.{Span}
use Rattle.c_tree.specs.declared.tree.Ty.{Ty}
use Rattle.c_tree.specs.declared.tree.UnOp.{UnOp}
use Rattle.c_tree.specs.declared.tree.BinOp.{BinOp}
use Rattle.c_tree.specs.declared.tree.BinOp.TheVariants as b
use Rattle.c_lexer.specs.declared.token.Punct.TheVariants.{RoundOpen, RoundClose, Question, Colon}
use Rattle.pragma_grammar.specs.Symbols.{Symbol, name, number, punct, place, spanning}
use Rattle.pragma_grammar.specs.Expressions.{TypeName, unary_of, binary_of, row, element, Phrase, literal, named, parens, unary, convert, binary, choice, Subscripts}

-- `Tail s e' w' us r e w ts`: `e`, a phrase of row `r` that stands at `w`, goes on with the symbols of `ts` before `us`
-- to the phrase `e'` of row `s`, which stands at `w'`
pub data Tail (s : ℕ) (e' : Expr) (w' : Span) (us : List Symbol) : ℕ → Expr → Span → List Symbol → Type 0 where
  stop : {r : ℕ} → s ≤ r → Tail s e' w' us r e' w' us
  operator : {r : ℕ} {t : Symbol} {o : BinOp} {e f : Expr} {v w : Span} {ts vs : List Symbol} → binary_of t ≡ Some o → s ≤ row o → row o ≤ r → Phrase (suc (row o)) f v ts vs → Tail s e' w' us (row o) (bin o e f (spanning w v)) (spanning w v) vs → Tail s e' w' us r e w (t ∷ ts)
  chooses : {r : ℕ} {c e f : Expr} {u v w y z : Span} {ts vs ws : List Symbol} → s ≤ 0 → 1 ≤ r → Phrase 0 e u ts (punct Colon z ∷ vs) → Phrase 0 f v vs ws → Tail s e' w' us 0 (cond c e f (spanning w v)) (spanning w v) ws → Tail s e' w' us r c w (punct Question y ∷ ts)

-- the first operand, with the row that it has
pub data Operand : ℕ → Expr → Span → List Symbol → List Symbol → Type 0 where
  lone : {n : ℕ} {ty : Ty} {plain_zero : _} {a : Span} {ts : List Symbol} → Operand 8 (num n ty a) a (number n ty plain_zero a ∷ ts) ts
  accessed : {x : Name} {es : Exprs} {a z : Span} {ts us : List Symbol} → Subscripts es a z ts us → Operand 8 (element x es (spanning a z)) (spanning a z) (name x a ∷ ts) us
  group : {e : Expr} {a w z : Span} {ts us : List Symbol} → Phrase 0 e w ts (punct RoundClose z ∷ us) → Operand 8 e (spanning a z) (punct RoundOpen a ∷ ts) us
  signed : {t : Symbol} {o : UnOp} {e : Expr} {w : Span} {ts us : List Symbol} → unary_of t ≡ Some o → Phrase 7 e w ts us → Operand 7 (un o e (spanning (place t) w)) (spanning (place t) w) (t ∷ ts) us
  cast_to : {ty : Ty} {e : Expr} {a w z : Span} {ts us vs : List Symbol} → TypeName ty ts (punct RoundClose z ∷ us) → Phrase 7 e w us vs → Operand 7 (cast ty e (spanning a w)) (spanning a w) (punct RoundOpen a ∷ ts) vs

pub row_below : (o : BinOp) → row o ≤ 6
row_below b.Mul = lit≤ tt
row_below b.Div = lit≤ tt
row_below b.Rem = lit≤ tt
row_below b.Add = lit≤ tt
row_below b.Sub = lit≤ tt
row_below b.Lt = lit≤ tt
row_below b.Le = lit≤ tt
row_below b.Gt = lit≤ tt
row_below b.Ge = lit≤ tt
row_below b.Eq = lit≤ tt
row_below b.Ne = lit≤ tt
row_below b.And = lit≤ tt
row_below b.Or = lit≤ tt

-- a tighter phrase stands where a looser one is asked for
pub loosen : {s r : ℕ} {e : Expr} {w : Span} {ts us : List Symbol} → s ≤ r → Phrase r e w ts us → Phrase s e w ts us
loosen l literal = literal
loosen l (named h) = named h
loosen l (parens h) = parens h
loosen l (unary q b h) = unary q (omega arith) h
loosen l (convert b n h) = convert (omega arith) n h
loosen l (binary q b h k) = binary q (omega arith) h k
loosen l (choice b h i j) = choice (omega arith) h i j

pub tail_bound : {s r : ℕ} {e' e : Expr} {w' w : Span} {us ts : List Symbol} → Tail s e' w' us r e w ts → s ≤ r
tail_bound (stop l) = l
tail_bound (operator q l m h t) = omega arith
tail_bound (chooses l m h k t) = omega arith

pub tail_widen : {s r r' : ℕ} {e' e : Expr} {w' w : Span} {us ts : List Symbol} → r ≤ r' → Tail s e' w' us r e w ts → Tail s e' w' us r' e w ts
tail_widen b (stop l) = stop (omega arith)
tail_widen b (operator q l m h t) = operator q l (omega arith) h t
tail_widen b (chooses l m h k t) = chooses l (omega arith) h k t

pub tail_join : {s s' : ℕ} {e' e'' : Expr} {w' w'' : Span} {us vs : List Symbol} {r : ℕ} {e : Expr} {w : Span} {ts : List Symbol} → Tail s e' w' us r e w ts → Tail s' e'' w'' vs s e' w' us → Tail s' e'' w'' vs r e w ts
tail_join (stop l) u = tail_widen l u
tail_join (operator q l m h t) u = let b = tail_bound u in operator q (omega arith) m h (tail_join t u)
tail_join (chooses l m h k t) u = let b = tail_bound u in chooses (omega arith) m h k (tail_join t u)

-- and back: a phrase with a tail is a phrase
pub with_tail : {s : ℕ} {e' : Expr} {w' : Span} {vs : List Symbol} {r : ℕ} {e : Expr} {w : Span} {ts us : List Symbol} → Phrase r e w ts us → Tail s e' w' vs r e w us → Phrase s e' w' ts vs
with_tail p (stop l) = loosen l p
with_tail p (operator q l m h t) = with_tail (binary q (omega arith) (loosen m p) h) t
with_tail p (chooses l m h k t) = with_tail (choice (omega arith) (loosen m p) h k) t

pub operand_phrase : {s r : ℕ} {e : Expr} {w : Span} {ts us : List Symbol} → s ≤ r → Operand r e w ts us → Phrase s e w ts us
operand_phrase l lone = literal
operand_phrase l (accessed h) = named h
operand_phrase l (group h) = parens h
operand_phrase l (signed q h) = unary q l h
operand_phrase l (cast_to n h) = convert l n h

pub record Head (s : ℕ) (e : Expr) (w : Span) (ts us : List Symbol) : Type 0 where
  pub from : ℕ
  pub first : Expr
  pub stands : Span
  pub rest : List Symbol
  pub operand : Operand from first stands ts rest
  pub tail : Tail s e w us from first stands rest

then : {s s' : ℕ} {e e' : Expr} {w w' : Span} {ts us vs : List Symbol} → Head s e w ts us → Tail s' e' w' vs s e w us → Head s' e' w' ts vs
then h t = record { from = h.from; first = h.first; stands = h.stands; rest = h.rest; operand = h.operand; tail = tail_join h.tail t }

pub head : {s : ℕ} {e : Expr} {w : Span} {ts us : List Symbol} → s ≤ 7 → Phrase s e w ts us → Head s e w ts us
head b literal = record { from = 8; first = _; stands = _; rest = _; operand = lone; tail = stop (omega arith) }
head b (named h) = record { from = 8; first = _; stands = _; rest = _; operand = accessed h; tail = stop (omega arith) }
head b (parens h) = record { from = 8; first = _; stands = _; rest = _; operand = group h; tail = stop (omega arith) }
head b (unary q l h) = record { from = 7; first = _; stands = _; rest = _; operand = signed q h; tail = stop l }
head b (convert l n h) = record { from = 7; first = _; stands = _; rest = _; operand = cast_to n h; tail = stop l }
head b (binary {o = o} q l h k) = then (head (omega (arith, row_below o)) h) (operator q l (omega arith) k (stop l))
head b (choice l h i j) = then (head (omega arith) h) (chooses l (omega arith) i j (stop l))
