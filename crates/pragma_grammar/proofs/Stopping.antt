-- A symbol at which an expression ends doesn't go on with one.
use Rattle.std.proofs.Common.{◌≡◌, ℕ, suc, ◌≤◌, ◌<◌, List, [], ◌∷◌, Option, Some, None, Bool, true, false, refl, sym, ap, ◌∙◌, subst, arith, lit≤}
use Rattle.std.proofs.Math.Dec.{leb}
use Rattle.std.proofs.lemmas.Bool.{leb-true, leb-false}
use Rattle.c_tree.specs.Bare.{Name}
use Rattle.c_tree.specs.Placed.{Expr, un, bin, cond, cast, Exprs}
use Rattle.c_tree.specs.declared.tree.Span.{Span}
use Rattle.c_tree.specs.declared.tree.Ty.{Ty}
use Rattle.c_tree.specs.declared.tree.Ty.TheVariants as ty
use Rattle.c_tree.specs.declared.tree.UnOp.{UnOp}
use Rattle.c_tree.specs.declared.tree.BinOp.{BinOp}
use Rattle.c_lexer.specs.declared.token.Punct.TheVariants.{RoundOpen, RoundClose, SquareOpen, SquareClose, Question, Colon}
use Rattle.c_lexer.specs.declared.words.Keyword.TheVariants.{Int, Long}
use Rattle.pragma_grammar.specs.declared.open_phrase.Infix.{Infix}
use Rattle.pragma_grammar.specs.declared.open_phrase.Infix.TheVariants.{Between, Choice}
use Rattle.pragma_grammar.specs.Symbols.{Symbol, name, number, punct, keyword, place, spanning}
use Rattle.pragma_grammar.specs.Expressions.{binary_of, unary_of, row, element}
use Rattle.pragma_grammar.specs.Machine as machine
use Rattle.pragma_grammar.specs.Machine.{sign, casts, lhs, round, square, test, other, want, opened, half_long, long, typed, access, have, stuck, leads, ended, both, between, infix_of, settled}
use Rattle.pragma_grammar.specs.Trees.{trees, join_last, Open, State, Move, asks, closes, step}
use Rattle.pragma_grammar.specs.Reading.{GoesOn, by_operator, by_question, by_square}
use Rattle.pragma_grammar.proofs.Tails.{row_below}
use Rattle.pragma_grammar.proofs.Follows.{row_above, no_operator}
use Rattle.pragma_grammar.proofs.Steps.{settle, begin, begin_round, subscripted}

-- this isn't the end of an expression
abbrev GoesAhead : Move → Type 0
GoesAhead (ended e w) = ⊥
GoesAhead (leads s) = Unit {0}
GoesAhead stuck = Unit {0}

both_true : (x y : Bool) (i : Infix) → x ≡ true → y ≡ true → both x y i ≡ Some i
both_true true true i p q = refl
both_true true false i p q = absurd (let z : false ≡ true = q in cc)
both_true false y i p q = absurd (let z : false ≡ true = p in cc)

leb_holds : (m n : ℕ) (b : Bool) → leb m n ≡ b → m ≤ n → b ≡ true
leb_holds m n true q l = refl
leb_holds m n false q l = absurd (let k = leb-false m n q in omega arith)

-- the symbol goes on with an operand of row `n` or tighter wherever row `n` may stand
abbrev Operates : Symbol → ℕ → Type 0
Operates t n = (s r : ℕ) → s ≤ n → n ≤ r → 1 ≤ r → (i : Infix) × (infix_of s r t ≡ Some i)

-- an operator is no `?`
plain_infix : (t : Symbol) (o : BinOp) → binary_of t ≡ Some o → (s r : ℕ) → infix_of s r t ≡ between s r (binary_of t)
plain_infix (punct Question a) o q s r = absurd (no_operator q)
plain_infix t o q s r = refl

operates : (t : Symbol) (o : BinOp) → binary_of t ≡ Some o → ((s r : ℕ) → infix_of s r t ≡ between s r (binary_of t)) → Operates t (row o)
operates t o q h s r l m b = (Between o, h s r ∙ ap (between s r) q ∙ both_true (leb s (row o)) (leb (row o) r) (Between o) (leb_holds s (row o) (leb s (row o)) refl l) (leb_holds (row o) r (leb (row o) r) refl m))

asks_choice : (a : Span) → Operates (punct Question a) 0
asks_choice a s r l m b = (Choice, both_true (leb s 0) (leb 1 r) Choice (leb_holds s 0 (leb s 0) refl l) (leb_holds 1 r (leb 1 r) refl b))

module _ (t : Symbol) (n : ℕ) (low : n ≤ 6) (goes : Operates t n) where
  -- an operand after which the symbol doesn't go on stands where only tighter phrases may
  settled_ahead : (k : List Open) (r : ℕ) (e : Expr) (w : Span) (i : Option Infix) → infix_of (asks k) r t ≡ i → n ≤ r → 1 ≤ r → (n < asks k → GoesAhead (closes k e w t)) → GoesAhead (settled Expr Exprs i e w k (closes k e w t))
  settled_ahead k r e w (Some i) q l b ih = tt
  settled_ahead k r e w None q l b ih = ih (tighter (leb (asks k) n) refl)
    where
      tighter : (x : Bool) → leb (asks k) n ≡ x → n < asks k
      tighter true p = absurd (let g = goes (asks k) r (leb-true (asks k) n p) l b in let z : None ≡ Some g.0 = sym q ∙ g.1 in cc)
      tighter false p = leb-false (asks k) n p

  round_ahead : (e : Expr) (a : Span) (k : List Open) (t : Symbol) → GoesAhead (machine.expect_round Expr Exprs e a k t)
  round_ahead e a k (punct RoundClose z) = tt
  round_ahead e a k t = tt

  square_ahead : (x : Name) (a : Span) (es : Exprs) (k : List Open) (t : Symbol) → GoesAhead (machine.expect_square Expr Exprs x a es k t)
  square_ahead x a es k (punct SquareClose z) = tt
  square_ahead x a es k t = tt

  colon_ahead : (c : Expr) (v : Span) (e : Expr) (k : List Open) (t : Symbol) → GoesAhead (machine.expect_colon Expr Exprs c v e k t)
  colon_ahead c v e k (punct Colon z) = tt
  colon_ahead c v e k t = tt

  closes_ahead : (k : List Open) (e : Expr) (w : Span) → n < asks k → GoesAhead (closes k e w t)
  closes_ahead [] e w l = absurd (let z : n < 0 = l in omega arith)
  closes_ahead (sign a o ∷ k) e w l = settled_ahead k 7 (un o e (spanning a w)) (spanning a w) (infix_of (asks k) 7 t) refl (omega arith) (lit≤ tt) (closes_ahead k (un o e (spanning a w)) (spanning a w))
  closes_ahead (casts a y ∷ k) e w l = settled_ahead k 7 (cast y e (spanning a w)) (spanning a w) (infix_of (asks k) 7 t) refl (omega arith) (lit≤ tt) (closes_ahead k (cast y e (spanning a w)) (spanning a w))
  closes_ahead (lhs f v o ∷ k) e w l = settled_ahead k (row o) (bin o f e (spanning v w)) (spanning v w) (infix_of (asks k) (row o) t) refl (let z : n < suc (row o) = l in omega arith) (row_above o) (closes_ahead k (bin o f e (spanning v w)) (spanning v w))
  closes_ahead (round a ∷ k) e w l = round_ahead e a k t
  closes_ahead (square x a es ∷ k) e w l = square_ahead x a (join_last es e) k t
  closes_ahead (test c v ∷ k) e w l = colon_ahead c v e k t
  closes_ahead (other c v f ∷ k) e w l = absurd (let z : n < 0 = l in omega arith)

  settle_ahead : (k : List Open) (e : Expr) (w : Span) → GoesAhead (settle k e w t)
  settle_ahead k e w = settled_ahead k 8 e w (infix_of (asks k) 8 t) refl (omega arith) (lit≤ tt) (closes_ahead k e w)

-- a subscript
square_closes : (k : List Open) (e : Expr) (w a : Span) → GoesAhead (closes k e w (punct SquareOpen a))
square_closes [] e w a = tt
square_closes (sign b o ∷ k) e w a = square_closes k (un o e (spanning b w)) (spanning b w) a
square_closes (casts b y ∷ k) e w a = square_closes k (cast y e (spanning b w)) (spanning b w) a
square_closes (lhs f v o ∷ k) e w a = square_closes k (bin o f e (spanning v w)) (spanning v w) a
square_closes (round b ∷ k) e w a = tt
square_closes (square x b es ∷ k) e w a = tt
square_closes (test c v ∷ k) e w a = tt
square_closes (other c v f ∷ k) e w a = square_closes k (cond c f e (spanning v w)) (spanning v w) a

goes_settle : (k : List Open) (e : Expr) (w : Span) (t : Symbol) → GoesOn t → GoesAhead (settle k e w t)
goes_settle k e w t (by_operator {o = o} q) = settle_ahead t (row o) (row_below o) (operates t o q (plain_infix t o q)) k e w
goes_settle k e w t (by_question {s = a}) = settle_ahead (punct Question a) 0 (lit≤ tt) (asks_choice a) k e w
goes_settle k e w t (by_square {s = a}) = square_closes k e w a

prefixed_ahead : (k : List Open) (a : Span) (o : Option UnOp) → GoesAhead (machine.prefixed Expr Exprs o a k)
prefixed_ahead k a None = tt
prefixed_ahead k a (Some o) = tt

begin_ahead : (k : List Open) (t : Symbol) → GoesAhead (begin k t)
begin_ahead k (number n y p a) = tt
begin_ahead k (name x a) = tt
begin_ahead k (punct RoundOpen a) = tt
begin_ahead k t = let x = t in prefixed_ahead k (place x) (unary_of x)

begin_round_ahead : (a : Span) (k : List Open) (t : Symbol) → GoesAhead (begin_round a k t)
begin_round_ahead a k (keyword Int z) = tt
begin_round_ahead a k (keyword Long z) = tt
begin_round_ahead a k t = let x = t in begin_ahead (round a ∷ k) x

type_ahead : (a : Span) (y : Ty) (k : List Open) (t : Symbol) → GoesAhead (machine.end_type Expr Exprs a y k t)
type_ahead a y k (punct RoundClose z) = tt
type_ahead a y k t = tt

more_long_ahead : (a : Span) (k : List Open) (t : Symbol) → GoesAhead (machine.more_long Expr Exprs a k t)
more_long_ahead a k (keyword Long z) = tt
more_long_ahead a k t = tt

end_long_ahead : (a : Span) (k : List Open) (t : Symbol) → GoesAhead (machine.end_long Expr Exprs a k t)
end_long_ahead a k (keyword Int z) = tt
end_long_ahead a k t = let x = t in type_ahead a ty.Long k x

access_ahead : (x : Name) (a : Span) (es : Exprs) (z : Span) (k : List Open) (t : Symbol) → GoesOn t → GoesAhead (subscripted x a es z k t)
access_ahead x a es z k (punct SquareOpen b) g = tt
access_ahead x a es z k t g = let y = t in goes_settle k (element x es (spanning a z)) (spanning a z) y g

ahead : (s : State) (t : Symbol) → GoesOn t → GoesAhead (step s t)
ahead (want k) t g = begin_ahead k t
ahead (opened a k) t g = begin_round_ahead a k t
ahead (half_long a k) t g = more_long_ahead a k t
ahead (long a k) t g = end_long_ahead a k t
ahead (typed a y k) t g = type_ahead a y k t
ahead (access x a es z k) t g = access_ahead x a es z k t g
ahead (have e w k) t g = goes_settle k e w t g

pub ended_stops : (s : State) (t : Symbol) (e : Expr) (w : Span) → step s t ≡ ended e w → GoesOn t → ⊥
ended_stops s t e w q g = subst GoesAhead q (ahead s t g)
