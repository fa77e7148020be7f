-- The automaton that reads expressions: open phrases, the innermost first, and what a symbol does to them. It builds
-- its trees by an algebra: the trees themselves, or what a reader keeps of them.
use Rattle.std.specs.Prelude.{ℕ, suc, Bool, true, leb, List, [], ◌∷◌, Option, Some, None}
use Rattle.c_tree.specs.Bare.{Name}
use Rattle.c_tree.specs.declared.tree.Span.{Span}
use Rattle.c_tree.specs.declared.tree.Ty.{Ty}
use Rattle.c_tree.specs.declared.tree.Ty.TheVariants as ty
use Rattle.c_tree.specs.declared.tree.UnOp.{UnOp}
use Rattle.c_tree.specs.declared.tree.BinOp.{BinOp}
use Rattle.c_lexer.specs.declared.token.Punct.TheVariants.{RoundOpen, RoundClose, SquareOpen, SquareClose, Question, Colon}
use Rattle.c_lexer.specs.declared.words.Keyword.TheVariants.{Int, Long}
use Rattle.pragma_grammar.specs.declared.open_phrase.Infix.{Infix}
use Rattle.pragma_grammar.specs.declared.open_phrase.Infix.TheVariants.{Between, Choice}
use Rattle.pragma_grammar.specs.Symbols.{Symbol, name, number, punct, keyword, place, spanning}
use Rattle.pragma_grammar.specs.Expressions.{unary_of, binary_of, row}

-- what is built for each kind of node, and for lists of subscripts
pub record Algebra (T L : Type 0) : Type 0 where
  pub num : ℕ → Ty → Span → T
  pub element : Name → L → Span → T
  pub un : UnOp → T → Span → T
  pub bin : BinOp → T → T → Span → T
  pub cond : T → T → T → Span → T
  pub cast : Ty → T → Span → T
  pub no_subscripts : L
  pub subscript : L → T → L

-- an open phrase waits for its last operand; of those before it the place of the phrase is kept beside the tree
pub data Open (T L : Type 0) : Type 0 where
  sign : Span → UnOp → Open T L
  casts : Span → Ty → Open T L
  lhs : T → Span → BinOp → Open T L
  round : Span → Open T L
  square : Name → Span → L → Open T L
  test : T → Span → Open T L
  other : T → Span → T → Open T L

-- what stands between two symbols: an operand is wanted, a parenthesis was opened, a type's name was begun, can still go
-- on, or is whole, a name was read with its subscripts so far, or an operand with its place
pub data State (T L : Type 0) : Type 0 where
  want : List (Open T L) → State T L
  opened : Span → List (Open T L) → State T L
  half_long : Span → List (Open T L) → State T L
  long : Span → List (Open T L) → State T L
  typed : Span → Ty → List (Open T L) → State T L
  access : Name → Span → L → Span → List (Open T L) → State T L
  have : T → Span → List (Open T L) → State T L

-- what a symbol does: it fits nowhere, it leads to a state, or it comes after the whole expression and isn't taken
pub data Move (T L : Type 0) : Type 0 where
  stuck : Move T L
  leads : State T L → Move T L
  ended : T → Span → Move T L

-- which operator of row `s` or tighter goes on with an operand of row `r`
abbrev pub both : Bool → Bool → Infix → Option Infix
both true true i = Some i
both _ _ i = None

abbrev pub between : ℕ → ℕ → Option BinOp → Option Infix
between s r (Some o) = both (leb s (row o)) (leb (row o) r) (Between o)
between s r None = None

abbrev pub infix_of : ℕ → ℕ → Symbol → Option Infix
infix_of s r (punct Question a) = both (leb s 0) (leb 1 r) Choice
infix_of s r t = between s r (binary_of t)

module _ (T L : Type 0) where
  -- the row that the innermost open phrase asks for
  abbrev pub asks : List (Open T L) → ℕ
  asks [] = 0
  asks (sign a o ∷ k) = 7
  asks (casts a ty ∷ k) = 7
  asks (lhs e w o ∷ k) = suc (row o)
  asks (round a ∷ k) = 0
  asks (square x a es ∷ k) = 0
  asks (test c w ∷ k) = 0
  asks (other c w e ∷ k) = 0

  -- the phrase that an operator opens after an operand
  abbrev pub opens : T → Span → Infix → Open T L
  opens e w (Between o) = lhs e w o
  opens e w Choice = test e w

  abbrev pub settled : Option Infix → T → Span → List (Open T L) → Move T L → Move T L
  settled (Some i) e w k rest = leads (want (opens e w i ∷ k))
  settled None e w k rest = rest

  abbrev pub expect_round : T → Span → List (Open T L) → Symbol → Move T L
  expect_round e a k (punct RoundClose z) = leads (have e (spanning a z) k)
  expect_round e a k t = stuck

  abbrev pub expect_square : Name → Span → L → List (Open T L) → Symbol → Move T L
  expect_square x a es k (punct SquareClose z) = leads (access x a es z k)
  expect_square x a es k t = stuck

  abbrev pub expect_colon : T → Span → T → List (Open T L) → Symbol → Move T L
  expect_colon c w e k (punct Colon z) = leads (want (other c w e ∷ k))
  expect_colon c w e k t = stuck

  -- a symbol after the whole expression; a subscript can only follow a name
  abbrev pub ends_at : T → Span → Symbol → Move T L
  ends_at e w (punct SquareOpen z) = stuck
  ends_at e w t = ended e w

  abbrev pub prefixed : Option UnOp → Span → List (Open T L) → Move T L
  prefixed (Some o) a k = leads (want (sign a o ∷ k))
  prefixed None a k = stuck

  abbrev pub end_type : Span → Ty → List (Open T L) → Symbol → Move T L
  end_type a ty k (punct RoundClose z) = leads (want (casts a ty ∷ k))
  end_type a ty k t = stuck

  abbrev pub more_long : Span → List (Open T L) → Symbol → Move T L
  more_long a k (keyword Long z) = leads (long a k)
  more_long a k t = stuck

  abbrev pub end_long : Span → List (Open T L) → Symbol → Move T L
  end_long a k (keyword Int z) = leads (typed a ty.Long k)
  end_long a k t = end_type a ty.Long k t

module _ (T L : Type 0) (A : Algebra T L) where
  -- What a symbol does after the operand `e`, which stands at `w` and fills the innermost open phrase: it closes
  -- phrases until it goes on with an operand, is taken, or stands after the whole.
  abbrev pub closes : List (Open T L) → T → Span → Symbol → Move T L
  closes [] e w t = ends_at T L e w t
  closes (sign a o ∷ k) e w t = settled T L (infix_of (asks T L k) 7 t) (A.un o e (spanning a w)) (spanning a w) k (closes k (A.un o e (spanning a w)) (spanning a w) t)
  closes (casts a ty ∷ k) e w t = settled T L (infix_of (asks T L k) 7 t) (A.cast ty e (spanning a w)) (spanning a w) k (closes k (A.cast ty e (spanning a w)) (spanning a w) t)
  closes (lhs f v o ∷ k) e w t = settled T L (infix_of (asks T L k) (row o) t) (A.bin o f e (spanning v w)) (spanning v w) k (closes k (A.bin o f e (spanning v w)) (spanning v w) t)
  closes (round a ∷ k) e w t = expect_round T L e a k t
  closes (square x a es ∷ k) e w t = expect_square T L x a (A.subscript es e) k t
  closes (test c v ∷ k) e w t = expect_colon T L c v e k t
  closes (other c v f ∷ k) e w t = settled T L (infix_of (asks T L k) 0 t) (A.cond c f e (spanning v w)) (spanning v w) k (closes k (A.cond c f e (spanning v w)) (spanning v w) t)

  -- the same for an operand of row `r`, which may go on
  abbrev pub settle : ℕ → T → Span → List (Open T L) → Symbol → Move T L
  settle r e w k t = settled T L (infix_of (asks T L k) r t) e w k (closes k e w t)

  abbrev pub begin : List (Open T L) → Symbol → Move T L
  begin k (number n ty plain_zero a) = leads (have (A.num n ty a) a k)
  begin k (name x a) = leads (access x a A.no_subscripts a k)
  begin k (punct RoundOpen a) = leads (opened a k)
  begin k t = prefixed T L (unary_of t) (place t) k

  abbrev pub begin_round : Span → List (Open T L) → Symbol → Move T L
  begin_round a k (keyword Int z) = leads (typed a ty.Int k)
  begin_round a k (keyword Long z) = leads (half_long a k)
  begin_round a k t = begin (round a ∷ k) t

  abbrev pub subscripted : Name → Span → L → Span → List (Open T L) → Symbol → Move T L
  subscripted x a es z k (punct SquareOpen b) = leads (want (square x a es ∷ k))
  subscripted x a es z k t = settle 8 (A.element x es (spanning a z)) (spanning a z) k t

  abbrev pub step : State T L → Symbol → Move T L
  step (want k) t = begin k t
  step (opened a k) t = begin_round a k t
  step (half_long a k) t = more_long T L a k t
  step (long a k) t = end_long T L a k t
  step (typed a ty k) t = end_type T L a ty k t
  step (access x a es z k) t = subscripted x a es z k t
  step (have e w k) t = settle 8 e w k t

  -- how the symbols from a state on end: the whole expression with its place, or a fault, with the number of symbols
  -- from there on
  pub data Outcome : Type 0 where
    whole : T → Span → ℕ → Outcome
    fault : ℕ → Outcome
    unfinished : Outcome

  abbrev pub after : Move T L → ℕ → (State T L → Outcome) → Outcome
  after stuck n f = fault n
  after (leads s) n f = f s
  after (ended e w) n f = whole e w n
