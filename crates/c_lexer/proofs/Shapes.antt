-- How each punctuator grows byte by byte, and what stands first in a longer one.
use Rattle.std.proofs.Common.{◌≡◌, ℕ, List, [], ◌∷◌, ◌++◌, refl}
use Rattle.c_lexer.specs.declared.class.Class.{Class}
use Rattle.c_lexer.specs.declared.class.Class.TheVariants.{Punct as Punctuation}
use Rattle.c_lexer.specs.declared.mode.Growth.{Growth}
use Rattle.c_lexer.specs.declared.mode.Growth.TheVariants.{Grows, Dots, Ends}
use Rattle.c_lexer.specs.declared.token.Punct.{Punct}
use Rattle.c_lexer.specs.declared.token.Punct.TheVariants.{SquareOpen, SquareClose, RoundOpen, RoundClose, CurlyOpen, CurlyClose, Dot, Arrow, PlusPlus, MinusMinus, And, Star, Plus, Minus, Tilde, Bang, Slash, Percent, ShiftLeft, ShiftRight, Less, Greater, LessEq, GreaterEq, EqEq, BangEq, Caret, Bar, AndAnd, BarBar, Question, Colon, Semicolon, Ellipsis, Assign, StarAssign, SlashAssign, PercentAssign, PlusAssign, MinusAssign, ShiftLeftAssign, ShiftRightAssign, AndAssign, CaretAssign, BarAssign, Comma}
use Rattle.c_lexer.specs.Lexemes.{spelling}
use Rattle.c_lexer.specs.Classes.{class_of, growth}

-- the bytes of a punctuator, each of which makes the next from the one before; but two dots are none
pub data Made (class : ℕ → Class) (grow : Punct → ℕ → Growth) : Punct → List ℕ → Type 0 where
  one : {p : Punct} {x : ℕ} → class x ≡ Punctuation p → Made class grow p (x ∷ [])
  two : {p q : Punct} {x y : ℕ} → class x ≡ Punctuation q → grow q y ≡ Grows p → Made class grow p (x ∷ y ∷ [])
  three : {p q r : Punct} {x y z : ℕ} → class x ≡ Punctuation q → grow q y ≡ Grows r → grow r z ≡ Grows p → Made class grow p (x ∷ y ∷ z ∷ [])
  ellipsis : Made class grow Ellipsis (46 ∷ 46 ∷ 46 ∷ [])

abbrev pub Shape : Punct → List ℕ → Type 0
Shape = Made class_of growth

pub shape : (p : Punct) → Shape p (spelling p)
shape SquareOpen = one refl
shape SquareClose = one refl
shape RoundOpen = one refl
shape RoundClose = one refl
shape CurlyOpen = one refl
shape CurlyClose = one refl
shape Dot = one refl
shape Arrow = two refl refl
shape PlusPlus = two refl refl
shape MinusMinus = two refl refl
shape And = one refl
shape Star = one refl
shape Plus = one refl
shape Minus = one refl
shape Tilde = one refl
shape Bang = one refl
shape Slash = one refl
shape Percent = one refl
shape ShiftLeft = two refl refl
shape ShiftRight = two refl refl
shape Less = one refl
shape Greater = one refl
shape LessEq = two refl refl
shape GreaterEq = two refl refl
shape EqEq = two refl refl
shape BangEq = two refl refl
shape Caret = one refl
shape Bar = one refl
shape AndAnd = two refl refl
shape BarBar = two refl refl
shape Question = one refl
shape Colon = one refl
shape Semicolon = one refl
shape Ellipsis = ellipsis
shape Assign = one refl
shape StarAssign = two refl refl
shape SlashAssign = two refl refl
shape PercentAssign = two refl refl
shape PlusAssign = two refl refl
shape MinusAssign = two refl refl
shape ShiftLeftAssign = three refl refl refl
shape ShiftRightAssign = three refl refl refl
shape AndAssign = two refl refl
shape CaretAssign = two refl refl
shape BarAssign = two refl refl
shape Comma = one refl

module _ (class : ℕ → Class) (grow : Punct → ℕ → Growth) (dot : class 46 ≡ Punctuation Dot) (dots : grow Dot 46 ≡ Dots) where
  -- no punctuator begins with one that ends before the byte, and the byte
  pub no_longer : (p q : Punct) (s t : List ℕ) (b : ℕ) (w : List ℕ) → Made class grow p s → Made class grow q t → t ≡ s ++ b ∷ w → grow p b ≡ Ends → ⊥
  no_longer p q s t b w (one c) (one d) e g = absurd cc
  no_longer p q s t b w (one {x = x} c) (two {q = q'} {x = x'} {y = y} d h) e g = absurd (let i : x' ≡ x = cc in let j : y ≡ b = cc in let k : q' ≡ p = cc in cc)
  no_longer p q s t b w (one {x = x} c) (three {q = q'} {x = x'} {y = y} d h i) e g = absurd (let i : x' ≡ x = cc in let j : y ≡ b = cc in let k : q' ≡ p = cc in cc)
  no_longer p q s t b w (one {x = x} c) ellipsis e g = absurd (let i : 46 ≡ x = cc in let j : 46 ≡ b = cc in let k : Dot ≡ p = cc in cc)
  no_longer p q s t b w (two c h) (one d) e g = absurd cc
  no_longer p q s t b w (two c h) (two d i) e g = absurd cc
  no_longer p q s t b w (two {q = o} {x = x} {y = y} c h) (three {q = q'} {r = r} {x = x'} {y = y'} {z = z} d i j) e g =
      absurd (let k : x' ≡ x = cc in let l : y' ≡ y = cc in let m : z ≡ b = cc in let n : q' ≡ o = cc in let u : r ≡ p = cc in cc)
  no_longer p q s t b w (two {q = o} {x = x} {y = y} c h) ellipsis e g = absurd (let i : 46 ≡ x = cc in let j : 46 ≡ y = cc in let k : Dot ≡ o = cc in cc)
  no_longer p q s t b w (three c h i) (one d) e g = absurd cc
  no_longer p q s t b w (three c h i) (two d j) e g = absurd cc
  no_longer p q s t b w (three c h i) (three d j k) e g = absurd cc
  no_longer p q s t b w (three c h i) ellipsis e g = absurd cc
  no_longer p q s t b w ellipsis (one d) e g = absurd cc
  no_longer p q s t b w ellipsis (two d h) e g = absurd cc
  no_longer p q s t b w ellipsis (three d h i) e g = absurd cc
  no_longer p q s t b w ellipsis ellipsis e g = absurd cc

  -- what begins with two dots is the ellipsis
  pub dotted : (q : Punct) (s w : List ℕ) → Made class grow q s → s ≡ 46 ∷ 46 ∷ w → w ≡ 46 ∷ []
  dotted q s w (one d) e = absurd cc
  dotted q s w (two {q = o} {x = x} {y = y} d h) e = absurd (let i : x ≡ 46 = cc in let j : y ≡ 46 = cc in let k : o ≡ Dot = cc in cc)
  dotted q s w (three {q = o} {x = x} {y = y} d h i) e = absurd (let j : x ≡ 46 = cc in let k : y ≡ 46 = cc in let l : o ≡ Dot = cc in cc)
  dotted q s w ellipsis e = cc

  -- no two punctuators have the same bytes
  pub same_punct : (p q : Punct) (s t : List ℕ) → Made class grow p s → Made class grow q t → s ≡ t → p ≡ q
  same_punct p q s t (one {x = x} c) (one {x = y} d) e = let i : x ≡ y = cc in cc
  same_punct p q s t (two {q = o} {x = x} {y = y} c h) (two {q = n} {x = v} {y = w} d i) e = let j : x ≡ v = cc in let k : y ≡ w = cc in let l : o ≡ n = cc in cc
  same_punct p q s t (three {q = o} {r = r} {x = x} {y = y} {z = z} c h i) (three {q = n} {r = m} {x = u} {y = v} {z = w} d j k) e =
      let a : x ≡ u = cc in let b : y ≡ v = cc in let f : z ≡ w = cc in let g : o ≡ n = cc in let l : r ≡ m = cc in cc
  same_punct p q s t ellipsis ellipsis e = refl
  same_punct p q s t (one c) (two d i) e = absurd cc
  same_punct p q s t (one c) (three d i j) e = absurd cc
  same_punct p q s t (one c) ellipsis e = absurd cc
  same_punct p q s t (two c h) (one d) e = absurd cc
  same_punct p q s t (two c h) (three d i j) e = absurd cc
  same_punct p q s t (two c h) ellipsis e = absurd cc
  same_punct p q s t (three c h i) (one d) e = absurd cc
  same_punct p q s t (three c h i) (two d j) e = absurd cc
  same_punct p q s t (three {q = o} {x = x} {y = y} c h i) ellipsis e = absurd (let j : x ≡ 46 = cc in let k : y ≡ 46 = cc in let l : o ≡ Dot = cc in cc)
  same_punct p q s t ellipsis (one d) e = absurd cc
  same_punct p q s t ellipsis (two d i) e = absurd cc
  same_punct p q s t ellipsis (three {q = o} {x = x} {y = y} d h i) e = absurd (let j : x ≡ 46 = cc in let k : y ≡ 46 = cc in let l : o ≡ Dot = cc in cc)
