-- Open phrases stay sound, and each sound state of an expression has a completion.
use Rattle.std.proofs.Common.{◌≡◌, refl, sym, subst, codes, ℕ, ◌≤◌, List, [], ◌∷◌, Option, Some, None, true, arith, inl}
use Rattle.c_tree.specs.Bare.{Name}
use Rattle.c_tree.specs.Placed.{Expr, num, un, bin, cond, cast, Exprs, no_exprs}
use Rattle.c_tree.specs.declared.tree.Span.{Span}
use Rattle.c_tree.specs.declared.tree.Ty.{Ty}
use Rattle.c_tree.specs.declared.tree.Ty.TheVariants as ty
use Rattle.c_tree.specs.declared.tree.UnOp.{UnOp}
use Rattle.c_lexer.specs.declared.token.Token.{Token}
use Rattle.c_lexer.specs.declared.token.TokenKind.TheVariants as kind
use Rattle.c_lexer.specs.declared.token.Punct.{Punct}
use Rattle.c_lexer.specs.declared.token.Punct.TheVariants.{RoundOpen, RoundClose, SquareOpen, SquareClose, Colon}
use Rattle.c_lexer.specs.declared.words.Keyword.TheVariants.{Int, Long}
use Rattle.c_lexer.specs.Words.{keyword_of}
use Rattle.pragma_grammar.specs.declared.open_phrase.Infix.{Infix}
use Rattle.pragma_grammar.specs.Symbols.{Symbol, symbol, symbols, name, number, punct, keyword, place, spanning}
use Rattle.pragma_grammar.specs.Expressions.{unary_of, row, element, literal, no_more}
use Rattle.pragma_grammar.specs.Machine as machine
use Rattle.pragma_grammar.specs.Machine.{sign, casts, lhs, round, square, test, other, want, opened, half_long, long, typed, access, have, stuck, leads, ended, infix_of, settled}
use Rattle.pragma_grammar.specs.Trees.{join, join_last, Open, State, Move, asks, closes, step}
use Rattle.pragma_grammar.proofs.Tails.{stop}
use Rattle.pragma_grammar.proofs.Follows.{Owed, Goes, takes, takes_word, Fills, Completes, Sound, SoundState, asks_below, View, goes_on, goes_if, ends, view}
use Rattle.pragma_grammar.proofs.Steps.{settle, begin, begin_round, subscripted}

-- the open phrases stay sound
abbrev pub SoundNext : Move → Type 0
SoundNext (leads s) = SoundState s
SoundNext (ended e w) = Unit {0}
SoundNext stuck = Unit {0}

settled_sound : (k : List Open) (r : ℕ) (e : Expr) (w : Span) (t : Symbol) (i : Option Infix) (next : Move) → View (asks k) r t i → Sound k → SoundNext next → SoundNext (settled Expr Exprs i e w k next)
settled_sound k r e w t i next (goes_on q l m) s n = (l, s)
settled_sound k r e w t i next (goes_if q l m) s n = (l, s)
settled_sound k r e w t i next (ends f) s n = n

round_sound : (e : Expr) (a : Span) (k : List Open) (t : Symbol) → Sound k → SoundNext (machine.expect_round Expr Exprs e a k t)
round_sound e a k (punct RoundClose z) s = s
round_sound e a k t s = tt

square_sound : (x : Name) (a : Span) (es : Exprs) (k : List Open) (t : Symbol) → Sound k → SoundNext (machine.expect_square Expr Exprs x a es k t)
square_sound x a es k (punct SquareClose z) s = s
square_sound x a es k t s = tt

colon_sound : (c : Expr) (v : Span) (e : Expr) (k : List Open) (t : Symbol) → asks k ≤ 0 → Sound k → SoundNext (machine.expect_colon Expr Exprs c v e k t)
colon_sound c v e k (punct Colon z) l s = (l, s)
colon_sound c v e k t l s = tt

ends_sound : (e : Expr) (w : Span) (t : Symbol) → SoundNext (machine.ends_at Expr Exprs e w t)
ends_sound e w (punct SquareOpen z) = tt
ends_sound e w t = tt

closes_sound : (k : List Open) (e : Expr) (w : Span) (t : Symbol) → Sound k → SoundNext (closes k e w t)
closes_sound [] e w t s = ends_sound e w t
closes_sound (sign a o ∷ k) e w t s = settled_sound k 7 (un o e (spanning a w)) (spanning a w) t (infix_of (asks k) 7 t) (closes k (un o e (spanning a w)) (spanning a w) t) (view (asks k) 7 t) s (closes_sound k (un o e (spanning a w)) (spanning a w) t s)
closes_sound (casts a y ∷ k) e w t s = settled_sound k 7 (cast y e (spanning a w)) (spanning a w) t (infix_of (asks k) 7 t) (closes k (cast y e (spanning a w)) (spanning a w) t) (view (asks k) 7 t) s (closes_sound k (cast y e (spanning a w)) (spanning a w) t s)
closes_sound (lhs f v o ∷ k) e w t s = settled_sound k (row o) (bin o f e (spanning v w)) (spanning v w) t (infix_of (asks k) (row o) t) (closes k (bin o f e (spanning v w)) (spanning v w) t) (view (asks k) (row o) t) s.1 (closes_sound k (bin o f e (spanning v w)) (spanning v w) t s.1)
closes_sound (round a ∷ k) e w t s = round_sound e a k t s
closes_sound (square x a es ∷ k) e w t s = square_sound x a (join_last es e) k t s
closes_sound (test c v ∷ k) e w t s = colon_sound c v e k t s.0 s.1
closes_sound (other c v f ∷ k) e w t s = settled_sound k 0 (cond c f e (spanning v w)) (spanning v w) t (infix_of (asks k) 0 t) (closes k (cond c f e (spanning v w)) (spanning v w) t) (view (asks k) 0 t) s.1 (closes_sound k (cond c f e (spanning v w)) (spanning v w) t s.1)

settle_sound : (k : List Open) (e : Expr) (w : Span) (t : Symbol) → Sound k → SoundNext (settle k e w t)
settle_sound k e w t s = settled_sound k 8 e w t (infix_of (asks k) 8 t) (closes k e w t) (view (asks k) 8 t) s (closes_sound k e w t s)

prefixed_sound : (k : List Open) (a : Span) (o : Option UnOp) → Sound k → SoundNext (machine.prefixed Expr Exprs o a k)
prefixed_sound k a None s = tt
prefixed_sound k a (Some o) s = s

begin_sound : (k : List Open) (t : Symbol) → Sound k → SoundNext (begin k t)
begin_sound k (number n y p a) s = s
begin_sound k (name x a) s = s
begin_sound k (punct RoundOpen a) s = s
begin_sound k t s = let x = t in prefixed_sound k (place x) (unary_of x) s

begin_round_sound : (a : Span) (k : List Open) (t : Symbol) → Sound k → SoundNext (begin_round a k t)
begin_round_sound a k (keyword Int z) s = s
begin_round_sound a k (keyword Long z) s = s
begin_round_sound a k t s = let x = t in begin_sound (round a ∷ k) x s

end_type_sound : (a : Span) (y : Ty) (k : List Open) (t : Symbol) → Sound k → SoundNext (machine.end_type Expr Exprs a y k t)
end_type_sound a y k (punct RoundClose z) s = s
end_type_sound a y k t s = tt

more_long_sound : (a : Span) (k : List Open) (t : Symbol) → Sound k → SoundNext (machine.more_long Expr Exprs a k t)
more_long_sound a k (keyword Long z) s = s
more_long_sound a k t s = tt

end_long_sound : (a : Span) (k : List Open) (t : Symbol) → Sound k → SoundNext (machine.end_long Expr Exprs a k t)
end_long_sound a k (keyword Int z) s = s
end_long_sound a k t s = let x = t in end_type_sound a ty.Long k x s

access_sound : (x : Name) (a : Span) (es : Exprs) (z : Span) (k : List Open) (t : Symbol) → Sound k → SoundNext (subscripted x a es z k t)
access_sound x a es z k (punct SquareOpen b) s = s
access_sound x a es z k t s = let y = t in settle_sound k (element x es (spanning a z)) (spanning a z) y s

pub step_sound : (s : State) (t : Symbol) → SoundState s → SoundNext (step s t)
step_sound (want k) t s = begin_sound k t s
step_sound (opened a k) t s = begin_round_sound a k t s
step_sound (half_long a k) t s = more_long_sound a k t s
step_sound (long a k) t s = end_long_sound a k t s
step_sound (typed a y k) t s = end_type_sound a y k t s
step_sound (access x a es z k) t s = access_sound x a es z k t s
step_sound (have e w k) t s = settle_sound k e w t s

-- the tokens of completions
abbrev nowhere : Span
nowhere = record { start = 0; end = 0 }

abbrev pub sign_token : Punct → Token
sign_token p = record { kind = kind.Punct p; span = nowhere }

abbrev pub zero_token : Token
zero_token = record { kind = kind.Number 0 ty.Int true; span = nowhere }

abbrev long_token : Token
long_token = record { kind = kind.Word (codes "long"); span = nowhere }

long_symbol : symbol long_token ≡ keyword Long nowhere
unfolding keyword_of
long_symbol = refl

abbrev zero : Expr
zero = num 0 ty.Int nowhere

module _ (P : Type 0) (F : P → Owed) (ends_so : (e : Expr) (w : Span) → (p : P) × (ts : List Token) × F p e w (symbols ts)) where
  -- every sound state has a completion
  pub record Completion (s : State) : Type 0 where
    pub tree : P
    pub tokens : List Token
    pub completes : Completes P F tree s (symbols tokens)

  record Filling (k : List Open) (e : Expr) (w : Span) : Type 0 where
    pub tree : P
    pub tokens : List Token
    pub fills : Fills P F tree k e w (symbols tokens)

  goes_filling : (k : List Open) (r : ℕ) (e : Expr) (w : Span) → asks k ≤ r → (f : Filling k e w) → Goes (asks k) (Fills P F f.tree k) r e w (symbols f.tokens)
  goes_filling k r e w b f = record { whole = e; stands = w; rest = symbols f.tokens; tail = stop b; after = f.fills }

  pass : (k k' : List Open) (r : ℕ) (e e' : Expr) (w w' : Span) → asks k ≤ r → ((p : P) (ts : List Symbol) → Goes (asks k) (Fills P F p k) r e w ts → Fills P F p k' e' w' ts) → Filling k e w → Filling k' e' w'
  pass k k' r e e' w w' b g f = record { tree = f.tree; tokens = f.tokens; fills = g f.tree (symbols f.tokens) (goes_filling k r e w b f) }

  fill : (k : List Open) (e : Expr) (w : Span) → Sound k → Filling k e w
  fill [] e w s = let g = ends_so e w in record { tree = g.0; tokens = g.1; fills = g.2 }
  fill (sign a o ∷ k) e w s = pass k (sign a o ∷ k) 7 (un o e (spanning a w)) e (spanning a w) w (asks_below k) (λ p ts h. h) (fill k (un o e (spanning a w)) (spanning a w) s)
  fill (casts a y ∷ k) e w s = pass k (casts a y ∷ k) 7 (cast y e (spanning a w)) e (spanning a w) w (asks_below k) (λ p ts h. h) (fill k (cast y e (spanning a w)) (spanning a w) s)
  fill (lhs f v o ∷ k) e w s = pass k (lhs f v o ∷ k) (row o) (bin o f e (spanning v w)) e (spanning v w) w s.0 (λ p ts h. h) (fill k (bin o f e (spanning v w)) (spanning v w) s.1)
  fill (round a ∷ k) e w s = let f = fill k e (spanning a nowhere) s in record { tree = f.tree; tokens = sign_token RoundClose ∷ f.tokens; fills = takes (goes_filling k 8 e (spanning a nowhere) (let b = asks_below k in omega arith) f) }
  fill (square x a es ∷ k) e w s =
      let made = element x (join (join_last es e) no_exprs) (spanning a nowhere) in
      let f = fill k made (spanning a nowhere) s in
      record { tree = f.tree; tokens = sign_token SquareClose ∷ f.tokens; fills = takes (record { all = no_exprs; stands = nowhere; rest = symbols f.tokens; subscripts = no_more; after = goes_filling k 8 made (spanning a nowhere) (let b = asks_below k in omega arith) f }) }
  fill (test c v ∷ k) e w s =
      let f = fill k (cond c e zero (spanning v nowhere)) (spanning v nowhere) s.1 in
      record { tree = f.tree; tokens = sign_token Colon ∷ zero_token ∷ f.tokens; fills = takes (record { whole = zero; stands = nowhere; rest = symbols f.tokens; phrase = literal; after = goes_filling k 0 (cond c e zero (spanning v nowhere)) (spanning v nowhere) s.0 f }) }
  fill (other c v f ∷ k) e w s = pass k (other c v f ∷ k) 0 (cond c f e (spanning v w)) e (spanning v w) w s.0 (λ p ts h. h) (fill k (cond c f e (spanning v w)) (spanning v w) s.1)

  record Wanting (k : List Open) : Type 0 where
    pub tree : P
    pub tokens : List Token
    pub wants : Completes P F tree (want k) (symbols tokens)

  wanted : (k : List Open) → Sound k → Wanting k
  wanted k s = let f = fill k zero nowhere s in record { tree = f.tree; tokens = zero_token ∷ f.tokens; wants = record { whole = zero; stands = nowhere; rest = symbols f.tokens; phrase = literal; after = f.fills } }

  pub complete : (s : State) → SoundState s → Completion s
  complete (want k) s = let c = wanted k s in record { tree = c.tree; tokens = c.tokens; completes = c.wants }
  complete (opened a k) s = let c = wanted (round a ∷ k) s in record { tree = c.tree; tokens = c.tokens; completes = inl c.wants }
  complete (half_long a k) s = let c = wanted (casts a ty.Long ∷ k) s in record { tree = c.tree; tokens = long_token ∷ sign_token RoundClose ∷ c.tokens; completes = subst (λ t. Completes P F c.tree (half_long a k) (t ∷ symbols (sign_token RoundClose ∷ c.tokens))) (sym long_symbol) (takes_word (inl (takes c.wants))) }
  complete (long a k) s = let c = wanted (casts a ty.Long ∷ k) s in record { tree = c.tree; tokens = sign_token RoundClose ∷ c.tokens; completes = inl (takes c.wants) }
  complete (typed a y k) s = let c = wanted (casts a y ∷ k) s in record { tree = c.tree; tokens = sign_token RoundClose ∷ c.tokens; completes = takes c.wants }
  complete (access x a es z k) s =
      let made = element x (join es no_exprs) (spanning a z) in
      let f = fill k made (spanning a z) s in
      record { tree = f.tree; tokens = f.tokens; completes = record { all = no_exprs; stands = z; rest = symbols f.tokens; subscripts = no_more; after = goes_filling k 8 made (spanning a z) (let b = asks_below k in omega arith) f } }
  complete (have e w k) s = let f = fill k e w s in record { tree = f.tree; tokens = f.tokens; completes = goes_filling k 8 e w (let b = asks_below k in omega arith) f }
