-- Symbols begin at most one whole expression, whatever follows it.
use Rattle.std.proofs.Common.{◌≡◌, ℕ, List, [], ◌∷◌, ◌++◌, refl, sym, ap, ◌∙◌, subst, inl, inr}
use Rattle.std.proofs.lemmas.List.{append_cancel_right}
use Rattle.c_tree.specs.Placed.{Expr, Exprs, un, bin, cond, cast}
use Rattle.c_tree.specs.declared.tree.Span.{Span}
use Rattle.c_lexer.specs.declared.token.Token.{Token}
use Rattle.pragma_grammar.specs.Symbols.{Symbol, symbol, symbols, spanning}
use Rattle.pragma_grammar.specs.Expressions.{Phrase, binary, choice, Subscripts, no_more, row, element}
use Rattle.pragma_grammar.specs.Machine.{sign, casts, lhs, round, square, test, other, want, opened, half_long, long, typed, access, have, stuck, leads, ended}
use Rattle.pragma_grammar.specs.Trees.{Open, State, Move, asks, step, join}
use Rattle.pragma_grammar.specs.Reading.{GoesOn, by_operator, by_question, by_square, Stops, stops}
use Rattle.pragma_grammar.proofs.Tails.{Tail, stop}
use Rattle.pragma_grammar.proofs.Follows
use Rattle.pragma_grammar.proofs.Follows.{Owed, Goes, Past}
use Rattle.pragma_grammar.proofs.Steps
use Rattle.pragma_grammar.proofs.Pieces.{piece_of}

-- ---- no symbols complete no state

pub phrase_some : {r : ℕ} {e : Expr} {w : Span} {us : List Symbol} → Phrase r e w [] us → ⊥
phrase_some (binary q l h k) = phrase_some h
phrase_some (choice l h i j) = phrase_some h

tail_none : (f : Owed) (s r : ℕ) (e e' : Expr) (w w' : Span) (us : List Symbol) → ((e' : Expr) (w' : Span) → f e' w' [] → ⊥) → Tail s e' w' us r e w [] → f e' w' us → ⊥
tail_none f s r e e' w w' us n (stop l) h = n e w h

goes_none : (f : Owed) (s r : ℕ) (e : Expr) (w : Span) → ((e' : Expr) (w' : Span) → f e' w' [] → ⊥) → Goes s f r e w [] → ⊥
goes_none f s r e w n g = tail_none f s r e g.whole w g.stands g.rest n g.tail g.after

indices_none : (f : Exprs → Span → List Symbol → Type 0) (a : Span) (es : Exprs) (z : Span) (us : List Symbol) → ((es : Exprs) (y : Span) → f es y [] → ⊥) → Subscripts es a z [] us → f es z us → ⊥
indices_none f a es z us n no_more h = n es z h

module _ (P : Type 0) (F : P → Owed) (none : (p : P) (e : Expr) (w : Span) → F p e w [] → ⊥) where
  abbrev Fills : P → List Open → Owed
  Fills p k = Follows.Fills P F p k

  fills_none : (p : P) (k : List Open) (e : Expr) (w : Span) → Fills p k e w [] → ⊥
  fills_none p [] e w h = none p e w h
  fills_none p (sign a o ∷ k) e w h = goes_none (Fills p k) (asks k) 7 (un o e (spanning a w)) (spanning a w) (λ e' w'. fills_none p k e' w') h
  fills_none p (casts a t ∷ k) e w h = goes_none (Fills p k) (asks k) 7 (cast t e (spanning a w)) (spanning a w) (λ e' w'. fills_none p k e' w') h
  fills_none p (lhs f v o ∷ k) e w h = goes_none (Fills p k) (asks k) (row o) (bin o f e (spanning v w)) (spanning v w) (λ e' w'. fills_none p k e' w') h
  fills_none p (round a ∷ k) e w h = elim h [ ]
  fills_none p (square x a es ∷ k) e w h = elim h [ ]
  fills_none p (test c v ∷ k) e w h = elim h [ ]
  fills_none p (other c v f ∷ k) e w h = goes_none (Fills p k) (asks k) 0 (cond c f e (spanning v w)) (spanning v w) (λ e' w'. fills_none p k e' w') h

  completes_none : (p : P) (s : State) → Follows.Completes P F p s [] → ⊥
  completes_none p (want k) h = phrase_some h.phrase
  completes_none p (opened a k) (inl h) = phrase_some h.phrase
  completes_none p (opened a k) (inr (inl h)) = elim h [ ]
  completes_none p (opened a k) (inr (inr h)) = elim h [ ]
  completes_none p (half_long a k) h = elim h [ ]
  completes_none p (long a k) (inl h) = elim h [ ]
  completes_none p (long a k) (inr h) = elim h [ ]
  completes_none p (typed a t k) h = elim h [ ]
  completes_none p (access x a es z k) h = indices_none (λ fs y us. Goes (asks k) (Fills p k) 8 (element x (join es fs) (spanning a y)) (spanning a y) us) z h.all h.stands h.rest (λ fs y g. goes_none (Fills p k) (asks k) 8 (element x (join es fs) (spanning a y)) (spanning a y) (λ e' w'. fills_none p k e' w') g) h.subscripts h.after
  completes_none p (have e w k) h = goes_none (Fills p k) (asks k) 8 e w (λ e' w'. fills_none p k e' w') h

-- ---- one whole expression

record Read : Type 0 where
  tree : Expr
  stands : Span
  rest : List Symbol

record Stopped (p : Read) (e : Expr) (w : Span) (us : List Symbol) : Type 0 where
  tree : p.tree ≡ e
  stands : p.stands ≡ w
  rest : p.rest ≡ us
  stops : Stops us

past_on : {t : Symbol} → Past 0 t → GoesOn t
past_on (Follows.by_operator q l) = by_operator q
past_on (Follows.by_question l) = by_question
past_on Follows.by_square = by_square

no_stop : {t : Symbol} {ts : List Symbol} → Stops (t ∷ ts) → Past 0 t → ⊥
no_stop (stops f) h = f (past_on h)

bounds : (p : Read) (e : Expr) (w : Span) (t : Symbol) (ts : List Symbol) → Stopped p e w (t ∷ ts) → Past 0 t → ⊥
bounds p e w t ts h k = no_stop h.stops k

no_end : (p : Read) (e : Expr) (w : Span) → Stopped p e w [] → ⊥
no_end p e w h = elim h.stops [ ]

record Same (p q : Read) : Type 0 where
  tree : p.tree ≡ q.tree
  stands : p.stands ≡ q.stands
  rest : p.rest ≡ q.rest

abbrev Completes : Read → State → List Symbol → Type 0
Completes p s ts = Follows.Completes Read Stopped p s ts

abbrev Moves : Read → Move → Symbol → List Symbol → Type 0
Moves p m t ts = Follows.Moves Read Stopped p m t ts

same_move : (p q : Read) (t : Symbol) (ts : List Symbol) (m : Move) → ((s : State) → Completes p s ts → Completes q s ts → Same p q) → Moves p m t ts → Moves q m t ts → Same p q
same_move p q t ts stuck ih h g = absurd h
same_move p q t ts (leads s) ih h g = ih s h g
same_move p q t ts (ended e w) ih h g = record { tree = h.tree ∙ sym g.tree; stands = h.stands ∙ sym g.stands; rest = h.rest ∙ sym g.rest }

same : (p q : Read) (ts : List Symbol) (s : State) → Completes p s ts → Completes q s ts → Same p q
same p q [] s h g = absurd (completes_none Read Stopped no_end p s h)
same p q (t ∷ ts) s h g = same_move p q t ts (step s t) (same p q ts) (Steps.step_to Read Stopped bounds p s t ts h) (Steps.step_to Read Stopped bounds q s t ts g)

begun : (e : Expr) (w : Span) (ts us : List Symbol) → Phrase 0 e w ts us → Stops us → Completes (record { tree = e; stands = w; rest = us }) (want []) ts
begun e w ts us h k = record { whole = e; stands = w; rest = us; phrase = h; after = record { tree = refl; stands = refl; rest = refl; stops = k } }

pair_same : (e f : Expr) (v w : Span) → e ≡ f → v ≡ w → (let x : Expr × Span = (e, v) in x) ≡ (f, w)
pair_same e f v w q r = subst (λ x. (let y : Expr × Span = (e, v) in y) ≡ (x, w)) q (ap (λ x. (let y : Expr × Span = (e, x) in y)) r)

pub one_expr : (p q : Expr × Span) (ts us vs : List Symbol) → Phrase 0 p.0 p.1 ts us → Stops us → Phrase 0 q.0 q.1 ts vs → Stops vs → (p ≡ q) × (us ≡ vs)
one_expr p q ts us vs h k i j =
    let s = same (record { tree = p.0; stands = p.1; rest = us }) (record { tree = q.0; stands = q.1; rest = vs }) ts (want []) (begun p.0 p.1 ts us h k) (begun q.0 q.1 ts vs i j) in
    (pair_same p.0 q.0 p.1 q.1 s.tree s.stands, s.rest)

-- ---- in tokens

pub symbols_append : (xs ys : List Token) → symbols (xs ++ ys) ≡ symbols xs ++ symbols ys
symbols_append [] ys = refl
symbols_append (x ∷ xs) ys = ap (λ l. symbol x ∷ l) (symbols_append xs ys)

-- a phrase's tokens spell it before any symbols
pub expr_any : (p : Expr × Span) (xs ys : List Token) → Phrase 0 p.0 p.1 (symbols (xs ++ ys)) (symbols ys) → (vs : List Symbol) → Phrase 0 p.0 p.1 (symbols xs ++ vs) vs
expr_any e xs ys h vs =
    let p = piece_of h in
    let q : p.piece ≡ symbols xs = append_cancel_right p.piece (symbols xs) (symbols ys) (sym p.parts ∙ symbols_append xs ys) in
    subst (λ x. Phrase 0 e.0 e.1 (x ++ vs) vs) q (p.any vs)

-- what stops it stops it before any further symbols
pub stops_any : (t : Symbol) (ts us : List Symbol) → Stops (t ∷ ts) → Stops (t ∷ us)
stops_any t ts us (stops f) = stops f
