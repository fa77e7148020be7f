-- One step: what completes the open phrases before it is what completes them after it.
use Rattle.std.proofs.Common.{◌≡◌, ℕ, List, [], ◌∷◌, Option, Some, None, refl, sym, ap, subst, arith, inl, inr}
use Rattle.c_tree.specs.Bare.{Name}
use Rattle.c_tree.specs.Placed.{Expr, num, un, bin, cond, cast, Exprs, no_exprs, more_exprs}
use Rattle.c_tree.specs.declared.tree.Span.{Span}
use Rattle.c_tree.specs.declared.tree.Ty.{Ty}
use Rattle.c_tree.specs.declared.tree.Ty.TheVariants as ty
use Rattle.c_tree.specs.declared.tree.UnOp.{UnOp}
use Rattle.c_lexer.specs.declared.token.Punct.TheVariants.{RoundOpen, RoundClose, SquareOpen, SquareClose, Colon, Plus, Minus, Bang}
use Rattle.c_lexer.specs.declared.words.Keyword.TheVariants.{Int, Long}
use Rattle.pragma_grammar.specs.Symbols.{Symbol, name, number, punct, keyword, place, spanning}
use Rattle.pragma_grammar.specs.Expressions.{TypeName, int, long_long, long_long_int, unary_of, row, element, Phrase, Subscripts, no_more, one_more}
use Rattle.pragma_grammar.specs.Machine as machine
use Rattle.pragma_grammar.specs.Machine.{sign, casts, lhs, round, square, test, other, want, opened, half_long, long, typed, access, have, leads, infix_of}
use Rattle.pragma_grammar.specs.Trees.{join, join_last, trees, Open, State, Move, asks, closes, step}
use Rattle.pragma_grammar.proofs.Tails.{with_tail, operand_phrase, Operand, head, lone, accessed, group, signed, cast_to}
use Rattle.pragma_grammar.proofs.Follows.{Owed, Goes, takes, takes_word, Fills, Wants, EndsType, EndsLong, Casts, Completes, Sound, SoundState, asks_below, view, Moves, past, past_goes, Past, by_square, goes_to, goes_from}

abbrev pub settle : List Open → Expr → Span → Symbol → Move
settle k e w t = machine.settle Expr Exprs trees 8 e w k t

abbrev pub begin : List Open → Symbol → Move
begin k t = machine.begin Expr Exprs trees k t

abbrev pub begin_round : Span → List Open → Symbol → Move
begin_round a k t = machine.begin_round Expr Exprs trees a k t

abbrev pub subscripted : Name → Span → Exprs → Span → List Open → Symbol → Move
subscripted x a es z k t = machine.subscripted Expr Exprs trees x a es z k t

no_unary : {o : UnOp} → None ≡ Some o → ⊥
no_unary q = cc

begin_sign : (k : List Open) (t : Symbol) (o : UnOp) → unary_of t ≡ Some o → begin k t ≡ leads (want (sign (place t) o ∷ k))
begin_sign k (punct Plus a) o q = ap (λ u. machine.prefixed Expr Exprs u a k) q
begin_sign k (punct Minus a) o q = ap (λ u. machine.prefixed Expr Exprs u a k) q
begin_sign k (punct Bang a) o q = ap (λ u. machine.prefixed Expr Exprs u a k) q
begin_sign k t o q = absurd (no_unary q)

pub join_none : (es : Exprs) → join es no_exprs ≡ es
join_none no_exprs = refl
join_none (more_exprs e es) = ap (more_exprs e) (join_none es)

pub join_more : (es : Exprs) (e : Expr) (fs : Exprs) → join (join_last es e) fs ≡ join es (more_exprs e fs)
join_more no_exprs e fs = refl
join_more (more_exprs a es) e fs = ap (more_exprs a) (join_more es e fs)

-- no subscript follows
abbrev Unsquare : Symbol → Type 0
Unsquare (punct SquareOpen a) = ⊥
Unsquare t = Unit {0}

module _ (P : Type 0) (F : P → Owed) where
  -- subscripts have ended, or go on
  abbrev Accesses : P → List Open → Name → Span → Exprs → Span → List Symbol → Type 0
  Accesses p k x a es y us = Goes (asks k) (Fills P F p k) 8 (element x es (spanning a y)) (spanning a y) us

  round_from : (p : P) (e : Expr) (w a : Span) (k : List Open) (t : Symbol) (ts : List Symbol) → Moves P F p (machine.expect_round Expr Exprs e a k t) t ts → Fills P F p (round a ∷ k) e w (t ∷ ts)
  round_from p e w a k (punct RoundClose z) ts h = takes h
  round_from p e w a k t ts h = absurd h

  square_from : (p : P) (x : Name) (a : Span) (es : Exprs) (e : Expr) (w : Span) (k : List Open) (t : Symbol) (ts : List Symbol) → Moves P F p (machine.expect_square Expr Exprs x a (join_last es e) k t) t ts → Fills P F p (square x a es ∷ k) e w (t ∷ ts)
  square_from p x a es e w k (punct SquareClose z) ts h = takes h
  square_from p x a es e w k t ts h = absurd h

  colon_from : (p : P) (c : Expr) (v : Span) (e : Expr) (w : Span) (k : List Open) (t : Symbol) (ts : List Symbol) → Moves P F p (machine.expect_colon Expr Exprs c v e k t) t ts → Fills P F p (test c v ∷ k) e w (t ∷ ts)
  colon_from p c v e w k (punct Colon z) ts h = takes h
  colon_from p c v e w k t ts h = absurd h

  ends_from : (p : P) (e : Expr) (w : Span) (t : Symbol) (ts : List Symbol) → Moves P F p (machine.ends_at Expr Exprs e w t) t ts → F p e w (t ∷ ts)
  ends_from p e w (punct SquareOpen z) ts h = absurd h
  ends_from p e w t ts h = h

  closes_from : (p : P) (k : List Open) (e : Expr) (w : Span) (t : Symbol) (ts : List Symbol) → Sound k → Moves P F p (closes k e w t) t ts → Fills P F p k e w (t ∷ ts)
  closes_from p [] e w t ts s h = ends_from p e w t ts h
  closes_from p (sign a o ∷ k) e w t ts s h = goes_from P F p k 7 (un o e (spanning a w)) (spanning a w) t ts (infix_of (asks k) 7 t) (closes k (un o e (spanning a w)) (spanning a w) t) (view (asks k) 7 t) (asks_below k) (closes_from p k (un o e (spanning a w)) (spanning a w) t ts s) h
  closes_from p (casts a y ∷ k) e w t ts s h = goes_from P F p k 7 (cast y e (spanning a w)) (spanning a w) t ts (infix_of (asks k) 7 t) (closes k (cast y e (spanning a w)) (spanning a w) t) (view (asks k) 7 t) (asks_below k) (closes_from p k (cast y e (spanning a w)) (spanning a w) t ts s) h
  closes_from p (lhs f v o ∷ k) e w t ts s h = goes_from P F p k (row o) (bin o f e (spanning v w)) (spanning v w) t ts (infix_of (asks k) (row o) t) (closes k (bin o f e (spanning v w)) (spanning v w) t) (view (asks k) (row o) t) s.0 (closes_from p k (bin o f e (spanning v w)) (spanning v w) t ts s.1) h
  closes_from p (round a ∷ k) e w t ts s h = round_from p e w a k t ts h
  closes_from p (square x a es ∷ k) e w t ts s h = square_from p x a es e w k t ts h
  closes_from p (test c v ∷ k) e w t ts s h = colon_from p c v e w k t ts h
  closes_from p (other c v f ∷ k) e w t ts s h = goes_from P F p k 0 (cond c f e (spanning v w)) (spanning v w) t ts (infix_of (asks k) 0 t) (closes k (cond c f e (spanning v w)) (spanning v w) t) (view (asks k) 0 t) s.0 (closes_from p k (cond c f e (spanning v w)) (spanning v w) t ts s.1) h

  settle_from : (p : P) (k : List Open) (e : Expr) (w : Span) (t : Symbol) (ts : List Symbol) → Sound k → Moves P F p (settle k e w t) t ts → Goes (asks k) (Fills P F p k) 8 e w (t ∷ ts)
  settle_from p k e w t ts s h = goes_from P F p k 8 e w t ts (infix_of (asks k) 8 t) (closes k e w t) (view (asks k) 8 t) (let b = asks_below k in omega arith) (closes_from p k e w t ts s) h

  -- an operand and what comes after it are the phrase that was wanted
  reads_from : (p : P) (k : List Open) (r : ℕ) (e : Expr) (w : Span) (ts us : List Symbol) → Operand r e w ts us → Goes (asks k) (Fills P F p k) r e w us → Wants P F p k ts
  reads_from p k r e w ts us o h = record { whole = h.whole; stands = h.stands; rest = h.rest; phrase = with_tail (operand_phrase (omega arith) o) h.tail; after = h.after }

  round_wants : (p : P) (a : Span) (k : List Open) (ts : List Symbol) → Wants P F p (round a ∷ k) ts → Wants P F p k (punct RoundOpen a ∷ ts)
  round_wants p a k ts h = go h.whole h.stands h.rest h.phrase h.after
    where
      go : (e : Expr) (w : Span) (us : List Symbol) → Phrase 0 e w ts us → Fills P F p (round a ∷ k) e w us → Wants P F p k (punct RoundOpen a ∷ ts)
      go e w us q (takes j) = reads_from p k 8 e _ _ _ (group q) j

  cast_wants : (p : P) (a : Span) (y : Ty) (k : List Open) (ts us : List Symbol) (z : Span) → TypeName y ts (punct RoundClose z ∷ us) → Wants P F p (casts a y ∷ k) us → Wants P F p k (punct RoundOpen a ∷ ts)
  cast_wants p a y k ts us z n h = reads_from p k 7 (cast y h.whole (spanning a h.stands)) _ _ h.rest (cast_to n h.phrase) h.after

  casts_from : (p : P) (a : Span) (k : List Open) (ts : List Symbol) → Casts P F p a k ts → Wants P F p k (punct RoundOpen a ∷ ts)
  casts_from p a k ts (inl (takes_word (takes h))) = cast_wants p a ty.Int k _ _ _ int h
  casts_from p a k ts (inr (takes_word (takes_word (inl (takes h))))) = cast_wants p a ty.Long k _ _ _ long_long h
  casts_from p a k ts (inr (takes_word (takes_word (inr (takes_word (takes h)))))) = cast_wants p a ty.Long k _ _ _ long_long_int h

  opened_from : (p : P) (a : Span) (k : List Open) (ts : List Symbol) → Completes P F p (opened a k) ts → Wants P F p k (punct RoundOpen a ∷ ts)
  opened_from p a k ts (inl h) = round_wants p a k ts h
  opened_from p a k ts (inr h) = casts_from p a k ts h

  sign_from : (p : P) (k : List Open) (t : Symbol) (ts : List Symbol) (o : Option UnOp) → unary_of t ≡ o → Moves P F p (machine.prefixed Expr Exprs o (place t) k) t ts → Wants P F p k (t ∷ ts)
  sign_from p k t ts None q h = absurd h
  sign_from p k t ts (Some o) q h = reads_from p k 7 (un o h.whole (spanning (place t) h.stands)) _ (t ∷ ts) h.rest (signed q h.phrase) h.after

  begin_from : (p : P) (k : List Open) (t : Symbol) (ts : List Symbol) → Moves P F p (begin k t) t ts → Wants P F p k (t ∷ ts)
  begin_from p k (number n y z a) ts h = reads_from p k 8 (num n y a) a _ ts lone h
  begin_from p k (name x a) ts h = reads_from p k 8 (element x h.all (spanning a h.stands)) _ _ h.rest (accessed h.subscripts) h.after
  begin_from p k (punct RoundOpen a) ts h = opened_from p a k ts h
  begin_from p k t ts h = let z = t in sign_from p k z ts (unary_of z) refl h

  begin_round_from : (p : P) (a : Span) (k : List Open) (t : Symbol) (ts : List Symbol) → Moves P F p (begin_round a k t) t ts → Completes P F p (opened a k) (t ∷ ts)
  begin_round_from p a k (keyword Int z) ts h = inr (inl (takes_word h))
  begin_round_from p a k (keyword Long z) ts h = inr (inr (takes_word h))
  begin_round_from p a k t ts h = let z = t in inl (begin_from p (round a ∷ k) z ts h)

  end_type_from : (p : P) (a : Span) (y : Ty) (k : List Open) (t : Symbol) (ts : List Symbol) → Moves P F p (machine.end_type Expr Exprs a y k t) t ts → EndsType P F p a y k (t ∷ ts)
  end_type_from p a y k (punct RoundClose z) ts h = takes h
  end_type_from p a y k t ts h = absurd h

  more_long_from : (p : P) (a : Span) (k : List Open) (t : Symbol) (ts : List Symbol) → Moves P F p (machine.more_long Expr Exprs a k t) t ts → Completes P F p (half_long a k) (t ∷ ts)
  more_long_from p a k (keyword Long z) ts h = takes_word h
  more_long_from p a k t ts h = absurd h

  end_long_from : (p : P) (a : Span) (k : List Open) (t : Symbol) (ts : List Symbol) → Moves P F p (machine.end_long Expr Exprs a k t) t ts → EndsLong P F p a k (t ∷ ts)
  end_long_from p a k (keyword Int z) ts h = inr (takes_word h)
  end_long_from p a k t ts h = let z = t in inl (end_type_from p a ty.Long k z ts h)

  access_end : (p : P) (x : Name) (a : Span) (es : Exprs) (z : Span) (k : List Open) (t : Symbol) (ts : List Symbol) → Sound k → Moves P F p (settle k (element x es (spanning a z)) (spanning a z) t) t ts → Completes P F p (access x a es z k) (t ∷ ts)
  access_end p x a es z k t ts s h = record { all = no_exprs; stands = z; rest = t ∷ ts; subscripts = no_more; after = subst (λ y. Accesses p k x a y z (t ∷ ts)) (sym (join_none es)) (settle_from p k (element x es (spanning a z)) (spanning a z) t ts s h) }

  square_access : (p : P) (x : Name) (a : Span) (es : Exprs) (z b : Span) (k : List Open) (ts : List Symbol) → Wants P F p (square x a es ∷ k) ts → Completes P F p (access x a es z k) (punct SquareOpen b ∷ ts)
  square_access p x a es z b k ts h = go h.whole h.stands h.rest h.phrase h.after
    where
      go : (e : Expr) (w : Span) (us : List Symbol) → Phrase 0 e w ts us → Fills P F p (square x a es ∷ k) e w us → Completes P F p (access x a es z k) (punct SquareOpen b ∷ ts)
      go e w us q (takes j) = record { all = more_exprs e j.all; stands = j.stands; rest = j.rest; subscripts = one_more q j.subscripts; after = subst (λ y. Accesses p k x a y j.stands j.rest) (join_more es e j.all) j.after }

  access_from : (p : P) (x : Name) (a : Span) (es : Exprs) (z : Span) (k : List Open) (t : Symbol) (ts : List Symbol) → Sound k → Moves P F p (subscripted x a es z k t) t ts → Completes P F p (access x a es z k) (t ∷ ts)
  access_from p x a es z k (punct SquareOpen b) ts s h = square_access p x a es z b k ts h
  access_from p x a es z k t ts s h = let y = t in access_end p x a es z k y ts s h

  pub step_from : (p : P) (s : State) (t : Symbol) (ts : List Symbol) → SoundState s → Moves P F p (step s t) t ts → Completes P F p s (t ∷ ts)
  step_from p (want k) t ts s h = begin_from p k t ts h
  step_from p (opened a k) t ts s h = begin_round_from p a k t ts h
  step_from p (half_long a k) t ts s h = more_long_from p a k t ts h
  step_from p (long a k) t ts s h = end_long_from p a k t ts h
  step_from p (typed a y k) t ts s h = end_type_from p a y k t ts h
  step_from p (access x a es z k) t ts s h = access_from p x a es z k t ts s h
  step_from p (have e w k) t ts s h = settle_from p k e w t ts s h

module _ (P : Type 0) (F : P → Owed) (bounds : (p : P) (e : Expr) (w : Span) (t : Symbol) (ts : List Symbol) → F p e w (t ∷ ts) → Past 0 t → ⊥) where
  ends_to : (p : P) (e : Expr) (w : Span) (t : Symbol) (ts : List Symbol) → F p e w (t ∷ ts) → Moves P F p (machine.ends_at Expr Exprs e w t) t ts
  ends_to p e w (punct SquareOpen z) ts h = bounds p e w (punct SquareOpen z) ts h by_square
  ends_to p e w t ts h = h

  closes_to : (p : P) (k : List Open) (e : Expr) (w : Span) (t : Symbol) (ts : List Symbol) → Fills P F p k e w (t ∷ ts) → Moves P F p (closes k e w t) t ts
  closes_to p [] e w t ts h = ends_to p e w t ts h
  closes_to p (sign a o ∷ k) e w t ts h = goes_to P F bounds p k 7 (un o e (spanning a w)) (spanning a w) t ts (infix_of (asks k) 7 t) (closes k (un o e (spanning a w)) (spanning a w) t) (view (asks k) 7 t) (closes_to p k (un o e (spanning a w)) (spanning a w) t ts) h
  closes_to p (casts a y ∷ k) e w t ts h = goes_to P F bounds p k 7 (cast y e (spanning a w)) (spanning a w) t ts (infix_of (asks k) 7 t) (closes k (cast y e (spanning a w)) (spanning a w) t) (view (asks k) 7 t) (closes_to p k (cast y e (spanning a w)) (spanning a w) t ts) h
  closes_to p (lhs f v o ∷ k) e w t ts h = goes_to P F bounds p k (row o) (bin o f e (spanning v w)) (spanning v w) t ts (infix_of (asks k) (row o) t) (closes k (bin o f e (spanning v w)) (spanning v w) t) (view (asks k) (row o) t) (closes_to p k (bin o f e (spanning v w)) (spanning v w) t ts) h
  closes_to p (round a ∷ k) e w t ts (takes h) = h
  closes_to p (square x a es ∷ k) e w t ts (takes h) = h
  closes_to p (test c v ∷ k) e w t ts (takes h) = h
  closes_to p (other c v f ∷ k) e w t ts h = goes_to P F bounds p k 0 (cond c f e (spanning v w)) (spanning v w) t ts (infix_of (asks k) 0 t) (closes k (cond c f e (spanning v w)) (spanning v w) t) (view (asks k) 0 t) (closes_to p k (cond c f e (spanning v w)) (spanning v w) t ts) h

  settle_to : (p : P) (k : List Open) (e : Expr) (w : Span) (t : Symbol) (ts : List Symbol) → Goes (asks k) (Fills P F p k) 8 e w (t ∷ ts) → Moves P F p (settle k e w t) t ts
  settle_to p k e w t ts h = goes_to P F bounds p k 8 e w t ts (infix_of (asks k) 8 t) (closes k e w t) (view (asks k) 8 t) (closes_to p k e w t ts) h

  -- a type's name after `(`
  casts_to : (p : P) (a : Span) (y : Ty) (k : List Open) (ts us : List Symbol) (z : Span) → TypeName y ts (punct RoundClose z ∷ us) → Wants P F p (casts a y ∷ k) us → Casts P F p a k ts
  casts_to p a y k ts us z int h = inl (takes_word (takes h))
  casts_to p a y k ts us z long_long h = inr (takes_word (takes_word (inl (takes h))))
  casts_to p a y k ts us z long_long_int h = inr (takes_word (takes_word (inr (takes_word (takes h)))))

  -- the first symbol of a phrase
  operand_to : (p : P) (k : List Open) (t : Symbol) (ts : List Symbol) {r : ℕ} {e : Expr} {w : Span} {us : List Symbol} → Operand r e w (t ∷ ts) us → Goes (asks k) (Fills P F p k) r e w us → Moves P F p (begin k t) t ts
  operand_to p k t ts lone h = h
  operand_to p k t ts (accessed {es = es} q) h = record { all = es; stands = _; rest = _; subscripts = q; after = h }
  operand_to p k t ts (group {e = e} q) h = inl (record { whole = e; stands = _; rest = _; phrase = q; after = takes h })
  operand_to p k t ts (signed {o = o} {e = e} q x) h = subst (λ m. Moves P F p m t ts) (sym (begin_sign k t o q)) (record { whole = e; stands = _; rest = _; phrase = x; after = h })
  operand_to p k t ts (cast_to {ty = y} {e = e} {a = a} {z = z} {us = vs} n x) h = inr (casts_to p a y k ts vs z n (record { whole = e; stands = _; rest = _; phrase = x; after = h }))

  begin_to : (p : P) (k : List Open) (t : Symbol) (ts : List Symbol) → Wants P F p k (t ∷ ts) → Moves P F p (begin k t) t ts
  begin_to p k t ts h = let d = head (asks_below k) h.phrase in operand_to p k t ts d.operand (record { whole = h.whole; stands = h.stands; rest = h.rest; tail = d.tail; after = h.after })

  begin_round_to : (p : P) (a : Span) (k : List Open) (t : Symbol) (ts : List Symbol) → Completes P F p (opened a k) (t ∷ ts) → Moves P F p (begin_round a k t) t ts
  begin_round_to p a k (keyword Int z) ts (inl h) = absurd (begin_to p (round a ∷ k) (keyword Int z) ts h)
  begin_round_to p a k (keyword Long z) ts (inl h) = absurd (begin_to p (round a ∷ k) (keyword Long z) ts h)
  begin_round_to p a k t ts (inl h) = let z = t in begin_to p (round a ∷ k) z ts h
  begin_round_to p a k t ts (inr (inl (takes_word h))) = h
  begin_round_to p a k t ts (inr (inr (takes_word h))) = h

  end_type_to : (p : P) (a : Span) (y : Ty) (k : List Open) (t : Symbol) (ts : List Symbol) → EndsType P F p a y k (t ∷ ts) → Moves P F p (machine.end_type Expr Exprs a y k t) t ts
  end_type_to p a y k t ts (takes h) = h

  more_long_to : (p : P) (a : Span) (k : List Open) (t : Symbol) (ts : List Symbol) → Completes P F p (half_long a k) (t ∷ ts) → Moves P F p (machine.more_long Expr Exprs a k t) t ts
  more_long_to p a k t ts (takes_word h) = h

  end_long_to : (p : P) (a : Span) (k : List Open) (t : Symbol) (ts : List Symbol) → EndsLong P F p a k (t ∷ ts) → Moves P F p (machine.end_long Expr Exprs a k t) t ts
  end_long_to p a k t ts (inl (takes h)) = h
  end_long_to p a k t ts (inr (takes_word h)) = h

  unsquared : (p : P) (x : Name) (a : Span) (es : Exprs) (k : List Open) (t : Symbol) (ts : List Symbol) → Unsquare t → (fs : Exprs) (z y : Span) (us : List Symbol) → Subscripts fs z y (t ∷ ts) us → Accesses P F p k x a (join es fs) y us → Accesses P F p k x a es z (t ∷ ts)
  unsquared p x a es k t ts n fs z y us no_more h = subst (λ g. Accesses P F p k x a g z (t ∷ ts)) (join_none es) h
  unsquared p x a es k t ts n fs z y us (one_more w q) h = absurd n

  access_plain : (p : P) (x : Name) (a : Span) (es : Exprs) (z : Span) (k : List Open) (t : Symbol) (ts : List Symbol) → Unsquare t → Completes P F p (access x a es z k) (t ∷ ts) → Moves P F p (settle k (element x es (spanning a z)) (spanning a z) t) t ts
  access_plain p x a es z k t ts n h = settle_to p k (element x es (spanning a z)) (spanning a z) t ts (unsquared p x a es k t ts n h.all z h.stands h.rest h.subscripts h.after)

  access_square : (p : P) (x : Name) (a : Span) (es : Exprs) (k : List Open) (b : Span) (ts : List Symbol) (fs : Exprs) (z y : Span) (us : List Symbol) → Subscripts fs z y (punct SquareOpen b ∷ ts) us → Accesses P F p k x a (join es fs) y us → Wants P F p (square x a es ∷ k) ts
  access_square p x a es k b ts fs z y us no_more h = absurd (past_goes (asks k) 8 (Fills P F p k) (element x (join es no_exprs) (spanning a z)) (spanning a z) (punct SquareOpen b) ts by_square (λ e' w'. past P F bounds p k e' w' (punct SquareOpen b) ts) h)
  access_square p x a es k b ts fs z y us (one_more {e = e} {es = fs'} w q) h = record { whole = e; stands = _; rest = _; phrase = w; after = takes (record { all = fs'; stands = y; rest = us; subscripts = q; after = subst (λ g. Accesses P F p k x a g y us) (sym (join_more es e fs')) h }) }

  access_to : (p : P) (x : Name) (a : Span) (es : Exprs) (z : Span) (k : List Open) (t : Symbol) (ts : List Symbol) → Completes P F p (access x a es z k) (t ∷ ts) → Moves P F p (subscripted x a es z k t) t ts
  access_to p x a es z k (punct SquareOpen b) ts h = access_square p x a es k b ts h.all z h.stands h.rest h.subscripts h.after
  access_to p x a es z k t ts h = let y = t in access_plain p x a es z k y ts tt h

  pub step_to : (p : P) (s : State) (t : Symbol) (ts : List Symbol) → Completes P F p s (t ∷ ts) → Moves P F p (step s t) t ts
  step_to p (want k) t ts h = begin_to p k t ts h
  step_to p (opened a k) t ts h = begin_round_to p a k t ts h
  step_to p (half_long a k) t ts h = more_long_to p a k t ts h
  step_to p (long a k) t ts h = end_long_to p a k t ts h
  step_to p (typed a y k) t ts h = end_type_to p a y k t ts h
  step_to p (access x a es z k) t ts h = access_to p x a es z k t ts h
  step_to p (have e w k) t ts h = settle_to p k e w t ts h
