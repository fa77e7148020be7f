-- Which phrases are open never depends on what is built: a step of the state that is kept is what is kept of the step.
use Rattle.std.proofs.Common.{◌≡◌, ℕ, List, [], ◌∷◌, Option, Some, None, refl, sym, ap, ◌∙◌}
use Rattle.c_tree.specs.Bare.{Name}
use Rattle.c_tree.specs.declared.tree.Span.{Span}
use Rattle.c_tree.specs.declared.tree.Ty.{Ty}
use Rattle.c_tree.specs.declared.tree.Ty.TheVariants as ty
use Rattle.c_tree.specs.declared.tree.UnOp.{UnOp}
use Rattle.c_tree.specs.declared.tree.BinOp.{BinOp}
use Rattle.c_lexer.specs.declared.token.Punct.TheVariants.{RoundOpen, RoundClose, SquareOpen, SquareClose, Colon}
use Rattle.c_lexer.specs.declared.words.Keyword.TheVariants.{Int, Long}
use Rattle.pragma_grammar.specs.declared.open_phrase.Infix.{Infix}
use Rattle.pragma_grammar.specs.declared.open_phrase.Infix.TheVariants.{Between, Choice}
use Rattle.pragma_grammar.specs.Symbols.{Symbol, name, number, punct, keyword, place, spanning}
use Rattle.pragma_grammar.specs.Expressions.{unary_of, row}
use Rattle.pragma_grammar.specs.Machine as m
use Rattle.pragma_grammar.specs.Machine.{Algebra, Open, sign, casts, lhs, round, square, test, other, State, want, opened, half_long, long, typed, access, have, Move, stuck, leads, ended, asks, opens, settled, infix_of}

module _ (T L U M : Type 0) (A : Algebra T L) (B : Algebra U M) (f : T → U) (g : L → M) where
  -- what is built of the images is the image of what is built
  pub record Maps : Type 0 where
    pub num : (n : ℕ) (ty : Ty) (s : Span) → f (A.num n ty s) ≡ B.num n ty s
    pub element : (x : Name) (l : L) (s : Span) → f (A.element x l s) ≡ B.element x (g l) s
    pub un : (o : UnOp) (e : T) (s : Span) → f (A.un o e s) ≡ B.un o (f e) s
    pub bin : (o : BinOp) (e h : T) (s : Span) → f (A.bin o e h s) ≡ B.bin o (f e) (f h) s
    pub cond : (c e h : T) (s : Span) → f (A.cond c e h s) ≡ B.cond (f c) (f e) (f h) s
    pub cast : (ty : Ty) (e : T) (s : Span) → f (A.cast ty e s) ≡ B.cast ty (f e) s
    pub none : g A.no_subscripts ≡ B.no_subscripts
    pub more : (l : L) (e : T) → g (A.subscript l e) ≡ B.subscript (g l) (f e)

  abbrev pub map_open : Open T L → Open U M
  map_open (sign a o) = sign a o
  map_open (casts a ty) = casts a ty
  map_open (lhs e w o) = lhs (f e) w o
  map_open (round a) = round a
  map_open (square x a es) = square x a (g es)
  map_open (test c w) = test (f c) w
  map_open (other c w e) = other (f c) w (f e)

  abbrev pub map_opens : List (Open T L) → List (Open U M)
  map_opens [] = []
  map_opens (o ∷ k) = map_open o ∷ map_opens k

  abbrev pub map_state : State T L → State U M
  map_state (want k) = want (map_opens k)
  map_state (opened a k) = opened a (map_opens k)
  map_state (half_long a k) = half_long a (map_opens k)
  map_state (long a k) = long a (map_opens k)
  map_state (typed a ty k) = typed a ty (map_opens k)
  map_state (access x a es z k) = access x a (g es) z (map_opens k)
  map_state (have e w k) = have (f e) w (map_opens k)

  abbrev pub map_move : Move T L → Move U M
  map_move stuck = stuck
  map_move (leads s) = leads (map_state s)
  map_move (ended e w) = ended (f e) w

  asks_map : (k : List (Open T L)) → asks U M (map_opens k) ≡ asks T L k
  asks_map [] = refl
  asks_map (sign a o ∷ k) = refl
  asks_map (casts a ty ∷ k) = refl
  asks_map (lhs e w o ∷ k) = refl
  asks_map (round a ∷ k) = refl
  asks_map (square x a es ∷ k) = refl
  asks_map (test c w ∷ k) = refl
  asks_map (other c w e ∷ k) = refl

  by_infix : (i : Option Infix) (e : T) (w : Span) (k : List (Open T L)) (n : Move T L) (n' : Move U M) → map_move n ≡ n' → map_move (settled T L i e w k n) ≡ settled U M i (f e) w (map_opens k) n'
  by_infix None e w k n n' q = q
  by_infix (Some (Between o)) e w k n n' q = refl
  by_infix (Some Choice) e w k n n' q = refl

  -- after an operand whose image is `e'`
  settled_map : (r : ℕ) (e : T) (e' : U) (w : Span) (k : List (Open T L)) (t : Symbol) (n : Move T L) (n' : Move U M) → f e ≡ e' → map_move n ≡ n' → map_move (settled T L (infix_of (asks T L k) r t) e w k n) ≡ settled U M (infix_of (asks U M (map_opens k)) r t) e' w (map_opens k) n'
  settled_map r e e' w k t n n' p q =
      by_infix (infix_of (asks T L k) r t) e w k n n' q
      ∙ ap (λ s. settled U M (infix_of s r t) (f e) w (map_opens k) n') (sym (asks_map k))
      ∙ ap (λ z. settled U M (infix_of (asks U M (map_opens k)) r t) z w (map_opens k) n') p

  ends_map : (e : T) (w : Span) (t : Symbol) → map_move (m.ends_at T L e w t) ≡ m.ends_at U M (f e) w t
  ends_map e w (punct SquareOpen z) = refl
  ends_map e w t = refl

  round_map : (e : T) (a : Span) (k : List (Open T L)) (t : Symbol) → map_move (m.expect_round T L e a k t) ≡ m.expect_round U M (f e) a (map_opens k) t
  round_map e a k (punct RoundClose z) = refl
  round_map e a k t = refl

  square_map : (x : Name) (a : Span) (es : L) (k : List (Open T L)) (t : Symbol) → map_move (m.expect_square T L x a es k t) ≡ m.expect_square U M x a (g es) (map_opens k) t
  square_map x a es k (punct SquareClose z) = refl
  square_map x a es k t = refl

  colon_map : (c : T) (v : Span) (e : T) (k : List (Open T L)) (t : Symbol) → map_move (m.expect_colon T L c v e k t) ≡ m.expect_colon U M (f c) v (f e) (map_opens k) t
  colon_map c v e k (punct Colon z) = refl
  colon_map c v e k t = refl

  prefixed_map : (o : Option UnOp) (a : Span) (k : List (Open T L)) → map_move (m.prefixed T L o a k) ≡ m.prefixed U M o a (map_opens k)
  prefixed_map None a k = refl
  prefixed_map (Some o) a k = refl

  type_map : (a : Span) (ty : Ty) (k : List (Open T L)) (t : Symbol) → map_move (m.end_type T L a ty k t) ≡ m.end_type U M a ty (map_opens k) t
  type_map a ty k (punct RoundClose z) = refl
  type_map a ty k t = refl

  more_long_map : (a : Span) (k : List (Open T L)) (t : Symbol) → map_move (m.more_long T L a k t) ≡ m.more_long U M a (map_opens k) t
  more_long_map a k (keyword Long z) = refl
  more_long_map a k t = refl

  end_long_map : (a : Span) (k : List (Open T L)) (t : Symbol) → map_move (m.end_long T L a k t) ≡ m.end_long U M a (map_opens k) t
  end_long_map a k (keyword Int z) = refl
  end_long_map a k t = let z = t in type_map a ty.Long k z

  module _ (maps : Maps) where
    closes_map : (k : List (Open T L)) (e : T) (e' : U) (w : Span) (t : Symbol) → f e ≡ e' → map_move (m.closes T L A k e w t) ≡ m.closes U M B (map_opens k) e' w t
    closes_map [] e e' w t p = ends_map e w t ∙ ap (λ z. m.ends_at U M z w t) p
    closes_map (sign a o ∷ k) e e' w t p =
        let q = maps.un o e (spanning a w) ∙ ap (λ z. B.un o z (spanning a w)) p in
        settled_map 7 (A.un o e (spanning a w)) (B.un o e' (spanning a w)) (spanning a w) k t _ _ q (closes_map k (A.un o e (spanning a w)) (B.un o e' (spanning a w)) (spanning a w) t q)
    closes_map (casts a y ∷ k) e e' w t p =
        let q = maps.cast y e (spanning a w) ∙ ap (λ z. B.cast y z (spanning a w)) p in
        settled_map 7 (A.cast y e (spanning a w)) (B.cast y e' (spanning a w)) (spanning a w) k t _ _ q (closes_map k (A.cast y e (spanning a w)) (B.cast y e' (spanning a w)) (spanning a w) t q)
    closes_map (lhs h v o ∷ k) e e' w t p =
        let q = maps.bin o h e (spanning v w) ∙ ap (λ z. B.bin o (f h) z (spanning v w)) p in
        settled_map (row o) (A.bin o h e (spanning v w)) (B.bin o (f h) e' (spanning v w)) (spanning v w) k t _ _ q (closes_map k (A.bin o h e (spanning v w)) (B.bin o (f h) e' (spanning v w)) (spanning v w) t q)
    closes_map (round a ∷ k) e e' w t p = round_map e a k t ∙ ap (λ z. m.expect_round U M z a (map_opens k) t) p
    closes_map (square x a es ∷ k) e e' w t p =
        square_map x a (A.subscript es e) k t
        ∙ ap (λ z. m.expect_square U M x a z (map_opens k) t) (maps.more es e)
        ∙ ap (λ z. m.expect_square U M x a (B.subscript (g es) z) (map_opens k) t) p
    closes_map (test c v ∷ k) e e' w t p = colon_map c v e k t ∙ ap (λ z. m.expect_colon U M (f c) v z (map_opens k) t) p
    closes_map (other c v h ∷ k) e e' w t p =
        let q = maps.cond c h e (spanning v w) ∙ ap (λ z. B.cond (f c) (f h) z (spanning v w)) p in
        settled_map 0 (A.cond c h e (spanning v w)) (B.cond (f c) (f h) e' (spanning v w)) (spanning v w) k t _ _ q (closes_map k (A.cond c h e (spanning v w)) (B.cond (f c) (f h) e' (spanning v w)) (spanning v w) t q)

    settle_map : (e : T) (e' : U) (w : Span) (k : List (Open T L)) (t : Symbol) → f e ≡ e' → map_move (m.settle T L A 8 e w k t) ≡ m.settle U M B 8 e' w (map_opens k) t
    settle_map e e' w k t p = settled_map 8 e e' w k t _ _ p (closes_map k e e' w t p)

    begin_map : (k : List (Open T L)) (t : Symbol) → map_move (m.begin T L A k t) ≡ m.begin U M B (map_opens k) t
    begin_map k (number n y p a) = ap (λ z. leads (have z a (map_opens k))) (maps.num n y a)
    begin_map k (name x a) = ap (λ z. leads (access x a z a (map_opens k))) maps.none
    begin_map k (punct RoundOpen a) = refl
    begin_map k t = let z = t in prefixed_map (unary_of z) (place z) k

    begin_round_map : (a : Span) (k : List (Open T L)) (t : Symbol) → map_move (m.begin_round T L A a k t) ≡ m.begin_round U M B a (map_opens k) t
    begin_round_map a k (keyword Int z) = refl
    begin_round_map a k (keyword Long z) = refl
    begin_round_map a k t = let z = t in begin_map (round a ∷ k) z

    access_map : (x : Name) (a : Span) (es : L) (z : Span) (k : List (Open T L)) (t : Symbol) → map_move (m.subscripted T L A x a es z k t) ≡ m.subscripted U M B x a (g es) z (map_opens k) t
    access_map x a es z k (punct SquareOpen b) = refl
    access_map x a es z k t = let y = t in settle_map (A.element x es (spanning a z)) (B.element x (g es) (spanning a z)) (spanning a z) k y (maps.element x es (spanning a z))

    pub step_map : (s : State T L) (t : Symbol) → map_move (m.step T L A s t) ≡ m.step U M B (map_state s) t
    step_map (want k) t = begin_map k t
    step_map (opened a k) t = begin_round_map a k t
    step_map (half_long a k) t = more_long_map a k t
    step_map (long a k) t = end_long_map a k t
    step_map (typed a y k) t = type_map a y k t
    step_map (access x a es z k) t = access_map x a es z k t
    step_map (have e w k) t = settle_map e (f e) w k t refl
