-- A phrase's symbols spell it before any others.
use Rattle.std.proofs.Common.{◌≡◌, ℕ, List, [], ◌∷◌, ◌++◌, refl, sym, ap, ◌∙◌, subst, append_assoc}
use Rattle.c_tree.specs.Placed.{Expr, Exprs}
use Rattle.c_tree.specs.declared.tree.Span.{Span}
use Rattle.c_tree.specs.declared.tree.Ty.{Ty}
use Rattle.c_lexer.specs.declared.token.Punct.TheVariants.{RoundOpen, RoundClose, SquareOpen, SquareClose, Question, Colon}
use Rattle.c_lexer.specs.declared.words.Keyword.TheVariants.{Int, Long}
use Rattle.pragma_grammar.specs.Symbols.{Symbol, name, number, punct, keyword}
use Rattle.pragma_grammar.specs.Expressions.{TypeName, int, long_long, long_long_int, row, Phrase, literal, named, parens, unary, convert, binary, choice, Subscripts, no_more, one_more}

pub record Piece (r : ℕ) (e : Expr) (w : Span) (ts us : List Symbol) : Type 0 where
  pub piece : List Symbol
  pub parts : ts ≡ piece ++ us
  pub any : (vs : List Symbol) → Phrase r e w (piece ++ vs) vs

pub record Pieces (es : Exprs) (a z : Span) (ts us : List Symbol) : Type 0 where
  pub piece : List Symbol
  pub parts : ts ≡ piece ++ us
  pub any : (vs : List Symbol) → Subscripts es a z (piece ++ vs) vs

record TypePiece (ty : Ty) (ts us : List Symbol) : Type 0 where
  piece : List Symbol
  parts : ts ≡ piece ++ us
  any : (vs : List Symbol) → TypeName ty (piece ++ vs) vs

type_piece : {ty : Ty} {ts us : List Symbol} → TypeName ty ts us → TypePiece ty ts us
type_piece (int {a = a}) = record { piece = keyword Int a ∷ []; parts = refl; any = λ vs. int }
type_piece (long_long {a = a} {b = b}) = record { piece = keyword Long a ∷ keyword Long b ∷ []; parts = refl; any = λ vs. long_long }
type_piece (long_long_int {a = a} {b = b} {c = c}) = record { piece = keyword Long a ∷ keyword Long b ∷ keyword Int c ∷ []; parts = refl; any = λ vs. long_long_int }

-- two pieces with a symbol between them
glue : (p q us : List Symbol) (t : Symbol) (ts ms : List Symbol) → ts ≡ p ++ t ∷ ms → ms ≡ q ++ us → ts ≡ (p ++ t ∷ q) ++ us
glue p q us t ts ms a b = a ∙ ap (λ z. p ++ t ∷ z) b ∙ sym (append_assoc p (t ∷ q) us)

mutual
  pub piece_of : {r : ℕ} {e : Expr} {w : Span} {ts us : List Symbol} → Phrase r e w ts us → Piece r e w ts us
  piece_of (literal {n = n} {ty = y} {plain_zero = p} {a = a}) = record { piece = number n y p a ∷ []; parts = refl; any = λ vs. literal }
  piece_of (named {x = x} {a = a} h) = let q = pieces_of h in record { piece = name x a ∷ q.piece; parts = ap (λ z. name x a ∷ z) q.parts; any = λ vs. named (q.any vs) }
  piece_of (parens {r = r} {e = e} {a = a} {w = w} {z = z} {us = us} h) =
      let q = piece_of h in
      record {
        piece = punct RoundOpen a ∷ (q.piece ++ punct RoundClose z ∷ []);
        parts = ap (λ y. punct RoundOpen a ∷ y) (glue q.piece [] us (punct RoundClose z) _ us q.parts refl);
        any = λ vs. parens (subst (λ y. Phrase 0 e w y (punct RoundClose z ∷ vs)) (sym (append_assoc q.piece (punct RoundClose z ∷ []) vs)) (q.any (punct RoundClose z ∷ vs)));
      }
  piece_of (unary {t = t} u l h) = let q = piece_of h in record { piece = t ∷ q.piece; parts = ap (λ y. t ∷ y) q.parts; any = λ vs. unary u l (q.any vs) }
  piece_of (convert {ty = y} {a = a} {z = z} {vs = us} l n h) =
      let p = type_piece n in
      let q = piece_of h in
      record {
        piece = punct RoundOpen a ∷ (p.piece ++ punct RoundClose z ∷ q.piece);
        parts = ap (λ y. punct RoundOpen a ∷ y) (glue p.piece q.piece us (punct RoundClose z) _ _ p.parts q.parts);
        any = λ vs. convert l (subst (λ x. TypeName y x (punct RoundClose z ∷ q.piece ++ vs)) (sym (append_assoc p.piece (punct RoundClose z ∷ q.piece) vs)) (p.any (punct RoundClose z ∷ q.piece ++ vs))) (q.any vs);
      }
  piece_of (binary {t = t} {o = o} {e = e} {v = v} {vs = us} u l h k) =
      let p = piece_of h in
      let q = piece_of k in
      record {
        piece = p.piece ++ t ∷ q.piece;
        parts = glue p.piece q.piece us t _ _ p.parts q.parts;
        any = λ vs. binary u l (subst (λ x. Phrase (row o) e v x (t ∷ q.piece ++ vs)) (sym (append_assoc p.piece (t ∷ q.piece) vs)) (p.any (t ∷ q.piece ++ vs))) (q.any vs);
      }
  piece_of (choice {c = c} {e = e} {u = u} {v = v} {y = y} {z = z} {ws = us} l h i j) =
      let p = piece_of h in
      let q = piece_of i in
      let o = piece_of j in
      let ask = punct Question y in
      let colon = punct Colon z in
      record {
        piece = p.piece ++ ask ∷ (q.piece ++ colon ∷ o.piece);
        parts = glue p.piece (q.piece ++ colon ∷ o.piece) us ask _ _ p.parts (glue q.piece o.piece us colon _ _ q.parts o.parts);
        any = λ vs. choice l (subst (λ x. Phrase 1 c u x (ask ∷ (q.piece ++ colon ∷ o.piece) ++ vs)) (sym (append_assoc p.piece (ask ∷ (q.piece ++ colon ∷ o.piece)) vs)) (p.any (ask ∷ (q.piece ++ colon ∷ o.piece) ++ vs)))
            (subst (λ x. Phrase 0 e v x (colon ∷ o.piece ++ vs)) (sym (append_assoc q.piece (colon ∷ o.piece) vs)) (q.any (colon ∷ o.piece ++ vs)))
            (o.any vs);
      }

  pub pieces_of : {es : Exprs} {a z : Span} {ts us : List Symbol} → Subscripts es a z ts us → Pieces es a z ts us
  pieces_of no_more = record { piece = []; parts = refl; any = λ vs. no_more }
  pieces_of (one_more {e = e} {b = b} {w = w} {y = y} {vs = us} h a) =
      let p = piece_of h in
      let q = pieces_of a in
      let open_ = punct SquareOpen b in
      let close = punct SquareClose y in
      record {
        piece = open_ ∷ (p.piece ++ close ∷ q.piece);
        parts = ap (λ z. open_ ∷ z) (glue p.piece q.piece us close _ _ p.parts q.parts);
        any = λ vs. one_more (subst (λ x. Phrase 0 e w x (close ∷ q.piece ++ vs)) (sym (append_assoc p.piece (close ∷ q.piece) vs)) (p.any (close ∷ q.piece ++ vs))) (q.any vs);
      }
