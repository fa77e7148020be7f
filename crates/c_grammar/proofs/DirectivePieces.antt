-- A directive's symbols spell it before any others.
use Rattle.std.proofs.Common.{◌≡◌, refl, sym, ap, ◌∙◌, subst, Bool, true, List, [], ◌∷◌, ◌++◌, append_assoc}
use Rattle.std.proofs.lemmas.List.{append_cancel_right}
use Rattle.c_tree.specs.Bare.{Name}
use Rattle.c_tree.specs.Placed.{Expr, Exprs, Count, Directive, Clauses, ClauseKind, Items, Item}
use Rattle.c_tree.specs.declared.tree.Span.{Span}
use Rattle.c_lexer.specs.declared.token.Token.{Token}
use Rattle.c_lexer.specs.declared.token.Punct.TheVariants as pn
use Rattle.c_lexer.specs.declared.words.Keyword.TheVariants.{OmpFill}
use Rattle.pragma_grammar.specs.Symbols.{Symbol, symbols, name, punct, keyword}
use Rattle.pragma_grammar.specs.Expressions.{Phrase, Listed, last, next}
use Rattle.pragma_grammar.specs.Directives.{Counted, fills, gives, CountsListed, last_count, next_count, ClausePhrase, sizes_clause, permutation_clause, counts_clause, looprange_clause, full_clause, partial_clause, partial_factor, apply_items, apply_modified, apply_indexed, ClausesPhrase, no_clause, one_clause, after_comma, DirectivePhrase, directive_phrase, ItemPhrase, does_nothing, directs, ItemsListed, last_item, next_item}
use Rattle.pragma_grammar.specs.Reading.{EndsLine, ends_line}
use Rattle.pragma_grammar.proofs.Pieces.{piece_of}
use Rattle.c_grammar.proofs.Letters.{symbols_append}

abbrev Spelling : Type 1
Spelling = List Symbol → List Symbol → Type 0

-- the symbols before the end spell the same before any others
pub record Free (r : Spelling) (ts us : List Symbol) : Type 0 where
  pub piece : List Symbol
  pub parts : ts ≡ piece ++ us
  pub any : (vs : List Symbol) → r (piece ++ vs) vs

none : (r : Spelling) (ts : List Symbol) → ((vs : List Symbol) → r vs vs) → Free r ts ts
none r ts h = record { piece = []; parts = refl; any = h }

also : (r s : Spelling) (ts us : List Symbol) → ((xs ys : List Symbol) → r xs ys → s xs ys) → Free r ts us → Free s ts us
also r s ts us i f = record { piece = f.piece; parts = f.parts; any = λ vs. i (f.piece ++ vs) vs (f.any vs) }

first : (r s : Spelling) (t : Symbol) (ts us : List Symbol) → ((xs ys : List Symbol) → r xs ys → s (t ∷ xs) ys) → Free r ts us → Free s (t ∷ ts) us
first r s t ts us i f = record { piece = t ∷ f.piece; parts = ap (λ z. t ∷ z) f.parts; any = λ vs. i (f.piece ++ vs) vs (f.any vs) }

then : (r q s : Spelling) (ts ms us : List Symbol) → ((xs zs ys : List Symbol) → r xs zs → q zs ys → s xs ys) → Free r ts ms → Free q ms us → Free s ts us
then r q s ts ms us i f g =
    record {
      piece = f.piece ++ g.piece;
      parts = f.parts ∙ ap (λ z. f.piece ++ z) g.parts ∙ sym (append_assoc f.piece g.piece us);
      any = λ vs. i ((f.piece ++ g.piece) ++ vs) (g.piece ++ vs) vs (subst (λ z. r z (g.piece ++ vs)) (sym (append_assoc f.piece g.piece vs)) (f.any (g.piece ++ vs))) (g.any vs);
    }

-- with a symbol taken first
abbrev Past : Symbol → Spelling → Spelling
Past t r xs ys = r xs (t ∷ ys)

-- a spelling before a symbol, and the symbol
past : (r : Spelling) (t : Symbol) (ts us : List Symbol) → Free r ts (t ∷ us) → Free (Past t r) ts us
past r t ts us f =
    record {
      piece = f.piece ++ t ∷ [];
      parts = f.parts ∙ sym (append_assoc f.piece (t ∷ []) us);
      any = λ vs. subst (λ z. r z (t ∷ vs)) (sym (append_assoc f.piece (t ∷ []) vs)) (f.any (t ∷ vs));
    }

phrase_free : {e : Expr} {w : Span} {ts us : List Symbol} → Phrase 0 e w ts us → Free (Phrase 0 e w) ts us
phrase_free h = let p = piece_of h in record { piece = p.piece; parts = p.parts; any = p.any }

listed_free : {es : Exprs} {ts us : List Symbol} → Listed es ts us → Free (Listed es) ts us
listed_free (last h) = also _ _ _ _ (λ xs ys k. last k) (phrase_free h)
listed_free (next {e = e} {es = es} {w = w} {z = z} h i) = then (Past (punct pn.Comma z) (Phrase 0 e w)) (Listed es) _ _ _ _ (λ xs zs ys k l. next k l) (past (Phrase 0 e w) (punct pn.Comma z) _ _ (phrase_free h)) (listed_free i)

counted_free : {c : Count} {ts us : List Symbol} → Counted c ts us → Free (Counted c) ts us
counted_free (fills {a = a}) = record { piece = keyword OmpFill a ∷ []; parts = refl; any = λ vs. fills }
counted_free (gives h) = also _ _ _ _ (λ xs ys k. gives k) (phrase_free h)

counts_free : {cs : List Count} {ts us : List Symbol} → CountsListed cs ts us → Free (CountsListed cs) ts us
counts_free (last_count h) = also _ _ _ _ (λ xs ys k. last_count k) (counted_free h)
counts_free (next_count {c = c} {cs = cs} {z = z} h i) = then (Past (punct pn.Comma z) (Counted c)) (CountsListed cs) _ _ _ _ (λ xs zs ys k l. next_count k l) (past (Counted c) (punct pn.Comma z) _ _ (counted_free h)) (counts_free i)

-- after a name and `(`
opened : (r s : Spelling) (x : Name) (a b : Span) (ts us : List Symbol) → ((xs ys : List Symbol) → r xs ys → s (name x a ∷ punct pn.RoundOpen b ∷ xs) ys) → Free r ts us → Free s (name x a ∷ punct pn.RoundOpen b ∷ ts) us
opened r s x a b ts us i f = first (λ xs ys. s (name x a ∷ xs) ys) s (name x a) (punct pn.RoundOpen b ∷ ts) us (λ xs ys h. h) (first r (λ xs ys. s (name x a ∷ xs) ys) (punct pn.RoundOpen b) ts us i f)

-- after a modifier
modified : (r s : Spelling) (x m : Name) (a b c : Span) (t : Symbol) (ts us : List Symbol) → ((xs ys : List Symbol) → r xs ys → s (name x a ∷ punct pn.RoundOpen b ∷ name m c ∷ t ∷ xs) ys) → Free r ts us → Free s (name x a ∷ punct pn.RoundOpen b ∷ name m c ∷ t ∷ ts) us
modified r s x m a b c t ts us i f =
    opened (λ xs ys. s (name x a ∷ punct pn.RoundOpen b ∷ xs) ys) s x a b (name m c ∷ t ∷ ts) us (λ xs ys h. h)
    (first (λ xs ys. s (name x a ∷ punct pn.RoundOpen b ∷ name m c ∷ xs) ys) (λ xs ys. s (name x a ∷ punct pn.RoundOpen b ∷ xs) ys) (name m c) (t ∷ ts) us (λ xs ys h. h)
    (first r (λ xs ys. s (name x a ∷ punct pn.RoundOpen b ∷ name m c ∷ xs) ys) t ts us i f))

mutual
  clause_free : {k : ClauseKind} {w : Span} {ts us : List Symbol} → ClausePhrase k w ts us → Free (ClausePhrase k w) ts us
  clause_free {k = k} {w = w} (sizes_clause {x = x} {es = es} {a = a} {b = b} {z = z} q h) = opened (Past (punct pn.RoundClose z) (Listed es)) (ClausePhrase k w) x a b _ _ (λ xs ys l. sizes_clause q l) (past (Listed es) (punct pn.RoundClose z) _ _ (listed_free h))
  clause_free {k = k} {w = w} (permutation_clause {x = x} {es = es} {a = a} {b = b} {z = z} q h) = opened (Past (punct pn.RoundClose z) (Listed es)) (ClausePhrase k w) x a b _ _ (λ xs ys l. permutation_clause q l) (past (Listed es) (punct pn.RoundClose z) _ _ (listed_free h))
  clause_free {k = k} {w = w} (counts_clause {x = x} {cs = cs} {a = a} {b = b} {z = z} q h) = opened (Past (punct pn.RoundClose z) (CountsListed cs)) (ClausePhrase k w) x a b _ _ (λ xs ys l. counts_clause q l) (past (CountsListed cs) (punct pn.RoundClose z) _ _ (counts_free h))
  clause_free {k = k} {w = w} (looprange_clause {x = x} {e = e} {f = f} {a = a} {b = b} {c = c} {v = v} {w = u} {z = z} q h i) =
      opened (λ xs ys. ClausePhrase k w (name x a ∷ punct pn.RoundOpen b ∷ xs) ys) (ClausePhrase k w) x a b _ _ (λ xs ys l. l)
      (then (Past (punct pn.Comma c) (Phrase 0 e v)) (Past (punct pn.RoundClose z) (Phrase 0 f u)) (λ xs ys. ClausePhrase k w (name x a ∷ punct pn.RoundOpen b ∷ xs) ys) _ _ _ (λ xs zs ys l m. looprange_clause q l m)
      (past (Phrase 0 e v) (punct pn.Comma c) _ _ (phrase_free h)) (past (Phrase 0 f u) (punct pn.RoundClose z) _ _ (phrase_free i)))
  clause_free (full_clause {x = x} {a = a} q) = record { piece = name x a ∷ []; parts = refl; any = λ vs. full_clause q }
  clause_free (partial_clause {x = x} {a = a} q) = record { piece = name x a ∷ []; parts = refl; any = λ vs. partial_clause q }
  clause_free {k = k} {w = w} (partial_factor {x = x} {e = e} {a = a} {b = b} {w = v} {z = z} q h) = opened (Past (punct pn.RoundClose z) (Phrase 0 e v)) (ClausePhrase k w) x a b _ _ (λ xs ys l. partial_factor q l) (past (Phrase 0 e v) (punct pn.RoundClose z) _ _ (phrase_free h))
  clause_free {k = k} {w = w} (apply_items {x = x} {is = is} {a = a} {b = b} {z = z} q h) = opened (Past (punct pn.RoundClose z) (ItemsListed is)) (ClausePhrase k w) x a b _ _ (λ xs ys l. apply_items q l) (past (ItemsListed is) (punct pn.RoundClose z) _ _ (items_free h))
  clause_free {k = k} {w = w} (apply_modified {x = x} {m = m} {is = is} {a = a} {b = b} {c = c} {d = d} {z = z} q h) = modified (Past (punct pn.RoundClose z) (ItemsListed is)) (ClausePhrase k w) x m a b c (punct pn.Colon d) _ _ (λ xs ys l. apply_modified q l) (past (ItemsListed is) (punct pn.RoundClose z) _ _ (items_free h))
  clause_free {k = k} {w = w} (apply_indexed {x = x} {m = m} {es = es} {is = is} {a = a} {b = b} {c = c} {d = d} {e = e} {f = f} {z = z} q h i) =
      modified (λ xs ys. ClausePhrase k w (name x a ∷ punct pn.RoundOpen b ∷ name m c ∷ punct pn.RoundOpen d ∷ xs) ys) (ClausePhrase k w) x m a b c (punct pn.RoundOpen d) _ _ (λ xs ys l. l)
      (then (Past (punct pn.Colon f) (Past (punct pn.RoundClose e) (Listed es))) (Past (punct pn.RoundClose z) (ItemsListed is)) (λ xs ys. ClausePhrase k w (name x a ∷ punct pn.RoundOpen b ∷ name m c ∷ punct pn.RoundOpen d ∷ xs) ys) _ _ _ (λ xs zs ys l n. apply_indexed q l n)
      (past (Past (punct pn.RoundClose e) (Listed es)) (punct pn.Colon f) _ _ (past (Listed es) (punct pn.RoundClose e) _ _ (listed_free h))) (past (ItemsListed is) (punct pn.RoundClose z) _ _ (items_free i)))

  clauses_free : {b : Bool} {cs : Clauses} {a z : Span} {ts us : List Symbol} → ClausesPhrase b cs a z ts us → Free (ClausesPhrase b cs a z) ts us
  clauses_free no_clause = none _ _ (λ vs. no_clause)
  clauses_free {b = b} {a = a} {z = z} (one_clause {kind = k} {cs = cs} {w = w} h i) = then (ClausePhrase k w) (ClausesPhrase b cs w z) _ _ _ _ (λ xs zs ys l m. one_clause l m) (clause_free h) (clauses_free i)
  clauses_free {a = a} {z = z} (after_comma {kind = k} {cs = cs} {b = b} {w = w} h i) = first (λ xs ys. ClausesPhrase true _ a z (punct pn.Comma b ∷ xs) ys) _ (punct pn.Comma b) _ _ (λ xs ys l. l) (then (ClausePhrase k w) (ClausesPhrase true cs w z) _ _ _ _ (λ xs zs ys l m. after_comma l m) (clause_free h) (clauses_free i))

  pub directive_free : {b : Bool} {d : Directive} {ts us : List Symbol} → DirectivePhrase b d ts us → Free (DirectivePhrase b d) ts us
  directive_free (directive_phrase {x = x} {a = a} q h) = first _ _ (name x a) _ _ (λ xs ys l. directive_phrase q l) (clauses_free h)

  item_free : {i : Item} {ts us : List Symbol} → ItemPhrase i ts us → Free (ItemPhrase i) ts us
  item_free (does_nothing {x = x} {a = a} q) = record { piece = name x a ∷ []; parts = refl; any = λ vs. does_nothing q }
  item_free (directs h) = also _ _ _ _ (λ xs ys l. directs l) (directive_free h)

  items_free : {is : Items} {ts us : List Symbol} → ItemsListed is ts us → Free (ItemsListed is) ts us
  items_free (last_item h) = also _ _ _ _ (λ xs ys l. last_item l) (item_free h)
  items_free (next_item {i = i} {is = is} {z = z} h k) = then (Past (punct pn.Comma z) (ItemPhrase i)) (ItemsListed is) _ _ _ _ (λ xs zs ys l m. next_item l m) (past (ItemPhrase i) (punct pn.Comma z) _ _ (item_free h)) (items_free k)

pub directive_any : (d : Directive) (xs ys : List Token) → DirectivePhrase true d (symbols (xs ++ ys)) (symbols ys) → (vs : List Symbol) → DirectivePhrase true d (symbols xs ++ vs) vs
directive_any d xs ys h vs =
    let p = directive_free h in
    let q : p.piece ≡ symbols xs = append_cancel_right p.piece (symbols xs) (symbols ys) (sym p.parts ∙ symbols_append xs ys) in
    subst (λ x. DirectivePhrase true d (x ++ vs) vs) q (p.any vs)

pub line_any : (t : Symbol) (ts us : List Symbol) → EndsLine (t ∷ ts) → EndsLine (t ∷ us)
line_any t ts us ends_line = ends_line
