-- Symbols before the end of a line are spelled by at most one directive.
use Rattle.std.proofs.Common.{◌≡◌, refl, sym, ap, ◌∙◌, subst, ℕ, Bool, true, false, List, [], ◌∷◌, Some, None, codes}
use Rattle.std.specs.Prelude.{IsTrue}
use Rattle.std.proofs.lemmas.Slice.Eq.{bytes_eq-Decides}
use Rattle.c_tree.specs.Bare.{Name}
use Rattle.c_tree.specs.Placed.{Expr, Exprs, no_exprs, more_exprs, Count, given, Directive, directive, Clauses, more_clauses, clause, ClauseKind, sizes, permutation, counts, looprange, full, partial, apply, Items, no_items, more_items, Item, acts}
use Rattle.c_tree.specs.declared.tree.Span.{Span}
use Rattle.c_tree.specs.declared.tree.Kind.{Kind}
use Rattle.c_tree.specs.declared.tree.UnOp.{UnOp}
use Rattle.c_lexer.specs.declared.token.Punct.{Punct}
use Rattle.c_lexer.specs.declared.token.Punct.TheVariants as pn
use Rattle.c_lexer.specs.declared.words.Keyword.{Keyword}
use Rattle.pragma_grammar.specs.declared.words.ClauseWord.{ClauseWord}
use Rattle.pragma_grammar.specs.declared.words.ClauseWord.TheVariants as word
use Rattle.pragma_grammar.specs.Symbols.{Symbol, name, punct, keyword, line_end, spanning}
use Rattle.pragma_grammar.specs.Words.{kind_of, clause_of, is_nothing}
use Rattle.pragma_grammar.specs.Expressions.{unary_of, Phrase, unary, binary, choice, Listed, last, next}
use Rattle.pragma_grammar.specs.Directives.{Counted, fills, gives, CountsListed, last_count, next_count, ClausePhrase, sizes_clause, permutation_clause, counts_clause, looprange_clause, full_clause, partial_clause, partial_factor, apply_items, apply_modified, apply_indexed, ClausesPhrase, no_clause, one_clause, after_comma, DirectivePhrase, directive_phrase, ItemPhrase, does_nothing, directs, ItemsListed, last_item, next_item}
use Rattle.pragma_grammar.specs.Reading.{Stops, EndsLine, ends_line}
use Rattle.c_grammar.specs.Goals.{round_close, comma}
use Rattle.c_grammar.proofs.Classes.{none_some, class_stops}
use Rattle.c_grammar.proofs.Letters.{one_expr}

-- ---- what comes after the parts

pub data Shut : List Symbol → Type 0 where
  shut : {z : Span} {ts : List Symbol} → Shut (punct pn.RoundClose z ∷ ts)

shut_stops : {ts : List Symbol} → Shut ts → Stops ts
shut_stops shut = class_stops round_close _ _

comma_shut : {z : Span} {ts : List Symbol} → Shut (punct pn.Comma z ∷ ts) → ⊥
comma_shut h = elim h [ ]

comma_stops : (z : Span) (ts : List Symbol) → Stops (punct pn.Comma z ∷ ts)
comma_stops z ts = class_stops comma z ts

pub data Named : List Symbol → Type 0 where
  a_name : {x : Name} {a : Span} {ts : List Symbol} → Named (name x a ∷ ts)

pub data Unopened : List Symbol → Type 0 where
  before_name : {x : Name} {a : Span} {ts : List Symbol} → Unopened (name x a ∷ ts)
  before_comma : {a : Span} {ts : List Symbol} → Unopened (punct pn.Comma a ∷ ts)
  before_close : {a : Span} {ts : List Symbol} → Unopened (punct pn.RoundClose a ∷ ts)
  before_line : {a : Span} {ts : List Symbol} → Unopened (line_end a ∷ ts)

-- after the clauses of a directive, and of an item
pub data Over : Bool → List Symbol → Type 0 where
  line_over : {a : Span} {ts : List Symbol} → Over true (line_end a ∷ ts)
  comma_over : {a : Span} {ts : List Symbol} → Over false (punct pn.Comma a ∷ ts)
  close_over : {a : Span} {ts : List Symbol} → Over false (punct pn.RoundClose a ∷ ts)

over_unopened : {b : Bool} {ts : List Symbol} → Over b ts → Unopened ts
over_unopened line_over = before_line
over_unopened comma_over = before_comma
over_unopened close_over = before_close

shut_over : {ts : List Symbol} → Shut ts → Over false ts
shut_over shut = close_over

over_named : {b : Bool} {ts : List Symbol} → Over b ts → Named ts → ⊥
over_named line_over n = elim n [ ]
over_named comma_over n = elim n [ ]
over_named close_over n = elim n [ ]

over_comma : {z : Span} {ts : List Symbol} → Over true (punct pn.Comma z ∷ ts) → ⊥
over_comma h = elim h [ ]

comma_named : {z : Span} {ts : List Symbol} → Named (punct pn.Comma z ∷ ts) → ⊥
comma_named h = elim h [ ]

-- ---- expressions in lists

pub record Both {A : Type 0} (x y : A) (us vs : List Symbol) : Type 0 where
  pub tree : x ≡ y
  pub rest : us ≡ vs

expr_same : {e f : Expr} {v w : Span} {ts us vs : List Symbol} → Phrase 0 e v ts us → Stops us → Phrase 0 f w ts vs → Stops vs → Both e f us vs
expr_same {e = e} {f = f} {v = v} {w = w} {ts = ts} {us = us} {vs = vs} h m i n = let o = one_expr (e, v) (f, w) ts us vs h m i n in record { tree = ap (λ p. p.0) o.0; rest = o.1 }

after_same : {s t : Symbol} {us vs : List Symbol} → (let x : List Symbol = s ∷ us in x) ≡ t ∷ vs → us ≡ vs
after_same q = cc

close_same : {y z : Span} {us vs : List Symbol} → (let x : List Symbol = punct pn.RoundClose y ∷ us in x) ≡ punct pn.RoundClose z ∷ vs → (y ≡ z) × (us ≡ vs)
close_same q = (cc, cc)

listed_same : {es fs : Exprs} {ts us vs : List Symbol} → Listed es ts us → Shut us → Listed fs ts vs → Shut vs → Both es fs us vs
listed_same (last h) m (last i) n = let o = expr_same h (shut_stops m) i (shut_stops n) in record { tree = ap (λ e. more_exprs e no_exprs) o.tree; rest = o.rest }
listed_same (last h) m (next i j) n = let o = expr_same h (shut_stops m) i (comma_stops _ _) in absurd (comma_shut (subst Shut o.rest m))
listed_same (next h i) m (last j) n = let o = expr_same j (shut_stops n) h (comma_stops _ _) in absurd (comma_shut (subst Shut o.rest n))
listed_same (next {e = e} {es = es} h i) m (next {e = f} {es = fs} {vs = ws} j k) n =
    let o = expr_same h (comma_stops _ _) j (comma_stops _ _) in
    let r = listed_same i m (subst (λ z. Listed fs z ws) (sym (after_same o.rest)) k) n in
    record { tree = ap (λ e. more_exprs e es) o.tree ∙ ap (more_exprs f) r.tree; rest = r.rest }

no_unary : (k : Keyword) (a : Span) {o : UnOp} → unary_of (keyword k a) ≡ Some o → ⊥
no_unary k a q = none_some q

keyword_phrase : {r : ℕ} {e : Expr} {w : Span} {k : Keyword} {a : Span} {ts us : List Symbol} → Phrase r e w (keyword k a ∷ ts) us → ⊥
keyword_phrase {k = k} {a = a} (unary q l h) = no_unary k a q
keyword_phrase (binary q l h i) = keyword_phrase h
keyword_phrase (choice l h i j) = keyword_phrase h

counted_same : {c d : Count} {ts us vs : List Symbol} → Counted c ts us → Stops us → Counted d ts vs → Stops vs → Both c d us vs
counted_same fills m fills n = record { tree = refl; rest = refl }
counted_same fills m (gives h) n = absurd (keyword_phrase h)
counted_same (gives h) m fills n = absurd (keyword_phrase h)
counted_same (gives h) m (gives i) n = let o = expr_same h m i n in record { tree = ap given o.tree; rest = o.rest }

counts_same : {cs ds : List Count} {ts us vs : List Symbol} → CountsListed cs ts us → Shut us → CountsListed ds ts vs → Shut vs → Both cs ds us vs
counts_same (last_count h) m (last_count i) n = let o = counted_same h (shut_stops m) i (shut_stops n) in record { tree = ap (λ e. e ∷ []) o.tree; rest = o.rest }
counts_same (last_count h) m (next_count i j) n = let o = counted_same h (shut_stops m) i (comma_stops _ _) in absurd (comma_shut (subst Shut o.rest m))
counts_same (next_count h i) m (last_count j) n = let o = counted_same j (shut_stops n) h (comma_stops _ _) in absurd (comma_shut (subst Shut o.rest n))
counts_same (next_count {c = c} {cs = cs} h i) m (next_count {c = d} {cs = ds} {vs = ws} j k) n =
    let o = counted_same h (comma_stops _ _) j (comma_stops _ _) in
    let r = counts_same i m (subst (λ z. CountsListed ds z ws) (sym (after_same o.rest)) k) n in
    record { tree = ap (λ e. e ∷ cs) o.tree ∙ ap (λ z. d ∷ z) r.tree; rest = r.rest }

-- ---- clauses by their words

pub data Shape (a : Span) : ClauseWord → ClauseKind → Span → List Symbol → List Symbol → Type 0 where
  sizes_shape : {es : Exprs} {b z : Span} {ts us : List Symbol} → Listed es ts (punct pn.RoundClose z ∷ us) → Shape a word.Sizes (sizes es) (spanning a z) (punct pn.RoundOpen b ∷ ts) us
  permutation_shape : {es : Exprs} {b z : Span} {ts us : List Symbol} → Listed es ts (punct pn.RoundClose z ∷ us) → Shape a word.Permutation (permutation es) (spanning a z) (punct pn.RoundOpen b ∷ ts) us
  counts_shape : {cs : List Count} {b z : Span} {ts us : List Symbol} → CountsListed cs ts (punct pn.RoundClose z ∷ us) → Shape a word.Counts (counts cs) (spanning a z) (punct pn.RoundOpen b ∷ ts) us
  looprange_shape : {e f : Expr} {b c v w z : Span} {ts us vs : List Symbol} → Phrase 0 e v ts (punct pn.Comma c ∷ us) → Phrase 0 f w us (punct pn.RoundClose z ∷ vs) → Shape a word.LoopRange (looprange e f) (spanning a z) (punct pn.RoundOpen b ∷ ts) vs
  full_shape : {ts : List Symbol} → Shape a word.Full full a ts ts
  partial_shape : {ts : List Symbol} → Shape a word.Partial (partial None) a ts ts
  factor_shape : {e : Expr} {b w z : Span} {ts us : List Symbol} → Phrase 0 e w ts (punct pn.RoundClose z ∷ us) → Shape a word.Partial (partial (Some e)) (spanning a z) (punct pn.RoundOpen b ∷ ts) us
  items_shape : {is : Items} {b z : Span} {ts us : List Symbol} → ItemsListed is ts (punct pn.RoundClose z ∷ us) → Shape a word.Apply (apply None no_exprs is) (spanning a z) (punct pn.RoundOpen b ∷ ts) us
  modified_shape : {m : Name} {is : Items} {b c d z : Span} {ts us : List Symbol} → ItemsListed is ts (punct pn.RoundClose z ∷ us) → Shape a word.Apply (apply (Some m) no_exprs is) (spanning a z) (punct pn.RoundOpen b ∷ name m c ∷ punct pn.Colon d ∷ ts) us
  indexed_shape : {m : Name} {es : Exprs} {is : Items} {b c d e f z : Span} {ts us vs : List Symbol} → Listed es ts (punct pn.RoundClose e ∷ punct pn.Colon f ∷ us) → ItemsListed is us (punct pn.RoundClose z ∷ vs) → Shape a word.Apply (apply (Some m) es is) (spanning a z) (punct pn.RoundOpen b ∷ name m c ∷ punct pn.RoundOpen d ∷ ts) vs

pub record Shaped (x : Name) (a : Span) (k : ClauseKind) (w : Span) (ts us : List Symbol) : Type 0 where
  pub of : ClauseWord
  pub named : clause_of x ≡ Some of
  pub shape : Shape a of k w ts us

shaped : {x : Name} {a : Span} {k : ClauseKind} {w : Span} {ts us : List Symbol} → ClausePhrase k w (name x a ∷ ts) us → Shaped x a k w ts us
shaped (sizes_clause q h) = record { of = word.Sizes; named = q; shape = sizes_shape h }
shaped (permutation_clause q h) = record { of = word.Permutation; named = q; shape = permutation_shape h }
shaped (counts_clause q h) = record { of = word.Counts; named = q; shape = counts_shape h }
shaped (looprange_clause q h i) = record { of = word.LoopRange; named = q; shape = looprange_shape h i }
shaped (full_clause q) = record { of = word.Full; named = q; shape = full_shape }
shaped (partial_clause q) = record { of = word.Partial; named = q; shape = partial_shape }
shaped (partial_factor q h) = record { of = word.Partial; named = q; shape = factor_shape h }
shaped (apply_items q h) = record { of = word.Apply; named = q; shape = items_shape h }
shaped (apply_modified q h) = record { of = word.Apply; named = q; shape = modified_shape h }
shaped (apply_indexed q h i) = record { of = word.Apply; named = q; shape = indexed_shape h i }

same_word : {v w : ClauseWord} → Some v ≡ Some w → v ≡ w
same_word q = cc

-- with the word of another clause that has the name
with_word : {x : Name} {a : Span} {k : ClauseKind} {w : Span} {ts us : List Symbol} (v : ClauseWord) → clause_of x ≡ Some v → ClausePhrase k w (name x a ∷ ts) us → Shape a v k w ts us
with_word {a = a} {k = k} {w = w} {ts = ts} {us = us} v q h = let s = shaped h in subst (λ o. Shape a o k w ts us) (same_word (sym s.named ∙ q)) s.shape

pub record SameClause {A : Type 0} (k l : A) (v w : Span) (us vs : List Symbol) : Type 0 where
  pub tree : k ≡ l
  pub stands : v ≡ w
  pub rest : us ≡ vs

closed_same : {A : Type 0} (f : A → ClauseKind) (a : Span) {x y : A} {w z : Span} {us vs : List Symbol} → Both x y (punct pn.RoundClose w ∷ us) (punct pn.RoundClose z ∷ vs) → SameClause (f x) (f y) (spanning a w) (spanning a z) us vs
closed_same f a o = let c = close_same o.rest in record { tree = ap f o.tree; stands = ap (spanning a) c.0; rest = c.1 }

-- an item that is no name alone
item_alone : {i : Item} {m : Name} {c d : Span} {q : Punct} {ts us : List Symbol} → ItemPhrase i (name m c ∷ punct q d ∷ ts) us → us ≡ punct q d ∷ ts
item_alone (does_nothing h) = refl
item_alone (directs (directive_phrase h no_clause)) = refl
item_alone (directs (directive_phrase h (one_clause k l))) = elim k [ ]

second_close : {z d : Span} {q : Punct} {us vs : List Symbol} → (let x : List Symbol = punct pn.RoundClose z ∷ us in x) ≡ punct q d ∷ vs → q ≡ pn.RoundClose
second_close e = cc

second_comma : {z d : Span} {q : Punct} {us vs : List Symbol} → (let x : List Symbol = punct pn.Comma z ∷ us in x) ≡ punct q d ∷ vs → q ≡ pn.Comma
second_comma e = cc

items_alone : {is : Items} {m : Name} {c d : Span} {q : Punct} {ts us : List Symbol} → ItemsListed is (name m c ∷ punct q d ∷ ts) us → Shut us → (q ≡ pn.Comma → ⊥) → (q ≡ pn.RoundClose → ⊥) → ⊥
items_alone (last_item h) shut n o = o (second_close (item_alone h))
items_alone (next_item h i) s n o = n (second_comma (item_alone h))

colon_comma : pn.Colon ≡ pn.Comma → ⊥
colon_comma e = cc

colon_close : pn.Colon ≡ pn.RoundClose → ⊥
colon_close e = cc

open_comma : pn.RoundOpen ≡ pn.Comma → ⊥
open_comma e = cc

open_close : pn.RoundOpen ≡ pn.RoundClose → ⊥
open_close e = cc

unopened_open : {z : Span} {ts : List Symbol} → Unopened (punct pn.RoundOpen z ∷ ts) → ⊥
unopened_open h = elim h [ ]

-- ---- each clause against another one of its word

sizes_with : {es : Exprs} {k : ClauseKind} {a b w z : Span} {ts us vs : List Symbol} → Listed es ts (punct pn.RoundClose z ∷ us) → Shape a word.Sizes k w (punct pn.RoundOpen b ∷ ts) vs → SameClause (sizes es) k (spanning a z) w us vs
sizes_with {a = a} h (sizes_shape i) = closed_same sizes a (listed_same h shut i shut)

permutation_with : {es : Exprs} {k : ClauseKind} {a b w z : Span} {ts us vs : List Symbol} → Listed es ts (punct pn.RoundClose z ∷ us) → Shape a word.Permutation k w (punct pn.RoundOpen b ∷ ts) vs → SameClause (permutation es) k (spanning a z) w us vs
permutation_with {a = a} h (permutation_shape i) = closed_same permutation a (listed_same h shut i shut)

counts_with : {cs : List Count} {k : ClauseKind} {a b w z : Span} {ts us vs : List Symbol} → CountsListed cs ts (punct pn.RoundClose z ∷ us) → Shape a word.Counts k w (punct pn.RoundOpen b ∷ ts) vs → SameClause (counts cs) k (spanning a z) w us vs
counts_with {a = a} h (counts_shape i) = closed_same counts a (counts_same h shut i shut)

range_same : {e e' f f' : Expr} (a : Span) {y z : Span} {us vs : List Symbol} → e ≡ e' → Both f f' (punct pn.RoundClose y ∷ us) (punct pn.RoundClose z ∷ vs) → SameClause (looprange e f) (looprange e' f') (spanning a y) (spanning a z) us vs
range_same {e' = e'} {f = f} a q o = let c = close_same o.rest in record { tree = ap (λ x. looprange x f) q ∙ ap (looprange e') o.tree; stands = ap (spanning a) c.0; rest = c.1 }

looprange_with : {e f : Expr} {k : ClauseKind} {a b c u v w z : Span} {ts us vs ws : List Symbol} → Phrase 0 e u ts (punct pn.Comma c ∷ us) → Phrase 0 f v us (punct pn.RoundClose z ∷ vs) → Shape a word.LoopRange k w (punct pn.RoundOpen b ∷ ts) ws → SameClause (looprange e f) k (spanning a z) w vs ws
looprange_with {a = a} h i (looprange_shape {f = f'} {w = v'} {z = z'} {vs = ws'} j l) =
    let o = expr_same h (comma_stops _ _) j (comma_stops _ _) in
    range_same a o.tree (expr_same i (shut_stops shut) (subst (λ x. Phrase 0 f' v' x (punct pn.RoundClose z' ∷ ws')) (sym (after_same o.rest)) l) (shut_stops shut))

full_with : {k : ClauseKind} {a w : Span} {ts us : List Symbol} → Shape a word.Full k w ts us → SameClause full k a w ts us
full_with full_shape = record { tree = refl; stands = refl; rest = refl }

partial_with : {k : ClauseKind} {a w : Span} {ts us : List Symbol} → Unopened ts → Shape a word.Partial k w ts us → SameClause (partial None) k a w ts us
partial_with n partial_shape = record { tree = refl; stands = refl; rest = refl }
partial_with n (factor_shape h) = absurd (unopened_open n)

factor_with : {e : Expr} {k : ClauseKind} {a b v w z : Span} {ts us vs : List Symbol} → Phrase 0 e v ts (punct pn.RoundClose z ∷ us) → Shape a word.Partial k w (punct pn.RoundOpen b ∷ ts) vs → Unopened vs → SameClause (partial (Some e)) k (spanning a z) w us vs
factor_with h partial_shape n = absurd (unopened_open n)
factor_with {a = a} h (factor_shape i) n = closed_same (λ e. partial (Some e)) a (expr_same h (shut_stops shut) i (shut_stops shut))

abbrev pub ItemsOnly : Items → List Symbol → List Symbol → Type 0
ItemsOnly is ts us = (js : Items) (vs : List Symbol) → ItemsListed js ts vs → Shut vs → Both is js us vs

items_with : {is : Items} {k : ClauseKind} {a b w z : Span} {ts us vs : List Symbol} → ItemsListed is ts (punct pn.RoundClose z ∷ us) → ItemsOnly is ts (punct pn.RoundClose z ∷ us) → Shape a word.Apply k w (punct pn.RoundOpen b ∷ ts) vs → SameClause (apply None no_exprs is) k (spanning a z) w us vs
items_with {a = a} h f (items_shape {is = js} i) = closed_same (λ x. apply None no_exprs x) a (f js _ i shut)
items_with h f (modified_shape i) = absurd (items_alone h shut colon_comma colon_close)
items_with h f (indexed_shape l i) = absurd (items_alone h shut open_comma open_close)

modified_with : {m : Name} {is : Items} {k : ClauseKind} {a b c d w z : Span} {ts us vs : List Symbol} → ItemsOnly is ts (punct pn.RoundClose z ∷ us) → Shape a word.Apply k w (punct pn.RoundOpen b ∷ name m c ∷ punct pn.Colon d ∷ ts) vs → SameClause (apply (Some m) no_exprs is) k (spanning a z) w us vs
modified_with f (items_shape i) = absurd (items_alone i shut colon_comma colon_close)
modified_with {m = m} {a = a} f (modified_shape {is = js} i) = closed_same (λ x. apply (Some m) no_exprs x) a (f js _ i shut)

colon_same : {e f c d : Span} {us vs : List Symbol} → (let x : List Symbol = punct pn.RoundClose e ∷ punct pn.Colon c ∷ us in x) ≡ punct pn.RoundClose f ∷ punct pn.Colon d ∷ vs → us ≡ vs
colon_same q = cc

applied_same : {m : Name} {es fs : Exprs} {is js : Items} (a : Span) {y z : Span} {us vs : List Symbol} → es ≡ fs → Both is js (punct pn.RoundClose y ∷ us) (punct pn.RoundClose z ∷ vs) → SameClause (apply (Some m) es is) (apply (Some m) fs js) (spanning a y) (spanning a z) us vs
applied_same {m = m} {fs = fs} {is = is} a q o = let c = close_same o.rest in record { tree = ap (λ x. apply (Some m) x is) q ∙ ap (λ x. apply (Some m) fs x) o.tree; stands = ap (spanning a) c.0; rest = c.1 }

indexed_with : {m : Name} {es : Exprs} {is : Items} {k : ClauseKind} {a b c d e f w z : Span} {ts us vs ws : List Symbol} → Listed es ts (punct pn.RoundClose e ∷ punct pn.Colon f ∷ us) → ItemsOnly is us (punct pn.RoundClose z ∷ vs) → Shape a word.Apply k w (punct pn.RoundOpen b ∷ name m c ∷ punct pn.RoundOpen d ∷ ts) ws → SameClause (apply (Some m) es is) k (spanning a z) w vs ws
indexed_with h f (items_shape i) = absurd (items_alone i shut open_comma open_close)
indexed_with {a = a} h f (indexed_shape {is = js} {z = z'} {vs = ws'} l i) =
    let o = listed_same h shut l shut in
    applied_same a o.tree (f js _ (subst (λ x. ItemsListed js x (punct pn.RoundClose z' ∷ ws')) (sym (colon_same o.rest)) i) shut)

clause_named : {k : ClauseKind} {w : Span} {ts us : List Symbol} → ClausePhrase k w ts us → Named ts
clause_named (sizes_clause q h) = a_name
clause_named (permutation_clause q h) = a_name
clause_named (counts_clause q h) = a_name
clause_named (looprange_clause q h i) = a_name
clause_named (full_clause q) = a_name
clause_named (partial_clause q) = a_name
clause_named (partial_factor q h) = a_name
clause_named (apply_items q h) = a_name
clause_named (apply_modified q h) = a_name
clause_named (apply_indexed q h i) = a_name

named_unopened : {ts : List Symbol} → Named ts → Unopened ts
named_unopened a_name = before_name

clauses_unopened : {b : Bool} {cs : Clauses} {a z : Span} {ts us : List Symbol} → ClausesPhrase b cs a z ts us → Over b us → Unopened ts
clauses_unopened no_clause m = over_unopened m
clauses_unopened (one_clause h i) m = named_unopened (clause_named h)
clauses_unopened (after_comma h i) m = before_comma

-- ---- `nothing` is no directive

nothing_kind : kind_of (codes "nothing") ≡ None
unfolding kind_of
nothing_kind = refl

nothing_name : (x : Name) → IsTrue (is_nothing x) → x ≡ codes "nothing"
unfolding is_nothing
nothing_name x h = (bytes_eq-Decides x (codes "nothing")).0 h

no_directive : (x : Name) {k : Kind} → IsTrue (is_nothing x) → kind_of x ≡ Some k → ⊥
no_directive x h q = none_some (sym nothing_kind ∙ ap kind_of (sym (nothing_name x h)) ∙ q)

directive_nothing : {b : Bool} {d : Directive} (x : Name) {a : Span} {ts us : List Symbol} → DirectivePhrase b d (name x a ∷ ts) us → IsTrue (is_nothing x) → ⊥
directive_nothing x (directive_phrase q h) r = no_directive x r q

same_kind : {k l : Kind} → Some k ≡ Some l → k ≡ l
same_kind q = cc

more_same : {k l : ClauseKind} {v w z y : Span} {cs ds : Clauses} {us vs ts ws : List Symbol} → SameClause k l v w us vs → SameClause cs ds z y ts ws → SameClause (more_clauses (clause k v) cs) (more_clauses (clause l w) ds) z y ts ws
more_same {l = l} {v = v} {w = w} {cs = cs} o r = record { tree = ap (λ x. more_clauses (clause x v) cs) o.tree ∙ ap (λ x. more_clauses (clause l x) cs) o.stands ∙ ap (more_clauses (clause l w)) r.tree; stands = r.stands; rest = r.rest }

there : {b : Bool} {ds : Clauses} {v w y : Span} {us vs ws : List Symbol} → v ≡ w → us ≡ vs → ClausesPhrase b ds w y vs ws → ClausesPhrase b ds v y us ws
there {b = b} {ds = ds} {v = v} {y = y} {vs = vs} {ws = ws} p q h = subst (λ x. ClausesPhrase b ds v y x ws) (sym q) (subst (λ x. ClausesPhrase b ds x y vs ws) (sym p) h)

mutual
  clause_same : {k l : ClauseKind} {v w : Span} {ts us vs : List Symbol} → ClausePhrase k v ts us → Unopened us → ClausePhrase l w ts vs → Unopened vs → SameClause k l v w us vs
  clause_same (sizes_clause q h) m k n = sizes_with h (with_word word.Sizes q k)
  clause_same (permutation_clause q h) m k n = permutation_with h (with_word word.Permutation q k)
  clause_same (counts_clause q h) m k n = counts_with h (with_word word.Counts q k)
  clause_same (looprange_clause q h i) m k n = looprange_with h i (with_word word.LoopRange q k)
  clause_same (full_clause q) m k n = full_with (with_word word.Full q k)
  clause_same (partial_clause q) m k n = partial_with m (with_word word.Partial q k)
  clause_same (partial_factor q h) m k n = factor_with h (with_word word.Partial q k) n
  clause_same (apply_items q h) m k n = items_with h (λ js vs i s. items_same h shut i s) (with_word word.Apply q k)
  clause_same (apply_modified q h) m k n = modified_with (λ js vs i s. items_same h shut i s) (with_word word.Apply q k)
  clause_same (apply_indexed q l h) m k n = indexed_with l (λ js vs i s. items_same h shut i s) (with_word word.Apply q k)

  clauses_same : {b : Bool} {cs ds : Clauses} {a z y : Span} {ts us vs : List Symbol} → ClausesPhrase b cs a z ts us → Over b us → ClausesPhrase b ds a y ts vs → Over b vs → SameClause cs ds z y us vs
  clauses_same no_clause m no_clause n = record { tree = refl; stands = refl; rest = refl }
  clauses_same no_clause m (one_clause k l) n = absurd (over_named m (clause_named k))
  clauses_same no_clause m (after_comma k l) n = absurd (over_comma m)
  clauses_same (one_clause h i) m no_clause n = absurd (over_named n (clause_named h))
  clauses_same (one_clause h i) m (one_clause k l) n = let o = clause_same h (clauses_unopened i m) k (clauses_unopened l n) in more_same o (clauses_same i m (there o.stands o.rest l) n)
  clauses_same (one_clause h i) m (after_comma k l) n = absurd (comma_named (clause_named h))
  clauses_same (after_comma h i) m no_clause n = absurd (over_comma n)
  clauses_same (after_comma h i) m (one_clause k l) n = absurd (comma_named (clause_named k))
  clauses_same (after_comma h i) m (after_comma k l) n = let o = clause_same h (clauses_unopened i m) k (clauses_unopened l n) in more_same o (clauses_same i m (there o.stands o.rest l) n)

  directive_same : {b : Bool} {d e : Directive} {ts us vs : List Symbol} → DirectivePhrase b d ts us → Over b us → DirectivePhrase b e ts vs → Over b vs → Both d e us vs
  directive_same (directive_phrase {kind = k} {cs = cs} {a = a} {z = z} q h) m (directive_phrase {kind = l} {cs = ds} r i) n =
      let o = clauses_same h m i n in
      record { tree = ap (λ x. directive x cs (spanning a z)) (same_kind (sym q ∙ r)) ∙ ap (λ x. directive l x (spanning a z)) o.tree ∙ ap (λ x. directive l ds (spanning a x)) o.stands; rest = o.rest }

  item_same : {i j : Item} {ts us vs : List Symbol} → ItemPhrase i ts us → Over false us → ItemPhrase j ts vs → Over false vs → Both i j us vs
  item_same (does_nothing q) m (does_nothing r) n = record { tree = refl; rest = refl }
  item_same (does_nothing {x = x} q) m (directs (directive_phrase r k)) n = absurd (no_directive x q r)
  item_same (directs h) m (does_nothing {x = x} r) n = absurd (directive_nothing x h r)
  item_same (directs h) m (directs k) n = let o = directive_same h m k n in record { tree = ap acts o.tree; rest = o.rest }

  items_same : {is js : Items} {ts us vs : List Symbol} → ItemsListed is ts us → Shut us → ItemsListed js ts vs → Shut vs → Both is js us vs
  items_same (last_item h) m (last_item k) n = let o = item_same h (shut_over m) k (shut_over n) in record { tree = ap (λ x. more_items x no_items) o.tree; rest = o.rest }
  items_same (last_item h) m (next_item k l) n = let o = item_same h (shut_over m) k comma_over in absurd (comma_shut (subst Shut o.rest m))
  items_same (next_item h i) m (last_item k) n = let o = item_same h comma_over k (shut_over n) in absurd (comma_shut (subst Shut (sym o.rest) n))
  items_same (next_item {i = x} {is = is} h i) m (next_item {i = y} {is = js} {vs = ws} k l) n =
      let o = item_same h comma_over k comma_over in
      let r = items_same i m (subst (λ z. ItemsListed js z ws) (sym (after_same o.rest)) l) n in
      record { tree = ap (λ z. more_items z is) o.tree ∙ ap (more_items y) r.tree; rest = r.rest }

ends_over : {ts : List Symbol} → EndsLine ts → Over true ts
ends_over ends_line = line_over

pub one_directive : (d e : Directive) (ts us vs : List Symbol) → DirectivePhrase true d ts us → EndsLine us → DirectivePhrase true e ts vs → EndsLine vs → (d ≡ e) × (us ≡ vs)
one_directive d e ts us vs h m i n = let o = directive_same h (ends_over m) i (ends_over n) in (o.tree, o.rest)
