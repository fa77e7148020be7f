-- Expressions and directives hold no end of a line.
use Rattle.std.proofs.Common.{◌≡◌, refl, sym, ◌∙◌, ℕ, ◌≤◌, List, [], ◌∷◌, length, Some, arith}
use Rattle.c_tree.specs.Placed.{Expr, Exprs, Count, Directive, Clauses, ClauseKind, Items, Item}
use Rattle.c_tree.specs.declared.tree.Span.{Span}
use Rattle.c_tree.specs.declared.tree.Ty.{Ty}
use Rattle.c_tree.specs.declared.tree.UnOp.{UnOp}
use Rattle.c_tree.specs.declared.tree.BinOp.{BinOp}
use Rattle.pragma_grammar.specs.Symbols.{Symbol, line_end}
use Rattle.pragma_grammar.specs.Expressions.{TypeName, int, long_long, long_long_int, unary_of, binary_of, Phrase, literal, named, parens, unary, convert, binary, choice, Subscripts, no_more, one_more, Listed, last, next}
use Rattle.pragma_grammar.specs.Directives.{Counted, fills, gives, CountsListed, last_count, next_count, ClausePhrase, sizes_clause, permutation_clause, counts_clause, looprange_clause, full_clause, partial_clause, partial_factor, apply_items, apply_modified, apply_indexed, ClausesPhrase, no_clause, one_clause, after_comma, DirectivePhrase, directive_phrase, ItemPhrase, does_nothing, directs, ItemsListed, last_item, next_item}
use Rattle.pragma_grammar.specs.Reading.{EndsLine, ends_line}
use Rattle.c_grammar.proofs.Classes.{none_some}

-- from the first end of a line on
abbrev pub to_line : List Symbol → List Symbol
to_line [] = []
to_line (line_end s ∷ ts) = line_end s ∷ ts
to_line (t ∷ ts) = to_line ts

unary_line : (t : Symbol) (o : UnOp) (ts : List Symbol) → unary_of t ≡ Some o → to_line (t ∷ ts) ≡ to_line ts
unary_line (line_end s) o ts q = absurd (none_some q)
unary_line t o ts q = refl

binary_line : (t : Symbol) (o : BinOp) (ts : List Symbol) → binary_of t ≡ Some o → to_line (t ∷ ts) ≡ to_line ts
binary_line (line_end s) o ts q = absurd (none_some q)
binary_line t o ts q = refl

type_line : {y : Ty} {ts us : List Symbol} → TypeName y ts us → to_line ts ≡ to_line us
type_line int = refl
type_line long_long = refl
type_line long_long_int = refl

mutual
  pub phrase_line : {r : ℕ} {e : Expr} {w : Span} {ts us : List Symbol} → Phrase r e w ts us → to_line ts ≡ to_line us
  phrase_line literal = refl
  phrase_line (named h) = subscripts_line h
  phrase_line (parens h) = phrase_line h
  phrase_line (unary {t = t} {o = o} {ts = ts} q l h) = unary_line t o ts q ∙ phrase_line h
  phrase_line (convert l n h) = type_line n ∙ phrase_line h
  phrase_line (binary {t = t} {o = o} {us = us} q l h i) = phrase_line h ∙ binary_line t o us q ∙ phrase_line i
  phrase_line (choice l h i j) = phrase_line h ∙ phrase_line i ∙ phrase_line j

  subscripts_line : {es : Exprs} {a z : Span} {ts us : List Symbol} → Subscripts es a z ts us → to_line ts ≡ to_line us
  subscripts_line no_more = refl
  subscripts_line (one_more h i) = phrase_line h ∙ subscripts_line i

listed_line : {es : Exprs} {ts us : List Symbol} → Listed es ts us → to_line ts ≡ to_line us
listed_line (last h) = phrase_line h
listed_line (next h i) = phrase_line h ∙ listed_line i

counted_line : {c : Count} {ts us : List Symbol} → Counted c ts us → to_line ts ≡ to_line us
counted_line fills = refl
counted_line (gives h) = phrase_line h

counts_line : {cs : List Count} {ts us : List Symbol} → CountsListed cs ts us → to_line ts ≡ to_line us
counts_line (last_count h) = counted_line h
counts_line (next_count h i) = counted_line h ∙ counts_line i

mutual
  clause_line : {k : ClauseKind} {w : Span} {ts us : List Symbol} → ClausePhrase k w ts us → to_line ts ≡ to_line us
  clause_line (sizes_clause q h) = listed_line h
  clause_line (permutation_clause q h) = listed_line h
  clause_line (counts_clause q h) = counts_line h
  clause_line (looprange_clause q h i) = phrase_line h ∙ phrase_line i
  clause_line (full_clause q) = refl
  clause_line (partial_clause q) = refl
  clause_line (partial_factor q h) = phrase_line h
  clause_line (apply_items q h) = items_line h
  clause_line (apply_modified q h) = items_line h
  clause_line (apply_indexed q h i) = listed_line h ∙ items_line i

  clauses_line : {b : _} {cs : Clauses} {a z : Span} {ts us : List Symbol} → ClausesPhrase b cs a z ts us → to_line ts ≡ to_line us
  clauses_line no_clause = refl
  clauses_line (one_clause h i) = clause_line h ∙ clauses_line i
  clauses_line (after_comma h i) = clause_line h ∙ clauses_line i

  pub directive_line : {b : _} {d : Directive} {ts us : List Symbol} → DirectivePhrase b d ts us → to_line ts ≡ to_line us
  directive_line (directive_phrase q h) = clauses_line h

  item_line : {i : Item} {ts us : List Symbol} → ItemPhrase i ts us → to_line ts ≡ to_line us
  item_line (does_nothing q) = refl
  item_line (directs h) = directive_line h

  items_line : {is : Items} {ts us : List Symbol} → ItemsListed is ts us → to_line ts ≡ to_line us
  items_line (last_item h) = item_line h
  items_line (next_item h i) = item_line h ∙ items_line i

-- so a whole directive ends at the first end of a line
pub line_itself : {us : List Symbol} → EndsLine us → to_line us ≡ us
line_itself ends_line = refl

pub one_line_end : {b c : _} {d e : Directive} {ts us vs : List Symbol} → DirectivePhrase b d ts us → EndsLine us → DirectivePhrase c e ts vs → EndsLine vs → us ≡ vs
one_line_end h m i n = sym (line_itself m) ∙ sym (directive_line h) ∙ directive_line i ∙ line_itself n

pub line_length : (ts : List Symbol) → length (to_line ts) ≤ length ts
line_length [] = omega arith
line_length (line_end s ∷ ts) = omega arith
line_length (t ∷ ts) = let z = t in let h = line_length ts in omega arith
