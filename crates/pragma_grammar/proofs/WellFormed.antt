-- Sound symbols spell well-formed expressions and directives, and what is left of them is sound.
use Rattle.std.proofs.Common.{◌≡◌, ◌≢◌, ℕ, Bool, List, [], ◌∷◌, Option, Some, None, map, refl}
use Rattle.std.specs.Option.{option_map}
use Rattle.c_tree.specs.Bare.{Name}
use Rattle.c_tree.specs.Placed.{Expr, Exprs, no_exprs, more_exprs, Count, fill, given, Directive, Clauses, ClauseKind, Item, Items}
use Rattle.c_tree.specs.declared.tree.Span.{Span}
use Rattle.c_tree.specs.declared.tree.Ty.{Ty}
use Rattle.c_tree.specs.Forget.{forget_expr, forget_exprs, forget_count, forget_directive, forget_clauses, forget_kind, forget_item, forget_items}
use Rattle.c_tree.specs.WellFormed.{IsName, IsNotEmpty, WellFormedExpr, WellFormedExprs, WellFormedCounts, WellFormedDirective, WellFormedClauses, WellFormedClause, WellFormedItem, WellFormedItems, HasItem}
use Rattle.pragma_grammar.specs.Symbols.{Symbol}
use Rattle.pragma_grammar.specs.Sound.{IsSound, AreSound}
use Rattle.pragma_grammar.specs.Expressions.{element, TypeName, int, long_long, long_long_int, Phrase, literal, named, parens, unary, convert, binary, choice, Subscripts, no_more, one_more, Listed, last, next}
use Rattle.pragma_grammar.specs.Directives.{Counted, fills, gives, CountsListed, last_count, next_count, ClausePhrase, sizes_clause, permutation_clause, counts_clause, looprange_clause, full_clause, partial_clause, partial_factor, apply_items, apply_modified, apply_indexed, ClausesPhrase, no_clause, one_clause, after_comma, DirectivePhrase, directive_phrase, ItemPhrase, does_nothing, directs, ItemsListed, last_item, next_item}

-- ---- expressions

pub after_type_name : {ty : Ty} {ts us : List Symbol} → TypeName ty ts us → AreSound ts → AreSound us
after_type_name int s = s.1
after_type_name long_long s = s.1.1
after_type_name long_long_int s = s.1.1.1

element_is_well_formed : (x : Name) (es : Exprs) (s : Span) → IsName x → WellFormedExprs (forget_exprs es) → WellFormedExpr (forget_expr (element x es s))
element_is_well_formed x no_exprs s is_name are = is_name
element_is_well_formed x (more_exprs e es) s is_name are = (is_name, tt, are)

mutual
  pub sound_phrase : {r : ℕ} {e : Expr} {w : Span} {ts us : List Symbol} → Phrase r e w ts us → AreSound ts → WellFormedExpr (forget_expr e) × AreSound us
  sound_phrase literal s = s
  sound_phrase (named {x = x} {es = es} subs) s = let a = sound_subscripts subs s.1 in (element_is_well_formed x es _ s.0 a.0, a.1)
  sound_phrase (parens h) s = let a = sound_phrase h s.1 in (a.0, a.1.1)
  sound_phrase (unary is bound h) s = sound_phrase h s.1
  sound_phrase (convert bound h k) s = sound_phrase k (after_type_name h s.1).1
  sound_phrase (binary is bound h k) s = let a = sound_phrase h s in let b = sound_phrase k a.1.1 in ((a.0, b.0), b.1)
  sound_phrase (choice bound h i j) s = let a = sound_phrase h s in let b = sound_phrase i a.1.1 in let c = sound_phrase j b.1.1 in ((a.0, b.0, c.0), c.1)

  pub sound_subscripts : {es : Exprs} {a z : Span} {ts us : List Symbol} → Subscripts es a z ts us → AreSound ts → WellFormedExprs (forget_exprs es) × AreSound us
  sound_subscripts no_more s = (tt, s)
  sound_subscripts (one_more h k) s = let a = sound_phrase h s.1 in let b = sound_subscripts k a.1.1 in ((a.0, b.0), b.1)

pub sound_list : {es : Exprs} {ts us : List Symbol} → Listed es ts us → AreSound ts → IsNotEmpty (forget_exprs es) × WellFormedExprs (forget_exprs es) × AreSound us
sound_list (last h) s = let a = sound_phrase h s in (tt, (a.0, tt), a.1)
sound_list (next h k) s = let a = sound_phrase h s in let b = sound_list k a.1.1 in (tt, (a.0, b.1), b.2)

-- ---- directives

sound_count : (cs : List Count) {c : Count} {ts us : List Symbol} → Counted c ts us → AreSound ts → WellFormedCounts (map forget_count cs) → WellFormedCounts (map forget_count (c ∷ cs))
sound_count cs fills s rest = rest
sound_count cs (gives h) s rest = ((sound_phrase h s).0, rest)

after_count : {c : Count} {ts us : List Symbol} → Counted c ts us → AreSound ts → AreSound us
after_count fills s = s.1
after_count (gives h) s = (sound_phrase h s).1

sound_counts : {cs : List Count} {ts us : List Symbol} → CountsListed cs ts us → AreSound ts → (map forget_count cs ≢ []) × WellFormedCounts (map forget_count cs) × AreSound us
sound_counts (last_count h) s = ((λ none. cc), sound_count [] h s tt, after_count h s)
sound_counts (next_count {cs = cs} h k) s =
    let b = sound_counts k (after_count h s).1 in ((λ none. cc), sound_count cs h s b.1, b.2)

mutual
  pub sound_clause : {kind : ClauseKind} {w : Span} {ts us : List Symbol} → ClausePhrase kind w ts us → AreSound ts → WellFormedClause (forget_kind kind) × AreSound us
  sound_clause (sizes_clause is h) s = let a = sound_list h s.1.1 in ((a.0, a.1), a.2.1)
  sound_clause (permutation_clause is h) s = let a = sound_list h s.1.1 in ((a.0, a.1), a.2.1)
  sound_clause (counts_clause is h) s = let a = sound_counts h s.1.1 in ((a.0, a.1), a.2.1)
  sound_clause (looprange_clause is h k) s = let a = sound_phrase h s.1.1 in let b = sound_phrase k a.1.1 in ((a.0, b.0), b.1.1)
  sound_clause (full_clause is) s = (tt, s.1)
  sound_clause (partial_clause is) s = (tt, s.1)
  sound_clause (partial_factor is h) s = let a = sound_phrase h s.1.1 in (a.0, a.1.1)
  sound_clause (apply_items is h) s = let a = sound_items h s.1.1 in ((refl, tt, a.0, a.1), a.2.1)
  sound_clause (apply_modified is h) s = let a = sound_items h s.1.1.1.1 in ((s.1.1.0, tt, a.0, a.1), a.2.1)
  sound_clause (apply_indexed is h k) s =
      let a = sound_list h s.1.1.1.1 in let b = sound_items k a.2.1.1 in ((s.1.1.0, a.1, b.0, b.1), b.2.1)

  pub sound_clauses : {commas : Bool} {cs : Clauses} {a z : Span} {ts us : List Symbol} → ClausesPhrase commas cs a z ts us → AreSound ts → WellFormedClauses (forget_clauses cs) × AreSound us
  sound_clauses no_clause s = (tt, s)
  sound_clauses (one_clause h k) s = let a = sound_clause h s in let b = sound_clauses k a.1 in ((a.0, b.0), b.1)
  sound_clauses (after_comma h k) s = let a = sound_clause h s.1 in let b = sound_clauses k a.1 in ((a.0, b.0), b.1)

  pub sound_directive : {commas : Bool} {d : Directive} {ts us : List Symbol} → DirectivePhrase commas d ts us → AreSound ts → WellFormedDirective (forget_directive d) × AreSound us
  sound_directive (directive_phrase is h) s = sound_clauses h s.1

  sound_item : {i : Item} {ts us : List Symbol} → ItemPhrase i ts us → AreSound ts → WellFormedItem (forget_item i) × AreSound us
  sound_item (does_nothing is) s = (tt, s.1)
  sound_item (directs h) s = sound_directive h s

  sound_items : {is : Items} {ts us : List Symbol} → ItemsListed is ts us → AreSound ts → HasItem (forget_items is) × WellFormedItems (forget_items is) × AreSound us
  sound_items (last_item h) s = let a = sound_item h s in (tt, (a.0, tt), a.1)
  sound_items (next_item h k) s = let a = sound_item h s in let b = sound_items k a.1.1 in (tt, (a.0, b.1), b.2)
