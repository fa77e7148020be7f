-- The symbols of printed expressions and directives spell them.
use Rattle.std.proofs.Common.{◌≡◌, ◌≢◌, ℕ, zero, suc, ◌+◌, ◌≤◌, ◌<◌, Bool, true, false, List, [], ◌∷◌, Option, Some, None, refl, sym, ap, ◌∙◌, subst, arith, map}
use Rattle.std.proofs.lemmas.Bool.{ltb-false}
use Rattle.std.specs.Option.{option_map}
use Rattle.std.specs.Prelude.{◌||◌, nat_lt, codes, IsTrue}
use Rattle.c_tree.specs.Bare as b
use Rattle.c_tree.specs.Placed as p
use Rattle.c_tree.specs.Forget.{forget_expr, forget_exprs, forget_count, forget_directive, forget_clauses, forget_clause, forget_kind, forget_items, forget_item}
use Rattle.c_tree.specs.WellFormed.{WellFormedExpr, WellFormedExprs, IsNotEmpty, WellFormedCounts, WellFormedModifier, WellFormedDirective, WellFormedClauses, WellFormedClause, WellFormedItems, WellFormedItem, HasItem}
use Rattle.c_tree.specs.declared.tree.Span.{Span}
use Rattle.c_tree.specs.declared.tree.Ty.{Ty}
use Rattle.c_tree.specs.declared.tree.Ty.TheVariants as ty
use Rattle.c_tree.specs.declared.tree.UnOp.{UnOp}
use Rattle.c_tree.specs.declared.tree.UnOp.TheVariants as u
use Rattle.c_tree.specs.declared.tree.BinOp.{BinOp}
use Rattle.c_tree.specs.declared.tree.BinOp.TheVariants as o
use Rattle.c_tree.specs.declared.tree.Kind.{Kind}
use Rattle.c_tree.specs.declared.tree.Kind.TheVariants.{Tile, Unroll, Interchange, Reverse, Split, Fuse}
use Rattle.c_lexer.specs.declared.token.Punct.TheVariants.{RoundOpen, RoundClose, SquareOpen, SquareClose, Question, Colon, Comma}
use Rattle.pragma_grammar.specs.Symbols as g
use Rattle.pragma_grammar.specs.Symbols.{Symbol, spanning, place}
use Rattle.pragma_grammar.specs.Words.{kind_of, clause_of, is_nothing}
use Rattle.pragma_grammar.specs.Expressions.{unary_of, binary_of, row, TypeName, int, long_long, element, Phrase, literal, named, parens as in_parens, unary, convert, binary, choice, Subscripts, no_more, one_more, Listed, last, next}
use Rattle.pragma_grammar.specs.Directives.{Counted, fills, gives, CountsListed, last_count, next_count, ClausePhrase, sizes_clause, permutation_clause, counts_clause, looprange_clause, full_clause, partial_clause, partial_factor, apply_items, apply_modified, apply_indexed, ClausesPhrase, no_clause, one_clause, DirectivePhrase, directive_phrase, ItemPhrase, does_nothing, directs, ItemsListed, last_item, next_item}
use Rattle.c_printer.specs.Layout.{Mark, name, punct, number, space, Layout, mark, type_name, wrapped}
use Rattle.c_printer.specs.Expressions.{unary_sign, binary_sign, binary_row, row_of, is_signed, expr_form, subscripts, further, listed}
use Rattle.c_printer.specs.Directives.{kind_word, count_form, further_counts, listed_counts, indices, modifier_form, clause_form, clauses_form, directive_form, item_form, items_after}
use Rattle.c_printer.proofs.Marks.{marks}
use Rattle.c_printer.proofs.Names.{or_none}
use Rattle.c_printer.proofs.Symbols.{span_of, symbols_at}

-- these symbols spell a tree with places of which the bare tree is left
pub record Spelled (T B : Type 0) (forget : T → B) (P : T → List Symbol → List Symbol → Type 0) (x : B) (ts us : List Symbol) : Type 0 where
  pub tree : T
  pub bare : forget tree ≡ x
  pub phrase : P tree ts us

-- and stand there
pub record SpelledAt (T B : Type 0) (forget : T → B) (P : T → Span → List Symbol → List Symbol → Type 0) (x : B) (ts us : List Symbol) : Type 0 where
  pub tree : T
  pub span : Span
  pub bare : forget tree ≡ x
  pub phrase : P tree span ts us

abbrev pub SpelledExpr : ℕ → b.Expr → List Symbol → List Symbol → Type 0
SpelledExpr r = SpelledAt p.Expr b.Expr forget_expr (Phrase r)

abbrev pub SpelledSubscripts : Span → b.Exprs → List Symbol → List Symbol → Type 0
SpelledSubscripts a = SpelledAt p.Exprs b.Exprs forget_exprs (λ es z. Subscripts es a z)

abbrev pub SpelledList : b.Exprs → List Symbol → List Symbol → Type 0
SpelledList = Spelled p.Exprs b.Exprs forget_exprs Listed

-- ---- operators and their rows

same_row : (op : BinOp) → binary_row op ≡ row op
same_row o.Mul = refl
same_row o.Div = refl
same_row o.Rem = refl
same_row o.Add = refl
same_row o.Sub = refl
same_row o.Lt = refl
same_row o.Le = refl
same_row o.Gt = refl
same_row o.Ge = refl
same_row o.Eq = refl
same_row o.Ne = refl
same_row o.And = refl
same_row o.Or = refl

unary_known : (op : UnOp) (s : Span) → unary_of (g.punct (unary_sign op) s) ≡ Some op
unary_known u.Neg s = refl
unary_known u.Plus s = refl
unary_known u.Not s = refl

binary_known : (op : BinOp) (s : Span) → binary_of (g.punct (binary_sign op) s) ≡ Some op
binary_known o.Mul s = refl
binary_known o.Div s = refl
binary_known o.Rem s = refl
binary_known o.Add s = refl
binary_known o.Sub s = refl
binary_known o.Lt s = refl
binary_known o.Le s = refl
binary_known o.Gt s = refl
binary_known o.Ge s = refl
binary_known o.Eq s = refl
binary_known o.Ne s = refl
binary_known o.And s = refl
binary_known o.Or s = refl

element_bare : (x : b.Name) (t : p.Exprs) (s : Span) (e : b.Expr) (es : b.Exprs) → forget_exprs t ≡ b.more_exprs e es → forget_expr (element x t s) ≡ b.item x (b.more_exprs e es)
element_bare x p.no_exprs s e es h = absurd cc
element_bare x (p.more_exprs f fs) s e es h = ap (b.item x) h

-- ---- directive words

kind_known : (kind : Kind) → kind_of (kind_word kind) ≡ Some kind
unfolding kind_of
kind_known Tile = refl
kind_known Unroll = refl
kind_known Interchange = refl
kind_known Reverse = refl
kind_known Split = refl
kind_known Fuse = refl

module _ (total : ℕ) where
  abbrev S : List Mark → List Symbol
  S ms = symbols_at total ms

  -- an expression in each row where it may stand
  abbrev Spells : b.Expr → Type 0
  Spells e = (r : ℕ) → r ≤ row_of e → (ms : List Mark) → SpelledExpr r e (S (marks (expr_form e) ms)) (S ms)

  wrapped_spelled : (needed : Bool) (e : b.Expr) (r : ℕ) → (needed ≡ false → r ≤ row_of e) → Spells e → (ms : List Mark) → SpelledExpr r e (S (marks (wrapped needed (expr_form e)) ms)) (S ms)
  wrapped_spelled true e r h inner ms =
      let x = inner 0 (omega arith) (punct RoundClose ∷ ms) in
      record { tree = x.tree; span = _; bare = x.bare; phrase = in_parens x.phrase }
  wrapped_spelled false e r h inner ms = inner r (h refl) ms

  row_within : (e : b.Expr) (row : ℕ) → nat_lt (row_of e) row ≡ false → row ≤ row_of e
  row_within e row h = ltb-false (row_of e) row h

  pub type_spelled : (t : Ty) (ms : List Mark) → TypeName t (S (marks (type_name t) ms)) (S ms)
  type_spelled ty.Int ms = int
  type_spelled ty.Long ms = long_long

  mutual
    pub expr_spelled : (e : b.Expr) → WellFormedExpr e → Spells e
    expr_spelled (b.num v t) w r h ms = record { tree = p.num v t (span_of total (number v t) ms); span = _; bare = refl; phrase = literal }
    expr_spelled (b.read x) w r h ms = record { tree = p.read x (spanning (span_of total (name x) ms) (span_of total (name x) ms)); span = _; bare = refl; phrase = named {es = p.no_exprs} no_more }
    expr_spelled (b.item x (b.more_exprs e es)) w r h ms =
        let y = subscripts_spelled (b.more_exprs e es) w.2 (span_of total (name x) (marks (subscripts (b.more_exprs e es)) ms)) ms in
        record {
          tree = element x y.tree (spanning (span_of total (name x) (marks (subscripts (b.more_exprs e es)) ms)) y.span);
          span = _;
          bare = element_bare x y.tree _ e es y.bare;
          phrase = named y.phrase;
        }
    expr_spelled (b.item x b.no_exprs) w r h ms = absurd w.1
    expr_spelled (b.un op a) w r h ms =
        let needed : Bool = is_signed op a || nat_lt (row_of a) 7 in
        let x = wrapped_spelled needed a 7 (λ n. row_within a 7 (or_none (is_signed op a) (nat_lt (row_of a) 7) n).1) (expr_spelled a w) ms in
        let s : Span = span_of total (punct (unary_sign op)) (marks (wrapped needed (expr_form a)) ms) in
        record { tree = p.un op x.tree (spanning s x.span); span = _; bare = ap (b.un op) x.bare; phrase = unary {t = g.punct (unary_sign op) s} (unary_known op s) h x.phrase }
    expr_spelled (b.bin op a c) w r h ms =
        let same = same_row op in
        let right : List Mark = marks (wrapped (nat_lt (row_of c) (binary_row op + 1)) (expr_form c)) ms in
        let s : Span = span_of total (punct (binary_sign op)) (space ∷ right) in
        let x = wrapped_spelled (nat_lt (row_of a) (binary_row op)) a (row op) (λ n. let k = row_within a (binary_row op) n in omega arith) (expr_spelled a w.0) (space ∷ punct (binary_sign op) ∷ space ∷ right) in
        let y = wrapped_spelled (nat_lt (row_of c) (binary_row op + 1)) c (suc (row op)) (λ n. let k = row_within c (binary_row op + 1) n in omega arith) (expr_spelled c w.1) ms in
        let within : r ≤ row op = omega arith in
        record {
          tree = p.bin op x.tree y.tree (spanning x.span y.span);
          span = _;
          bare = ap (λ z. b.bin op z (forget_expr y.tree)) x.bare ∙ ap (b.bin op a) y.bare;
          phrase = binary {t = g.punct (binary_sign op) s} (binary_known op s) within x.phrase y.phrase;
        }
    expr_spelled (b.cond a c f) w r h ms =
        let z = expr_spelled f w.2 0 (omega arith) ms in
        let y = expr_spelled c w.1 0 (omega arith) (space ∷ punct Colon ∷ space ∷ marks (expr_form f) ms) in
        let x = wrapped_spelled (nat_lt (row_of a) 1) a 1 (row_within a 1) (expr_spelled a w.0) (space ∷ punct Question ∷ space ∷ marks (expr_form c) (space ∷ punct Colon ∷ space ∷ marks (expr_form f) ms)) in
        record {
          tree = p.cond x.tree y.tree z.tree (spanning x.span z.span);
          span = _;
          bare = ap (λ v. b.cond v (forget_expr y.tree) (forget_expr z.tree)) x.bare ∙ ap (λ v. b.cond a v (forget_expr z.tree)) y.bare ∙ ap (b.cond a c) z.bare;
          phrase = choice h x.phrase y.phrase z.phrase;
        }
    expr_spelled (b.cast t a) w r h ms =
        let x = wrapped_spelled (nat_lt (row_of a) 7) a 7 (row_within a 7) (expr_spelled a w) ms in
        let after : List Mark = punct RoundClose ∷ marks (wrapped (nat_lt (row_of a) 7) (expr_form a)) ms in
        record {
          tree = p.cast t x.tree (spanning (span_of total (punct RoundOpen) (marks (type_name t) after)) x.span);
          span = _;
          bare = ap (b.cast t) x.bare;
          phrase = convert h (type_spelled t after) x.phrase;
        }

    pub subscripts_spelled : (es : b.Exprs) → WellFormedExprs es → (a : Span) (ms : List Mark) → SpelledSubscripts a es (S (marks (subscripts es) ms)) (S ms)
    subscripts_spelled b.no_exprs w a ms = record { tree = p.no_exprs; span = a; bare = refl; phrase = no_more }
    subscripts_spelled (b.more_exprs e es) w a ms =
        let rest : List Mark = marks (subscripts es) ms in
        let x = expr_spelled e w.0 0 (omega arith) (punct SquareClose ∷ rest) in
        let y = subscripts_spelled es w.1 (span_of total (punct SquareClose) rest) ms in
        record {
          tree = p.more_exprs x.tree y.tree;
          span = y.span;
          bare = ap (λ z. b.more_exprs z (forget_exprs y.tree)) x.bare ∙ ap (b.more_exprs e) y.bare;
          phrase = one_more x.phrase y.phrase;
        }

  pub list_spelled : (e : b.Expr) (es : b.Exprs) → WellFormedExpr e → WellFormedExprs es → (ms : List Mark) → SpelledList (b.more_exprs e es) (S (marks (listed (b.more_exprs e es)) ms)) (S ms)
  list_spelled e b.no_exprs w v ms =
      let x = expr_spelled e w 0 (omega arith) ms in
      record { tree = p.more_exprs x.tree p.no_exprs; bare = ap (λ z. b.more_exprs z b.no_exprs) x.bare; phrase = last x.phrase }
  list_spelled e (b.more_exprs f es) w v ms =
      let x = expr_spelled e w 0 (omega arith) (punct Comma ∷ space ∷ marks (listed (b.more_exprs f es)) ms) in
      let y = list_spelled f es v.0 v.1 ms in
      record {
        tree = p.more_exprs x.tree y.tree;
        bare = ap (λ z. b.more_exprs z (forget_exprs y.tree)) x.bare ∙ ap (b.more_exprs e) y.bare;
        phrase = next x.phrase y.phrase;
      }

  -- ---- directives

  abbrev SpelledCounts : List b.Count → List Symbol → List Symbol → Type 0
  SpelledCounts = Spelled (List p.Count) (List b.Count) (map forget_count) CountsListed

  count_spelled : (c : b.Count) (cs : List b.Count) → WellFormedCounts (c ∷ cs) → (ms : List Mark) → Spelled p.Count b.Count forget_count Counted c (S (marks (count_form c) ms)) (S ms)
  count_spelled b.fill cs w ms = record { tree = p.fill _; bare = refl; phrase = fills }
  count_spelled (b.given e) cs w ms =
      let x = expr_spelled e w.0 0 (omega arith) ms in
      record { tree = p.given x.tree; bare = ap b.given x.bare; phrase = gives x.phrase }

  rest_of_counts : (c : b.Count) (cs : List b.Count) → WellFormedCounts (c ∷ cs) → WellFormedCounts cs
  rest_of_counts b.fill cs w = w
  rest_of_counts (b.given e) cs w = w.1

  counts_spelled : (c : b.Count) (cs : List b.Count) → WellFormedCounts (c ∷ cs) → (ms : List Mark) → SpelledCounts (c ∷ cs) (S (marks (listed_counts (c ∷ cs)) ms)) (S ms)
  counts_spelled c [] w ms =
      let x = count_spelled c [] w ms in
      record { tree = x.tree ∷ []; bare = ap (λ z. z ∷ []) x.bare; phrase = last_count x.phrase }
  counts_spelled c (d ∷ cs) w ms =
      let x = count_spelled c (d ∷ cs) w (punct Comma ∷ space ∷ marks (listed_counts (d ∷ cs)) ms) in
      let y = counts_spelled d cs (rest_of_counts c (d ∷ cs) w) ms in
      record { tree = x.tree ∷ y.tree; bare = ap (λ z. z ∷ map forget_count y.tree) x.bare ∙ ap (λ z. c ∷ z) y.bare; phrase = next_count x.phrase y.phrase }

  abbrev SpelledClause : b.Clause → List Symbol → List Symbol → Type 0
  SpelledClause = SpelledAt p.ClauseKind b.Clause forget_kind ClausePhrase

  abbrev SpelledClauses : Bool → Span → b.Clauses → List Symbol → List Symbol → Type 0
  SpelledClauses commas a = SpelledAt p.Clauses b.Clauses forget_clauses (λ cs z. ClausesPhrase commas cs a z)

  abbrev SpelledItems : b.Items → List Symbol → List Symbol → Type 0
  SpelledItems = Spelled p.Items b.Items forget_items ItemsListed

  -- an `apply` with its items: whether it has a modifier and indices or not
  modified : (m : Option b.Name) (es : b.Exprs) (is : b.Items) → WellFormedModifier m es → WellFormedExprs es → (ms : List Mark)
      → SpelledItems is (S (marks (items_after true is) (punct RoundClose ∷ ms))) (S (punct RoundClose ∷ ms))
      → SpelledClause (b.apply m es is) (S (marks (clause_form (b.apply m es is)) ms)) (S ms)
  unfolding clause_of
  modified None es is w v ms x =
      record { tree = p.apply None p.no_exprs x.tree; span = _; bare = ap (b.apply None b.no_exprs) x.bare ∙ ap (λ z. b.apply None z is) (sym w); phrase = apply_items refl x.phrase }
  modified (Some m) b.no_exprs is w v ms x =
      record { tree = p.apply (Some m) p.no_exprs x.tree; span = _; bare = ap (b.apply (Some m) b.no_exprs) x.bare; phrase = apply_modified refl x.phrase }
  modified (Some m) (b.more_exprs e es) is w v ms x =
      let y = list_spelled e es v.0 v.1 (punct RoundClose ∷ punct Colon ∷ space ∷ marks (items_after true is) (punct RoundClose ∷ ms)) in
      record {
        tree = p.apply (Some m) y.tree x.tree;
        span = _;
        bare = ap (λ z. b.apply (Some m) z (forget_items x.tree)) y.bare ∙ ap (b.apply (Some m) (b.more_exprs e es)) x.bare;
        phrase = apply_indexed refl y.phrase x.phrase;
      }

  -- an item and those after it
  joined_items : (i : b.Item) (is : b.Items) (ms : List Mark) → ((ns : List Mark) → Spelled p.Item b.Item forget_item ItemPhrase i (S (marks (item_form i) ns)) (S ns))
      → (HasItem is → SpelledItems is (S (marks (items_after true is) ms)) (S ms)) → SpelledItems (b.more_items i is) (S (marks (items_after true (b.more_items i is)) ms)) (S ms)
  joined_items i b.no_items ms item rest =
      let x = item ms in
      record { tree = p.more_items x.tree p.no_items; bare = ap (λ z. b.more_items z b.no_items) x.bare; phrase = last_item x.phrase }
  joined_items i (b.more_items j is) ms item rest =
      let x = item (punct Comma ∷ space ∷ marks (items_after true (b.more_items j is)) ms) in
      let y = rest tt in
      record {
        tree = p.more_items x.tree y.tree;
        bare = ap (λ z. b.more_items z (forget_items y.tree)) x.bare ∙ ap (b.more_items i) y.bare;
        phrase = next_item x.phrase y.phrase;
      }

  mutual
    unfolding clause_of is_nothing

    clause_spelled : (c : b.Clause) → WellFormedClause c → (ms : List Mark) → SpelledClause c (S (marks (clause_form c) ms)) (S ms)
    clause_spelled (b.sizes (b.more_exprs e es)) w ms =
        let x = list_spelled e es w.1.0 w.1.1 (punct RoundClose ∷ ms) in
        record { tree = p.sizes x.tree; span = _; bare = ap b.sizes x.bare; phrase = sizes_clause refl x.phrase }
    clause_spelled (b.sizes b.no_exprs) w ms = absurd w.0
    clause_spelled (b.permutation (b.more_exprs e es)) w ms =
        let x = list_spelled e es w.1.0 w.1.1 (punct RoundClose ∷ ms) in
        record { tree = p.permutation x.tree; span = _; bare = ap b.permutation x.bare; phrase = permutation_clause refl x.phrase }
    clause_spelled (b.permutation b.no_exprs) w ms = absurd w.0
    clause_spelled (b.counts (c ∷ cs)) w ms =
        let x = counts_spelled c cs w.1 (punct RoundClose ∷ ms) in
        record { tree = p.counts x.tree; span = _; bare = ap b.counts x.bare; phrase = counts_clause refl x.phrase }
    clause_spelled (b.counts []) w ms = absurd (w.0 refl)
    clause_spelled (b.looprange e f) w ms =
        let y = expr_spelled f w.1 0 (omega arith) (punct RoundClose ∷ ms) in
        let x = expr_spelled e w.0 0 (omega arith) (punct Comma ∷ space ∷ marks (expr_form f) (punct RoundClose ∷ ms)) in
        record { tree = p.looprange x.tree y.tree; span = _; bare = ap (λ z. b.looprange z (forget_expr y.tree)) x.bare ∙ ap (b.looprange e) y.bare; phrase = looprange_clause refl x.phrase y.phrase }
    clause_spelled b.full w ms = record { tree = p.full; span = _; bare = refl; phrase = full_clause refl }
    clause_spelled (b.partial None) w ms = record { tree = p.partial None; span = _; bare = refl; phrase = partial_clause refl }
    clause_spelled (b.partial (Some e)) w ms =
        let x = expr_spelled e w 0 (omega arith) (punct RoundClose ∷ ms) in
        record { tree = p.partial (Some x.tree); span = _; bare = ap (λ z. b.partial (Some z)) x.bare; phrase = partial_factor refl x.phrase }
    clause_spelled (b.apply m es is) w ms = modified m es is w.0 w.1 ms (items_spelled is w.3 w.2 (punct RoundClose ∷ ms))

    clauses_spelled : (commas : Bool) (cs : b.Clauses) → WellFormedClauses cs → (a : Span) (ms : List Mark) → SpelledClauses commas a cs (S (marks (clauses_form cs) ms)) (S ms)
    clauses_spelled commas b.no_clauses w a ms = record { tree = p.no_clauses; span = a; bare = refl; phrase = no_clause }
    clauses_spelled commas (b.more_clauses c cs) w a ms =
        let x = clause_spelled c w.0 (marks (clauses_form cs) ms) in
        let y = clauses_spelled commas cs w.1 x.span ms in
        record {
          tree = p.more_clauses (p.clause x.tree x.span) y.tree;
          span = y.span;
          bare = ap (λ z. b.more_clauses z (forget_clauses y.tree)) x.bare ∙ ap (b.more_clauses c) y.bare;
          phrase = one_clause x.phrase y.phrase;
        }

    pub directive_spelled : (commas : Bool) (e : b.Directive) → WellFormedDirective e → (ms : List Mark) → Spelled p.Directive b.Directive forget_directive (DirectivePhrase commas) e (S (marks (directive_form e) ms)) (S ms)
    directive_spelled commas (b.directive kind cs) w ms =
        let a : Span = span_of total (name (kind_word kind)) (marks (clauses_form cs) ms) in
        let x = clauses_spelled commas cs w a ms in
        record { tree = p.directive kind x.tree (spanning a x.span); bare = ap (b.directive kind) x.bare; phrase = directive_phrase (kind_known kind) x.phrase }

    item_spelled : (i : b.Item) → WellFormedItem i → (ms : List Mark) → Spelled p.Item b.Item forget_item ItemPhrase i (S (marks (item_form i) ms)) (S ms)
    item_spelled b.nothing w ms = record { tree = p.nothing _; bare = refl; phrase = does_nothing refl }
    item_spelled (b.acts e) w ms =
        let x = directive_spelled false e w ms in
        record { tree = p.acts x.tree; bare = ap b.acts x.bare; phrase = directs x.phrase }

    items_spelled : (is : b.Items) → WellFormedItems is → HasItem is → (ms : List Mark) → SpelledItems is (S (marks (items_after true is) ms)) (S ms)
    items_spelled b.no_items w h ms = absurd h
    items_spelled (b.more_items i is) w h ms = joined_items i is ms (λ ns. item_spelled i w.0 ns) (λ g. items_spelled is w.1 g ms)
