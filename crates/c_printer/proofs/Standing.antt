-- The marks of printed expressions, directives, statements and items stand: each token is cut by itself.
use Rattle.std.proofs.Common.{◌≡◌, ◌≢◌, ℕ, zero, suc, ◌+◌, ◌<◌, ◌^◌, Bool, true, false, cond, List, [], ◌∷◌, ◌++◌, Option, Some, None, refl, sym, ap, ◌∙◌, subst, arith}
use Rattle.std.proofs.lemmas.Bool.{and_parts, both_ways, ne_eqb, cond-false}
use Rattle.std.specs.Prelude.{IsTrue, IsFalse, ◌||◌, ◌==◌, nat_lt, codes, decimal}
use Rattle.std.specs.Char.{is_ascii_digit}
use Rattle.std.specs.List.{list_all}
use Rattle.c_tree.specs.Bare as b
use Rattle.c_tree.specs.Constants.{IsHeld}
use Rattle.c_tree.specs.WellFormed.{IsName, WellFormedExpr, WellFormedExprs, WellFormedOption, WellFormedCounts, WellFormedModifier, WellFormedDirective, WellFormedClauses, WellFormedClause, WellFormedItems, WellFormedItem, WellFormedStmt, WellFormedStmts, WellFormedPart, WellFormedHead, WellFormedParams, WellFormedInitial, WellFormedTop, WellFormedTops}
use Rattle.c_tree.specs.declared.tree.Ty.{Ty}
use Rattle.c_tree.specs.declared.tree.Ty.TheVariants as ty
use Rattle.c_tree.specs.declared.tree.UnOp.{UnOp}
use Rattle.c_tree.specs.declared.tree.UnOp.TheVariants as u
use Rattle.c_tree.specs.declared.tree.BinOp.{BinOp}
use Rattle.c_tree.specs.declared.tree.BinOp.TheVariants as o
use Rattle.c_tree.specs.declared.tree.SetOp.{SetOp}
use Rattle.c_tree.specs.declared.tree.SetOp.TheVariants as op
use Rattle.c_tree.specs.declared.tree.Kind.{Kind}
use Rattle.c_tree.specs.declared.tree.Kind.TheVariants.{Tile, Unroll, Interchange, Reverse, Split, Fuse}
use Rattle.c_tree.specs.declared.tree.Port.{Port}
use Rattle.c_tree.specs.declared.tree.Port.TheVariants.{Print, Input}
use Rattle.c_lexer.specs.declared.mode.Growth.TheVariants.{Ends}
use Rattle.c_lexer.specs.declared.token.Punct.{Punct}
use Rattle.c_lexer.specs.declared.token.Punct.TheVariants.{SquareOpen, SquareClose, RoundOpen, RoundClose, CurlyOpen, CurlyClose, Minus, Question, Colon, Semicolon, Comma, Assign, PlusPlus, MinusMinus}
use Rattle.c_lexer.specs.declared.words.Keyword.TheVariants as k
use Rattle.c_lexer.specs.Bytes.{begins_word, goes_in_word}
use Rattle.c_lexer.specs.Classes.{growth}
use Rattle.c_lexer.specs.Lexemes.{is_word}
use Rattle.c_lexer.proofs.Longest.{EndsWord, EndsPunct}
use Rattle.c_printer.specs.Layout.{Mark, name, keyword, static, number, punct, hash, line_end, space, feed, Layout, mark, ◌&◌, word, key, gap, semicolon, suffix, type_name, wrapped, parens, indent, line, braces, separator}
use Rattle.c_printer.specs.Expressions.{unary_sign, binary_sign, binary_row, row_of, is_signed, expr_form, subscripts, further, listed}
use Rattle.c_printer.specs.Directives.{kind_word, count_form, further_counts, listed_counts, indices, modifier_form, clause_form, clauses_form, directive_form, item_form, items_after}
use Rattle.c_printer.specs.Statements.{set_sign, step_sign, target_form, initial, simple, first_part, test_part, last_part, head_form, pragma, is_one_loop, carried, stmt_form, stmts_form}
use Rattle.c_printer.specs.Programs.{define_value, extern_form, param_form, further_params, params_form, return_line, top_form, program_form}
use Rattle.c_printer.proofs.Marks.{marks, bytes, At, fresh, within, Stops, Stand}
use Rattle.c_printer.proofs.Names.{or_none, name_is_word}
use Rattle.c_printer.proofs.Words.{decimal_parts}

-- ---- what follows a token

-- a punctuator that never grows
pub ends : (p : Punct) → ((c : ℕ) → growth p c ≡ Ends) → (bs : List ℕ) → EndsPunct p bs
ends p g [] = tt
ends p g (c ∷ bs) = g c

word_stops : (bs : List ℕ) → Stops bs → EndsWord bs
word_stops [] h = tt
word_stops (c ∷ bs) h = (or_none (goes_in_word c) (c == 46) (or_none (goes_in_word c || c == 46) (c == 43 || c == 45) h).0).0

binary_ends : (op : BinOp) → growth (binary_sign op) 32 ≡ Ends
binary_ends o.Mul = refl
binary_ends o.Div = refl
binary_ends o.Rem = refl
binary_ends o.Add = refl
binary_ends o.Sub = refl
binary_ends o.Lt = refl
binary_ends o.Le = refl
binary_ends o.Gt = refl
binary_ends o.Ge = refl
binary_ends o.Eq = refl
binary_ends o.Ne = refl
binary_ends o.And = refl
binary_ends o.Or = refl

set_ends : (o : SetOp) → growth (set_sign o) 32 ≡ Ends
set_ends op.Plain = refl
set_ends op.Add = refl
set_ends op.Sub = refl
set_ends op.Mul = refl
set_ends op.Div = refl
set_ends op.Rem = refl

step_ends : (up : Bool) (bs : List ℕ) → EndsPunct (step_sign up) bs
step_ends true bs = ends PlusPlus (λ c. refl) bs
step_ends false bs = ends MinusMinus (λ c. refl) bs

step_ends_word : (up : Bool) (ms : List Mark) → EndsWord (bytes (punct (step_sign up) ∷ ms))
step_ends_word true ms = refl
step_ends_word false ms = refl

-- ---- the first byte after a unary operator

apart_ends : (op : UnOp) (c : ℕ) → c ≢ 62 → c ≢ 45 → c ≢ 43 → c ≢ 61 → growth (unary_sign op) c ≡ Ends
apart_ends u.Neg c n62 n45 n43 n61 = cond-false _ _ _ (ne_eqb c 62 n62) ∙ cond-false _ _ _ (ne_eqb c 45 n45) ∙ cond-false _ _ _ (ne_eqb c 61 n61)
apart_ends u.Plus c n62 n45 n43 n61 = cond-false _ _ _ (ne_eqb c 43 n43) ∙ cond-false _ _ _ (ne_eqb c 61 n61)
apart_ends u.Not c n62 n45 n43 n61 = cond-false _ _ _ (ne_eqb c 61 n61)

differ : (P : ℕ → Bool) (c n : ℕ) → P c ≡ true → P n ≡ false → c ≢ n
differ P c n h f e = both_ways _ f (ap P (sym e) ∙ h)

digit_after : (op : UnOp) (c : ℕ) → is_ascii_digit c ≡ true → growth (unary_sign op) c ≡ Ends
digit_after op c h = apart_ends op c (differ is_ascii_digit c 62 h refl) (differ is_ascii_digit c 45 h refl) (differ is_ascii_digit c 43 h refl) (differ is_ascii_digit c 61 h refl)

letter_after : (op : UnOp) (c : ℕ) → begins_word c ≡ true → growth (unary_sign op) c ≡ Ends
letter_after op c h = apart_ends op c (differ begins_word c 62 h refl) (differ begins_word c 45 h refl) (differ begins_word c 43 h refl) (differ begins_word c 61 h refl)

word_after : (op : UnOp) (x bs : List ℕ) → IsTrue (is_word x) → EndsPunct (unary_sign op) (x ++ bs)
word_after op [] bs h = absurd (both_ways _ refl h)
word_after op (c ∷ x) bs h = letter_after op c (and_parts (begins_word c) (list_all goes_in_word x) h).0

held_is_small : (v : ℕ) (t : Ty) → IsHeld t v → v < 2 ^ 64
held_is_small v ty.Int h = omega arith
held_is_small v ty.Long h = omega arith

number_after : (op : UnOp) (v : ℕ) (t : Ty) (bs : List ℕ) → IsHeld t v → EndsPunct (unary_sign op) ((decimal v ++ suffix t) ++ bs)
number_after op v t bs h =
    let r = decimal_parts v (held_is_small v t h) in
    let P : List ℕ → Type 0 = λ z. EndsPunct (unary_sign op) ((z ++ suffix t) ++ bs) in
    subst P (sym r.2) (digit_after op r.0 r.3)

paren_after : (op : UnOp) → growth (unary_sign op) 40 ≡ Ends
paren_after u.Neg = refl
paren_after u.Plus = refl
paren_after u.Not = refl

row_below : (op : BinOp) → nat_lt (binary_row op) 7 ≡ true
row_below o.Mul = refl
row_below o.Div = refl
row_below o.Rem = refl
row_below o.Add = refl
row_below o.Sub = refl
row_below o.Lt = refl
row_below o.Le = refl
row_below o.Gt = refl
row_below o.Ge = refl
row_below o.Eq = refl
row_below o.Ne = refl
row_below o.And = refl
row_below o.Or = refl

plain_after : (op : UnOp) (a : b.Expr) → WellFormedExpr a → (ms : List Mark) → (is_signed op a || nat_lt (row_of a) 7) ≡ false → EndsPunct (unary_sign op) (bytes (marks (expr_form a) ms))
plain_after op (b.num v t) w ms e = number_after op v t (bytes ms) w
plain_after op (b.read x) w ms e = word_after op x (bytes ms) (name_is_word x w)
plain_after op (b.item x es) w ms e = word_after op x (bytes (marks (subscripts es) ms)) (name_is_word x w.0)
plain_after u.Not (b.un u.Neg a) w ms e = refl
plain_after u.Not (b.un u.Plus a) w ms e = refl
plain_after u.Not (b.un u.Not a) w ms e = refl
plain_after u.Neg (b.un u.Neg a) w ms e = absurd (both_ways _ e refl)
plain_after u.Neg (b.un u.Plus a) w ms e = absurd (both_ways _ e refl)
plain_after u.Neg (b.un u.Not a) w ms e = refl
plain_after u.Plus (b.un u.Neg a) w ms e = absurd (both_ways _ e refl)
plain_after u.Plus (b.un u.Plus a) w ms e = absurd (both_ways _ e refl)
plain_after u.Plus (b.un u.Not a) w ms e = refl
plain_after op (b.bin p a c) w ms e = absurd (both_ways _ (or_none (is_signed op (b.bin p a c)) (nat_lt (binary_row p) 7) e).1 (row_below p))
plain_after op (b.cond a c d) w ms e = absurd (both_ways _ (or_none (is_signed op (b.cond a c d)) true e).1 refl)
plain_after op (b.cast t a) w ms e = paren_after op

wrapped_after : (op : UnOp) (needed : Bool) (a : Layout) (ms : List Mark) → (needed ≡ false → EndsPunct (unary_sign op) (bytes (marks a ms))) → EndsPunct (unary_sign op) (bytes (marks (wrapped needed a) ms))
wrapped_after op true a ms h = paren_after op
wrapped_after op false a ms h = h refl

-- ---- expressions

module _ (d : Bool) where
  abbrev pub Stands : Layout → Type 0
  Stands a = (ms : List Mark) → Stops (bytes ms) → Stand (within d) ms → Stand (within d) (marks a ms)

  wrapped_stands : (needed : Bool) (a : Layout) → Stands a → Stands (wrapped needed a)
  wrapped_stands true a inner ms s h = (ends RoundOpen (λ c. refl) _, inner (punct RoundClose ∷ ms) refl (ends RoundClose (λ c. refl) _, h))
  wrapped_stands false a inner ms s h = inner ms s h

  pub parens_stand : (a : Layout) → Stands a → (ms : List Mark) → Stand (within d) ms → Stand (within d) (marks (parens a) ms)
  parens_stand a inner ms h = (ends RoundOpen (λ c. refl) _, inner (punct RoundClose ∷ ms) refl (ends RoundClose (λ c. refl) _, h))

  pub type_stands : (t : Ty) (ms : List Mark) → EndsWord (bytes ms) → Stand (within d) ms → Stand (within d) (marks (type_name t) ms)
  type_stands ty.Int ms e h = ((tt, e), h)
  type_stands ty.Long ms e h = ((tt, refl), (tt, ((tt, e), h)))

  pub subscripts_end_word : (es : b.Exprs) (ms : List Mark) → EndsWord (bytes ms) → EndsWord (bytes (marks (subscripts es) ms))
  subscripts_end_word b.no_exprs ms e = e
  subscripts_end_word (b.more_exprs f es) ms e = refl

  mutual
    pub expr_stands : (e : b.Expr) → WellFormedExpr e → Stands (expr_form e)
    expr_stands (b.num v t) w ms s h = ((w, s), h)
    expr_stands (b.read x) w ms s h = ((w, word_stops (bytes ms) s), h)
    expr_stands (b.item x es) w ms s h = ((w.0, subscripts_end_word es ms (word_stops (bytes ms) s)), subscripts_stand es w.2 ms h)
    expr_stands (b.un op a) w ms s h =
        (wrapped_after op (is_signed op a || nat_lt (row_of a) 7) (expr_form a) ms (plain_after op a w ms), wrapped_stands (is_signed op a || nat_lt (row_of a) 7) (expr_form a) (expr_stands a w) ms s h)
    expr_stands (b.bin op a c) w ms s h =
        wrapped_stands (nat_lt (row_of a) (binary_row op)) (expr_form a) (expr_stands a w.0) _ refl
        (tt, (binary_ends op, (tt, wrapped_stands (nat_lt (row_of c) (binary_row op + 1)) (expr_form c) (expr_stands c w.1) ms s h)))
    expr_stands (b.cond a c f) w ms s h =
        wrapped_stands (nat_lt (row_of a) 1) (expr_form a) (expr_stands a w.0) _ refl
        (tt, (refl, (tt, expr_stands c w.1 _ refl (tt, (refl, (tt, expr_stands f w.2 ms s h))))))
    expr_stands (b.cast t a) w ms s h =
        (ends RoundOpen (λ c. refl) _, type_stands t _ refl (ends RoundClose (λ c. refl) _, wrapped_stands (nat_lt (row_of a) 7) (expr_form a) (expr_stands a w) ms s h))

    pub subscripts_stand : (es : b.Exprs) → WellFormedExprs es → (ms : List Mark) → Stand (within d) ms → Stand (within d) (marks (subscripts es) ms)
    subscripts_stand b.no_exprs w ms h = h
    subscripts_stand (b.more_exprs e es) w ms h = (ends SquareOpen (λ c. refl) _, expr_stands e w.0 _ refl (ends SquareClose (λ c. refl) _, subscripts_stand es w.1 ms h))

  further_stop : (es : b.Exprs) (ms : List Mark) → Stops (bytes ms) → Stops (bytes (marks (further es) ms))
  further_stop b.no_exprs ms s = s
  further_stop (b.more_exprs e es) ms s = refl

  further_stand : (es : b.Exprs) → WellFormedExprs es → Stands (further es)
  further_stand b.no_exprs w ms s h = h
  further_stand (b.more_exprs e es) w ms s h = (refl, (tt, expr_stands e w.0 _ (further_stop es ms s) (further_stand es w.1 ms s h)))

  pub listed_stand : (es : b.Exprs) → WellFormedExprs es → Stands (listed es)
  listed_stand b.no_exprs w ms s h = h
  listed_stand (b.more_exprs e es) w ms s h = expr_stands e w.0 _ (further_stop es ms s) (further_stand es w.1 ms s h)

  -- ---- directives

  count_stands : (c : b.Count) (cs : List b.Count) → WellFormedCounts (c ∷ cs) → Stands (count_form c)
  count_stands b.fill cs w ms s h = ((tt, word_stops (bytes ms) s), h)
  count_stands (b.given e) cs w ms s h = expr_stands e w.0 ms s h

  rest_of_counts : (c : b.Count) (cs : List b.Count) → WellFormedCounts (c ∷ cs) → WellFormedCounts cs
  rest_of_counts b.fill cs w = w
  rest_of_counts (b.given e) cs w = w.1

  further_counts_stop : (cs : List b.Count) (ms : List Mark) → Stops (bytes ms) → Stops (bytes (marks (further_counts cs) ms))
  further_counts_stop [] ms s = s
  further_counts_stop (c ∷ cs) ms s = refl

  further_counts_stand : (cs : List b.Count) → WellFormedCounts cs → Stands (further_counts cs)
  further_counts_stand [] w ms s h = h
  further_counts_stand (c ∷ cs) w ms s h =
      (refl, (tt, count_stands c cs w _ (further_counts_stop cs ms s) (further_counts_stand cs (rest_of_counts c cs w) ms s h)))

  counts_stand : (cs : List b.Count) → WellFormedCounts cs → Stands (listed_counts cs)
  counts_stand [] w ms s h = h
  counts_stand (c ∷ cs) w ms s h = count_stands c cs w _ (further_counts_stop cs ms s) (further_counts_stand cs (rest_of_counts c cs w) ms s h)

  kind_is_name : (kind : Kind) → IsName (kind_word kind)
  kind_is_name Tile = refl
  kind_is_name Unroll = refl
  kind_is_name Interchange = refl
  kind_is_name Reverse = refl
  kind_is_name Split = refl
  kind_is_name Fuse = refl

  indices_end_word : (es : b.Exprs) (ms : List Mark) → EndsWord (bytes ms) → EndsWord (bytes (marks (indices es) ms))
  indices_end_word b.no_exprs ms e = e
  indices_end_word (b.more_exprs f es) ms e = refl

  indices_stand : (es : b.Exprs) → WellFormedExprs es → (ms : List Mark) → Stand (within d) ms → Stand (within d) (marks (indices es) ms)
  indices_stand b.no_exprs w ms h = h
  indices_stand (b.more_exprs e es) w ms h = parens_stand (listed (b.more_exprs e es)) (listed_stand (b.more_exprs e es) w) ms h

  modifier_stands : (m : Option b.Name) (es : b.Exprs) → WellFormedModifier m es → WellFormedExprs es → (ms : List Mark) → Stand (within d) ms → Stand (within d) (marks (modifier_form m es) ms)
  modifier_stands None es w v ms h = h
  modifier_stands (Some x) es w v ms h = ((w, indices_end_word es _ refl), indices_stand es v _ (refl, (tt, h)))

  clauses_stop : (cs : b.Clauses) (ms : List Mark) → Stops (bytes ms) → Stops (bytes (marks (clauses_form cs) ms))
  clauses_stop b.no_clauses ms s = s
  clauses_stop (b.more_clauses c cs) ms s = refl

  items_stop : (is : b.Items) (ms : List Mark) → Stops (bytes ms) → Stops (bytes (marks (items_after false is) ms))
  items_stop b.no_items ms s = s
  items_stop (b.more_items i is) ms s = refl

  separator_stands : (first : Bool) (ms : List Mark) → Stand (within d) ms → Stand (within d) (marks (separator first) ms)
  separator_stands true ms h = h
  separator_stands false ms h = (refl, (tt, h))

  mutual
    clause_stands : (c : b.Clause) → WellFormedClause c → Stands (clause_form c)
    clause_stands (b.sizes es) w ms s h = ((refl, refl), parens_stand (listed es) (listed_stand es w.1) ms h)
    clause_stands (b.permutation es) w ms s h = ((refl, refl), parens_stand (listed es) (listed_stand es w.1) ms h)
    clause_stands (b.counts cs) w ms s h = ((refl, refl), parens_stand (listed_counts cs) (counts_stand cs w.1) ms h)
    clause_stands (b.looprange e f) w ms s h =
        ((refl, refl), (ends RoundOpen (λ c. refl) _, expr_stands e w.0 _ refl (refl, (tt, expr_stands f w.1 _ refl (ends RoundClose (λ c. refl) _, h)))))
    clause_stands b.full w ms s h = ((refl, word_stops (bytes ms) s), h)
    clause_stands (b.partial None) w ms s h = ((refl, word_stops (bytes ms) s), h)
    clause_stands (b.partial (Some e)) w ms s h = ((refl, refl), parens_stand (expr_form e) (expr_stands e w) ms h)
    clause_stands (b.apply m es is) w ms s h =
        ((refl, refl), (ends RoundOpen (λ c. refl) _, modifier_stands m es w.0 w.1 _ (items_stand true is w.3 _ refl (ends RoundClose (λ c. refl) _, h))))

    clauses_stand : (cs : b.Clauses) → WellFormedClauses cs → Stands (clauses_form cs)
    clauses_stand b.no_clauses w ms s h = h
    clauses_stand (b.more_clauses c cs) w ms s h = (tt, clause_stands c w.0 _ (clauses_stop cs ms s) (clauses_stand cs w.1 ms s h))

    pub directive_stands : (e : b.Directive) → WellFormedDirective e → Stands (directive_form e)
    directive_stands (b.directive kind cs) w ms s h = ((kind_is_name kind, word_stops (bytes (marks (clauses_form cs) ms)) (clauses_stop cs ms s)), clauses_stand cs w ms s h)

    item_stands : (i : b.Item) → WellFormedItem i → Stands (item_form i)
    item_stands b.nothing w ms s h = ((refl, word_stops (bytes ms) s), h)
    item_stands (b.acts e) w ms s h = directive_stands e w ms s h

    items_stand : (first : Bool) (is : b.Items) → WellFormedItems is → Stands (items_after first is)
    items_stand first b.no_items w ms s h = h
    items_stand first (b.more_items i is) w ms s h = separator_stands first _ (item_stands i w.0 _ (items_stop is ms s) (items_stand false is w.1 ms s h))

-- ---- lines

-- what stands after a token stands at the beginning of a line
at_start : (ms : List Mark) → Stand (within false) ms → Stand fresh ms
at_start [] h = absurd h
at_start (space ∷ ms) h = (tt, at_start ms h.1)
at_start (feed ∷ ms) h = h
at_start (line_end ∷ ms) h = absurd h.0
at_start (hash ∷ ms) h = absurd h.0
at_start (name x ∷ ms) h = h
at_start (keyword w ∷ ms) h = h
at_start (static ∷ ms) h = h
at_start (number v t ∷ ms) h = h
at_start (punct p ∷ ms) h = h

indent_stands : (level : ℕ) (s : At) (ms : List Mark) → Stand s ms → Stand s (marks (indent level) ms)
indent_stands zero s ms h = h
indent_stands (suc level) s ms h = (tt, (tt, (tt, (tt, indent_stands level s ms h))))

line_stands : (level : ℕ) (a : Layout) (ms : List Mark) → (Stand (within false) (feed ∷ ms) → Stand (within false) (marks a (feed ∷ ms))) → Stand fresh ms → Stand fresh (marks (line level a) ms)
line_stands level a ms inner h = indent_stands level fresh (marks a (feed ∷ ms)) (at_start (marks a (feed ∷ ms)) (inner (tt, h)))

braces_stand : (level : ℕ) (a : Layout) (ms : List Mark) → ((ms : List Mark) → Stand fresh ms → Stand fresh (marks a ms)) → Stand (within false) ms → Stand (within false) (marks (braces level a) ms)
braces_stand level a ms inner h = (refl, (tt, inner _ (indent_stands level fresh (punct CurlyClose ∷ ms) (ends CurlyClose (λ c. refl) _, h))))

-- ---- statements

initial_ends_word : (init : Option b.Expr) (ms : List Mark) → Stops (bytes ms) → EndsWord (bytes (marks (initial init) ms))
initial_ends_word None ms s = word_stops (bytes ms) s
initial_ends_word (Some e) ms s = refl

initial_stands : (init : Option b.Expr) → WellFormedOption init → Stands false (initial init)
initial_stands None w ms s h = h
initial_stands (Some e) w ms s h = (tt, (refl, (tt, expr_stands false e w ms s h)))

simple_stands : (a : b.Stmt) → WellFormedStmt a → Stands false (simple a)
simple_stands (b.decl t x init) w ms s h = type_stands false t _ refl (tt, ((w.0, initial_ends_word init ms s), initial_stands init w.1 ms s h))
simple_stands (b.set (b.target x es) o e) w ms s h =
    ((w.0.0, subscripts_end_word false es _ refl), subscripts_stand false es w.0.1 _ (tt, (set_ends o, (tt, expr_stands false e w.1 ms s h))))
simple_stands (b.step (b.target x es) up) w ms s h =
    ((w.0, subscripts_end_word false es _ (step_ends_word up ms)), subscripts_stand false es w.1 _ (step_ends up _, h))
simple_stands (b.print e) w ms s h = ((tt, refl), parens_stand false (expr_form e) (expr_stands false e w) ms h)
simple_stands (b.input (b.target x es)) w ms s h =
    ((w.0, subscripts_end_word false es _ refl), subscripts_stand false es w.1 _ (tt, (refl, (tt, ((tt, refl), (refl, (ends RoundClose (λ c. refl) (bytes ms), h)))))))
simple_stands b.break_ w ms s h = ((tt, word_stops (bytes ms) s), h)
simple_stands b.continue_ w ms s h = ((tt, word_stops (bytes ms) s), h)
simple_stands (b.call x es) w ms s h = ((w.0, refl), parens_stand false (listed es) (listed_stand false es w.1) ms h)
simple_stands _ w ms s h = h

semicolon_stands : (ms : List Mark) → Stand (within false) ms → Stand (within false) (punct Semicolon ∷ ms)
semicolon_stands ms h = (ends Semicolon (λ c. refl) _, h)

part_stands : (p : b.MaybeStmt) → WellFormedPart p → Stands false (first_part p)
part_stands b.no_stmt w ms s h = h
part_stands (b.a_stmt a) w ms s h = simple_stands a w ms s h

last_stands : (p : b.MaybeStmt) → WellFormedPart p → Stands false (last_part p)
last_stands b.no_stmt w ms s h = h
last_stands (b.a_stmt a) w ms s h = (tt, simple_stands a w ms s h)

test_stands : (e : Option b.Expr) → WellFormedOption e → Stands false (test_part e)
test_stands None w ms s h = h
test_stands (Some e) w ms s h = (tt, expr_stands false e w ms s h)

head_stands : (e : b.Head) → WellFormedHead e → Stands false (head_form e)
head_stands (b.head init test last) w ms s h =
    part_stands init w.1 _ refl (semicolon_stands _ (test_stands test w.2 _ refl (semicolon_stands _ (last_stands last w.4 ms s h))))

pragma_stands : (level : ℕ) (e : b.Directive) → WellFormedDirective e → (ms : List Mark) → Stand fresh ms → Stand fresh (marks (pragma level e) ms)
pragma_stands level e w ms h =
    indent_stands level fresh _ (tt, ((refl, refl), (tt, ((refl, refl), (tt, directive_stands true e w (line_end ∷ ms) refl (tt, h))))))

choice_stands : (c : Bool) (x y : Layout) (ms : List Mark) → Stand fresh (marks x ms) → Stand fresh (marks y ms) → Stand fresh (marks (cond c x y) ms)
choice_stands true x y ms h k = h
choice_stands false x y ms h k = k

simple_line_stands : (level : ℕ) (a : b.Stmt) → WellFormedStmt a → (ms : List Mark) → Stand fresh ms → Stand fresh (marks (line level (simple a & semicolon)) ms)
simple_line_stands level a w ms h = line_stands level (simple a & semicolon) ms (λ k. simple_stands a w (punct Semicolon ∷ feed ∷ ms) refl (semicolon_stands (feed ∷ ms) k)) h

condition_stands : (e : b.Expr) → WellFormedExpr e → (ms : List Mark) → Stand (within false) ms → Stand (within false) (marks (gap & parens (expr_form e) & gap) ms)
condition_stands e w ms h = (tt, parens_stand false (expr_form e) (expr_stands false e w) _ (tt, h))

mutual
  stmt_stands : (level : ℕ) (a : b.Stmt) → WellFormedStmt a → (ms : List Mark) → Stand fresh ms → Stand fresh (marks (stmt_form level a) ms)
  stmt_stands level (b.if_ e body) w ms h =
      line_stands level (key k.If & gap & parens (expr_form e) & gap & braces level (stmts_form (level + 1) body)) ms (λ k. ((tt, refl), condition_stands e w.0 _ (braces_stand level (stmts_form (level + 1) body) _ (stmts_stand (level + 1) body w.1) k))) h
  stmt_stands level (b.if_else e body other) w ms h =
      line_stands level (key k.If & gap & parens (expr_form e) & gap & braces level (stmts_form (level + 1) body) & gap & key k.Else & gap & braces level (stmts_form (level + 1) other)) ms (λ k. (
        (tt, refl),
        condition_stands e w.0 _ (braces_stand level (stmts_form (level + 1) body) _ (stmts_stand (level + 1) body w.1)
            (tt, ((tt, refl), (tt, braces_stand level (stmts_form (level + 1) other) _ (stmts_stand (level + 1) other w.2) k)))),
      )) h
  stmt_stands level (b.while_ e body) w ms h =
      line_stands level (key k.While & gap & parens (expr_form e) & gap & braces level (stmts_form (level + 1) body)) ms (λ k. ((tt, refl), condition_stands e w.0 _ (braces_stand level (stmts_form (level + 1) body) _ (stmts_stand (level + 1) body w.1) k))) h
  stmt_stands level (b.do_ body e) w ms h =
      line_stands level (key k.Do & gap & braces level (stmts_form (level + 1) body) & gap & key k.While & gap & parens (expr_form e) & semicolon) ms (λ k. (
        (tt, refl),
        (
          tt,
          braces_stand level (stmts_form (level + 1) body) _ (stmts_stand (level + 1) body w.0)
              (tt, ((tt, refl), (tt, parens_stand false (expr_form e) (expr_stands false e w.1) _ (semicolon_stands (feed ∷ ms) k)))),
        ),
      )) h
  stmt_stands level (b.for_ e body) w ms h =
      line_stands level (key k.For & gap & parens (head_form e) & gap & braces level (stmts_form (level + 1) body)) ms (λ k. ((tt, refl), (tt, parens_stand false (head_form e) (head_stands e w.0) _ (tt, braces_stand level (stmts_form (level + 1) body) _ (stmts_stand (level + 1) body w.1) k)))) h
  stmt_stands level (b.block body) w ms h = line_stands level (braces level (stmts_form (level + 1) body)) ms (λ k. braces_stand level (stmts_form (level + 1) body) _ (stmts_stand (level + 1) body w) k) h
  stmt_stands level (b.omp e body) w ms h =
      pragma_stands level e w.0 _ (choice_stands (is_one_loop body) (stmts_form level body) (line level (braces level (stmts_form (level + 1) body))) ms (stmts_stand level body w.1 ms h) (line_stands level (braces level (stmts_form (level + 1) body)) ms (λ k. braces_stand level (stmts_form (level + 1) body) _ (stmts_stand (level + 1) body w.1) k) h))
  stmt_stands level (b.decl t x init) w ms h = simple_line_stands level (b.decl t x init) w ms h
  stmt_stands level (b.set to o e) w ms h = simple_line_stands level (b.set to o e) w ms h
  stmt_stands level (b.step to up) w ms h = simple_line_stands level (b.step to up) w ms h
  stmt_stands level (b.print e) w ms h = simple_line_stands level (b.print e) w ms h
  stmt_stands level (b.input to) w ms h = simple_line_stands level (b.input to) w ms h
  stmt_stands level b.break_ w ms h = simple_line_stands level b.break_ w ms h
  stmt_stands level b.continue_ w ms h = simple_line_stands level b.continue_ w ms h
  stmt_stands level b.empty w ms h = simple_line_stands level b.empty w ms h
  stmt_stands level (b.call x es) w ms h = simple_line_stands level (b.call x es) w ms h

  stmts_stand : (level : ℕ) (body : b.Stmts) → WellFormedStmts body → (ms : List Mark) → Stand fresh ms → Stand fresh (marks (stmts_form level body) ms)
  stmts_stand level b.no_stmts w ms h = h
  stmts_stand level (b.more_stmts a body) w ms h = stmt_stands level a w.0 _ (stmts_stand level body w.1 ms h)

-- ---- items

value_stands : (negative : Bool) (v : ℕ) (t : Ty) → IsHeld t v → Stands true (define_value negative v t)
value_stands false v t w ms s h = ((w, s), h)
value_stands true v t w ms s h =
    (refl, (number_after u.Neg v t (bytes (punct RoundClose ∷ ms)) w, ((w, refl), (ends RoundClose (λ c. refl) _, h))))

params_end : (ps : List b.Param) (ms : List Mark) → Stops (bytes ms) → Stops (bytes (marks (further_params ps) ms))
params_end [] ms s = s
params_end (p ∷ ps) ms s = refl

further_params_stand : (ps : List b.Param) → WellFormedParams ps → Stands false (further_params ps)
further_params_stand [] w ms s h = h
further_params_stand (p ∷ ps) w ms s h =
    (refl, (tt, type_stands false p.ty _ refl (tt, ((w.0, word_stops (bytes (marks (further_params ps) ms)) (params_end ps ms s)), further_params_stand ps w.1 ms s h))))

params_stand : (ps : List b.Param) → WellFormedParams ps → Stands false (params_form ps)
params_stand [] w ms s h = ((tt, word_stops (bytes ms) s), h)
params_stand (p ∷ ps) w ms s h = type_stands false p.ty _ refl (tt, ((w.0, word_stops (bytes (marks (further_params ps) ms)) (params_end ps ms s)), further_params_stand ps w.1 ms s h))

extern_stands : (port : Port) (ms : List Mark) → Stand (within false) ms → Stand (within false) (marks (extern_form port) ms)
extern_stands Print ms h =
    ((tt, refl), (tt, ((tt, refl), (refl, type_stands false ty.Long (punct RoundClose ∷ ms) refl (ends RoundClose (λ c. refl) (bytes ms), h)))))
extern_stands Input ms h =
    type_stands false ty.Long (space ∷ keyword k.Input ∷ punct RoundOpen ∷ keyword k.Void ∷ punct RoundClose ∷ ms) refl (tt, ((tt, refl), (refl, ((tt, refl), (ends RoundClose (λ c. refl) (bytes ms), h)))))

initial_of_global : (dims : b.Exprs) (init : Option b.Expr) → WellFormedInitial dims init → WellFormedOption init
initial_of_global b.no_exprs init w = w
initial_of_global (b.more_exprs e es) init w = let P : Option b.Expr → Type 0 = λ z. WellFormedOption z in subst P (sym w) tt

abbrev returning : Layout
returning = key k.Return & gap & mark (number 0 ty.Int) & semicolon

zero_is_held : IsHeld ty.Int 0
zero_is_held = omega arith

top_stands : (t : b.Top) → WellFormedTop t → (ms : List Mark) → Stand fresh ms → Stand fresh (marks (top_form t) ms)
top_stands (b.define x negative v t) w ms h =
    (tt, ((refl, refl), (tt, ((w.0, refl), (tt, value_stands negative v t w.1 (line_end ∷ ms) refl (tt, h))))))
top_stands (b.extern_ port) w ms h = line_stands 0 (key k.Extern & gap & extern_form port & semicolon) ms (λ k. ((tt, refl), (tt, extern_stands port (punct Semicolon ∷ feed ∷ ms) (semicolon_stands (feed ∷ ms) k)))) h
top_stands (b.global t x dims init) w ms h =
    line_stands 0 (type_name t & gap & word x & subscripts dims & initial init & semicolon) ms (λ k. type_stands false t _ refl (tt, ((w.0, subscripts_end_word false dims _ (initial_ends_word init _ refl)), subscripts_stand false dims w.1 _ (initial_stands init (initial_of_global dims init w.2) _ refl (semicolon_stands (feed ∷ ms) k))))) h
top_stands (b.function x params body) w ms h =
    line_stands 0 (mark static & gap & key k.Void & gap & word x & parens (params_form params) & gap & braces 0 (stmts_form 1 body)) ms (λ k. (refl, (tt, ((tt, refl), (tt, ((w.0, refl), parens_stand false (params_form params) (params_stand params w.1) _ (tt, braces_stand 0 (stmts_form 1 body) (feed ∷ ms) (stmts_stand 1 body w.2) k))))))) h
top_stands (b.main body) w ms h =
    line_stands 0 (key k.Int & gap & key k.Main & parens (key k.Void) & gap & braces 0 (stmts_form 1 body & return_line)) ms
    (λ k. (
      (tt, refl),
      (
        tt,
        (
          (tt, refl),
          (
            refl,
            (
              (tt, refl),
              (
                refl,
                (
                  tt,
                  braces_stand 0 (stmts_form 1 body & return_line) (feed ∷ ms)
                      (λ ns g. stmts_stand 1 body w _ (line_stands 1 returning ns (λ j. ((tt, refl), (tt, ((zero_is_held, refl), semicolon_stands (feed ∷ ns) j)))) g)) k,
                ),
              ),
            ),
          ),
        ),
      ),
    )) h

pub program_stands : (p : b.Program) → WellFormedTops p → (ms : List Mark) → Stand fresh ms → Stand fresh (marks (program_form p) ms)
program_stands [] w ms h = h
program_stands (t ∷ p) w ms h = top_stands t w.0 _ (program_stands p w.1 ms h)
