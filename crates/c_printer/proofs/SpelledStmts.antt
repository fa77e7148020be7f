-- The symbols of printed statements spell them.
use Rattle.std.proofs.Common.{◌≡◌, ℕ, zero, suc, ◌+◌, ◌≤◌, Bool, true, false, cond, List, [], ◌∷◌, Option, Some, None, refl, sym, ap, ◌∙◌, subst, arith}
use Rattle.std.specs.Option.{option_map}
use Rattle.std.specs.Prelude.{codes}
use Rattle.c_tree.specs.Bare as b
use Rattle.c_tree.specs.Placed as p
use Rattle.c_tree.specs.Forget.{forget_expr, forget_exprs, forget_target, forget_directive, forget_stmt, forget_stmts, forget_maybe, forget_head}
use Rattle.c_tree.specs.WellFormed.{WellFormedExpr, WellFormedExprs, WellFormedOption, WellFormedTarget, WellFormedDirective, WellFormedStmt, WellFormedStmts, WellFormedPart, WellFormedHead, MayBegin, MayEnd}
use Rattle.c_tree.specs.declared.tree.Span.{Span}
use Rattle.c_tree.specs.declared.tree.Ty.{Ty}
use Rattle.c_tree.specs.declared.tree.Ty.TheVariants as ty
use Rattle.c_tree.specs.declared.tree.SetOp.{SetOp}
use Rattle.c_tree.specs.declared.tree.SetOp.TheVariants as op
use Rattle.c_lexer.specs.declared.token.Punct.TheVariants.{RoundOpen, RoundClose, CurlyOpen, CurlyClose, Semicolon, Assign}
use Rattle.c_lexer.specs.declared.words.Keyword.TheVariants as k
use Rattle.pragma_grammar.specs.Symbols as g
use Rattle.pragma_grammar.specs.Symbols.{Symbol, spanning, place, start_of}
use Rattle.pragma_grammar.specs.Expressions.{Phrase, Subscripts, TypeName}
use Rattle.c_grammar.specs.Statements.{assigns, steps, TargetPhrase, targets, Simple, assignment, step_after, Declarator, unset, valued, Declarators, last_declarator, Init, no_init, declares, begins, Test, no_test, tests, Next, no_next, goes_on, HeadPhrase, three_parts, NoElse, Plain, nothing as empties, simply, reads, prints, calls, calls_with, decides, chooses, repeats, does, loops, breaks, continues, transforms, Body, braced, lone, Units, over, next, inner, declared}
use Rattle.c_printer.specs.Layout.{Mark, name, keyword, punct, hash, line_end, space, feed, Layout, type_name, parens, indent, line, braces, mark, ◌&◌, word, key, gap, semicolon}
use Rattle.c_printer.specs.Expressions.{expr_form, subscripts, listed}
use Rattle.c_printer.specs.Directives.{directive_form}
use Rattle.c_printer.specs.Statements.{set_sign, step_sign, target_form, initial, simple, first_part, test_part, last_part, head_form, pragma, is_loop, is_one_loop, carried, stmt_form, stmts_form}
use Rattle.c_printer.proofs.Marks.{marks}
use Rattle.c_printer.proofs.Symbols.{span_of, empty_span, symbols_at}
use Rattle.c_printer.proofs.SpelledExprs.{Spelled, SpelledAt, SpelledExpr, type_spelled, expr_spelled, subscripts_spelled, list_spelled, directive_spelled}

assigns_known : (o : SetOp) (s : Span) → assigns (g.punct (set_sign o) s) ≡ Some o
assigns_known op.Plain s = refl
assigns_known op.Add s = refl
assigns_known op.Sub s = refl
assigns_known op.Mul s = refl
assigns_known op.Div s = refl
assigns_known op.Rem s = refl

steps_known : (up : Bool) (s : Span) → steps (g.punct (step_sign up) s) ≡ Some up
steps_known true s = refl
steps_known false s = refl

-- what begins with a semicolon or `)` and the like isn't `else`
no_else_type : (total : ℕ) (t : Ty) (ms : List Mark) → NoElse (symbols_at total (marks (type_name t) ms))
no_else_type total ty.Int ms = tt
no_else_type total ty.Long ms = tt

-- a statement that ends in `;` by itself, or holds others, but for a declaration and a block
abbrev pub IsPlain : b.Stmt → Type 0
IsPlain (b.decl t x init) = ⊥
IsPlain (b.block ss) = ⊥
IsPlain _ = Unit {0}

loop_is_plain : (a : b.Stmt) → is_loop a ≡ true → IsPlain a
loop_is_plain (b.decl t x init) e = cc
loop_is_plain (b.block ss) e = cc
loop_is_plain (b.set to o e') e = tt
loop_is_plain (b.step to up) e = tt
loop_is_plain (b.print e') e = tt
loop_is_plain (b.input to) e = tt
loop_is_plain (b.if_ e' ss) e = tt
loop_is_plain (b.if_else e' ss ts) e = tt
loop_is_plain (b.while_ e' ss) e = tt
loop_is_plain (b.do_ ss e') e = tt
loop_is_plain (b.for_ h ss) e = tt
loop_is_plain b.break_ e = tt
loop_is_plain b.continue_ e = tt
loop_is_plain b.empty e = tt
loop_is_plain (b.omp d ss) e = tt
loop_is_plain (b.call x es) e = tt

module _ (total : ℕ) where
  abbrev S : List Mark → List Symbol
  S ms = symbols_at total ms

  pub indent_none : (level : ℕ) (ms : List Mark) → S (marks (indent level) ms) ≡ S ms
  indent_none zero ms = refl
  indent_none (suc level) ms = indent_none level ms

  -- what the symbols of a line spell
  pub on_line : (P : List Symbol → Type 0) (level : ℕ) (a : Layout) (ms : List Mark) → P (S (marks a (feed ∷ ms))) → P (S (marks (line level a) ms))
  on_line P level a ms h = subst P (sym (indent_none level (marks a (feed ∷ ms)))) h

  abbrev pub SpelledUnits : b.Stmts → List Symbol → List Symbol → Type 0
  SpelledUnits = Spelled p.Stmts b.Stmts forget_stmts Units

  abbrev pub SpelledBody : b.Stmts → List Symbol → List Symbol → Type 0
  SpelledBody = SpelledAt p.Stmts b.Stmts forget_stmts Body

  abbrev pub SpelledPlain : b.Stmt → List Symbol → List Symbol → Type 0
  SpelledPlain = SpelledAt p.Stmt b.Stmt forget_stmt Plain

  target_spelled : (x : b.Name) (es : b.Exprs) → WellFormedExprs es → (ms : List Mark) → SpelledAt p.Target b.Target forget_target TargetPhrase (b.target x es) (S (marks (target_form (b.target x es)) ms)) (S ms)
  target_spelled x es w ms =
      let a : Span = span_of total (name x) (marks (subscripts es) ms) in
      let y = subscripts_spelled total es w a ms in
      record { tree = p.target x y.tree (spanning a y.span); span = _; bare = ap (b.target x) y.bare; phrase = targets y.phrase }

  -- an assignment or a step that ends where it is asked to
  abbrev IsSimple : b.Stmt → Type 0
  IsSimple (b.set to o e) = Unit {0}
  IsSimple (b.step to up) = Unit {0}
  IsSimple _ = ⊥

  -- where it stands, with its node for each end
  record SpelledSimple (a : b.Stmt) (ts us : List Symbol) : Type 0 where
    tree : ℕ → p.Stmt
    span : Span
    bare : (to : ℕ) → forget_stmt (tree to) ≡ a
    phrase : Simple tree span ts us

  simple_spelled : (a : b.Stmt) → WellFormedStmt a → IsSimple a → (ms : List Mark) → SpelledSimple a (S (marks (simple a) ms)) (S ms)
  simple_spelled (b.set (b.target x es) o e) w i ms =
      let y = expr_spelled total e w.1 0 (omega arith) ms in
      let v = target_spelled x es w.0.1 (space ∷ punct (set_sign o) ∷ space ∷ marks (expr_form e) ms) in
      record {
        tree = λ to. p.set v.tree o y.tree (record { start = v.span.start; end = to });
        span = y.span;
        bare = λ to. ap (λ z. b.set z o (forget_expr y.tree)) v.bare ∙ ap (b.set (b.target x es) o) y.bare;
        phrase = assignment v.phrase (assigns_known o _) y.phrase;
      }
  simple_spelled (b.step (b.target x es) up) w i ms =
      let v = target_spelled x es w.1 (punct (step_sign up) ∷ ms) in
      record {
        tree = λ to. p.step v.tree up (record { start = v.span.start; end = to });
        span = span_of total (punct (step_sign up)) ms;
        bare = λ to. ap (λ z. b.step z up) v.bare;
        phrase = step_after v.phrase (steps_known up _);
      }
  simple_spelled _ w i ms = absurd i

  -- ---- heads

  init_spelled : (m : b.MaybeStmt) → MayBegin m → WellFormedPart m → (ms : List Mark) → Spelled p.MaybeStmt b.MaybeStmt forget_maybe Init m (S (marks (first_part m) ms)) (S ms)
  init_spelled b.no_stmt i w ms = record { tree = p.no_stmt; bare = refl; phrase = no_init }
  init_spelled (b.a_stmt (b.decl t x (Some e))) i w ms =
      let y = expr_spelled total e w.1 0 (omega arith) ms in
      let rest : List Mark = space ∷ name x ∷ space ∷ punct Assign ∷ space ∷ marks (expr_form e) ms in
      record {
        tree = p.a_stmt (p.decl t x (span_of total (name x) (space ∷ punct Assign ∷ space ∷ marks (expr_form e) ms)) (Some y.tree) (record { start = start_of (S (marks (type_name t) rest)); end = y.span.end }));
        bare = ap (λ z. b.a_stmt (b.decl t x (Some z))) y.bare;
        phrase = declares (type_spelled total t rest) y.phrase;
      }
  init_spelled (b.a_stmt (b.set to o e)) i w ms =
      let y = simple_spelled (b.set to o e) w tt ms in
      record { tree = p.a_stmt (y.tree y.span.end); bare = ap b.a_stmt (y.bare y.span.end); phrase = begins {s = y.tree} y.phrase }
  init_spelled (b.a_stmt (b.step to up)) i w ms =
      let y = simple_spelled (b.step to up) w tt ms in
      record { tree = p.a_stmt (y.tree y.span.end); bare = ap b.a_stmt (y.bare y.span.end); phrase = begins {s = y.tree} y.phrase }
  init_spelled (b.a_stmt _) i w ms = absurd i

  test_spelled : (e : Option b.Expr) → WellFormedOption e → (ms : List Mark) → Spelled (Option p.Expr) (Option b.Expr) (option_map forget_expr) Test e (S (marks (test_part e) ms)) (S ms)
  test_spelled None w ms = record { tree = None; bare = refl; phrase = no_test }
  test_spelled (Some e) w ms =
      let x = expr_spelled total e w 0 (omega arith) ms in
      record { tree = Some x.tree; bare = ap Some x.bare; phrase = tests x.phrase }

  next_spelled : (m : b.MaybeStmt) → MayEnd m → WellFormedPart m → (ms : List Mark) → Spelled p.MaybeStmt b.MaybeStmt forget_maybe Next m (S (marks (last_part m) ms)) (S ms)
  next_spelled b.no_stmt i w ms = record { tree = p.no_stmt; bare = refl; phrase = no_next }
  next_spelled (b.a_stmt (b.set to o e)) i w ms =
      let y = simple_spelled (b.set to o e) w tt ms in
      record { tree = p.a_stmt (y.tree y.span.end); bare = ap b.a_stmt (y.bare y.span.end); phrase = goes_on {s = y.tree} y.phrase }
  next_spelled (b.a_stmt (b.step to up)) i w ms =
      let y = simple_spelled (b.step to up) w tt ms in
      record { tree = p.a_stmt (y.tree y.span.end); bare = ap b.a_stmt (y.bare y.span.end); phrase = goes_on {s = y.tree} y.phrase }
  next_spelled (b.a_stmt _) i w ms = absurd i

  head_spelled : (h : b.Head) → WellFormedHead h → (ms : List Mark) → Spelled p.Head b.Head forget_head HeadPhrase h (S (marks (head_form h) ms)) (S ms)
  head_spelled (b.head init test last) w ms =
      let after : List Mark = marks (last_part last) ms in
      let middle : List Mark = marks (test_part test) (punct Semicolon ∷ after) in
      let z = next_spelled last w.3 w.4 ms in
      let y = test_spelled test w.2 (punct Semicolon ∷ after) in
      let x = init_spelled init w.0 w.1 (punct Semicolon ∷ middle) in
      record {
        tree = p.head x.tree _ y.tree _ z.tree _;
        bare = ap (λ v. b.head v (option_map forget_expr y.tree) (forget_maybe z.tree)) x.bare ∙ ap (λ v. b.head init v (forget_maybe z.tree)) y.bare ∙ ap (b.head init test) z.bare;
        phrase = three_parts x.phrase y.phrase z.phrase;
      }

  -- ---- what begins no `else`

  no_else : (level : ℕ) (a : b.Stmt) (ms : List Mark) → NoElse (S (marks (stmt_form level a) ms))
  no_else level (b.decl t x init) ms = on_line NoElse level (simple (b.decl t x init) & semicolon) ms (no_else_type total t _)
  no_else level (b.set (b.target x es) o e) ms = on_line NoElse level (simple (b.set (b.target x es) o e) & semicolon) ms tt
  no_else level (b.step (b.target x es) up) ms = on_line NoElse level (simple (b.step (b.target x es) up) & semicolon) ms tt
  no_else level (b.print e) ms = on_line NoElse level (simple (b.print e) & semicolon) ms tt
  no_else level (b.input (b.target x es)) ms = on_line NoElse level (simple (b.input (b.target x es)) & semicolon) ms tt
  no_else level (b.if_ e ss) ms = on_line NoElse level (key k.If & gap & parens (expr_form e) & gap & braces level (stmts_form (level + 1) ss)) ms tt
  no_else level (b.if_else e ss ts) ms = on_line NoElse level (key k.If & gap & parens (expr_form e) & gap & braces level (stmts_form (level + 1) ss) & gap & key k.Else & gap & braces level (stmts_form (level + 1) ts)) ms tt
  no_else level (b.while_ e ss) ms = on_line NoElse level (key k.While & gap & parens (expr_form e) & gap & braces level (stmts_form (level + 1) ss)) ms tt
  no_else level (b.do_ ss e) ms = on_line NoElse level (key k.Do & gap & braces level (stmts_form (level + 1) ss) & gap & key k.While & gap & parens (expr_form e) & semicolon) ms tt
  no_else level (b.for_ h ss) ms = on_line NoElse level (key k.For & gap & parens (head_form h) & gap & braces level (stmts_form (level + 1) ss)) ms tt
  no_else level (b.block ss) ms = on_line NoElse level (braces level (stmts_form (level + 1) ss)) ms tt
  no_else level b.break_ ms = on_line NoElse level (simple b.break_ & semicolon) ms tt
  no_else level b.continue_ ms = on_line NoElse level (simple b.continue_ & semicolon) ms tt
  no_else level b.empty ms = on_line NoElse level (simple b.empty & semicolon) ms tt
  no_else level (b.omp d ss) ms = subst NoElse (sym (indent_none level (marks (mark hash & word (codes "pragma") & gap & word (codes "omp") & gap & directive_form d & mark line_end & carried level ss (stmts_form level ss) (stmts_form (level + 1) ss)) ms))) tt
  no_else level (b.call x es) ms = on_line NoElse level (simple (b.call x es) & semicolon) ms tt

  no_else_after : (level : ℕ) (ss : b.Stmts) (ms : List Mark) → NoElse (S ms) → NoElse (S (marks (stmts_form level ss) ms))
  no_else_after level b.no_stmts ms n = n
  no_else_after level (b.more_stmts a ss) ms n = no_else level a _

  -- ---- statements

  -- a body in braces, of which the statements are spelled before its closing one
  in_braces : (level : ℕ) (ss : b.Stmts) (ms : List Mark)
      → SpelledUnits ss (S (marks (stmts_form (level + 1) ss) (marks (indent level) (punct CurlyClose ∷ ms)))) (S (marks (indent level) (punct CurlyClose ∷ ms)))
      → SpelledBody ss (S (marks (braces level (stmts_form (level + 1) ss)) ms)) (S ms)
  in_braces level ss ms x =
      let P : List Symbol → Type 0 = λ z. Units x.tree (S (marks (stmts_form (level + 1) ss) (marks (indent level) (punct CurlyClose ∷ ms)))) z in
      record { tree = x.tree; span = span_of total (punct CurlyClose) ms; bare = x.bare; phrase = braced (subst P (indent_none level (punct CurlyClose ∷ ms)) x.phrase) }

  -- what a directive is applied to
  carried_spelled : (level : ℕ) (c : Bool) (a : b.Stmt) (ss : b.Stmts) (ms : List Mark)
      → (c ≡ true → SpelledPlain a (S (marks (stmts_form level ss) ms)) (S ms)) → (c ≡ true → ss ≡ b.more_stmts a b.no_stmts)
      → SpelledBody ss (S (marks (line level (braces level (stmts_form (level + 1) ss))) ms)) (S ms)
      → SpelledBody ss (S (marks (cond c (stmts_form level ss) (line level (braces level (stmts_form (level + 1) ss)))) ms)) (S ms)
  carried_spelled level true a ss ms alone is block =
      let x = alone refl in
      record { tree = p.more_stmts x.tree p.no_stmts; span = x.span; bare = ap (λ z. b.more_stmts z b.no_stmts) x.bare ∙ sym (is refl); phrase = lone x.phrase }
  carried_spelled level false a ss ms alone is block = block

  indent_else : (level : ℕ) (ms : List Mark) → NoElse (S (marks (indent level) (punct CurlyClose ∷ ms)))
  indent_else level ms = subst NoElse (sym (indent_none level (punct CurlyClose ∷ ms))) tt

  -- one statement before others
  simple_plain : (level : ℕ) (a : b.Stmt) → WellFormedStmt a → IsSimple a → (ms : List Mark) → SpelledPlain a (S (marks (line level (simple a & semicolon)) ms)) (S ms)
  simple_plain level a w i ms =
      let x = simple_spelled a w i (punct Semicolon ∷ feed ∷ ms) in
      let z : Span = span_of total (punct Semicolon) (feed ∷ ms) in
      on_line (λ ts. SpelledPlain a ts (S ms)) level (simple a & semicolon) ms (record { tree = x.tree z.end; span = z; bare = x.bare z.end; phrase = simply {s = x.tree} x.phrase })

  declared_spelled : (level : ℕ) (t : Ty) (x : b.Name) (init : Option b.Expr) (ss : b.Stmts) → WellFormedOption init → (ms : List Mark) (us : List Symbol)
      → SpelledUnits ss (S ms) us → SpelledUnits (b.more_stmts (b.decl t x init) ss) (S (marks (line level (simple (b.decl t x init) & semicolon)) ms)) us
  declared_spelled level t x None ss w ms us rest =
      let after : List Mark = name x ∷ punct Semicolon ∷ feed ∷ ms in
      let z : Span = span_of total (punct Semicolon) (feed ∷ ms) in
      on_line (λ ts. SpelledUnits (b.more_stmts (b.decl t x None) ss) ts us) level (simple (b.decl t x None) & semicolon) ms (record {
        tree = p.more_stmts (p.decl t x (span_of total (name x) (punct Semicolon ∷ feed ∷ ms)) None (record { start = start_of (S (marks (type_name t) (space ∷ after))); end = z.end })) rest.tree;
        bare = ap (b.more_stmts (b.decl t x None)) rest.bare;
        phrase = declared (type_spelled total t (space ∷ after)) (last_declarator {ss = λ to after'. p.more_stmts (p.decl t x (span_of total (name x) (punct Semicolon ∷ feed ∷ ms)) None (record { start = start_of (S (marks (type_name t) (space ∷ after))); end = to })) after'} unset) rest.phrase;
      })
  declared_spelled level t x (Some e) ss w ms us rest =
      let y = expr_spelled total e w 0 (omega arith) (punct Semicolon ∷ feed ∷ ms) in
      let value : List Mark = space ∷ punct Assign ∷ space ∷ marks (expr_form e) (punct Semicolon ∷ feed ∷ ms) in
      let z : Span = span_of total (punct Semicolon) (feed ∷ ms) in
      on_line (λ ts. SpelledUnits (b.more_stmts (b.decl t x (Some e)) ss) ts us) level (simple (b.decl t x (Some e)) & semicolon) ms (record {
        tree = p.more_stmts (p.decl t x (span_of total (name x) value) (Some y.tree) (record { start = start_of (S (marks (type_name t) (space ∷ name x ∷ value))); end = z.end })) rest.tree;
        bare = ap (λ v. b.more_stmts (b.decl t x (Some v)) (forget_stmts rest.tree)) y.bare ∙ ap (b.more_stmts (b.decl t x (Some e))) rest.bare;
        phrase = declared (type_spelled total t (space ∷ name x ∷ value)) (last_declarator {ss = λ to after'. p.more_stmts (p.decl t x (span_of total (name x) value) (Some y.tree) (record { start = start_of (S (marks (type_name t) (space ∷ name x ∷ value))); end = to })) after'} (valued y.phrase)) rest.phrase;
      })

  after_plain : (a : b.Stmt) (ss : b.Stmts) {ts us vs : List Symbol} → SpelledPlain a ts us → SpelledUnits ss us vs → SpelledUnits (b.more_stmts a ss) ts vs
  after_plain a ss x rest = record {
    tree = p.more_stmts x.tree rest.tree;
    bare = ap (λ z. b.more_stmts z (forget_stmts rest.tree)) x.bare ∙ ap (b.more_stmts a) rest.bare;
    phrase = next x.phrase rest.phrase;
  }

  -- a statement before others: one of its own, or any
  record SpelledStmt (level : ℕ) (a : b.Stmt) (ms : List Mark) : Type 0 where
    plain : IsPlain a → SpelledPlain a (S (marks (stmt_form level a) ms)) (S ms)
    unit : (ss : b.Stmts) (us : List Symbol) → SpelledUnits ss (S ms) us → SpelledUnits (b.more_stmts a ss) (S (marks (stmt_form level a) ms)) us

  plainly : (level : ℕ) (a : b.Stmt) (ms : List Mark) → SpelledPlain a (S (marks (stmt_form level a) ms)) (S ms) → SpelledStmt level a ms
  plainly level a ms x = record { plain = λ i. x; unit = λ ss us rest. after_plain a ss x rest }

  block_spelled : (level : ℕ) (ts : b.Stmts) (ms : List Mark)
      → SpelledUnits ts (S (marks (stmts_form (level + 1) ts) (marks (indent level) (punct CurlyClose ∷ feed ∷ ms)))) (S (marks (indent level) (punct CurlyClose ∷ feed ∷ ms)))
      → SpelledStmt level (b.block ts) ms
  block_spelled level ts ms x =
      let P : List Symbol → Type 0 = λ z. Units x.tree (S (marks (stmts_form (level + 1) ts) (marks (indent level) (punct CurlyClose ∷ feed ∷ ms)))) z in
      record {
        plain = λ i. absurd i;
        unit = λ ss us rest. on_line (λ vs. SpelledUnits (b.more_stmts (b.block ts) ss) vs us) level (braces level (stmts_form (level + 1) ts)) ms (record {
          tree = p.more_stmts (p.block x.tree (spanning (span_of total (punct CurlyOpen) (feed ∷ marks (stmts_form (level + 1) ts) (marks (indent level) (punct CurlyClose ∷ feed ∷ ms)))) (span_of total (punct CurlyClose) (feed ∷ ms)))) rest.tree;
          bare = ap (λ z. b.more_stmts (b.block z) (forget_stmts rest.tree)) x.bare ∙ ap (b.more_stmts (b.block ts)) rest.bare;
          phrase = inner (subst P (indent_none level (punct CurlyClose ∷ feed ∷ ms)) x.phrase) rest.phrase;
        });
      }

  omp_spelled : (level : ℕ) (d : b.Directive) (ss : b.Stmts) → WellFormedDirective d → (ms : List Mark)
      → SpelledBody ss (S (marks (carried level ss (stmts_form level ss) (stmts_form (level + 1) ss)) ms)) (S ms) → SpelledStmt level (b.omp d ss) ms
  omp_spelled level d ss w ms y =
      let rest : List Mark = marks (carried level ss (stmts_form level ss) (stmts_form (level + 1) ss)) ms in
      let x = directive_spelled total true d w (line_end ∷ rest) in
      let P : List Symbol → Type 0 = λ ts. SpelledPlain (b.omp d ss) ts (S ms) in
      plainly level (b.omp d ss) ms (subst P (sym (indent_none level (hash ∷ name (codes "pragma") ∷ space ∷ name (codes "omp") ∷ space ∷ marks (directive_form d) (line_end ∷ rest)))) (record {
        tree = p.omp x.tree y.tree _;
        span = y.span;
        bare = ap (λ z. b.omp z (forget_stmts y.tree)) x.bare ∙ ap (b.omp d) y.bare;
        phrase = transforms refl refl x.phrase y.phrase;
      }))

  block_carried : (level : ℕ) (ss : b.Stmts) (ms : List Mark)
      → SpelledUnits ss (S (marks (stmts_form (level + 1) ss) (marks (indent level) (punct CurlyClose ∷ feed ∷ ms)))) (S (marks (indent level) (punct CurlyClose ∷ feed ∷ ms)))
      → SpelledBody ss (S (marks (line level (braces level (stmts_form (level + 1) ss))) ms)) (S ms)
  block_carried level ss ms x = on_line (λ ts. SpelledBody ss ts (S ms)) level (braces level (stmts_form (level + 1) ss)) ms (in_braces level ss (feed ∷ ms) x)

  -- the first statement of a list, before these marks
  abbrev FirstPlain : ℕ → b.Stmts → List Mark → Type 0
  FirstPlain level b.no_stmts ms = Unit {0}
  FirstPlain level (b.more_stmts a ss) ms = IsPlain a → SpelledPlain a (S (marks (stmt_form level a) ms)) (S ms)

  under_directive : (level : ℕ) (ss : b.Stmts) (ms : List Mark) → FirstPlain level ss ms
      → SpelledBody ss (S (marks (line level (braces level (stmts_form (level + 1) ss))) ms)) (S ms)
      → SpelledBody ss (S (marks (carried level ss (stmts_form level ss) (stmts_form (level + 1) ss)) ms)) (S ms)
  under_directive level b.no_stmts ms alone block = block
  under_directive level (b.more_stmts a b.no_stmts) ms alone block = carried_spelled level (is_loop a) a (b.more_stmts a b.no_stmts) ms (λ e. alone (loop_is_plain a e)) (λ e. refl) block
  under_directive level (b.more_stmts a (b.more_stmts c ss)) ms alone block = block

  mutual
    stmt_spelled : (level : ℕ) (a : b.Stmt) → WellFormedStmt a → (ms : List Mark) → NoElse (S ms) → SpelledStmt level a ms
    stmt_spelled level (b.decl t x init) w ms n = record { plain = λ i. absurd i; unit = λ ss us rest. declared_spelled level t x init ss w.1 ms us rest }
    stmt_spelled level (b.block ts) w ms n = block_spelled level ts ms (units_spelled (level + 1) ts w (marks (indent level) (punct CurlyClose ∷ feed ∷ ms)) (indent_else level (feed ∷ ms)))
    stmt_spelled level (b.omp d ss) w ms n =
        omp_spelled level d ss w.0 ms (under_directive level ss ms (first_spelled level ss w.1 ms n)
        (block_carried level ss ms (units_spelled (level + 1) ss w.1 (marks (indent level) (punct CurlyClose ∷ feed ∷ ms)) (indent_else level (feed ∷ ms)))))
    stmt_spelled level (b.set to o e) w ms n =
        plainly level (b.set to o e) ms (simple_plain level (b.set to o e) w tt ms)
    stmt_spelled level (b.step to up) w ms n =
        plainly level (b.step to up) ms (simple_plain level (b.step to up) w tt ms)
    stmt_spelled level (b.print e) w ms n =
        let x = expr_spelled total e w 0 (omega arith) (punct RoundClose ∷ punct Semicolon ∷ feed ∷ ms) in
        plainly level (b.print e) ms (on_line (λ ts. SpelledPlain (b.print e) ts (S ms)) level (simple (b.print e) & semicolon) ms (record { tree = p.print x.tree _; span = _; bare = ap b.print x.bare; phrase = prints x.phrase }))
    stmt_spelled level (b.input (b.target x es)) w ms n =
        let v = target_spelled x es w.1 (space ∷ punct Assign ∷ space ∷ keyword k.Input ∷ punct RoundOpen ∷ punct RoundClose ∷ punct Semicolon ∷ feed ∷ ms) in
        plainly level (b.input (b.target x es)) ms (on_line (λ ts. SpelledPlain (b.input (b.target x es)) ts (S ms)) level (simple (b.input (b.target x es)) & semicolon) ms (record { tree = p.input v.tree _ _; span = _; bare = ap b.input v.bare; phrase = reads refl v.phrase }))
    stmt_spelled level (b.if_ e ss) w ms n =
        let y = in_braces level ss (feed ∷ ms) (units_spelled (level + 1) ss w.1 (marks (indent level) (punct CurlyClose ∷ feed ∷ ms)) (indent_else level (feed ∷ ms))) in
        let x = expr_spelled total e w.0 0 (omega arith) (punct RoundClose ∷ space ∷ marks (braces level (stmts_form (level + 1) ss)) (feed ∷ ms)) in
        plainly level (b.if_ e ss) ms (on_line (λ ts. SpelledPlain (b.if_ e ss) ts (S ms)) level (key k.If & gap & parens (expr_form e) & gap & braces level (stmts_form (level + 1) ss)) ms (record { tree = p.if_ x.tree y.tree _; span = _; bare = ap (λ z. b.if_ z (forget_stmts y.tree)) x.bare ∙ ap (b.if_ e) y.bare; phrase = decides x.phrase y.phrase n }))
    stmt_spelled level (b.if_else e ss ts) w ms n =
        let z = in_braces level ts (feed ∷ ms) (units_spelled (level + 1) ts w.2 (marks (indent level) (punct CurlyClose ∷ feed ∷ ms)) (indent_else level (feed ∷ ms))) in
        let after : List Mark = space ∷ keyword k.Else ∷ space ∷ marks (braces level (stmts_form (level + 1) ts)) (feed ∷ ms) in
        let y = in_braces level ss after (units_spelled (level + 1) ss w.1 (marks (indent level) (punct CurlyClose ∷ after)) (indent_else level after)) in
        let x = expr_spelled total e w.0 0 (omega arith) (punct RoundClose ∷ space ∷ marks (braces level (stmts_form (level + 1) ss)) after) in
        plainly level (b.if_else e ss ts) ms (on_line (λ us. SpelledPlain (b.if_else e ss ts) us (S ms)) level (key k.If & gap & parens (expr_form e) & gap & braces level (stmts_form (level + 1) ss) & gap & key k.Else & gap & braces level (stmts_form (level + 1) ts)) ms (record {
          tree = p.if_else x.tree y.tree z.tree _;
          span = _;
          bare = ap (λ v. b.if_else v (forget_stmts y.tree) (forget_stmts z.tree)) x.bare ∙ ap (λ v. b.if_else e v (forget_stmts z.tree)) y.bare ∙ ap (b.if_else e ss) z.bare;
          phrase = chooses x.phrase y.phrase z.phrase;
        }))
    stmt_spelled level (b.while_ e ss) w ms n =
        let y = in_braces level ss (feed ∷ ms) (units_spelled (level + 1) ss w.1 (marks (indent level) (punct CurlyClose ∷ feed ∷ ms)) (indent_else level (feed ∷ ms))) in
        let x = expr_spelled total e w.0 0 (omega arith) (punct RoundClose ∷ space ∷ marks (braces level (stmts_form (level + 1) ss)) (feed ∷ ms)) in
        plainly level (b.while_ e ss) ms (on_line (λ ts. SpelledPlain (b.while_ e ss) ts (S ms)) level (key k.While & gap & parens (expr_form e) & gap & braces level (stmts_form (level + 1) ss)) ms (record { tree = p.while_ x.tree y.tree _; span = _; bare = ap (λ z. b.while_ z (forget_stmts y.tree)) x.bare ∙ ap (b.while_ e) y.bare; phrase = repeats x.phrase y.phrase }))
    stmt_spelled level (b.do_ ss e) w ms n =
        let x = expr_spelled total e w.1 0 (omega arith) (punct RoundClose ∷ punct Semicolon ∷ feed ∷ ms) in
        let y = in_braces level ss (space ∷ keyword k.While ∷ space ∷ punct RoundOpen ∷ marks (expr_form e) (punct RoundClose ∷ punct Semicolon ∷ feed ∷ ms)) (units_spelled (level + 1) ss w.0 (marks (indent level) (punct CurlyClose ∷ space ∷ keyword k.While ∷ space ∷ punct RoundOpen ∷ marks (expr_form e) (punct RoundClose ∷ punct Semicolon ∷ feed ∷ ms))) (indent_else level _)) in
        plainly level (b.do_ ss e) ms (on_line (λ ts. SpelledPlain (b.do_ ss e) ts (S ms)) level (key k.Do & gap & braces level (stmts_form (level + 1) ss) & gap & key k.While & gap & parens (expr_form e) & semicolon) ms (record { tree = p.do_ y.tree x.tree _; span = _; bare = ap (λ z. b.do_ z (forget_expr x.tree)) y.bare ∙ ap (b.do_ ss) x.bare; phrase = does y.phrase x.phrase }))
    stmt_spelled level (b.for_ h ss) w ms n =
        let y = in_braces level ss (feed ∷ ms) (units_spelled (level + 1) ss w.1 (marks (indent level) (punct CurlyClose ∷ feed ∷ ms)) (indent_else level (feed ∷ ms))) in
        let x = head_spelled h w.0 (punct RoundClose ∷ space ∷ marks (braces level (stmts_form (level + 1) ss)) (feed ∷ ms)) in
        plainly level (b.for_ h ss) ms (on_line (λ ts. SpelledPlain (b.for_ h ss) ts (S ms)) level (key k.For & gap & parens (head_form h) & gap & braces level (stmts_form (level + 1) ss)) ms (record { tree = p.for_ x.tree y.tree _; span = _; bare = ap (λ z. b.for_ z (forget_stmts y.tree)) x.bare ∙ ap (b.for_ h) y.bare; phrase = loops x.phrase y.phrase }))
    stmt_spelled level b.break_ w ms n =
        plainly level b.break_ ms (on_line (λ ts. SpelledPlain b.break_ ts (S ms)) level (simple b.break_ & semicolon) ms (record { tree = p.break_ _; span = _; bare = refl; phrase = breaks }))
    stmt_spelled level b.continue_ w ms n =
        plainly level b.continue_ ms (on_line (λ ts. SpelledPlain b.continue_ ts (S ms)) level (simple b.continue_ & semicolon) ms (record { tree = p.continue_ _; span = _; bare = refl; phrase = continues }))
    stmt_spelled level b.empty w ms n =
        plainly level b.empty ms (on_line (λ ts. SpelledPlain b.empty ts (S ms)) level (simple b.empty & semicolon) ms (record { tree = p.empty _; span = _; bare = refl; phrase = empties }))
    stmt_spelled level (b.call x b.no_exprs) w ms n =
        plainly level (b.call x b.no_exprs) ms (on_line (λ ts. SpelledPlain (b.call x b.no_exprs) ts (S ms)) level (simple (b.call x b.no_exprs) & semicolon) ms (record { tree = p.call x _ p.no_exprs _; span = _; bare = refl; phrase = calls }))
    stmt_spelled level (b.call x (b.more_exprs e es)) w ms n =
        let y = list_spelled total e es w.1.0 w.1.1 (punct RoundClose ∷ punct Semicolon ∷ feed ∷ ms) in
        plainly level (b.call x (b.more_exprs e es)) ms (on_line (λ ts. SpelledPlain (b.call x (b.more_exprs e es)) ts (S ms)) level (simple (b.call x (b.more_exprs e es)) & semicolon) ms (record { tree = p.call x _ y.tree _; span = _; bare = ap (b.call x) y.bare; phrase = calls_with y.phrase }))

    first_spelled : (level : ℕ) (ss : b.Stmts) → WellFormedStmts ss → (ms : List Mark) → NoElse (S ms) → FirstPlain level ss ms
    first_spelled level b.no_stmts w ms n = tt
    first_spelled level (b.more_stmts a ss) w ms n = (stmt_spelled level a w.0 ms n).plain

    pub units_spelled : (level : ℕ) (ss : b.Stmts) → WellFormedStmts ss → (ms : List Mark) → NoElse (S ms) → SpelledUnits ss (S (marks (stmts_form level ss) ms)) (S ms)
    units_spelled level b.no_stmts w ms n = record { tree = p.no_stmts; bare = refl; phrase = over }
    units_spelled level (b.more_stmts a ss) w ms n =
        (stmt_spelled level a w.0 (marks (stmts_form level ss) ms) (no_else_after level ss ms n)).unit ss (S ms) (units_spelled level ss w.1 ms n)
