-- The symbols of printed items and programs spell them.
use Rattle.std.proofs.Common.{◌≡◌, ℕ, ◌+◌, ◌≤◌, Bool, true, false, List, [], ◌∷◌, ◌++◌, Option, Some, None, refl, sym, ap, ◌∙◌, subst, arith, map}
use Rattle.std.proofs.lemmas.Bool.{and_parts, both_ways, not-true}
use Rattle.std.specs.Option.{option_map}
use Rattle.std.specs.Prelude.{codes, IsTrue, not, ◌&&◌}
use Rattle.c_tree.specs.Bare as b
use Rattle.c_tree.specs.Placed as p
use Rattle.c_tree.specs.Forget.{forget_expr, forget_exprs, forget_stmts, forget_param, forget_top, forget_program}
use Rattle.c_tree.specs.WellFormed.{WellFormedExpr, WellFormedExprs, WellFormedOption, WellFormedStmts, WellFormedParams, WellFormedInitial, WellFormedTop, WellFormedTops, is_main, ends_in_main}
use Rattle.c_tree.specs.declared.tree.Span.{Span}
use Rattle.c_tree.specs.declared.tree.Ty.{Ty}
use Rattle.c_tree.specs.declared.tree.Ty.TheVariants as ty
use Rattle.c_tree.specs.declared.tree.Port.{Port}
use Rattle.c_tree.specs.declared.tree.Port.TheVariants as port
use Rattle.c_lexer.specs.declared.token.Punct.TheVariants.{RoundOpen, RoundClose, CurlyOpen, CurlyClose, Semicolon, Comma, Assign, Minus}
use Rattle.c_lexer.specs.declared.words.Keyword.TheVariants as k
use Rattle.pragma_grammar.specs.Symbols as g
use Rattle.pragma_grammar.specs.Symbols.{Symbol, spanning, start_of}
use Rattle.pragma_grammar.specs.Expressions.{TypeName, long_long}
use Rattle.c_grammar.specs.Statements.{NoElse, Units}
use Rattle.c_grammar.specs.Programs.{Signed, positive, negative, Value, bare as plain, in_parens, MayStand, absent, present, MayBeNamed, unnamed, Global, plain as unset, valued, Started, started, Globals, last_global, Params, last_param, next_param, Parameters, none, some, MayReturn, returns, Tops, the_main, defines, printer, reader, variables, a_function, tops_of}
use Rattle.c_printer.specs.Layout.{Mark, name, keyword, static, number, punct, hash, line_end, space, feed, Layout, mark, ◌&◌, key, gap, type_name, parens, indent, line, braces, semicolon}
use Rattle.c_printer.specs.Expressions.{expr_form, subscripts}
use Rattle.c_printer.specs.Statements.{initial, stmts_form}
use Rattle.c_printer.specs.Programs.{define_value, extern_form, param_form, further_params, params_form, return_line, top_form, program_form}
use Rattle.c_printer.proofs.Marks.{marks}
use Rattle.c_printer.proofs.Symbols.{span_of, empty_span, symbols_at}
use Rattle.c_printer.proofs.SpelledExprs.{Spelled, SpelledAt, type_spelled, expr_spelled, subscripts_spelled}
use Rattle.c_printer.proofs.SpelledStmts.{on_line, indent_none, units_spelled}

module _ (total : ℕ) where
  abbrev S : List Mark → List Symbol
  S ms = symbols_at total ms

  value_spelled : (negative' : Bool) (v : ℕ) (t : Ty) (ms : List Mark) → Value negative' v t (S (marks (define_value negative' v t) ms)) (S ms)
  value_spelled false v t ms = plain positive
  value_spelled true v t ms = in_parens negative

  params_spelled : (q : b.Param) (ps : List b.Param) (ms : List Mark) → Spelled (List p.Param) (List b.Param) (map forget_param) Params (q ∷ ps) (S (marks (param_form q & further_params ps) ms)) (S ms)
  params_spelled q [] ms = record {
    tree = record { ty = q.ty; name = q.name; name_span = span_of total (name q.name) ms } ∷ [];
    bare = refl;
    phrase = last_param (type_spelled total q.ty (space ∷ name q.name ∷ ms));
  }
  params_spelled q (r ∷ ps) ms =
      let y = params_spelled r ps ms in
      let rest : List Mark = punct Comma ∷ space ∷ marks (param_form r & further_params ps) ms in
      record {
        tree = record { ty = q.ty; name = q.name; name_span = span_of total (name q.name) rest } ∷ y.tree;
        bare = ap (λ z. q ∷ z) y.bare;
        phrase = next_param (type_spelled total q.ty (space ∷ name q.name ∷ rest)) y.phrase;
      }

  parameters_spelled : (ps : List b.Param) (ms : List Mark) → Spelled (List p.Param) (List b.Param) (map forget_param) Parameters ps (S (marks (params_form ps) ms)) (S ms)
  parameters_spelled [] ms = record { tree = []; bare = refl; phrase = none present }
  parameters_spelled (q ∷ ps) ms =
      let x = params_spelled q ps ms in
      record { tree = x.tree; bare = x.bare; phrase = some x.phrase }

  -- items before others
  pub record SpelledTops (tops : List b.Top) (ts us : List Symbol) : Type 0 where
    pub tree : List Started
    pub bare : forget_program (tops_of tree) ≡ tops
    pub phrase : Tops tree ts us

  -- an item that isn't `main`, before others
  top_spelled : (t : b.Top) (tops : List b.Top) → WellFormedTop t → is_main t ≡ false → (ms : List Mark) (us : List Symbol) → SpelledTops tops (S ms) us → SpelledTops (t ∷ tops) (S (marks (top_form t) ms)) us
  top_spelled (b.define x minus v t) tops w m ms us rest = record {
    tree = started (span_of total hash (name (codes "define") ∷ space ∷ name x ∷ space ∷ marks (define_value minus v t) (line_end ∷ ms))).start (p.define x minus v t (span_of total (name x) (space ∷ marks (define_value minus v t) (line_end ∷ ms)))) ∷ rest.tree;
    bare = ap (λ z. b.define x minus v t ∷ z) rest.bare;
    phrase = defines refl (value_spelled minus v t (line_end ∷ ms)) rest.phrase;
  }
  top_spelled (b.extern_ port.Print) tops w m ms us rest = record {
    tree = started _ (p.extern_ port.Print _) ∷ rest.tree;
    bare = ap (λ z. b.extern_ port.Print ∷ z) rest.bare;
    phrase = printer present long_long unnamed rest.phrase;
  }
  top_spelled (b.extern_ port.Input) tops w m ms us rest = record {
    tree = started _ (p.extern_ port.Input _) ∷ rest.tree;
    bare = ap (λ z. b.extern_ port.Input ∷ z) rest.bare;
    phrase = reader present long_long present rest.phrase;
  }
  top_spelled (b.global t x b.no_exprs (Some e)) tops w m ms us rest =
      let y = expr_spelled total e w.2 0 (omega arith) (punct Semicolon ∷ feed ∷ ms) in
      let value : List Mark = space ∷ punct Assign ∷ space ∷ marks (expr_form e) (punct Semicolon ∷ feed ∷ ms) in
      record {
        tree = started (start_of (S (marks (type_name t) (space ∷ name x ∷ value)))) (p.global t x (span_of total (name x) value) p.no_exprs (Some y.tree)) ∷ rest.tree;
        bare = ap (λ z. b.global t x b.no_exprs (Some z) ∷ forget_program (tops_of rest.tree)) y.bare ∙ ap (λ z. b.global t x b.no_exprs (Some e) ∷ z) rest.bare;
        phrase = variables (type_spelled total t (space ∷ name x ∷ value)) (last_global (valued y.phrase)) rest.phrase;
      }
  top_spelled (b.global t x dims None) tops w m ms us rest =
      let after : List Mark = marks (subscripts dims) (punct Semicolon ∷ feed ∷ ms) in
      let y = subscripts_spelled total dims w.1 (span_of total (name x) after) (punct Semicolon ∷ feed ∷ ms) in
      record {
        tree = started (start_of (S (marks (type_name t) (space ∷ name x ∷ after)))) (p.global t x (span_of total (name x) after) y.tree None) ∷ rest.tree;
        bare = ap (λ z. b.global t x z None ∷ forget_program (tops_of rest.tree)) y.bare ∙ ap (λ z. b.global t x dims None ∷ z) rest.bare;
        phrase = variables (type_spelled total t (space ∷ name x ∷ after)) (last_global (unset y.phrase)) rest.phrase;
      }
  top_spelled (b.global t x (b.more_exprs d dims) (Some e)) tops w m ms us rest = absurd (some_none w.2)
    where
      some_none : Some e ≡ None → ⊥
      some_none h = cc
  top_spelled (b.function x ps ss) tops w m ms us rest =
      let body = units_spelled total 1 ss w.2 (punct CurlyClose ∷ feed ∷ ms) tt in
      let after : List Mark = marks (braces 0 (stmts_form 1 ss)) (feed ∷ ms) in
      let y = parameters_spelled ps (punct RoundClose ∷ space ∷ after) in
      record {
        tree = started _ (p.function x _ y.tree body.tree _) ∷ rest.tree;
        bare = ap (λ z. b.function x z (forget_stmts body.tree) ∷ forget_program (tops_of rest.tree)) y.bare ∙ ap (λ z. b.function x ps z ∷ forget_program (tops_of rest.tree)) body.bare ∙ ap (λ z. b.function x ps ss ∷ z) rest.bare;
        phrase = a_function y.phrase body.phrase rest.phrase;
      }
  top_spelled (b.main ss) tops w m ms us rest = absurd (both_ways true m refl)

  main_spelled : (ss : b.Stmts) → WellFormedStmts ss → (ms : List Mark) → SpelledTops (b.main ss ∷ []) (S (marks (top_form (b.main ss)) ms)) (S ms)
  main_spelled ss w ms =
      let body = units_spelled total 1 ss w (marks return_line (punct CurlyClose ∷ feed ∷ ms)) tt in
      record {
        tree = started _ (p.main body.tree _) ∷ [];
        bare = ap (λ z. b.main z ∷ []) body.bare;
        phrase = the_main present body.phrase returns;
      }

  pub program_spelled : (q : b.Program) → WellFormedTops q → IsTrue (ends_in_main q) → SpelledTops q (S (marks (program_form q) [])) (S [])
  program_spelled [] w m = absurd (both_ways false refl m)
  program_spelled (b.main ss ∷ []) w m = main_spelled ss w.0 []
  program_spelled (b.define x minus v t ∷ []) w m = absurd (both_ways false refl m)
  program_spelled (b.extern_ o ∷ []) w m = absurd (both_ways false refl m)
  program_spelled (b.global t x dims init ∷ []) w m = absurd (both_ways false refl m)
  program_spelled (b.function x ps ss ∷ []) w m = absurd (both_ways false refl m)
  program_spelled (t ∷ u ∷ q) w m =
      let parts = and_parts (not (is_main t)) (ends_in_main (u ∷ q)) m in
      top_spelled t (u ∷ q) w.0 (not-true (is_main t) parts.0) (marks (program_form (u ∷ q)) []) (S []) (program_spelled (u ∷ q) w.1 parts.1)
