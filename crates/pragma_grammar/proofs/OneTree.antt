-- One expression at most stands first, and a tree is too deep exactly where its height is above 256.
use Rattle.std.proofs.Common.{◌≡◌, ℕ, ◌+◌, ◌≤◌, max, Bool, true, false, List, [], ◌∷◌, ◌++◌, Option, Some, None, refl, sym, ap, ◌∙◌, subst, arith}
use Rattle.std.proofs.lemmas.Bool.{leb-true, leb-false}
use Rattle.std.specs.Prelude.{nat_le, cond}
use Rattle.c_tree.specs.Placed.{Expr, num, read, item, un, bin, cond as choice, cast, Exprs, no_exprs, more_exprs}
use Rattle.c_tree.specs.Forget.{forget_expr, forget_exprs}
use Rattle.c_tree.specs.Height.{expr_height, exprs_height}
use Rattle.c_tree.specs.declared.tree.Span.{Span}
use Rattle.c_lexer.specs.declared.token.Token.{Token}
use Rattle.pragma_grammar.specs.Symbols.{Symbol, symbol, symbols}
use Rattle.pragma_grammar.specs.Machine as machine
use Rattle.pragma_grammar.specs.Machine.{want}
use Rattle.pragma_grammar.specs.Expressions.{Phrase}
use Rattle.pragma_grammar.specs.Deep.{first, too_deep, deep_expr, deep_exprs}
use Rattle.pragma_grammar.specs.Reading.{EndsText, Stops, SpelledExpr, DeepWhereAbove}
use Rattle.pragma_grammar.proofs.Wholes.{Outcome, outcome, found, blamed}
use Rattle.pragma_grammar.proofs.ReadExpr.{keep_outcome, outcome_kept, pair, pair_same, bounded}
use Rattle.pragma_grammar.proofs.LastToken.{finishes}

symbols_append : (xs ys : List Token) → symbols (xs ++ ys) ≡ symbols xs ++ symbols ys
symbols_append [] ys = refl
symbols_append (x ∷ xs) ys = ap (λ z. symbol x ∷ z) (symbols_append xs ys)

one_by : (ts : List Token) (o : Outcome) → outcome ts (want []) ≡ o → EndsText ts → (p q : Expr × Span) (us vs : List Symbol) → SpelledExpr p (symbols ts) us → Stops us → SpelledExpr q (symbols ts) vs → Stops vs → (p ≡ q) × (us ≡ vs)
one_by ts (machine.whole e w n) i h p q us vs a b c d =
    let f = found e w n ts i in
    let x = f.only p.0 p.1 us a b in
    let y = f.only q.0 q.1 vs c d in
    (sym (pair_same e p.0 w p.1 x.0 x.1) ∙ pair_same e q.0 w q.1 y.0 y.1, sym x.2 ∙ y.2)
one_by ts (machine.fault n) i h p q us vs a b c d =
    let f = blamed n ts i in
    absurd (f.none p.0 p.1 (symbols f.rest) us (subst (λ z. Phrase 0 p.0 p.1 z us) (ap symbols f.parts ∙ symbols_append f.before _) a) b)
one_by ts machine.unfinished i h p q us vs a b c d = absurd (finishes ts (want []) h (outcome_kept ts (want []) ∙ ap keep_outcome i))

pub one_expression : (ts : List Token) → EndsText ts → (p q : Expr × Span) (us vs : List Symbol) → SpelledExpr p (symbols ts) us → Stops us → SpelledExpr q (symbols ts) vs → Stops vs → (p ≡ q) × (us ≡ vs)
one_expression ts h = one_by ts (outcome ts (want [])) refl h

-- ---- heights

pub both_none : (p q : Option ℕ) → p ≡ None → q ≡ None → first p q ≡ None
both_none None q a b = b
both_none (Some p) q a b = absurd (let z : Some p ≡ None = a in cc)

within_by : (b : Bool) (h start : ℕ) → nat_le 257 h ≡ b → h ≤ 256 → cond b (Some start) None ≡ None
within_by true h start q l = absurd (let k = leb-true 257 h q in omega arith)
within_by false h start q l = refl

pub within : (h start : ℕ) → h ≤ 256 → too_deep h start ≡ None
within h start l = within_by (nat_le 257 h) h start refl l

mutual
  pub not_too_deep : (e : Expr) → expr_height (forget_expr e) ≤ 256 → deep_expr e ≡ None
  not_too_deep (num n y s) l = refl
  not_too_deep (read x s) l = refl
  not_too_deep (item x es s) l = both_none (deep_exprs es) _ (none_too_deep es (let z : 1 + exprs_height (forget_exprs es) ≤ 256 = l in omega arith)) (within _ s.start l)
  not_too_deep (un o e s) l = both_none (deep_expr e) _ (not_too_deep e (let z : 1 + expr_height (forget_expr e) ≤ 256 = l in omega arith)) (within _ s.start l)
  not_too_deep (bin o e f s) l =
      let z : 1 + max (expr_height (forget_expr e)) (expr_height (forget_expr f)) ≤ 256 = l in
      both_none (deep_expr e) _ (not_too_deep e (omega arith)) (both_none (deep_expr f) _ (not_too_deep f (omega arith)) (within _ s.start l))
  not_too_deep (choice c e f s) l =
      let z : 1 + max (expr_height (forget_expr c)) (max (expr_height (forget_expr e)) (expr_height (forget_expr f))) ≤ 256 = l in
      both_none (deep_expr c) _ (not_too_deep c (omega arith)) (both_none (deep_expr e) _ (not_too_deep e (omega arith)) (both_none (deep_expr f) _ (not_too_deep f (omega arith)) (within _ s.start l)))
  not_too_deep (cast y e s) l = both_none (deep_expr e) _ (not_too_deep e (let z : 1 + expr_height (forget_expr e) ≤ 256 = l in omega arith)) (within _ s.start l)

  pub none_too_deep : (es : Exprs) → exprs_height (forget_exprs es) ≤ 256 → deep_exprs es ≡ None
  none_too_deep no_exprs l = refl
  none_too_deep (more_exprs e es) l =
      let z : max (expr_height (forget_expr e)) (exprs_height (forget_exprs es)) ≤ 256 = l in
      both_none (deep_expr e) _ (not_too_deep e (omega arith)) (none_too_deep es (omega arith))

pub deep_where_above : (e : Expr) → DeepWhereAbove e
deep_where_above e = (bounded e, not_too_deep e)
