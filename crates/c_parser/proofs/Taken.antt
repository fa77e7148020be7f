-- What comes of a goal where an expression or a directive was taken whole.
use Rattle.std.proofs.Common.{◌≡◌, ℕ, ◌<◌, ◌≤◌, ◌+◌, max, Bool, true, false, List, [], ◌∷◌, length, drop, Option, Some, None, refl, sym, ap, ◌∙◌, subst, arith}
use Rattle.std.specs.Prelude.{nat_le, cond, map, Ok, Err}
use Rattle.std.specs.Option.{option_map}
use Rattle.std.proofs.lemmas.Bool.{leb-true}
use Rattle.c_tree.specs.Placed.{Expr, Count, fill, given, Directive, directive, Clauses, no_clauses, more_clauses, Clause, clause, ClauseKind, sizes, permutation, counts, looprange, full, partial, apply, Items, no_items, more_items, Item, nothing, acts}
use Rattle.c_tree.specs.PlacedOf.{placed_expr, placed_directive}
use Rattle.c_tree.specs.Forget.{forget_expr, forget_exprs, forget_count, forget_directive, forget_clauses, forget_clause, forget_kind, forget_items, forget_item}
use Rattle.c_tree.specs.BareOf.{bare_expr, bare_directive}
use Rattle.c_tree.specs.Height.{expr_height, exprs_height, option_height, counts_height, directive_height, clauses_height, clause_height, items_height, item_height}
use Rattle.c_tree.specs.declared.tree.Span.{Span}
use Rattle.c_tree.specs.declared.tree.Expr as code_expr
use Rattle.c_tree.specs.declared.tree.Directive as code_directive
use Rattle.c_tree.proofs.Forgotten.Exprs.{bare_expr_is}
use Rattle.c_tree.proofs.Forgotten.Directives.{bare_directive_is}
use Rattle.c_lexer.specs.declared.token.Token.{Token}
use Rattle.pragma_grammar.specs.declared.phrase.Phrase.{Phrase}
use Rattle.pragma_grammar.specs.declared.phrase.Phrase.TheVariants as p
use Rattle.pragma_grammar.specs.declared.phrase.ParseFault.{ParseFault}
use Rattle.pragma_grammar.specs.declared.phrase.ParseFault.TheVariants.{At, Memory}
use Rattle.pragma_grammar.specs.declared.directive_kept.Kept as code
use Rattle.pragma_grammar.specs.Deep.{first, deep_expr, deep_exprs, deep_counts, deep_option, deep_directive, deep_clauses, deep_clause, deep_kind, deep_items, deep_item}
use Rattle.pragma_grammar.specs.DirectiveKept.{kept, deep, kept_or, keep_expr, keep_directive}
use Rattle.pragma_grammar.specs.Reading.{EndsText, IsExprRead, IsDirectiveRead, between}
use Rattle.pragma_grammar.proofs.LastToken.{ends_dropped}
use Rattle.pragma_grammar.proofs.OneTree.{not_too_deep, none_too_deep}
use Rattle.c_grammar.specs.Goals.{takes, the_line_end}
use Rattle.c_parser.specs.Comes.{Comes, expr_read, no_expr, directive_read, no_directive}
use Rattle.c_parser.specs.Phrases.{kept_of, next_of, IsExprTaken, IsDirectiveTaken}

-- ---- no part of a directive of height 256 at most is too deep

both_none : (p q : Option ℕ) → p ≡ None → q ≡ None → first p q ≡ None
both_none None q a b = b
both_none (Some p) q a b = absurd (let z : Some p ≡ None = a in cc)

within_by : (b : Bool) (h start : ℕ) → nat_le 257 h ≡ b → h ≤ 256 → cond b (Some start) None ≡ None
within_by true h start q l = absurd (let k = leb-true 257 h q in omega arith)
within_by false h start q l = refl

counts_within : (cs : List Count) → counts_height (map forget_count cs) ≤ 256 → deep_counts cs ≡ None
counts_within [] l = refl
counts_within (fill s ∷ cs) l = counts_within cs l
counts_within (given e ∷ cs) l =
    let z : max (expr_height (forget_expr e)) (counts_height (map forget_count cs)) ≤ 256 = l in
    both_none (deep_expr e) _ (not_too_deep e (omega arith)) (counts_within cs (omega arith))

option_within : (o : Option Expr) → option_height (option_map forget_expr o) ≤ 256 → deep_option o ≡ None
option_within None l = refl
option_within (Some e) l = not_too_deep e l

mutual
  directive_within : (d : Directive) → directive_height (forget_directive d) ≤ 256 → deep_directive d ≡ None
  directive_within (directive kind cs s) l =
      both_none (deep_clauses cs) _ (clauses_within cs (let z : 1 + clauses_height (forget_clauses cs) ≤ 256 = l in omega arith))
      (within_by (nat_le 257 (1 + clauses_height (forget_clauses cs))) (1 + clauses_height (forget_clauses cs)) s.start refl l)

  clauses_within : (cs : Clauses) → clauses_height (forget_clauses cs) ≤ 256 → deep_clauses cs ≡ None
  clauses_within no_clauses l = refl
  clauses_within (more_clauses c cs) l =
      let z : max (clause_height (forget_clause c)) (clauses_height (forget_clauses cs)) ≤ 256 = l in
      both_none (deep_clause c) _ (clause_within c (omega arith)) (clauses_within cs (omega arith))

  clause_within : (c : Clause) → clause_height (forget_clause c) ≤ 256 → deep_clause c ≡ None
  clause_within (clause kind s) l = kind_within kind l

  kind_within : (kind : ClauseKind) → clause_height (forget_kind kind) ≤ 256 → deep_kind kind ≡ None
  kind_within (sizes es) l = none_too_deep es l
  kind_within (permutation es) l = none_too_deep es l
  kind_within (counts cs) l = counts_within cs l
  kind_within (looprange e f) l =
      let z : max (expr_height (forget_expr e)) (expr_height (forget_expr f)) ≤ 256 = l in
      both_none (deep_expr e) _ (not_too_deep e (omega arith)) (not_too_deep f (omega arith))
  kind_within full l = refl
  kind_within (partial o) l = option_within o l
  kind_within (apply m es is) l =
      let z : max (exprs_height (forget_exprs es)) (items_height (forget_items is)) ≤ 256 = l in
      both_none (deep_exprs es) _ (none_too_deep es (omega arith)) (items_within is (omega arith))

  items_within : (is : Items) → items_height (forget_items is) ≤ 256 → deep_items is ≡ None
  items_within no_items l = refl
  items_within (more_items i is) l =
      let z : max (item_height (forget_item i)) (items_height (forget_items is)) ≤ 256 = l in
      both_none (deep_item i) _ (item_within i (omega arith)) (items_within is (omega arith))

  item_within : (i : Item) → item_height (forget_item i) ≤ 256 → deep_item i ≡ None
  item_within (nothing s) l = refl
  item_within (acts d) l = directive_within d l

-- ---- what is kept

kept_whole : {X : Type 0} (d : Option ℕ) (g h : ℕ) (x : X) → d ≡ None → g ≡ h → kept h x ≡ kept_or d g x
kept_whole d g h x q r = ap (λ n. kept n x) (sym r) ∙ ap (λ o. kept_or o g x) (sym q)

kept_deep : {X : Type 0} (d : Option ℕ) (g p : ℕ) (x : X) → d ≡ Some p → deep p ≡ kept_or d g x
kept_deep d g p x q = ap (λ o. kept_or o g x) (sym q)

kept_expr : (e : code_expr.Expr) (h : ℕ) → h ≡ expr_height (bare_expr e) → h ≤ 256 → kept h (placed_expr e) ≡ keep_expr (placed_expr e)
kept_expr e h q l =
    let same : expr_height (forget_expr (placed_expr e)) ≡ h = ap expr_height (sym (bare_expr_is e)) ∙ sym q in
    kept_whole (deep_expr (placed_expr e)) _ h (placed_expr e) (not_too_deep (placed_expr e) (omega arith)) same

kept_directive : (d : code_directive.Directive) (h : ℕ) → h ≡ directive_height (bare_directive d) → h ≤ 256 → kept h (placed_directive d) ≡ keep_directive (placed_directive d)
kept_directive d h q l =
    let same : directive_height (forget_directive (placed_directive d)) ≡ h = ap directive_height (sym (bare_directive_is d)) ∙ sym q in
    kept_whole (deep_directive (placed_directive d)) _ h (placed_directive d) (directive_within (placed_directive d) (omega arith)) same

-- ---- an expression

expr_past : (ts : List Token) (q : Phrase code_expr.Expr) → IsExprRead ts 0 (Ok q) → (0 < next_of q) × (next_of q < length ts)
expr_past ts (p.Whole tree height next) i = (i.0.forward, i.0.within)
expr_past ts (p.Deep place next) i = (i.1.forward, i.1.within)

pub record Within (ts : List Token) (n : ℕ) : Type 0 where
  pub some : 0 < n
  pub within : n < length ts

pub record Ended (ts : List Token) (n : ℕ) : Type 0 where
  pub within : n < length ts
  pub ended : EndsText (drop n ts)

to_end : (ts us : List Token) (n : ℕ) → us ≡ ts → EndsText us → n < length us → Ended ts n
to_end ts us n s e l = let m = subst (λ l. n < length l) s l in record { within = m; ended = ends_dropped ts n m (subst EndsText s e) }

pub expr_within : (ts : List Token) (q : Phrase code_expr.Expr) (n : ℕ) → IsExprRead ts 0 (Ok q) → n ≡ next_of q → Within ts n
expr_within ts q n i b = let l = expr_past ts q i in record { some = subst (λ m. 0 < m) (sym b) l.0; within = subst (λ m. m < length ts) (sym b) l.1 }

pub expr_ends : (ts us : List Token) (q : Phrase code_expr.Expr) (n : ℕ) → us ≡ ts → EndsText us → IsExprRead us 0 (Ok q) → n ≡ next_of q → Ended ts n
expr_ends ts us q n s e i b = to_end ts us n s e (expr_within us q n i b).within

expr_comes : (ts us : List Token) (q : Phrase code_expr.Expr) (w : Span) → EndsText ts → IsExprRead ts 0 (Ok q) → w ≡ between ts 0 (next_of q) → us ≡ drop (next_of q) ts → IsExprTaken ts (Ok (kept_of q, w)) us
expr_comes [] us q w e i r s = absurd e
expr_comes (t ∷ ts) us (p.Whole tree height next) w e i r s =
    (placed_expr tree, kept_expr tree height i.1 i.2, λ f o g. expr_read refl i.0 (subst (λ v. Comes (f (placed_expr tree) v) (drop next (t ∷ ts)) o) r (subst (λ l. Comes (f (placed_expr tree) w) l o) s g)))
expr_comes (t ∷ ts) us (p.Deep place next) w e i r s =
    (i.0, kept_deep (deep_expr i.0) _ place i.0 i.2, λ f o g. expr_read refl i.1 (subst (λ v. Comes (f i.0 v) (drop next (t ∷ ts)) o) r (subst (λ l. Comes (f i.0 w) l o) s g)))

expr_taken_in : (ts us : List Token) (q : Phrase code_expr.Expr) (k : code.Kept code_expr.Expr) (n : ℕ) (w : Span) → EndsText ts → IsExprRead ts 0 (Ok q) → k ≡ kept_of q → n ≡ next_of q → w ≡ between ts 0 n → us ≡ drop n ts → IsExprTaken ts (Ok (k, w)) us
expr_taken_in ts us q k n w e i a b r s =
    subst (λ x. IsExprTaken ts (Ok (x, w)) us) (sym a) (expr_comes ts us q w e i (r ∙ ap (between ts 0) b) (s ∙ ap (λ m. drop m ts) b))

pub expr_taken : (ts vs us : List Token) (q : Phrase code_expr.Expr) (k : code.Kept code_expr.Expr) (n : ℕ) (w : Span) → vs ≡ ts → EndsText vs → IsExprRead vs 0 (Ok q) → k ≡ kept_of q → n ≡ next_of q → w ≡ between vs 0 n → us ≡ drop n ts → IsExprTaken ts (Ok (k, w)) us
expr_taken ts vs us q k n w same e i a b r s = subst (λ l. IsExprTaken l (Ok (k, w)) us) same (expr_taken_in vs us q k n w e i a b r (s ∙ ap (λ l. drop n l) (sym same)))

expr_untaken_in : (ts us : List Token) (fault : ParseFault) → EndsText ts → IsExprRead ts 0 (Err fault) → IsExprTaken ts (Err fault) us
expr_untaken_in [] us fault e i = absurd e
expr_untaken_in (t ∷ ts) us (At kind place) e i = λ f. no_expr refl i
expr_untaken_in (t ∷ ts) us Memory e i = λ f. tt

pub expr_untaken : (ts vs us : List Token) (fault : ParseFault) → vs ≡ ts → EndsText vs → IsExprRead vs 0 (Err fault) → IsExprTaken ts (Err fault) us
expr_untaken ts vs us fault same e i = subst (λ l. IsExprTaken l (Err fault) us) same (expr_untaken_in vs us fault e i)

-- ---- a directive

directive_past : (ts : List Token) (q : Phrase code_directive.Directive) → IsDirectiveRead ts 0 (Ok q) → next_of q < length ts
directive_past ts (p.Whole tree height next) i = i.0.within
directive_past ts (p.Deep place next) i = i.1.within

pub directive_ends : (ts us : List Token) (q : Phrase code_directive.Directive) (n : ℕ) → us ≡ ts → EndsText us → IsDirectiveRead us 0 (Ok q) → n ≡ next_of q → Ended ts n
directive_ends ts us q n s e i b = to_end ts us n s e (subst (λ m. m < length us) (sym b) (directive_past us q i))

directive_comes : (ts us : List Token) (q : Phrase code_directive.Directive) → EndsText ts → IsDirectiveRead ts 0 (Ok q) → us ≡ drop (next_of q) ts → IsDirectiveTaken ts (Ok (kept_of q)) us
directive_comes [] us q e i s = absurd e
directive_comes (t ∷ ts) us (p.Whole tree height next) e i s =
    (placed_directive tree, kept_directive tree height i.1 i.2, λ f o g. directive_read refl i.0 (subst (λ l. Comes (takes the_line_end (λ z. f (placed_directive tree))) l o) s g))
directive_comes (t ∷ ts) us (p.Deep place next) e i s =
    (i.0, kept_deep (deep_directive i.0) _ place i.0 i.2, λ f o g. directive_read refl i.1 (subst (λ l. Comes (takes the_line_end (λ z. f i.0)) l o) s g))

directive_taken_in : (ts us : List Token) (q : Phrase code_directive.Directive) (k : code.Kept code_directive.Directive) (n : ℕ) → EndsText ts → IsDirectiveRead ts 0 (Ok q) → k ≡ kept_of q → n ≡ next_of q → us ≡ drop n ts → IsDirectiveTaken ts (Ok k) us
directive_taken_in ts us q k n e i a b s = subst (λ x. IsDirectiveTaken ts (Ok x) us) (sym a) (directive_comes ts us q e i (s ∙ ap (λ m. drop m ts) b))

pub directive_taken : (ts vs us : List Token) (q : Phrase code_directive.Directive) (k : code.Kept code_directive.Directive) (n : ℕ) → vs ≡ ts → EndsText vs → IsDirectiveRead vs 0 (Ok q) → k ≡ kept_of q → n ≡ next_of q → us ≡ drop n ts → IsDirectiveTaken ts (Ok k) us
directive_taken ts vs us q k n same e i a b s = subst (λ l. IsDirectiveTaken l (Ok k) us) same (directive_taken_in vs us q k n e i a b (s ∙ ap (λ l. drop n l) (sym same)))

directive_untaken_in : (ts us : List Token) (fault : ParseFault) → EndsText ts → IsDirectiveRead ts 0 (Err fault) → IsDirectiveTaken ts (Err fault) us
directive_untaken_in [] us fault e i = absurd e
directive_untaken_in (t ∷ ts) us (At kind place) e i = λ f. no_directive refl i
directive_untaken_in (t ∷ ts) us Memory e i = λ f. tt

pub directive_untaken : (ts vs us : List Token) (fault : ParseFault) → vs ≡ ts → EndsText vs → IsDirectiveRead vs 0 (Err fault) → IsDirectiveTaken ts (Err fault) us
directive_untaken ts vs us fault same e i = subst (λ l. IsDirectiveTaken l (Err fault) us) same (directive_untaken_in vs us fault e i)
