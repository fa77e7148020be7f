-- What comes of the variables and arrays of a file.
use Rattle.std.proofs.Common.{◌≡◌, ℕ, ◌<◌, List, [], ◌∷◌, ◌++◌, length, drop, Some, None, refl, sym, ap, ◌∙◌, arith, append_assoc}
use Rattle.std.specs.Prelude.{Ok, Err}
use Rattle.c_tree.specs.Bare.{Name}
use Rattle.c_tree.specs.Placed.{no_exprs, Program, global}
use Rattle.c_tree.specs.declared.tree.Span.{Span}
use Rattle.c_tree.specs.declared.tree.Ty.{Ty}
use Rattle.c_tree.specs.declared.tree.Expr as code_expr
use Rattle.c_tree.specs.declared.tree.Item.{Item}
use Rattle.c_lexer.specs.declared.token.Token.{Token}
use Rattle.pragma_grammar.specs.declared.phrase.ParseFault.{ParseFault}
use Rattle.pragma_grammar.specs.declared.directive_kept.Kept as code
use Rattle.pragma_grammar.specs.Symbols.{Symbol, symbol, name, place}
use Rattle.pragma_grammar.specs.DirectiveKept.{Kept, one, both}
use Rattle.pragma_grammar.specs.DirectiveStands.{expr_of, exprs_of}
use Rattle.pragma_grammar.proofs.Terminals.{symbol_place}
use Rattle.c_grammar.specs.Programs.{Started, started}
use Rattle.c_grammar.specs.Goals as gl
use Rattle.c_grammar.specs.Goals.{Goal, takes, may, comma, semicolon, assign, tops, global_goal, globals_after, global_named, step}
use Rattle.c_parser.specs.Comes.{Leads}
use Rattle.c_parser.specs.Cursor.{IsTaken, IsMayTaken}
use Rattle.c_parser.specs.Terminals.{IsNameTaken}
use Rattle.c_parser.specs.Phrases.{IsExprTaken}
use Rattle.c_parser.specs.Simple.{AreSubscriptsTaken}
use Rattle.c_parser.specs.Kept.{keep_top, node_of}
use Rattle.c_parser.specs.Items.{item_of, items_of, add_top, add_items, Added, AreItemsTaken}
use Rattle.c_parser.specs.Globals.{IsGlobalTaken}
use Rattle.c_parser.proofs.ItemsKept.{keep_valued, keep_unvalued}
use Rattle.c_parser.proofs.Beginning.{first_alike}
use Rattle.c_parser.proofs.SimpleTaken.{fails_by, leads_shrinks}

-- ---- one declarator

pub valued_taken : (ty : Ty) (from : ℕ) (x : Name) (a z w : Span) (ts us vs : List Token) (v : code.Kept code_expr.Expr) (r : code.Kept Item)
    → IsMayTaken assign ts (Some z) us → IsExprTaken us (Ok (v, w)) vs → item_of r ≡ node_of from (one (λ e. global ty x a no_exprs (Some e)) (expr_of v)) → IsGlobalTaken ty from x a ts (Ok r) vs
valued_taken ty from x a z w ts us vs v r m e q = (
  started from (global ty x a no_exprs (Some e.0)),
  q ∙ ap (λ k. node_of from (one (λ e. global ty x a no_exprs (Some e)) k)) e.1 ∙ sym (keep_valued ty x a e.0 from),
  λ f o h. m _ _ o (e.2 (λ e w. f (started from (global ty x a no_exprs (Some e)))) o h),
)

pub unvalued_taken : (ty : Ty) (from : ℕ) (x : Name) (a last : Span) (ts us vs : List Token) (v : code.Kept (List code_expr.Expr)) (r : code.Kept Item)
    → IsMayTaken assign ts None us → AreSubscriptsTaken a us (Ok (v, last)) vs → item_of r ≡ node_of from (one (λ es. global ty x a es None) (exprs_of v)) → IsGlobalTaken ty from x a ts (Ok r) vs
unvalued_taken ty from x a last ts us vs v r m e q = (
  started from (global ty x a e.0 None),
  q ∙ ap (λ k. node_of from (one (λ es. global ty x a es None) k)) e.1 ∙ sym (keep_unvalued ty x a e.0 from),
  λ f o h. m (λ b. gl.expr (λ e w. f (started from (global ty x a no_exprs (Some e))))) _ o (e.2 (λ es z. f (started from (global ty x a es None))) o h),
)

pub no_value : (ty : Ty) (from : ℕ) (x : Name) (a z : Span) (ts us vs : List Token) (fault : ParseFault) → IsMayTaken assign ts (Some z) us → IsExprTaken us (Err fault) vs → IsGlobalTaken ty from x a ts (Err fault) vs
no_value ty from x a z ts us vs fault m e = λ f. fails_by _ _ ts us fault (λ o h. m _ _ o h) (e (λ e w. f (started from (global ty x a no_exprs (Some e)))))

pub no_dimensions : (ty : Ty) (from : ℕ) (x : Name) (a : Span) (ts us vs : List Token) (fault : ParseFault) → IsMayTaken assign ts None us → AreSubscriptsTaken a us (Err fault) vs → IsGlobalTaken ty from x a ts (Err fault) vs
no_dimensions ty from x a ts us vs fault m e = λ f. fails_by _ _ ts us fault (λ o h. m (λ b. gl.expr (λ e w. f (started from (global ty x a no_exprs (Some e))))) _ o h) (e (λ es z. f (started from (global ty x a es None))))

-- ---- items with more

pub none_added : (k : Kept Program) (all : code.Kept (List Item)) → items_of all ≡ k → Added k all (λ more. more)
none_added k all q = record { items = []; joins = λ rest. refl; keeps = q }

more_added : (k : Kept Program) (items : List Started) (s : Started) → add_items k (items ++ s ∷ []) ≡ both add_top (add_items k items) (keep_top s.top s.start)
more_added k [] s = refl
more_added k (i ∷ is) s = more_added (both add_top k (keep_top i.top i.start)) is s

pub one_added : (k : Kept Program) (all all' : code.Kept (List Item)) (i : code.Kept Item) (s : Started) (before : List Started → List Started)
    → Added k all before → item_of i ≡ keep_top s.top s.start → items_of all' ≡ both add_top (items_of all) (item_of i) → Added k all' (λ more. before (s ∷ more))
one_added k all all' i s before r e q = record {
  items = r.items ++ s ∷ [];
  joins = λ rest. r.joins (s ∷ rest) ∙ sym (append_assoc r.items (s ∷ []) rest);
  keeps = q ∙ ap (λ z. both add_top z (item_of i)) r.keeps ∙ ap (both add_top (add_items k r.items)) e ∙ sym (more_added k r.items s);
}

-- ---- declarators

pub record GlobalsCome (ty : Ty) (from : ℕ) (k : Kept Program) (ts : List Token) (all : code.Kept (List Item)) (at : ℕ) (us : List Token) : Type 0 where
  pub before : List Started → List Started
  pub added : Added k all before
  pub comes : (f : List Started → Goal) → Leads (global_named ty from f) ts (global_named ty at (λ more. f (before more))) us

pub no_globals : (ty : Ty) (from : ℕ) (ts : List Token) (all : code.Kept (List Item)) → GlobalsCome ty from (items_of all) ts all from ts
no_globals ty from ts all = record { before = λ more. more; added = none_added (items_of all) all refl; comes = λ f o h. h }

globals_as : (ty : Ty) (f : List Started → Goal) (s : Symbol) → step (gl.globals ty f) s ≡ step (global_named ty (place s).start f) s
globals_as ty f (name x a) = refl
globals_as ty f s = refl

next_global : (ty : Ty) (f : List Started → Goal) (t : Token) (ts : List Token) → ts ≡ t ∷ drop 1 ts → Leads (gl.globals ty f) ts (global_named ty t.span.start f) ts
next_global ty f t ts q = first_alike (gl.globals ty f) (global_named ty t.span.start f) t ts q (globals_as ty f (symbol t) ∙ ap (λ p. step (global_named ty p.start f) (symbol t)) (symbol_place t))

-- a name and the rest of its declarator
one_global : (ty : Ty) (at : ℕ) (x : Name) (a : Span) (us vs ws : List Token) (i : code.Kept Item) → IsNameTaken us (Ok (x, a)) vs → (g : IsGlobalTaken ty at x a vs (Ok i) ws)
    → (f : List Started → Goal) → Leads (global_named ty at f) us (globals_after ty f g.0) ws
one_global ty at x a us vs ws i n g f = λ o h. n _ o (g.2 (globals_after ty f) o h)

pub more_globals : (ty : Ty) (from at : ℕ) (k : Kept Program) (x : Name) (a z : Span) (t : Token) (ts us vs ws xs : List Token) (all all' : code.Kept (List Item)) (i : code.Kept Item)
    → GlobalsCome ty from k ts all at us → IsNameTaken us (Ok (x, a)) vs → IsGlobalTaken ty at x a vs (Ok i) ws → items_of all' ≡ both add_top (items_of all) (item_of i) → IsMayTaken comma ws (Some z) xs → xs ≡ t ∷ drop 1 xs
    → GlobalsCome ty from k ts all' t.span.start xs
more_globals ty from at k x a z t ts us vs ws xs all all' i r n g q m e = record {
  before = λ more. r.before (g.0 ∷ more);
  added = one_added k all all' i g.0 r.before r.added g.1 q;
  comes = λ f o h. r.comes f o (one_global ty at x a us vs ws i n g (λ more. f (r.before more)) o (m _ _ o (next_global ty (λ more. f (r.before (g.0 ∷ more))) t xs e o h)));
}

pub globals_shrink : (ty : Ty) (at : ℕ) (x : Name) (a : Span) (us vs ws xs : List Token) (i : code.Kept Item) → IsNameTaken us (Ok (x, a)) vs → IsGlobalTaken ty at x a vs (Ok i) ws → length xs < length ws → length xs < length us
globals_shrink ty at x a us vs ws xs i n g l =
    let b = leads_shrinks _ _ us ws (one_global ty at x a us vs ws i n g gl.ends) in
    omega arith

-- where no comma follows
after_last : (ty : Ty) (s : Started) (ws xs : List Token) → IsMayTaken comma ws None xs → (f : List Started → Goal) → Leads (globals_after ty f s) ws (takes semicolon (λ z. tops (λ more. f (s ∷ more)))) xs
after_last ty s ws xs m f = m (λ z. gl.globals ty (λ more. f (s ∷ more))) (takes semicolon (λ z. tops (λ more. f (s ∷ more))))

pub globals_end : (ty : Ty) (from at : ℕ) (k : Kept Program) (x : Name) (a z : Span) (ts us vs ws xs ys : List Token) (all all' : code.Kept (List Item)) (i : code.Kept Item)
    → GlobalsCome ty from k ts all at us → IsNameTaken us (Ok (x, a)) vs → IsGlobalTaken ty at x a vs (Ok i) ws → items_of all' ≡ both add_top (items_of all) (item_of i) → IsMayTaken comma ws None xs → IsTaken semicolon xs (Ok z) ys
    → AreItemsTaken (global_named ty from) k ts (Ok all') ys
globals_end ty from at k x a z ts us vs ws xs ys all all' i r n g q m e = (
  λ more. r.before (g.0 ∷ more),
  one_added k all all' i g.0 r.before r.added g.1 q,
  λ f o h. r.comes f o (one_global ty at x a us vs ws i n g (λ more. f (r.before more)) o (after_last ty g.0 ws xs m (λ more. f (r.before more)) o (e _ o h))),
)

pub globals_open : (ty : Ty) (from at : ℕ) (k : Kept Program) (x : Name) (a : Span) (ts us vs ws xs ys : List Token) (all : code.Kept (List Item)) (i : code.Kept Item) (fault : ParseFault)
    → GlobalsCome ty from k ts all at us → IsNameTaken us (Ok (x, a)) vs → IsGlobalTaken ty at x a vs (Ok i) ws → IsMayTaken comma ws None xs → IsTaken semicolon xs (Err fault) ys → AreItemsTaken (global_named ty from) k ts (Err fault) ys
globals_open ty from at k x a ts us vs ws xs ys all i fault r n g m e = λ f.
    fails_by _ _ ts xs fault (λ o h. r.comes f o (one_global ty at x a us vs ws i n g (λ more. f (r.before more)) o (after_last ty g.0 ws xs m (λ more. f (r.before more)) o h))) (e _)

pub unnamed : (ty : Ty) (from at : ℕ) (k : Kept Program) (ts us vs ws : List Token) (all : code.Kept (List Item)) (fault : ParseFault) → GlobalsCome ty from k ts all at us → IsNameTaken us (Err fault) vs → AreItemsTaken (global_named ty from) k ts (Err fault) ws
unnamed ty from at k ts us vs ws all fault r n = λ f. fails_by _ _ ts us fault (r.comes f) (n _)

pub undeclared : (ty : Ty) (from at : ℕ) (k : Kept Program) (x : Name) (a : Span) (ts us vs ws xs : List Token) (all : code.Kept (List Item)) (fault : ParseFault)
    → GlobalsCome ty from k ts all at us → IsNameTaken us (Ok (x, a)) vs → IsGlobalTaken ty at x a vs (Err fault) ws → AreItemsTaken (global_named ty from) k ts (Err fault) xs
undeclared ty from at k x a ts us vs ws xs all fault r n g = λ f. fails_by _ _ ts vs fault (λ o h. r.comes f o (n _ o h)) (g (globals_after ty (λ more. f (r.before more))))
