-- What comes of lists of expressions, targets, assignments and steps.
use Rattle.std.proofs.Common.{◌≡◌, ℕ, ◌<◌, ◌≤◌, Bool, true, false, List, [], ◌∷◌, length, drop, Some, None, refl, sym, ap, ◌∙◌, subst, arith}
use Rattle.std.specs.Prelude.{cond, Ok, Err}
use Rattle.std.proofs.lemmas.List.{length-drop}
use Rattle.c_tree.specs.Bare.{Name}
use Rattle.c_tree.specs.Placed.{Expr, Exprs, no_exprs, more_exprs, target}
use Rattle.c_tree.specs.Forget.{forget_exprs}
use Rattle.c_tree.specs.Height.{exprs_height}
use Rattle.c_tree.specs.declared.tree.Span.{Span}
use Rattle.c_tree.specs.declared.tree.Expr as code_expr
use Rattle.c_tree.specs.declared.tree.Target as code_target
use Rattle.c_lexer.specs.declared.token.Token.{Token}
use Rattle.c_lexer.specs.declared.token.Punct.{Punct}
use Rattle.c_lexer.specs.declared.token.Punct.TheVariants as p
use Rattle.pragma_grammar.specs.declared.phrase.ParseFault.{ParseFault}
use Rattle.pragma_grammar.specs.declared.phrase.ParseFault.TheVariants.{At, Memory}
use Rattle.pragma_grammar.specs.declared.directive_kept.Kept as code
use Rattle.pragma_grammar.specs.Deep.{deep_exprs}
use Rattle.pragma_grammar.specs.declared.terminal.Terminal.{Terminal}
use Rattle.pragma_grammar.specs.declared.terminal.Terminal.TheVariants as term
use Rattle.pragma_grammar.specs.Symbols.{Symbol, symbol, punct, spanning}
use Rattle.pragma_grammar.specs.Terminals.{terminal_of, is_square_open}
use Rattle.pragma_grammar.specs.Trees.{join, join_last}
use Rattle.pragma_grammar.specs.DirectiveKept.{kept, one, both, keep_expr, keep_exprs}
use Rattle.pragma_grammar.specs.DirectiveStands.{expr_of, exprs_of}
use Rattle.pragma_grammar.specs.Reading.{EndsText}
use Rattle.pragma_grammar.proofs.DirectiveKeeping.{keep_add_expr}
use Rattle.c_grammar.specs.Goals as gl
use Rattle.c_grammar.specs.Goals.{Goal, takes, may, comma, round_close, square_close, expr, stopping, subscripts, listed, goes_on, on_subscript, step, Move, stuck, leads}
use Rattle.c_parser.specs.Comes.{Outcome, reaches, blames, ends_with, Comes, there, goes, alike, sticks, expr_read, no_expr, directive_read, no_directive, last_token, one_after, Leads, Fails}
use Rattle.c_parser.specs.Cursor.{IsTaken, IsMayTaken}
use Rattle.c_parser.specs.Terminals.{IsStopped}
use Rattle.c_parser.specs.Phrases.{IsExprTaken}
use Rattle.c_parser.specs.Kept.{target_of, keep_target}
use Rattle.c_parser.specs.Simple.{OpensSubscript, AreSubscriptsTaken, AreListedTaken, IsTargetTaken}
use Rattle.c_grammar.proofs.Classes.{false_true}
use Rattle.c_parser.proofs.Keeping.{one_kept}
use Rattle.c_parser.proofs.TerminalsTaken.{past_other}

-- ---- goals in their order

pub fails_by : (x y : Goal) (ts us : List Token) (fault : ParseFault) → Leads x ts y us → Fails y us fault → Fails x ts fault
fails_by x y ts us (At kind place) l h = l (blames kind place) h
fails_by x y ts us Memory l h = tt

abbrev pub Shrinks : List Token → Outcome → Type 0
Shrinks ts (reaches y us) = length us ≤ length ts
Shrinks ts (blames kind place) = Unit {0}
Shrinks ts (ends_with items) = Unit {0}

shrinks_from : (ts us : List Token) (o : Outcome) → length us ≤ length ts → Shrinks us o → Shrinks ts o
shrinks_from ts us (reaches y vs) l h = let z : length vs ≤ length us = h in omega arith
shrinks_from ts us (blames kind place) l h = tt
shrinks_from ts us (ends_with items) l h = tt

dropped : (ts : List Token) (n : ℕ) → length (drop n ts) ≤ length ts
dropped ts n = rw length-drop (omega arith)

pub shrinks : {x : Goal} {ts : List Token} {o : Outcome} → Comes x ts o → Shrinks ts o
shrinks {ts = ts} there = let z : length ts ≤ length ts = omega arith in z
shrinks (goes {t = t} {ts = ts} {o = o} q h) = shrinks_from (t ∷ ts) ts o (omega arith) (shrinks h)
shrinks (alike q h) = shrinks h
shrinks (sticks q) = tt
shrinks (expr_read {t = t} {ts = ts} {n = n} {o = o} q i h) = shrinks_from (t ∷ ts) (drop n (t ∷ ts)) o (dropped (t ∷ ts) n) (shrinks h)
shrinks (no_expr q i) = tt
shrinks (directive_read {t = t} {ts = ts} {n = n} {o = o} q i h) = shrinks_from (t ∷ ts) (drop n (t ∷ ts)) o (dropped (t ∷ ts) n) (shrinks h)
shrinks (no_directive q i) = tt
shrinks (last_token q) = tt
shrinks (one_after q) = tt

-- what leads on leaves no more tokens
pub leads_shrinks : (x y : Goal) (ts us : List Token) → Leads x ts y us → length us ≤ length ts
leads_shrinks x y ts us l = shrinks (l (reaches y us) there)

-- ---- lists of expressions

join_none : (es : Exprs) → join es no_exprs ≡ es
join_none no_exprs = refl
join_none (more_exprs e es) = ap (more_exprs e) (join_none es)

join_more : (es : Exprs) (e : Expr) (fs : Exprs) → join (join_last es e) fs ≡ join es (more_exprs e fs)
join_more no_exprs e fs = refl
join_more (more_exprs g es) e fs = ap (more_exprs g) (join_more es e fs)

-- `before fs` are the expressions that were read, before the further ones `fs`
pub record Read (kept_exprs : code.Kept (List code_expr.Expr)) (before : Exprs → Exprs) : Type 0 where
  pub exprs : Exprs
  pub joins : (fs : Exprs) → before fs ≡ join exprs fs
  pub keeps : exprs_of kept_exprs ≡ keep_exprs exprs

none_read : (k : code.Kept (List code_expr.Expr)) → exprs_of k ≡ kept 0 no_exprs → Read k (λ fs. fs)
none_read k q = record { exprs = no_exprs; joins = λ fs. refl; keeps = q }

one_read : (k k' : code.Kept (List code_expr.Expr)) (x : code.Kept code_expr.Expr) (e : Expr) (before : Exprs → Exprs) → Read k before → expr_of x ≡ keep_expr e → exprs_of k' ≡ both join_last (exprs_of k) (expr_of x) → Read k' (λ fs. before (more_exprs e fs))
one_read k k' x e before r i q = record {
  exprs = join_last r.exprs e;
  joins = λ fs. r.joins (more_exprs e fs) ∙ sym (join_more r.exprs e fs);
  keeps = q ∙ ap (λ z. both join_last z (expr_of x)) r.keeps ∙ ap (both join_last (keep_exprs r.exprs)) i ∙ sym (keep_add_expr r.exprs e);
}

all_read : (k : code.Kept (List code_expr.Expr)) (before : Exprs → Exprs) → Read k before → exprs_of k ≡ keep_exprs (before no_exprs)
all_read k before r = r.keeps ∙ ap keep_exprs (sym (r.joins no_exprs ∙ join_none r.exprs))

-- ---- subscripts

subscript_as : (a : Span) (f : Exprs → Span → Goal) (s : Symbol) (m : Move)
    → on_subscript a f s m ≡ cond (is_square_open (terminal_of s)) (leads (expr (λ e w. takes square_close (λ y. subscripts y (λ es z. f (more_exprs e es) z))))) (cond (goes_on s) stuck m)
subscript_as a f (punct x b) m = by_punct x
  where
    by_punct : (x : Punct) → on_subscript a f (punct x b) m ≡ cond (is_square_open (term.Punct x)) (leads (expr (λ e w. takes square_close (λ y. subscripts y (λ es z. f (more_exprs e es) z))))) (cond (goes_on (punct x b)) stuck m)
    by_punct p.SquareOpen = refl
    by_punct x = refl
subscript_as a f s m = refl

subscript_by : (a : Span) (f : Exprs → Span → Goal) (t : Token) (k : Terminal) (b c : Bool) → k ≡ terminal_of (symbol t) → b ≡ is_square_open k → b ≡ c
    → step (subscripts a f) (symbol t) ≡ cond c (leads (expr (λ e w. takes square_close (λ y. subscripts y (λ es z. f (more_exprs e es) z))))) (step (stopping (f no_exprs a)) (symbol t))
subscript_by a f t k b c q r s =
    subscript_as a f (symbol t) (step (f no_exprs a) (symbol t))
    ∙ ap (λ z. cond z (leads (expr (λ e w. takes square_close (λ y. subscripts y (λ es z. f (more_exprs e es) z))))) (step (stopping (f no_exprs a)) (symbol t))) (ap is_square_open (sym q) ∙ sym r ∙ s)

pub past_square : (t : Token) (ts : List Token) (k : Terminal) (b : Bool) → EndsText ts → ts ≡ t ∷ drop 1 ts → k ≡ terminal_of (symbol t) → b ≡ is_square_open k → b ≡ true → EndsText (drop 1 ts)
past_square t ts k b e q r s y = past_other t ts e q (λ h. false_true (ap is_square_open (sym h) ∙ ap is_square_open (sym r) ∙ sym s ∙ y))

pub subscript_opens : (t : Token) (ts us : List Token) (k : Terminal) (b : Bool) → ts ≡ t ∷ drop 1 ts → us ≡ drop 1 ts → k ≡ terminal_of (symbol t) → b ≡ is_square_open k → b ≡ true → OpensSubscript ts true us
subscript_opens t ts us k b q u e r s =
    let parts : ts ≡ t ∷ us = q ∙ ap (λ z. t ∷ z) (sym u) in
    (subst (λ l. length us < length l) (sym parts) (omega arith), λ a f o h. subst (λ l. Comes (subscripts a f) l o) (sym parts) (goes (subscript_by a f t k b true e r s) h))

pub subscript_closed : (t : Token) (ts : List Token) (k : Terminal) (b : Bool) → ts ≡ t ∷ drop 1 ts → k ≡ terminal_of (symbol t) → b ≡ is_square_open k → b ≡ false → OpensSubscript ts false ts
subscript_closed t ts k b q e r s = λ a f o h. subst (λ l. Comes (subscripts a f) l o) (sym q) (alike (subscript_by a f t k b false e r s) (subst (λ l. Comes (stopping (f no_exprs a)) l o) q h))

pub record SubscriptsCome (a : Span) (ts : List Token) (subs : code.Kept (List code_expr.Expr)) (last : Span) (us : List Token) : Type 0 where
  pub before : Exprs → Exprs
  pub read : Read subs before
  pub comes : (f : Exprs → Span → Goal) → Leads (subscripts a f) ts (subscripts last (λ fs z. f (before fs) z)) us

pub no_subscripts : (a : Span) (ts : List Token) (subs : code.Kept (List code_expr.Expr)) → exprs_of subs ≡ kept 0 no_exprs → SubscriptsCome a ts subs a ts
no_subscripts a ts subs q = record { before = λ fs. fs; read = none_read subs q; comes = λ f o h. h }

pub more_subscripts : (a last w y : Span) (ts us vs ws xs : List Token) (subs subs' : code.Kept (List code_expr.Expr)) (sub : code.Kept code_expr.Expr)
    → SubscriptsCome a ts subs last us → OpensSubscript us true vs → IsExprTaken vs (Ok (sub, w)) ws → IsTaken square_close ws (Ok y) xs → exprs_of subs' ≡ both join_last (exprs_of subs) (expr_of sub) → SubscriptsCome a ts subs' y xs
more_subscripts a last w y ts us vs ws xs subs subs' sub r i x t q = record {
  before = λ fs. r.before (more_exprs x.0 fs);
  read = one_read subs subs' sub x.0 r.before r.read x.1 q;
  comes = λ f o h. r.comes f o (i.1 last (λ fs z. f (r.before fs) z) o (x.2 _ o (t _ o h)));
}

pub subscripts_shrink : (w y : Span) (us vs ws xs : List Token) (sub : code.Kept code_expr.Expr) → OpensSubscript us true vs → IsExprTaken vs (Ok (sub, w)) ws → IsTaken square_close ws (Ok y) xs → length xs < length us
subscripts_shrink w y us vs ws xs sub i x t =
    let a = i.0 in
    let b = leads_shrinks _ _ vs ws (x.2 (λ e v. gl.program_goal)) in
    let c = leads_shrinks _ _ ws xs (t (λ v. gl.program_goal)) in
    omega arith

pub subscripts_end : (a last : Span) (ts us vs : List Token) (subs : code.Kept (List code_expr.Expr)) (u : Unit {0}) → SubscriptsCome a ts subs last us → OpensSubscript us false vs → IsStopped vs (Ok u) → AreSubscriptsTaken a ts (Ok (subs, last)) vs
subscripts_end a last ts us vs subs u r i s =
    (r.before no_exprs, all_read subs r.before r.read, λ f o h. r.comes f o (i last (λ fs z. f (r.before fs) z) o (s (f (r.before no_exprs) last) o h)))

pub subscripts_go_on : (a last : Span) (ts us vs xs : List Token) (subs : code.Kept (List code_expr.Expr)) (fault : ParseFault) → SubscriptsCome a ts subs last us → OpensSubscript us false vs → IsStopped vs (Err fault) → AreSubscriptsTaken a ts (Err fault) xs
subscripts_go_on a last ts us vs xs subs fault r i s f =
    fails_by _ _ ts vs fault (λ o h. r.comes f o (i last (λ fs z. f (r.before fs) z) o h)) (s (f (r.before no_exprs) last))

pub no_subscript : (a last : Span) (ts us vs ws xs : List Token) (subs : code.Kept (List code_expr.Expr)) (fault : ParseFault) → SubscriptsCome a ts subs last us → OpensSubscript us true vs → IsExprTaken vs (Err fault) ws → AreSubscriptsTaken a ts (Err fault) xs
no_subscript a last ts us vs ws xs subs fault r i x f = fails_by _ _ ts vs fault (λ o h. r.comes f o (i.1 last (λ fs z. f (r.before fs) z) o h)) (x _)

pub subscript_open : (a last w : Span) (ts us vs ws xs ys : List Token) (subs : code.Kept (List code_expr.Expr)) (sub : code.Kept code_expr.Expr) (fault : ParseFault)
    → SubscriptsCome a ts subs last us → OpensSubscript us true vs → IsExprTaken vs (Ok (sub, w)) ws → IsTaken square_close ws (Err fault) xs → AreSubscriptsTaken a ts (Err fault) ys
subscript_open a last w ts us vs ws xs ys subs sub fault r i x t f = fails_by _ _ ts ws fault (λ o h. r.comes f o (i.1 last (λ fs z. f (r.before fs) z) o (x.2 _ o h))) (t _)

-- ---- expressions with commas

listed_as : (ts : List Token) (f : Exprs → Span → Goal) → EndsText ts → Leads (listed f) ts (expr (λ e w. may comma (λ z. listed (λ es. f (more_exprs e es))) (takes round_close (λ z. f (more_exprs e no_exprs) z)))) ts
listed_as [] f e = absurd e
listed_as (t ∷ ts) f e = λ o h. alike refl h

pub record ListedCome (ts : List Token) (exprs : code.Kept (List code_expr.Expr)) (us : List Token) : Type 0 where
  pub before : Exprs → Exprs
  pub read : Read exprs before
  pub comes : (f : Exprs → Span → Goal) → Leads (listed f) ts (listed (λ fs z. f (before fs) z)) us

pub none_listed : (ts : List Token) (exprs : code.Kept (List code_expr.Expr)) → exprs_of exprs ≡ kept 0 no_exprs → ListedCome ts exprs ts
none_listed ts exprs q = record { before = λ fs. fs; read = none_read exprs q; comes = λ f o h. h }

pub more_listed : (w z : Span) (ts us vs ws : List Token) (exprs exprs' : code.Kept (List code_expr.Expr)) (x : code.Kept code_expr.Expr)
    → EndsText us → ListedCome ts exprs us → IsExprTaken us (Ok (x, w)) vs → exprs_of exprs' ≡ both join_last (exprs_of exprs) (expr_of x) → IsMayTaken comma vs (Some z) ws → ListedCome ts exprs' ws
more_listed w z ts us vs ws exprs exprs' x e r i q m = record {
  before = λ fs. r.before (more_exprs i.0 fs);
  read = one_read exprs exprs' x i.0 r.before r.read i.1 q;
  comes = λ f o h. r.comes f o (listed_as us (λ fs y. f (r.before fs) y) e o (i.2 _ o (m _ _ o h)));
}

pub listed_end : (w y : Span) (ts us vs ws xs : List Token) (exprs exprs' : code.Kept (List code_expr.Expr)) (x : code.Kept code_expr.Expr)
    → EndsText us → ListedCome ts exprs us → IsExprTaken us (Ok (x, w)) vs → exprs_of exprs' ≡ both join_last (exprs_of exprs) (expr_of x) → IsMayTaken comma vs None ws → IsTaken round_close ws (Ok y) xs → AreListedTaken ts (Ok (exprs', y)) xs
listed_end w y ts us vs ws xs exprs exprs' x e r i q m t = (
  r.before (more_exprs i.0 no_exprs),
  all_read exprs' (λ fs. r.before (more_exprs i.0 fs)) (one_read exprs exprs' x i.0 r.before r.read i.1 q),
  λ f o h. r.comes f o (listed_as us (λ fs y. f (r.before fs) y) e o (i.2 _ o (m (λ z. listed (λ es y. f (r.before (more_exprs i.0 es)) y)) _ o (t _ o h)))),
)

pub listed_open : (w : Span) (ts us vs ws xs ys : List Token) (exprs : code.Kept (List code_expr.Expr)) (x : code.Kept code_expr.Expr) (fault : ParseFault)
    → EndsText us → ListedCome ts exprs us → IsExprTaken us (Ok (x, w)) vs → IsMayTaken comma vs None ws → IsTaken round_close ws (Err fault) xs → AreListedTaken ts (Err fault) ys
listed_open w ts us vs ws xs ys exprs x fault e r i m t f =
    fails_by _ _ ts ws fault (λ o h. r.comes f o (listed_as us (λ fs y. f (r.before fs) y) e o (i.2 _ o (m (λ z. listed (λ es y. f (r.before (more_exprs i.0 es)) y)) _ o h)))) (t _)

pub none_read_more : (ts us vs xs : List Token) (exprs : code.Kept (List code_expr.Expr)) (fault : ParseFault) → EndsText us → ListedCome ts exprs us → IsExprTaken us (Err fault) vs → AreListedTaken ts (Err fault) xs
none_read_more ts us vs xs exprs fault e r i f = fails_by _ _ ts us fault (λ o h. r.comes f o (listed_as us (λ fs y. f (r.before fs) y) e o h)) (i _)

pub listed_shrinks : (w : Span) (us vs ws : List Token) (x : code.Kept code_expr.Expr) → IsExprTaken us (Ok (x, w)) vs → length ws < length vs → length ws < length us
listed_shrinks w us vs ws x i l =
    let b = leads_shrinks _ _ us vs (i.2 (λ e v. gl.program_goal)) in
    omega arith

-- ---- targets

pub keep_targets : (x : Name) (es : Exprs) (s : Span) → keep_target (target x es s) ≡ one (λ es. target x es s) (keep_exprs es)
keep_targets x es s = one_kept (λ es. target x es s) (deep_exprs es) (exprs_height (forget_exprs es)) es

pub target_taken : (x : Name) (a last : Span) (ts us : List Token) (subs : code.Kept (List code_expr.Expr)) (w : Span) (t : code.Kept code_target.Target)
    → w ≡ spanning a last → AreSubscriptsTaken a ts (Ok (subs, last)) us → target_of t ≡ one (λ es. target x es w) (exprs_of subs) → IsTargetTaken x a ts (Ok (t, w)) us
target_taken x a last ts us subs w t s r q = (
  target x r.0 w,
  q ∙ ap (one (λ es. target x es w)) r.1 ∙ sym (keep_targets x r.0 w),
  λ f o h. r.2 (λ es z. f (target x es (spanning a z)) (spanning a z)) o (subst (λ v. Comes (f (target x r.0 v) v) us o) s h),
)

pub target_untaken : (x : Name) (a : Span) (ts us : List Token) (fault : ParseFault) → AreSubscriptsTaken a ts (Err fault) us → IsTargetTaken x a ts (Err fault) us
target_untaken x a ts us fault r = λ f. r (λ es z. f (target x es (spanning a z)) (spanning a z))
