-- What comes of the heads of functions.
use Rattle.std.proofs.Common.{◌≡◌, ◌<◌, List, [], ◌∷◌, ◌++◌, length, drop, Some, None, refl, sym, ap, ◌∙◌, subst, arith, append_assoc}
use Rattle.std.specs.Prelude.{map, Result, Ok, Err}
use Rattle.c_tree.specs.Bare.{Name}
use Rattle.c_tree.specs.Placed as placed
use Rattle.c_tree.specs.PlacedOf.{placed_param}
use Rattle.c_tree.specs.declared.tree.Span.{Span}
use Rattle.c_tree.specs.declared.tree.Ty.{Ty}
use Rattle.c_tree.specs.declared.tree.Ty.TheVariants as ty
use Rattle.c_tree.specs.declared.tree.Param.{Param}
use Rattle.c_lexer.specs.declared.token.Token.{Token}
use Rattle.c_lexer.specs.declared.token.Punct.{Punct}
use Rattle.c_lexer.specs.declared.token.Punct.TheVariants as p
use Rattle.c_lexer.specs.declared.words.Keyword.{Keyword}
use Rattle.c_lexer.specs.declared.words.Keyword.TheVariants as k
use Rattle.pragma_grammar.specs.declared.phrase.ParseFault.{ParseFault}
use Rattle.pragma_grammar.specs.declared.terminal.Terminal.{Terminal}
use Rattle.pragma_grammar.specs.declared.terminal.Terminal.TheVariants as term
use Rattle.pragma_grammar.specs.Symbols.{Symbol, symbol, punct, keyword}
use Rattle.pragma_grammar.specs.Terminals.{terminal_of}
use Rattle.c_parser.specs.declared.beginnings.Beginning.{Beginning}
use Rattle.c_parser.specs.declared.beginnings.Beginning.TheVariants as b
use Rattle.c_parser.specs.Beginnings.{keyword_begins, beginning_of}
use Rattle.c_grammar.specs.Goals as gl
use Rattle.c_grammar.specs.Goals.{Goal, takes, comma, round_close, long_rest, param_named, on_params, step, Move, stuck, leads}
use Rattle.c_parser.specs.Comes.{IsBlamed, Leads}
use Rattle.c_parser.specs.Cursor.{IsTaken, IsMayTaken}
use Rattle.c_parser.specs.Terminals.{IsNameTaken}
use Rattle.c_parser.specs.Heads.{IsLongTaken}
use Rattle.c_parser.specs.FunctionHeads.{IsParamTypeTaken, ParamsGoal, AreParamsRead, params_goal}
use Rattle.c_parser.proofs.Beginning.{first_goes}
use Rattle.c_parser.proofs.SimpleTaken.{fails_by, leads_shrinks}
use Rattle.c_parser.proofs.TerminalsTaken.{first_blamed}

-- ---- a parameter's type

abbrev begins : (List placed.Param → Span → Goal) → Beginning → Move
begins f b.Int = leads (param_named ty.Int f)
begins f b.Long = leads (long_rest (param_named ty.Long f))
begins f _ = stuck

begins_punct : (f : List placed.Param → Span → Goal) (x : Punct) → stuck ≡ begins f (beginning_of (term.Punct x))
begins_punct f p.Semicolon = refl
begins_punct f x = refl

begins_keyword : (f : List placed.Param → Span → Goal) (x : Keyword) (a : Span) → on_params f (keyword x a) ≡ begins f (keyword_begins x)
begins_keyword f k.Int a = refl
begins_keyword f x a = refl

begins_as : (f : List placed.Param → Span → Goal) (s : Symbol) → on_params f s ≡ begins f (beginning_of (terminal_of s))
begins_as f (punct x a) = begins_punct f x
begins_as f (keyword x a) = begins_keyword f x a
begins_as f s = refl

begins_by : (f : List placed.Param → Span → Goal) (t : Token) (k : Terminal) (r x : Beginning) → k ≡ terminal_of (symbol t) → r ≡ beginning_of k → r ≡ x → step (gl.params f) (symbol t) ≡ begins f x
begins_by f t k r x e q i = begins_as f (symbol t) ∙ ap (begins f) (ap beginning_of (sym e) ∙ sym q ∙ i)

pub int_taken : (t : Token) (ts us : List Token) (k : Terminal) (r : Beginning) → ts ≡ t ∷ drop 1 ts → us ≡ drop 1 ts → k ≡ terminal_of (symbol t) → r ≡ beginning_of k → r ≡ b.Int → IsParamTypeTaken ts (Ok ty.Int) us
int_taken t ts us k r q u e s i = λ f. first_goes (gl.params f) (param_named ty.Int f) t ts us q u (begins_by f t k r b.Int e s i)

long_begins : (t : Token) (ts us : List Token) (k : Terminal) (r : Beginning) → ts ≡ t ∷ drop 1 ts → us ≡ drop 1 ts → k ≡ terminal_of (symbol t) → r ≡ beginning_of k → r ≡ b.Long
    → (f : List placed.Param → Span → Goal) → Leads (gl.params f) ts (long_rest (param_named ty.Long f)) us
long_begins t ts us k r q u e s i f = first_goes (gl.params f) (long_rest (param_named ty.Long f)) t ts us q u (begins_by f t k r b.Long e s i)

pub long_taken : (t : Token) (ts us vs : List Token) (k : Terminal) (r : Beginning) (z : Unit {0}) → ts ≡ t ∷ drop 1 ts → us ≡ drop 1 ts → k ≡ terminal_of (symbol t) → r ≡ beginning_of k → r ≡ b.Long → IsLongTaken us (Ok z) vs → IsParamTypeTaken ts (Ok ty.Long) vs
long_taken t ts us vs k r z q u e s i l = λ f o h. long_begins t ts us k r q u e s i f o (l _ o h)

pub long_untaken : (t : Token) (ts us vs : List Token) (k : Terminal) (r : Beginning) (fault : ParseFault) → ts ≡ t ∷ drop 1 ts → us ≡ drop 1 ts → k ≡ terminal_of (symbol t) → r ≡ beginning_of k → r ≡ b.Long → IsLongTaken us (Err fault) vs → IsParamTypeTaken ts (Err fault) vs
long_untaken t ts us vs k r fault q u e s i l = λ f. fails_by (gl.params f) _ ts us fault (long_begins t ts us k r q u e s i f) (l _)

other : (f : List placed.Param → Span → Goal) (x : Beginning) → (x ≡ b.Int → ⊥) → (x ≡ b.Long → ⊥) → begins f x ≡ stuck
other f b.Int m n = absurd (m refl)
other f b.Long m n = absurd (n refl)
other f x m n = refl

pub no_type : (t : Token) (ts us : List Token) (k : Terminal) (r : Beginning) (fault : ParseFault) → ts ≡ t ∷ drop 1 ts → k ≡ terminal_of (symbol t) → r ≡ beginning_of k → (r ≡ b.Int → ⊥) → (r ≡ b.Long → ⊥) → IsBlamed ts fault → IsParamTypeTaken ts (Err fault) us
no_type t ts us k r fault q e s m n h = λ f. first_blamed (gl.params f) t ts (drop 1 ts) fault q (begins_by f t k r r e s refl ∙ other f r m n) h

-- ---- parameters

pub record ParamsCome (ts : List Token) (ps : List Param) (us : List Token) : Type 0 where
  pub before : List placed.Param → List placed.Param
  pub joins : (qs : List placed.Param) → before qs ≡ map placed_param ps ++ qs
  pub comes : (f : List placed.Param → Goal) → Leads (params_goal f) ts (params_goal (λ qs. f (before qs))) us

pub no_params : (ts : List Token) (ps : List Param) → ps ≡ [] → ParamsCome ts ps ts
no_params ts ps q = record { before = λ qs. qs; joins = λ qs. ap (λ l. map placed_param l ++ qs) (sym q); comes = λ f o h. h }

more : (ps : List Param) (p : Param) → map placed_param (ps ++ p ∷ []) ≡ map placed_param ps ++ placed_param p ∷ []
more [] p = refl
more (q ∷ ps) p = ap (λ l. placed_param q ∷ l) (more ps p)

-- a parameter's type and name
one_param : (ty : Ty) (x : Name) (a : Span) (us vs ws : List Token) → IsParamTypeTaken us (Ok ty) vs → IsNameTaken vs (Ok (x, a)) ws
    → (f : List placed.Param → Goal) → Leads (params_goal f) us (gl.param_after (λ qs z. f qs) (record { ty = ty; name = x; name_span = a })) ws
one_param ty x a us vs ws t n f = λ o h. t _ o (n _ o h)

joined : (ty : Ty) (x : Name) (a : Span) (ps ps' : List Param) (qs : List placed.Param) → ps' ≡ ps ++ record { ty = ty; name = x; name_span = a } ∷ []
    → map placed_param ps ++ record { ty = ty; name = x; name_span = a } ∷ qs ≡ map placed_param ps' ++ qs
joined ty x a ps ps' qs q =
    sym (append_assoc (map placed_param ps) (record { ty = ty; name = x; name_span = a } ∷ []) qs)
    ∙ ap (λ l. l ++ qs) (sym (ap (map placed_param) q ∙ more ps (record { ty = ty; name = x; name_span = a })))

pub more_params : (ty : Ty) (x : Name) (a z : Span) (ts us vs ws xs : List Token) (ps ps' : List Param)
    → ParamsCome ts ps us → IsParamTypeTaken us (Ok ty) vs → IsNameTaken vs (Ok (x, a)) ws → ps' ≡ ps ++ record { ty = ty; name = x; name_span = a } ∷ [] → IsMayTaken comma ws (Some z) xs → ParamsCome ts ps' xs
more_params ty x a z ts us vs ws xs ps ps' r t n q m = record {
  before = λ qs. r.before (record { ty = ty; name = x; name_span = a } ∷ qs);
  joins = λ qs. r.joins (record { ty = ty; name = x; name_span = a } ∷ qs) ∙ joined ty x a ps ps' qs q;
  comes = λ f o h. r.comes f o (one_param ty x a us vs ws t n (λ qs. f (r.before qs)) o (m _ _ o h));
}

pub params_shrink : (ty : Ty) (x : Name) (a : Span) (us vs ws xs : List Token) → IsParamTypeTaken us (Ok ty) vs → IsNameTaken vs (Ok (x, a)) ws → length xs < length ws → length xs < length us
params_shrink ty x a us vs ws xs t n l =
    let b = leads_shrinks _ _ us ws (one_param ty x a us vs ws t n (λ qs. gl.program_goal)) in
    omega arith

-- where no comma follows
last_param : (ty : Ty) (x : Name) (a : Span) (ts us vs ws xs : List Token) (ps : List Param) (r : ParamsCome ts ps us) → IsParamTypeTaken us (Ok ty) vs → IsNameTaken vs (Ok (x, a)) ws → IsMayTaken comma ws None xs
    → (f : List placed.Param → Goal) → Leads (params_goal f) ts (takes round_close (λ z. f (r.before (record { ty = ty; name = x; name_span = a } ∷ [])))) xs
last_param ty x a ts us vs ws xs ps r t n m f = λ o h. r.comes f o (one_param ty x a us vs ws t n (λ qs. f (r.before qs)) o
    (m (λ z. gl.params (λ qs y. f (r.before (record { ty = ty; name = x; name_span = a } ∷ qs)))) (takes round_close (λ z. f (r.before (record { ty = ty; name = x; name_span = a } ∷ [])))) o h))

append_none : (ps : List placed.Param) → ps ++ [] ≡ ps
append_none [] = refl
append_none (p ∷ ps) = ap (λ l. p ∷ l) (append_none ps)

pub params_end : (ty : Ty) (x : Name) (a z : Span) (ts us vs ws xs ys : List Token) (ps ps' : List Param)
    → ParamsCome ts ps us → IsParamTypeTaken us (Ok ty) vs → IsNameTaken vs (Ok (x, a)) ws → ps' ≡ ps ++ record { ty = ty; name = x; name_span = a } ∷ [] → IsMayTaken comma ws None xs → IsTaken round_close xs (Ok z) ys → AreParamsRead params_goal ts (Ok ps') ys
params_end ty x a z ts us vs ws xs ys ps ps' r t n q m e = λ f.
    let all = r.joins (record { ty = ty; name = x; name_span = a } ∷ []) ∙ joined ty x a ps ps' [] q ∙ append_none (map placed_param ps') in
    subst (λ l. Leads (params_goal f) ts (f l) ys) all (λ o h. last_param ty x a ts us vs ws xs ps r t n m f o (e _ o h))

pub params_open : (ty : Ty) (x : Name) (a : Span) (ts us vs ws xs ys : List Token) (ps : List Param) (fault : ParseFault)
    → ParamsCome ts ps us → IsParamTypeTaken us (Ok ty) vs → IsNameTaken vs (Ok (x, a)) ws → IsMayTaken comma ws None xs → IsTaken round_close xs (Err fault) ys → AreParamsRead params_goal ts (Err fault) ys
params_open ty x a ts us vs ws xs ys ps fault r t n m e = λ f. fails_by _ _ ts xs fault (last_param ty x a ts us vs ws xs ps r t n m f) (e _)

pub untyped : (ts us vs ws : List Token) (ps : List Param) (fault : ParseFault) → ParamsCome ts ps us → IsParamTypeTaken us (Err fault) vs → AreParamsRead params_goal ts (Err fault) ws
untyped ts us vs ws ps fault r t = λ f. fails_by _ _ ts us fault (r.comes f) (t _)

pub unnamed : (ty : Ty) (ts us vs ws xs : List Token) (ps : List Param) (fault : ParseFault) → ParamsCome ts ps us → IsParamTypeTaken us (Ok ty) vs → IsNameTaken vs (Err fault) ws → AreParamsRead params_goal ts (Err fault) xs
unnamed ty ts us vs ws xs ps fault r t n = λ f. fails_by _ _ ts vs fault (λ o h. r.comes f o (t _ o h)) (n _)

-- parameters' goal that leads to another one
pub params_led : (x y : ParamsGoal) (ts us vs : List Token) (r : Result _ ParseFault) → ((f : List placed.Param → Goal) → Leads (x f) ts (y f) us) → AreParamsRead y us r vs → AreParamsRead x ts r vs
params_led x y ts us vs (Ok ps) l i = λ f o h. l f o (i f o h)
params_led x y ts us vs (Err fault) l i = λ f. fails_by (x f) (y f) ts us fault (l f) (i f)
