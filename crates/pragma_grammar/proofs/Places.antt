-- A phrase stands from its first symbol to its last one.
use Rattle.std.proofs.Common.{◌≡◌, ℕ, suc, ◌+◌, ◌-◌, ◌<◌, ◌≤◌, List, [], ◌∷◌, ◌++◌, length, drop, Option, Some, None, refl, sym, ap, ◌∙◌, subst, arith, lit≤, length-append}
use Rattle.std.specs.Prelude.{slice_get}
use Rattle.c_tree.specs.Placed.{Expr, Exprs}
use Rattle.c_tree.specs.declared.tree.Span.{Span}
use Rattle.c_tree.specs.declared.tree.Ty.{Ty}
use Rattle.c_lexer.specs.declared.token.Token.{Token}
use Rattle.pragma_grammar.specs.Symbols.{Symbol, symbol, symbols, name, number, punct, keyword, place, spanning}
use Rattle.pragma_grammar.specs.Expressions.{TypeName, int, long_long, long_long_int, Phrase, literal, named, parens, unary, convert, binary, choice, Subscripts, no_more, one_more}
use Rattle.pragma_grammar.proofs.Terminals.{symbol_place}

-- the last symbol of `ts` before its end `us` stands at `z`
pub data Ends : Span → List Symbol → List Symbol → Type 0 where
  here : {t : Symbol} {us : List Symbol} → Ends (place t) (t ∷ us) us
  there : {z : Span} {t : Symbol} {ts us : List Symbol} → Ends z ts us → Ends z (t ∷ ts) us

pub ends_join : {y z : Span} {ts us vs : List Symbol} → Ends y ts us → Ends z us vs → Ends z ts vs
ends_join here k = there k
ends_join (there h) k = there (ends_join h k)

pub record Spanned (w : Span) (ts us : List Symbol) : Type 0 where
  pub first : Symbol
  pub more : List Symbol
  pub last : Span
  pub parts : ts ≡ first ∷ more
  pub ends : Ends last ts us
  pub is : w ≡ spanning (place first) last

type_ends : {ty : Ty} {ts us vs : List Symbol} {z : Span} → TypeName ty ts us → Ends z us vs → Ends z ts vs
type_ends int h = there h
type_ends long_long h = there (there h)
type_ends long_long_int h = there (there (there h))

mutual
  pub spanned : {r : ℕ} {e : Expr} {w : Span} {ts us : List Symbol} → Phrase r e w ts us → Spanned w ts us
  spanned (literal {n = n} {ty = y} {plain_zero = p} {a = a} {ts = ts}) = record { first = number n y p a; more = ts; last = a; parts = refl; ends = here; is = refl }
  spanned (named {x = x} {a = a} {z = z} {ts = ts} h) = record { first = name x a; more = ts; last = z; parts = refl; ends = subscripts_end h here; is = refl }
  spanned (parens {a = a} {z = z} {ts = ts} h) = record { first = _; more = ts; last = z; parts = refl; ends = there (ends_join (spanned h).ends here); is = refl }
  spanned (unary {t = t} {ts = ts} q l h) = let p = spanned h in record { first = t; more = ts; last = p.last; parts = refl; ends = there p.ends; is = ap (λ x. spanning (place t) x) p.is }
  spanned (convert {a = a} {ts = ts} l n h) = let p = spanned h in record { first = _; more = ts; last = p.last; parts = refl; ends = there (type_ends n (there p.ends)); is = ap (λ x. spanning a x) p.is }
  spanned (binary {w = w} q l h k) = let p = spanned h in let o = spanned k in record { first = p.first; more = p.more; last = o.last; parts = p.parts; ends = ends_join p.ends (there o.ends); is = ap (λ x. spanning x w) p.is ∙ ap (λ x. spanning (place p.first) x) o.is }
  spanned (choice {w = w} l h i j) = let p = spanned h in let o = spanned j in record { first = p.first; more = p.more; last = o.last; parts = p.parts; ends = ends_join p.ends (there (ends_join (spanned i).ends (there o.ends))); is = ap (λ x. spanning x w) p.is ∙ ap (λ x. spanning (place p.first) x) o.is }

  -- in symbols that end at the token before the subscripts
  pub subscripts_end : {es : Exprs} {a z : Span} {all ts us : List Symbol} → Subscripts es a z ts us → Ends a all ts → Ends z all us
  subscripts_end no_more h = h
  subscripts_end (one_more h k) g = subscripts_end k (ends_join g (there (ends_join (spanned h).ends here)))

-- ---- in tokens

ends_shorter : {z : Span} {ts us : List Symbol} → Ends z ts us → length us < length ts
ends_shorter here = omega arith
ends_shorter (there h) = let k = ends_shorter h in omega arith

pub length_symbols : (ts : List Token) → length (symbols ts) ≡ length ts
length_symbols [] = refl
length_symbols (t ∷ ts) = ap suc (length_symbols ts)

-- the token before the end
pub record Last (z : Span) (before ys : List Token) : Type 0 where
  pub token : Token
  pub some : 0 < length before
  pub got : slice_get (before ++ ys) (length before - 1) ≡ Some token
  pub stands : z ≡ token.span

pub none_ends : (z : Span) (ts us : List Symbol) → ts ≡ us → Ends z ts us → ⊥
none_ends z ts us q h = let k = ends_shorter h in let n = ap length q in omega arith

last_more : (z : Span) (t u : Token) (before ys : List Token) → Last z (u ∷ before) ys → Last z (t ∷ u ∷ before) ys
last_more z t u before ys l =
    let e : length (t ∷ u ∷ before) - 1 ≡ suc (length (u ∷ before) - 1) = omega arith in
    record { token = l.token; some = omega arith; got = ap (slice_get (t ∷ u ∷ before ++ ys)) e ∙ l.got; stands = l.stands }

pub last_of : (z : Span) (t : Token) (before ys : List Token) (ts us : List Symbol) → ts ≡ symbols (t ∷ before ++ ys) → us ≡ symbols ys → Ends z ts us → Last z (t ∷ before) ys
last_of z t [] ys ts us p q (here {t = s}) =
    let e : s ≡ symbol t = (let c : s ∷ us ≡ symbol t ∷ symbols ys = p in cc) in
    record { token = t; some = omega arith; got = refl; stands = ap place e ∙ symbol_place t }
last_of z t [] ys ts us p q (there {ts = rest} h) =
    let e : rest ≡ symbols ys = (let c : _ ∷ rest ≡ symbol t ∷ symbols ys = p in cc) in
    absurd (none_ends z rest us (e ∙ sym q) h)
last_of z t (u ∷ before) ys ts us p q (here {t = s}) =
    let e : us ≡ symbols (u ∷ before ++ ys) = (let c : s ∷ us ≡ symbol t ∷ symbols (u ∷ before ++ ys) = p in cc) in
    absurd (let n = ap length (sym q ∙ e) in let m = length_symbols ys in let o = length_symbols (u ∷ before ++ ys) in let k = length-append (u ∷ before) ys in omega arith)
last_of z t (u ∷ before) ys ts us p q (there {ts = rest} h) =
    let e : rest ≡ symbols (u ∷ before ++ ys) = (let c : _ ∷ rest ≡ symbol t ∷ symbols (u ∷ before ++ ys) = p in cc) in
    last_more z t u before ys (last_of z u before ys rest us e q h)
