-- What comes of a goal that the tokens of a text lead to is so of the text.
use Rattle.std.proofs.Common.{◌≡◌, ℕ, zero, suc, ◌<◌, List, [], ◌∷◌, ◌++◌, length, drop, refl, sym, ap, subst, arith}
use Rattle.std.specs.Prelude.{cond}
use Rattle.c_tree.specs.Placed.{Expr, Directive}
use Rattle.c_tree.specs.declared.tree.Span.{Span}
use Rattle.c_lexer.specs.declared.token.Token.{Token}
use Rattle.pragma_grammar.specs.Symbols.{symbol, symbols}
use Rattle.pragma_grammar.specs.Reading.{IsPhrase, IsWhole, Stops, SpelledExpr, EndsLine, SpelledDirective}
use Rattle.c_grammar.specs.Programs.{Started, SpellsItems}
use Rattle.c_grammar.specs.Reading.{Blame}
use Rattle.c_grammar.specs.Goals.{Goal, takes, the_line_end, stopping, step, stuck, reads, directs}
use Rattle.c_parser.specs.Comes.{Outcome, reaches, blames, ends_with, Comes, there, goes, alike, sticks, expr_read, no_expr, directive_read, no_directive, last_token, one_after}
use Rattle.c_grammar.proofs.Classes.{stops_false}
use Rattle.c_grammar.proofs.Reached.{Reached, reach_step, reach_alike, reach_stuck, reach_end, reach_only, reach_past, reach_expr, reach_expr_fault}
use Rattle.c_grammar.proofs.ReachedDirectives.{reach_directive, reach_directive_fault}

-- what it says of the text
abbrev pub Meaning : List Token → Outcome → Type 0
Meaning ts (reaches x rest) = Reached ts x rest
Meaning ts (blames kind place) = Blame ts kind place
Meaning ts (ends_with items) = SpellsItems items ts × ((others : List Started) → SpellsItems others ts → others ≡ items)

-- the tokens from an index on, where there are some
record Cut (ts : List Token) (n : ℕ) : Type 0 where
  before : List Token
  first : Token
  more : List Token
  left : drop n ts ≡ first ∷ more
  parts : ts ≡ before ++ first ∷ more

cut : (ts : List Token) (n : ℕ) → n < length ts → Cut ts n
cut [] n l = absurd (let z : n < 0 = l in omega arith)
cut (t ∷ ts) zero l = record { before = []; first = t; more = ts; left = refl; parts = refl }
cut (t ∷ ts) (suc n) l =
    let c = cut ts n (let z : suc n < suc (length ts) = l in omega arith) in
    record { before = t ∷ c.before; first = c.first; more = c.more; left = c.left; parts = ap (λ z. t ∷ z) c.parts }

-- the phrase's end does what it does after it
stopped : (g : Goal) (u : Token) (more : List Token) → Stops (symbols (u ∷ more)) → step (stopping g) (symbol u) ≡ step g (symbol u)
stopped g u more h = ap (λ b. cond b stuck (step g (symbol u))) (stops_false h)

expr_reached : (ts : List Token) (x : Goal) (f : Expr → Span → Goal) (t : Token) (rest : List Token) (e : Expr × Span) (n : ℕ)
    → Reached ts x (t ∷ rest) → step x (symbol t) ≡ reads f → IsPhrase (Expr × Span) SpelledExpr Stops (t ∷ rest) 0 e n → Reached ts (f e.0 e.1) (drop n (t ∷ rest))
expr_reached ts x f t rest e zero r q i = let l = i.forward in absurd (omega arith)
expr_reached ts x f t rest e (suc n) r q i =
    let c = cut rest n (let z : suc n < suc (length rest) = i.within in omega arith) in
    let whole = subst (λ us. IsWhole (Expr × Span) SpelledExpr Stops (symbols (t ∷ rest)) e (symbols us)) c.left i.whole in
    let after = reach_expr ts x f t rest c.before c.first c.more e r q c.parts whole in
    subst (λ us. Reached ts (f e.0 e.1) us) (sym c.left) (reach_alike ts (stopping (f e.0 e.1)) (f e.0 e.1) c.first c.more after (stopped (f e.0 e.1) c.first c.more whole.ends))

directive_reached : (ts : List Token) (x : Goal) (f : Directive → Goal) (t : Token) (rest : List Token) (d : Directive) (n : ℕ)
    → Reached ts x (t ∷ rest) → step x (symbol t) ≡ directs f → IsPhrase Directive SpelledDirective EndsLine (t ∷ rest) 0 d n → Reached ts (takes the_line_end (λ z. f d)) (drop n (t ∷ rest))
directive_reached ts x f t rest d zero r q i = let l = i.forward in absurd (omega arith)
directive_reached ts x f t rest d (suc n) r q i =
    let c = cut rest n (let z : suc n < suc (length rest) = i.within in omega arith) in
    let whole = subst (λ us. IsWhole Directive SpelledDirective EndsLine (symbols (t ∷ rest)) d (symbols us)) c.left i.whole in
    subst (λ us. Reached ts (takes the_line_end (λ z. f d)) us) (sym c.left) (reach_directive ts x f t rest c.before c.first c.more d r q c.parts whole)

pub meaning : (ts : List Token) {x : Goal} {rest : List Token} {o : Outcome} → Comes x rest o → Reached ts x rest → Meaning ts o
meaning ts there r = r
meaning ts (goes {x = x} {y = y} {t = t} {ts = rest} q h) r = meaning ts h (reach_step ts x y t rest r q)
meaning ts (alike {x = x} {y = y} {t = t} {ts = rest} q h) r = meaning ts h (reach_alike ts x y t rest r q)
meaning ts (sticks {x = x} {t = t} {ts = rest} q) r = reach_stuck ts x t rest r q
meaning ts (expr_read {x = x} {f = f} {t = t} {ts = rest} {e = e} {n = n} q i h) r = meaning ts h (expr_reached ts x f t rest e n r q i)
meaning ts (no_expr {x = x} {f = f} {t = t} {ts = rest} {kind = kind} {place = place} q i) r = reach_expr_fault ts x f t rest kind place r q i
meaning ts (directive_read {x = x} {f = f} {t = t} {ts = rest} {d = d} {n = n} q i h) r = meaning ts h (directive_reached ts x f t rest d n r q i)
meaning ts (no_directive {x = x} {f = f} {t = t} {ts = rest} {kind = kind} {place = place} q i) r = reach_directive_fault ts x f t rest kind place r q i
meaning ts (last_token {x = x} {t = t} {items = items} q) r = (reach_end ts x t items r q, λ others s. reach_only ts x t items others r q s)
meaning ts (one_after {x = x} {t = t} {u = u} {ts = rest} {items = items} q) r = reach_past ts x t u rest items r q
