-- What takes a token leaves fewer of them: where a goal leads to one at which an expression is read, and no expression
-- is read at the goal itself.
use Rattle.std.proofs.Common.{◌≡◌, ℕ, ◌<◌, ◌≤◌, ◌⊎◌, inl, inr, Bool, List, [], ◌∷◌, length, drop, Option, Some, None, refl, sym, ap, ◌∙◌, subst, arith}
use Rattle.std.proofs.lemmas.List.{length-drop}
use Rattle.c_tree.specs.Bare.{Name}
use Rattle.c_tree.specs.Placed.{Expr, Stmt, Stmts}
use Rattle.c_tree.specs.declared.tree.Span.{Span}
use Rattle.c_lexer.specs.declared.token.Token.{Token}
use Rattle.pragma_grammar.specs.Symbols.{Symbol, symbol, name, place}
use Rattle.c_grammar.specs.Statements.{steps}
use Rattle.c_grammar.specs.Goals.{Goal, names, simple, expr, step, Move, stuck, leads, reads, directs, accepts, stepped_or, on_name, on_simple, on_step_first, step_first, program_goal, ends_statement}
use Rattle.c_parser.specs.Comes.{Outcome, reaches, blames, ends_with, Comes, there, goes, alike, sticks, expr_read, no_expr, directive_read, no_directive, last_token, one_after, Leads}
use Rattle.c_parser.proofs.SimpleTaken.{shrinks}

abbrev Same : Goal → Goal → List Token → Type 0
Same x y [] = Unit {0}
Same x y (t ∷ ts) = step x (symbol t) ≡ step y (symbol t)

-- a token was taken, or what the first one does is the same
abbrev Took : Goal → List Token → Outcome → Type 0
Took x ts (reaches y us) = (length us < length ts) ⊎ Same x y ts
Took x ts (blames kind place) = Unit {0}
Took x ts (ends_with items) = Unit {0}

same : (x : Goal) (ts : List Token) → Same x x ts
same x [] = tt
same x (t ∷ ts) = refl

took_more : (x : Goal) (ts us : List Token) (o : Outcome) → length us < length ts → Comes x us o → (y : Goal) → Took y ts o
took_more x ts us (reaches z vs) l h y = let m = shrinks h in inl (let n : length vs ≤ length us = m in omega arith)
took_more x ts us (blames kind place) l h y = tt
took_more x ts us (ends_with items) l h y = tt

took_alike : (x y : Goal) (t : Token) (ts : List Token) (o : Outcome) → step x (symbol t) ≡ step y (symbol t) → Took y (t ∷ ts) o → Took x (t ∷ ts) o
took_alike x y t ts (reaches z us) q (inl l) = inl l
took_alike x y t ts (reaches z us) q (inr s) = inr (q ∙ s)
took_alike x y t ts (blames kind place) q h = tt
took_alike x y t ts (ends_with items) q h = tt

past : (t : Token) (ts : List Token) (n : ℕ) → 0 < n → length (drop n (t ∷ ts)) < length (t ∷ ts)
past t ts n l = rw (length-drop n (t ∷ ts)) (omega arith)

took : {x : Goal} {ts : List Token} {o : Outcome} → Comes x ts o → Took x ts o
took {x = x} {ts = ts} there = inr (same x ts)
took (goes {x = x} {y = y} {t = t} {ts = ts} {o = o} q h) = took_more y (t ∷ ts) ts o (omega arith) h x
took (alike {x = x} {y = y} {t = t} {ts = ts} {o = o} q h) = took_alike x y t ts o q (took h)
took (sticks q) = tt
took (expr_read {x = x} {f = f} {t = t} {ts = ts} {e = e} {n = n} {o = o} q i h) = took_more _ (t ∷ ts) (drop n (t ∷ ts)) o (past t ts n i.forward) h x
took (no_expr q i) = tt
took (directive_read {x = x} {f = f} {t = t} {ts = ts} {d = d} {n = n} {o = o} q i h) = took_more _ (t ∷ ts) (drop n (t ∷ ts)) o (past t ts n i.forward) h x
took (no_directive q i) = tt
took (last_token q) = tt
took (one_after q) = tt

abbrev ReadsNone : Move → Type 0
ReadsNone (reads f) = ⊥
ReadsNone m = Unit {0}

abbrev pub any_expr : Goal
any_expr = expr (λ e w. program_goal)

took_one : (x : Goal) (t : Token) (ts us : List Token) → ReadsNone (step x (symbol t)) → Leads x (t ∷ ts) any_expr us → length us < length (t ∷ ts)
took_one x t ts us n l = by_case (took (l (reaches any_expr us) there)) where
  by_case : (length us < length (t ∷ ts)) ⊎ Same x any_expr (t ∷ ts) → length us < length (t ∷ ts)
  by_case (inl m) = m
  by_case (inr s) = absurd (subst ReadsNone s n)

no_step : (f : Bool → Goal) (o : Option Bool) → ReadsNone (stepped_or f o stuck)
no_step f None = tt
no_step f (Some up) = tt

at_name : (f : Name → Span → Goal) (s : Symbol) → ReadsNone (on_name f s)
at_name f (name x a) = tt
at_name f s = tt

first_is : (x : Goal) (t : Token) (ts us : List Token) → ts ≡ t ∷ drop 1 ts → ReadsNone (step x (symbol t)) → Leads x ts any_expr us → length us < length ts
first_is x t ts us q n l = subst (λ z. length us < length z) (sym q) (took_one x t (drop 1 ts) us n (subst (λ z. Leads x z any_expr us) q l))

pub name_passed : (f : Name → Span → Goal) (t : Token) (ts us : List Token) → ts ≡ t ∷ drop 1 ts → Leads (names f) ts any_expr us → length us < length ts
name_passed f t ts us q l = first_is (names f) t ts us q (at_name f (symbol t)) l

at_simple : (f : (ℕ → Stmt) → Span → Goal) (s : Symbol) → ReadsNone (on_simple f s)
at_simple f (name x a) = tt
at_simple f s = no_step (λ up. step_first up (place s) f) (steps s)

pub simple_passed : (f : (ℕ → Stmt) → Span → Goal) (t : Token) (ts us : List Token) → ts ≡ t ∷ drop 1 ts → Leads (simple f) ts any_expr us → length us < length ts
simple_passed f t ts us q l = first_is (simple f) t ts us q (at_simple f (symbol t)) l

-- past the first token
pub first_passed : (t : Token) (ts us : List Token) → ts ≡ t ∷ drop 1 ts → us ≡ drop 1 ts → length us < length ts
first_passed t ts us q r = subst (λ n. length us < n) (sym (ap length q)) (subst (λ z. length us < length (t ∷ z)) r (omega arith))

pub further_passed : (t : Token) (ts us vs : List Token) → ts ≡ t ∷ drop 1 ts → us ≡ drop 1 ts → length vs ≤ length us → length vs < length ts
further_passed t ts us vs q r l = let m = first_passed t ts us q r in omega arith
