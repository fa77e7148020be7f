-- The tokens of a text end within the automaton's reach: End leads to no state.
use Rattle.std.specs.Prelude.{slice_get, option_copied, IsTrue, ◌↔◌}
use Rattle.std.proofs.Common.{◌≡◌, ℕ, zero, suc, ◌-◌, ◌<◌, Bool, Bor, List, [], ◌∷◌, length, drop, Option, Some, None, refl, sym, ap, ◌∙◌, subst, arith}
use Rattle.c_tree.specs.declared.tree.Span.{Span}
use Rattle.c_lexer.specs.declared.token.Token.{Token}
use Rattle.c_lexer.specs.declared.token.TokenKind.TheVariants as kind
use Rattle.pragma_grammar.specs.Symbols.{Symbol, symbol, symbol_of, end, spanning}
use Rattle.pragma_grammar.specs.Machine as machine
use Rattle.pragma_grammar.specs.Machine.{sign, casts, lhs, round, square, test, other, want, opened, half_long, long, typed, access, have, stuck, leads, ended}
use Rattle.pragma_grammar.specs.Kept.{Kept, KeptList, keeps, keep_un, keep_bin, keep_cond, keep_cast, keep_element}
use Rattle.pragma_grammar.specs.Stands.{KeptOpen, KeptState, KeptMove, closes, step, Outcome, outcome}
use Rattle.pragma_grammar.specs.Reading.{EndsText}

abbrev Still : KeptMove → Type 0
Still (leads s) = ⊥
Still (ended e w) = Unit {0}
Still stuck = Unit {0}

closes_still : (k : List KeptOpen) (e : Kept) (w a : Span) → Still (closes k e w (end a))
closes_still [] e w a = tt
closes_still (sign b o ∷ k) e w a = closes_still k (keep_un o e (spanning b w)) (spanning b w) a
closes_still (casts b y ∷ k) e w a = closes_still k (keep_cast y e (spanning b w)) (spanning b w) a
closes_still (lhs f v o ∷ k) e w a = closes_still k (keep_bin o f e (spanning v w)) (spanning v w) a
closes_still (round b ∷ k) e w a = tt
closes_still (square x b es ∷ k) e w a = tt
closes_still (test c v ∷ k) e w a = tt
closes_still (other c v f ∷ k) e w a = closes_still k (keep_cond c f e (spanning v w)) (spanning v w) a

step_still : (s : KeptState) (a : Span) → Still (step s (end a))
step_still (want k) a = tt
step_still (opened b k) a = tt
step_still (half_long b k) a = tt
step_still (long b k) a = tt
step_still (typed b y k) a = tt
step_still (access x b es z k) a = closes_still k (keep_element x es (spanning b z)) (spanning b z) a
step_still (have e w k) a = closes_still k e w a

abbrev unfinished : Outcome
unfinished = machine.unfinished

abbrev fault_of : ℕ → Outcome
fault_of n = machine.fault n

abbrev whole_of : Kept → Span → ℕ → Outcome
whole_of e w n = machine.whole e w n

still_ends : (m : KeptMove) (n : ℕ) (f : KeptState → Outcome) → Still m → machine.after Kept KeptList keeps m n f ≡ unfinished → ⊥
still_ends stuck n f s q = let z : fault_of n ≡ unfinished = q in cc
still_ends (leads s') n f s q = s
still_ends (ended e w) n f s q = let z : whole_of e w n ≡ unfinished = q in cc

leads_on : (m : KeptMove) (n : ℕ) (f : KeptState → Outcome) → ((s : KeptState) → f s ≡ unfinished → ⊥) → machine.after Kept KeptList keeps m n f ≡ unfinished → ⊥
leads_on stuck n f ih q = let z : fault_of n ≡ unfinished = q in cc
leads_on (leads s') n f ih q = ih s' q
leads_on (ended e w) n f ih q = let z : whole_of e w n ≡ unfinished = q in cc

-- no reading of a text's tokens is left unfinished
pub finishes : (ts : List Token) (s : KeptState) → EndsText ts → outcome ts s ≡ unfinished → ⊥
finishes [] s h q = h
finishes (t ∷ []) s h q = still_ends (step s (symbol t)) 1 (outcome []) (subst (λ k. Still (step s (symbol_of k t.span))) (sym h) (step_still s t.span)) q
finishes (t ∷ u ∷ ts) s h q = leads_on (step s (symbol t)) (length (t ∷ u ∷ ts)) (outcome (u ∷ ts)) (λ s' r. finishes (u ∷ ts) s' h r) q

pub ends_dropped : (ts : List Token) (n : ℕ) → n < length ts → EndsText ts → EndsText (drop n ts)
ends_dropped [] n l h = absurd h
ends_dropped (t ∷ ts) zero l h = h
ends_dropped (t ∷ []) (suc n) l h = absurd (let z : suc n < 1 = l in omega arith)
ends_dropped (t ∷ u ∷ ts) (suc n) l h = ends_dropped (u ∷ ts) n (let z : suc n < suc (suc (length ts)) = l in omega arith) h

some_same : {a b : Token} → Some a ≡ Some b → a ≡ b
some_same q = cc

-- the last token says whether the tokens are those of a text
ends_last : (ts : List Token) (t : Token) → slice_get ts (length ts - 1) ≡ Some t → EndsText ts ↔ (t.kind ≡ kind.End)
ends_last [] t q = absurd (let z : None ≡ Some t = q in cc)
ends_last (x ∷ []) t q = let e : x ≡ t = some_same q in (λ h. sym (ap (λ z. z.kind) e) ∙ h, λ h. ap (λ z. z.kind) e ∙ h)
ends_last (x ∷ y ∷ ys) t q =
    let e : length (x ∷ y ∷ ys) - 1 ≡ suc (length (y ∷ ys) - 1) = omega arith in
    ends_last (y ∷ ys) t (sym (ap (slice_get (x ∷ y ∷ ys)) e) ∙ q)

pub text_ends : (ts : List Token) (r : Option (Bor Token)) (b : Bor Token) (x : Bool) → option_copied r ≡ slice_get ts (length ts - 1) → r ≡ Some b → (IsTrue x ↔ (b.now.kind ≡ kind.End)) → IsTrue x ↔ EndsText ts
text_ends ts r b x q s h =
    let l = ends_last ts b.now (sym q ∙ ap option_copied s) in
    (λ y. l.1 (h.0 y), λ y. h.1 (l.0 y))
