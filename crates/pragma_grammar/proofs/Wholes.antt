-- The whole expression and the exact fault, whatever phrase the expression stands in: from the automaton over trees.
use Rattle.std.proofs.Common.{◌≡◌, ℕ, suc, List, [], ◌∷◌, ◌++◌, length, refl, sym, ap, ◌∙◌, subst, append-nil}
use Rattle.c_tree.specs.Placed.{Expr, Exprs}
use Rattle.c_tree.specs.declared.tree.Span.{Span}
use Rattle.c_lexer.specs.declared.token.Token.{Token}
use Rattle.pragma_grammar.specs.Symbols.{Symbol, symbol, symbols}
use Rattle.pragma_grammar.specs.Expressions.{Phrase}
use Rattle.pragma_grammar.specs.Machine as machine
use Rattle.pragma_grammar.specs.Machine.{want, stuck, leads, ended}
use Rattle.pragma_grammar.specs.Trees.{trees, State, Move, step}
use Rattle.pragma_grammar.specs.Reading.{GoesOn, by_operator, by_question, by_square, Stops, stops, IsWhole, WholeExpr, SpelledExpr}
use Rattle.pragma_grammar.proofs.Follows
use Rattle.pragma_grammar.proofs.Follows.{Past, SoundState, no_operator}
use Rattle.pragma_grammar.proofs.Steps
use Rattle.pragma_grammar.proofs.Ends
use Rattle.pragma_grammar.proofs.Ends.{SoundNext}
use Rattle.pragma_grammar.proofs.Pieces.{piece_of}
use Rattle.pragma_grammar.proofs.Stopping.{ended_stops}

-- how the tokens from a state on end, by the automaton over trees
abbrev pub Outcome : Type 0
Outcome = machine.Outcome Expr Exprs trees

abbrev pub after : Move → ℕ → (State → Outcome) → Outcome
after m n f = machine.after Expr Exprs trees m n f

abbrev pub whole : Expr → Span → ℕ → Outcome
whole e w n = machine.whole e w n

abbrev pub fault : ℕ → Outcome
fault n = machine.fault n

abbrev pub unfinished : Outcome
unfinished = machine.unfinished

abbrev pub outcome : List Token → State → Outcome
outcome [] s = unfinished
outcome (t ∷ ts) s = after (step s (symbol t)) (length (t ∷ ts)) (outcome ts)

-- a phrase and the symbols after it
record Reading : Type 0 where
  tree : Expr
  stands : Span
  rest : List Symbol

abbrev reading : Expr → Span → List Symbol → Reading
reading e w us = record { tree = e; stands = w; rest = us }

-- exactly this expression and rest, with any rest or with one that stops
record Exactly (p : Reading) (e : Expr) (w : Span) (us : List Symbol) : Type 0 where
  tree : p.tree ≡ e
  stands : p.stands ≡ w
  rest : p.rest ≡ us

record Stopped (p : Reading) (e : Expr) (w : Span) (us : List Symbol) : Type 0 where
  tree : p.tree ≡ e
  stands : p.stands ≡ w
  rest : p.rest ≡ us
  stops : Stops us

past_on : {t : Symbol} → Past 0 t → GoesOn t
past_on (Follows.by_operator q l) = by_operator q
past_on (Follows.by_question l) = by_question
past_on Follows.by_square = by_square

no_stop : {t : Symbol} {ts : List Symbol} → Stops (t ∷ ts) → Past 0 t → ⊥
no_stop (stops f) h = f (past_on h)

bounds : (p : Reading) (e : Expr) (w : Span) (t : Symbol) (ts : List Symbol) → Stopped p e w (t ∷ ts) → Past 0 t → ⊥
bounds p e w t ts h k = no_stop h.stops k

abbrev CompletesExactly : Reading → State → List Symbol → Type 0
CompletesExactly p s ts = Follows.Completes Reading Exactly p s ts

abbrev MovesExactly : Reading → Move → Symbol → List Symbol → Type 0
MovesExactly p m t ts = Follows.Moves Reading Exactly p m t ts

abbrev Completes : Reading → State → List Symbol → Type 0
Completes p s ts = Follows.Completes Reading Stopped p s ts

abbrev Moves : Reading → Move → Symbol → List Symbol → Type 0
Moves p m t ts = Follows.Moves Reading Stopped p m t ts

-- where the automaton ends an expression
pub record Ending (s : State) (ts : List Token) (e : Expr) (w : Span) (n : ℕ) : Type 0 where
  pub token : Token
  pub rest : List Token
  pub before : List Token
  pub parts : ts ≡ before ++ token ∷ rest
  pub counted : suc (length rest) ≡ n
  stopped : Stops (symbols (token ∷ rest))
  from : CompletesExactly (reading e w (symbols (token ∷ rest))) s (symbols ts)
  to : (p : Reading) → Completes p s (symbols ts) → Stopped p e w (symbols (token ∷ rest))

same_tree : {e f : Expr} {v w : Span} {n m : ℕ} → whole e v n ≡ whole f w m → e ≡ f
same_tree q = cc

same_place : {e f : Expr} {v w : Span} {n m : ℕ} → whole e v n ≡ whole f w m → v ≡ w
same_place q = cc

same_count : {e f : Expr} {v w : Span} {n m : ℕ} → whole e v n ≡ whole f w m → n ≡ m
same_count q = cc

same_fault : {n m : ℕ} → fault n ≡ fault m → n ≡ m
same_fault q = cc

ending_step : (s : State) (t : Token) (ts : List Token) (e : Expr) (w : Span) (n : ℕ) (m : Move) → step s (symbol t) ≡ m → SoundState s → SoundNext m → ((s' : State) → SoundState s' → outcome ts s' ≡ whole e w n → Ending s' ts e w n) → after m (length (t ∷ ts)) (outcome ts) ≡ whole e w n → Ending s (t ∷ ts) e w n
ending_step s t ts e w n stuck i o x ih z = absurd (let y : fault (length (t ∷ ts)) ≡ whole e w n = z in cc)
ending_step s t ts e w n (leads s') i o x ih z =
    let r = ih s' x z in
    let p = reading e w (symbols (r.token ∷ r.rest)) in
    record {
      token = r.token;
      rest = r.rest;
      before = t ∷ r.before;
      parts = ap (λ l. t ∷ l) r.parts;
      counted = r.counted;
      stopped = r.stopped;
      from = Steps.step_from Reading Exactly p s (symbol t) (symbols ts) o (subst (λ m. MovesExactly p m (symbol t) (symbols ts)) (sym i) r.from);
      to = λ p h. r.to p (subst (λ m. Moves p m (symbol t) (symbols ts)) i (Steps.step_to Reading Stopped bounds p s (symbol t) (symbols ts) h));
    }
ending_step s t ts e w n (ended a b) i o x ih z =
    let tree : a ≡ e = same_tree z in
    let stands : b ≡ w = same_place z in
    let p = reading e w (symbols (t ∷ ts)) in
    record {
      token = t;
      rest = ts;
      before = [];
      parts = refl;
      counted = same_count z;
      stopped = stops (ended_stops s (symbol t) a b i);
      from = Steps.step_from Reading Exactly p s (symbol t) (symbols ts) o (subst (λ m. MovesExactly p m (symbol t) (symbols ts)) (sym i) (record { tree = sym tree; stands = sym stands; rest = refl }));
      to = λ p h. subst (λ x. Stopped p x w (symbols (t ∷ ts))) tree (subst (λ x. Stopped p a x (symbols (t ∷ ts))) stands (subst (λ m. Moves p m (symbol t) (symbols ts)) i (Steps.step_to Reading Stopped bounds p s (symbol t) (symbols ts) h)));
    }

ending : (e : Expr) (w : Span) (n : ℕ) (ts : List Token) (s : State) → SoundState s → outcome ts s ≡ whole e w n → Ending s ts e w n
ending e w n [] s o q = absurd (let z : unfinished ≡ whole e w n = q in cc)
ending e w n (t ∷ ts) s o q = ending_step s t ts e w n (step s (symbol t)) refl o (Ends.step_sound s (symbol t) o) (ending e w n ts) q

exact_phrase : (e a : Expr) (w b : Span) (us vs ts : List Symbol) → Phrase 0 a b ts vs → Exactly (reading e w us) a b vs → Phrase 0 e w ts us
exact_phrase e a w b us vs ts q h = subst (λ x. Phrase 0 x w ts us) (sym h.tree) (subst (λ x. Phrase 0 a x ts us) (sym h.stands) (subst (λ x. Phrase 0 a b ts x) (sym h.rest) q))

-- the tokens that the automaton reads as an expression are the whole one
pub record Found (ts : List Token) (e : Expr) (w : Span) (n : ℕ) : Type 0 where
  pub before : List Token
  pub token : Token
  pub rest : List Token
  pub parts : ts ≡ before ++ token ∷ rest
  pub counted : suc (length rest) ≡ n
  pub phrase : Phrase 0 e w (symbols ts) (symbols (token ∷ rest))
  pub stops : Stops (symbols (token ∷ rest))
  pub only : (e' : Expr) (w' : Span) (us : List Symbol) → Phrase 0 e' w' (symbols ts) us → Stops us → (e ≡ e') × (w ≡ w') × (symbols (token ∷ rest) ≡ us)

pub found : (e : Expr) (w : Span) (n : ℕ) (ts : List Token) → outcome ts (want []) ≡ whole e w n → Found ts e w n
found e w n ts q =
    let r = ending e w n ts (want []) tt q in
    record {
      before = r.before;
      token = r.token;
      rest = r.rest;
      parts = r.parts;
      counted = r.counted;
      stops = r.stopped;
      phrase = exact_phrase e r.from.whole w r.from.stands (symbols (r.token ∷ r.rest)) r.from.rest (symbols ts) r.from.phrase r.from.after;
      only = λ e' w' us h k. let z = r.to (reading e' w' us) (record { whole = e'; stands = w'; rest = us; phrase = h; after = record { tree = refl; stands = refl; rest = refl; stops = k } }) in (sym z.tree, sym z.stands, sym z.rest);
    }

-- ---- a fault

-- an expression with nothing after it
abbrev Alone : Unit {0} → Follows.Owed
Alone p e w ts = ts ≡ []

closed : (e : Expr) (w : Span) → (p : Unit {0}) × (ts : List Token) × Alone p e w (symbols ts)
closed e w = (tt, [], refl)

record Faulty (s : State) (ts : List Token) (n : ℕ) : Type 0 where
  before : List Token
  token : Token
  rest : List Token
  parts : ts ≡ before ++ token ∷ rest
  counted : suc (length rest) ≡ n
  none : (vs : List Symbol) (p : Reading) → Completes p s (symbols before ++ symbol token ∷ vs) → ⊥
  more : List Token
  some : Follows.Completes (Unit {0}) Alone tt s (symbols (before ++ more))

faulty_step : (s : State) (t : Token) (ts : List Token) (n : ℕ) (m : Move) → step s (symbol t) ≡ m → SoundState s → SoundNext m → ((s' : State) → SoundState s' → outcome ts s' ≡ fault n → Faulty s' ts n) → after m (length (t ∷ ts)) (outcome ts) ≡ fault n → Faulty s (t ∷ ts) n
faulty_step s t ts n stuck i o x ih z =
    let d = Ends.complete (Unit {0}) Alone closed s o in
    record {
      before = [];
      token = t;
      rest = ts;
      parts = refl;
      counted = same_fault z;
      none = λ vs p h. subst (λ m. Moves p m (symbol t) vs) i (Steps.step_to Reading Stopped bounds p s (symbol t) vs h);
      more = d.tokens;
      some = d.completes;
    }
faulty_step s t ts n (leads s') i o x ih z =
    let r = ih s' x z in
    record {
      before = t ∷ r.before;
      token = r.token;
      rest = r.rest;
      parts = ap (λ l. t ∷ l) r.parts;
      counted = r.counted;
      none = λ vs p h. r.none vs p (subst (λ m. Moves p m (symbol t) (symbols r.before ++ symbol r.token ∷ vs)) i (Steps.step_to Reading Stopped bounds p s (symbol t) (symbols r.before ++ symbol r.token ∷ vs) h));
      more = r.more;
      some = Steps.step_from (Unit {0}) Alone tt s (symbol t) (symbols (r.before ++ r.more)) o (subst (λ m. Follows.Moves (Unit {0}) Alone tt m (symbol t) (symbols (r.before ++ r.more))) (sym i) r.some);
    }
faulty_step s t ts n (ended a b) i o x ih z = absurd (let y : whole a b (length (t ∷ ts)) ≡ fault n = z in cc)

faulty : (n : ℕ) (ts : List Token) (s : State) → SoundState s → outcome ts s ≡ fault n → Faulty s ts n
faulty n [] s o q = absurd (let z : unfinished ≡ fault n = q in cc)
faulty n (t ∷ ts) s o q = faulty_step s t ts n (step s (symbol t)) refl o (Ends.step_sound s (symbol t) o) (faulty n ts) q

-- the tokens before the blamed one begin some expression's, and those through it begin none that something may follow
pub record Blamed (ts : List Token) (n : ℕ) : Type 0 where
  pub before : List Token
  pub token : Token
  pub rest : List Token
  pub parts : ts ≡ before ++ token ∷ rest
  pub counted : suc (length rest) ≡ n
  pub none : (e : Expr) (w : Span) (vs us : List Symbol) → Phrase 0 e w (symbols before ++ symbol token ∷ vs) us → Stops us → ⊥
  pub tree : Expr
  pub stands : Span
  pub more : List Token
  pub begins : (us : List Symbol) → Phrase 0 tree stands (symbols (before ++ more) ++ us) us

-- whatever stands after a phrase that ends the list
any_rest : (e : Expr) (w : Span) (ts us : List Symbol) → Phrase 0 e w ts us → us ≡ [] → (vs : List Symbol) → Phrase 0 e w (ts ++ vs) vs
any_rest e w ts us h q vs =
    let p = piece_of h in
    subst (λ x. Phrase 0 e w (x ++ vs) vs) (sym (p.parts ∙ ap (λ y. p.piece ++ y) q ∙ append-nil p.piece)) (p.any vs)

pub blamed : (n : ℕ) (ts : List Token) → outcome ts (want []) ≡ fault n → Blamed ts n
blamed n ts q =
    let r = faulty n ts (want []) tt q in
    record {
      before = r.before;
      token = r.token;
      rest = r.rest;
      parts = r.parts;
      counted = r.counted;
      none = λ e w vs us h k. r.none vs (reading e w us) (record { whole = e; stands = w; rest = us; phrase = h; after = record { tree = refl; stands = refl; rest = refl; stops = k } });
      tree = r.some.whole;
      stands = r.some.stands;
      more = r.more;
      begins = any_rest r.some.whole r.some.stands (symbols (r.before ++ r.more)) r.some.rest r.some.phrase r.some.after;
    }
