-- What a reader has of a directive at a token: a state that the tokens before it lead to.
use Rattle.std.proofs.Common.{◌≡◌, ℕ, Bool, true, false, List, [], ◌∷◌, ◌++◌, Option, Some, None, refl, sym, ap, ◌∙◌, subst, append_assoc, inl, inr}
use Rattle.c_tree.specs.Bare.{Name}
use Rattle.c_tree.specs.Placed.{Expr, Exprs, Count, Directive}
use Rattle.c_tree.specs.declared.tree.Kind.{Kind}
use Rattle.c_tree.specs.declared.tree.Span.{Span}
use Rattle.c_lexer.specs.declared.token.Token.{Token}
use Rattle.c_lexer.specs.declared.token.Punct.TheVariants.{RoundOpen, RoundClose, Comma, Colon}
use Rattle.c_lexer.specs.declared.words.Keyword.TheVariants.{OmpFill}
use Rattle.pragma_grammar.specs.declared.words.ClauseWord.{ClauseWord}
use Rattle.pragma_grammar.specs.declared.words.ClauseWord.TheVariants as word
use Rattle.pragma_grammar.specs.declared.phrase.ParseKind.{ParseKind}
use Rattle.pragma_grammar.specs.Symbols.{Symbol, symbol, symbols, name, punct, keyword, line_end}
use Rattle.pragma_grammar.specs.Words.{kind_of, clause_of, is_nothing}
use Rattle.pragma_grammar.specs.Expressions.{Phrase}
use Rattle.pragma_grammar.specs.Reading.{blamed_as, IsWhole, IsFault, WholeExpr, ExprFault, SpelledExpr, SpelledDirective, EndsLine, ends_line, WholeDirective, DirectiveFault, GoesOn, by_operator, Stops, stops}
use Rattle.pragma_grammar.specs.DirectiveMachine as machine
use Rattle.pragma_grammar.specs.DirectiveMachine.{start, clauses, comma, opening, partial, apply_word, wanting, having, indexed, applying, first_name, item, item_read, stuck, leads, ended, element, count, elements, counted, first, range, factored, Lists}
use Rattle.pragma_grammar.specs.DirectiveTrees.{trees, Part, Open, Asked, Held, State, Move, step, take, expects, wants_letter}
use Rattle.pragma_grammar.proofs.Follows.{Takes, takes}
use Rattle.pragma_grammar.proofs.DirectiveFollows.{Starts, Completes, Moves, Wants, Has, Letter}
use Rattle.pragma_grammar.proofs.DirectiveSteps.{step_from, step_to, letter_from, letter_to}
use Rattle.pragma_grammar.proofs.DirectiveEnds.{Exact, exactly, complete}
use Rattle.pragma_grammar.proofs.DirectiveLetters.{one_expr, before_any, stops_any}

-- ---- a directive ends before the end of its line alone

abbrev EndsMove : Move → Symbol → Type 0
EndsMove (ended d) (line_end z) = Unit {0}
EndsMove (ended d) t = ⊥
EndsMove m t = Unit {0}

word_ends : (w : ClauseWord) (a : Span) (part : Part) (k : List Open) (t : Symbol) → EndsMove (machine.word_read trees w a part k) t
word_ends word.Sizes a part k t = tt
word_ends word.Permutation a part k t = tt
word_ends word.Counts a part k t = tt
word_ends word.LoopRange a part k t = tt
word_ends word.Full a part k t = tt
word_ends word.Partial a part k t = tt
word_ends word.Apply a part k t = tt

clause_ends : (w : Option ClauseWord) (a : Span) (part : Part) (k : List Open) (t : Symbol) → EndsMove (machine.clause_word trees w a part k) t
clause_ends None a part k t = tt
clause_ends (Some w) a part k t = word_ends w a part k t

word_step_ends : (part : Part) (k : List Open) (t : Symbol) → EndsMove (machine.word_step trees part k t) t
word_step_ends part k (name x a) = clause_ends (clause_of x) a part k (name x a)
word_step_ends part k t = tt

comma_ends : (part : Part) (z : Span) (k : List Open) (t : Symbol) → EndsMove (machine.comma_step trees part z k) t
comma_ends part z [] t = tt
comma_ends part z (o ∷ k) t = tt

close_ends : (part : Part) (z y : Span) (k : List Open) (t : Symbol) → EndsMove (machine.close_step trees part z y k) t
close_ends part z y [] t = tt
close_ends part z y (o ∷ k) t = tt

line_ends : (part : Part) (z y : Span) (k : List Open) → EndsMove (machine.end_step trees part z k) (line_end y)
line_ends part z y [] = tt
line_ends part z y (o ∷ k) = tt

clauses_end : (part : Part) (z : Span) (k : List Open) (t : Symbol) → EndsMove (machine.after_clause trees part z k t) t
clauses_end part z k (name x a) = clause_ends (clause_of x) a part k (name x a)
clauses_end part z k (punct Comma y) = comma_ends part z k (punct Comma y)
clauses_end part z k (punct RoundClose y) = close_ends part z y k (punct RoundClose y)
clauses_end part z k (line_end y) = line_ends part z y k
clauses_end part z k t = tt

begin_ends : (g : Option Kind) (a : Span) (k : List Open) (t : Symbol) → EndsMove (machine.begin_directive trees g a k) t
begin_ends None a k t = tt
begin_ends (Some kind) a k t = tt

start_ends : (t : Symbol) → EndsMove (machine.start_step trees t) t
start_ends (name x a) = begin_ends (kind_of x) a [] (name x a)
start_ends t = tt

open_ends : (s : State) (t : Symbol) → EndsMove (machine.expect_open trees s t) t
open_ends s (punct RoundOpen b) = tt
open_ends s t = tt

colon_ends : (s : State) (t : Symbol) → EndsMove (machine.expect_colon trees s t) t
colon_ends s (punct Colon b) = tt
colon_ends s t = tt

partial_ends : (a : Span) (part : Part) (k : List Open) (t : Symbol) → EndsMove (machine.partial_step trees a part k t) t
partial_ends a part k (punct RoundOpen b) = tt
partial_ends a part k t = let y = t in clauses_end (machine.with_clauses trees part (trees.add_partial part.clauses a)) a k y

fill_ends : (cs : List Count) (a : Span) (part : Part) (k : List Open) (t : Symbol) → EndsMove (machine.fill_step trees cs a part k t) t
fill_ends cs a part k (keyword OmpFill z) = tt
fill_ends cs a part k t = tt

want_ends : (asked : Asked) (a : Span) (part : Part) (k : List Open) (t : Symbol) → EndsMove (machine.want_step trees asked a part k t) t
want_ends (count cs) a part k t = fill_ends cs a part k t
want_ends asked a part k t = tt

list_ends : (l : Lists) (es : Exprs) (a z : Span) (part : Part) (k : List Open) (t : Symbol) → EndsMove (machine.end_list trees l es z a part k) t
list_ends machine.sizes es a z part k t = tt
list_ends machine.permutation es a z part k t = tt
list_ends (machine.indices m) es a z part k t = tt

list_step_ends : (l : Lists) (es : Exprs) (a : Span) (part : Part) (k : List Open) (t : Symbol) → EndsMove (machine.list_step trees l es a part k t) t
list_step_ends l es a part k (punct Comma z) = tt
list_step_ends l es a part k (punct RoundClose z) = list_ends l es a z part k (punct RoundClose z)
list_step_ends l es a part k t = tt

count_step_ends : (cs : List Count) (a : Span) (part : Part) (k : List Open) (t : Symbol) → EndsMove (machine.count_step trees cs a part k t) t
count_step_ends cs a part k (punct Comma z) = tt
count_step_ends cs a part k (punct RoundClose z) = tt
count_step_ends cs a part k t = tt

first_step_ends : (e : Expr) (a : Span) (part : Part) (k : List Open) (t : Symbol) → EndsMove (machine.first_step trees e a part k t) t
first_step_ends e a part k (punct Comma z) = tt
first_step_ends e a part k t = tt

range_step_ends : (e f : Expr) (a : Span) (part : Part) (k : List Open) (t : Symbol) → EndsMove (machine.range_step trees e f a part k t) t
range_step_ends e f a part k (punct RoundClose z) = tt
range_step_ends e f a part k t = tt

factor_step_ends : (e : Expr) (a : Span) (part : Part) (k : List Open) (t : Symbol) → EndsMove (machine.factor_step trees e a part k t) t
factor_step_ends e a part k (punct RoundClose z) = tt
factor_step_ends e a part k t = tt

have_ends : (held : Held) (a : Span) (part : Part) (k : List Open) (t : Symbol) → EndsMove (machine.have_step trees held a part k t) t
have_ends (elements l es) a part k t = list_step_ends l es a part k t
have_ends (counted cs) a part k t = count_step_ends cs a part k t
have_ends (first e) a part k t = first_step_ends e a part k t
have_ends (range e f) a part k t = range_step_ends e f a part k t
have_ends (factored e) a part k t = factor_step_ends e a part k t

applying_ends : (a : Span) (part : Part) (k : List Open) (t : Symbol) → EndsMove (machine.applying_step trees a part k t) t
applying_ends a part k (name x c) = tt
applying_ends a part k t = tt

named_ends : (b : Bool) (g : Option Kind) (a : Span) (o : Open) (k : List Open) (t : Symbol) → EndsMove (machine.named_item trees b g a o k) t
named_ends true g a o k t = tt
named_ends false g a o k t = begin_ends g a (o ∷ k) t

item_ends : (o : Open) (k : List Open) (t : Symbol) → EndsMove (machine.item_step trees o k t) t
item_ends o k (name x a) = named_ends (is_nothing x) (kind_of x) a o k (name x a)
item_ends o k t = tt

item_end_ends : (o : Open) (k : List Open) (t : Symbol) → EndsMove (machine.item_end trees o k t) t
item_end_ends o k (punct Comma z) = tt
item_end_ends o k (punct RoundClose z) = tt
item_end_ends o k t = tt

after_name_ends : (m : Move) (t : Symbol) → EndsMove (machine.after_name trees m t) t
after_name_ends (leads (clauses part z k)) t = clauses_end part z k t
after_name_ends (leads (item_read o k)) t = item_end_ends o k t
after_name_ends m t = tt

first_name_ends : (x : Name) (c a : Span) (part : Part) (k : List Open) (t : Symbol) → EndsMove (machine.first_name_step trees x c a part k t) t
first_name_ends x c a part k (punct Colon b) = tt
first_name_ends x c a part k (punct RoundOpen b) = tt
first_name_ends x c a part k t = let y = t in after_name_ends (machine.named_item trees (is_nothing x) (kind_of x) c (machine.new_open trees a part None trees.no_exprs) k) y

step_ends : (s : State) (t : Symbol) → EndsMove (step s t) t
step_ends start t = start_ends t
step_ends (clauses part z k) t = clauses_end part z k t
step_ends (comma part) t = word_step_ends part [] t
step_ends (opening asked a part k) t = open_ends (wanting asked a part k) t
step_ends (partial a part k) t = partial_ends a part k t
step_ends (apply_word a part k) t = open_ends (applying a part k) t
step_ends (wanting asked a part k) t = want_ends asked a part k t
step_ends (having held a part k) t = have_ends held a part k t
step_ends (indexed m es a part k) t = colon_ends (item (machine.new_open trees a part (Some m) es) k) t
step_ends (applying a part k) t = applying_ends a part k t
step_ends (first_name x c a part k) t = first_name_ends x c a part k t
step_ends (item o k) t = item_ends o k t
step_ends (item_read o k) t = item_end_ends o k t

at_line : (d : Directive) (t : Symbol) (ts : List Symbol) → EndsMove (ended d) t → EndsLine (t ∷ ts)
at_line d (line_end z) ts h = ends_line
at_line d t ts h = absurd h

ended_line : (s : State) (d : Directive) (t : Symbol) (ts : List Symbol) → step s t ≡ ended d → EndsLine (t ∷ ts)
ended_line s d t ts q = at_line d t ts (subst (λ m. EndsMove m t) q (step_ends s t))

-- ---- what the tokens before one say

abbrev Done : List Symbol → Directive → State → List Symbol → Type 0
Done us d s vs = Completes Directive (Exact us) d s vs

bounds : (us : List Symbol) → EndsLine us → (p d : Directive) (ts : List Symbol) → Exact us p d ts → EndsLine ts
bounds us e p d ts exactly = e

-- The tokens before `rest` lead to the state: what completes it completes them, and what completes them with the same
-- token after them completes it.
pub record Reaches (ts : List Token) (s : State) (rest : List Token) : Type 0 where
  pub before : List Token
  pub parts : ts ≡ before ++ rest
  pub from : (us vs : List Symbol) (d : Directive) → Done us d s vs → Done us d start (symbols before ++ vs)
  pub to : (us : List Symbol) (d : Directive) → EndsLine us → (t : Token) (more : List Token) → rest ≡ t ∷ more → (vs : List Symbol) → Done us d start (symbols before ++ symbol t ∷ vs) → Done us d s (symbol t ∷ vs)

seam : (before seg : List Token) (vs : List Symbol) → symbols (before ++ seg) ++ vs ≡ symbols before ++ (symbols seg ++ vs)
seam [] seg vs = refl
seam (x ∷ before) seg vs = ap (λ l. symbol x ∷ l) (seam before seg vs)

pub reach_start : (ts : List Token) → Reaches ts start ts
reach_start ts = record { before = []; parts = refl; from = λ us vs d h. h; to = λ us d e t more q vs h. h }

-- a token that leads on
pub reach_step : (ts : List Token) (s s' : State) (t : Token) (rest : List Token) → Reaches ts s (t ∷ rest) → step s (symbol t) ≡ leads s' → expects s (symbol t) ≡ false → Reaches ts s' rest
reach_step ts s s' t rest r q x =
    record {
      before = r.before ++ t ∷ [];
      parts = r.parts ∙ sym (append_assoc r.before (t ∷ []) rest);
      from = λ us vs d h. subst (Done us d start) (sym (seam r.before (t ∷ []) vs)) (r.from us (symbol t ∷ vs) d (step_from Directive (Exact us) d s (symbol t) vs (subst (λ m. Moves Directive (Exact us) d m (symbol t) vs) (sym q) h)));
      to = λ us d e u more p vs h. subst (λ m. Moves Directive (Exact us) d m (symbol t) (symbol u ∷ vs)) q (step_to Directive (Exact us) (bounds us e) d s (symbol t) (symbol u ∷ vs) x (r.to us d e t rest refl (symbol u ∷ vs) (subst (Done us d start) (seam r.before (t ∷ []) (symbol u ∷ vs)) h)));
    }

nothing_there : {A : Type 0} {x : A} → None ≡ Some x → ⊥
nothing_there q = cc

round_stops : (z : Span) (ts : List Symbol) → Stops (punct RoundClose z ∷ ts)
round_stops z ts = stops (λ g. not_on z g)
  where
    not_on : (z : Span) → GoesOn (punct RoundClose z) → ⊥
    not_on z (by_operator q) = nothing_there q

comma_stops : (z : Span) (ts : List Symbol) → Stops (punct Comma z ∷ ts)
comma_stops z ts = stops (λ g. not_on z g)
  where
    not_on : (z : Span) → GoesOn (punct Comma z) → ⊥
    not_on z (by_operator q) = nothing_there q

-- nothing that goes on with an expression comes after one
has_stops : (us : List Symbol) (d : Directive) (held : Held) (a : Span) (part : Part) (k : List Open) (ts : List Symbol) → Has Directive (Exact us) d held a part k ts → Stops ts
has_stops us d (elements l es) a part k ts (inl (takes {z = z} {ts = vs} h)) = round_stops z vs
has_stops us d (elements l es) a part k ts (inr (takes {z = z} {ts = vs} h)) = comma_stops z vs
has_stops us d (counted cs) a part k ts (inl (takes {z = z} {ts = vs} h)) = round_stops z vs
has_stops us d (counted cs) a part k ts (inr (takes {z = z} {ts = vs} h)) = comma_stops z vs
has_stops us d (first e) a part k ts (takes {z = z} {ts = vs} h) = comma_stops z vs
has_stops us d (range e f) a part k ts (takes {z = z} {ts = vs} h) = round_stops z vs
has_stops us d (factored e) a part k ts (takes {z = z} {ts = vs} h) = round_stops z vs

-- a whole expression, where one is wanted
letter_has : (us : List Symbol) (d : Directive) (asked : Asked) (a : Span) (part : Part) (k : List Open) (e f : Expr) (ts vs : List Symbol) → e ≡ f → ts ≡ vs → Has Directive (Exact us) d (take asked f) a part k vs → Done us d (having (take asked e) a part k) ts
letter_has us d asked a part k e f ts vs q r h = subst (λ x. Has Directive (Exact us) d (take asked x) a part k ts) (sym q) (subst (Has Directive (Exact us) d (take asked f) a part k) (sym r) h)

pub reach_letter : (ts : List Token) (asked : Asked) (a : Span) (part : Part) (k : List Open) (t : Token) (rest seg : List Token) (u : Token) (more : List Token) (e : Expr) (w : Span)
    → Reaches ts (wanting asked a part k) (t ∷ rest) → wants_letter asked (symbol t) ≡ true → rest ≡ seg ++ u ∷ more → WholeExpr (symbols (t ∷ rest)) (e, w) (symbols (u ∷ more)) → Reaches ts (having (take asked e) a part k) (u ∷ more)
reach_letter ts asked a part k t rest seg u more e w r x q i =
    let all : (vs : List Symbol) → Phrase 0 e w (symbols (t ∷ seg) ++ vs) vs = before_any e w (t ∷ seg) (u ∷ more) (subst (λ y. Phrase 0 e w (symbols (t ∷ y)) (symbols (u ∷ more))) q i.phrase) in
    record {
      before = r.before ++ t ∷ seg;
      parts = r.parts ∙ ap (λ y. r.before ++ t ∷ y) q ∙ sym (append_assoc r.before (t ∷ seg) (u ∷ more));
      from = λ us vs d h. subst (Done us d start) (sym (seam r.before (t ∷ seg) vs)) (r.from us (symbols (t ∷ seg) ++ vs) d (letter_from Directive (Exact us) d asked a part k e w (symbols (t ∷ seg) ++ vs) vs (all vs) h));
      to = λ us d y v others p vs h.
          let same : u ≡ v = (let z : u ∷ more ≡ v ∷ others = p in cc) in
          let g = subst (λ m. Done us d start (symbols r.before ++ (symbols (t ∷ seg) ++ symbol m ∷ vs))) (sym same) (subst (Done us d start) (seam r.before (t ∷ seg) (symbol v ∷ vs)) h) in
          let l = letter_to Directive (Exact us) (bounds us y) d asked a part k (symbol t) (symbols seg ++ symbol u ∷ vs) x (r.to us d y t rest refl (symbols seg ++ symbol u ∷ vs) g) in
          let o = one_expr e l.whole w l.stands (symbols (t ∷ seg) ++ symbol u ∷ vs) (symbol u ∷ vs) l.rest (all (symbol u ∷ vs)) (stops_any (symbol u) (symbols more) vs i.ends) l.phrase (has_stops us d (take asked l.whole) a part k l.rest l.after) in
          subst (λ m. Done us d (having (take asked e) a part k) (symbol m ∷ vs)) same (letter_has us d asked a part k e l.whole (symbol u ∷ vs) l.rest o.0 o.1 l.after);
    }

-- ---- how it ends

spelled : (us : List Symbol) (d : Directive) (ts : List Symbol) → Starts (Exact us d) ts → SpelledDirective d ts us
spelled us d ts h = go h.whole h.left h.phrase h.after
  where
    go : (e : Directive) (vs : List Symbol) → SpelledDirective e ts vs → Exact us d e vs → SpelledDirective d ts us
    go e vs p exactly = p

starts : (us : List Symbol) (d : Directive) (ts : List Symbol) → SpelledDirective d ts us → Starts (Exact us d) ts
starts us d ts h = record { whole = d; left = us; phrase = h; after = exactly }

exact_parts : (us : List Symbol) (p d : Directive) (ts : List Symbol) → Exact us p d ts → (d ≡ p) × (ts ≡ us)
exact_parts us p d ts exactly = (refl, refl)

-- the token ends the whole directive
pub reach_end : (ts : List Token) (s : State) (t : Token) (rest : List Token) (d : Directive) → Reaches ts s (t ∷ rest) → step s (symbol t) ≡ ended d → expects s (symbol t) ≡ false → WholeDirective (symbols ts) d (symbols (t ∷ rest))
reach_end ts s t rest d r q x =
    let us = symbols (t ∷ rest) in
    let p : symbols ts ≡ symbols r.before ++ us = ap symbols r.parts ∙ joined r.before in
    record {
      phrase = spelled us d (symbols ts) (subst (Starts (Exact us d)) (sym p) (r.from us us d (step_from Directive (Exact us) d s (symbol t) (symbols rest) (subst (λ m. Moves Directive (Exact us) d m (symbol t) (symbols rest)) (sym q) exactly))));
      ends = ended_line s d (symbol t) (symbols rest) q;
      only = λ e vs h y. exact_parts vs e d us (subst (λ m. Moves Directive (Exact vs) e m (symbol t) (symbols rest)) q (step_to Directive (Exact vs) (bounds vs y) e s (symbol t) (symbols rest) x (r.to vs e y t rest refl (symbols rest) (subst (Starts (Exact vs e)) p (starts vs e (symbols ts) h)))));
    }
  where
    joined : (before : List Token) → symbols (before ++ t ∷ rest) ≡ symbols before ++ symbols (t ∷ rest)
    joined [] = refl
    joined (y ∷ before) = ap (λ l. symbol y ∷ l) (joined before)

-- the token fits nowhere
pub reach_stuck : (ts : List Token) (s : State) (t : Token) (rest : List Token) → Reaches ts s (t ∷ rest) → step s (symbol t) ≡ stuck → expects s (symbol t) ≡ false → DirectiveFault ts (blamed_as t rest) t.span.start
reach_stuck ts s t rest r q x =
    let c = complete s in
    record {
      before = r.before;
      token = t;
      rest = rest;
      parts = r.parts;
      at_place = refl;
      of_kind = refl;
      tree = c.tree;
      more = c.tokens;
      begins = λ us. spelled us c.tree (symbols (r.before ++ c.tokens) ++ us) (subst (Starts (Exact us c.tree)) (sym (seam r.before c.tokens us)) (r.from us (symbols c.tokens ++ us) c.tree (c.meets us)));
      none = λ e vs us h y. subst (λ m. Moves Directive (Exact us) e m (symbol t) vs) q (step_to Directive (Exact us) (bounds us y) e s (symbol t) vs x (r.to us e y t rest refl vs (starts us e (symbols r.before ++ symbol t ∷ vs) h)));
    }

-- tokens that begin with the token of a fault, or before it
record Begun (t : Token) (before : List Token) (blamed : Token) : Type 0 where
  follow : List Symbol → List Symbol
  is : (vs : List Symbol) → symbols before ++ symbol blamed ∷ vs ≡ symbol t ∷ follow vs

begin_at : (t : Token) (rest before : List Token) (blamed : Token) (after : List Token) → t ∷ rest ≡ before ++ blamed ∷ after → Begun t before blamed
begin_at t rest [] blamed after q =
    let same : blamed ≡ t = (let z : t ∷ rest ≡ blamed ∷ after = q in cc) in
    record { follow = λ vs. vs; is = λ vs. ap (λ y. symbol y ∷ vs) same }
begin_at t rest (x ∷ before) blamed after q =
    let same : x ≡ t = (let z : t ∷ rest ≡ x ∷ (before ++ blamed ∷ after) = q in cc) in
    record { follow = λ vs. symbols before ++ symbol blamed ∷ vs; is = λ vs. ap (λ y. symbol y ∷ (symbols before ++ symbol blamed ∷ vs)) same }

seam_more : (before inner more last : List Token) (us : List Symbol) → symbols ((before ++ inner) ++ (more ++ last)) ++ us ≡ symbols before ++ (symbols (inner ++ more) ++ (symbols last ++ us))
seam_more [] inner more last us = ap (λ l. symbols l ++ us) (sym (append_assoc inner more last)) ∙ seam (inner ++ more) last us
seam_more (x ∷ before) inner more last us = ap (λ l. symbol x ∷ l) (seam_more before inner more last us)

-- an expression is wanted, and none stands there
pub reach_fault : (ts : List Token) (asked : Asked) (a : Span) (part : Part) (k : List Open) (t : Token) (rest : List Token) (kind : ParseKind) (place : ℕ)
    → Reaches ts (wanting asked a part k) (t ∷ rest) → wants_letter asked (symbol t) ≡ true → ExprFault (t ∷ rest) kind place → DirectiveFault ts kind place
reach_fault ts asked a part k t rest kind place r x f =
    let c = complete (having (take asked f.tree.0) a part k) in
    let b = begin_at t rest f.before f.token f.rest f.parts in
    record {
      before = r.before ++ f.before;
      token = f.token;
      rest = f.rest;
      parts = r.parts ∙ ap (λ y. r.before ++ y) f.parts ∙ sym (append_assoc r.before f.before (f.token ∷ f.rest));
      at_place = f.at_place;
      of_kind = f.of_kind;
      tree = c.tree;
      more = f.more ++ c.tokens;
      begins = λ us. spelled us c.tree (symbols ((r.before ++ f.before) ++ (f.more ++ c.tokens)) ++ us) (subst (Starts (Exact us c.tree)) (sym (seam_more r.before f.before f.more c.tokens us))
          (r.from us (symbols (f.before ++ f.more) ++ (symbols c.tokens ++ us)) c.tree (letter_from Directive (Exact us) c.tree asked a part k f.tree.0 f.tree.1 (symbols (f.before ++ f.more) ++ (symbols c.tokens ++ us)) (symbols c.tokens ++ us) (f.begins (symbols c.tokens ++ us)) (c.meets us))));
      none = λ e vs us h y.
          let g = subst (Starts (Exact us e)) (seam r.before f.before (symbol f.token ∷ vs)) (starts us e (symbols (r.before ++ f.before) ++ symbol f.token ∷ vs) h) in
          let l = letter_to Directive (Exact us) (bounds us y) e asked a part k (symbol t) (b.follow vs) x (r.to us e y t rest refl (b.follow vs) (subst (λ z. Starts (Exact us e) (symbols r.before ++ z)) (b.is vs) g)) in
          f.none (l.whole, l.stands) vs l.rest (subst (λ z. Phrase 0 l.whole l.stands z l.rest) (sym (b.is vs)) l.phrase) (has_stops us e (take asked l.whole) a part k l.rest l.after);
    }
