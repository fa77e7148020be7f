-- The tokens that were read lead to a goal: they begin a program, and what completes the goal, with the same token first,
-- is what completes them. So a token that fits nowhere is blamed exactly.
use Rattle.std.proofs.Common.{◌≡◌, ℕ, List, [], ◌∷◌, ◌++◌, refl, sym, ap, ◌∙◌, subst, append_assoc}
use Rattle.std.proofs.lemmas.List.{append-nil}
use Rattle.c_tree.specs.Placed.{Expr, Program}
use Rattle.c_tree.specs.declared.tree.Span.{Span}
use Rattle.c_lexer.specs.declared.token.Token.{Token}
use Rattle.pragma_grammar.specs.declared.phrase.ParseKind.{ParseKind}
use Rattle.pragma_grammar.specs.Symbols.{Symbol, symbol, symbols}
use Rattle.pragma_grammar.specs.Expressions.{Phrase}
use Rattle.pragma_grammar.specs.Reading.{blamed_as, IsWhole, IsFault, Stops, SpelledExpr}
use Rattle.c_grammar.specs.Programs.{Started, tops_of, SpellsSymbols, spells, SpellsItems, Spells}
use Rattle.c_grammar.specs.Reading.{Begins, Blame}
use Rattle.c_grammar.specs.Goals as gl
use Rattle.c_grammar.specs.Goals.{Goal, takes, the_line_end, stopping, Move, stuck, leads, reads, directs, accepts}
use Rattle.c_grammar.proofs.Meaning.{TopsRead, tops_read, Ends, ends_here, AllRead, all_is_read, Stopping, stopping_at, ExprReads, expr_reads, Meets, Moves}
use Rattle.c_grammar.proofs.Steps.{step_to, step_from}
use Rattle.c_grammar.proofs.Completions.{complete}
use Rattle.c_grammar.proofs.Letters.{symbols_append, one_expr, expr_any, stops_any}

-- ---- a program is what completes the first goal

pub program_to : (items : List Started) (ts : List Symbol) → SpellsSymbols items ts → Meets items gl.program_goal ts
program_to items ts (spells h) = tops_read h ends_here

program_of : {p : List Started} {ts : List Symbol} → TopsRead (λ items us. Ends p items us) ts → SpellsSymbols p ts
program_of (tops_read h ends_here) = spells h

pub program_from : (items : List Started) (ts : List Symbol) → Meets items gl.program_goal ts → SpellsSymbols items ts
program_from items ts h = program_of h

-- ---- what was read

pub record Reached (ts : List Token) (x : Goal) (rest : List Token) : Type 0 where
  pub before : List Token
  pub parts : ts ≡ before ++ rest
  pub begins : Begins before
  pub from : (p : List Started) (t : Token) (more : List Token) → rest ≡ t ∷ more → (vs : List Symbol) → Meets p x (symbol t ∷ vs) → Meets p gl.program_goal (symbols before ++ symbol t ∷ vs)
  pub to : (p : List Started) (t : Token) (more : List Token) → rest ≡ t ∷ more → (vs : List Symbol) → Meets p gl.program_goal (symbols before ++ symbol t ∷ vs) → Meets p x (symbol t ∷ vs)

seam : (before seg : List Token) (vs : List Symbol) → symbols (before ++ seg) ++ vs ≡ symbols before ++ (symbols seg ++ vs)
seam [] seg vs = refl
seam (x ∷ before) seg vs = ap (λ l. symbol x ∷ l) (seam before seg vs)

spelled : (items : List Started) (xs ys : List Token) → Meets items gl.program_goal (symbols xs ++ symbols ys) → SpellsItems items (xs ++ ys)
spelled items xs ys h = program_from items (symbols (xs ++ ys)) (subst (Meets items gl.program_goal) (sym (symbols_append xs ys)) h)

unspelled : (program : Program) (xs : List Token) (t : Token) (more : List Token) → (s : Spells program (xs ++ t ∷ more)) → Meets s.items gl.program_goal (symbols xs ++ symbol t ∷ symbols more)
unspelled program xs t more s = subst (Meets s.items gl.program_goal) (symbols_append xs (t ∷ more)) (program_to s.items (symbols (xs ++ t ∷ more)) s.spelled)

program_spelled : (items : List Started) (xs ys : List Token) → Meets items gl.program_goal (symbols xs ++ symbols ys) → Begins xs
program_spelled items xs ys h = record { program = tops_of items; more = ys; spells = record { items = items; spelled = spelled items xs ys h; same = refl } }

-- ---- one token

pub reach_start : (ts : List Token) → Reached ts gl.program_goal ts
reach_start ts =
    let c = complete gl.program_goal in
    record { before = []; parts = refl; begins = program_spelled c.program [] c.tokens c.meets; from = λ p t more q vs h. h; to = λ p t more q vs h. h }

-- a token that leads on
pub reach_step : (ts : List Token) (x y : Goal) (t : Token) (rest : List Token) → Reached ts x (t ∷ rest) → gl.step x (symbol t) ≡ leads y → Reached ts y rest
reach_step ts x y t rest r q =
    let back : (p : List Started) (vs : List Symbol) → Meets p y vs → Meets p gl.program_goal (symbols (r.before ++ t ∷ []) ++ vs) =
    (λ p vs h. subst (Meets p gl.program_goal) (sym (seam r.before (t ∷ []) vs)) (r.from p t rest refl vs (step_from p x (symbol t) vs (subst (λ m. Moves p m (symbol t) vs) (sym q) h)))) in
    let c = complete y in
    record {
      before = r.before ++ t ∷ [];
      parts = r.parts ∙ sym (append_assoc r.before (t ∷ []) rest);
      begins = program_spelled c.program (r.before ++ t ∷ []) c.tokens (back c.program (symbols c.tokens) c.meets);
      from = λ p u more e vs h. back p (symbol u ∷ vs) h;
      to = λ p u more e vs h. subst (λ m. Moves p m (symbol t) (symbol u ∷ vs)) q (step_to p x (symbol t) (symbol u ∷ vs) (r.to p t rest refl (symbol u ∷ vs) (subst (Meets p gl.program_goal) (seam r.before (t ∷ []) (symbol u ∷ vs)) h)));
    }

-- a goal at which the token does the same
pub reach_alike : (ts : List Token) (x y : Goal) (t : Token) (rest : List Token) → Reached ts x (t ∷ rest) → gl.step x (symbol t) ≡ gl.step y (symbol t) → Reached ts y (t ∷ rest)
reach_alike ts x y t rest r q =
    record {
      before = r.before;
      parts = r.parts;
      begins = r.begins;
      from = λ p u more e vs h.
          let same : t ≡ u = (let z : t ∷ rest ≡ u ∷ more = e in cc) in
          let g = step_to p y (symbol t) vs (subst (λ z. Meets p y (symbol z ∷ vs)) (sym same) h) in
          subst (λ z. Meets p gl.program_goal (symbols r.before ++ symbol z ∷ vs)) same (r.from p t rest refl vs (step_from p x (symbol t) vs (subst (λ m. Moves p m (symbol t) vs) (sym q) g)));
      to = λ p u more e vs h.
          let same : t ≡ u = (let z : t ∷ rest ≡ u ∷ more = e in cc) in
          let g = r.to p t rest refl vs (subst (λ z. Meets p gl.program_goal (symbols r.before ++ symbol z ∷ vs)) (sym same) h) in
          subst (λ z. Meets p y (symbol z ∷ vs)) same (step_from p y (symbol t) vs (subst (λ m. Moves p m (symbol t) vs) q (step_to p x (symbol t) vs g)));
    }

-- ---- how it ends

-- the token fits nowhere
pub reach_stuck : (ts : List Token) (x : Goal) (t : Token) (rest : List Token) → Reached ts x (t ∷ rest) → gl.step x (symbol t) ≡ stuck → Blame ts (blamed_as t rest) t.span.start
reach_stuck ts x t rest r q =
    record {
      before = r.before;
      token = t;
      rest = rest;
      parts = r.parts;
      at_place = refl;
      of_kind = refl;
      begins = r.begins;
      none = λ program more s. subst (λ m. Moves s.items m (symbol t) (symbols more)) q (step_to s.items x (symbol t) (symbols more) (r.to s.items t rest refl (symbols more) (unspelled program r.before t more s)));
    }

-- the token is the last one
last_read : {p q : List Started} {ts : List Symbol} → AllRead p q ts → p ≡ q
last_read all_is_read = refl

pub reach_end : (ts : List Token) (x : Goal) (t : Token) (items : List Started) → Reached ts x (t ∷ []) → gl.step x (symbol t) ≡ accepts items → SpellsItems items ts
reach_end ts x t items r q =
    subst (λ l. SpellsItems items l) (sym r.parts) (spelled items r.before (t ∷ []) (r.from items t [] refl [] (step_from items x (symbol t) [] (subst (λ m. Moves items m (symbol t) []) (sym q) all_is_read))))

pub reach_only : (ts : List Token) (x : Goal) (t : Token) (items others : List Started) → Reached ts x (t ∷ []) → gl.step x (symbol t) ≡ accepts items → SpellsItems others ts → others ≡ items
reach_only ts x t items others r q s =
    last_read (subst (λ m. Moves others m (symbol t) []) q (step_to others x (symbol t) [] (r.to others t [] refl [] (subst (Meets others gl.program_goal) (symbols_append r.before (t ∷ [])) (program_to others (symbols (r.before ++ t ∷ [])) (subst (λ l. SpellsItems others l) r.parts s))))))

-- a token stands after what ends the program
no_more : {p q : List Started} {t : Symbol} {ts : List Symbol} → AllRead p q (t ∷ ts) → ⊥
no_more h = none_left h refl
  where
    none_left : {p q : List Started} {us : List Symbol} {t : Symbol} {ts : List Symbol} → AllRead p q us → us ≡ t ∷ ts → ⊥
    none_left {t = t} {ts = ts} all_is_read e = absurd (let z : [] ≡ t ∷ ts = e in cc)

pub reach_past : (ts : List Token) (x : Goal) (t u : Token) (rest : List Token) (items : List Started) → Reached ts x (t ∷ u ∷ rest) → gl.step x (symbol t) ≡ accepts items → Blame ts (blamed_as u rest) u.span.start
reach_past ts x t u rest items r q =
    record {
      before = r.before ++ t ∷ [];
      token = u;
      rest = rest;
      parts = r.parts ∙ sym (append_assoc r.before (t ∷ []) (u ∷ rest));
      at_place = refl;
      of_kind = refl;
      begins = program_spelled items (r.before ++ t ∷ []) [] (subst (Meets items gl.program_goal) (sym (seam r.before (t ∷ []) [])) (r.from items t (u ∷ rest) refl [] (step_from items x (symbol t) [] (subst (λ m. Moves items m (symbol t) []) (sym q) all_is_read))));
      none = λ program more s. no_more (subst (λ m. Moves s.items m (symbol t) (symbol u ∷ symbols more)) q (step_to s.items x (symbol t) (symbol u ∷ symbols more) (r.to s.items t (u ∷ rest) refl (symbol u ∷ symbols more)
          (subst (Meets s.items gl.program_goal) (seam r.before (t ∷ []) (symbol u ∷ symbols more)) (unspelled program (r.before ++ t ∷ []) u more s)))));
    }

-- ---- expressions and directives in one step

-- tokens that begin with the token of a fault, or before it
record Begun (t : Token) (before : List Token) (blamed : Token) : Type 0 where
  follow : List Symbol → List Symbol
  is : (vs : List Symbol) → symbols before ++ symbol blamed ∷ vs ≡ symbol t ∷ follow vs

begin_at : (t : Token) (rest before : List Token) (blamed : Token) (after : List Token) → t ∷ rest ≡ before ++ blamed ∷ after → Begun t before blamed
begin_at t rest [] blamed after q =
    let same : blamed ≡ t = (let z : t ∷ rest ≡ blamed ∷ after = q in cc) in
    record { follow = λ vs. vs; is = λ vs. ap (λ y. symbol y ∷ vs) same }
begin_at t rest (x ∷ before) blamed after q =
    let same : x ≡ t = (let z : t ∷ rest ≡ x ∷ (before ++ blamed ∷ after) = q in cc) in
    record { follow = λ vs. symbols before ++ symbol blamed ∷ vs; is = λ vs. ap (λ y. symbol y ∷ (symbols before ++ symbol blamed ∷ vs)) same }

seam_more : (before inner more last : List Token) → symbols before ++ (symbols (inner ++ more) ++ symbols last) ≡ symbols (before ++ inner) ++ symbols (more ++ last)
seam_more before inner more last =
    ap (λ z. symbols before ++ z) (sym (symbols_append (inner ++ more) last) ∙ ap symbols (append_assoc inner more last) ∙ symbols_append inner (more ++ last)) ∙ sym (seam before inner (symbols (more ++ last)))

module _ (T : Type 0) (Spelled : T → List Symbol → List Symbol → Type 0) (Ends : List Symbol → Type 0)
    (one : (e f : T) (ts us vs : List Symbol) → Spelled e ts us → Ends us → Spelled f ts vs → Ends vs → (e ≡ f) × (us ≡ vs))
    (any : (e : T) (xs ys : List Token) → Spelled e (symbols (xs ++ ys)) (symbols ys) → (vs : List Symbol) → Spelled e (symbols xs ++ vs) vs)
    (ends_any : (t : Symbol) (ts us : List Symbol) → Ends (t ∷ ts) → Ends (t ∷ us)) where
  pub record Reads (after : T → Goal) (p : List Started) (ts : List Symbol) : Type 0 where
    pub tree : T
    pub left : List Symbol
    pub phrase : Spelled tree ts left
    pub ends : Ends left
    pub meets : Meets p (after tree) left

  -- a phrase is wanted, and the goal after it is then `after`
  pub record Letter (x : Goal) (t : Symbol) (after : T → Goal) : Type 0 where
    pub from : (p : List Started) (ts us : List Symbol) (e : T) → Spelled e (t ∷ ts) us → Meets p (after e) us → Meets p x (t ∷ ts)
    pub to : (p : List Started) (ts : List Symbol) → Meets p x (t ∷ ts) → Reads after p (t ∷ ts)

  pub reach_letter : (ts : List Token) (x : Goal) (after : T → Goal) (t : Token) (rest seg : List Token) (u : Token) (more : List Token) (e : T)
      → Reached ts x (t ∷ rest) → Letter x (symbol t) after → rest ≡ seg ++ u ∷ more → IsWhole T Spelled Ends (symbols (t ∷ rest)) e (symbols (u ∷ more)) → Reached ts (after e) (u ∷ more)
  reach_letter ts x after t rest seg u more e r x' q i =
      let all : (vs : List Symbol) → Spelled e (symbols (t ∷ seg) ++ vs) vs = any e (t ∷ seg) (u ∷ more) (subst (λ y. Spelled e (symbols (t ∷ y)) (symbols (u ∷ more))) q i.phrase) in
      let back : (p : List Started) (vs : List Symbol) → Meets p (after e) vs → Meets p gl.program_goal (symbols (r.before ++ t ∷ seg) ++ vs) =
      (λ p vs h. subst (Meets p gl.program_goal) (sym (seam r.before (t ∷ seg) vs)) (r.from p t rest refl (symbols seg ++ vs) (x'.from p (symbols seg ++ vs) vs e (all vs) h))) in
      let c = complete (after e) in
      record {
        before = r.before ++ t ∷ seg;
        parts = r.parts ∙ ap (λ y. r.before ++ t ∷ y) q ∙ sym (append_assoc r.before (t ∷ seg) (u ∷ more));
        begins = program_spelled c.program (r.before ++ t ∷ seg) c.tokens (back c.program (symbols c.tokens) c.meets);
        from = λ p v others o vs h. back p (symbol v ∷ vs) h;
        to = λ p v others o vs h.
            let same : u ≡ v = (let z : u ∷ more ≡ v ∷ others = o in cc) in
            let g = subst (λ m. Meets p gl.program_goal (symbols r.before ++ (symbols (t ∷ seg) ++ symbol m ∷ vs))) (sym same) (subst (Meets p gl.program_goal) (seam r.before (t ∷ seg) (symbol v ∷ vs)) h) in
            let l = x'.to p (symbols seg ++ symbol u ∷ vs) (r.to p t rest refl (symbols seg ++ symbol u ∷ vs) g) in
            let o = one e l.tree (symbols (t ∷ seg) ++ symbol u ∷ vs) (symbol u ∷ vs) l.left (all (symbol u ∷ vs)) (ends_any (symbol u) (symbols more) vs i.ends) l.phrase l.ends in
            subst (λ m. Meets p (after e) (symbol m ∷ vs)) same (subst (λ z. Meets p (after z) (symbol u ∷ vs)) (sym o.0) (subst (λ z. Meets p (after l.tree) z) (sym o.1) l.meets));
      }

  -- what was read before the token of a fault begins a program
  fault_begins : (ts : List Token) (x : Goal) (after : T → Goal) (t : Token) (rest : List Token) (r : Reached ts x (t ∷ rest)) → Letter x (symbol t) after → (e : T) (before : List Token) (blamed : Token) (others more : List Token) → t ∷ rest ≡ before ++ blamed ∷ others → ((us : List Symbol) → Spelled e (symbols (before ++ more) ++ us) us) → Begins (r.before ++ before)
  fault_begins ts x after t rest r x' e [] blamed others more q h =
      subst Begins (sym (append-nil r.before)) r.begins
  fault_begins ts x after t rest r x' e (y ∷ before) blamed others more q h =
      let same : t ≡ y = (let z : t ∷ rest ≡ y ∷ (before ++ blamed ∷ others) = q in cc) in
      let c = complete (after e) in
      let us = symbols (before ++ more) ++ symbols c.tokens in
      let first : Spelled e (symbol t ∷ us) (symbols c.tokens) = subst (λ z. Spelled e (symbol z ∷ us) (symbols c.tokens)) (sym same) (h (symbols c.tokens)) in
      let m = r.from c.program t rest refl us (x'.from c.program us (symbols c.tokens) e first c.meets) in
      program_spelled c.program (r.before ++ y ∷ before) (more ++ c.tokens) (subst (Meets c.program gl.program_goal) (seam_more r.before (y ∷ before) more c.tokens) (subst (λ z. Meets c.program gl.program_goal (symbols r.before ++ symbol z ∷ us)) same m))

  pub reach_fault : (ts : List Token) (x : Goal) (after : T → Goal) (t : Token) (rest : List Token) (kind : ParseKind) (place : ℕ)
      → Reached ts x (t ∷ rest) → Letter x (symbol t) after → IsFault T Spelled Ends (t ∷ rest) kind place → Blame ts kind place
  reach_fault ts x after t rest kind place r x' f =
      let b = begin_at t rest f.before f.token f.rest f.parts in
      record {
        before = r.before ++ f.before;
        token = f.token;
        rest = f.rest;
        parts = r.parts ∙ ap (λ y. r.before ++ y) f.parts ∙ sym (append_assoc r.before f.before (f.token ∷ f.rest));
        at_place = f.at_place;
        of_kind = f.of_kind;
        begins = fault_begins ts x after t rest r x' f.tree f.before f.token f.rest f.more f.parts f.begins;
        none = λ program more s.
            let g = subst (Meets s.items gl.program_goal) (seam r.before f.before (symbol f.token ∷ symbols more)) (unspelled program (r.before ++ f.before) f.token more s) in
            let l = x'.to s.items (b.follow (symbols more)) (r.to s.items t rest refl (b.follow (symbols more)) (subst (λ z. Meets s.items gl.program_goal (symbols r.before ++ z)) (b.is (symbols more)) g)) in
            f.none l.tree (symbols more) l.left (subst (λ z. Spelled l.tree z l.left) (sym (b.is (symbols more))) l.phrase) l.ends;
      }

-- ---- an expression

abbrev pub after_expr : (Expr → Span → Goal) → Expr × Span → Goal
after_expr f e = stopping (f e.0 e.1)

abbrev pub ExprLetter : Goal → Symbol → (Expr × Span → Goal) → Type 0
ExprLetter x t after = Letter (Expr × Span) SpelledExpr Stops one_expr expr_any stops_any x t after

expr_from : (p : List Started) (x : Goal) (t : Symbol) (f : Expr → Span → Goal) → gl.step x t ≡ reads f → (ts us : List Symbol) (e : Expr) (w : Span) → Phrase 0 e w (t ∷ ts) us → Stopping (λ vs. Meets p (f e w) vs) us → Meets p x (t ∷ ts)
expr_from p x t f q ts us e w h (stopping_at n k) = step_from p x t ts (subst (λ m. Moves p m t ts) (sym q) (expr_reads h n k))

expr_to : (p : List Started) (f : Expr → Span → Goal) (ts : List Symbol) → ExprReads (λ e w us. Meets p (f e w) us) ts → Reads (Expr × Span) SpelledExpr Stops one_expr expr_any stops_any (after_expr f) p ts
expr_to p f ts (expr_reads {e = e} {w = w} {us = us} h n k) = record { tree = (e, w); left = us; phrase = h; ends = n; meets = stopping_at n k }

pub expr_letter : (x : Goal) (t : Symbol) (f : Expr → Span → Goal) → gl.step x t ≡ reads f → ExprLetter x t (after_expr f)
expr_letter x t f q = record { from = λ p ts us e h m. expr_from p x t f q ts us e.0 e.1 h m; to = λ p ts h. expr_to p f (t ∷ ts) (subst (λ m. Moves p m t ts) q (step_to p x t ts h)) }

-- a whole expression was read
pub reach_expr : (ts : List Token) (x : Goal) (f : Expr → Span → Goal) (t : Token) (rest seg : List Token) (u : Token) (more : List Token) (e : Expr × Span)
    → Reached ts x (t ∷ rest) → gl.step x (symbol t) ≡ reads f → rest ≡ seg ++ u ∷ more → IsWhole (Expr × Span) SpelledExpr Stops (symbols (t ∷ rest)) e (symbols (u ∷ more)) → Reached ts (after_expr f e) (u ∷ more)
reach_expr ts x f t rest seg u more e r q = reach_letter (Expr × Span) SpelledExpr Stops one_expr expr_any stops_any ts x (after_expr f) t rest seg u more e r (expr_letter x (symbol t) f q)

-- or none stands there
pub reach_expr_fault : (ts : List Token) (x : Goal) (f : Expr → Span → Goal) (t : Token) (rest : List Token) (kind : ParseKind) (place : ℕ) → Reached ts x (t ∷ rest) → gl.step x (symbol t) ≡ reads f → IsFault (Expr × Span) SpelledExpr Stops (t ∷ rest) kind place → Blame ts kind place
reach_expr_fault ts x f t rest kind place r q = reach_fault (Expr × Span) SpelledExpr Stops one_expr expr_any stops_any ts x (after_expr f) t rest kind place r (expr_letter x (symbol t) f q)
