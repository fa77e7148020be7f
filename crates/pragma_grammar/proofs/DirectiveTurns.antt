-- One turn of the reader of directives: what it has read still begins a directive, or it answers.
use Rattle.std.proofs.Common.{◌≡◌, ◌⊎◌, ℕ, zero, suc, ◌+◌, ◌<◌, ◌≤◌, Bool, true, false, List, [], ◌∷◌, length, drop, Option, Some, None, refl, sym, ap, ◌∙◌, subst, arith, inl, inr}
use Rattle.std.specs.Prelude.{slice_get, get_or, Ok, Err}
use Rattle.c_tree.specs.Placed.{Directive}
use Rattle.c_tree.specs.declared.tree.Kind.{Kind}
use Rattle.c_tree.specs.declared.tree.Span.{Span}
use Rattle.c_tree.specs.declared.tree.Expr as code_expr
use Rattle.c_tree.specs.declared.tree.Directive as code_directive
use Rattle.c_lexer.specs.declared.token.Token.{Token}
use Rattle.pragma_grammar.specs.declared.phrase.Phrase.{Phrase}
use Rattle.pragma_grammar.specs.declared.phrase.Phrase.TheVariants.{Whole, Deep}
use Rattle.pragma_grammar.specs.declared.phrase.ParseFault.{ParseFault}
use Rattle.pragma_grammar.specs.declared.phrase.ParseFault.TheVariants.{At, Memory}
use Rattle.pragma_grammar.specs.declared.directive_kept.Kept as code
use Rattle.pragma_grammar.specs.declared.directive_kept.Kept.TheVariants as c
use Rattle.pragma_grammar.specs.declared.directive_state.Held.{Held}
use Rattle.pragma_grammar.specs.declared.directive_state.Mark.{Mark}
use Rattle.pragma_grammar.specs.declared.directive_state.State.{State}
use Rattle.pragma_grammar.specs.declared.directive_state.Move.{Move}
use Rattle.pragma_grammar.specs.declared.directive_state.Move.TheVariants as v
use Rattle.pragma_grammar.specs.declared.directive_state.Asked.{Asked}
use Rattle.pragma_grammar.specs.declared.directive_state.Part.{Part}
use Rattle.pragma_grammar.specs.declared.directive.Turn.{Turn}
use Rattle.pragma_grammar.specs.declared.directive.Turn.TheVariants.{Letter, Token as Itself}
use Rattle.c_tree.specs.Bare.{Name}
use Rattle.pragma_grammar.specs.Symbols.{Symbol, symbol, name}
use Rattle.pragma_grammar.specs.Words.{kind_of}
use Rattle.pragma_grammar.specs.Reading.{EndsText, IsExprRead, IsDirectiveRead, blamed_as}
use Rattle.pragma_grammar.specs.DirectiveMachine as machine
use Rattle.pragma_grammar.specs.DirectiveMachine.{start, clauses, comma, opening, partial, apply_word, wanting, having, indexed, applying, first_name, item, item_read, stuck, leads, ended}
use Rattle.pragma_grammar.specs.DirectiveKept.{Kept, kept, deep, keeps}
use Rattle.pragma_grammar.specs.DirectiveStands.{KeptPart, KeptOpen, KeptState, KeptMove, part_of, asked_of, held_of, directive_of, stands, came, mark_of, word_of, marked, seen, step}
use Rattle.pragma_grammar.specs.DirectiveTurns.{TakesTurn, kept_expr, next_of, IsLetterRead, phrase_of}
use Rattle.pragma_grammar.proofs.DirectiveSeen.{letter_seen}
use Rattle.pragma_grammar.proofs.DirectiveRuns.{Running, run_start, run_step, run_stuck, run_tree, run_deep}
use Rattle.pragma_grammar.proofs.DirectiveExprs.{run_tree_letter, run_deep_letter, run_fault}

-- the reader has come to a token, past the first one or at the start
abbrev pub Come : List Token → ℕ → KeptState → ℕ → Type 0
Come tokens at s next = Running tokens at s next × ((at < next) ⊎ (s ≡ start))

pub come_first : (tokens : List Token) (at : ℕ) → at < length tokens → Come tokens at start at
come_first tokens at l = (run_start tokens at l, inr refl)

-- the token at an index within
pub got_at : (xs : List Token) (n : ℕ) (t : Token) → n < length xs → t ≡ get_or xs n t → slice_get xs n ≡ Some t
got_at [] n t l q = absurd (omega arith)
got_at (x ∷ xs) zero t l q = ap (λ y. Some y) (sym q)
got_at (x ∷ xs) (suc n) t l q = got_at xs n t (let z : suc n < suc (length xs) = l in omega arith) q

expects_seen : (s : KeptState) (t : Token) → machine.expects keeps s (symbol t) ≡ machine.expects keeps s (seen t)
expects_seen (wanting asked a p k) t = letter_seen asked t
expects_seen start t = refl
expects_seen (clauses p z k) t = refl
expects_seen (comma p) t = refl
expects_seen (opening asked a p k) t = refl
expects_seen (partial a p k) t = refl
expects_seen (apply_word a p k) t = refl
expects_seen (having held a p k) t = refl
expects_seen (indexed m es a p k) t = refl
expects_seen (applying a p k) t = refl
expects_seen (first_name x c a p k) t = refl
expects_seen (item o k) t = refl
expects_seen (item_read o k) t = refl

-- ---- the start never ends a directive

abbrev NotEnded : KeptMove → Type 0
NotEnded (ended d) = ⊥
NotEnded m = Unit {0}

begin_not : (o : Option Kind) (a : Span) (k : List KeptOpen) → NotEnded (machine.begin_directive keeps o a k)
begin_not None a k = tt
begin_not (Some d) a k = tt

start_not : (t : Symbol) → NotEnded (machine.start_step keeps t)
start_not (name x a) = begin_not (kind_of x) a []
start_not t = tt

past : (at next : ℕ) (s : KeptState) (t : Symbol) (d : Kept Directive) → (at < next) ⊎ (s ≡ start) → ended d ≡ step s t → at < next
past at next s t d (inl l) q = l
past at next s t d (inr h) q = absurd (subst NotEnded (sym (q ∙ ap (λ z. step z t) h)) (start_not t))

-- ---- a token that is read for itself

pub turn_leads : (tokens : List Token) (at next : ℕ) (s s' : KeptState) (t : Token) → EndsText tokens → Come tokens at s next → slice_get tokens next ≡ Some t → machine.expects keeps s (seen t) ≡ false → leads s' ≡ step s (seen t) → Come tokens at s' (next + 1)
turn_leads tokens at next s s' t z r g x q =
    let f = r.0.forward in
    (run_step tokens at next s s' t z r.0 g (expects_seen s t ∙ x) q, inl (omega arith))

pub turn_stuck : (tokens : List Token) (at next : ℕ) (s : KeptState) (t : Token) (fault : ParseFault) → Come tokens at s next → slice_get tokens next ≡ Some t → machine.expects keeps s (seen t) ≡ false → stuck ≡ step s (seen t) → fault ≡ At (blamed_as t (drop (next + 1) tokens)) t.span.start → IsDirectiveRead tokens at (Err fault)
turn_stuck tokens at next s t fault r g x q b = subst (λ f. IsDirectiveRead tokens at (Err f)) (sym b) (run_stuck tokens at next s t r.0 g (expects_seen s t ∙ x) q)

pub turn_ended : (tokens : List Token) (at next : ℕ) (s : KeptState) (t : Token) (d : code.Kept code_directive.Directive) (p : Phrase code_directive.Directive) → Come tokens at s next → slice_get tokens next ≡ Some t → machine.expects keeps s (seen t) ≡ false → ended (directive_of d) ≡ step s (seen t) → p ≡ phrase_of d next → IsDirectiveRead tokens at (Ok p)
turn_ended tokens at next s t (c.Whole tree height) p r g x q b =
    subst (λ y. IsDirectiveRead tokens at (Ok y)) (sym b) (run_tree tokens at next s t tree height r.0 (past at next s (seen t) (directive_of (c.Whole tree height)) r.1 q) g (expects_seen s t ∙ x) q)
turn_ended tokens at next s t (c.Deep place) p r g x q b =
    subst (λ y. IsDirectiveRead tokens at (Ok y)) (sym b) (run_deep tokens at next s t place r.0 (past at next s (seen t) (directive_of (c.Deep place)) r.1 q) g (expects_seen s t ∙ x) q)

-- ---- an expression

letter_come : (tokens : List Token) (at next : ℕ) (asked : machine.Asked keeps) (a : Span) (part : KeptPart) (k : List KeptOpen) (t : Token) (p : Phrase code_expr.Expr)
    → Running tokens at (wanting asked a part k) next → slice_get tokens next ≡ Some t → machine.wants_letter keeps asked (symbol t) ≡ true → IsExprRead tokens next (Ok p) → Come tokens at (having (machine.take keeps asked (kept_expr p)) a part k) (next_of p)
letter_come tokens at next asked a part k t (Whole tree height after) r g x i =
    let f = r.forward in
    let l = i.0.forward in
    (run_tree_letter tokens at next after asked a part k t tree height r g x i, inl (omega arith))
letter_come tokens at next asked a part k t (Deep place after) r g x i =
    let f = r.forward in
    let l = i.1.forward in
    (run_deep_letter tokens at next after asked a part k t place r g x i, inl (omega arith))

letter_past : (tokens : List Token) (next : ℕ) (p : Phrase code_expr.Expr) → IsExprRead tokens next (Ok p) → next < next_of p
letter_past tokens next (Whole tree height after) i = i.0.forward
letter_past tokens next (Deep place after) i = i.1.forward

pub turn_letter : (tokens : List Token) (at next : ℕ) (s : KeptState) (asked : machine.Asked keeps) (a : Span) (part : KeptPart) (k : List KeptOpen) (t : Token) (r : Held × ℕ) → Come tokens at s next → slice_get tokens next ≡ Some t → s ≡ wanting asked a part k → machine.wants_letter keeps asked (seen t) ≡ true → IsLetterRead tokens next asked (Ok r) → Come tokens at (having (held_of r.0) a part k) r.1
turn_letter tokens at next s asked a part k t r come g w x i =
    let here : Running tokens at (wanting asked a part k) next = subst (λ z. Running tokens at z next) w come.0 in
    let z = letter_come tokens at next asked a part k t i.0 here g (letter_seen asked t ∙ x) i.1 in
    subst (λ n. Come tokens at (having (held_of r.0) a part k) n) (sym i.3) (subst (λ h. Come tokens at (having h a part k) (next_of i.0)) (sym i.2) z)

pub letter_onward : (tokens : List Token) (next : ℕ) (asked : machine.Asked keeps) (r : Held × ℕ) → IsLetterRead tokens next asked (Ok r) → next < r.1
letter_onward tokens next asked r i = subst (λ n. next < n) (sym i.3) (letter_past tokens next i.0 i.1)

pub turn_fault : (tokens : List Token) (at next : ℕ) (s : KeptState) (asked : machine.Asked keeps) (a : Span) (part : KeptPart) (k : List KeptOpen) (t : Token) (fault : ParseFault) → Come tokens at s next → slice_get tokens next ≡ Some t → s ≡ wanting asked a part k → machine.wants_letter keeps asked (seen t) ≡ true → IsLetterRead tokens next asked (Err fault) → IsDirectiveRead tokens at (Err fault)
turn_fault tokens at next s asked a part k t (At kind place) come g w x i =
    run_fault tokens at next asked a part k t kind place (subst (λ z. Running tokens at z next) w come.0) g (letter_seen asked t ∙ x) i
turn_fault tokens at next s asked a part k t Memory come g w x i = tt

-- ---- the turn that was taken

abbrev Took : Turn → State → Mark → Type 0
Took r state m = (x : Name) (place : Span) (k : List KeptOpen) → TakesTurn r (stands state k) (marked m x place) k

took_seen : (state : State) (k : List KeptOpen) (t : Token) (m : Mark) (r r' : Turn) → m ≡ mark_of (symbol t) → Took r state m → r ≡ r' → TakesTurn r' (stands state k) (seen t) k
took_seen state k t m r r' e h q = subst (λ y. TakesTurn y (stands state k) (seen t) k) q (subst (λ z. TakesTurn r (stands state k) (marked z (word_of t) t.span) k) e (h (word_of t) t.span k))

moved : (state here : State) (k k' : List KeptOpen) (t : Token) (m : Mark) (x : Name) (a b : Move) → stands state k ≡ stands here k → m ≡ mark_of (symbol t) → x ≡ word_of t → came a k' ≡ step (stands here k) (marked m x t.span) → a ≡ b → came b k' ≡ step (stands state k) (seen t)
moved state here k k' t m x a b w e f h q =
    sym (ap (λ y. came y k') q) ∙ h ∙ ap (λ z. step (stands here k) (marked z x t.span)) e ∙ ap (λ z. step (stands here k) (marked (mark_of (symbol t)) z t.span)) f ∙ ap (λ y. step y (seen t)) (sym w)

pub leads_answer : (tokens : List Token) (at next : ℕ) (state here to : State) (k k' : List KeptOpen) (t : Token) (m n : Mark) (x : Name) (r : Turn) (a : Move) → EndsText tokens → Come tokens at (stands state k) next → slice_get tokens next ≡ Some t → m ≡ mark_of (symbol t) → Took r state m → r ≡ Itself here → n ≡ mark_of (symbol t) → x ≡ word_of t → came a k' ≡ step (stands here k) (marked n x t.span) → a ≡ v.Leads to → Come tokens at (stands to k') (next + 1)
leads_answer tokens at next state here to k k' t m n x r a z c g e h q e' f i j =
    let w = took_seen state k t m r (Itself here) e h q in
    turn_leads tokens at next (stands state k) (stands to k') t z c g w.1 (moved state here k k' t n x a (v.Leads to) w.0 e' f i j)

pub stuck_answer : (tokens : List Token) (at next : ℕ) (state here : State) (k k' : List KeptOpen) (t : Token) (m n : Mark) (x : Name) (r : Turn) (a : Move) (fault : ParseFault) → Come tokens at (stands state k) next → slice_get tokens next ≡ Some t → m ≡ mark_of (symbol t) → Took r state m → r ≡ Itself here → n ≡ mark_of (symbol t) → x ≡ word_of t → came a k' ≡ step (stands here k) (marked n x t.span) → a ≡ v.Stuck → ((t : Token) → slice_get tokens next ≡ Some t → fault ≡ At (blamed_as t (drop (next + 1) tokens)) t.span.start) → IsDirectiveRead tokens at (Err fault)
stuck_answer tokens at next state here k k' t m n x r a fault c g e h q e' f i j b =
    let w = took_seen state k t m r (Itself here) e h q in
    turn_stuck tokens at next (stands state k) t fault c g w.1 (moved state here k k' t n x a v.Stuck w.0 e' f i j) (b t g)

pub ended_answer : (tokens : List Token) (at next : ℕ) (state here : State) (k k' : List KeptOpen) (t : Token) (m n : Mark) (x : Name) (r : Turn) (a : Move) (d : code.Kept code_directive.Directive) (p : Phrase code_directive.Directive) → Come tokens at (stands state k) next → slice_get tokens next ≡ Some t → m ≡ mark_of (symbol t) → Took r state m → r ≡ Itself here → n ≡ mark_of (symbol t) → x ≡ word_of t → came a k' ≡ step (stands here k) (marked n x t.span) → a ≡ v.Ended d → p ≡ phrase_of d next → IsDirectiveRead tokens at (Ok p)
ended_answer tokens at next state here k k' t m n x r a d p c g e h q e' f i j b =
    let w = took_seen state k t m r (Itself here) e h q in
    turn_ended tokens at next (stands state k) t d p c g w.1 (moved state here k k' t n x a (v.Ended d) w.0 e' f i j) b

pub letter_answer : (tokens : List Token) (at next : ℕ) (state : State) (asked : Asked) (a : Span) (part : Part) (k : List KeptOpen) (t : Token) (m : Mark) (r : Turn) (l : Held × ℕ) → Come tokens at (stands state k) next → slice_get tokens next ≡ Some t → m ≡ mark_of (symbol t) → Took r state m → r ≡ Letter asked a part → IsLetterRead tokens next (asked_of asked) (Ok l) → Come tokens at (having (held_of l.0) a (part_of part) k) l.1
letter_answer tokens at next state asked a part k t m r l c g e h q i =
    let w = took_seen state k t m r (Letter asked a part) e h q in
    turn_letter tokens at next (stands state k) (asked_of asked) a (part_of part) k t l c g w.0 w.1 i

pub fault_answer : (tokens : List Token) (at next : ℕ) (state : State) (asked : Asked) (a : Span) (part : Part) (k : List KeptOpen) (t : Token) (m : Mark) (r : Turn) (fault : ParseFault) → Come tokens at (stands state k) next → slice_get tokens next ≡ Some t → m ≡ mark_of (symbol t) → Took r state m → r ≡ Letter asked a part → IsLetterRead tokens next (asked_of asked) (Err fault) → IsDirectiveRead tokens at (Err fault)
fault_answer tokens at next state asked a part k t m r fault c g e h q i =
    let w = took_seen state k t m r (Letter asked a part) e h q in
    turn_fault tokens at next (stands state k) (asked_of asked) a (part_of part) k t fault c g w.0 w.1 i
