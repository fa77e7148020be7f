-- From what a reader keeps of a directive to what `read_directive` answers.
use Rattle.std.proofs.Common.{◌≡◌, ℕ, zero, suc, ◌+◌, ◌-◌, ◌<◌, ◌≤◌, Bool, true, false, List, [], ◌∷◌, ◌++◌, length, drop, Option, Some, None, refl, sym, ap, ◌∙◌, subst, arith, length-append, length-drop, drop-drop, drop_at}
use Rattle.std.specs.Prelude.{slice_get, Ok, Err}
use Rattle.c_tree.specs.Bare.{Name}
use Rattle.c_tree.specs.Placed.{Expr, Exprs, Directive}
use Rattle.c_tree.specs.PlacedOf.{placed_expr, placed_directive}
use Rattle.c_tree.specs.BareOf.{bare_expr, bare_directive}
use Rattle.c_tree.specs.Forget.{forget_expr, forget_directive}
use Rattle.c_tree.specs.Height.{expr_height, directive_height}
use Rattle.c_tree.specs.declared.tree.Span.{Span}
use Rattle.c_tree.specs.declared.tree.Expr as code_expr
use Rattle.c_tree.specs.declared.tree.Directive as code_directive
use Rattle.c_tree.proofs.Forgotten.Exprs.{bare_expr_is}
use Rattle.c_tree.proofs.Forgotten.Directives.{bare_directive_is}
use Rattle.c_lexer.specs.declared.token.Token.{Token}
use Rattle.c_lexer.specs.declared.token.TokenKind.{TokenKind}
use Rattle.c_lexer.specs.declared.token.TokenKind.TheVariants as kind
use Rattle.pragma_grammar.specs.declared.phrase.ParseKind.{ParseKind}
use Rattle.pragma_grammar.specs.declared.phrase.ParseFault.{ParseFault}
use Rattle.pragma_grammar.specs.declared.phrase.ParseFault.TheVariants.{At}
use Rattle.pragma_grammar.specs.declared.phrase.Phrase.TheVariants.{Whole, Deep}
use Rattle.c_lexer.specs.declared.words.Keyword.TheVariants.{OmpFill}
use Rattle.pragma_grammar.specs.Symbols.{Symbol, symbol, symbol_of, symbols, end, keyword}
use Rattle.pragma_grammar.specs.Words.{kind_of, is_nothing}
use Rattle.pragma_grammar.specs.Deep.{deep_expr, deep_directive}
use Rattle.pragma_grammar.specs.Reading.{EndsText, blamed_as, IsWhole, IsPhrase, IsExprRead, IsDirectiveRead, WholeExpr, ExprFault, SpelledExpr, SpelledDirective, Stops, EndsLine, DirectiveFault, between}
use Rattle.pragma_grammar.specs.DirectiveMachine as machine
use Rattle.pragma_grammar.specs.DirectiveMachine.{start, clauses, comma, opening, partial, apply_word, wanting, having, indexed, applying, first_name, item, item_read, stuck, leads, ended}
use Rattle.pragma_grammar.specs.DirectiveTrees as tree
use Rattle.pragma_grammar.specs.DirectiveKept.{Kept, kept, deep, keeps, kept_or, keep_expr, keep_directive}
use Rattle.pragma_grammar.specs.DirectiveStands.{KeptPart, KeptOpen, KeptState, KeptMove, seen, step}
use Rattle.pragma_grammar.proofs.DirectiveKeeping.{bounded, kept_whole, kept_deep}
use Rattle.pragma_grammar.proofs.DirectiveMaps.{keep_part, keep_opens, keep_asked, keep_held, keep_state, keep_move, step_kept, take_kept}
use Rattle.pragma_grammar.proofs.DirectiveSeen.{step_seen, letter_seen}
use Rattle.pragma_grammar.proofs.DirectiveReached.{Reaches, reach_start, reach_step, reach_letter, reach_end, reach_stuck, reach_fault}

-- the reader has come to a token, and a tree's state stands behind what it keeps
pub record Running (tokens : List Token) (at : ℕ) (s : KeptState) (next : ℕ) : Type 0 where
  pub state : tree.State
  pub is : keep_state state ≡ s
  pub reaches : Reaches (drop at tokens) state (drop next tokens)
  pub forward : at ≤ next
  pub within : next < length tokens

pub run_start : (tokens : List Token) (at : ℕ) → at < length tokens → Running tokens at start at
run_start tokens at l = record { state = start; is = refl; reaches = reach_start (drop at tokens); forward = omega arith; within = l }

-- the token at an index, with those after it
pub split_at : (xs : List Token) (n : ℕ) (t : Token) → slice_get xs n ≡ Some t → drop n xs ≡ t ∷ drop (n + 1) xs
split_at [] n t q = absurd (let z : None ≡ Some t = q in cc)
split_at (x ∷ xs) zero t q = ap (λ y. y ∷ xs) (let z : Some x ≡ Some t = q in some_same x t z)
  where
    some_same : (x t : Token) → Some x ≡ Some t → x ≡ t
    some_same x t q = cc
split_at (x ∷ xs) (suc n) t q = split_at xs n t q ∙ ap (λ i. t ∷ drop i (x ∷ xs)) (let e : suc (n + 1) ≡ suc n + 1 = omega arith in e)

-- ---- End leads nowhere

abbrev Still : KeptMove → Type 0
Still (leads s) = ⊥
Still m = Unit {0}

name_still : (m : KeptMove) (a : Span) → Still (machine.after_name keeps m (end a))
name_still (leads (clauses p z k)) a = tt
name_still (leads (item_read o k)) a = tt
name_still m a = tt

want_still : (asked : machine.Asked keeps) (b : Span) (p : KeptPart) (k : List KeptOpen) (a : Span) → Still (machine.want_step keeps asked b p k (end a))
want_still (machine.count cs) b p k a = tt
want_still asked b p k a = tt

have_still : (held : machine.Held keeps) (b : Span) (p : KeptPart) (k : List KeptOpen) (a : Span) → Still (machine.have_step keeps held b p k (end a))
have_still (machine.elements l es) b p k a = tt
have_still (machine.counted cs) b p k a = tt
have_still (machine.first e) b p k a = tt
have_still (machine.range e f) b p k a = tt
have_still (machine.factored e) b p k a = tt

step_still : (s : KeptState) (a : Span) → Still (step s (end a))
step_still start a = tt
step_still (clauses p z k) a = tt
step_still (comma p) a = tt
step_still (opening asked b p k) a = tt
step_still (partial b p k) a = tt
step_still (apply_word b p k) a = tt
step_still (wanting asked b p k) a = want_still asked b p k a
step_still (having held b p k) a = have_still held b p k a
step_still (indexed m es b p k) a = tt
step_still (applying b p k) a = tt
step_still (first_name x c b p k) a = name_still (machine.named_item keeps (is_nothing x) (kind_of x) c (machine.new_open keeps b p None keeps.no_exprs) k) a
step_still (item o k) a = tt
step_still (item_read o k) a = tt

last_ends : (ts : List Token) (n : ℕ) (t : Token) → EndsText ts → slice_get ts n ≡ Some t → n + 1 ≡ length ts → t.kind ≡ kind.End
last_ends [] n t h q e = absurd h
last_ends (x ∷ []) zero t h q e = (let z : Some x ≡ Some t = q in same x t z h)
  where
    same : (x t : Token) → Some x ≡ Some t → x.kind ≡ kind.End → t.kind ≡ kind.End
    same x t q h = subst (λ y. y.kind ≡ kind.End) (let e : x ≡ t = cc in e) h
last_ends (x ∷ []) (suc n) t h q e = absurd (let z : suc n + 1 ≡ 1 = e in omega arith)
last_ends (x ∷ y ∷ ts) zero t h q e = absurd (let z : 0 + 1 ≡ suc (suc (length ts)) = e in omega arith)
last_ends (x ∷ y ∷ ts) (suc n) t h q e = last_ends (y ∷ ts) n t h q (let z : suc n + 1 ≡ suc (suc (length ts)) = e in omega arith)

still_not : (s : KeptState) (s' : KeptState) (t : Token) → t.kind ≡ kind.End → step s (symbol t) ≡ leads s' → ⊥
still_not s s' t k q = subst Still q (subst (λ x. Still (step s (symbol_of x t.span))) (sym k) (step_still s t.span))

-- ---- moves of what is kept are moves of trees

abbrev kept_stuck : KeptMove
kept_stuck = stuck

abbrev kept_leads : KeptState → KeptMove
kept_leads s = leads s

abbrev kept_ended : Kept Directive → KeptMove
kept_ended d = ended d

stuck_leads : (s : KeptState) → kept_stuck ≡ kept_leads s → ⊥
stuck_leads s q = cc

stuck_ended : (d : Kept Directive) → kept_stuck ≡ kept_ended d → ⊥
stuck_ended d q = cc

leads_ended : (s : KeptState) (d : Kept Directive) → kept_leads s ≡ kept_ended d → ⊥
leads_ended s d q = cc

same_state : (a b : KeptState) → kept_leads a ≡ kept_leads b → a ≡ b
same_state a b q = cc

same_directive : (a b : Kept Directive) → kept_ended a ≡ kept_ended b → a ≡ b
same_directive a b q = cc

record Led (m : tree.Move) (s : KeptState) : Type 0 where
  to : tree.State
  moves : m ≡ leads to
  is : keep_state to ≡ s

led : (m : tree.Move) (s : KeptState) → keep_move m ≡ leads s → Led m s
led stuck s q = absurd (stuck_leads s q)
led (leads to) s q = record { to = to; moves = refl; is = same_state (keep_state to) s q }
led (ended d) s q = absurd (leads_ended s (keep_directive d) (sym q))

is_stuck : (m : tree.Move) → keep_move m ≡ stuck → m ≡ stuck
is_stuck stuck q = refl
is_stuck (leads to) q = absurd (stuck_leads (keep_state to) (sym q))
is_stuck (ended d) q = absurd (stuck_ended (keep_directive d) (sym q))

record Over (m : tree.Move) (k : Kept Directive) : Type 0 where
  whole : Directive
  moves : m ≡ ended whole
  is : keep_directive whole ≡ k

over : (m : tree.Move) (k : Kept Directive) → keep_move m ≡ ended k → Over m k
over stuck k q = absurd (stuck_ended k q)
over (leads to) k q = absurd (leads_ended (keep_state to) k q)
over (ended d) k q = record { whole = d; moves = refl; is = same_directive (keep_directive d) k q }

letter_same : (asked : tree.Asked) (t : Symbol) → machine.wants_letter keeps (keep_asked asked) t ≡ tree.wants_letter asked t
letter_same (machine.element l es) t = refl
letter_same (machine.count cs) (keyword OmpFill z) = refl
letter_same (machine.count cs) t = refl
letter_same machine.range_first t = refl
letter_same (machine.range_count e) t = refl
letter_same machine.factor t = refl

expects_same : (s : tree.State) (t : Symbol) → machine.expects keeps (keep_state s) t ≡ tree.expects s t
expects_same (wanting asked a p k) t = letter_same asked t
expects_same start t = refl
expects_same (clauses p z k) t = refl
expects_same (comma p) t = refl
expects_same (opening asked a p k) t = refl
expects_same (partial a p k) t = refl
expects_same (apply_word a p k) t = refl
expects_same (having held a p k) t = refl
expects_same (indexed m es a p k) t = refl
expects_same (applying a p k) t = refl
expects_same (first_name x c a p k) t = refl
expects_same (item o k) t = refl
expects_same (item_read o k) t = refl

-- the step that the code takes is the tree's
tree_step : (tokens : List Token) (at next : ℕ) (s : KeptState) (t : Token) (r : Running tokens at s next) → keep_move (tree.step r.state (symbol t)) ≡ step s (seen t)
tree_step tokens at next s t r = step_kept r.state (symbol t) ∙ ap (λ x. step x (symbol t)) r.is ∙ step_seen s t

pub tree_expects : (tokens : List Token) (at next : ℕ) (s : KeptState) (t : Token) (r : Running tokens at s next) (b : Bool) → machine.expects keeps s (symbol t) ≡ b → tree.expects r.state (symbol t) ≡ b
tree_expects tokens at next s t r b q = sym (expects_same r.state (symbol t)) ∙ ap (λ x. machine.expects keeps x (symbol t)) r.is ∙ q

pub reaches_at : (tokens : List Token) (at next : ℕ) (s : KeptState) (t : Token) (r : Running tokens at s next) → slice_get tokens next ≡ Some t → Reaches (drop at tokens) r.state (t ∷ drop (next + 1) tokens)
reaches_at tokens at next s t r g = subst (Reaches (drop at tokens) r.state) (split_at tokens next t g) r.reaches

-- a token that leads on isn't the last one
pub run_step : (tokens : List Token) (at next : ℕ) (s s' : KeptState) (t : Token) → EndsText tokens → Running tokens at s next → slice_get tokens next ≡ Some t → machine.expects keeps s (symbol t) ≡ false → leads s' ≡ step s (seen t) → Running tokens at s' (next + 1)
run_step tokens at next s s' t z r g x q =
    let m = led (tree.step r.state (symbol t)) s' (tree_step tokens at next s t r ∙ sym q) in
    let w = r.within in
    let f = r.forward in
    let n : next + 1 ≡ length tokens → ⊥ = (λ e. still_not s s' t (last_ends tokens next t z g e) (step_seen s t ∙ sym q)) in
    record {
      state = m.to;
      is = m.is;
      reaches = reach_step (drop at tokens) r.state m.to t (drop (next + 1) tokens) (reaches_at tokens at next s t r g) m.moves (tree_expects tokens at next s t r false x);
      forward = omega arith;
      within = omega arith;
    }

pub run_stuck : (tokens : List Token) (at next : ℕ) (s : KeptState) (t : Token) → Running tokens at s next → slice_get tokens next ≡ Some t → machine.expects keeps s (symbol t) ≡ false → stuck ≡ step s (seen t) → IsDirectiveRead tokens at (Err (At (blamed_as t (drop (next + 1) tokens)) t.span.start))
run_stuck tokens at next s t r g x q =
    reach_stuck (drop at tokens) r.state t (drop (next + 1) tokens) (reaches_at tokens at next s t r g) (is_stuck (tree.step r.state (symbol t)) (tree_step tokens at next s t r ∙ sym q)) (tree_expects tokens at next s t r false x)

-- the whole directive
record Ended (tokens : List Token) (at next : ℕ) (k : Kept Directive) : Type 0 where
  whole : Directive
  is : keep_directive whole ≡ k
  phrase : IsPhrase Directive SpelledDirective EndsLine tokens at whole next

run_whole : (tokens : List Token) (at next : ℕ) (s : KeptState) (t : Token) (k : Kept Directive) → Running tokens at s next → at < next → slice_get tokens next ≡ Some t → machine.expects keeps s (symbol t) ≡ false → ended k ≡ step s (seen t) → Ended tokens at next k
run_whole tokens at next s t k r l g x q =
    let m = over (tree.step r.state (symbol t)) k (tree_step tokens at next s t r ∙ sym q) in
    record {
      whole = m.whole;
      is = m.is;
      phrase = record {
        forward = l;
        within = r.within;
        whole = subst (λ y. IsWhole Directive SpelledDirective EndsLine (symbols (drop at tokens)) m.whole (symbols y)) (sym (split_at tokens next t g)) (reach_end (drop at tokens) r.state t (drop (next + 1) tokens) m.whole (reaches_at tokens at next s t r g) m.moves (tree_expects tokens at next s t r false x));
      };
    }

pub run_tree : (tokens : List Token) (at next : ℕ) (s : KeptState) (t : Token) (d : code_directive.Directive) (h : ℕ) → Running tokens at s next → at < next → slice_get tokens next ≡ Some t → machine.expects keeps s (symbol t) ≡ false → ended (kept h (placed_directive d)) ≡ step s (seen t) → IsDirectiveRead tokens at (Ok (Whole d h next))
run_tree tokens at next s t d h r l g x q =
    let e = run_whole tokens at next s t (kept h (placed_directive d)) r l g x q in
    let k = kept_whole (deep_directive e.whole) (directive_height (forget_directive e.whole)) e.whole h (placed_directive d) e.is in
    let b = bounded e.whole k.none in
    let i = k.height in
    let j : directive_height (forget_directive e.whole) ≡ directive_height (bare_directive d) = ap (λ y. directive_height (forget_directive y)) k.tree ∙ ap directive_height (sym (bare_directive_is d)) in
    (subst (λ y. IsPhrase Directive SpelledDirective EndsLine tokens at y next) k.tree e.phrase, sym i ∙ j, omega arith)

pub run_deep : (tokens : List Token) (at next : ℕ) (s : KeptState) (t : Token) (p : ℕ) → Running tokens at s next → at < next → slice_get tokens next ≡ Some t → machine.expects keeps s (symbol t) ≡ false → ended (deep p) ≡ step s (seen t) → IsDirectiveRead tokens at (Ok (Deep p next))
run_deep tokens at next s t p r l g x q =
    let e = run_whole tokens at next s t (deep p) r l g x q in
    (e.whole, e.phrase, kept_deep (deep_directive e.whole) (directive_height (forget_directive e.whole)) e.whole p e.is)
