-- From what the automaton keeps to what `read_expr` answers.
use Rattle.std.proofs.Common.{◌≡◌, ℕ, zero, suc, ◌+◌, ◌-◌, ◌<◌, ◌≤◌, Bool, true, false, List, [], ◌∷◌, ◌++◌, length, drop, Option, Some, None, refl, sym, ap, ◌∙◌, subst, arith, lit≤, length-append, length-drop, drop-drop, drop_at}
use Rattle.std.proofs.lemmas.Bool.{leb-true, leb-false}
use Rattle.std.specs.Prelude.{slice_get, nat_le, cond, Ok, Err}
use Rattle.c_tree.specs.declared.tree.Expr as code
use Rattle.c_tree.specs.Placed.{Expr, num, read, item, un, bin, cond as choice, cast, Exprs}
use Rattle.c_tree.specs.PlacedOf.{placed_expr}
use Rattle.c_tree.specs.BareOf.{bare_expr}
use Rattle.c_tree.specs.Forget.{forget_expr}
use Rattle.c_tree.specs.Height.{expr_height}
use Rattle.c_tree.specs.declared.tree.Span.{Span}
use Rattle.c_tree.proofs.Forgotten.Exprs.{bare_expr_is}
use Rattle.c_lexer.specs.declared.token.Token.{Token}
use Rattle.c_lexer.specs.declared.token.TokenKind.TheVariants as kind
use Rattle.pragma_grammar.specs.declared.operand.Operand.{Operand}
use Rattle.pragma_grammar.specs.declared.operand.Operand.TheVariants.{Tree, Deep as TooDeep}
use Rattle.pragma_grammar.specs.declared.reading.Reading.{Reading}
use Rattle.pragma_grammar.specs.declared.reading.Reading.TheVariants.{Whole as Ended, Fault as Faulty}
use Rattle.pragma_grammar.specs.declared.phrase.ParseFault.{ParseFault}
use Rattle.pragma_grammar.specs.declared.phrase.ParseFault.TheVariants.{At}
use Rattle.pragma_grammar.specs.declared.phrase.Phrase.{Phrase}
use Rattle.pragma_grammar.specs.declared.phrase.Phrase.TheVariants.{Whole, Deep}
use Rattle.pragma_grammar.specs.Symbols.{Symbol, symbol, symbols, end, place, spanning}
use Rattle.pragma_grammar.proofs.Terminals.{symbol_place}
use Rattle.pragma_grammar.specs.Machine as machine
use Rattle.pragma_grammar.specs.Machine.{want, opened, half_long, long, typed, access, have, stuck, leads, ended, sign, casts, lhs, round, square, test, other}
use Rattle.pragma_grammar.specs.Trees.{trees, State, Move, step}
use Rattle.pragma_grammar.specs.Deep.{first, too_deep, deep_expr, deep_exprs}
use Rattle.pragma_grammar.specs.Kept.{Kept, kept, deep, KeptList, keeps, kept_or, keep, keep_list}
use Rattle.pragma_grammar.specs.Stands as stands
use Rattle.pragma_grammar.specs.Reading.{blamed_as, IsWhole, IsPhrase, IsExprRead, SpelledExpr, Stops, between, span_or_none}
use Rattle.pragma_grammar.proofs.Maps.{map_state, map_move, step_map}
use Rattle.pragma_grammar.proofs.Keeping.{keeping}
use Rattle.pragma_grammar.proofs.Wholes.{Outcome, after, whole, fault, unfinished, outcome, found, Found, blamed, Blamed}
use Rattle.pragma_grammar.proofs.Places.{spanned, Spanned, last_of, Last, none_ends}

-- ---- what is kept of an outcome

abbrev pub keep_outcome : Outcome → stands.Outcome
keep_outcome (machine.whole e w n) = machine.whole (keep e) w n
keep_outcome (machine.fault n) = machine.fault n
keep_outcome machine.unfinished = machine.unfinished

abbrev keep_state : State → stands.KeptState
keep_state s = map_state Expr Exprs Kept KeptList trees keeps keep keep_list s

abbrev keep_move : Move → stands.KeptMove
keep_move m = map_move Expr Exprs Kept KeptList trees keeps keep keep_list m

after_kept : (m : Move) (n : ℕ) (ts : List Token) → ((s : State) → stands.outcome ts (keep_state s) ≡ keep_outcome (outcome ts s)) → machine.after Kept KeptList keeps (keep_move m) n (stands.outcome ts) ≡ keep_outcome (after m n (outcome ts))
after_kept stuck n ts ih = refl
after_kept (leads s) n ts ih = ih s
after_kept (ended e w) n ts ih = refl

pub outcome_kept : (ts : List Token) (s : State) → stands.outcome ts (keep_state s) ≡ keep_outcome (outcome ts s)
outcome_kept [] s = refl
outcome_kept (t ∷ ts) s =
    ap (λ m. machine.after Kept KeptList keeps m (length (t ∷ ts)) (stands.outcome ts)) (sym (step_map Expr Exprs Kept KeptList trees keeps keep keep_list keeping s (symbol t)))
    ∙ after_kept (step s (symbol t)) (length (t ∷ ts)) ts (outcome_kept ts)

abbrev stands_whole : Kept → Span → ℕ → stands.Outcome
stands_whole k w n = machine.whole k w n

abbrev stands_fault : ℕ → stands.Outcome
stands_fault n = machine.fault n

abbrev stands_unfinished : stands.Outcome
stands_unfinished = machine.unfinished

record KeptWhole (o : Outcome) (k : Kept) (w : Span) (n : ℕ) : Type 0 where
  tree : Expr
  is : o ≡ whole tree w n
  kept_as : keep tree ≡ k

kept_whole : (k : Kept) (w : Span) (n : ℕ) (o : Outcome) → keep_outcome o ≡ machine.whole k w n → KeptWhole o k w n
kept_whole k w n (machine.whole e v m) q =
    let a : keep e ≡ k = (let z : stands_whole (keep e) v m ≡ stands_whole k w n = q in cc) in
    let b : v ≡ w = (let z : stands_whole (keep e) v m ≡ stands_whole k w n = q in cc) in
    let c : m ≡ n = (let z : stands_whole (keep e) v m ≡ stands_whole k w n = q in cc) in
    record { tree = e; is = ap (λ x. whole e x m) b ∙ ap (λ x. whole e w x) c; kept_as = a }
kept_whole k w n (machine.fault m) q = absurd (let z : stands_fault m ≡ stands_whole k w n = q in cc)
kept_whole k w n machine.unfinished q = absurd (let z : stands_unfinished ≡ stands_whole k w n = q in cc)

kept_fault : (n : ℕ) (o : Outcome) → keep_outcome o ≡ machine.fault n → o ≡ fault n
kept_fault n (machine.whole e v m) q = absurd (let z : stands_whole (keep e) v m ≡ stands_fault n = q in cc)
kept_fault n (machine.fault m) q = let c : m ≡ n = (let z : stands_fault m ≡ stands_fault n = q in cc) in ap fault c
kept_fault n machine.unfinished q = absurd (let z : stands_unfinished ≡ stands_fault n = q in cc)

-- ---- heights

last_none : (p q : Option ℕ) → first p q ≡ None → q ≡ None
last_none None q h = h
last_none (Some p) q h = absurd (let z : Some p ≡ None = h in cc)

not_deep_by : (b : Bool) (h start : ℕ) → nat_le 257 h ≡ b → cond b (Some start) None ≡ None → h ≤ 256
not_deep_by true h start q r = absurd (let z : Some start ≡ None = r in cc)
not_deep_by false h start q r = let k = leb-false 257 h q in omega arith

not_deep : (h start : ℕ) → too_deep h start ≡ None → h ≤ 256
not_deep h start q = not_deep_by (nat_le 257 h) h start refl q

-- a tree of which nothing is too deep has a height of at most 256
pub bounded : (e : Expr) → deep_expr e ≡ None → expr_height (forget_expr e) ≤ 256
bounded (num n y s) q = lit≤ tt
bounded (read x s) q = lit≤ tt
bounded (item x es s) q = not_deep (expr_height (forget_expr (item x es s))) s.start (last_none (deep_exprs es) _ q)
bounded (un o e s) q = not_deep (expr_height (forget_expr (un o e s))) s.start (last_none (deep_expr e) _ q)
bounded (bin o e f s) q = not_deep (expr_height (forget_expr (bin o e f s))) s.start (last_none (deep_expr f) _ (last_none (deep_expr e) _ q))
bounded (choice c e f s) q = not_deep (expr_height (forget_expr (choice c e f s))) s.start (last_none (deep_expr f) _ (last_none (deep_expr e) _ (last_none (deep_expr c) _ q)))
bounded (cast y e s) q = not_deep (expr_height (forget_expr (cast y e s))) s.start (last_none (deep_expr e) _ q)

record KeptTree (d : Option ℕ) (h : ℕ) (e : Expr) (g : ℕ) (f : Expr) : Type 0 where
  none : d ≡ None
  height : h ≡ g
  tree : e ≡ f

kept_tree : (d : Option ℕ) (h : ℕ) (e : Expr) (g : ℕ) (f : Expr) → kept_or d h e ≡ kept g f → KeptTree d h e g f
kept_tree None h e g f q = record { none = refl; height = (let z : kept h e ≡ kept g f = q in cc); tree = (let z : kept h e ≡ kept g f = q in cc) }
kept_tree (Some p) h e g f q = absurd (let z : deep p ≡ kept g f = q in cc)

kept_deep : (d : Option ℕ) (h : ℕ) (e : Expr) (p : ℕ) → kept_or d h e ≡ deep p → d ≡ Some p
kept_deep None h e p q = absurd (let z : kept h e ≡ deep p = q in cc)
kept_deep (Some r) h e p q = ap Some (let z : deep r ≡ deep p = q in cc)

-- ---- from a list of tokens to its indices

drop_pair : {X : Type 0} (xs : List X) (m n : ℕ) (before rest : List X) → drop m xs ≡ before ++ rest → n ≡ m + length before → drop n xs ≡ rest
drop_pair xs m n before rest q e =
    ap (λ i. drop i xs) e ∙ sym (drop-drop (length before) m xs) ∙ ap (drop (length before)) q ∙ drop_at before rest (length before) refl

get_drop : {X : Type 0} (xs : List X) (m i : ℕ) → slice_get (drop m xs) i ≡ slice_get xs (m + i)
get_drop xs zero i = ap (slice_get xs) (omega arith)
get_drop [] (suc m) i = refl
get_drop (x ∷ xs) (suc m) i = get_drop xs m i ∙ ap (slice_get (x ∷ xs)) (let e : suc (m + i) ≡ suc m + i = omega arith in e)

-- ---- the whole expression

first_same : {s t : Symbol} {ss ts : List Symbol} → s ∷ ss ≡ t ∷ ts → s ≡ t
first_same q = cc

abbrev pub pair : Expr → Span → Expr × Span
pair e w = (e, w)

pub pair_same : (e f : Expr) (v w : Span) → e ≡ f → v ≡ w → pair e v ≡ pair f w
pair_same e f v w p q = ap (λ x. pair x v) p ∙ ap (λ x. pair f x) q

-- where the tokens of a phrase begin and end
record Standing (tokens : List Token) (at next : ℕ) (w : Span) : Type 0 where
  forward : at < next
  is : w ≡ between tokens at next

standing : (tokens : List Token) (at next : ℕ) (w : Span) (before : List Token) (token : Token) (rest : List Token) → drop at tokens ≡ before ++ token ∷ rest → next ≡ at + length before → Spanned w (symbols (drop at tokens)) (symbols (token ∷ rest)) → Standing tokens at next w
standing tokens at next w [] token rest q e s =
    let p : symbols (drop at tokens) ≡ symbols (token ∷ rest) = ap symbols q in
    absurd (none_ends s.last (symbols (drop at tokens)) (symbols (token ∷ rest)) p s.ends)
standing tokens at next w (t ∷ before) token rest q e s =
    let all = t ∷ before ++ token ∷ rest in
    let p : symbols (drop at tokens) ≡ symbols all = ap symbols q in
    let l = last_of s.last t before (token ∷ rest) (symbols (drop at tokens)) (symbols (token ∷ rest)) p refl s.ends in
    let i : next - 1 ≡ at + (length (t ∷ before) - 1) = omega arith in
    let last : slice_get tokens (next - 1) ≡ Some l.token = ap (slice_get tokens) i ∙ sym (get_drop tokens at (length (t ∷ before) - 1)) ∙ ap (λ z. slice_get z (length (t ∷ before) - 1)) q ∙ l.got in
    let j : at ≡ at + 0 = omega arith in
    let head : slice_get tokens at ≡ Some t = ap (slice_get tokens) j ∙ sym (get_drop tokens at 0) ∙ ap (λ z. slice_get z 0) q in
    let f : place s.first ≡ t.span = (let z : s.first ∷ s.more ≡ symbol t ∷ symbols (before ++ token ∷ rest) = sym s.parts ∙ p in ap place (first_same z)) ∙ symbol_place t in
    record {
      forward = omega arith;
      is = s.is ∙ ap (λ x. spanning x s.last) f ∙ ap (λ x. spanning t.span x) l.stands ∙ ap (λ x. spanning (span_or_none x) l.token.span) (sym head) ∙ ap (λ x. spanning (span_or_none (slice_get tokens at)) (span_or_none x)) (sym last);
    }

-- what the automaton over the trees finds at an index
record Here (tokens : List Token) (at next : ℕ) (e : Expr) : Type 0 where
  phrase : IsPhrase (Expr × Span) SpelledExpr Stops tokens at (e, between tokens at next) next

here : (tokens : List Token) (at next : ℕ) (e : Expr) (w : Span) → at ≤ next → next < length tokens → outcome (drop at tokens) (want []) ≡ whole e w (length tokens - next) → Here tokens at next e
here tokens at next e w l m q =
    let f = found e w (length tokens - next) (drop at tokens) q in
    let n : length (drop at tokens) ≡ length tokens - at = length-drop at tokens in
    let o : length (f.before ++ f.token ∷ f.rest) ≡ length tokens - at = sym (ap length f.parts) ∙ n in
    let c = f.counted in
    let k = length-append f.before (f.token ∷ f.rest) in
    let e1 : next ≡ at + length f.before = omega arith in
    let s = standing tokens at next w f.before f.token f.rest f.parts e1 (spanned f.phrase) in
    let r : drop next tokens ≡ f.token ∷ f.rest = drop_pair tokens at next f.before (f.token ∷ f.rest) f.parts e1 in
    let whole_here : IsWhole (Expr × Span) SpelledExpr Stops (symbols (drop at tokens)) (e, w) (symbols (f.token ∷ f.rest)) = record { phrase = f.phrase; ends = f.stops; only = λ p us h z. let o = f.only p.0 p.1 us h z in (pair_same e p.0 w p.1 o.0 o.1, o.2) } in
    record { phrase = record { forward = s.forward; within = m; whole = subst (λ x. IsWhole (Expr × Span) SpelledExpr Stops (symbols (drop at tokens)) (e, x) (symbols (drop next tokens))) s.is (subst (λ x. IsWhole (Expr × Span) SpelledExpr Stops (symbols (drop at tokens)) (e, w) (symbols x)) (sym r) whole_here) } }

-- ---- the answers

pub tree_answer : (tokens : List Token) (at next : ℕ) (tree : code.Expr) (height : ℕ) (w : Span) → at ≤ next → next < length tokens → machine.whole (kept height (placed_expr tree)) w (length tokens - next) ≡ stands.outcome (drop at tokens) (want []) → IsExprRead tokens at (Ok (Whole tree height next))
tree_answer tokens at next tree height w l m q =
    let o = kept_whole (kept height (placed_expr tree)) w (length tokens - next) (outcome (drop at tokens) (want [])) (sym (outcome_kept (drop at tokens) (want [])) ∙ sym q) in
    let k = kept_tree (deep_expr o.tree) (expr_height (forget_expr o.tree)) o.tree height (placed_expr tree) o.kept_as in
    let h = here tokens at next o.tree w l m o.is in
    let e : expr_height (forget_expr o.tree) ≡ expr_height (bare_expr tree) = ap (λ x. expr_height (forget_expr x)) k.tree ∙ ap expr_height (sym (bare_expr_is tree)) in
    let b = bounded o.tree k.none in
    let i = k.height in
    (subst (λ x. IsPhrase (Expr × Span) SpelledExpr Stops tokens at (x, between tokens at next) next) k.tree h.phrase, sym i ∙ e, omega arith)

pub deep_answer : (tokens : List Token) (at next : ℕ) (place : ℕ) (w : Span) → at ≤ next → next < length tokens → machine.whole (deep place) w (length tokens - next) ≡ stands.outcome (drop at tokens) (want []) → IsExprRead tokens at (Ok (Deep place next))
deep_answer tokens at next place w l m q =
    let o = kept_whole (deep place) w (length tokens - next) (outcome (drop at tokens) (want [])) (sym (outcome_kept (drop at tokens) (want [])) ∙ sym q) in
    let h = here tokens at next o.tree w l m o.is in
    (o.tree, h.phrase, kept_deep (deep_expr o.tree) (expr_height (forget_expr o.tree)) o.tree place o.kept_as)

pub fault_answer : (tokens : List Token) (at fault_at : ℕ) (answer : ParseFault) → at ≤ fault_at → fault_at < length tokens → machine.fault (length tokens - fault_at) ≡ stands.outcome (drop at tokens) (want []) → ((t : Token) → slice_get tokens fault_at ≡ Some t → answer ≡ At (blamed_as t (drop (fault_at + 1) tokens)) t.span.start) → IsExprRead tokens at (Err answer)
fault_answer tokens at i answer l m q f =
    let b = blamed (length tokens - i) (drop at tokens) (kept_fault (length tokens - i) (outcome (drop at tokens) (want [])) (sym (outcome_kept (drop at tokens) (want [])) ∙ sym q)) in
    let n : length (drop at tokens) ≡ length tokens - at = length-drop at tokens in
    let o : length (b.before ++ b.token ∷ b.rest) ≡ length tokens - at = sym (ap length b.parts) ∙ n in
    let c = b.counted in
    let k = length-append b.before (b.token ∷ b.rest) in
    let e : i ≡ at + length b.before = omega arith in
    let d : drop i tokens ≡ b.token ∷ b.rest = drop_pair tokens at i b.before (b.token ∷ b.rest) b.parts e in
    let got : slice_get tokens i ≡ Some b.token = ap (slice_get tokens) (let z : i ≡ i + 0 = omega arith in z) ∙ sym (get_drop tokens i 0) ∙ ap (λ z. slice_get z 0) d in
    let rest : drop (i + 1) tokens ≡ b.rest = sym (drop-drop 1 i tokens) ∙ ap (drop 1) d in
    let made : IsExprRead tokens at (Err (At (blamed_as b.token b.rest) b.token.span.start)) =
    record {
      before = b.before;
      token = b.token;
      rest = b.rest;
      parts = b.parts;
      at_place = refl;
      of_kind = refl;
      tree = (b.tree, b.stands);
      more = b.more;
      begins = b.begins;
      none = λ p vs us h z. b.none p.0 p.1 vs us h z;
    } in
    subst (λ x. IsExprRead tokens at (Err x)) (sym (f b.token got ∙ ap (λ x. At (blamed_as b.token x) b.token.span.start) rest)) made

whole_of : (tokens : List Token) (at next : ℕ) (operand : Operand) (w : Span) → at ≤ next → next < length tokens → machine.whole (stands.kept_of operand) w (length tokens - next) ≡ stands.outcome (drop at tokens) (want []) → IsExprRead tokens at (Ok (stands.phrase_of operand next))
whole_of tokens at next (Tree tree height) w l m q = tree_answer tokens at next tree height w l m q
whole_of tokens at next (TooDeep place) w l m q = deep_answer tokens at next place w l m q

pub whole_answer : (tokens : List Token) (at next : ℕ) (r : Reading) (operand : Operand) (w : Span) (p : Phrase code.Expr) → stands.read_as r (length tokens) ≡ stands.outcome (drop at tokens) (want []) → stands.Within r at (length tokens) → r ≡ Ended operand w next → p ≡ stands.phrase_of operand next → IsExprRead tokens at (Ok p)
whole_answer tokens at next r operand w p q b e f =
    let c = subst (λ z. stands.Within z at (length tokens)) e b in
    subst (λ z. IsExprRead tokens at (Ok z)) (sym f) (whole_of tokens at next operand w c.0 c.1 (subst (λ z. stands.read_as z (length tokens) ≡ stands.outcome (drop at tokens) (want [])) e q))

pub blamed_answer : (tokens : List Token) (at i : ℕ) (r : Reading) (answer : ParseFault) → stands.read_as r (length tokens) ≡ stands.outcome (drop at tokens) (want []) → stands.Within r at (length tokens) → r ≡ Faulty i → ((t : Token) → slice_get tokens i ≡ Some t → answer ≡ At (blamed_as t (drop (i + 1) tokens)) t.span.start) → IsExprRead tokens at (Err answer)
blamed_answer tokens at i r answer q b e f =
    let c = subst (λ z. stands.Within z at (length tokens)) e b in
    fault_answer tokens at i answer c.0 c.1 (subst (λ z. stands.read_as z (length tokens) ≡ stands.outcome (drop at tokens) (want [])) e q) f
