-- Where an expression is wanted, what `read_expr` answers leads on, or is the directive's own fault.
use Rattle.std.proofs.Common.{◌≡◌, ℕ, zero, suc, ◌+◌, ◌-◌, ◌<◌, ◌≤◌, Bool, true, List, [], ◌∷◌, ◌++◌, length, drop, take, Option, Some, None, refl, sym, ap, ◌∙◌, subst, arith, drop-drop}
use Rattle.std.proofs.lemmas.List.{take-append-drop}
use Rattle.std.specs.Prelude.{slice_get, Ok, Err}
use Rattle.c_tree.specs.Placed.{Expr}
use Rattle.c_tree.specs.PlacedOf.{placed_expr}
use Rattle.c_tree.specs.BareOf.{bare_expr}
use Rattle.c_tree.specs.Forget.{forget_expr}
use Rattle.c_tree.specs.Height.{expr_height}
use Rattle.c_tree.specs.declared.tree.Span.{Span}
use Rattle.c_tree.specs.declared.tree.Expr as code_expr
use Rattle.c_tree.proofs.Forgotten.Exprs.{bare_expr_is}
use Rattle.c_lexer.specs.declared.token.Token.{Token}
use Rattle.pragma_grammar.specs.declared.phrase.ParseKind.{ParseKind}
use Rattle.pragma_grammar.specs.declared.phrase.ParseFault.TheVariants.{At}
use Rattle.pragma_grammar.specs.declared.phrase.Phrase.TheVariants.{Whole, Deep}
use Rattle.pragma_grammar.specs.Symbols.{symbol, symbols}
use Rattle.pragma_grammar.specs.Deep.{deep_expr}
use Rattle.pragma_grammar.specs.Reading.{IsWhole, IsPhrase, IsExprRead, IsDirectiveRead, WholeExpr, ExprFault, SpelledExpr, Stops, between}
use Rattle.pragma_grammar.specs.DirectiveMachine as machine
use Rattle.pragma_grammar.specs.DirectiveMachine.{start, clauses, comma, opening, partial, apply_word, wanting, having, indexed, applying, first_name, item, item_read}
use Rattle.pragma_grammar.specs.DirectiveTrees as tree
use Rattle.pragma_grammar.specs.DirectiveKept.{Kept, kept, deep, keeps, kept_or, keep_expr}
use Rattle.pragma_grammar.specs.DirectiveStands.{KeptPart, KeptOpen, KeptState}
use Rattle.pragma_grammar.proofs.OneTree.{deep_where_above}
use Rattle.pragma_grammar.proofs.DirectiveMaps.{keep_part, keep_opens, keep_asked, keep_state, take_kept}
use Rattle.pragma_grammar.proofs.DirectiveReached.{Reaches, reach_letter, reach_fault}
use Rattle.pragma_grammar.proofs.DirectiveRuns.{Running, reaches_at, tree_expects, split_at}

record Wanted (s : tree.State) (asked : machine.Asked keeps) (a : Span) (part : KeptPart) (k : List KeptOpen) : Type 0 where
  its_asked : tree.Asked
  its_part : tree.Part
  its_opens : List tree.Open
  is : s ≡ wanting its_asked a its_part its_opens
  same_asked : keep_asked its_asked ≡ asked
  same_part : keep_part its_part ≡ part
  same_opens : keep_opens its_opens ≡ k

abbrev IsWanting : KeptState → Type 0
IsWanting (wanting asked a p k) = Unit {0}
IsWanting s = ⊥

same_first : (x y : machine.Asked keeps) (a b : Span) (p q : KeptPart) (k m : List KeptOpen) → wanting x a p k ≡ wanting y b q m → x ≡ y
same_first x y a b p q k m h = cc

same_second : (x y : machine.Asked keeps) (a b : Span) (p q : KeptPart) (k m : List KeptOpen) → wanting x a p k ≡ wanting y b q m → a ≡ b
same_second x y a b p q k m h = cc

same_third : (x y : machine.Asked keeps) (a b : Span) (p q : KeptPart) (k m : List KeptOpen) → wanting x a p k ≡ wanting y b q m → p ≡ q
same_third x y a b p q k m h = cc

same_fourth : (x y : machine.Asked keeps) (a b : Span) (p q : KeptPart) (k m : List KeptOpen) → wanting x a p k ≡ wanting y b q m → k ≡ m
same_fourth x y a b p q k m h = cc

wanted : (s : tree.State) (asked : machine.Asked keeps) (a : Span) (part : KeptPart) (k : List KeptOpen) → keep_state s ≡ wanting asked a part k → Wanted s asked a part k
wanted (wanting x b p o) asked a part k q =
    record {
      its_asked = x;
      its_part = p;
      its_opens = o;
      is = ap (λ z. wanting x z p o) (same_second (keep_asked x) asked b a (keep_part p) part (keep_opens o) k q);
      same_asked = same_first (keep_asked x) asked b a (keep_part p) part (keep_opens o) k q;
      same_part = same_third (keep_asked x) asked b a (keep_part p) part (keep_opens o) k q;
      same_opens = same_fourth (keep_asked x) asked b a (keep_part p) part (keep_opens o) k q;
    }
wanted s asked a part k q = absurd (subst IsWanting (sym q) tt)

-- ---- the tokens between two indices

some_at : (xs : List Token) (n : ℕ) → n < length xs → (t : Token) × (slice_get xs n ≡ Some t)
some_at [] n l = absurd (omega arith)
some_at (x ∷ xs) zero l = (x, refl)
some_at (x ∷ xs) (suc n) l = some_at xs n (let z : suc n < suc (length xs) = l in omega arith)

between_drops : (xs : List Token) (m n : ℕ) → m ≤ n → drop m xs ≡ take (n - m) (drop m xs) ++ drop n xs
between_drops xs m n l =
    sym (take-append-drop (n - m) (drop m xs)) ∙ ap (λ y. take (n - m) (drop m xs) ++ y) (drop-drop (n - m) m xs ∙ ap (λ i. drop i xs) (let e : m + (n - m) ≡ n = omega arith in e))

-- ---- the expression is whole

pub run_letter : (tokens : List Token) (at next after : ℕ) (asked : machine.Asked keeps) (a : Span) (part : KeptPart) (k : List KeptOpen) (t : Token) (e : Expr) (w : Span) (ke : Kept Expr)
    → Running tokens at (wanting asked a part k) next → slice_get tokens next ≡ Some t → machine.wants_letter keeps asked (symbol t) ≡ true → IsPhrase (Expr × Span) SpelledExpr Stops tokens next (e, w) after → keep_expr e ≡ ke → Running tokens at (having (machine.take keeps asked ke) a part k) after
run_letter tokens at next after asked a part k t e w ke r g x p q =
    let f = wanted r.state asked a part k r.is in
    let u = some_at tokens after p.within in
    let l = p.forward in
    let o = r.forward in
    let rest : drop (next + 1) tokens ≡ take (after - (next + 1)) (drop (next + 1) tokens) ++ u.0 ∷ drop (after + 1) tokens =
    between_drops tokens (next + 1) after (omega arith) ∙ ap (λ y. take (after - (next + 1)) (drop (next + 1) tokens) ++ y) (split_at tokens after u.0 u.1) in
    let here : Reaches (drop at tokens) (wanting f.its_asked a f.its_part f.its_opens) (t ∷ drop (next + 1) tokens) = subst (λ s. Reaches (drop at tokens) s (t ∷ drop (next + 1) tokens)) f.is (reaches_at tokens at next (wanting asked a part k) t r g) in
    let whole_here : WholeExpr (symbols (t ∷ drop (next + 1) tokens)) (e, w) (symbols (u.0 ∷ drop (after + 1) tokens)) =
    subst (λ y. WholeExpr (symbols y) (e, w) (symbols (u.0 ∷ drop (after + 1) tokens))) (split_at tokens next t g) (subst (λ y. WholeExpr (symbols (drop next tokens)) (e, w) (symbols y)) (split_at tokens after u.0 u.1) p.whole) in
    let wants : tree.wants_letter f.its_asked (symbol t) ≡ true = subst (λ s. tree.expects s (symbol t) ≡ true) f.is (tree_expects tokens at next (wanting asked a part k) t r true x) in
    let made = reach_letter (drop at tokens) f.its_asked a f.its_part f.its_opens t (drop (next + 1) tokens) (take (after - (next + 1)) (drop (next + 1) tokens)) u.0 (drop (after + 1) tokens) e w here wants rest whole_here in
    record {
      state = having (tree.take f.its_asked e) a f.its_part f.its_opens;
      is = ap (λ h. having h a (keep_part f.its_part) (keep_opens f.its_opens)) (take_kept f.its_asked e ∙ ap (λ y. machine.take keeps y (keep_expr e)) f.same_asked ∙ ap (machine.take keeps asked) q)
          ∙ ap (λ y. having (machine.take keeps asked ke) a y (keep_opens f.its_opens)) f.same_part ∙ ap (having (machine.take keeps asked ke) a part) f.same_opens;
      reaches = subst (Reaches (drop at tokens) (having (tree.take f.its_asked e) a f.its_part f.its_opens)) (sym (split_at tokens after u.0 u.1)) made;
      forward = omega arith;
      within = p.within;
    }

kept_none : (d : Option ℕ) (h g : ℕ) (e : Expr) → d ≡ None → h ≡ g → kept_or d h e ≡ kept g e
kept_none d h g e p q = ap (λ z. kept_or z h e) p ∙ ap (λ z. kept z e) q

kept_some : (d : Option ℕ) (h p : ℕ) (e : Expr) → d ≡ Some p → kept_or d h e ≡ deep p
kept_some d h p e q = ap (λ z. kept_or z h e) q

pub run_tree_letter : (tokens : List Token) (at next after : ℕ) (asked : machine.Asked keeps) (a : Span) (part : KeptPart) (k : List KeptOpen) (t : Token) (e : code_expr.Expr) (h : ℕ)
    → Running tokens at (wanting asked a part k) next → slice_get tokens next ≡ Some t → machine.wants_letter keeps asked (symbol t) ≡ true → IsExprRead tokens next (Ok (Whole e h after)) → Running tokens at (having (machine.take keeps asked (kept h (placed_expr e))) a part k) after
run_tree_letter tokens at next after asked a part k t e h r g x i =
    let same : expr_height (forget_expr (placed_expr e)) ≡ h = ap expr_height (sym (bare_expr_is e)) ∙ sym i.1 in
    let low : expr_height (forget_expr (placed_expr e)) ≤ 256 = subst (λ y. y ≤ 256) (sym same) i.2 in
    run_letter tokens at next after asked a part k t (placed_expr e) (between tokens next after) (kept h (placed_expr e)) r g x i.0 (kept_none (deep_expr (placed_expr e)) (expr_height (forget_expr (placed_expr e))) h (placed_expr e) ((deep_where_above (placed_expr e)).1 low) same)

pub run_deep_letter : (tokens : List Token) (at next after : ℕ) (asked : machine.Asked keeps) (a : Span) (part : KeptPart) (k : List KeptOpen) (t : Token) (p : ℕ)
    → Running tokens at (wanting asked a part k) next → slice_get tokens next ≡ Some t → machine.wants_letter keeps asked (symbol t) ≡ true → IsExprRead tokens next (Ok (Deep p after)) → Running tokens at (having (machine.take keeps asked (deep p)) a part k) after
run_deep_letter tokens at next after asked a part k t p r g x i = run_letter tokens at next after asked a part k t i.0 (between tokens next after) (deep p) r g x i.1 (kept_some (deep_expr i.0) (expr_height (forget_expr i.0)) p i.0 i.2)

-- no expression stands where one is wanted
pub run_fault : (tokens : List Token) (at next : ℕ) (asked : machine.Asked keeps) (a : Span) (part : KeptPart) (k : List KeptOpen) (t : Token) (kind : ParseKind) (place : ℕ)
    → Running tokens at (wanting asked a part k) next → slice_get tokens next ≡ Some t → machine.wants_letter keeps asked (symbol t) ≡ true → IsExprRead tokens next (Err (At kind place)) → IsDirectiveRead tokens at (Err (At kind place))
run_fault tokens at next asked a part k t kind place r g x i =
    let f = wanted r.state asked a part k r.is in
    let here : Reaches (drop at tokens) (wanting f.its_asked a f.its_part f.its_opens) (t ∷ drop (next + 1) tokens) = subst (λ s. Reaches (drop at tokens) s (t ∷ drop (next + 1) tokens)) f.is (reaches_at tokens at next (wanting asked a part k) t r g) in
    let wants : tree.wants_letter f.its_asked (symbol t) ≡ true = subst (λ s. tree.expects s (symbol t) ≡ true) f.is (tree_expects tokens at next (wanting asked a part k) t r true x) in
    reach_fault (drop at tokens) f.its_asked a f.its_part f.its_opens t (drop (next + 1) tokens) kind place here wants (subst (λ y. ExprFault y kind place) (split_at tokens next t g) i)
