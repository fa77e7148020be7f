-- The arms of the reader's functions: what each leaves is what the automaton does.
use Rattle.std.proofs.Common.{◌≡◌, ℕ, ◌+◌, ◌-◌, List, [], ◌∷◌, ◌++◌, length, Bool, true, false, Option, Some, None, refl, sym, ap, ◌∙◌, subst, Bor}
use Rattle.std.specs.Prelude.{slice_get, option_copied, option_to_list, max}
use Rattle.c_tree.specs.declared.tree.Expr as code
use Rattle.c_tree.specs.declared.tree.Expr.{fold-roll-Expr}
use Rattle.c_tree.specs.declared.tree.Expr.TheOpen as layer
use Rattle.c_tree.specs.Bare.{Name}
use Rattle.c_tree.specs.Placed
use Rattle.c_tree.specs.Placed.{item}
use Rattle.c_tree.specs.PlacedOf.{placed_expr, placed_exprs, expr_layer}
use Rattle.c_tree.specs.declared.tree.Span.{Span}
use Rattle.c_tree.specs.declared.tree.UnOp.{UnOp}
use Rattle.c_tree.specs.declared.tree.Ty.{Ty}
use Rattle.c_tree.specs.declared.tree.Ty.TheVariants as ty
use Rattle.c_lexer.specs.declared.token.Token.{Token}
use Rattle.c_lexer.specs.declared.token.Punct.{Punct}
use Rattle.c_lexer.specs.declared.token.Punct.TheVariants as sign
use Rattle.c_lexer.specs.declared.words.Keyword.{Keyword}
use Rattle.c_lexer.specs.declared.words.Keyword.TheVariants as word
use Rattle.pragma_grammar.specs.declared.terminal.Terminal.{Terminal}
use Rattle.pragma_grammar.specs.declared.terminal.Terminal.TheVariants as term
use Rattle.pragma_grammar.specs.declared.operand.Operand.{Operand}
use Rattle.pragma_grammar.specs.declared.operand.Operand.TheVariants.{Tree}
use Rattle.pragma_grammar.specs.declared.open_phrase.Infix.{Infix}
use Rattle.pragma_grammar.specs.declared.open_phrase.Open.{Open}
use Rattle.pragma_grammar.specs.Symbols.{Symbol, symbol, name, number, punct, keyword, place, spanning}
use Rattle.pragma_grammar.specs.Terminals.{terminal_of, unary_terminal, infix_terminal, is_square_open, is_square_close, is_colon, begun_type}
use Rattle.pragma_grammar.specs.Trees.{join_last}
use Rattle.pragma_grammar.specs.Machine as machine
use Rattle.pragma_grammar.specs.Kept.{Kept, kept, KeptList, kept_list, node, keep_element, keep_subscript, keeps}
use Rattle.pragma_grammar.specs.Stands.{kept_of, KeptOpen, KeptMove, phrase, onto, phrases, asks, closes, settle, begin, begun}
use Rattle.pragma_grammar.proofs.Stack.{asks_last, pushed}
use Rattle.pragma_grammar.proofs.Terminals.{infix_as, unary_as, is_punct, is_keyword, symbol_place}

-- ---- the stack

pub asks_of : (items now : List Open) (r : Option (Bor Open)) (b : Bor Open) → now ≡ items → option_copied r ≡ slice_get now (length now - 1) → r ≡ Some b → asks (phrases items) ≡ asks (phrase b.now ∷ [])
asks_of items now r b e q s =
    let found : slice_get now (length now - 1) ≡ Some b.now = sym q ∙ ap option_copied s in
    asks_last items b.now (subst (λ z. slice_get z (length z - 1) ≡ Some b.now) e found)

pub popped : (old new : List Open) (r : Option Open) (o : Open) → old ≡ new ++ option_to_list r → r ≡ Some o → phrase o ∷ phrases new ≡ phrases old
popped old new r o q s = sym (pushed new old o (q ∙ ap (λ z. new ++ option_to_list z) s))

-- ---- turns

pub turn_opens : (k new : List KeptOpen) (o : KeptOpen) (s r : ℕ) (e : Kept) (w : Span) (t : Symbol) (d : Terminal) (i : Infix) (g : Option Infix) → new ≡ o ∷ k → o ≡ machine.opens Kept KeptList e w i → g ≡ infix_terminal s r d → g ≡ Some i → s ≡ asks k → d ≡ terminal_of t → machine.leads (machine.want new) ≡ settle r e w k t
turn_opens k new o s r e w t d i g n p q f a h =
    let is : machine.infix_of (asks k) r t ≡ Some i = infix_as (asks k) r t ∙ ap (infix_terminal (asks k) r) (sym h) ∙ ap (λ z. infix_terminal z r d) (sym a) ∙ sym q ∙ f in
    let made : machine.settled Kept KeptList (Some i) e w k (closes k e w t) ≡ settle r e w k t = ap (λ z. machine.settled Kept KeptList z e w k (closes k e w t)) (sym is) in
    ap (λ z. machine.leads (machine.want z)) (n ∙ ap (λ z. z ∷ k) p) ∙ made

pub turn_closes : (k : List KeptOpen) (s r : ℕ) (e : Kept) (w : Span) (t : Symbol) (d : Terminal) (g : Option Infix) → g ≡ infix_terminal s r d → g ≡ None → s ≡ asks k → d ≡ terminal_of t → closes k e w t ≡ settle r e w k t
turn_closes k s r e w t d g q f a h =
    let is : machine.infix_of (asks k) r t ≡ None = infix_as (asks k) r t ∙ ap (infix_terminal (asks k) r) (sym h) ∙ ap (λ z. infix_terminal z r d) (sym a) ∙ sym q ∙ f in
    ap (λ z. machine.settled Kept KeptList z e w k (closes k e w t)) (sym is)

-- ---- tokens that are taken, and others

clash : false ≡ true → ⊥
clash q = cc

same_type : {x y : Ty} → Some x ≡ Some y → x ≡ y
same_type q = cc

no_type : {y : Ty} → None ≡ Some y → ⊥
no_type q = cc

pub sign_is : (p : Punct) (token : Token) (d : Terminal) → d ≡ terminal_of (symbol token) → d ≡ term.Punct p → symbol token ≡ punct p token.span
sign_is p token d q h = is_punct p token (sym q ∙ h)

pub word_is : (k : Keyword) (token : Token) (d : Terminal) → d ≡ terminal_of (symbol token) → d ≡ term.Keyword k → symbol token ≡ keyword k token.span
word_is k token d q h = is_keyword k token (sym q ∙ h)

pub not_end : (e : Kept) (w : Span) (t : Symbol) (d : Terminal) (x : Bool) → d ≡ terminal_of t → x ≡ is_square_open d → x ≡ false → machine.ended e w ≡ machine.ends_at Kept KeptList e w t
not_end e w (punct sign.SquareOpen z) d x q p n = absurd (clash (sym n ∙ p ∙ ap is_square_open q))
not_end e w t d x q p n = refl

pub at_square : (e : Kept) (w : Span) (t : Symbol) (d : Terminal) (x : Bool) → d ≡ terminal_of t → x ≡ is_square_open d → x ≡ true → machine.stuck ≡ machine.ends_at Kept KeptList e w t
at_square e w (punct sign.SquareOpen z) d x q p n = refl
at_square e w t d x q p n = absurd (clash (sym (ap is_square_open q) ∙ sym p ∙ n))

pub not_round : (e : Kept) (a : Span) (k : List KeptOpen) (t : Symbol) (d : Terminal) → d ≡ terminal_of t → (d ≡ term.Punct sign.RoundClose → ⊥) → machine.stuck ≡ machine.expect_round Kept KeptList e a k t
not_round e a k (punct sign.RoundClose z) d q n = absurd (n q)
not_round e a k t d q n = refl

pub square_closes : (x : Name) (a : Span) (es : KeptList) (k : List KeptOpen) (token : Token) (d : Terminal) (y : Bool) → d ≡ terminal_of (symbol token) → y ≡ is_square_close d → y ≡ true → machine.leads (machine.access x a es token.span k) ≡ machine.expect_square Kept KeptList x a es k (symbol token)
square_closes x a es k token d y q p n = closing (symbol token) token.span (symbol_place token) q
  where
    closing : (t : Symbol) (s : Span) → place t ≡ s → d ≡ terminal_of t → machine.leads (machine.access x a es s k) ≡ machine.expect_square Kept KeptList x a es k t
    closing (punct sign.SquareClose z) s h q = ap (λ v. machine.leads (machine.access x a es v k)) (sym h)
    closing t s h q = absurd (clash (sym (ap is_square_close q) ∙ sym p ∙ n))

pub not_square : (x : Name) (a : Span) (es : KeptList) (k : List KeptOpen) (t : Symbol) (d : Terminal) (y : Bool) → d ≡ terminal_of t → y ≡ is_square_close d → y ≡ false → machine.stuck ≡ machine.expect_square Kept KeptList x a es k t
not_square x a es k (punct sign.SquareClose z) d y q p n = absurd (clash (sym n ∙ p ∙ ap is_square_close q))
not_square x a es k t d y q p n = refl

pub colon_closes : (c : Kept) (v : Span) (e : Kept) (k new : List KeptOpen) (t : Symbol) (d : Terminal) (y : Bool) → d ≡ terminal_of t → y ≡ is_colon d → y ≡ true → new ≡ machine.other c v e ∷ k → machine.leads (machine.want new) ≡ machine.expect_colon Kept KeptList c v e k t
colon_closes c v e k new (punct sign.Colon z) d y q p n h = ap (λ x. machine.leads (machine.want x)) h
colon_closes c v e k new t d y q p n h = absurd (clash (sym (ap is_colon q) ∙ sym p ∙ n))

pub not_colon : (c : Kept) (v : Span) (e : Kept) (k : List KeptOpen) (t : Symbol) (d : Terminal) (y : Bool) → d ≡ terminal_of t → y ≡ is_colon d → y ≡ false → machine.stuck ≡ machine.expect_colon Kept KeptList c v e k t
not_colon c v e k (punct sign.Colon z) d y q p n = absurd (clash (sym n ∙ p ∙ ap is_colon q))
not_colon c v e k t d y q p n = refl

pub not_type_end : (a : Span) (y : Ty) (k : List KeptOpen) (t : Symbol) (d : Terminal) → d ≡ terminal_of t → (d ≡ term.Punct sign.RoundClose → ⊥) → machine.stuck ≡ machine.end_type Kept KeptList a y k t
not_type_end a y k (punct sign.RoundClose z) d q n = absurd (n q)
not_type_end a y k t d q n = refl

pub not_long : (a : Span) (k : List KeptOpen) (t : Symbol) (d : Terminal) → d ≡ terminal_of t → (d ≡ term.Keyword word.Long → ⊥) → machine.stuck ≡ machine.more_long Kept KeptList a k t
not_long a k (keyword word.Long z) d q n = absurd (n q)
not_long a k t d q n = refl

pub not_long_int : (a : Span) (k : List KeptOpen) (t : Symbol) (d : Terminal) → d ≡ terminal_of t → (d ≡ term.Keyword word.Int → ⊥) → machine.end_type Kept KeptList a ty.Long k t ≡ machine.end_long Kept KeptList a k t
not_long_int a k (keyword word.Int z) d q n = absurd (n q)
not_long_int a k t d q n = refl

pub type_begins : (a : Span) (y : Ty) (k : List KeptOpen) (t : Symbol) (d : Terminal) (g : Option Ty) → d ≡ terminal_of t → g ≡ begun_type d → g ≡ Some y → machine.leads (begun a y k) ≡ machine.begin_round Kept KeptList keeps a k t
type_begins a y k (keyword word.Int z) d g q p n = ap (λ x. machine.leads (begun a x k)) (same_type (sym n ∙ p ∙ ap begun_type q))
type_begins a y k (keyword word.Long z) d g q p n = ap (λ x. machine.leads (begun a x k)) (same_type (sym n ∙ p ∙ ap begun_type q))
type_begins a y k t d g q p n = absurd (no_type (sym (ap begun_type q) ∙ sym p ∙ n))

pub no_type_begins : (a : Span) (k : List KeptOpen) (t : Symbol) (d : Terminal) (g : Option Ty) → d ≡ terminal_of t → g ≡ begun_type d → g ≡ None → begin (machine.round a ∷ k) t ≡ machine.begin_round Kept KeptList keeps a k t
no_type_begins a k (keyword word.Int z) d g q p n = absurd (no_type (sym n ∙ p ∙ ap begun_type q))
no_type_begins a k (keyword word.Long z) d g q p n = absurd (no_type (sym n ∙ p ∙ ap begun_type q))
no_type_begins a k t d g q p n = refl

pub no_subscript : (x : Name) (a : Span) (es : KeptList) (z : Span) (k : List KeptOpen) (t : Symbol) (d : Terminal) (y : Bool) → d ≡ terminal_of t → y ≡ is_square_open d → y ≡ false → settle 8 (keep_element x es (spanning a z)) (spanning a z) k t ≡ machine.subscripted Kept KeptList keeps x a es z k t
no_subscript x a es z k (punct sign.SquareOpen b) d y q p n = absurd (clash (sym n ∙ p ∙ ap is_square_open q))
no_subscript x a es z k t d y q p n = refl

pub subscript_begins : (x : Name) (a : Span) (es : KeptList) (z : Span) (k new : List KeptOpen) (t : Symbol) (d : Terminal) (y : Bool) → d ≡ terminal_of t → y ≡ is_square_open d → y ≡ true → new ≡ machine.square x a es ∷ k → machine.leads (machine.want new) ≡ machine.subscripted Kept KeptList keeps x a es z k t
subscript_begins x a es z k new (punct sign.SquareOpen b) d y q p n h = ap (λ v. machine.leads (machine.want v)) h
subscript_begins x a es z k new t d y q p n h = absurd (clash (sym (ap is_square_open q) ∙ sym p ∙ n))

-- the first token of a phrase, where it is neither a number, a name nor `(`
pub begins_by : (k : List KeptOpen) (t : Symbol) (d : Terminal) (o : Option UnOp) → d ≡ terminal_of t → (d ≡ term.Number → ⊥) → (d ≡ term.Name → ⊥) → (d ≡ term.Punct sign.RoundOpen → ⊥) → o ≡ unary_terminal d → machine.prefixed Kept KeptList o (place t) k ≡ begin k t
begins_by k (number n y z a) d o q f g h u = absurd (f q)
begins_by k (name x a) d o q f g h u = absurd (g q)
begins_by k (punct sign.RoundOpen a) d o q f g h u = absurd (h q)
begins_by k t d o q f g h u = let s = t in ap (λ z. machine.prefixed Kept KeptList z (place s) k) (u ∙ ap unary_terminal q ∙ sym (unary_as s))

-- ---- what is kept

placed_push : (xs : List code.Expr) (e : code.Expr) → placed_exprs (xs ++ e ∷ []) ≡ join_last (placed_exprs xs) (placed_expr e)
placed_push [] e = refl
placed_push (x ∷ xs) e = ap (λ z. Placed.more_exprs (placed_expr x) z) (placed_push xs e)

pub one_more_kept : (g h r : ℕ) (xs now : List code.Expr) (e : code.Expr) (last : Operand) → last ≡ Tree e h → now ≡ xs ++ e ∷ [] → r ≡ max g h → kept_list r (placed_exprs now) ≡ keep_subscript (kept_list g (placed_exprs xs)) (kept_of last)
one_more_kept g h r xs now e last q p m =
    ap (λ z. kept_list z (placed_exprs now)) m ∙ ap (λ z. kept_list (max g h) (placed_exprs z)) p ∙ ap (kept_list (max g h)) (placed_push xs e) ∙ ap (λ z. keep_subscript (kept_list g (placed_exprs xs)) (kept_of z)) (sym q)

pub placed_item : (x : Name) (ts : List code.Expr) (s : Span) → placed_expr (code.Item x ts s) ≡ item x (placed_exprs ts) s
unfolding code.roll-Expr denote.Hole.Carrier.roll
placed_item x ts s = fold-roll-Expr Placed.Expr expr_layer (layer.Item x ts s)

pub element_kept : (x : Name) (ts : List code.Expr) (h : ℕ) (s : Span) → (ts ≡ [] → ⊥) → node (1 + h) (item x (placed_exprs ts) s) s ≡ keep_element x (kept_list h (placed_exprs ts)) s
element_kept x [] h s n = absurd (n refl)
element_kept x (t ∷ ts) h s n = refl
