-- What the reader of programs answers.
use Rattle.std.proofs.Common.{◌≡◌, ℕ, Bool, true, false, List, [], ◌∷◌, ◌++◌, length, drop, Option, Some, None, refl, sym, ap, ◌∙◌, subst, arith}
use Rattle.std.specs.Prelude.{map, cond, Ok, Err}
use Rattle.c_tree.specs.Placed as placed
use Rattle.c_tree.specs.PlacedOf.{placed_top}
use Rattle.c_tree.specs.declared.tree.Item.{Item}
use Rattle.c_lexer.specs.declared.token.Token.{Token}
use Rattle.c_lexer.specs.declared.token.TokenKind.TheVariants as kind
use Rattle.pragma_grammar.specs.declared.phrase.ParseKind.{ParseKind}
use Rattle.pragma_grammar.specs.declared.phrase.ParseKind.TheVariants.{Syntax, Outside, TooDeep}
use Rattle.pragma_grammar.specs.declared.phrase.ParseFault.{ParseFault}
use Rattle.pragma_grammar.specs.declared.phrase.ParseFault.TheVariants.{At, Memory}
use Rattle.pragma_grammar.specs.declared.directive_kept.Kept as code
use Rattle.pragma_grammar.specs.declared.directive_kept.Kept.TheVariants.{Whole, Deep}
use Rattle.pragma_grammar.specs.declared.terminal.Terminal.TheVariants as term
use Rattle.pragma_grammar.specs.Symbols.{Symbol, symbol, name, number, punct, keyword, static, hash, line_end, end}
use Rattle.pragma_grammar.specs.Terminals.{terminal_of}
use Rattle.pragma_grammar.specs.Reading.{EndsText, blamed_as}
use Rattle.pragma_grammar.specs.DirectiveKept.{Kept, kept, deep, kept_or}
use Rattle.c_grammar.specs.Programs.{Started, SpellsItems, tops_of}
use Rattle.c_grammar.specs.Reading.{Blame, IsTree, IsTooDeep, deep_items}
use Rattle.c_grammar.specs.Goals.{Goal, ends, on_end, tops, program_goal, Move, step, stuck, accepts}
use Rattle.c_parser.specs.Comes.{Comes, blames, ends_with, last_token, one_after, Fails, IsBlamed}
use Rattle.c_parser.specs.Items.{items_of, keep_items, AreAllTaken}
use Rattle.c_parser.specs.Parsing.{IsEnded, whole_of, IsParsed}
use Rattle.c_parser.proofs.Coming.{meaning}
use Rattle.c_grammar.proofs.Reached.{reach_start}
use Rattle.c_parser.proofs.SimpleTaken.{fails_by}
use Rattle.c_parser.proofs.TerminalsTaken.{first_blamed}
use Rattle.c_parser.proofs.TopsTaken.{keep_all}

-- ---- the last token

ended : (q : List Started) (s : Symbol) → terminal_of s ≡ term.End → on_end q s ≡ accepts q
ended q (end a) e = refl
ended q (name x a) e = absurd (let z : term.Name ≡ term.End = e in cc)
ended q (number n y z a) e = absurd (let z : term.Number ≡ term.End = e in cc)
ended q (punct x a) e = absurd (let z : term.Punct x ≡ term.End = e in cc)
ended q (keyword x a) e = absurd (let z : term.Keyword x ≡ term.End = e in cc)
ended q (static a) e = absurd (let z : term.Static ≡ term.End = e in cc)
ended q (hash a) e = absurd (let z : term.Hash ≡ term.End = e in cc)
ended q (line_end a) e = absurd (let z : term.LineEnd ≡ term.End = e in cc)

not_ended : (q : List Started) (s : Symbol) → (terminal_of s ≡ term.End → ⊥) → on_end q s ≡ stuck
not_ended q (end a) n = absurd (n refl)
not_ended q s n = refl

pub other_left : (t : Token) (ts : List Token) (fault : ParseFault) → ts ≡ t ∷ drop 1 ts → (terminal_of (symbol t) ≡ term.End → ⊥) → IsBlamed ts fault → IsEnded ts (Err fault)
other_left t ts fault q n b = λ items. first_blamed (ends items) t ts (drop 1 ts) fault q (not_ended items (symbol t) n) b

pub last_left : (t : Token) (ts : List Token) (r : Unit {0}) → ts ≡ t ∷ drop 1 ts → terminal_of (symbol t) ≡ term.End → length ts ≡ 1 → IsEnded ts (Ok r)
last_left t ts r q e l = λ items. subst (λ us. Comes (ends items) us (ends_with items)) (sym q) (none (drop 1 ts) (subst (λ us. length us ≡ 1) q l) items)
  where
    none : (us : List Token) → length (t ∷ us) ≡ 1 → (items : List Started) → Comes (ends items) (t ∷ us) (ends_with items)
    none [] l items = last_token (ended items (symbol t) e)
    none (u ∷ us) l items = absurd (omega arith)

pub more_left : (t : Token) (ts : List Token) (fault : ParseFault) → ts ≡ t ∷ drop 1 ts → terminal_of (symbol t) ≡ term.End → (length ts ≡ 1 → ⊥) → IsBlamed (drop 1 ts) fault → IsEnded ts (Err fault)
more_left t ts fault q e l b = λ items. subst (λ us. Fails (ends items) us fault) (sym q) (one (drop 1 ts) (λ h. l (ap length q ∙ h)) b items)
  where
    one : (us : List Token) → (length (t ∷ us) ≡ 1 → ⊥) → IsBlamed us fault → (items : List Started) → Fails (ends items) (t ∷ us) fault
    one [] l b items = absurd (l refl)
    one (u ∷ us) l b items = subst (λ z. Fails (ends items) (t ∷ u ∷ us) z) (sym (b u us refl)) (one_after (ended items (symbol t) e))

pub past_last : (t : Token) (ts : List Token) → EndsText ts → ts ≡ t ∷ drop 1 ts → (length ts ≡ 1 → ⊥) → EndsText (drop 1 ts)
past_last t ts h q l = rest (drop 1 ts) (subst EndsText q h) (λ e. l (ap length q ∙ e))
  where
    rest : (us : List Token) → EndsText (t ∷ us) → (length (t ∷ us) ≡ 1 → ⊥) → EndsText us
    rest [] h l = absurd (l refl)
    rest (u ∷ us) h l = h

-- ---- the answer

-- no blame is one of depth
never_deep : (t : Token) (rest : List Token) (b : Bool) → TooDeep ≡ cond b Outside Syntax → ⊥
never_deep t rest true q = cc
never_deep t rest false q = cc

pub blamed_parse : (tokens : List Token) (fault : ParseFault) → Fails program_goal tokens fault → IsParsed tokens (Err fault)
blamed_parse tokens (At Syntax place) h = meaning tokens h (reach_start tokens)
blamed_parse tokens (At Outside place) h = meaning tokens h (reach_start tokens)
blamed_parse tokens (At TooDeep place) h = absurd (let b = meaning tokens h (reach_start tokens) in never_deep b.token b.rest _ b.of_kind)
blamed_parse tokens Memory h = tt

unread_parse : (tokens us : List Token) (fault : ParseFault) → AreAllTaken tops (kept 0 []) tokens (Err fault) us → IsParsed tokens (Err fault)
unread_parse tokens us fault i = blamed_parse tokens fault (i ends)

pub no_items : (tokens ts us : List Token) (fault : ParseFault) → ts ≡ tokens → AreAllTaken tops (kept 0 []) ts (Err fault) us → IsParsed tokens (Err fault)
no_items tokens ts us fault q i = unread_parse tokens us fault (subst (λ l. AreAllTaken tops (kept 0 []) l (Err fault) us) q i)

pub no_end : (tokens ts us : List Token) (all : code.Kept (List Item)) (fault : ParseFault) → ts ≡ tokens → AreAllTaken tops (kept 0 []) ts (Ok all) us → IsEnded us (Err fault) → IsParsed tokens (Err fault)
no_end tokens ts us all fault q i e =
    let j = subst (λ l. AreAllTaken tops (kept 0 []) l (Ok all) us) q i in
    blamed_parse tokens fault (fails_by program_goal (ends (j.0 [])) tokens us fault (j.2 ends) (e (j.0 [])))

-- what was kept of the items is the tree, or says where it is too deep
answered : (tokens : List Token) (items : List Started) (all : code.Kept (List Item)) (d : Option ℕ) (h : ℕ) → SpellsItems items tokens → deep_items items ≡ d → items_of all ≡ kept_or d h (tops_of items) → IsParsed tokens (whole_of all)
answered tokens items (Whole tree g) None h s e q = (items, s, same q, e)
  where
    same : {X : Type 0} {x y : X} {g h : ℕ} → kept g x ≡ kept h y → y ≡ x
    same q = cc
answered tokens items (Whole tree g) (Some p) h s e q = absurd (let z : kept g (map placed_top tree) ≡ deep p = q in cc)
answered tokens items (Deep place) None h s e q = absurd (let z : deep place ≡ kept h (tops_of items) = q in cc)
answered tokens items (Deep place) (Some p) h s e q = (items, s, e ∙ ap Some (same _ place p (deep place) (deep p) refl refl q))
  where
    same : (X : Type 0) (m n : ℕ) (k l : Kept X) → k ≡ deep m → l ≡ deep n → k ≡ l → n ≡ m
    same X m n k l a b q = cc

append_none : (items : List Started) → items ++ [] ≡ items
append_none [] = refl
append_none (i ∷ is) = ap (λ l. i ∷ l) (append_none is)

pub parsed : (tokens ts us : List Token) (all : code.Kept (List Item)) (r : Unit {0}) (answer : _) → ts ≡ tokens → AreAllTaken tops (kept 0 []) ts (Ok all) us → IsEnded us (Ok r) → answer ≡ whole_of all → IsParsed tokens answer
parsed tokens ts us all r answer q i e w =
    let j = subst (λ l. AreAllTaken tops (kept 0 []) l (Ok all) us) q i in
    let spelled = meaning tokens (j.2 ends (ends_with (j.0 [])) (e (j.0 []))) (reach_start tokens) in
    let a = j.1 in
    let items = subst (λ l. SpellsItems l tokens) (a.joins [] ∙ append_none a.items) spelled.0 in
    subst (IsParsed tokens) (sym w) (answered tokens a.items all (deep_items a.items) _ items refl (a.keeps ∙ keep_all a.items))
