-- What the reader's values stand for.
use Rattle.std.specs.Prelude.{ℕ, ◌<◌, ◌≤◌, ◌-◌, List, [], ◌∷◌, length}
use Rattle.c_tree.specs.PlacedOf.{placed_expr, placed_exprs}
use Rattle.c_tree.specs.declared.tree.Span.{Span}
use Rattle.c_tree.specs.declared.tree.Ty.{Ty}
use Rattle.c_tree.specs.declared.tree.Ty.TheVariants as ty
use Rattle.c_tree.specs.declared.tree.Expr.{Expr}
use Rattle.c_lexer.specs.declared.token.Token.{Token}
use Rattle.pragma_grammar.specs.declared.phrase.Phrase.{Phrase}
use Rattle.pragma_grammar.specs.declared.phrase.Phrase.TheVariants as a
use Rattle.pragma_grammar.specs.declared.operand.Operand.{Operand}
use Rattle.pragma_grammar.specs.declared.operand.Operand.TheVariants.{Tree, Deep as TooDeep}
use Rattle.pragma_grammar.specs.declared.operand.Subscripts.{Subscripts}
use Rattle.pragma_grammar.specs.declared.operand.Subscripts.TheVariants.{Trees, Deep as TooDeepList}
use Rattle.pragma_grammar.specs.declared.open_phrase.Open.{Open}
use Rattle.pragma_grammar.specs.declared.open_phrase.Open.TheVariants as o
use Rattle.pragma_grammar.specs.declared.open_phrase.State.{State}
use Rattle.pragma_grammar.specs.declared.open_phrase.State.TheVariants as s
use Rattle.pragma_grammar.specs.declared.open_phrase.Move.{Move}
use Rattle.pragma_grammar.specs.declared.open_phrase.Move.TheVariants as m
use Rattle.pragma_grammar.specs.declared.open_phrase.Turn.{Turn}
use Rattle.pragma_grammar.specs.declared.open_phrase.Turn.TheVariants as t
use Rattle.pragma_grammar.specs.declared.reading.Reading.{Reading}
use Rattle.pragma_grammar.specs.declared.reading.Reading.TheVariants as r
use Rattle.pragma_grammar.specs.Symbols.{Symbol, symbol}
use Rattle.pragma_grammar.specs.Kept.{Kept, kept, deep, KeptList, kept_list, deep_list, keeps}
use Rattle.pragma_grammar.specs.Machine as machine

abbrev pub kept_of : Operand → Kept
kept_of (Tree tree height) = kept height (placed_expr tree)
kept_of (TooDeep place) = deep place

abbrev pub kept_list_of : Subscripts → KeptList
kept_list_of (Trees trees height) = kept_list height (placed_exprs trees)
kept_list_of (TooDeepList place) = deep_list place

abbrev pub KeptOpen : Type 0
KeptOpen = machine.Open Kept KeptList

abbrev pub KeptState : Type 0
KeptState = machine.State Kept KeptList

abbrev pub KeptMove : Type 0
KeptMove = machine.Move Kept KeptList

abbrev pub phrase : Open → KeptOpen
phrase (o.Sign at op) = machine.sign at op
phrase (o.Casts at type) = machine.casts at type
phrase (o.Left left at op) = machine.lhs (kept_of left) at op
phrase (o.Round at) = machine.round at
phrase (o.Square name at subscripts) = machine.square name at (kept_list_of subscripts)
phrase (o.Test test at) = machine.test (kept_of test) at
phrase (o.Other test at second) = machine.other (kept_of test) at (kept_of second)

-- the open phrases, the innermost first; the code has it last
abbrev pub onto : List Open → List KeptOpen → List KeptOpen
onto [] k = k
onto (o ∷ os) k = onto os (phrase o ∷ k)

abbrev pub phrases : List Open → List KeptOpen
phrases os = onto os []

abbrev pub stands : State → List KeptOpen → KeptState
stands s.Want k = machine.want k
stands (s.Opened at) k = machine.opened at k
stands (s.HalfLong at) k = machine.half_long at k
stands (s.Long at) k = machine.long at k
stands (s.Typed at type) k = machine.typed at type k
stands (s.Access name at subscripts last) k = machine.access name at (kept_list_of subscripts) last k
stands (s.Have operand at) k = machine.have (kept_of operand) at k

abbrev pub asks : List KeptOpen → ℕ
asks k = machine.asks Kept KeptList k

abbrev pub closes : List KeptOpen → Kept → Span → Symbol → KeptMove
closes k e w t = machine.closes Kept KeptList keeps k e w t

abbrev pub settle : ℕ → Kept → Span → List KeptOpen → Symbol → KeptMove
settle r e w k t = machine.settle Kept KeptList keeps r e w k t

abbrev pub begin : List KeptOpen → Symbol → KeptMove
begin k t = machine.begin Kept KeptList keeps k t

abbrev pub step : KeptState → Symbol → KeptMove
step s t = machine.step Kept KeptList keeps s t

abbrev pub Outcome : Type 0
Outcome = machine.Outcome Kept KeptList keeps

-- what a token did, with the phrases that are open then
abbrev pub came : Move → List KeptOpen → KeptMove
came m.Stuck k = machine.stuck
came (m.Leads s) k = machine.leads (stands s k)
came (m.Ended operand at) k = machine.ended (kept_of operand) at

-- what stands after the first word of a type's name
abbrev pub begun : Span → Ty → List KeptOpen → KeptState
begun at ty.Int k = machine.typed at ty.Int k
begun at ty.Long k = machine.half_long at k

-- what a turn leads to in the end
abbrev pub turned : Turn → List KeptOpen → Symbol → KeptMove
turned (t.Done m) k t = came m k
turned (t.Again operand at row) k t = settle row (kept_of operand) at k t

abbrev pub Falls : Turn → ℕ → ℕ → Type 0
Falls (t.Done m) after before = Unit {0}
Falls (t.Again operand at row) after before = after < before

-- how the tokens from a state on end
abbrev pub outcome : List Token → KeptState → Outcome
outcome [] s = machine.unfinished
outcome (t ∷ ts) s = machine.after Kept KeptList keeps (step s (symbol t)) (length (t ∷ ts)) (outcome ts)

abbrev pub read_as : Reading → ℕ → Outcome
read_as (r.Whole operand at next) n = machine.whole (kept_of operand) at (n - next)
read_as (r.Fault at) n = machine.fault (n - at)

abbrev pub Within : Reading → ℕ → ℕ → Type 0
Within (r.Whole operand at next) from n = (from ≤ next) × (next < n)
Within (r.Fault at) from n = (from ≤ at) × (at < n)

-- the answer for an operand that was kept
abbrev pub phrase_of : Operand → ℕ → Phrase Expr
phrase_of (Tree tree height) next = a.Whole tree height next
phrase_of (TooDeep place) next = a.Deep place next
