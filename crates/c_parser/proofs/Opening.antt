-- What comes of an item's first token.
use Rattle.std.proofs.Common.{◌≡◌, ◌<◌, List, ◌∷◌, length, drop, Option, Some, None, refl, sym, ap, ◌∙◌, subst, arith}
use Rattle.std.specs.Prelude.{Ok, Err}
use Rattle.c_tree.specs.declared.tree.Span.{Span}
use Rattle.c_lexer.specs.declared.token.Token.{Token}
use Rattle.c_lexer.specs.declared.words.Keyword.{Keyword}
use Rattle.c_lexer.specs.declared.words.Keyword.TheVariants as k
use Rattle.pragma_grammar.specs.declared.phrase.ParseFault.{ParseFault}
use Rattle.pragma_grammar.specs.declared.terminal.Terminal.{Terminal}
use Rattle.pragma_grammar.specs.declared.terminal.Terminal.TheVariants as term
use Rattle.pragma_grammar.specs.Symbols.{Symbol, symbol, keyword, place}
use Rattle.pragma_grammar.specs.Terminals.{terminal_of}
use Rattle.pragma_grammar.proofs.Terminals.{symbol_place}
use Rattle.c_parser.specs.declared.openings.Opening.{Opening}
use Rattle.c_parser.specs.Openings.{opening_of, opened, IsOpeningTaken}
use Rattle.c_grammar.specs.Programs.{Started}
use Rattle.c_grammar.specs.Goals.{Goal, tops, on_tops, step, Move, stuck, leads}
use Rattle.c_parser.specs.Comes.{IsBlamed}
use Rattle.c_parser.proofs.Beginning.{first_goes}
use Rattle.c_parser.proofs.TerminalsTaken.{first_blamed}

abbrev opens : (List Started → Goal) → Option Opening → Span → Move
opens f (Some x) a = leads (opened x a f)
opens f None a = stuck

opens_as : (f : List Started → Goal) (s : Symbol) → on_tops f s ≡ opens f (opening_of (terminal_of s)) (place s)
opens_as f (keyword x a) = by_keyword x
  where
    by_keyword : (x : Keyword) → on_tops f (keyword x a) ≡ opens f (opening_of (term.Keyword x)) a
    by_keyword k.Int = refl
    by_keyword x = refl
opens_as f s = refl

opens_by : (f : List Started → Goal) (t : Token) (k : Terminal) (r : Option Opening) → k ≡ terminal_of (symbol t) → r ≡ opening_of k → step (tops f) (symbol t) ≡ opens f r t.span
opens_by f t k r e q = opens_as f (symbol t) ∙ ap (λ x. opens f x (place (symbol t))) (ap opening_of (sym e) ∙ sym q) ∙ ap (opens f r) (symbol_place t)

pub opening_taken : (t : Token) (ts us : List Token) (k : Terminal) (x : Opening) → ts ≡ t ∷ drop 1 ts → us ≡ drop 1 ts → k ≡ terminal_of (symbol t) → Some x ≡ opening_of k → IsOpeningTaken ts (Ok (x, t.span)) us
opening_taken t ts us k x q r e s = (
  let parts : ts ≡ t ∷ us = q ∙ ap (λ z. t ∷ z) (sym r) in subst (λ l. length us < length l) (sym parts) (omega arith),
  λ f. first_goes (tops f) (opened x t.span f) t ts us q r (opens_by f t k (Some x) e s),
)

pub no_opening : (t : Token) (ts us : List Token) (k : Terminal) (fault : ParseFault) → ts ≡ t ∷ drop 1 ts → k ≡ terminal_of (symbol t) → None ≡ opening_of k → IsBlamed ts fault → IsOpeningTaken ts (Err fault) us
no_opening t ts us k fault q e s b = λ f. first_blamed (tops f) t ts (drop 1 ts) fault q (opens_by f t k None e s) b
