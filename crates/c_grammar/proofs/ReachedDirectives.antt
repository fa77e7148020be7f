-- A directive is read in one step, and a fault in one is blamed exactly.
use Rattle.std.proofs.Common.{◌≡◌, ℕ, List, ◌∷◌, ◌++◌, sym, subst}
use Rattle.c_tree.specs.Placed.{Directive}
use Rattle.c_tree.specs.declared.tree.Span.{Span}
use Rattle.c_lexer.specs.declared.token.Token.{Token}
use Rattle.pragma_grammar.specs.declared.phrase.ParseKind.{ParseKind}
use Rattle.pragma_grammar.specs.Symbols.{Symbol, symbol, symbols}
use Rattle.pragma_grammar.specs.Reading.{IsWhole, IsFault, EndsLine, ends_line, SpelledDirective}
use Rattle.c_grammar.specs.Programs.{Started}
use Rattle.c_grammar.specs.Reading.{Blame}
use Rattle.c_grammar.specs.Goals as gl
use Rattle.c_grammar.specs.Goals.{Goal, takes, the_line_end, directs}
use Rattle.c_grammar.proofs.Meaning.{Takes, takes_it, DirectiveReads, directive_reads, Meets, Moves}
use Rattle.c_grammar.proofs.Steps.{step_to, step_from}
use Rattle.c_grammar.proofs.OneDirective.{one_directive}
use Rattle.c_grammar.proofs.DirectivePieces.{directive_any, line_any}
use Rattle.c_grammar.proofs.Reached.{Reached, Reads, Letter, reach_letter, reach_fault}

abbrev pub after_directive : (Directive → Goal) → Directive → Goal
after_directive f d = takes the_line_end (λ z. f d)

abbrev pub DirectiveLetter : Goal → Symbol → (Directive → Goal) → Type 0
DirectiveLetter x t after = Letter Directive SpelledDirective EndsLine one_directive directive_any line_any x t after

line_ends : {f : Span → List Symbol → Type 0} {us : List Symbol} → Takes the_line_end f us → EndsLine us
line_ends (takes_it h) = ends_line

directive_to : (p : List Started) (f : Directive → Goal) (ts : List Symbol) → DirectiveReads (λ d us. Meets p (f d) us) ts → Reads Directive SpelledDirective EndsLine one_directive directive_any line_any (after_directive f) p ts
directive_to p f ts (directive_reads {d = d} {us = us} h k) = record { tree = d; left = us; phrase = h; ends = line_ends k; meets = k }

pub directive_letter : (x : Goal) (t : Symbol) (f : Directive → Goal) → gl.step x t ≡ directs f → DirectiveLetter x t (after_directive f)
directive_letter x t f q = record { from = λ p ts us d h m. step_from p x t ts (subst (λ z. Moves p z t ts) (sym q) (directive_reads h m)); to = λ p ts h. directive_to p f (t ∷ ts) (subst (λ m. Moves p m t ts) q (step_to p x t ts h)) }

-- a whole directive was read
pub reach_directive : (ts : List Token) (x : Goal) (f : Directive → Goal) (t : Token) (rest seg : List Token) (u : Token) (more : List Token) (d : Directive)
    → Reached ts x (t ∷ rest) → gl.step x (symbol t) ≡ directs f → rest ≡ seg ++ u ∷ more → IsWhole Directive SpelledDirective EndsLine (symbols (t ∷ rest)) d (symbols (u ∷ more)) → Reached ts (after_directive f d) (u ∷ more)
reach_directive ts x f t rest seg u more d r q = reach_letter Directive SpelledDirective EndsLine one_directive directive_any line_any ts x (after_directive f) t rest seg u more d r (directive_letter x (symbol t) f q)

-- or none stands there
pub reach_directive_fault : (ts : List Token) (x : Goal) (f : Directive → Goal) (t : Token) (rest : List Token) (kind : ParseKind) (place : ℕ) → Reached ts x (t ∷ rest) → gl.step x (symbol t) ≡ directs f → IsFault Directive SpelledDirective EndsLine (t ∷ rest) kind place → Blame ts kind place
reach_directive_fault ts x f t rest kind place r q = reach_fault Directive SpelledDirective EndsLine one_directive directive_any line_any ts x (after_directive f) t rest kind place r (directive_letter x (symbol t) f q)
