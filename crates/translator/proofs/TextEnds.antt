-- The tokens of a text end with End.
use Rattle.std.proofs.Common.{ℕ, List, [], ◌∷◌, ◌++◌, refl}
use Rattle.c_lexer.specs.Cut.{Side, Answer, tokens, fault, with_first, after, line_end, token, Lexes, ends, stops, goes, Cut}
use Rattle.c_lexer.specs.declared.context.Line.TheVariants.{Fresh, Begun, Directive}
use Rattle.c_lexer.specs.declared.token.Token.{Token}
use Rattle.c_lexer.specs.declared.token.TokenKind.TheVariants.{End}
use Rattle.pragma_grammar.specs.Reading.{EndsText}

abbrev EndsWell : Answer → Type 0
EndsWell (tokens ts) = EndsText ts
EndsWell (fault kind at) = Unit {0}

one_before : (t : Token) (a : Answer) → EndsWell a → EndsWell (with_first t a)
one_before t (tokens []) h = absurd h
one_before t (tokens (u ∷ ts)) h = h
one_before t (fault kind at) h = h

some_before : (ts : List Token) (a : Answer) → EndsWell a → EndsWell (after ts a)
some_before [] a h = h
some_before (t ∷ ts) a h = one_before t (after ts a) (some_before ts a h)

lexes_end : {total : ℕ} {s : Side} {bs : List ℕ} {a : Answer} → Lexes total s bs a → EndsWell a
lexes_end {total = total} (ends {s = s}) = elim s.line as (λ l. EndsWell (tokens (line_end l total ++ token End total total ∷ []))) [ Fresh ↦ refl | Begun ↦ refl | Directive ↦ refl ]
lexes_end (stops h) = tt
lexes_end (goes {ts = ts} {a = a} piece rest) = some_before ts a (lexes_end rest)

pub cut_ends : (text : List ℕ) (ts : List Token) → Cut text ts → EndsText ts
cut_ends text ts h = lexes_end h
