-- The symbols of marks, as the grammar has them.
use Rattle.std.proofs.Common.{◌≡◌, ℕ, Bool, true, false, List, [], ◌∷◌, refl, sym, ap, ◌∙◌, Option, Some, None}
use Rattle.std.specs.Prelude.{codes, ◌==◌, ◌&&◌}
use Rattle.c_tree.specs.declared.tree.Span.{Span}
use Rattle.c_lexer.specs.declared.token.Token.{Token}
use Rattle.c_lexer.specs.declared.words.Keyword.{Keyword}
use Rattle.c_lexer.specs.declared.words.Keyword.TheVariants as k
use Rattle.c_lexer.specs.Cut.{place}
use Rattle.c_lexer.specs.Words.{keyword_of}
use Rattle.pragma_grammar.specs.Symbols as g
use Rattle.pragma_grammar.specs.Symbols.{Symbol, symbols, word_symbol}
use Rattle.c_printer.specs.Layout.{Mark, name, keyword, static, number, punct, hash, line_end, space, feed, keyword_spelling}
use Rattle.c_printer.proofs.Marks.{bytes, At, fresh, within, after_mark, IsKeyword, Stand}
use Rattle.c_printer.proofs.Names.{name_is_no_keyword}
use Rattle.c_printer.proofs.Words.{is_int}
use Rattle.c_printer.proofs.Cutting.{tokens_at}

-- where a mark stands, in a text of so many bytes of which those of the marks are left
abbrev pub span_of : ℕ → Mark → List Mark → Span
span_of total m ms = record { start = place total (bytes (m ∷ ms)); end = place total (bytes ms) }

-- the place of a LineEnd, which spans no bytes
abbrev pub empty_span : ℕ → List Mark → Span
empty_span total ms = record { start = place total (bytes ms); end = place total (bytes ms) }

abbrev pub symbols_at : ℕ → List Mark → List Symbol
symbols_at total [] = g.end (record { start = total; end = total }) ∷ []
symbols_at total (space ∷ ms) = symbols_at total ms
symbols_at total (feed ∷ ms) = symbols_at total ms
symbols_at total (line_end ∷ ms) = g.line_end (empty_span total (line_end ∷ ms)) ∷ symbols_at total ms
symbols_at total (hash ∷ ms) = g.hash (span_of total hash ms) ∷ symbols_at total ms
symbols_at total (name x ∷ ms) = g.name x (span_of total (name x) ms) ∷ symbols_at total ms
symbols_at total (keyword w ∷ ms) = g.keyword w (span_of total (keyword w) ms) ∷ symbols_at total ms
symbols_at total (static ∷ ms) = g.static (span_of total static ms) ∷ symbols_at total ms
symbols_at total (number v t ∷ ms) = g.number v t (is_int t && (v == 0)) (span_of total (number v t) ms) ∷ symbols_at total ms
symbols_at total (punct p ∷ ms) = g.punct p (span_of total (punct p) ms) ∷ symbols_at total ms

keyword_symbol : (w : Keyword) (s : Span) → IsKeyword w → word_symbol (keyword_spelling w) (keyword_of (keyword_spelling w)) s ≡ g.keyword w s
unfolding keyword_of
keyword_symbol k.Break s h = refl
keyword_symbol k.Continue s h = refl
keyword_symbol k.Do s h = refl
keyword_symbol k.Else s h = refl
keyword_symbol k.Extern s h = refl
keyword_symbol k.For s h = refl
keyword_symbol k.If s h = refl
keyword_symbol k.Input s h = refl
keyword_symbol k.Int s h = refl
keyword_symbol k.Long s h = refl
keyword_symbol k.Main s h = refl
keyword_symbol k.OmpFill s h = refl
keyword_symbol k.Print s h = refl
keyword_symbol k.Return s h = refl
keyword_symbol k.Void s h = refl
keyword_symbol k.While s h = refl
keyword_symbol k.LeftOut s h = absurd h

static_symbol : (s : Span) → word_symbol (codes "static") (keyword_of (codes "static")) s ≡ g.static s
unfolding keyword_of
static_symbol s = refl

-- the symbols of the tokens that marks are cut into
pub symbols_of : (total : ℕ) (s : At) (ms : List Mark) → Stand s ms → symbols (tokens_at total ms) ≡ symbols_at total ms
symbols_of total s [] h = refl
symbols_of total s (space ∷ ms) h = symbols_of total s ms h.1
symbols_of total s (feed ∷ ms) h = symbols_of total fresh ms h.1
symbols_of total s (line_end ∷ ms) h = ap (λ z. g.line_end (empty_span total (line_end ∷ ms)) ∷ z) (symbols_of total fresh ms h.1)
symbols_of total s (hash ∷ ms) h = ap (λ z. g.hash (span_of total hash ms) ∷ z) (symbols_of total (within true) ms h.1)
symbols_of total s (name x ∷ ms) h =
    ap (λ z. word_symbol x z (span_of total (name x) ms) ∷ symbols (tokens_at total ms)) (name_is_no_keyword x h.0.0)
    ∙ ap (λ z. g.name x (span_of total (name x) ms) ∷ z) (symbols_of total (after_mark s (name x)) ms h.1)
symbols_of total s (keyword w ∷ ms) h =
    ap (λ z. z ∷ symbols (tokens_at total ms)) (keyword_symbol w (span_of total (keyword w) ms) h.0.0)
    ∙ ap (λ z. g.keyword w (span_of total (keyword w) ms) ∷ z) (symbols_of total (after_mark s (keyword w)) ms h.1)
symbols_of total s (static ∷ ms) h =
    ap (λ z. z ∷ symbols (tokens_at total ms)) (static_symbol (span_of total static ms))
    ∙ ap (λ z. g.static (span_of total static ms) ∷ z) (symbols_of total (after_mark s static) ms h.1)
symbols_of total s (number v t ∷ ms) h = ap (λ z. g.number v t (is_int t && (v == 0)) (span_of total (number v t) ms) ∷ z) (symbols_of total (after_mark s (number v t)) ms h.1)
symbols_of total s (punct p ∷ ms) h = ap (λ z. g.punct p (span_of total (punct p) ms) ∷ z) (symbols_of total (after_mark s (punct p)) ms h.1)
