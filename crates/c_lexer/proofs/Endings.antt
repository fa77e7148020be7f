-- Answers with tokens before them.
use Rattle.std.proofs.Common.{◌≡◌, ℕ, List, [], ◌∷◌, ◌++◌, Option, Some, refl, sym, ap, ◌∙◌, append_assoc}
use Rattle.c_lexer.specs.declared.context.Line.{Line}
use Rattle.c_lexer.specs.declared.token.Token.{Token}
use Rattle.c_lexer.specs.declared.token.TokenKind.{TokenKind}
use Rattle.c_lexer.specs.declared.token.TokenKind.TheVariants.{End}
use Rattle.c_lexer.specs.Cut.{Answer, tokens, after, with_first, token, line_end, with_token}
use Rattle.c_lexer.specs.declared.context.Before.{Before}
use Rattle.c_lexer.specs.declared.mode.Mode.{Mode}
use Rattle.c_lexer.specs.declared.mode.Mode.TheVariants.{Between, Word as InWord, Number as InNumber, Punct as InPunct, TwoDots, Backslash, BackslashReturn, Joined, JoinedBackslash, JoinedReturn, JoinedSlash, Block, LineComment, Faulted}
use Rattle.c_lexer.specs.declared.machine.Machine.{Machine}
use Rattle.c_lexer.specs.Machine.{closing, closes_token, closes_number, end_in_mode, end}
use Rattle.c_lexer.specs.Running.{text_in, state_of}

pub after_append : (ts us : List Token) (a : Answer) → after (ts ++ us) a ≡ after ts (after us a)
after_append [] us a = refl
after_append (t ∷ ts) us a = ap (with_first t) (after_append ts us a)

pub after_tokens : (ts us : List Token) → after ts (tokens us) ≡ tokens (ts ++ us)
after_tokens [] us = refl
after_tokens (t ∷ ts) us = ap (with_first t) (after_tokens ts us)

-- one more token, and the end of the text
pub closed_token : (new old : List Token) (line after_ : Line) (kind : TokenKind) (start at : ℕ) → new ≡ old ++ token kind start at ∷ [] → after_ ≡ with_token line →
    after new (closing after_ at) ≡ after old (closes_token line kind start at)
closed_token new old line after_ kind start at e f =
    ap (λ z. after z (closing after_ at)) e ∙ after_append old (token kind start at ∷ []) (closing after_ at) ∙ ap (λ l. after old (after (token kind start at ∷ []) (closing l at))) f

pub closed_number : (new old : List Token) (line after_ : Line) (o : Option TokenKind) (kind : TokenKind) (start at : ℕ) → Some kind ≡ o → new ≡ old ++ token kind start at ∷ [] → after_ ≡ with_token line →
    after new (closing after_ at) ≡ after old (closes_number line o start at)
closed_number new old line after_ o kind start at i e f = closed_token new old line after_ kind start at e f ∙ ap (λ z. after old (closes_number line z start at)) i

-- two tokens more
pub closed_pair : (new mid old : List Token) (t : Token) (line middle after_ : Line) (kind : TokenKind) (start at : ℕ) → mid ≡ old ++ t ∷ [] → new ≡ mid ++ token kind start at ∷ [] →
    middle ≡ with_token line → after_ ≡ with_token middle → after new (closing after_ at) ≡ after old (with_first t (closes_token (with_token line) kind start at))
closed_pair new mid old t line middle after_ kind start at d e f g =
    closed_token new mid middle after_ kind start at e g ∙ ap (λ z. after z (closes_token middle kind start at)) d ∙ after_append old (t ∷ []) (closes_token middle kind start at) ∙
    ap (λ l. after old (with_first t (closes_token l kind start at))) f

-- the end of the text, by the mode
end_free : (line : Line) (before : Before) (mode : Mode) (text : List ℕ) (at : ℕ) → end_in_mode line before mode text at ≡ end_in_mode line before mode (text_in mode text) at
end_free line before Between text at = refl
end_free line before (InWord start) text at = refl
end_free line before (InNumber start last) text at = refl
end_free line before (InPunct start p) text at = refl
end_free line before (TwoDots start second) text at = refl
end_free line before (Backslash first) text at = refl
end_free line before (BackslashReturn first) text at = refl
end_free line before (Joined first) text at = refl
end_free line before (JoinedBackslash first last) text at = refl
end_free line before (JoinedReturn first last) text at = refl
end_free line before (JoinedSlash first slash) text at = refl
end_free line before (Block start stage) text at = refl
end_free line before (LineComment stage) text at = refl
end_free line before (Faulted kind place) text at = refl

pub mode_ends : (m : Machine) (mode : Mode) (at : ℕ) → m.piece.mode ≡ mode → end_in_mode m.piece.line m.piece.before mode m.text.1 at ≡ end (state_of m) at
mode_ends m mode at e = ap (λ z. end_in_mode m.piece.line m.piece.before z m.text.1 at) (sym e) ∙ end_free m.piece.line m.piece.before m.piece.mode m.text.1 at

-- the last tokens of a text
pub closed_text : (kept old mid line_ends all before : List Token) (found : List Token) (line : Line) (at : ℕ) (a : Answer) → line_ends ≡ mid ++ line_end line at → all ≡ line_ends ++ token End at at ∷ [] →
    before ≡ kept → found ≡ before ++ all → after mid (closing line at) ≡ after old a → tokens found ≡ after (kept ++ old) a
closed_text kept old mid line_ends all before found line at a d e f g h =
    ap tokens (g ∙ ap (λ z. z ++ all) f ∙ ap (λ z. kept ++ z) (e ∙ ap (λ z. z ++ token End at at ∷ []) d ∙ append_assoc mid (line_end line at) (token End at at ∷ []))) ∙
    sym (after_tokens kept (mid ++ (line_end line at ++ token End at at ∷ []))) ∙
    ap (after kept) (sym (after_tokens mid (line_end line at ++ token End at at ∷ [])) ∙ h) ∙ sym (after_append kept old a)
