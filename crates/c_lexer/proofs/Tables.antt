-- The code's tables of words are those of the definitions.
use Rattle.std.proofs.Common.{◌≡◌, map, refl}
use Rattle.c_lexer.specs.declared.words.TheConstants.{KEYWORDS, OUTSIDE, OUTSIDE_DIRECTIVE}
use Rattle.c_lexer.specs.Words.{keywords, outside_words, outside_directive_words}

pub same_keywords : map (λ entry. (entry.0.now, entry.1)) KEYWORDS ≡ keywords
same_keywords = refl

pub same_outside : map (λ entry. entry.now) OUTSIDE ≡ outside_words
same_outside = refl

pub same_directive : map (λ entry. entry.now) OUTSIDE_DIRECTIVE ≡ outside_directive_words
same_directive = refl
