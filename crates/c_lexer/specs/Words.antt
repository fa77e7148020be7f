-- The keywords (C11 6.4.1, and those of the profile), and what is outside the profile.
use Rattle.std.specs.Prelude.{ℕ, Bool, true, false, ◌||◌, ◌&&◌, if◌then◌else◌, List, [], ◌∷◌, Option, Some, None, codes, bytes_eq}
use Rattle.c_lexer.specs.declared.token.TokenKind.{TokenKind}
use Rattle.c_lexer.specs.declared.token.TokenKind.TheVariants.{Word, Punct as Punctuator}
use Rattle.c_lexer.specs.declared.token.Punct.{Punct}
use Rattle.c_lexer.specs.declared.token.Punct.TheVariants.{Dot, Arrow, And, Bar, Caret, Tilde, ShiftLeft, ShiftRight, ShiftLeftAssign, ShiftRightAssign, AndAssign, BarAssign, CaretAssign, Ellipsis}
use Rattle.c_lexer.specs.declared.words.Keyword.{Keyword}
use Rattle.c_lexer.specs.declared.words.Keyword.TheVariants.{Break, Continue, Do, Else, Extern, For, If, Input, Int, Long, Main, OmpFill, Print, Return, Void, While, LeftOut}

-- the words of the profile, and the words of C11 that it leaves out
abbrev pub keywords : List (List ℕ × Keyword)
keywords =
    (codes "break", Break) ∷ (codes "continue", Continue) ∷ (codes "do", Do) ∷ (codes "else", Else) ∷
    (codes "extern", Extern) ∷ (codes "for", For) ∷ (codes "if", If) ∷ (codes "input", Input) ∷
    (codes "int", Int) ∷ (codes "long", Long) ∷ (codes "main", Main) ∷ (codes "omp_fill", OmpFill) ∷
    (codes "print", Print) ∷ (codes "return", Return) ∷ (codes "void", Void) ∷ (codes "while", While) ∷
    (codes "auto", LeftOut) ∷ (codes "case", LeftOut) ∷ (codes "char", LeftOut) ∷ (codes "const", LeftOut) ∷
    (codes "default", LeftOut) ∷ (codes "double", LeftOut) ∷ (codes "enum", LeftOut) ∷ (codes "float", LeftOut) ∷
    (codes "goto", LeftOut) ∷ (codes "inline", LeftOut) ∷ (codes "register", LeftOut) ∷ (codes "restrict", LeftOut) ∷
    (codes "short", LeftOut) ∷ (codes "signed", LeftOut) ∷ (codes "sizeof", LeftOut) ∷ (codes "static", LeftOut) ∷
    (codes "struct", LeftOut) ∷ (codes "switch", LeftOut) ∷ (codes "typedef", LeftOut) ∷ (codes "union", LeftOut) ∷
    (codes "unsigned", LeftOut) ∷ (codes "volatile", LeftOut) ∷ (codes "_Alignas", LeftOut) ∷ (codes "_Alignof", LeftOut) ∷
    (codes "_Atomic", LeftOut) ∷ (codes "_Bool", LeftOut) ∷ (codes "_Complex", LeftOut) ∷ (codes "_Generic", LeftOut) ∷
    (codes "_Imaginary", LeftOut) ∷ (codes "_Noreturn", LeftOut) ∷ (codes "_Static_assert", LeftOut) ∷ (codes "_Thread_local", LeftOut) ∷
    []

-- the first entry of a word
abbrev pub found_in : List (List ℕ × Keyword) → List ℕ → Option Keyword
found_in [] word = None
found_in (entry ∷ entries) word = if bytes_eq entry.0 word then Some entry.1 else found_in entries word

-- the keyword that a word is; a word that is none is a name
unfoldable pub keyword_of : List ℕ → Option Keyword
keyword_of word = found_in keywords word

abbrev pub outside_words : List (List ℕ)
outside_words =
    codes "auto" ∷ codes "case" ∷ codes "char" ∷ codes "const" ∷ codes "default" ∷ codes "double" ∷
    codes "enum" ∷ codes "float" ∷ codes "goto" ∷ codes "inline" ∷ codes "register" ∷ codes "restrict" ∷
    codes "short" ∷ codes "signed" ∷ codes "sizeof" ∷ codes "static" ∷ codes "struct" ∷ codes "switch" ∷
    codes "typedef" ∷ codes "union" ∷ codes "unsigned" ∷ codes "volatile" ∷ codes "_Alignas" ∷ codes "_Alignof" ∷
    codes "_Atomic" ∷ codes "_Bool" ∷ codes "_Complex" ∷ codes "_Generic" ∷ codes "_Imaginary" ∷ codes "_Noreturn" ∷
    codes "_Static_assert" ∷ codes "_Thread_local" ∷ codes "_Pragma" ∷ codes "include" ∷ codes "ifdef" ∷ codes "ifndef" ∷
    codes "elif" ∷ codes "endif" ∷ codes "undef" ∷ codes "line" ∷ codes "error" ∷ codes "stripe" ∷
    codes "nothing" ∷ codes "parallel" ∷ codes "sections" ∷ codes "single" ∷ codes "simd" ∷ codes "loop" ∷
    codes "task" ∷ codes "taskloop" ∷ codes "target" ∷ codes "teams" ∷ codes "distribute" ∷ codes "barrier" ∷
    codes "critical" ∷ codes "atomic" ∷ codes "collapse" ∷ codes "ordered" ∷ codes "schedule" ∷ codes "private" ∷
    codes "firstprivate" ∷ codes "lastprivate" ∷ codes "shared" ∷ codes "reduction" ∷ codes "nowait" ∷ codes "linear" ∷
    []

abbrev pub outside_directive_words : List (List ℕ)
outside_directive_words = codes "if" ∷ codes "else" ∷ codes "for" ∷ codes "while" ∷ codes "do" ∷ []

abbrev pub is_among : List (List ℕ) → List ℕ → Bool
is_among [] word = false
is_among (entry ∷ entries) word = if bytes_eq entry word then true else is_among entries word

-- a word that is outside the profile wherever it stands, and one that is so on a `#` line
unfoldable pub is_outside_anywhere : List ℕ → Bool
is_outside_anywhere word = is_among outside_words word

unfoldable pub is_outside_directive : List ℕ → Bool
is_outside_directive word = is_among outside_directive_words word

-- a word that is outside the profile, on a `#` line or on another one
abbrev pub is_outside_word : List ℕ → Bool → Bool
is_outside_word word on_directive_line = is_outside_anywhere word || (on_directive_line && is_outside_directive word)

abbrev pub is_outside_punct : Punct → Bool
is_outside_punct Dot = true
is_outside_punct Arrow = true
is_outside_punct And = true
is_outside_punct Bar = true
is_outside_punct Caret = true
is_outside_punct Tilde = true
is_outside_punct ShiftLeft = true
is_outside_punct ShiftRight = true
is_outside_punct ShiftLeftAssign = true
is_outside_punct ShiftRightAssign = true
is_outside_punct AndAssign = true
is_outside_punct BarAssign = true
is_outside_punct CaretAssign = true
is_outside_punct Ellipsis = true
is_outside_punct _ = false

-- a token that is outside the profile
abbrev pub is_outside : TokenKind → Bool → Bool
is_outside (Word word) on_directive_line = is_outside_word word on_directive_line
is_outside (Punctuator p) on_directive_line = is_outside_punct p
is_outside _ on_directive_line = false
