-- Tables of bytes and punctuators: what a byte begins, and what it makes of the punctuator before it.
use Rattle.std.specs.Prelude.{ℕ, ◌==◌, if◌then◌else◌}
use Rattle.std.specs.Char.{is_ascii_digit}
use Rattle.c_lexer.specs.declared.class.Class.{Class}
use Rattle.c_lexer.specs.declared.class.Class.TheVariants.{Feed, Blank, Backslash, Letter, Digit, Hash, Punct as Punctuator, Other}
use Rattle.c_lexer.specs.declared.mode.Growth.{Growth}
use Rattle.c_lexer.specs.declared.mode.Growth.TheVariants.{Grows, Dots, OpensBlock, OpensLine, Ends}
use Rattle.c_lexer.specs.declared.token.Punct.{Punct}
use Rattle.c_lexer.specs.declared.token.Punct.TheVariants.{SquareOpen, SquareClose, RoundOpen, RoundClose, CurlyOpen, CurlyClose, Dot, Arrow, PlusPlus, MinusMinus, And, Star, Plus, Minus, Tilde, Bang, Slash, Percent, ShiftLeft, ShiftRight, Less, Greater, LessEq, GreaterEq, EqEq, BangEq, Caret, Bar, AndAnd, BarBar, Question, Colon, Semicolon, Assign, StarAssign, SlashAssign, PercentAssign, PlusAssign, MinusAssign, ShiftLeftAssign, ShiftRightAssign, AndAssign, CaretAssign, BarAssign, Comma}
use Rattle.c_lexer.specs.Bytes.{is_blank, is_feed, begins_word}

abbrev pub class_of_mark : ℕ → Class
class_of_mark b =
    if b == 33 then Punctuator Bang else
    if b == 37 then Punctuator Percent else
    if b == 38 then Punctuator And else
    if b == 40 then Punctuator RoundOpen else
    if b == 41 then Punctuator RoundClose else
    if b == 42 then Punctuator Star else
    if b == 43 then Punctuator Plus else
    if b == 44 then Punctuator Comma else
    if b == 45 then Punctuator Minus else
    if b == 46 then Punctuator Dot else
    if b == 47 then Punctuator Slash else
    if b == 58 then Punctuator Colon else
    if b == 59 then Punctuator Semicolon else
    if b == 60 then Punctuator Less else
    if b == 61 then Punctuator Assign else
    if b == 62 then Punctuator Greater else
    if b == 63 then Punctuator Question else
    if b == 91 then Punctuator SquareOpen else
    if b == 93 then Punctuator SquareClose else
    if b == 94 then Punctuator Caret else
    if b == 123 then Punctuator CurlyOpen else
    if b == 124 then Punctuator Bar else
    if b == 125 then Punctuator CurlyClose else
    if b == 126 then Punctuator Tilde else
    Other

abbrev pub class_of : ℕ → Class
class_of b =
    if is_feed b then Feed else
    if is_blank b then Blank else
    if b == 92 then Backslash else
    if begins_word b then Letter else
    if is_ascii_digit b then Digit else
    if b == 35 then Hash else
    class_of_mark b

-- the punctuator before it with `=`
abbrev pub with_equals : ℕ → Punct → Growth
with_equals b p = if b == 61 then Grows p else Ends

-- the punctuator before it with the byte n, or with `=`
abbrev pub with_second : ℕ → ℕ → Punct → Punct → Growth
with_second b n p q = if b == n then Grows p else with_equals b q

abbrev pub growth : Punct → ℕ → Growth
growth Dot b = if b == 46 then Dots else Ends
growth And b = with_second b 38 AndAnd AndAssign
growth Star b = with_equals b StarAssign
growth Plus b = with_second b 43 PlusPlus PlusAssign
growth Minus b = if b == 62 then Grows Arrow else with_second b 45 MinusMinus MinusAssign
growth Bang b = with_equals b BangEq
growth Slash b = if b == 42 then OpensBlock else if b == 47 then OpensLine else with_equals b SlashAssign
growth Percent b = with_equals b PercentAssign
growth ShiftLeft b = with_equals b ShiftLeftAssign
growth ShiftRight b = with_equals b ShiftRightAssign
growth Less b = with_second b 60 ShiftLeft LessEq
growth Greater b = with_second b 62 ShiftRight GreaterEq
growth Caret b = with_equals b CaretAssign
growth Bar b = with_second b 124 BarBar BarAssign
growth Assign b = with_equals b EqEq
growth p b = Ends
