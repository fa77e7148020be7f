-- Layouts as lists of marks, and the marks that may follow each other.
use Rattle.std.proofs.Common.{◌≡◌, ℕ, Bool, true, false, List, [], ◌∷◌, ◌++◌, refl, sym, ap, ◌∙◌, append_assoc}
use Rattle.std.specs.Prelude.{IsTrue, IsFalse, ◌||◌, ◌==◌}
use Rattle.c_tree.specs.Constants.{IsHeld}
use Rattle.c_tree.specs.WellFormed.{IsName}
use Rattle.c_lexer.specs.declared.context.Line.{Line}
use Rattle.c_lexer.specs.declared.context.Line.TheVariants.{Fresh, Begun, Directive}
use Rattle.c_lexer.specs.declared.words.Keyword.{Keyword}
use Rattle.c_lexer.specs.declared.words.Keyword.TheVariants.{LeftOut}
use Rattle.c_lexer.specs.Bytes.{goes_in_word}
use Rattle.c_lexer.proofs.Longest.{EndsWord, EndsPunct}
use Rattle.c_printer.specs.Layout.{Mark, name, keyword, static, number, punct, hash, line_end, space, feed, Layout, nothing, mark, ◌&◌, mark_text, text}

-- a layout before marks
abbrev pub marks : Layout → List Mark → List Mark
marks nothing ms = ms
marks (mark m) ms = m ∷ ms
marks (a & b) ms = marks a (marks b ms)

abbrev pub bytes : List Mark → List ℕ
bytes [] = []
bytes (m ∷ ms) = mark_text m ++ bytes ms

pub bytes_of : (a : Layout) (ms : List Mark) → text a ++ bytes ms ≡ bytes (marks a ms)
bytes_of nothing ms = refl
bytes_of (mark m) ms = refl
bytes_of (a & b) ms = append_assoc (text a) (text b) (bytes ms) ∙ ap (λ z. text a ++ z) (bytes_of b ms) ∙ bytes_of a (marks b ms)

-- where a mark stands on its line: before any token, or after one, on a `#` line or on another one
pub data At : Type 0 where
  fresh : At
  within : Bool → At

abbrev pub line_of : At → Line
line_of fresh = Fresh
line_of (within false) = Begun
line_of (within true) = Directive

abbrev pub after_token : At → At
after_token fresh = within false
after_token (within d) = within d

abbrev pub after_mark : At → Mark → At
after_mark s hash = within true
after_mark s line_end = fresh
after_mark s space = s
after_mark s feed = fresh
after_mark s _ = after_token s

-- the bytes begin with none that goes on with a number, and so with none that goes on with a word
abbrev pub Stops : List ℕ → Type 0
Stops [] = Unit {0}
Stops (b ∷ bs) = IsFalse (goes_in_word b || b == 46 || (b == 43 || b == 45))

abbrev pub IsKeyword : Keyword → Type 0
IsKeyword LeftOut = ⊥
IsKeyword _ = Unit {0}

abbrev pub IsFresh : At → Type 0
IsFresh fresh = Unit {0}
IsFresh (within d) = ⊥

abbrev pub IsDirective : At → Type 0
IsDirective (within true) = Unit {0}
IsDirective _ = ⊥

abbrev pub IsNoDirective : At → Type 0
IsNoDirective (within true) = ⊥
IsNoDirective _ = Unit {0}

-- the mark is cut by itself at its place, before these bytes
abbrev pub MarkStands : At → Mark → List ℕ → Type 0
MarkStands s (name x) bs = IsName x × EndsWord bs
MarkStands s (keyword w) bs = IsKeyword w × EndsWord bs
MarkStands s static bs = EndsWord bs
MarkStands s (number v t) bs = IsHeld t v × Stops bs
MarkStands s (punct p) bs = EndsPunct p bs
MarkStands s hash bs = IsFresh s
MarkStands s line_end bs = IsDirective s
MarkStands s space bs = Unit {0}
MarkStands s feed bs = IsNoDirective s

-- and so are all of them; a text ends with a whole line
abbrev pub Stand : At → List Mark → Type 0
Stand s [] = IsFresh s
Stand s (m ∷ ms) = MarkStands s m (bytes ms) × Stand (after_mark s m) ms
