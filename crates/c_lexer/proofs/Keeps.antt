-- Each step keeps what is known of a state.
use Rattle.std.proofs.Common.{◌≡◌, ℕ, ◌+◌, ◌&&◌, ◌||◌, List, [], ◌∷◌, ◌++◌, length, Option, Some, None, refl, ap, ◌∙◌, subst, arith, append_assoc, length-append}
use Rattle.std.specs.Prelude.{IsTrue}
use Rattle.std.specs.List.{list_all}
use Rattle.std.proofs.lemmas.Bool.{cond_both}
use Rattle.c_lexer.specs.declared.mode.Growth.{Growth}
use Rattle.c_lexer.specs.declared.mode.Growth.TheVariants.{Grows, Dots, OpensBlock, OpensLine, Ends}
use Rattle.c_lexer.specs.declared.mode.Mode.{Mode}
use Rattle.c_lexer.specs.declared.mode.Mode.TheVariants.{Between, Word as InWord, Number as InNumber, Punct as InPunct, TwoDots, Backslash, BackslashReturn, Joined, JoinedBackslash, JoinedReturn, JoinedSlash, Block, LineComment, Faulted}
use Rattle.c_lexer.specs.declared.context.Line.{Line}
use Rattle.c_lexer.specs.declared.context.Before.{Before}
use Rattle.c_lexer.specs.declared.context.Before.TheVariants.{Free, Solid, Slash as AfterSlash}
use Rattle.c_lexer.specs.declared.token.TokenKind.{TokenKind}
use Rattle.c_lexer.specs.declared.token.TokenKind.TheVariants.{Word, Punct as Punctuator}
use Rattle.c_lexer.specs.declared.token.Punct.{Punct}
use Rattle.c_lexer.specs.declared.token.Punct.TheVariants.{Dot}
use Rattle.c_lexer.specs.Bytes.{is_blank, is_feed, goes_in_word}
use Rattle.c_lexer.specs.Numbers.{goes_on, go_on, is_number, integer}
use Rattle.c_lexer.specs.Lexemes.{spelling, is_word}
use Rattle.c_lexer.specs.Cut.{with_token, after_kind}
use Rattle.c_lexer.specs.Classes.{growth}
use Rattle.c_lexer.specs.Machine.{ends_token, ends_number, grows, leaves_run, bad_backslash, ends_block, ends_line, in_mode}
use Rattle.c_lexer.proofs.Longest.{IsOpenWord, IsOpenNumber}
use Rattle.c_lexer.proofs.Meaning.{Sound, SoundNext}
use Rattle.c_lexer.proofs.Begins.{begin_sound}
use Rattle.c_lexer.proofs.Stages.{tested}
use Rattle.c_lexer.proofs.Steps.{Fits, fits}

word_grows : (w : List ℕ) (b : ℕ) → IsTrue (goes_in_word b) → IsOpenWord w → IsOpenWord (w ++ b ∷ [])
word_grows w b g h bs = ap is_word (append_assoc w (b ∷ []) bs) ∙ h (b ∷ bs) ∙ ap (λ t. t && list_all goes_in_word bs) g

number_grows : (last : ℕ) (w : List ℕ) (b : ℕ) → IsTrue (goes_on last b) → IsOpenNumber last w → IsOpenNumber b (w ++ b ∷ [])
number_grows last w b g h bs = ap is_number (append_assoc w (b ∷ []) bs) ∙ h (b ∷ bs) ∙ ap (λ t. t && go_on b bs) g

longer_text : (start at : ℕ) (w : List ℕ) (b : ℕ) → start + length w ≡ at → start + length (w ++ b ∷ []) ≡ at + 1
longer_text start at w b e = omega (arith, length-append w (b ∷ []))

ends_sound : (line : Line) (kind : TokenKind) (start at b : ℕ) → SoundNext (ends_token line kind start at b) (at + 1)
ends_sound line kind start at b = begin_sound (with_token line) (after_kind kind) at b

number_sound : (line : Line) (o : Option TokenKind) (start at b : ℕ) → SoundNext (ends_number line o start at b) (at + 1)
number_sound line (Some kind) start at b = ends_sound line kind start at b
number_sound line None start at b = tt

grows_sound : (line : Line) (before : Before) (p : Punct) (start at b : ℕ) (g : Growth) → start + length (spelling p) ≡ at → Fits p b g → SoundNext (grows line before p start at b g) (at + 1)
grows_sound line before p start at b (Grows q) s f = ap (λ z. start + length z) f ∙ longer_text start at (spelling p) b s
grows_sound line before p start at b Dots s f = (subst (λ q. start + length (spelling q) ≡ at) f.0 s, refl)
grows_sound line before p start at b OpensBlock s f = tt
grows_sound line before p start at b OpensLine s f = tt
grows_sound line before p start at b Ends s f = ends_sound line (Punctuator p) start at b

leaves_sound : (line : Line) (before : Before) (first at b : ℕ) → SoundNext (leaves_run line before first at b) (at + 1)
leaves_sound line Free first at b = begin_sound line Free at b
leaves_sound line Solid first at b =
    cond_both (is_blank b || is_feed b) _ _ (λ m. SoundNext m (at + 1)) (λ e. begin_sound line Solid at b) (λ e.
    tested (λ m. SoundNext m (at + 1)) b 47 _ _ (λ f. (refl, refl)) (λ n. tt))
leaves_sound line AfterSlash first at b =
    cond_both (is_blank b || is_feed b) _ _ (λ m. SoundNext m (at + 1)) (λ e. begin_sound line AfterSlash at b) (λ e. tt)

bad_sound : (before : Before) (first last at : ℕ) → SoundNext (bad_backslash before first last) at
bad_sound Free first last at = tt
bad_sound Solid first last at = tt
bad_sound AfterSlash first last at = tt

pub step_sound : (line : Line) (before : Before) (mode : Mode) (text : List ℕ) (at b : ℕ) → Sound before mode text at → SoundNext (in_mode line before mode text at b) (at + 1)
step_sound line before Between text at b s = begin_sound line before at b
step_sound line before (InWord start) text at b s =
    cond_both (goes_in_word b) _ _ (λ m. SoundNext m (at + 1)) (λ g. (longer_text start at text b s.0, word_grows text b g s.1)) (λ g. ends_sound line (Word text) start at b)
step_sound line before (InNumber start last) text at b s =
    cond_both (goes_on last b) _ _ (λ m. SoundNext m (at + 1)) (λ g. (longer_text start at text b s.0, number_grows last text b g s.1)) (λ g. number_sound line (integer text) start at b)
step_sound line before (InPunct start p) text at b s = grows_sound line before p start at b (growth p b) s (fits p b)
step_sound line before (TwoDots start second) text at b s =
    tested (λ m. SoundNext m (at + 1)) b 46 _ _ (λ e. omega (arith, s.0, s.1)) (λ n. ends_sound (with_token line) (Punctuator Dot) second at b)
step_sound line before (Backslash first) text at b s =
    tested (λ m. SoundNext m (at + 1)) b 10 _ _ (λ e. tt) (λ n. tested (λ m. SoundNext m (at + 1)) b 13 _ _ (λ e. omega arith) (λ k. tt))
step_sound line before (BackslashReturn first) text at b s = tested (λ m. SoundNext m (at + 1)) b 10 _ _ (λ e. tt) (λ n. tt)
step_sound line before (Joined first) text at b s = tested (λ m. SoundNext m (at + 1)) b 92 _ _ (λ e. refl) (λ n. leaves_sound line before first at b)
step_sound line before (JoinedBackslash first last) text at b s =
    tested (λ m. SoundNext m (at + 1)) b 10 _ _ (λ e. tt) (λ n. tested (λ m. SoundNext m (at + 1)) b 13 _ _ (λ e. omega arith) (λ k. bad_sound before first last (at + 1)))
step_sound line before (JoinedReturn first last) text at b s = tested (λ m. SoundNext m (at + 1)) b 10 _ _ (λ e. tt) (λ n. bad_sound before first last (at + 1))
step_sound line before (JoinedSlash first slash) text at b s =
    tested (λ m. SoundNext m (at + 1)) b 42 _ _ (λ e. tt) (λ n. tested (λ m. SoundNext m (at + 1)) b 47 _ _ (λ e. tt) (λ k. tt))
step_sound line before (Block start stage) text at b s = cond_both (ends_block stage b) _ _ (λ m. SoundNext m (at + 1)) (λ e. tt) (λ e. tt)
step_sound line before (LineComment stage) text at b s = cond_both (ends_line stage b) _ _ (λ m. SoundNext m (at + 1)) (λ e. begin_sound line Free at b) (λ e. tt)
step_sound line before (Faulted kind where_) text at b s = tt
