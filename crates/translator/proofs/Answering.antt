-- The answers for the tokens of a text, by what stands for their program.
use Rattle.std.proofs.Common.{ℕ, List, Result, Ok, Err, IfOk, IfErr, OnOk}
use Rattle.c_tree.specs.Bare.{Program}
use Rattle.c_tree.specs.Placed as placed
use Rattle.c_lexer.specs.Cut.{Cut}
use Rattle.c_lexer.specs.declared.token.Token.{Token}
use Rattle.translator.specs.Answers.{SpellsAdmitted, StandsFor, IsTranslatedTree, IsAccepted, IsAdmittedText, IsUnbuilt, IsRefused, TokensRefused}
use Rattle.translator.specs.declared.refusal.Refusal.{Refusal}
use Rattle.translator.specs.declared.refusal.Refusal.TheVariants.{Lex, Parse, Names, Loops, NotBuilt, Memory}
use Rattle.translator.proofs.Translations.{translated_tree, accepted}

-- ---- texts

pub text_ok : {T E : Type 0} (placed_of : T → placed.Program) (r : Result T E) (text : List ℕ) (tokens : List Token) → Cut text tokens →
    IfOk r (λ t. SpellsAdmitted tokens (placed_of t)) → IfOk r (λ t. IsAdmittedText text (placed_of t))
text_ok placed_of (Ok t) text tokens cut s = (tokens, cut, s)
text_ok placed_of (Err e) text tokens cut s = tt

of_text : (text : List ℕ) (tokens : List Token) (refusal : Refusal) → Cut text tokens → TokensRefused refusal tokens → IsRefused refusal text
of_text text tokens (Lex kind place) cut h = absurd h
of_text text tokens (Parse kind place) cut h = (tokens, cut, h)
of_text text tokens (Names rule place) cut h = (tokens, cut, h)
of_text text tokens (Loops rule place) cut h = (tokens, cut, h)
of_text text tokens (NotBuilt place) cut h = (tokens, cut, h)
of_text text tokens Memory cut h = tt

pub text_refused : {T : Type 0} (r : Result T Refusal) (text : List ℕ) (tokens : List Token) → Cut text tokens →
    IfErr r (λ refusal. TokensRefused refusal tokens) → IfErr r (λ refusal. IsRefused refusal text)
text_refused (Ok t) text tokens cut h = tt
text_refused (Err refusal) text tokens cut h = of_text text tokens refusal cut h

-- ---- what is carried out

pub tree_ok : {T E : Type 0} (bare : T → Program) (r : Result T E) (text : List ℕ) (tokens : List Token) (p : placed.Program) → Cut text tokens → SpellsAdmitted tokens p →
    IfOk r (λ t. StandsFor p (bare t)) → IfOk r (λ t. IsTranslatedTree text (bare t))
tree_ok bare (Ok t) text tokens p cut s h = translated_tree text tokens p (bare t) cut s h
tree_ok bare (Err e) text tokens p cut s h = tt

pub accepted_ok : {T E : Type 0} (bare : T → Program) (r : Result T E) (text : List ℕ) (tokens : List Token) (p : placed.Program) → Cut text tokens → SpellsAdmitted tokens p →
    IfOk r (λ t. StandsFor p (bare t)) → OnOk r (IsAccepted text)
accepted_ok bare (Ok t) text tokens p cut s h = accepted text tokens p (bare t) cut s h
accepted_ok bare (Err e) text tokens p cut s h = tt

unbuilt_tokens : (tokens : List Token) (p : placed.Program) (refusal : Refusal) → SpellsAdmitted tokens p → IsUnbuilt refusal p → TokensRefused refusal tokens
unbuilt_tokens tokens p (NotBuilt place) s h = (p, s, h)
unbuilt_tokens tokens p Memory s h = tt
unbuilt_tokens tokens p (Lex kind place) s h = absurd h
unbuilt_tokens tokens p (Parse kind place) s h = absurd h
unbuilt_tokens tokens p (Names rule place) s h = absurd h
unbuilt_tokens tokens p (Loops rule place) s h = absurd h

pub refused_ok : {T : Type 0} (r : Result T Refusal) (tokens : List Token) (p : placed.Program) → SpellsAdmitted tokens p →
    IfErr r (λ refusal. IsUnbuilt refusal p) → IfErr r (λ refusal. TokensRefused refusal tokens)
refused_ok (Ok t) tokens p s h = tt
refused_ok (Err refusal) tokens p s h = unbuilt_tokens tokens p refusal s h
