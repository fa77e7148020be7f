-- What stands for a program is the translated tree of a text of it, and its printed form is the text's translation.
use Rattle.std.proofs.Common.{◌≡◌, ℕ, List, Result, Ok, Err, IfOk, IfErr, MatchResult, refl, sym, subst}
use Rattle.c_tree.specs.Bare.{Program}
use Rattle.c_tree.specs.Placed as placed
use Rattle.c_tree.specs.Forget.{forget_program}
use Rattle.c_tree.specs.WellFormed.{WellFormed}
use Rattle.c_lexer.specs.Cut.{Cut}
use Rattle.c_lexer.specs.declared.token.Token.{Token}
use Rattle.c_grammar.specs.Programs.{Spells}
use Rattle.c_printer.specs.Programs.{printed}
use Rattle.c_printer.specs.ReadsBack.{Reads}
use Rattle.c_printer.proofs.ReadsBack.{reads_back}
use Rattle.translator.specs.Answers.{SpellsChecked, SpellsAdmitted, StandsFor, IsTranslation, IsTranslatedTree, IsAccepted}

pub either_way : {A E : Type 0} (r : Result A E) (P : A → Type 0) (Q : E → Type 0) → IfOk r P → IfErr r Q → MatchResult r P Q
either_way (Ok x) P Q h k = h
either_way (Err x) P Q h k = k

spelled : (tokens : List Token) (p : placed.Program) → SpellsChecked tokens p → Spells p tokens
spelled tokens p s = record { items = s.tree.0; spelled = s.tree.1; same = sym s.tree.2 }

pub reads : (text : List ℕ) (tokens : List Token) (p : placed.Program) → Cut text tokens → SpellsChecked tokens p → Reads text (forget_program p)
reads text tokens p cut s = record { tokens = tokens; cut = cut; program = p; spelled = spelled tokens p s; same = refl }

pub translated_tree : (text : List ℕ) (tokens : List Token) (p : placed.Program) (q : Program) → Cut text tokens → SpellsAdmitted tokens p → StandsFor p q → IsTranslatedTree text q
translated_tree text tokens p q cut s h =
    record { source = forget_program p; reads = reads text tokens p cut s.checked; carried_out = h.carried_out; unchanged = h.unchanged; names = h.names; height = h.height }

pub accepted : (text : List ℕ) (tokens : List Token) (p : placed.Program) (q : Program) → Cut text tokens → SpellsAdmitted tokens p → StandsFor p q → IsAccepted text
accepted text tokens p q cut s h = (tokens, p, cut, s, h.built)

pub translation : (text : List ℕ) (q : Program) (written : List ℕ) → WellFormed q → IsTranslatedTree text q → written ≡ printed q → IsTranslation text written
translation text q written well tree same =
    record { result = q; tree = tree; reads_back = subst (λ bytes. Reads bytes q) (sym same) (reads_back q well); in_printed_form = same }
