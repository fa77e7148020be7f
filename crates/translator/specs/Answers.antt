-- The answer for a text: why it is refused, which is the first that applies; or what it is translated to.
use Rattle.std.specs.Prelude.{◌≡◌, ℕ, ◌≤◌, ℤ, List, Some, None, true}
use Rattle.c_tree.specs.Checked.{most_height}
use Rattle.c_tree.specs.Height.{program_height}
use Rattle.c_tree.specs.Bare.{Program}
use Rattle.c_tree.specs.Forget.{forget_program}
use Rattle.c_tree.specs.Placed as placed
use Rattle.c_tree.specs.NameRules.BreachSets.{HasNone, least}
use Rattle.c_tree.specs.NameRules.Programs.{breaches}
use Rattle.c_lexer.specs.Cut.{Cut, FirstFault}
use Rattle.c_lexer.specs.declared.token.Token.{Token}
use Rattle.pragma_grammar.specs.declared.phrase.ParseKind.TheVariants.{TooDeep}
use Rattle.c_printer.specs.Programs.{printed}
use Rattle.c_printer.specs.ReadsBack.{Reads}
use Rattle.c_grammar.specs.Reading.{IsTree, IsTooDeep, Blame}
use Rattle.c_semantics.specs.Meaning.Programs.{outcome, turns_of}
use Rattle.c_semantics.specs.Structure.Skeleton.{skeleton}
use Rattle.c_meaning.specs.Plain.{is_plain}
use Rattle.c_soundness.specs.NameBreaches.{BreaksNone}
use Rattle.canonical_nests.specs.LoopRules.BreachSets as loop_rules
use Rattle.canonical_nests.specs.LoopRules.Programs.{breaches as loop_breaches}
use Rattle.carried_out.specs.CarriedOut.{carried_out}
use Rattle.translator.specs.Unbuilt.{first_unbuilt}
use Rattle.translator.specs.declared.refusal.Refusal.{Refusal}
use Rattle.translator.specs.declared.refusal.Refusal.TheVariants.{Lex, Parse, Names, Loops, NotBuilt, Memory}

-- ---- the program of tokens

-- the tokens spell the program, no part of which is too deep, and it breaks no name rule
pub record SpellsChecked (tokens : List Token) (program : placed.Program) : Type 0 where
  pub tree : IsTree tokens program
  pub names : HasNone (breaches program)

-- the program breaks no loop rule either
pub record SpellsAdmitted (tokens : List Token) (program : placed.Program) : Type 0 where
  pub checked : SpellsChecked tokens program
  pub loops : loop_rules.HasNone (loop_breaches program)

-- What is translated and run so far: a program each directive of which, and each item of `apply` but `nothing`, is
-- `reverse`.
abbrev pub IsBuilt : placed.Program → Type 0
IsBuilt program = first_unbuilt program ≡ None

-- ---- why a text is refused

-- the program breaks a name rule so
abbrev pub BreaksNames : Refusal → placed.Program → Type 0
BreaksNames (Names rule place) program = least (breaches program) ≡ Some (record { place = place; rule = rule })
BreaksNames Memory program = Unit {0}
BreaksNames _ program = ⊥

-- the program breaks a loop rule so
abbrev pub BreaksLoops : Refusal → placed.Program → Type 0
BreaksLoops (Loops rule place) program = loop_rules.least (loop_breaches program) ≡ Some (record { place = place; rule = rule })
BreaksLoops Memory program = Unit {0}
BreaksLoops _ program = ⊥

-- a program that breaks no rule, and isn't built, is refused so: at its first directive or item that isn't carried out yet
abbrev pub IsUnbuilt : Refusal → placed.Program → Type 0
IsUnbuilt (NotBuilt place) program = first_unbuilt program ≡ Some place
IsUnbuilt Memory program = Unit {0}
IsUnbuilt _ program = ⊥

-- tokens are refused so
abbrev pub TokensRefused : Refusal → List Token → Type 0
TokensRefused (Lex kind place) tokens = ⊥
TokensRefused (Parse TooDeep place) tokens = IsTooDeep tokens place
TokensRefused (Parse kind place) tokens = Blame tokens kind place
TokensRefused (Names rule place) tokens = (program : placed.Program) × IsTree tokens program × BreaksNames (Names rule place) program
TokensRefused (Loops rule place) tokens = (program : placed.Program) × SpellsChecked tokens program × BreaksLoops (Loops rule place) program
TokensRefused (NotBuilt place) tokens = (program : placed.Program) × SpellsAdmitted tokens program × IsUnbuilt (NotBuilt place) program
TokensRefused Memory tokens = Unit {0}

-- a text is refused so: by its first lexical fault, or as its tokens are
abbrev pub IsRefused : Refusal → List ℕ → Type 0
IsRefused (Lex kind place) text = FirstFault text kind place
IsRefused Memory text = Unit {0}
IsRefused refusal text = (tokens : List Token) × Cut text tokens × TokensRefused refusal tokens

-- a refusal whose cause is the text
abbrev pub IsCause : Refusal → Type 0
IsCause Memory = ⊥
IsCause _ = Unit {0}

-- it is told before it is asked whether the program can be carried out
abbrev pub IsOfRules : Refusal → Type 0
IsOfRules (NotBuilt place) = ⊥
IsOfRules _ = Unit {0}

-- ---- what a text is translated to

-- The one program does what the other does, its directives in force: at every bound of at least 1 and on every input it
-- prints, stores, traps or is cut alike, with as many turns; and it has the loops and the body copies that are wanted. It
-- has no directive itself.
pub record CarriesOut (result source : Program) : Type 0 where
  pub plain : is_plain result ≡ true
  pub outcome : (n : ℕ) (input : List ℤ) → 1 ≤ n → outcome n result input ≡ outcome n source input
  pub turns : (n : ℕ) (input : List ℤ) → 1 ≤ n → turns_of n result input ≡ turns_of n source input
  pub loops : skeleton result ≡ skeleton source

-- The program stands for one that is built: it is that one with its directives carried out, which does the same, and is
-- that one itself where it has no directive. It breaks no name rule and has height at most 256.
pub record StandsFor (source : placed.Program) (result : Program) : Type 0 where
  pub built : IsBuilt source
  pub text : result ≡ carried_out (forget_program source)
  pub carried_out : CarriesOut result (forget_program source)
  pub unchanged : is_plain (forget_program source) ≡ true → result ≡ forget_program source
  pub names : BreaksNone result
  pub height : program_height result ≤ most_height

-- The program carries out the one that the text reads as, and is that one itself where it has no directive. It breaks no
-- name rule and has height at most 256.
pub record IsTranslatedTree (text : List ℕ) (result : Program) : Type 0 where
  pub source : Program
  pub reads : Reads text source
  pub carried_out : CarriesOut result source
  pub unchanged : is_plain source ≡ true → result ≡ source
  pub names : BreaksNone result
  pub height : program_height result ≤ most_height

-- both texts read as programs, of which the one carries out the other; what is written is the printed form of a program
pub record IsTranslation (text written : List ℕ) : Type 0 where
  pub result : Program
  pub tree : IsTranslatedTree text result
  pub reads_back : Reads written result
  pub in_printed_form : written ≡ printed result

-- the text is accepted
abbrev pub IsAccepted : List ℕ → Type 0
IsAccepted text = (tokens : List Token) × (program : placed.Program) × Cut text tokens × SpellsAdmitted tokens program × IsBuilt program

-- the text is that of a program which breaks no rule
abbrev pub IsAdmittedText : List ℕ → placed.Program → Type 0
IsAdmittedText text program = (tokens : List Token) × Cut text tokens × SpellsAdmitted tokens program
