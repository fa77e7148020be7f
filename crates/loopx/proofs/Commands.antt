-- Which command the words ask for, and when its answer is complete.
use Rattle.std.proofs.Common.{◌≡◌, ℕ, ℤ, List, [], ◌∷◌, Option, Some, None, map, IfSome, ◌⊎◌, refl, sym, ap, subst, inl, inr, ◌∙◌, arith, codes}
use Rattle.std.specs.Prelude.{string_bytes}
use Rattle.std.specs.Str.Parse.{digits_value}
use Rattle.translator.proofs.OneAnswer.{accepted_or_refused}
use Rattle.loopx.specs.Answer.{FitsText, IsComplete}
use Rattle.loopx.specs.Commands.{AsksFor}
use Rattle.loopx.specs.Words.{IsBound, Command, translate, run, Asks, AreNumbers, AskForNothing}
use Rattle.loopx.specs.declared.command.Command as code
use Rattle.loopx.specs.declared.command.Command.TheVariants as v
use Rattle.loopx.specs.declared.status.Status.{Status}
use Rattle.loopx.specs.declared.status.Status.TheVariants.{Done, Refused, Usage, ReadFault, WriteFault, Memory, TooLong, Trapped, Cut}
use Rattle.loopx.proofs.Numbers.{numbers_of_all}

some_asks : (words : List (List ℕ)) (command : code.Command) → AsksFor words command → (c : Command) × Asks words c
some_asks words v.Translate h = (translate, h)
some_asks words (v.Run bound numbers) h =
    let zs = numbers_of_all (map string_bytes numbers.now) h.3 in
    (run bound zs.0, (h.0, map string_bytes numbers.now, h.1, h.2, zs.1))

-- words that ask for a command don't ask for nothing
pub asks_for_some : (words : List (List ℕ)) (command : code.Command) → AsksFor words command → AskForNothing words → ⊥
asks_for_some words command h none = let c = some_asks words command h in none c.0 c.1

-- no fault was told
record Faultless (status : Status) : Type 0 where
  usage : status ≡ Usage → ⊥
  read : status ≡ ReadFault → ⊥
  write : status ≡ WriteFault → ⊥

complete : (command : Command) (status : Status) (text : List ℕ) → FitsText command status text → Faultless status → IsComplete command status text
complete command Done text fits faultless short = (λ accepted. inl (inl refl), λ refused. absurd (accepted_or_refused text fits.1 refused.0 refused.1 refused.2))
complete command Trapped text fits faultless short = (λ accepted. inl (inr (inl refl)), λ refused. absurd (accepted_or_refused text fits.1 refused.0 refused.1 refused.2))
complete command Cut text fits faultless short = (λ accepted. inl (inr (inr refl)), λ refused. absurd (accepted_or_refused text fits.1 refused.0 refused.1 refused.2))
complete command Refused text fits faultless short = (λ accepted. absurd (accepted_or_refused text accepted fits.1.0 fits.1.1 fits.1.2), λ refused. inl refl)
complete command Memory text fits faultless short = (λ accepted. inr refl, λ refused. inr refl)
complete command TooLong text fits faultless short = absurd (omega (arith, fits, short))
complete command Usage text fits faultless short = absurd (faultless.usage refl)
complete command ReadFault text fits faultless short = absurd (faultless.read refl)
complete command WriteFault text fits faultless short = absurd (faultless.write refl)

pub complete_of : (command : Command) (status : Status) (left : Option (List ℕ)) → IfSome left (FitsText command status) → (status ≡ Usage → ⊥) → (status ≡ ReadFault → ⊥) → (status ≡ WriteFault → ⊥) → IfSome left (IsComplete command status)
complete_of command status None fits usage read write = tt
complete_of command status (Some text) fits usage read write = complete command status text fits (record { usage = usage; read = read; write = write })

-- a fault of writing has one of two causes, none of which is there
pub no_write : {A B C : Type 0} → (A → B ⊎ C) → (B → ⊥) → (C → ⊥) → A → ⊥
no_write f b c a = elim (f a) as (λ x. ⊥) [ inl y ↦ b y | inr z ↦ c z ]

pub translate_only : (words : List (List ℕ)) (c : code.Command) (command : Command) → c ≡ v.Translate → AsksFor words c → Asks words command → command ≡ translate
translate_only words c translate is h asks = refl
translate_only words c (run bound input) is h asks =
    let one : words ≡ codes "translate" ∷ [] = subst (AsksFor words) is h in
    let more : words ≡ codes "run" ∷ asks.0 ∷ asks.1 = asks.2 in
    let same : codes "translate" ∷ [] ≡ codes "run" ∷ asks.0 ∷ asks.1 = sym one ∙ more in
    cc

-- words that begin alike
first_word : (x y : List ℕ) (ws vs : List (List ℕ)) → codes "run" ∷ x ∷ ws ≡ codes "run" ∷ y ∷ vs → (x ≡ y) × (ws ≡ vs)
first_word x y ws vs same = (cc, cc)

pub run_only : (words ws : List (List ℕ)) (word : List ℕ) (bound : ℕ) (command : Command) → words ≡ codes "run" ∷ word ∷ ws → IsBound word bound → Asks words command → (input : List ℤ) × (command ≡ run bound input) × AreNumbers ws input
run_only words ws word bound translate is of asks =
    let same : codes "translate" ∷ [] ≡ codes "run" ∷ word ∷ ws = sym asks ∙ is in
    absurd cc
run_only words ws word bound (run n input) is of asks =
    let same = first_word word asks.0 ws asks.1 (sym is ∙ asks.2) in
    let value : n ≡ bound = asks.3.value ∙ ap (digits_value 10) (sym same.0) ∙ sym of.value in
    (input, ap (λ k. run k input) value, subst (λ vs. AreNumbers vs input) (sym same.1) asks.4)
