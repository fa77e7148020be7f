-- A translation is accepted, and is translated to itself.
use Rattle.std.proofs.Common.{◌≡◌, ℕ, ◌≤◌, true, List, ◌∙◌, sym, ap, subst}
use Rattle.c_tree.specs.Forget.{forget_program}
use Rattle.c_tree.specs.Height.{program_height}
use Rattle.c_grammar.specs.Programs.{tops_of}
use Rattle.c_grammar.proofs.Shallow.{deep_where_above}
use Rattle.c_printer.specs.Programs.{printed}
use Rattle.c_printer.proofs.OneReading.{one_reading}
use Rattle.c_soundness.specs.NameBreaches.{BreaksNone}
use Rattle.c_soundness.proofs.Unplaced.{breaches_without_places}
use Rattle.c_meaning.specs.Plain.{is_plain}
use Rattle.translator.specs.Answers.{SpellsChecked, SpellsAdmitted, IsTranslation, IsAccepted}
use Rattle.translator.proofs.Plain.{plain_holds_none}
use Rattle.translator.proofs.Unbroken.{unbroken_without_directives}
use Rattle.translator.proofs.AllReverse.{nothing_to_build}

pub given_back : (text written again : List ℕ) → IsTranslation text written → IsTranslation written again → again ≡ written
given_back text written again t u =
    let same : t.result ≡ u.tree.source = one_reading written t.result u.tree.source t.reads_back u.tree.reads in
    let kept : u.result ≡ u.tree.source = u.tree.unchanged (subst (λ p. is_plain p ≡ true) same t.tree.carried_out.plain) in
    u.in_printed_form ∙ ap printed (kept ∙ sym same) ∙ sym t.in_printed_form

pub accepted_again : (text written : List ℕ) → IsTranslation text written → IsAccepted written
accepted_again text written t =
    let back = t.reads_back in
    let q = back.program in
    let items = back.spelled.items in
    let within : program_height (forget_program (tops_of items)) ≤ 256 =
    subst (λ b. program_height b ≤ 256) (sym back.same ∙ ap forget_program back.spelled.same) t.tree.height in
    let checked : SpellsChecked back.tokens q = record {
      tree = (items, back.spelled.spelled, sym back.spelled.same, (deep_where_above items).1 within);
      names = (breaches_without_places q).1 (subst BreaksNone (sym back.same) t.tree.names);
    } in
    let none = plain_holds_none q (subst (λ b. is_plain b ≡ true) (sym back.same) t.tree.carried_out.plain) in
    let admitted : SpellsAdmitted back.tokens q = record { checked = checked; loops = unbroken_without_directives q none } in
    (back.tokens, q, back.cut, admitted, nothing_to_build q none)
