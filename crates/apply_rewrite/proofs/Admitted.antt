-- What stands for an admitted program whose directives are all `reverse`: one that does the same, and is a checked one.
use Rattle.std.proofs.Common.{◌≡◌, sym, subst, ◌≤◌, [], true, ℕ, List, ℤ}
use Rattle.c_tree.specs.BareOf.{bare_program}
use Rattle.c_tree.specs.Checked.{most_height, IsChecked}
use Rattle.c_tree.specs.Height.{program_height}
use Rattle.c_tree.specs.PlacedOf.{placed_program}
use Rattle.c_tree.specs.WellFormed.{WellFormed, WellFormedTops}
use Rattle.c_tree.specs.declared.tree.Program.{Program}
use Rattle.c_tree.specs.NameRules.Programs.{nothing_known}
use Rattle.c_tree.proofs.Forgotten.Programs.{bare_program_is}
use Rattle.c_semantics.specs.Meaning.State.{nowhere}
use Rattle.c_semantics.specs.Meaning.Programs.{outcome, turns_of}
use Rattle.c_semantics.specs.Structure.Skeleton.{skeleton}
use Rattle.c_soundness.specs.NameBreaches as names
use Rattle.c_soundness.proofs.Unplaced.{breaches_without_places}
use Rattle.canonical_nests.specs.Admitted.{BreaksNone, IsAdmitted}
use Rattle.canonical_nests.specs.LoopRules.BreachSets.{or_else}
use Rattle.canonical_nests.specs.LoopRules.Programs.{first_directive, nest_breaches, height_breaches, weight_breaches}
use Rattle.carried_out.specs.AllReverse.{all_reverse}
use Rattle.carried_out.specs.CarriedOut.{carried_out}
use Rattle.carried_out.specs.Reversible.{is_reversible_program}
use Rattle.canonical_nests.proofs.BreachSets.{neither_breaks}
use Rattle.carried_admitted.proofs.Programs.{reversible_items, nothing_seen}
use Rattle.carried_heights.proofs.Admitted.{admitted_low}
use Rattle.carried_names.proofs.Rules.{admitted_breaks_none}
use Rattle.apply_rewrite.specs.NoDirectives.{HoldsNoDirective}
use Rattle.apply_rewrite.specs.Rewritten.{ProgramRewritten}
use Rattle.apply_rewrite.proofs.RunsAlike.{runs_alike}
use Rattle.apply_rewrite.proofs.Skeletons.{same_skeleton}
use Rattle.apply_rewrite.proofs.WellFormedCode.{stays_well_formed}

is_carried : (source : Program) → IsAdmitted source → all_reverse (bare_program source) ≡ true → is_reversible_program (bare_program source) ≡ true
is_carried source admitted all =
    let p = placed_program source in
    let same = bare_program_is source in
    let rules = neither_breaks (nest_breaches p) (or_else (height_breaches (first_directive p) p) (weight_breaches (first_directive p) p)) admitted.no_breach in
    subst (λ q. is_reversible_program q ≡ true) (sym same)
    (reversible_items [] [] nothing_known nowhere nowhere p nothing_seen admitted.checked.no_breach rules.0
    (subst (λ q. all_reverse q ≡ true) same all) (subst (λ q. WellFormedTops q) same admitted.checked.well_formed.0))

is_checked : (source result : Program) → IsAdmitted source → is_reversible_program (bare_program source) ≡ true → bare_program result ≡ carried_out (bare_program source) → IsChecked result
is_checked source result admitted h e =
    let unbroken : names.BreaksNone (bare_program result) = subst names.BreaksNone (sym e) (admitted_breaks_none source admitted h) in
    record {
      well_formed = subst WellFormed (sym e) (stays_well_formed (bare_program source) h admitted.checked.well_formed);
      no_breach = (breaches_without_places (placed_program result)).1 (subst names.BreaksNone (bare_program_is result) unbroken);
      height = subst (λ q. program_height q ≤ most_height) (sym e) (admitted_low source admitted);
    }

pub record Stands (source result : Program) : Type 0 where
  pub checked : IsChecked result
  pub rewritten : ProgramRewritten [] nowhere (bare_program source) (bare_program result)
  pub plain : HoldsNoDirective (bare_program result)
  pub outcome : (n : ℕ) (input : List ℤ) → outcome n (bare_program result) input ≡ outcome n (bare_program source) input
  pub turns : (n : ℕ) (input : List ℤ) → turns_of n (bare_program result) input ≡ turns_of n (bare_program source) input
  pub structure : skeleton (bare_program result) ≡ skeleton (bare_program source)

carried_stands : (source result : Program) → IsAdmitted source → all_reverse (bare_program source) ≡ true → bare_program result ≡ carried_out (bare_program source) → Stands source result
carried_stands source result admitted all e =
    let h = is_carried source admitted all in
    let law = runs_alike (bare_program source) admitted.checked.well_formed h in
    record {
      checked = is_checked source result admitted h e;
      rewritten = subst (ProgramRewritten [] nowhere (bare_program source)) (sym e) law.0;
      plain = subst HoldsNoDirective (sym e) law.1;
      outcome = λ n input. subst (λ q. outcome n q input ≡ outcome n (bare_program source) input) (sym e) (law.2 n input).0;
      turns = λ n input. subst (λ q. turns_of n q input ≡ turns_of n (bare_program source) input) (sym e) (law.2 n input).1;
      structure = subst (λ q. skeleton q ≡ skeleton (bare_program source)) (sym e) (same_skeleton (bare_program source) h);
    }

-- the program that was admitted, as it was taken out
pub stands : (source checked program result : Program) → checked ≡ source → BreaksNone checked → program ≡ checked → IsChecked program → all_reverse (bare_program source) ≡ true
    → bare_program result ≡ carried_out (bare_program source) → Stands source result
stands source checked program result same unbroken taken well all e =
    carried_stands source result (record { checked = subst IsChecked same (subst IsChecked taken well); no_breach = subst BreaksNone same unbroken }) all e
