-- Different names have different numbers.
use Rattle.std.proofs.Common.{◌≡◌, refl, ap, ◌∙◌, sym, ℕ, List, [], ◌∷◌, length, Bool, true, false, bytes_eq, Some, None, Result, Ok, Err, IfOk, arith}
use Rattle.std.specs.Prelude.{cond, nat_lt, get_or}
use Rattle.std.specs.List.{position_or_len}
use Rattle.std.specs.Bool.{one_answer}
use Rattle.std.specs.Cmp.Lexicographic.{bytes_decides}
use Rattle.std.proofs.lemmas.List.Sums.{passes_at_first}
use Rattle.std.proofs.lemmas.Bool.Decides.{nat_tests}
use Rattle.c_tree.specs.Bare.{Name, Program}
use Rattle.resolved_names.specs.Numbering.{name_at, numbering}
use Rattle.resolved_names.specs.Numbered.{numbered_tops}
use Rattle.resolved_names.specs.declared.tree.Item.{Item}
use Rattle.resolved_names.specs.Renaming.{renamed_program}
use Rattle.resolved_names.specs.RenamedRuns.{Injective}
use Rattle.resolved_names.specs.Resolved.{Resolved}

module _ (names : List Name) where
  -- the name that has become this one
  abbrev was : Name → Name
  was [] = []
  was (i ∷ []) = get_or names i []
  was (a ∷ b ∷ x) = x

  was_named : (x : Name) → was (numbering names x) ≡ x
  was_named x = by (nat_lt first (length names)) refl
    where
      first : ℕ
      first = position_or_len (bytes_eq x) names

      by : (b : Bool) → nat_lt first (length names) ≡ b → was (name_at x (cond b (Some first) None)) ≡ x
      by true h = sym ((bytes_decides x (get_or names first [])).0 (passes_at_first (bytes_eq x) names [] (grind (arith, nat_tests))))
      by false h = refl

  pub numbering_injective : Injective (numbering names)
  numbering_injective x y =
      one_answer _ _ (bytes_decides (numbering names x) (numbering names y))
      (λ h. ap (numbering names) ((bytes_decides x y).0 h), λ e. (bytes_decides x y).1 (sym (was_named x) ∙ (ap was e ∙ was_named y)))

  pub by_numbers : (p q : Program) → q ≡ renamed_program (numbering names) p → Resolved p q
  by_numbers p q e = record { renaming = numbering names; injective = numbering_injective; renamed = e }

  pub all_by_numbers : {E : Type 0} (p : Program) (r : Result (List Item) E) → IfOk r (λ rs. numbered_tops rs ≡ renamed_program (numbering names) p) → IfOk r (λ rs. Resolved p (numbered_tops rs))
  all_by_numbers p (Ok rs) h = by_numbers p (numbered_tops rs) h
  all_by_numbers p (Err e) h = tt
