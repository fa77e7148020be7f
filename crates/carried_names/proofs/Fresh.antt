-- Names that are drawn beside a program, at some time.
use Rattle.std.proofs.Common.{◌≡◌, refl, sym, ap, ◌∙◌, subst, ℕ, zero, suc, ◌+◌, false, arith}
use Rattle.std.specs.Prelude.{bytes_eq}
use Rattle.std.proofs.lemmas.Bool.{both_ways}
use Rattle.c_tree.specs.Bare.{Name}
use Rattle.loop_normal.specs.DrawnNames.{FreshNames, drawn, after_draw, after_draws, AreDigits}
use Rattle.loop_normal.proofs.FreshFrames.{same_name}
use Rattle.carried_out.proofs.SpentNames.{Spent, are_many}

many_more : (j k : ℕ) (f : FreshNames) → after_draws k (after_draws j f) ≡ after_draws (j + k) f
many_more zero k f = let e : k ≡ 0 + k = omega arith in ap (λ n. after_draws n f) e
many_more (suc j) k f = let e : suc (j + k) ≡ suc j + k = omega arith in many_more j k (after_draw f) ∙ ap (λ n. after_draws n f) e

module _ (start : FreshNames) where
  -- some draw gives the name
  abbrev pub Fresh : Name → Type 0
  Fresh y = (k : ℕ) × (drawn (after_draws k start) ≡ y)

  abbrev pub Source : Name → Type 0
  Source y = Fresh y → ⊥

  pub source : (y : Name) → Spent start y → Source y
  source y h (k, e) = both_ways (bytes_eq y y) (subst (λ z. bytes_eq z y ≡ false) e (h k)) (same_name y)

  -- what is left after some draws
  abbrev pub Reached : FreshNames → Type 0
  Reached f = (k : ℕ) × (after_draws k start ≡ f)

  pub reached_start : Reached start
  reached_start = (zero, refl)

  pub reached_more : (k : ℕ) (f : FreshNames) → Reached f → Reached (after_draws k f)
  reached_more k f r = (r.0 + k, sym (many_more r.0 k start) ∙ ap (after_draws k) r.1)

  pub drawn_fresh : (f : FreshNames) → Reached f → Fresh (drawn f)
  drawn_fresh f r = (r.0, ap drawn r.1)

  pub reached_digits : AreDigits start.digits → (f : FreshNames) → Reached f → AreDigits f.digits
  reached_digits d f r = subst (λ g. AreDigits g.digits) r.1 (are_many r.0 start d)
