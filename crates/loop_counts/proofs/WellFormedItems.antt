-- Each item of a well-formed program is well formed.
use Rattle.std.proofs.Common.{◌≡◌, sym, subst, ◌<◌, ℕ, zero, suc, List, [], ◌∷◌, map, length, slice_index_or, arith}
use Rattle.c_tree.specs.BareOf.{bare_top}
use Rattle.c_tree.specs.WellFormed.{WellFormedTop, WellFormedTops}
use Rattle.c_tree.specs.declared.tree.Item.{Item}

pub top_well_formed : (xs : List Item) (i : ℕ) (x : Item) → i < length xs → x ≡ slice_index_or xs i x → WellFormedTops (map bare_top xs) → WellFormedTop (bare_top x)
top_well_formed [] i x h at k = absurd (omega (arith, h))
top_well_formed (y ∷ ys) zero x h at k = subst (λ z. WellFormedTop (bare_top z)) (sym at) k.0
top_well_formed (y ∷ ys) (suc i) x h at k = top_well_formed ys i x (omega (arith, h)) at k.1
