-- Values of expressions: what settles an operator alone, and the place of an element.
use Rattle.std.proofs.Common.{◌≡◌, refl, Some, ℤ}
use Rattle.c_tree.specs.Arithmetic.{settles, bin_type, common}
use Rattle.c_tree.specs.declared.tree.BinOp.{BinOp}
use Rattle.c_tree.specs.declared.tree.BinOp.TheVariants.{Mul, Div, Rem, Add, Sub, Lt, Le, Gt, Ge, Eq, Ne, And, Or}
use Rattle.c_tree.specs.declared.tree.Ty.{Ty}
use Rattle.c_tree.specs.declared.tree.Ty.TheVariants.{Int, Long}
use Rattle.c_meaning.proofs.Lists.{exprs_more, exprs_end, well_formed_at}
use Rattle.c_meaning.proofs.Places.{within_start, within_next, within_more, step_fits}

pub settled_type : (op : BinOp) (x z : ℤ) (a b : Ty) → settles op x ≡ Some z → bin_type op a b ≡ Int
settled_type Mul x z a b h = absurd (cc)
settled_type Div x z a b h = absurd (cc)
settled_type Rem x z a b h = absurd (cc)
settled_type Add x z a b h = absurd (cc)
settled_type Sub x z a b h = absurd (cc)
settled_type Lt x z a b h = refl
settled_type Le x z a b h = refl
settled_type Gt x z a b h = refl
settled_type Ge x z a b h = refl
settled_type Eq x z a b h = refl
settled_type Ne x z a b h = refl
settled_type And x z a b h = refl
settled_type Or x z a b h = refl

pub common_swaps : (a b : Ty) → common a b ≡ common b a
common_swaps Int Int = refl
common_swaps Int Long = refl
common_swaps Long Int = refl
common_swaps Long Long = refl

pub ruleset values = (settled_type, common_swaps, exprs_more, exprs_end, well_formed_at, within_start, within_next, within_more, step_fits)
