-- The bare tree of a program.
use Rattle.std.proofs.Common.{◌≡◌, ap, refl, List, [], ◌∷◌, map}
use Rattle.c_tree.specs.Bare as b
use Rattle.c_tree.specs.BareOf.{bare_param, bare_top, bare_program}
use Rattle.c_tree.specs.PlacedOf.{placed_param, placed_top, placed_program}
use Rattle.c_tree.specs.Forget.{forget_param, forget_top, forget_program}
use Rattle.c_tree.specs.declared.tree.Param.{Param}
use Rattle.c_tree.specs.declared.tree.Item.{Item}
use Rattle.c_tree.specs.declared.tree.Item.TheVariants as i
use Rattle.c_tree.specs.declared.tree.Program.{Program}
use Rattle.c_tree.proofs.Forgotten.Exprs.{bare_exprs_is, bare_option_is}
use Rattle.c_tree.proofs.Forgotten.Stmts.{bare_stmts_is}

bare_params_is : (params : List Param) → map bare_param params ≡ map forget_param (map placed_param params)
bare_params_is [] = refl
bare_params_is (param ∷ params) = ap (λ rest. bare_param param ∷ rest) (bare_params_is params)

pub bare_top_is : (t : Item) → bare_top t ≡ forget_top (placed_top t)
bare_top_is (i.Define x negative n ty at) = refl
bare_top_is (i.Extern port s) = refl
bare_top_is (i.Global ty x at dims init) = λ i. b.global ty x (bare_exprs_is dims i) (bare_option_is init i)
bare_top_is (i.Function x at params ss s) = λ i. b.function x (bare_params_is params i) (bare_stmts_is ss i)
bare_top_is (i.Main ss s) = ap b.main (bare_stmts_is ss)

tops_are : (tops : List Item) → map bare_top tops ≡ map forget_top (map placed_top tops)
tops_are [] = refl
tops_are (top ∷ tops) = λ i. bare_top_is top i ∷ tops_are tops i

pub bare_program_is : (program : Program) → bare_program program ≡ forget_program (placed_program program)
bare_program_is program = tops_are program.items
