-- Behind which place of a program's items no define of a name stands, and no function of it.
use Rattle.std.specs.Prelude.{◌≡◌, ℕ, ◌<◌, ◌≤◌, List, Bool, length, slice_index_or, unwrap_or}
use Rattle.c_tree.specs.declared.tree.Ty.{Ty}
use Rattle.resolved_names.specs.declared.tree.Item.{Item}
use Rattle.resolved_names.specs.declared.tree.Item.TheVariants.{Define, Function}
use Rattle.resolved_names.specs.declared.tree.Param.{Param}
use Rattle.resolved_names.specs.declared.tree.Stmt.{Stmt}
use Rattle.c_meaning.specs.PlaceTables.{place_at}
use Rattle.c_meaning.specs.declared.last_items.LastItems.{LastItems}

-- the item is no define of this number
abbrev pub IsNoDefine : ℕ → Item → Type 0
IsNoDefine n y = (negative : Bool) (k : ℕ) (t : Ty) → y ≡ Define n negative k t → ⊥

-- the item is no function of this number
abbrev pub IsNoFunction : ℕ → Item → Type 0
IsNoFunction n y = (ps : List Param) (body : List Stmt) → y ≡ Function n ps body → ⊥

-- the last define and the last function of each number stand before these places
pub record StandBefore (last : LastItems) (items : List Item) : Type 0 where
  pub defines : (n j : ℕ) (y : Item) → unwrap_or (place_at last.defines n) 0 ≤ j → j < length items → y ≡ slice_index_or items j y → IsNoDefine n y
  pub functions : (n j : ℕ) (y : Item) → unwrap_or (place_at last.functions n) 0 ≤ j → j < length items → y ≡ slice_index_or items j y → IsNoFunction n y
