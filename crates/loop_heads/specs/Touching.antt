-- Sets of names, as lists of which only matters what they have, and what a function reads and assigns as two of them.
use Rattle.std.specs.Prelude.{◌≡◌, List, map, ◌||◌, Option, Some, None}
use Rattle.c_tree.specs.Bare.{Name}
use Rattle.c_semantics.specs.Meaning.FileVariables.{Access, FunctionAccess, has_name, no_access, access_of}
use Rattle.loop_heads.specs.declared.functions.Functions.TheInside.{Inside}

-- what has a name, and what has it after these were put in
pub record Grows (old : List Name) (xs : List Name) (new : List Name) : Type 0 where
  pub has : (x : Name) → has_name new x ≡ (has_name old x || has_name xs x)

pub record Gains (old : Access) (a : Access) (new : Access) : Type 0 where
  pub reads : Grows old.reads a.reads new.reads
  pub assigns : Grows old.assigns a.assigns new.assigns

-- from `start`, these names are put in, of which `rest` are left at `now`
pub record Continues (start : List Name) (all : List Name) (rest : List Name) (now : List Name) : Type 0 where
  pub ends : (end : List Name) → Grows now rest end → Grows start all end

pub record GainsOn (start : Access) (all : Access) (rest : Access) (now : Access) : Type 0 where
  pub ends : (end : Access) → Gains now rest end → Gains start all end

-- the same names are read and the same are assigned
pub record IsSame (a : Access) (b : Access) : Type 0 where
  pub reads : (x : Name) → has_name a.reads x ≡ has_name b.reads x
  pub assigns : (x : Name) → has_name a.assigns x ≡ has_name b.assigns x

-- of each function
pub record AreSame (fs : List FunctionAccess) (gs : List FunctionAccess) : Type 0 where
  pub each : (f : Name) → IsSame (access_of fs f) (access_of gs f)

abbrev pub or_no_access : Option Access → Access
or_no_access None = no_access
or_no_access (Some a) = a

abbrev pub functions_of : Inside → List FunctionAccess
functions_of t = map (λ e. record { name = e.0; access = e.1 }) t.table.entries
