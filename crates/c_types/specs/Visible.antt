-- What a table of declarations stands for.
use Rattle.std.specs.Prelude.{ℕ, ◌+◌, ◌≤◌, ◌-◌, length, take, drop, reverse}
use Rattle.c_tree.specs.NameRules.Scopes.{Scope}
use Rattle.c_tree.specs.NameRules.Programs.{Known, most_elements}
use Rattle.c_types.specs.declared.known.Table.TheInside.{Inside}

-- the latest declaration stands last, and those of the present scope begin at `start`
abbrev pub scope_of : Inside → Scope
scope_of t = record {
  here = reverse (drop t.start t.declared.declarations);
  outside = reverse (take t.start t.declared.declarations);
  print_known = t.print_known;
  input_known = t.input_known;
}

abbrev pub known_of : Inside → Known
known_of t = record { scope = scope_of t; names = t.declared.names; elements = t.elements }

-- the present scope begins within the declarations, and the elements are counted up to one more than the limit
pub record IsTable (t : Inside) : Type 0 where
  pub start : t.start ≤ length t.declared.declarations
  pub elements : t.elements ≤ most_elements + 1

-- the scope in which this one was entered, where so many declarations stand round that one
unfoldable pub scope_left : ℕ → Scope → Scope
scope_left round s = record s {
  here = take (length s.outside - round) s.outside;
  outside = drop (length s.outside - round) s.outside;
}
