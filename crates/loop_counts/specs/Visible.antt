-- What is visible at a place, as the code keeps it.
use Rattle.std.specs.Prelude.{List, [], Bool, true, false}
use Rattle.c_semantics.specs.Meaning.State.{State, nowhere}
use Rattle.c_semantics.specs.Meaning.Expressions.{Define}
use Rattle.loop_counts.specs.declared.scope.Scope.TheInside.{Inside}

-- the defines, the latest first, and the variables, none of which has a value
pub record Visible : Type 0 where
  pub defines : List Define
  pub state : State

abbrev pub nothing_visible : Visible
nothing_visible = record { defines = []; state = nowhere }

abbrev pub visible_of : Inside → Visible
visible_of s = record {
  defines = s.defines;
  state = record {
    frame = s.frame;
    globals = s.globals;
    lines = [];
    input = [];
    turns = 0;
  };
}

-- the visible variables, or none
abbrev pub where_visible : Bool → State → State
where_visible true s = s
where_visible false s = nowhere
