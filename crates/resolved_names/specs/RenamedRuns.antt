-- What a run becomes where its program is renamed: the names of its variables change, and nothing else.
use Rattle.std.specs.Prelude.{ℕ, ◌≡◌, List, map, ℤ, bytes_eq}
use Rattle.c_tree.specs.Bare.{Name, Program}
use Rattle.c_semantics.specs.Meaning.State.{Var, State}
use Rattle.c_semantics.specs.Meaning.Runs.{Run}
use Rattle.c_semantics.specs.Meaning.Programs.{run_program}
use Rattle.resolved_names.specs.Renaming.{Renaming, renamed_program, PlainProgram}

abbrev pub renamed_var : Renaming → Var → Var
renamed_var f v = record { name = f v.name; cell = v.cell }

abbrev pub renamed_vars : Renaming → List Var → List Var
renamed_vars f = map (renamed_var f)

abbrev pub renamed_state : Renaming → State → State
renamed_state f s = record s { frame = renamed_vars f s.frame; globals = renamed_vars f s.globals }

abbrev pub renamed_run : Renaming → Run → Run
renamed_run f r = record { state = renamed_state f r.state; end = r.end }

-- different names stay different
abbrev pub Injective : Renaming → Type 0
Injective f = (x y : Name) → bytes_eq (f x) (f y) ≡ bytes_eq x y

abbrev pub RenamedRunsAlike : Type 0
RenamedRunsAlike =
    (f : Renaming) → Injective f → (p : Program) → PlainProgram p → (n : ℕ) (input : List ℤ)
    → run_program n (renamed_program f p) input ≡ renamed_run f (run_program n p input)
