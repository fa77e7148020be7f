-- What the normal form of a nest denotes, loop by loop, and a loop of a known count.
use Rattle.std.specs.Prelude.{◌≡◌, ℕ, ◌<◌, ◌^◌, List, [], ◌∷◌, ◌++◌, true, false, ◌||◌, bytes_eq, Result, Ok, Option, Some, None, slice_get}
use Rattle.c_tree.specs.Bare.{Name, Stmts, no_stmts}
use Rattle.c_tree.specs.declared.tree.Ty.{Ty}
use Rattle.c_tree.specs.declared.arithmetic.Trap.{Trap}
use Rattle.c_tree.specs.Arithmetic.{and_then}
use Rattle.c_semantics.specs.Meaning.State.{Var, State}
use Rattle.c_semantics.specs.Meaning.SimpleStatements.{Env}
use Rattle.c_semantics.specs.Meaning.Statements.{exec_all}
use Rattle.c_semantics.specs.Loops.CanonicalForm.{Canonical, is_step_for}
use Rattle.c_semantics.specs.Loops.TripCount.{loop_type, entry}
use Rattle.c_semantics.specs.Loops.IterationTrees.{Tree, body}
use Rattle.c_semantics.specs.Loops.Forest.{loop_over}
use Rattle.c_semantics.specs.Loops.Execution.{Body}
use Rattle.c_semantics.specs.Laws.Names.{Names}
use Rattle.loop_normal.specs.Gens.{GenLoop}
use Rattle.loop_normal.specs.Templates.{LoopNames, SourceLoop, source_front, leaf, round}
use Rattle.loop_normal.specs.Denotes.{Calm, LoopMeans, GenMeans, Undeclared}
use Rattle.loop_normal.specs.FreshNames.{Among, Source, NamesNone, AreApart, Apart}
use Rattle.loop_normal.specs.Laws.{source_loop}
use Rattle.nest_normal.specs.NestTexts.{nest_of, innermost, hides, loop_round, nest_round, known_at, zero_at, with_count}
use Rattle.nest_normal.specs.NestDenotes.{HasNone, IsSteady, NestMeans}
use Rattle.nest_normal.specs.KnownCounts.{Turns, AllTurns, IsCounterFor, UndeclaredIf, AllFresh, DeclaresOwn}

-- the normal form of one loop is a nest
abbrev pub LeafIsNest : Type 0
LeafIsNest = (m : LoopNames) (h : SourceLoop) (as' : Stmts) → leaf m h as' ≡ nest_of (source_front m h no_stmts) (innermost m h as')

-- a nest hides the names of its loops' variables, and no others
abbrev pub HidesItsVariables : Type 0
HidesItsVariables =
    (m : LoopNames) (h : SourceLoop) (x : Name) → ((as' : Stmts) → hides (innermost m h as') x ≡ bytes_eq x h.var) × ((l : GenLoop) → hides (loop_round m h l) x ≡ (bytes_eq x h.var || hides l x))

-- a loop whose variable the nest doesn't hide is put round it by the template
abbrev pub RoundIsTemplate : Type 0
RoundIsTemplate = (m : LoopNames) (h : SourceLoop) (front : Stmts) (l : GenLoop) → hides l h.var ≡ false → nest_round m h (nest_of front l) ≡ round m h (nest_of front l)

-- what holds of a loop that is brought into normal form, and of its fresh names
pub record IsSource (names : List Name) (m : LoopNames) (c : Canonical) : Type 0 where
  pub step_fits : is_step_for c.test c.step ≡ true
  pub apart : AreApart m
  pub fresh : Among names m.begin × Among names m.end × Among names m.count × Among names m.counter
  pub var : Source (Among names) c.var
  pub lb : Names (Source (Among names)) c.lb
  pub ub : Names (Source (Among names)) c.ub

-- with the names that a loop takes
abbrev pub with_names : LoopNames → List Name → List Name
with_names m own = m.begin ∷ m.end ∷ m.count ∷ m.counter ∷ own

-- within the loops of the variables xs, the innermost loop denotes the loop over its body, or the trap of its entry
abbrev pub InnermostDenotes : Type 0
InnermostDenotes =
    (n : ℕ) (env : Env) (names : List Name) (bs : List Body) (c : Canonical) (T : Ty) (m : LoopNames) (as' : Stmts) (b : ℕ) (xs : List (Name × Ty)) →
    IsSource names m c → NamesNone (Among names) as' → slice_get bs b ≡ Some (record { vars = xs ++ (c.var, T) ∷ []; run = exec_all n env as' }) →
    (s : State) → loop_type env.defines s c ≡ T →
    NestMeans n env bs (Among names) (with_names m []) xs (source_front m (source_loop c T) no_stmts) (innermost m (source_loop c T) as') s
    (and_then (entry env.defines s c) (λ r. Ok (loop_over r (body b [] ∷ []))))

-- a loop round a nest denotes the loop over what the nest denotes, or the trap of its entry, or that of the nest's
abbrev pub RoundDenotes : Type 0
RoundDenotes =
    (n : ℕ) (env : Env) (names : List Name) (bs : List Body) (c : Canonical) (T : Ty) (m : LoopNames) (own : List Name) (xs : List (Name × Ty)) (front : Stmts) (l : GenLoop) →
    IsSource names m c → Apart m.begin own × Apart m.end own × Apart m.count own × Apart m.counter own → Undeclared m.count front × Undeclared m.counter front →
    (s : State) (r : Result (List Tree) Trap) → loop_type env.defines s c ≡ T →
    NestMeans n env bs (Among names) own (xs ++ (c.var, T) ∷ []) front l s r →
    NestMeans n env bs (Among names) (with_names m own) xs (source_front m (source_loop c T) front) (loop_round m (source_loop c T) l) s
    (and_then (entry env.defines s c) (λ e. and_then r (λ ts. Ok (loop_over e ts))))

-- a nest that stands within no loop denotes as a Gen what it denotes
abbrev pub NestDenotes : Type 0
NestDenotes =
    (n : ℕ) (env : Env) (names : List Name) (bs : List Body) (own : List Name) (front : Stmts) (l : GenLoop) (p : List Var) (s : State) (r : Result (List Tree) Trap) →
    HasNone own p → NestMeans n env bs (Among names) own [] front l s r → GenMeans n env bs (Among names) (nest_of front l) p s r

-- where the loops at a depth of a nest have a known count, the nest with that count denotes the same, without the
-- declarations that nothing reads any more
abbrev pub CountedNestDenotes : Type 0
CountedNestDenotes =
    (n : ℕ) (env : Env) (bs : List Body) (names : List Name) → Calm bs → (d k : ℕ) (r : Option Name) (l : GenLoop) (p : List Var) (t : Tree) →
    IsCounterFor (Among names) r d l p → k < 2 ^ 63 → Turns d k t → LoopMeans n env bs (Among names) l p t → LoopMeans n env bs (Among names) (known_at d k r l) p t

-- so does a Gen of one nest
abbrev pub CountedDenotes : Type 0
CountedDenotes =
    (n : ℕ) (env : Env) (bs : List Body) (names : List Name) → Calm bs → (d k : ℕ) (r : Option Name) (front : Stmts) (l : GenLoop) (p : List Var) (s : State) (f : Result (List Tree) Trap) →
    IsCounterFor (Among names) r d l p → UndeclaredIf r front → k < 2 ^ 63 → AllTurns d k f →
    GenMeans n env bs (Among names) (nest_of front l) p s f → GenMeans n env bs (Among names) (with_count d k r (nest_of front l)) p s f

-- where the loop begins at the literal 0, the nest stays steady
abbrev pub CountedIsSteady : Type 0
CountedIsSteady =
    (n : ℕ) (env : Env) (bs : List Body) (names : List Name) (d k : ℕ) (l : GenLoop) (p : List Var) → zero_at d l ≡ true → k < 2 ^ 63 → IsSteady n env bs (Among names) l p → IsSteady n env bs (Among names) (known_at d k None l) p

-- and it denotes the same within outer loops, where it declares fresh names of its own
abbrev pub CountedWithin : Type 0
CountedWithin =
    (n : ℕ) (env : Env) (bs : List Body) (names : List Name) → Calm bs → (d k : ℕ) (own : List Name) (xs : List (Name × Ty)) (front : Stmts) (l : GenLoop) (s : State) (r : Result (List Tree) Trap) →
    AllFresh (Among names) own → DeclaresOwn own l → zero_at d l ≡ true → k < 2 ^ 63 → AllTurns d k r →
    NestMeans n env bs (Among names) own xs front l s r → NestMeans n env bs (Among names) own xs front (known_at d k None l) s r
