-- What lists declare: statement by statement, and part by part.
use Rattle.std.proofs.Common.{◌≡◌, refl, ap, ◌∙◌, ℕ, ◌+◌, ◌<◌, ◌≤◌, List, length, drop, slice_index_or, Bool, true, false}
use Rattle.std.specs.Prelude.{if◌then◌else◌}
use Rattle.c_tree.specs.Bare.{Name, Stmts, no_stmts, more_stmts}
use Rattle.c_tree.specs.BareOf.{bare_stmt, bare_stmts}
use Rattle.c_tree.specs.declared.tree.Stmt.{Stmt}
use Rattle.c_tree.proofs.Walks.{rest_more, rest_none}
use Rattle.loop_normal.specs.Denotes.{lets_of}
use Rattle.loop_normal.specs.Gens.{GenLoop, gen_loop, Part, Looped, Plain, join, loop_stmts, inner_stmts, counter_loop, part_stmts, parts_stmts}
use Rattle.loop_normal.specs.GenOf.{bare_part, bare_parts}
use Rattle.loop_normal.specs.declared.generated.GenPart.{GenPart}
use Rattle.nest_normal.specs.NestTexts.{declares_name, declares, part_declares}
use Rattle.nest_normal.proofs.HiddenNames.{or_false}

declares_join : (x : Name) (a b : Stmts) → declares x (join a b) ≡ if declares x a then true else declares x b
declares_join x no_stmts b = refl
declares_join x (more_stmts a as') b = by (declares_name x a) (declares_join x as' b)
  where
    by : (t : Bool) → declares x (join as' b) ≡ (if declares x as' then true else declares x b) → (if t then true else declares x (join as' b)) ≡ if (if t then true else declares x as') then true else declares x b
    by true h = refl
    by false h = h

-- of a generated loop, what stands before it
pub declares_loop : (x : Name) (l : GenLoop) → declares x (loop_stmts l) ≡ declares x (lets_of l)
declares_loop x (gen_loop ls c a b inner) = declares_join x ls (more_stmts (counter_loop c a b (inner_stmts inner)) no_stmts) ∙ or_false (declares x ls)

declares_part : (x : Name) (p : Part) → declares x (part_stmts p) ≡ part_declares x p
declares_part x (Looped l) = declares_loop x l
declares_part x (Plain as') = refl

pub stmts_more : (x : Name) (xs : List Stmt) (i : ℕ) (a : Stmt) → i < length xs → a ≡ slice_index_or xs i a → declares x (bare_stmts (drop i xs)) ≡ if declares_name x (bare_stmt a) then true else declares x (bare_stmts (drop (i + 1) xs))
stmts_more x xs i = rest_more (λ ys. declares x (bare_stmts ys)) xs i

pub stmts_end : (x : Name) (xs : List Stmt) (i : ℕ) → length xs ≤ i → declares x (bare_stmts (drop i xs)) ≡ false
stmts_end x xs i = rest_none (λ ys. declares x (bare_stmts ys)) xs i

pub parts_more : (x : Name) (xs : List GenPart) (i : ℕ) (p : GenPart) → i < length xs → p ≡ slice_index_or xs i p →
    declares x (parts_stmts (bare_parts (drop i xs))) ≡ if part_declares x (bare_part p) then true else declares x (parts_stmts (bare_parts (drop (i + 1) xs)))
parts_more x xs i p within is =
    let rest = parts_stmts (bare_parts (drop (i + 1) xs)) in
    rest_more (λ ys. declares x (parts_stmts (bare_parts ys))) xs i p within is ∙ declares_join x (part_stmts (bare_part p)) rest ∙ ap (λ t. if t then true else declares x rest) (declares_part x (bare_part p))

pub parts_end : (x : Name) (xs : List GenPart) (i : ℕ) → length xs ≤ i → declares x (parts_stmts (bare_parts (drop i xs))) ≡ false
parts_end x xs i = rest_none (λ ys. declares x (parts_stmts (bare_parts ys))) xs i

pub ruleset declaring = (stmts_more, stmts_end, parts_more, parts_end)
