-- The answers break no name rule.
use Rattle.std.proofs.Common.{◌≡◌, refl, ap, ◌∙◌, ℕ, suc, Option, Some, None, Bool, true, false}
use Rattle.std.specs.Prelude.{if◌then◌else◌}
use Rattle.c_tree.specs.Bare.{Name, Expr, Stmt, decl, Stmts, no_stmts, more_stmts}
use Rattle.c_tree.specs.NameRules.Scopes.{Scope}
use Rattle.c_semantics.specs.Laws.Names.{Names, UsesAll}
use Rattle.c_soundness.specs.NeverStuck.{AllPlain}
use Rattle.loop_normal.specs.DrawnNames.{FreshNames, drawn, after_draws}
use Rattle.loop_normal.specs.Gens.{GenLoop, gen_loop, Inner, Nest, Seq, Looped, Plain, Parts, no_parts, more_parts, Gen, let_stmt, loop_stmts, inner_stmts, parts_stmts, emit}
use Rattle.loop_normal.specs.Templates.{put_let, rebased, on_first, begins_at_zero}
use Rattle.loop_normal.specs.FromZero.{from_zero}
use Rattle.loop_normal.proofs.FreshFrames.{differ_sym}
use Rattle.nest_normal.specs.NestTexts.{declares, counted_to, at_loop, zero_in, with_count}
use Rattle.permute_reverse.specs.Reversed.{reversed, reversed_gen}
use Rattle.template_laws.specs.Names.{BreaksNone, NeverDrawn, DrawsApart, Unseen, IsOrderlyBelow, FirstIsOrderly, IsFine, IsOne}
use Rattle.template_laws.proofs.Lists.{first_has, second_has, has_loop}
use Rattle.template_laws.proofs.Kept.{HasIf, gen_kept, first_kept, ended_kept, rebased_kept}
use Rattle.template_laws.proofs.Plain.{AnyName, AnyExpr, AnyNumber, plain_each}
use Rattle.template_laws.proofs.Unread.{nest_breaks_none}
use Rattle.nest_normal.proofs.NamesMore.{all_more}
use Rattle.template_laws.proofs.Seen.{sees_self}
use Rattle.template_laws.proofs.LoopNames.{after_all, join_breaks, names_each, unseen_after}
use Rattle.template_laws.proofs.Changed.{Given, same_list, first_given, rest_given, Changes, reversed_changes, fixed_changes, to_literal_changes, at_loop_changes, rebased_changes}

-- ---- the first loop of a Gen

module _ (f : FreshNames) (inside : Bool) where
  first_breaks_none : (h : GenLoop → GenLoop) → Changes f inside h → (il : Bool) (s : Scope) (ps : Parts) → FirstIsOrderly ps → Unseen f s → Given f inside None il s s (parts_stmts ps) → BreaksNone inside il s (parts_stmts (on_first h ps))
  first_breaks_none h changes il s no_parts orderly unseen g = g.none
  first_breaks_none h changes il s (more_parts (Plain as') ps) orderly unseen g = g.none
  first_breaks_none h changes il s (more_parts (Looped l) ps) orderly unseen g =
      let first = changes None il s s l orderly unseen (first_given f inside None il s s (loop_stmts l) (parts_stmts ps) g) in
      let rest = rest_given f inside None il s s (after_all s (loop_stmts (h l))) (loop_stmts l) (parts_stmts ps) g first.after in
      join_breaks inside il (loop_stmts (h l)) (parts_stmts ps) s first.none (same_list f inside None il (after_all s (loop_stmts l)) (after_all s (loop_stmts (h l))) (parts_stmts ps) rest).none

  gen_breaks_none : (h : GenLoop → GenLoop) → Changes f inside h → (il : Bool) (s : Scope) (g : Gen) → IsFine inside il s f g → BreaksNone inside il s (emit (record { front = g.front; parts = on_first h g.parts }))
  gen_breaks_none h changes il s g w =
      let all : Given f inside None il s s (emit g) = record { sees = sees_self (NeverDrawn f) s; names = w.names; plain = w.plain; others = tt; none = w.none } in
      let front = first_given f inside None il s s g.front (parts_stmts g.parts) all in
      let after = after_all s g.front in
      let rest = rest_given f inside None il s s after g.front (parts_stmts g.parts) all (same_list f inside None il s s g.front front).after in
      join_breaks inside il g.front (parts_stmts (on_first h g.parts)) s front.none (first_breaks_none h changes il after g.parts w.orderly (unseen_after f inside g.front s front.names w.unseen) rest)

-- ---- to begin at 0

abbrev to_zero : FreshNames → Gen → Gen
to_zero f g = record { front = g.front; parts = on_first (rebased (drawn f) (drawn (after_draws 1 f)) (drawn (after_draws 2 f))) g.parts }

to_zero_breaks_none : (inside il : Bool) (s : Scope) (f : FreshNames) (g : Gen) → IsFine inside il s f g → BreaksNone inside il s (emit (to_zero f g))
to_zero_breaks_none inside il s f g w = gen_breaks_none f inside (rebased (drawn f) (drawn (after_draws 1 f)) (drawn (after_draws 2 f))) (rebased_changes f inside w.apart) il s g w

pub rebase_breaks_none : (inside il : Bool) (s : Scope) (f : FreshNames) (g : Gen) → IsFine inside il s f g → BreaksNone inside il s (emit (from_zero f g))
rebase_breaks_none inside il s f g w = by (begins_at_zero g.parts)
  where
    by : (t : Bool) → BreaksNone inside il s (emit (if t then g else to_zero f g))
    by true = w.none
    by false = to_zero_breaks_none inside il s f g w

-- ---- a known count

module _ (inside il : Bool) (s : Scope) (f : FreshNames) (d k : ℕ) where
  known_breaks_none : (r : Option Name) → HasIf AnyName r → Changes f inside (at_loop d (counted_to k r)) → (g : Gen) → IsFine inside il s f g → IsOne g.parts → BreaksNone inside il s (emit (with_count d k r g))
  known_breaks_none r any changes g w one =
      let ended = at_loop d (counted_to k r) in
      let plain = first_kept AnyName AnyExpr AnyNumber AllPlain plain_each ended (ended_kept AnyName AnyExpr AnyNumber AllPlain plain_each d k r tt any) g.parts (second_has AnyName AnyExpr AnyNumber AllPlain plain_each g.front (parts_stmts g.parts) w.plain) in
      nest_breaks_none inside ended il s g.front g.parts one plain (gen_breaks_none f inside ended changes il s g w)

  pub count_breaks_none : (g : Gen) → IsFine inside il s f g → IsOne g.parts → BreaksNone inside il s (emit (with_count d k (if zero_in d g.parts then None else Some (drawn f)) g))
  count_breaks_none g w one = by (zero_in d g.parts)
    where
      by : (t : Bool) → BreaksNone inside il s (emit (with_count d k (if t then None else Some (drawn f)) g))
      by true = known_breaks_none None tt (at_loop_changes f inside d (counted_to k None) (to_literal_changes f inside k)) g w one
      by false = known_breaks_none (Some (drawn f)) tt (at_loop_changes f inside d (counted_to k (Some (drawn f))) (fixed_changes f inside k 0)) g w one

-- ---- a reversal, after the loop was brought to begin at 0

module _ (f : FreshNames) (apart : DrawsApart f) where
  abbrev left : FreshNames
  left = after_draws 3 f

  left_apart : DrawsApart left
  left_apart j k = apart (suc (suc (suc j))) k

  still_undrawn : (y : Name) → NeverDrawn f y → NeverDrawn left y
  still_undrawn y h k = h (suc (suc (suc k)))

  first_undrawn : NeverDrawn left (drawn f)
  first_undrawn k = apart 0 (suc (suc k))

  second_undrawn : NeverDrawn left (drawn (after_draws 1 f))
  second_undrawn k = apart 1 (suc k)

  third_undrawn : NeverDrawn left (drawn (after_draws 2 f))
  third_undrawn k = apart 2 k

  -- a new name isn't declared
  new_undeclared : (k : ℕ) (as' : Stmts) → UsesAll (NeverDrawn f) (NeverDrawn f) as' → declares (drawn (after_draws k f)) as' ≡ false
  new_undeclared k no_stmts n = refl
  new_undeclared k (more_stmts (decl t x e) as') n = ap (λ b. if b then true else declares (drawn (after_draws k f)) as') (n.0.0 k) ∙ new_undeclared k as' n.1
  new_undeclared k (more_stmts a as') n = new_undeclared k as' n.1

  let_undeclared : (k : ℕ) (c : Name) (e : Expr) (inner' : Inner) → NeverDrawn f c → UsesAll (NeverDrawn f) (NeverDrawn f) (inner_stmts inner') → declares (drawn (after_draws k f)) (inner_stmts (put_let (let_stmt c e) inner')) ≡ false
  let_undeclared k c e (Nest (gen_loop ls d a b inner')) p n = ap (λ t. if t then true else declares (drawn (after_draws k f)) (loop_stmts (gen_loop ls d a b inner'))) (p k) ∙ new_undeclared k (loop_stmts (gen_loop ls d a b inner')) n
  let_undeclared k c e (Seq ps) p n = ap (λ t. if t then true else declares (drawn (after_draws k f)) (parts_stmts ps)) (p k) ∙ new_undeclared k (parts_stmts ps) n

  let_orderly : (d : Stmt) (inner' : Inner) → IsOrderlyBelow inner' → IsOrderlyBelow (put_let d inner')
  let_orderly d (Nest (gen_loop ls c a b inner')) h = h
  let_orderly d (Seq ps) h = tt

  rebased_orderly : (ps : Parts) → UsesAll (NeverDrawn f) (NeverDrawn f) (parts_stmts ps) → FirstIsOrderly ps → FirstIsOrderly (on_first (rebased (drawn f) (drawn (after_draws 1 f)) (drawn (after_draws 2 f))) ps)
  rebased_orderly no_parts n h = tt
  rebased_orderly (more_parts (Plain as') ps) n h = tt
  rebased_orderly (more_parts (Looped (gen_loop ls c a b inner')) ps) n h =
      let own = first_has (NeverDrawn f) (Names (NeverDrawn f)) AnyNumber (UsesAll (NeverDrawn f) (NeverDrawn f)) (names_each (NeverDrawn f)) (loop_stmts (gen_loop ls c a b inner')) (parts_stmts ps) n in
      let names = has_loop (NeverDrawn f) (Names (NeverDrawn f)) AnyNumber (UsesAll (NeverDrawn f) (NeverDrawn f)) (names_each (NeverDrawn f)) ls c a b inner' own in
      (tt, differ_sym (drawn (after_draws 2 f)) (drawn (after_draws 1 f)) (apart 1 0), let_undeclared 2 c _ inner' names.counter names.body, let_orderly _ inner' h.3)

  to_zero_fine : (inside il : Bool) (s : Scope) (g : Gen) → IsFine inside il s f g → IsFine inside il s left (to_zero f g)
  to_zero_fine inside il s g w =
      let change = rebased (drawn f) (drawn (after_draws 1 f)) (drawn (after_draws 2 f)) in
      let S = NeverDrawn left in
      record {
        apart = left_apart;
        unseen = λ k. w.unseen (suc (suc (suc k)));
        names = gen_kept S (Names S) AnyNumber (UsesAll S S) (names_each S) change (rebased_kept S (Names S) AnyNumber (UsesAll S S) (names_each S) _ _ _ first_undrawn second_undrawn third_undrawn) g (all_more (NeverDrawn f) S still_undrawn (emit g) w.names);
        plain = gen_kept AnyName AnyExpr AnyNumber AllPlain plain_each change (rebased_kept AnyName AnyExpr AnyNumber AllPlain plain_each _ _ _ tt tt tt) g w.plain;
        orderly = rebased_orderly g.parts (second_has (NeverDrawn f) (Names (NeverDrawn f)) AnyNumber (UsesAll (NeverDrawn f) (NeverDrawn f)) (names_each (NeverDrawn f)) g.front (parts_stmts g.parts) w.names) w.orderly;
        none = to_zero_breaks_none inside il s f g w;
      }

reversed_breaks_none : (inside il : Bool) (s : Scope) (f : FreshNames) (g : Gen) → IsFine inside il s f g → BreaksNone inside il s (emit (reversed_gen (drawn f) g))
reversed_breaks_none inside il s f g w = gen_breaks_none f inside (reversed (drawn f)) (reversed_changes f inside 0) il s g w

pub reverse_breaks_none : (inside il : Bool) (s : Scope) (f : FreshNames) (g : Gen) → IsFine inside il s f g →
    BreaksNone inside il s (emit (reversed_gen (drawn (if begins_at_zero g.parts then f else after_draws 3 f)) (from_zero f g)))
reverse_breaks_none inside il s f g w = by (begins_at_zero g.parts)
  where
    by : (t : Bool) → BreaksNone inside il s (emit (reversed_gen (drawn (if t then f else after_draws 3 f)) (if t then g else to_zero f g)))
    by true = reversed_breaks_none inside il s f g w
    by false = reversed_breaks_none inside il s (after_draws 3 f) (to_zero f g) (to_zero_fine f w.apart inside il s g w)
