-- Without the declarations that nothing reads, a nest breaks no name rule that it didn't break.
use Rattle.std.proofs.Common.{◌≡◌, sym, ap, ◌∙◌, Some, None, Bool, true, false, not}
use Rattle.std.specs.Prelude.{is_some, if◌then◌else◌}
use Rattle.c_tree.specs.Bare.{Name, Stmt, decl, Stmts, no_stmts, more_stmts}
use Rattle.c_tree.specs.NameRules.Scopes.{Scope, find, is_taken, declare, a_scalar, inner, after_stmt}
use Rattle.c_tree.specs.declared.name_rule.NameRule.TheVariants.{N2}
use Rattle.c_semantics.specs.Laws.Apart.{Differ}
use Rattle.c_soundness.specs.NeverStuck.{AllPlain}
use Rattle.c_soundness.specs.Unplaced.{unplaced_stmt}
use Rattle.c_soundness.proofs.Fits.{none_if}
use Rattle.loop_normal.specs.Gens.{GenLoop, gen_loop, Inner, Nest, Seq, Looped, Plain, Parts, no_parts, more_parts, join, counter_loop, loop_stmts, inner_stmts, parts_stmts}
use Rattle.loop_normal.specs.Templates.{only, on_first}
use Rattle.nest_normal.specs.Spelled.{in_loop, before, before_if_read, all_if_read, without_unread, below_without_unread}
use Rattle.nest_normal.proofs.SpelledNames.{nest_uses}
use Rattle.nest_normal.proofs.UnreadLets.{by_value}
use Rattle.template_laws.specs.Names.{BreaksNone, IsOne}
use Rattle.template_laws.proofs.Lists.{first_has, loop_has, has_loop}
use Rattle.template_laws.proofs.Kept.{all_if_read_has, unread_below_kept}
use Rattle.template_laws.proofs.Plain.{AnyName, AnyExpr, AnyNumber, plain_each}
use Rattle.template_laws.proofs.Scopes.{is_added, meaning_other}
use Rattle.template_laws.proofs.Seen.{Sees, stmts_seen}
use Rattle.template_laws.proofs.LoopNames.{after_all, join_breaks, first_breaks, second_breaks, in_loop as in_head, of_loop}

module _ (inside : Bool) where
  -- a scope without a variable, for all other names
  sees_without : (x : Name) (s : Scope) → is_taken s x ≡ false → Sees (λ y. Differ y x) None (declare x a_scalar s) s
  sees_without x s free = record {
    same = record { meaning = λ y d. sym (meaning_other s x y d); print_same = sym (ap (λ u. u.print_known) (is_added s x free)); input_same = sym (ap (λ u. u.input_known) (is_added s x free)) };
    own = λ y d o none. sym (ap (λ b. is_some (if b then Some a_scalar else find y s.here)) d) ∙ sym (ap (λ u. is_some (find y u.here)) (is_added s x free)) ∙ none;
  }

  let_breaks_none : (il : Bool) (s : Scope) (d : Stmt) (l : GenLoop) → AllPlain (loop_stmts l) → BreaksNone inside il s (only d) → BreaksNone inside il (after_stmt s (unplaced_stmt d)) (loop_stmts l) → BreaksNone inside il s (loop_stmts (before_if_read d l))
  let_breaks_none il s (decl t x e) (gen_loop ls c a b inner') plain h k =
      let l = gen_loop ls c a b inner' in
      by_value (λ r. BreaksNone inside il s (loop_stmts (if not r then l else before (decl t x e) l))) (in_loop x l)
      (λ r. (h.0, k))
      (λ r. stmts_seen (λ y. Differ y x) inside (loop_stmts l) None il (declare x a_scalar s) s (sees_without x s (none_if (is_taken s x) N2 0 h.0.0)) (nest_uses x l r) plain tt k)
  let_breaks_none il s d (gen_loop ls c a b inner') plain h k = (h.0, k)

  all_break_none : (il : Bool) (s : Scope) (ls : Stmts) (l : GenLoop) → AllPlain ls → AllPlain (loop_stmts l) → BreaksNone inside il s ls → BreaksNone inside il (after_all s ls) (loop_stmts l) → BreaksNone inside il s (loop_stmts (all_if_read ls l))
  all_break_none il s no_stmts l p q h k = k
  all_break_none il s (more_stmts d ls) l p q h k =
      let_breaks_none il s d (all_if_read ls l) (all_if_read_has AnyName AnyExpr AnyNumber AllPlain plain_each ls l p.1 q) (h.0, tt) (all_break_none il (after_stmt s (unplaced_stmt d)) ls l p.1 q h.1 k)

  mutual
    unread_breaks_none : (il : Bool) (s : Scope) (l : GenLoop) → AllPlain (loop_stmts l) → BreaksNone inside il s (loop_stmts l) → BreaksNone inside il s (loop_stmts (without_unread l))
    unread_breaks_none il s (gen_loop ls c a b inner') plain h =
        let loop = only (counter_loop c a b (inner_stmts inner')) in
        let below = below_without_unread inner' in
        let after = after_all s ls in
        let w = in_head inside il after c a b (inner_stmts inner') (second_breaks inside il ls loop s h) in
        let p = has_loop AnyName AnyExpr AnyNumber AllPlain plain_each ls c a b inner' plain in
        let list = inner_breaks_none (inner (declare c a_scalar (inner after))) inner' p.body w.below in
        all_break_none il s ls (gen_loop no_stmts c a b below) p.lets
        (loop_has AnyName AnyExpr AnyNumber AllPlain plain_each no_stmts c a b below (record { lets = tt; counter = tt; from = tt; to = tt; body = unread_below_kept AnyName AnyExpr AnyNumber AllPlain plain_each inner' p.body }))
        (first_breaks inside il ls loop s h)
        (of_loop inside il after c a b (inner_stmts below) (record { free = w.free; from = w.from; to = w.to; below = list }))

    inner_breaks_none : (s : Scope) (inner' : Inner) → AllPlain (inner_stmts inner') → BreaksNone inside true s (inner_stmts inner') → BreaksNone inside true s (inner_stmts (below_without_unread inner'))
    inner_breaks_none s (Nest l) plain h = unread_breaks_none true s l plain h
    inner_breaks_none s (Seq ps) plain h = h

  -- the one nest of a Gen, changed and then without them
  pub nest_breaks_none : (f : GenLoop → GenLoop) (il : Bool) (s : Scope) (front : Stmts) (ps : Parts) → IsOne ps → AllPlain (parts_stmts (on_first f ps)) → BreaksNone inside il s (join front (parts_stmts (on_first f ps))) →
      BreaksNone inside il s (join front (parts_stmts (on_first (λ l. without_unread (f l)) ps)))
  nest_breaks_none f il s front no_parts one plain h = h
  nest_breaks_none f il s front (more_parts (Plain as') ps) one plain h = h
  nest_breaks_none f il s front (more_parts (Looped l) (more_parts p ps)) one plain h = absurd one
  nest_breaks_none f il s front (more_parts (Looped l) no_parts) one plain h =
      let nest = join (loop_stmts (f l)) no_stmts in
      let after = after_all s front in
      let here = first_breaks inside il (loop_stmts (f l)) no_stmts after (second_breaks inside il front nest s h) in
      let less = unread_breaks_none il after (f l) (first_has AnyName AnyExpr AnyNumber AllPlain plain_each (loop_stmts (f l)) no_stmts plain) here in
      join_breaks inside il front (join (loop_stmts (without_unread (f l))) no_stmts) s (first_breaks inside il front nest s h) (join_breaks inside il (loop_stmts (without_unread (f l))) no_stmts after less tt)
