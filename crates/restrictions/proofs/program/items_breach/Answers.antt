-- One item more, what is visible after it, and what is known of functions.
use Rattle.std.proofs.Common.{◌≡◌, ◌∙◌, ap, subst}
use Rattle.c_tree.specs.BareOf.{bare_top}
use Rattle.c_semantics.specs.Meaning.FileVariables.{accesses_with}
use Rattle.loop_weight.proofs.Items.{same_frame}
use Rattle.restrictions.specs.Alike.{Alike}
use Rattle.restrictions.specs.Walks.{visible_with}
use Rattle.restrictions.proofs.Programs.{tops_step}
use Rattle.restrictions.proofs.program.items_breach.Goals as goal

pub each-preserved : goal.each-preserved
each-preserved c =
    let v = c.each.scope in
    let fs = c.each.functions in
    let gs = c.add_function.new.functions in
    let x = c.item-item.result in
    let w = c.add_item.new.self in
    let same : c.item_breach.new.scope ≡ v = c.in_ok-here.ensures.scope in
    let next : w ≡ visible_with v (bare_top x) = subst (λ s. w ≡ visible_with s (bare_top x)) same c.in_ok-add_item.ensures in
    let alike : Alike (accesses_with v.defines fs (bare_top x)) gs = subst (λ s. Alike (accesses_with s.defines fs (bare_top x)) gs) same c.in_ok-add_function.ensures in
    record {
      all = tops_step v w fs gs c.args.items.now c.each.item-index x c.each.found c.in_ok-here.here c.lesser-found.result _
          c.each-test.true c.item-item.is next alike c.in_ok-here.ensures.breach c.lesser-found.ensures c.each.invariant.all;
      outside = ap (λ s. s.state.frame) next ∙ (same_frame v.state (bare_top x) ∙ c.each.invariant.outside);
    }
