-- Each item runs as its meaning does, and `main` is the last that runs.
use Rattle.std.proofs.Common.{subst}
use Rattle.resolved_names.specs.Numbered.{numbered_top}
use Rattle.resolved_names.specs.declared.tree.Item.{Item}
use Rattle.c_meaning.specs.Runnable.{RunnableTop}
use Rattle.c_meaning.proofs.Items.{item_leads, items_done, items_fail, main_runs}
use Rattle.c_meaning.proofs.Lists.{good_at, good_before}
use Rattle.c_meaning.proofs.Running.{leads_same, leads_on}
use Rattle.c_meaning.proofs.interpret.run_items.Goals as goal

pub each-init : goal.each-init
each-init g c = leads_same _ _ _

pub run_block-requires-clause-known : goal.run_block-requires-clause-known
run_block-requires-clause-known g c = good_before c.args.items.now c.each.index c.requires.runnable

pub run_block-requires-clause-runnable : goal.run_block-requires-clause-runnable
run_block-requires-clause-runnable g c =
    let y = c.index-items-index.result in
    subst (λ (z : Item). RunnableTop (numbered_top z)) c.in-Main.is (good_at c.args.items.now c.each.index y c.each-test.true c.index-items-index.is c.requires.runnable)

pub returns-in-Main : goal.returns-in-Main
returns-in-Main g c =
    let y = c.index-items-index.result in
    c.each.invariant.follows _ _ _ (main_runs c.args.bound c.args.items.now c.each.index y c.each-test.true c.index-items-index.is c.in-Main.body c.in-Main.is c.each.m c.run_block.new.m _ _ _ c.run_block.ensures)

pub begin-requires : goal.begin-requires
begin-requires g c = record {
  known = good_before c.args.items.now c.each.index c.requires.runnable;
  runnable = good_at c.args.items.now c.each.index c.index-items-index.result c.each-test.true c.index-items-index.is c.requires.runnable;
}

pub returns-in-Err : goal.returns-in-Err
returns-in-Err g c = c.each.invariant.follows _ _ _ (items_fail c.args.bound c.args.items.now c.each.index c.each.m c.begin.new.m _)

pub each-preserved : goal.each-preserved
each-preserved g c =
    let y = c.index-items-index.result in
    leads_on _ _ _ _ _ _ _ _ _ c.each.invariant (item_leads c.args.bound c.args.items.now c.each.index y c.each-test.true c.index-items-index.is c.in_default.not-Main c.each.m c.begin.new.m c.in-Ok.ensures _)

pub returns : goal.returns
returns g c = c.each.invariant.follows _ _ _ (items_done c.args.bound c.args.items.now c.each.index c.each.m _ c.each-test.false)
