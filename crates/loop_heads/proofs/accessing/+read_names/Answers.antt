use Rattle.c_semantics.specs.Meaning.State.{keep}
use Rattle.loop_heads.proofs.Touches.{grown_bin, grown_cond}
use Rattle.loop_heads.proofs.accessing.+read_names.Goals as goal

pub read_names-returns-in_ok-read_names-in-Bin-2 :
    goal.read_names-returns-in_ok-read_names-in-Bin-2
read_names-returns-in_ok-read_names-in-Bin-2 t c =
    let w = c.in-Bin in
    grown_bin (keep c.args.hidden.len c.args.hidden.names.now) c.args.e.now w.span w.op w.left w.right w.is
    c.get-in-Bin.result.now c.get-in-Bin-2.result.now c.get-in-Bin.ensures c.get-in-Bin-2.ensures
    c.args.into.now c.read_names-in-Bin.new.into c.read_names-in-Bin-2.new.into
    c.in_ok-read_names-in-Bin.ensures c.in_ok-read_names-in-Bin-2.ensures

pub read_names-returns-in_ok-read_names-in-Cond-3 :
    goal.read_names-returns-in_ok-read_names-in-Cond-3
read_names-returns-in_ok-read_names-in-Cond-3 t c =
    let w = c.in-Cond in
    grown_cond (keep c.args.hidden.len c.args.hidden.names.now) c.args.e.now w.span w.test w.yes w.no w.is
    c.get-in-Cond.result.now c.get-in-Cond-2.result.now c.get-in-Cond-3.result.now c.get-in-Cond.ensures c.get-in-Cond-2.ensures c.get-in-Cond-3.ensures
    c.args.into.now c.read_names-in-Cond.new.into c.read_names-in-Cond-2.new.into c.read_names-in-Cond-3.new.into
    c.in_ok-read_names-in-Cond.ensures c.in_ok-read_names-in-Cond-2.ensures c.in_ok-read_names-in-Cond-3.ensures
