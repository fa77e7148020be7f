use Rattle.std.proofs.lemmas.Result.{err_from_is_err_and}
use Rattle.c_parser.specs.Items.{items_of}
use Rattle.c_parser.proofs.GlobalsTaken.{no_globals, more_globals, globals_shrink, globals_end, globals_open, unnamed, undeclared}
use Rattle.c_parser.proofs.globals.globals.Goals as goal

pub loop-items-init : goal.loop-items-init
loop-items-init c = no_globals c.args.ty c.args.from c.args.cursor.now c.args.items

pub returns-in_err-name : goal.returns-in_err-name
returns-in_err-name c =
    let p = err_from_is_err_and c.from_residual.result c.from_residual.ensures.1 in
    rw (p.1, p.2) (unnamed c.args.ty c.args.from c.loop-items.from (items_of c.args.items) c.args.cursor.now c.loop-items.cursor c.name.new.cursor c.name.new.cursor c.loop-items.items c.in_err-name.field-0.0 c.loop-items.invariant c.in_err-name.ensures)

pub returns-in_err-item : goal.returns-in_err-item
returns-in_err-item c =
    let p = err_from_is_err_and c.from_residual-in_err-item.result c.from_residual-in_err-item.ensures.1 in
    rw (p.1, p.2) (undeclared c.args.ty c.args.from c.loop-items.from (items_of c.args.items) c.in_ok-name.name c.in_ok-name.at c.args.cursor.now c.loop-items.cursor c.name.new.cursor c.global.new.cursor c.global.new.cursor c.loop-items.items c.in_err-item.field-0.0 c.loop-items.invariant c.in_ok-name.ensures c.in_err-item.ensures)

pub loop-items-smaller : goal.loop-items-smaller
loop-items-smaller c = globals_shrink c.args.ty c.loop-items.from c.in_ok-name.name c.in_ok-name.at c.loop-items.cursor c.name.new.cursor c.global.new.cursor c.may.new.self c.in_ok-item.item c.in_ok-name.ensures c.in_ok-item.ensures c.in-Some.ensures.shorter

pub loop-items-preserved : goal.loop-items-preserved
loop-items-preserved c = more_globals c.args.ty c.args.from c.loop-items.from (items_of c.args.items) c.in_ok-name.name c.in_ok-name.at c.in-Some.field-0 c.first.result.now c.args.cursor.now c.loop-items.cursor c.name.new.cursor c.global.new.cursor c.may.new.self c.loop-items.items c.in_ok-items.items c.in_ok-item.item c.loop-items.invariant c.in_ok-name.ensures c.in_ok-item.ensures c.in_ok-items.ensures c.in-Some.ensures.taken c.first.ensures.first

pub returns-in_err-take-in-None : goal.returns-in_err-take-in-None
returns-in_err-take-in-None c =
    let p = err_from_is_err_and c.from_residual-in_err-take-in-None.result c.from_residual-in_err-take-in-None.ensures.1 in
    rw (p.1, p.2) (globals_open c.args.ty c.args.from c.loop-items.from (items_of c.args.items) c.in_ok-name.name c.in_ok-name.at c.args.cursor.now c.loop-items.cursor c.name.new.cursor c.global.new.cursor c.may.new.self c.take.new.self c.loop-items.items c.in_ok-item.item c.in_err-take-in-None.field-0.0 c.loop-items.invariant c.in_ok-name.ensures c.in_ok-item.ensures c.in-None.ensures.taken c.in_err-take-in-None.ensures)

pub returns-in-None : goal.returns-in-None
returns-in-None c = globals_end c.args.ty c.args.from c.loop-items.from (items_of c.args.items) c.in_ok-name.name c.in_ok-name.at c.in_ok-take-in-None.field-0 c.args.cursor.now c.loop-items.cursor c.name.new.cursor c.global.new.cursor c.may.new.self c.take.new.self c.loop-items.items c.in_ok-items.items c.in_ok-item.item c.loop-items.invariant c.in_ok-name.ensures c.in_ok-item.ensures c.in_ok-items.ensures c.in-None.ensures.taken c.in_ok-take-in-None.ensures
