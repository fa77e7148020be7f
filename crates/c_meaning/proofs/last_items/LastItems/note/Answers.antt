-- One item more: it is the last of its name, or names nothing.
use Rattle.std.proofs.lemmas.Result.{on_ok_weaker}
use Rattle.c_meaning.proofs.LastItems.{define_noted, function_noted, other_noted}
use Rattle.c_meaning.proofs.last_items.LastItems.note.Goals as goal

pub returns-in-Define : goal.returns-in-Define
returns-in-Define c =
    let xs = c.args.items.now in
    let i = c.args.index in
    let y = c.index-items-index.result in
    let d = c.in-Define in
    on_ok_weaker c.set.result (λ put. define_noted xs i c.requires.within c.args.self.now y c.index-items-index.is c.requires.so_far d.name d.negative d.value d.ty d.is c.set.new.self put) c.set.ensures

pub returns-in-Function : goal.returns-in-Function
returns-in-Function c =
    let xs = c.args.items.now in
    let i = c.args.index in
    let y = c.index-items-index.result in
    let f = c.in-Function in
    on_ok_weaker c.set-in-Function.result (λ put. function_noted xs i c.requires.within c.args.self.now y c.index-items-index.is c.requires.so_far f.name f.params f.body f.is c.set-in-Function.new.self put) c.set-in-Function.ensures

pub returns-in_default : goal.returns-in_default
returns-in_default c =
    let xs = c.args.items.now in
    let i = c.args.index in
    let y = c.index-items-index.result in
    other_noted xs i c.requires.within c.args.self.now y c.index-items-index.is c.requires.so_far c.in_default.not-Define c.in_default.not-Function
