-- The table reaches as far as the number of the variable that goes.
use Rattle.std.proofs.Common.{◌∙◌, ap, ◌++◌, reverse, Option}
use Rattle.std.specs.Option.{option_to_list}
use Rattle.c_meaning.specs.declared.frame.Binding.{Binding}
use Rattle.c_meaning.specs.Frames.{variables, places}
use Rattle.c_meaning.proofs.Frames.{frame_room, frame_last}
use Rattle.c_meaning.proofs.frame.Frame.drop_innermost.Goals as goal

pub put-requires : goal.put-requires
put-requires c =
    let m = c.self.inside in
    let cs = c.pop.new.self.items in
    let b = c.in-Some.binding in
    let is = c.pop.ensures.items ∙ ap (λ (o : Option Binding). cs ++ option_to_list o) c.in-Some.is in
    frame_room (reverse (variables cs)) (reverse (places cs)) m.innermost b.variable c.name.result c.name.ensures b.hidden (frame_last m.bindings.items cs b m.innermost is c.self.invariant)
