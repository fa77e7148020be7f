-- The numbers that the words spell are the input.
use Rattle.std.proofs.Common.{◌≡◌, subst, ◌∙◌}
use Rattle.outside_io.specs.Bytes.{Gains, GainsPrefix}
use Rattle.c_tree.specs.BareOf.{bare_program}
use Rattle.c_semantics.specs.Meaning.Programs.{outcome}
use Rattle.c_meaning.specs.Ends.{finish_of}
use Rattle.c_meaning.specs.Running.{lines_text}
use Rattle.loopx.proofs.Numbers.{numbers_once}
use Rattle.loopx.proofs.running.run_on.Goals as goal

pub returns-in-Ok-interpret-clause-lines : goal.returns-in-Ok-interpret-clause-lines
returns-in-Ok-interpret-clause-lines g c = λ input are.
    let same : c.as_slice.result.now ≡ input = c.as_slice.ensures.value ∙ numbers_once _ c.in-Ok.input.items input c.in-Ok.ensures are in
    subst (λ zs. Gains (g.O.Sink.held c.args.out.now) (g.O.Sink.held c.interpret.new.out) (lines_text (outcome c.args.bound (bare_program c.args.checked.now) zs).lines)) same c.in-Ok-interpret.ensures.lines

pub returns-in-Ok-interpret-clause-end : goal.returns-in-Ok-interpret-clause-end
returns-in-Ok-interpret-clause-end g c = λ input are.
    let same : c.as_slice.result.now ≡ input = c.as_slice.ensures.value ∙ numbers_once _ c.in-Ok.input.items input c.in-Ok.ensures are in
    subst (λ zs. finish_of c.in-Ok-interpret.run'.end ≡ (outcome c.args.bound (bare_program c.args.checked.now) zs).end) same c.in-Ok-interpret.ensures.end

pub returns-clause-part : goal.returns-clause-part
returns-clause-part g c = λ input are.
    let same : c.as_slice.result.now ≡ input = c.as_slice.ensures.value ∙ numbers_once _ c.in-Ok.input.items input c.in-Ok.ensures are in
    subst (λ zs. GainsPrefix (g.O.Sink.held c.args.out.now) (g.O.Sink.held c.interpret.new.out) (lines_text (outcome c.args.bound (bare_program c.args.checked.now) zs).lines)) same c.in-Err-interpret.ensures.part
