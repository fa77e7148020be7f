use Rattle.std.proofs.Common.{[], drop, sym, ap, ◌∙◌}
use Rattle.std.proofs.lemmas.List.{drop_all}
use Rattle.pragma_grammar.specs.Machine.{want}
use Rattle.pragma_grammar.specs.Stands.{outcome, phrases, stands}
use Rattle.pragma_grammar.proofs.LastToken.{finishes, ends_dropped}
use Rattle.pragma_grammar.proofs.reading.run.Goals as goal

pub unreachable-requires : goal.unreachable-requires
unreachable-requires c =
    finishes (drop c.args.at c.args.tokens.now) (want []) (ends_dropped c.args.tokens.now c.args.at c.requires.within c.requires.ended)
    (sym c.loop-i.invariant ∙ ap (λ z. outcome z (stands c.loop-i.state (phrases c.loop-i.stack.items))) (drop_all c.loop-i.i c.args.tokens.now c.loop-i-test.false))
