use Rattle.std.proofs.lemmas.Result.{err_from_is_err_and}
use Rattle.pragma_grammar.specs.DirectiveStands.{opens}
use Rattle.pragma_grammar.proofs.DirectiveTurns.{come_first, got_at, leads_answer, stuck_answer, ended_answer, letter_answer, fault_answer}
use Rattle.pragma_grammar.proofs.directive.read_directive.Goals as goal

pub loop-asked-init : goal.loop-asked-init
loop-asked-init c = come_first c.args.tokens.now c.args.at c.requires.within

pub returns-in_err-held-in-Letter : goal.returns-in_err-held-in-Letter
returns-in_err-held-in-Letter c =
    let p = err_from_is_err_and c.from_residual.result c.from_residual.ensures.1 in
    rw (p.1, p.2) (fault_answer c.args.tokens.now c.args.at c.loop-asked.next c.loop-asked.state c.in-Letter.asked c.in-Letter.at c.in-Letter.part (opens c.loop-asked.stack.items) c.index-tokens-next.result c.mark_of.result c.turn_of.result c.in_err-held-in-Letter.field-0.0 c.loop-asked.invariant (got_at c.args.tokens.now c.loop-asked.next c.index-tokens-next.result c.loop-asked.invariant.0.within c.index-tokens-next.is) c.mark_of.ensures c.turn_of.ensures c.in-Letter.is c.in_err-held-in-Letter.ensures)

pub loop-asked-preserved-in-Letter : goal.loop-asked-preserved-in-Letter
loop-asked-preserved-in-Letter c =
    letter_answer c.args.tokens.now c.args.at c.loop-asked.next c.loop-asked.state c.in-Letter.asked c.in-Letter.at c.in-Letter.part (opens c.loop-asked.stack.items) c.index-tokens-next.result c.mark_of.result c.turn_of.result (c.in_ok-held-in-Letter.held, c.in_ok-held-in-Letter.after) c.loop-asked.invariant (got_at c.args.tokens.now c.loop-asked.next c.index-tokens-next.result c.loop-asked.invariant.0.within c.index-tokens-next.is) c.mark_of.ensures c.turn_of.ensures c.in-Letter.is c.in_ok-held-in-Letter.ensures

pub returns-in-Stuck : goal.returns-in-Stuck
returns-in-Stuck c =
    stuck_answer c.args.tokens.now c.args.at c.loop-asked.next c.loop-asked.state c.in-Token.here (opens c.loop-asked.stack.items) (opens c.step.new.stack.items) c.index-tokens-next.result c.mark_of.result c.mark_of-in-Token.result c.word_of.result.now c.turn_of.result c.in_ok-step-in-Token.field-0 c.blamed.result c.loop-asked.invariant (got_at c.args.tokens.now c.loop-asked.next c.index-tokens-next.result c.loop-asked.invariant.0.within c.index-tokens-next.is) c.mark_of.ensures c.turn_of.ensures c.in-Token.is c.mark_of-in-Token.ensures c.word_of.ensures c.in_ok-step-in-Token.ensures c.in-Stuck.is c.blamed.ensures

pub returns-in-Ended : goal.returns-in-Ended
returns-in-Ended c =
    ended_answer c.args.tokens.now c.args.at c.loop-asked.next c.loop-asked.state c.in-Token.here (opens c.loop-asked.stack.items) (opens c.step.new.stack.items) c.index-tokens-next.result c.mark_of.result c.mark_of-in-Token.result c.word_of.result.now c.turn_of.result c.in_ok-step-in-Token.field-0 c.in-Ended.directive c.phrase.result c.loop-asked.invariant (got_at c.args.tokens.now c.loop-asked.next c.index-tokens-next.result c.loop-asked.invariant.0.within c.index-tokens-next.is) c.mark_of.ensures c.turn_of.ensures c.in-Token.is c.mark_of-in-Token.ensures c.word_of.ensures c.in_ok-step-in-Token.ensures c.in-Ended.is c.phrase.ensures

pub loop-asked-preserved : goal.loop-asked-preserved
loop-asked-preserved c =
    leads_answer c.args.tokens.now c.args.at c.loop-asked.next c.loop-asked.state c.in-Token.here c.in-Leads.to (opens c.loop-asked.stack.items) (opens c.step.new.stack.items) c.index-tokens-next.result c.mark_of.result c.mark_of-in-Token.result c.word_of.result.now c.turn_of.result c.in_ok-step-in-Token.field-0 c.requires.ended c.loop-asked.invariant (got_at c.args.tokens.now c.loop-asked.next c.index-tokens-next.result c.loop-asked.invariant.0.within c.index-tokens-next.is) c.mark_of.ensures c.turn_of.ensures c.in-Token.is c.mark_of-in-Token.ensures c.word_of.ensures c.in_ok-step-in-Token.ensures c.in-Leads.is
