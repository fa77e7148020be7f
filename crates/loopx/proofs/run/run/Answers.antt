-- Words that ask for a command aren't outside the lists; and where nothing failed the answer is complete.
use Rattle.std.proofs.Common.{◌≡◌, IfSome, sym, subst}
use Rattle.loopx.specs.Answer.{IsComplete}
use Rattle.loopx.specs.Commands.{AsksFor}
use Rattle.loopx.specs.Words.{translate, run}
use Rattle.loopx.proofs.Commands.{asks_for_some, complete_of, no_write, translate_only, run_only}
use Rattle.loopx.proofs.run.run.Goals as goal

pub returns-in-Some-Translate-clause-only_usage : goal.returns-in-Some-Translate-clause-only_usage
returns-in-Some-Translate-clause-only_usage g c none = absurd (asks_for_some _ c.in-Some-Translate.field-0 c.in-Some-Translate.ensures.some none)

pub returns-in-Some-Translate-clause-unread : goal.returns-in-Some-Translate-clause-unread
returns-in-Some-Translate-clause-unread g c none = absurd (asks_for_some _ c.in-Some-Translate.field-0 c.in-Some-Translate.ensures.some none)

pub returns-in-Some-Translate-clause-usage_told : goal.returns-in-Some-Translate-clause-usage_told
returns-in-Some-Translate-clause-usage_told g c none = absurd (asks_for_some _ c.in-Some-Translate.field-0 c.in-Some-Translate.ensures.some none)

pub returns-in-Some-Translate-clause-usage_part : goal.returns-in-Some-Translate-clause-usage_part
returns-in-Some-Translate-clause-usage_part g c none = absurd (asks_for_some _ c.in-Some-Translate.field-0 c.in-Some-Translate.ensures.some none)

pub returns-in-Some-Translate-clause-complete : goal.returns-in-Some-Translate-clause-complete
returns-in-Some-Translate-clause-complete g c = λ command asks source out diag.
    let is : command ≡ translate = translate_only _ c.in-Some-Translate.field-0 command c.in-Some-Translate.field-0-is c.in-Some-Translate.ensures.some asks in
    let e = c.translate_source.ensures in
    subst (λ k. IfSome (g.S.Source.left c.args.source.now) (IsComplete k c.translate_source.result)) (sym is)
    (complete_of translate c.translate_source.result (g.S.Source.left c.args.source.now) e.text e.no_usage (λ is. source (e.read_fault is)) (no_write e.write_fault out diag))

pub returns-in-Some-Run-clause-only_usage : goal.returns-in-Some-Run-clause-only_usage
returns-in-Some-Run-clause-only_usage g c none = absurd (asks_for_some _ c.in-Some-Run.field-0 c.in-Some-Run.ensures.some none)

pub returns-in-Some-Run-clause-unread : goal.returns-in-Some-Run-clause-unread
returns-in-Some-Run-clause-unread g c none = absurd (asks_for_some _ c.in-Some-Run.field-0 c.in-Some-Run.ensures.some none)

pub returns-in-Some-Run-clause-usage_told : goal.returns-in-Some-Run-clause-usage_told
returns-in-Some-Run-clause-usage_told g c none = absurd (asks_for_some _ c.in-Some-Run.field-0 c.in-Some-Run.ensures.some none)

pub returns-in-Some-Run-clause-usage_part : goal.returns-in-Some-Run-clause-usage_part
returns-in-Some-Run-clause-usage_part g c none = absurd (asks_for_some _ c.in-Some-Run.field-0 c.in-Some-Run.ensures.some none)

pub returns-in-Some-Run-clause-complete : goal.returns-in-Some-Run-clause-complete
returns-in-Some-Run-clause-complete g c = λ command asks source out diag.
    let h = subst (AsksFor _) c.in-Some-Run.field-0-is c.in-Some-Run.ensures.some in
    let only = run_only _ _ h.0 c.in-Some-Run.bound command h.1 h.2 asks in
    let e = c.run_source.ensures in
    subst (λ k. IfSome (g.S.Source.left c.args.source.now) (IsComplete k c.run_source.result)) (sym only.1)
    (complete_of (run c.in-Some-Run.bound only.0) c.run_source.result (g.S.Source.left c.args.source.now) (e.text only.0 only.2) e.no_usage (λ is. source (e.read_fault is)) (no_write e.write_fault out diag))
