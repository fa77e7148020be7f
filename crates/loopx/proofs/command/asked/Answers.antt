-- The words of a list are those that were looked at, and no others.
use Rattle.std.proofs.Common.{◌≡◌, [], ◌∷◌, map, take, drop, length, ◌-◌, string_bytes, codes, subst, sym, ap, ◌∙◌, IfSome}
use Rattle.loopx.specs.Commands.{AsksFor}
use Rattle.loopx.proofs.Numbers.{one_item, two_items}
use Rattle.loopx.proofs.command.asked.Goals as goal

pub returns-in-len1-clause-some : goal.returns-in-len1-clause-some
returns-in-len1-clause-some c =
    let is : string_bytes c.word-item.result ≡ codes "translate" = c.is_word.ensures.0 c.if-is_word.true in
    one_item string_bytes c.args.words.now c.word-item.result c.in-len1.len_at_least c.in-len1.len_below c.word-item.is ∙ ap (λ w. w ∷ []) is

pub returns-in-len2-up-clause-some : goal.returns-in-len2-up-clause-some
returns-in-len2-up-clause-some c =
    let is : string_bytes c.word-item-2.result ≡ codes "run" = c.is_word-2.ensures.0 c.if-is_word-2.true in
    let spelled = two_items string_bytes c.args.words.now c.word-item-2.result c.first-item.result c.in-len2-up.len_at_least c.word-item-2.is c.first-item.is in
    subst (λ words. IfSome c.run_command.result (AsksFor words)) (sym (spelled ∙ ap (λ w. w ∷ string_bytes c.first-item.result ∷ map string_bytes (take (length c.args.words.now - 2) (drop 2 c.args.words.now))) is)) c.run_command.ensures.some
