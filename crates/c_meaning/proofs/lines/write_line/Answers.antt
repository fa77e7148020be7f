-- The digits were written, or a first part of them; then the end of the line.
use Rattle.std.proofs.Common.{◌≡◌, ◌∙◌, ap, w64}
use Rattle.std.proofs.lemmas.Int.{to_z-of_z}
use Rattle.std.specs.Fmt.{signed_decimal}
use Rattle.c_meaning.proofs.LineText.{digits_part, end_part}
use Rattle.c_meaning.proofs.lines.write_line.Goals as goal

pub returns-in-Err-clause-part : goal.returns-in-Err-clause-part
returns-in-Err-clause-part g c =
    let digits : c.as_bytes.result.now ≡ signed_decimal c.args.number = c.as_bytes.ensures.value ∙ (c.format.ensures.text ∙ ap signed_decimal (to_z-of_z w64 c.args.number c.ranges.number)) in
    digits_part _ _ c.as_bytes.result.now c.args.number digits c.in-Err.ensures.part

pub returns-in-Err-write_all-clause-part : goal.returns-in-Err-write_all-clause-part
returns-in-Err-write_all-clause-part g c =
    let digits : c.as_bytes.result.now ≡ signed_decimal c.args.number = c.as_bytes.ensures.value ∙ (c.format.ensures.text ∙ ap signed_decimal (to_z-of_z w64 c.args.number c.ranges.number)) in
    end_part _ _ _ c.as_bytes.result.now c.args.number digits c.in-Ok.ensures.whole c.in-Err-write_all.ensures.part
