-- The parts of `main`, one after another.
use Rattle.std.proofs.Common.{◌≡◌, ◌++◌, ℕ, List, ap, ◌∙◌, append_assoc}
use Rattle.std.specs.Prelude.{codes}
use Rattle.c_tree.specs.BareOf.{bare_stmts}
use Rattle.c_printer.specs.Layout.{text}
use Rattle.c_printer.specs.Programs.{return_line}
use Rattle.c_printer.specs.Statements.{stmts_form}
use Rattle.c_printer.proofs.printer.print_main.Goals as goal

joined : (old one two three a s r e f : List ℕ) → one ≡ old ++ a → two ≡ one ++ s → three ≡ two ++ (r ++ (e ++ f)) → three ≡ old ++ (a ++ (((s ++ r) ++ e) ++ f))
joined old one two three a s r e f h k l = l ∙ ap (λ z. z ++ (r ++ (e ++ f))) (k ∙ ap (λ z. z ++ s) h) ∙ simp append_assoc

pub returns : goal.returns
returns c =
    joined c.args.out.now.items c.extend_from_slice.new.self.items c.print_stmts.new.out.items c.extend_from_slice-2.new.self.items
    (codes "int main(void) {\n") (text (stmts_form 1 (bare_stmts c.args.body.now))) (text return_line) (codes "}") (codes "\n")
    c.in_ok-extend_from_slice.ensures.items c.in_ok-print_stmts.ensures
    (c.in_ok-extend_from_slice-2.ensures.items ∙ ap (λ z. c.print_stmts.new.out.items ++ z) c.main_end.ensures)
