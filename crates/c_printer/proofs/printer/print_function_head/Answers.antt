-- The parts before a function's body, one after another.
use Rattle.std.proofs.Common.{◌≡◌, ◌++◌, ℕ, List, ap, ◌∙◌, append_assoc, map}
use Rattle.std.specs.Prelude.{codes}
use Rattle.c_tree.specs.BareOf.{bare_param}
use Rattle.c_printer.specs.Layout.{text, parens, gap, ◌&◌}
use Rattle.c_printer.specs.Programs.{params_form}
use Rattle.c_printer.proofs.printer.print_function_head.Goals as goal

joined : (old one two three a n p : List ℕ) → one ≡ old ++ a → two ≡ one ++ n → three ≡ two ++ p → three ≡ old ++ (a ++ (n ++ p))
joined old one two three a n p h k l = l ∙ ap (λ z. z ++ p) (k ∙ ap (λ z. z ++ n) h) ∙ simp append_assoc

pub returns : goal.returns
returns c =
    joined c.args.out.now.items c.extend_from_slice.new.self.items c.extend_from_slice-2.new.self.items c.print_parenthesized.new.out.items
    (codes "static void ") c.args.name.now (text (parens (params_form (map bare_param c.args.params.now)) & gap))
    c.in_ok-extend_from_slice.ensures.items (c.in_ok-extend_from_slice-2.ensures.items ∙ ap (λ z. c.extend_from_slice.new.self.items ++ z) c.bytes.ensures) c.in_ok-print_parenthesized.ensures
