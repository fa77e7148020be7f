-- What the code's answers on the parts of a head mean.
use Rattle.c_tree.specs.BareOf.{bare_expr}
use Rattle.c_semantics.specs.Loops.CanonicalForm as form
use Rattle.canonical_nests.specs.Canonical.{test_op}
use Rattle.loop_counts.specs.declared.heads.Init.{Init}
use Rattle.loop_counts.specs.declared.heads.TestPart.{TestPart}

abbrev pub seen_init : Init → form.Init
seen_init i = record { var = i.var.now; ty = i.ty; lb = bare_expr i.lb.now }

abbrev pub seen_test : TestPart → form.Test
seen_test t = record { op = test_op t.test; ub = bare_expr t.ub.now }
