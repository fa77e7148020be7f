-- A loop of the code as its bare parts.
use Rattle.c_tree.specs.BareOf.{bare_expr}
use Rattle.loop_normal.specs.Templates.{SourceLoop}
use Rattle.loop_normal.specs.declared.normal.OwnedLoop.{OwnedLoop}

abbrev pub source_of : OwnedLoop → SourceLoop
source_of h = record { var = h.var; ty = h.ty; lb = bare_expr h.lb; ub = bare_expr h.ub; test = h.test; step = h.step }
