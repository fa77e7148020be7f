-- A table of defines by name: what one more changes.
use Rattle.std.proofs.Common.{◌≡◌, ◌∙◌, sym, ap, refl, Bool, true, false, cond, if◌then◌else◌, List, [], ◌∷◌, ◌++◌, reverse, map, Option, Some}
use Rattle.std.specs.Prelude.{bytes_eq}
use Rattle.std.specs.Cmp.Lexicographic.{nat_list_eq_equiv}
use Rattle.indexmap.specs.IndexMap.{get}
use Rattle.c_tree.specs.Bare.{Name}
use Rattle.c_tree.specs.declared.constant.TypedValue.{TypedValue}
use Rattle.loop_counts.specs.declared.defines.Constant.{Constant}
use Rattle.loop_counts.specs.declared.defines.Defines.TheInside.{Inside}
use Rattle.loop_counts.specs.ConstantNames.{constant_named}
use Rattle.loop_counts.specs.Defines.{define_of, defines_of, IsValued}
use Rattle.loop_counts.proofs.Lookups.{map_reverse_more}

module _ (t t' : Inside) (c : Constant) (is : t'.defines.items ≡ t.defines.items ++ c ∷ []) where
  pub view_added : defines_of t' ≡ define_of c ∷ defines_of t
  view_added = ap (λ cs. map define_of (reverse cs)) is ∙ map_reverse_more define_of t.defines.items c

  pub valued_added : IsValued t → ((q : Name) → get bytes_eq t'.values q ≡ cond (bytes_eq c.name q) (Some c.value) (get bytes_eq t.values q)) → IsValued t'
  valued_added old new q = new q ∙ (by (bytes_eq c.name q) ∙ (sym (named q) ∙ ap (λ ds. constant_named ds q) (sym view_added)))
    where
      named : (q : Name) → constant_named (define_of c ∷ defines_of t) q ≡ (if bytes_eq c.name q then Some c.value else constant_named (defines_of t) q)
      named q = λ i. if nat_list_eq_equiv.symm q c.name i then Some c.value else constant_named (defines_of t) q

      by : (b : Bool) → cond b (Some c.value) (get bytes_eq t.values q) ≡ (if b then Some c.value else constant_named (defines_of t) q)
      by true = refl
      by false = old q
