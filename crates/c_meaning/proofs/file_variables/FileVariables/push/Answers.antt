-- The new variable is the first of its name where there was none.
use Rattle.std.proofs.Common.{◌≡◌, ◌∙◌, sym, ap, subst, ℕ, List, length, Some, nat_eq, arith}
use Rattle.std.specs.Prelude.{if◌then◌else◌}
use Rattle.c_semantics.specs.Meaning.State.{Var}
use Rattle.c_meaning.specs.PlaceTables.{place_at}
use Rattle.c_meaning.specs.FileVariables.{TellsFirst}
use Rattle.c_meaning.proofs.FileVariables.{tells_later, tells_first}
use Rattle.c_meaning.proofs.file_variables.FileVariables.push.Goals as goal

pub invariant_of-self-in-Some : goal.invariant_of-self-in-Some
invariant_of-self-in-Some c =
    let t = c.make_room.new.self in
    let vs = c.self.inside.variables.items in
    let tells : TellsFirst t vs = λ n. c.make_room.ensures.same n ∙ c.self.invariant n in
    subst (λ (us : List Var). TellsFirst t us) (sym c.in_ok-push.ensures.items) (tells_later t t vs c.new.result c.args.name (ap (λ (v : Var). v.name) c.new.ensures) tells c.in-Some.field-0 (sym c.in-Some.ensures))

pub invariant_of-self-in-None : goal.invariant_of-self-in-None
invariant_of-self-in-None c =
    let t = c.make_room.new.self in
    let u = c.put.new.self in
    let vs = c.self.inside.variables.items in
    let tells : TellsFirst t vs = λ n. c.make_room.ensures.same n ∙ c.self.invariant n in
    let long : c.len-place.result ≡ length vs = omega arith in
    let put = λ (n : ℕ). c.put.ensures n ∙ ap (λ (k : ℕ). if nat_eq n c.args.name then Some k else place_at t n) long in
    subst (λ (us : List Var). TellsFirst u us) (sym c.in_ok-push.ensures.items) (tells_first t u vs c.new.result c.args.name (ap (λ (v : Var). v.name) c.new.ensures) tells (sym c.in-None.ensures) put)
