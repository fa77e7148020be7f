-- How runs of parts make up the run of the whole: one lemma for each way to put meanings together.
use Rattle.std.proofs.Common.{◌≡◌, ◌≢◌, ◌∙◌, sym, ap, refl, subst, ℕ, ◌+◌, ◌≤◌, inl, inr, Bool, true, false, List, [], ◌∷◌, ◌++◌, length, Option, Result, Ok, Err, ℤ, append_assoc, append-nil, arith}
use Rattle.outside_io.specs.Bytes.{Gains, GainsPrefix}
use Rattle.outside_io.specs.Faults.{Rose}
use Rattle.outside_io.proofs.SinkBytes.{Gains-append, GainsPrefix-longer, GainsPrefix-append, GainsPrefix-whole}
use Rattle.c_tree.specs.declared.arithmetic.Trap.{Trap}
use Rattle.c_semantics.specs.Meaning.State.{Var, State, keep, with_frame, count_turn, print_line}
use Rattle.c_semantics.specs.Meaning.Runs as runs
use Rattle.c_semantics.specs.Meaning.Runs.{Run, Meaning, ends, on_next, then_do, with_value, choose, ask, leave, in_block, with_end, repeat, repeat_after}
use Rattle.c_semantics.specs.Meaning.SimpleStatements.{call_end, in_frame}
use Rattle.c_semantics.specs.Laws.Bounds.{IsPrefix}
use Rattle.c_semantics.proofs.Invariant.{Keeps, then_keeps}
use Rattle.c_semantics.proofs.Grows.{MoreLines, lines_grow}
use Rattle.c_meaning.specs.declared.run.End.{End}
use Rattle.c_meaning.specs.declared.run.End.TheVariants.{Next, Break, Continue, Trapped, Cut}
use Rattle.c_meaning.specs.declared.run.RunFault.{RunFault}
use Rattle.c_meaning.specs.declared.run.RunFault.TheVariants.{WriteFault, Memory}
use Rattle.c_meaning.specs.Ends.{end_of}
use Rattle.c_meaning.specs.States.{counted, one_turn_more}
use Rattle.c_meaning.specs.Running.{line_text, lines_text, in_full, Sunk, Reached, Came, Ran}

-- a meaning that prints no line away
abbrev pub Grows : Meaning → Type 0
Grows f = Keeps MoreLines lines_grow f

-- ---- lines

pub text_append : (xs ys : List ℤ) → lines_text (xs ++ ys) ≡ lines_text xs ++ lines_text ys
text_append [] ys = refl
text_append (x ∷ xs) ys = ap (λ l. line_text x ++ l) (text_append xs ys) ∙ sym (append_assoc (line_text x) (lines_text xs) (lines_text ys))

pub part_of_more : (base held : Option (List ℕ)) (xs ys : List ℤ) → IsPrefix xs ys → GainsPrefix base held (lines_text xs) → GainsPrefix base held (lines_text ys)
part_of_more base held xs ys h g =
    subst (GainsPrefix base held) (sym (ap lines_text h.1 ∙ text_append xs h.0)) (GainsPrefix-longer base held (lines_text xs) (lines_text h.0) g)

-- ---- faults

pub rose_before : (a b c : ℕ) → a ≤ b → Rose b c → Rose a c
rose_before a b c h (inl r) = inl (omega (arith, h, r))
rose_before a b c h (inr r) = inr r

-- ---- the ends of statements

-- f leads to g: where g runs on from there, f ran
pub record Leads (f : Meaning) (old : State) (was : Sunk) (g : Meaning) (new : State) (sunk : Sunk) : Type 0 where
  pub follows : (last : State) (end : Sunk) (answer : Result End RunFault) → Ran g new sunk last end answer → Ran f old was last end answer

pub leads_same : (f : Meaning) (m : State) (o : Sunk) → Leads f m o f m o
leads_same f m o = record { follows = λ last end answer r. r }

pub leads_on : (f g h : Meaning) (m1 m2 m3 : State) (o1 o2 o3 : Sunk) → Leads f m1 o1 g m2 o2 → Leads g m2 o2 h m3 o3 → Leads f m1 o1 h m3 o3
leads_on f g h m1 m2 m3 o1 o2 o3 a b = record { follows = λ last end answer r. a.follows last end answer (b.follows last end answer r) }

-- ---- equal answers, ends, faults and states

pub ran_as : {f : Meaning} {m m1 : State} {o o1 : Sunk} (answer same : Result End RunFault) → answer ≡ same → Ran f m o m1 o1 same → Ran f m o m1 o1 answer
ran_as {f = f} {m = m} {m1 = m1} {o = o} {o1 = o1} answer same is r = subst (Ran f m o m1 o1) (sym is) r

pub ran_next : {f : Meaning} {m m1 : State} {o o1 : Sunk} (e : End) → e ≡ Next → Ran f m o m1 o1 (Ok e) → Ran f m o m1 o1 (Ok Next)
ran_next {f = f} {m = m} {m1 = m1} {o = o} {o1 = o1} e is r = subst (λ a. Ran f m o m1 o1 (Ok a)) is r

pub ran_fault : {f : Meaning} {m m1 : State} {o o1 : Sunk} (answer : Result End RunFault) (x y : RunFault) → answer ≡ Err y → y ≡ x → Ran f m o m1 o1 (Err x) → Ran f m o m1 o1 answer
ran_fault {f = f} {m = m} {m1 = m1} {o = o} {o1 = o1} answer x y is same r = subst (Ran f m o m1 o1) (sym (is ∙ ap Err same)) r

pub ran_from : {f : Meaning} {m m1 : State} {o o1 : Sunk} {r : Result End RunFault} (m0 : State) → m0 ≡ m → Ran f m0 o m1 o1 r → Ran f m o m1 o1 r
ran_from {f = f} {m1 = m1} {o = o} {o1 = o1} {r = r} m0 is ran = subst (λ s. Ran f s o m1 o1 r) is ran

-- ---- ends

-- a run that changes neither lines nor turns
pub ran_quietly : (f : Meaning) (m new : State) (o : Sunk) (e : End) → ((lines : List ℤ) (turns : ℕ) → f (in_full m lines turns) ≡ record { state = in_full new lines turns; end = end_of e }) → new.turns ≡ m.turns → Ran f m o new o (Ok e)
ran_quietly f m new o e q same = record {
  came = λ base lines turns told count. subst (Reached base new o e) (sym (q lines turns)) (record { ended = refl; state = refl; told = told; turns = same ∙ count });
  faults = omega arith;
  failed = λ w. absurd (cc);
}

-- a run that ends at once
pub ran_ends : (m : State) (o : Sunk) (e : End) → Ran (ends (end_of e)) m o m o (Ok e)
ran_ends m o e = ran_quietly (ends (end_of e)) m m o e (λ lines turns. refl) refl

pub ran_memory : (f : Meaning) (m new : State) (o : Sunk) → Grows f → Ran f m o new o (Err Memory)
ran_memory f m new o grows = record {
  came = λ base lines turns told count. part_of_more base o.held lines _ (grows (in_full m lines turns)) (GainsPrefix-whole base o.held (lines_text lines) told);
  faults = omega arith;
  failed = λ w. absurd (cc);
}

-- a fault is handed on by each meaning that has the lines of the part
pub fails_on : (f g : Meaning) (m new other : State) (o o' : Sunk) (x : RunFault) → ((lines : List ℤ) (turns : ℕ) → IsPrefix (f (in_full m lines turns)).state.lines (g (in_full m lines turns)).state.lines) → Ran f m o new o' (Err x) → Ran g m o other o' (Err x)
fails_on f g m new other o o' x more r = record {
  came = λ base lines turns told count. part_of_more base o'.held _ _ (more lines turns) (r.came base lines turns told count);
  faults = r.faults;
  failed = r.failed;
}

-- the answer of a run that only maps what the part came to
pub maps_on : (f g : Meaning) (m new other : State) (o o' : Sunk) (e e' : End) → ((base : Option (List ℕ)) (s : State) → Reached base new o' e (f s) → Reached base other o' e' (g s)) → Ran f m o new o' (Ok e) → Ran g m o other o' (Ok e')
maps_on f g m new other o o' e e' go r = record {
  came = λ base lines turns told count. go base (in_full m lines turns) (r.came base lines turns told count);
  faults = r.faults;
  failed = λ w. absurd (cc);
}

-- ---- one after another

more_of_then : (f g : Meaning) → Grows g → (s : State) → IsPrefix (f s).state.lines (then_do (f s) g).state.lines
more_of_then f g grows s = then_keeps MoreLines lines_grow (f s).state (f s) g (lines_grow.same (f s).state) grows

module _ (f g : Meaning) (m m1 : State) (o o1 : Sunk) where
  abbrev whole : Meaning
  whole s = then_do (f s) g

  pub then_goes : Ran f m o m1 o1 (Ok Next) → Leads (λ s. then_do (f s) g) m o g m1 o1
  then_goes a = record {
    follows = λ last end answer b. record {
      came = λ base lines turns told count.
          let s = in_full m lines turns in
          let r = a.came base lines turns told count in
          let there = b.came base (f s).state.lines (f s).state.turns r.told r.turns in
          let here : Came base last end answer (g (f s).state) = subst (λ u. Came base last end answer (g u)) (sym r.state) there in
          subst (λ x. Came base last end answer (on_next x (f s).state g)) (sym r.ended) here;
      faults = omega (arith, a.faults, b.faults);
      failed = λ w. rose_before _ _ _ a.faults (b.failed w);
    };
  }

  stops : (base : Option (List ℕ)) (s : State) (e : End) → e ≢ Next → Reached base m1 o1 e (f s) → Reached base m1 o1 e (then_do (f s) g)
  stops base s Next not r = absurd (not refl)
  stops base s Break not r = subst (λ x. Reached base m1 o1 Break (on_next x (f s).state g)) (sym r.ended) (record { ended = refl; state = r.state; told = r.told; turns = r.turns })
  stops base s Continue not r = subst (λ x. Reached base m1 o1 Continue (on_next x (f s).state g)) (sym r.ended) (record { ended = refl; state = r.state; told = r.told; turns = r.turns })
  stops base s (Trapped t) not r = subst (λ x. Reached base m1 o1 (Trapped t) (on_next x (f s).state g)) (sym r.ended) (record { ended = refl; state = r.state; told = r.told; turns = r.turns })
  stops base s Cut not r = subst (λ x. Reached base m1 o1 Cut (on_next x (f s).state g)) (sym r.ended) (record { ended = refl; state = r.state; told = r.told; turns = r.turns })

  pub then_stops : (e : End) → e ≢ Next → Ran f m o m1 o1 (Ok e) → Ran (λ s. then_do (f s) g) m o m1 o1 (Ok e)
  then_stops e not a = maps_on f (λ s. then_do (f s) g) m m1 m1 o o1 e e (λ base s r. stops base s e not r) a

  pub then_fails : Grows g → (other : State) (x : RunFault) → Ran f m o m1 o1 (Err x) → Ran (λ s. then_do (f s) g) m o other o1 (Err x)
  then_fails grows other x a = fails_on f (λ s. then_do (f s) g) m m1 other o o1 x (λ lines turns. more_of_then f g grows (in_full m lines turns)) a

-- ---- blocks, ends and frames

module _ (f : Meaning) (m m1 : State) (o o1 : Sunk) where
  pub block_ends : (e : End) → Ran f m o m1 o1 (Ok e) → Ran (in_block f) m o (with_frame (keep (length m.frame) m1.frame) m1) o1 (Ok e)
  block_ends e a = record {
    came = λ base lines turns told count.
        let r = a.came base lines turns told count in
        record { ended = r.ended; state = ap (λ u. with_frame (keep (length m.frame) u.frame) u) r.state; told = r.told; turns = r.turns };
    faults = a.faults;
    failed = λ w. absurd (cc);
  }

  pub block_fails : (other : State) (x : RunFault) → Ran f m o m1 o1 (Err x) → Ran (in_block f) m o other o1 (Err x)
  block_fails other x a = record { came = a.came; faults = a.faults; failed = a.failed }

  pub end_ends : (h : runs.End → runs.End) (e e' : End) → end_of e' ≡ h (end_of e) → Ran f m o m1 o1 (Ok e) → Ran (λ s. with_end h (f s)) m o m1 o1 (Ok e')
  end_ends h e e' is a = record {
    came = λ base lines turns told count.
        let r = a.came base lines turns told count in
        record { ended = ap h r.ended ∙ sym is; state = r.state; told = r.told; turns = r.turns };
    faults = a.faults;
    failed = λ w. absurd (cc);
  }

  pub end_fails : (h : runs.End → runs.End) (other : State) (x : RunFault) → Ran f m o m1 o1 (Err x) → Ran (λ s. with_end h (f s)) m o other o1 (Err x)
  end_fails h other x a = record { came = a.came; faults = a.faults; failed = a.failed }

module _ (f : Meaning) (vs : List Var) (m m1 : State) (o o1 : Sunk) where
  pub frame_ends : (e e' : End) → end_of e' ≡ call_end (end_of e) → Ran f (with_frame vs m) o m1 o1 (Ok e) → Ran (in_frame vs f) m o (with_frame m.frame m1) o1 (Ok e')
  frame_ends e e' is a = record {
    came = λ base lines turns told count.
        let r = a.came base lines turns told count in
        record { ended = ap call_end r.ended ∙ sym is; state = ap (with_frame m.frame) r.state; told = r.told; turns = r.turns };
    faults = a.faults;
    failed = λ w. absurd (cc);
  }

  pub frame_fails : (other : State) (x : RunFault) → Ran f (with_frame vs m) o m1 o1 (Err x) → Ran (in_frame vs f) m o other o1 (Err x)
  frame_fails other x a = record { came = a.came; faults = a.faults; failed = a.failed }

-- ---- tests and values

-- what is asked of the machine's state alone
abbrev pub Asks : {A : Type 0} → (State → Result A Trap) → Type 0
Asks test = (m : State) (lines : List ℤ) (turns : ℕ) → test (in_full m lines turns) ≡ test m

module _ (test : State → Result Bool Trap) (asks : Asks test) (f g : Meaning) (m : State) (o : Sunk) where
  asked : (r : Result Bool Trap) → test m ≡ r → (lines : List ℤ) (turns : ℕ) → ask (test (in_full m lines turns)) f g (in_full m lines turns) ≡ ask r f g (in_full m lines turns)
  asked r is lines turns = ap (λ t. ask t f g (in_full m lines turns)) (asks m lines turns ∙ is)

  pub test_holds : test m ≡ Ok true → Leads (λ s. ask (test s) f g s) m o f m o
  test_holds is = record {
    follows = λ last end answer a. record {
      came = λ base lines turns told count. subst (Came base last end answer) (sym (asked (Ok true) is lines turns)) (a.came base lines turns told count);
      faults = a.faults;
      failed = a.failed;
    };
  }

  pub test_fails : test m ≡ Ok false → Leads (λ s. ask (test s) f g s) m o g m o
  test_fails is = record {
    follows = λ last end answer a. record {
      came = λ base lines turns told count. subst (Came base last end answer) (sym (asked (Ok false) is lines turns)) (a.came base lines turns told count);
      faults = a.faults;
      failed = a.failed;
    };
  }

  pub test_traps : (t : Trap) → test m ≡ Err t → Ran (λ s. ask (test s) f g s) m o m o (Ok (Trapped t))
  test_traps t is = ran_quietly (λ s. ask (test s) f g s) m m o (Trapped t) (λ lines turns. asked (Err t) is lines turns) refl

module _ {A : Type 0} (value : State → Result A Trap) (asks : Asks value) (go : A → Meaning) (m : State) (o : Sunk) where
  valued : (r : Result A Trap) → value m ≡ r → (lines : List ℤ) (turns : ℕ) → with_value (value (in_full m lines turns)) (in_full m lines turns) (λ a. go a (in_full m lines turns)) ≡ with_value r (in_full m lines turns) (λ a. go a (in_full m lines turns))
  valued r is lines turns = ap (λ v. with_value v (in_full m lines turns) (λ a. go a (in_full m lines turns))) (asks m lines turns ∙ is)

  pub value_goes : (a : A) → value m ≡ Ok a → Leads (λ s. with_value (value s) s (λ a. go a s)) m o (go a) m o
  value_goes a is = record {
    follows = λ last end answer b. record {
      came = λ base lines turns told count. subst (Came base last end answer) (sym (valued (Ok a) is lines turns)) (b.came base lines turns told count);
      faults = b.faults;
      failed = b.failed;
    };
  }

  pub value_traps : (t : Trap) → value m ≡ Err t → Ran (λ s. with_value (value s) s (λ a. go a s)) m o m o (Ok (Trapped t))
  value_traps t is = ran_quietly (λ s. with_value (value s) s (λ a. go a s)) m m o (Trapped t) (λ lines turns. valued (Err t) is lines turns) refl

-- ---- turns

count_more : (k : ℕ) → counted (counted k + 1) ≡ counted (k + 1)
count_more k = omega arith

pub turn_counts : (f : Meaning) (m : State) (o : Sunk) → Leads (λ s. f (count_turn s)) m o f (one_turn_more m) o
turn_counts f m o = record {
  follows = λ last end answer a. record {
    came = λ base lines turns told count. a.came base lines (turns + 1) told (ap (λ k. counted (k + 1)) count ∙ count_more turns);
    faults = a.faults;
    failed = a.failed;
  };
}

-- ---- lines

pub line_printed : (z : ℤ) (m : State) (o o' : Sunk) → Gains o.held o'.held (line_text z) → o.faults ≤ o'.faults → Ran (λ s. ends runs.Next (print_line z s)) m o m o' (Ok Next)
line_printed z m o o' gains faults = record {
  came = λ base lines turns told count. record {
    ended = refl;
    state = refl;
    told = subst (Gains base o'.held) (sym (text_append lines (z ∷ []) ∙ ap (λ l. lines_text lines ++ l) (append-nil (line_text z)))) (Gains-append base o.held o'.held (lines_text lines) (line_text z) told gains);
    turns = count;
  };
  faults = faults;
  failed = λ w. absurd (cc);
}

pub line_failed : (z : ℤ) (m other : State) (o o' : Sunk) → GainsPrefix o.held o'.held (line_text z) → Rose o.faults o'.faults → o.faults ≤ o'.faults → Ran (λ s. ends runs.Next (print_line z s)) m o other o' (Err WriteFault)
line_failed z m other o o' gains rose faults = record {
  came = λ base lines turns told count.
      subst (GainsPrefix base o'.held) (sym (text_append lines (z ∷ []) ∙ ap (λ l. lines_text lines ++ l) (append-nil (line_text z)))) (GainsPrefix-append base o.held o'.held (lines_text lines) (line_text z) told gains);
  faults = faults;
  failed = λ w. rose;
}
