-- What the steps of a plan promise: after a step that failed, where there was no memory, and after a further step.
use Rattle.std.proofs.Common.{◌≡◌, ◌≢◌, ℕ, ◌+◌, ◌≤◌, Result, Ok, Err, inl, inr, refl, ap, sym, subst, ◌∙◌, arith}
use Rattle.std.specs.Prelude.{OnOk}
use Rattle.std.specs.Result.{IsErrAnd, IsErrOf}
use Rattle.std.proofs.lemmas.Bool.{cases_eq}
use Rattle.layout.specs.declared.pointer.Pointer.{Pointer}
use Rattle.images.specs.Sums.{sum_below}
use Rattle.images.proofs.SumLaws.{one_more}
use Rattle.blockmap.specs.Space.{left}
use Rattle.blockmap.specs.declared.map.BlockMap.{BlockMap}
use Rattle.conspoint.specs.declared.draft.Draft.{Draft}
use Rattle.conspoint.specs.declared.error.PlanError.{PlanError}
use Rattle.conspoint.specs.declared.error.PlanError.TheVariants.{NoMemory, NoSpace}
use Rattle.conspoint.specs.Drafts.{IsReserved, IsShortage, WasTaken}
use Rattle.conspoint.specs.Space.{CountsGroups, TakesAtMost}
use Rattle.conspoint.specs.Steps.{Keeps, Marks, Places, PlacesOver, Puts, Takes}
use Rattle.conspoint.proofs.DraftLemmas.{grows_none, grows_twice}
use Rattle.conspoint.proofs.SpaceLemmas.{same_left}

-- an error, with another type of results
pub same_error : {T U : Type 0} (f e d : PlanError) → f ≡ e → IsErrOf {T = T} {E = PlanError} (Err f) d → IsErrOf {T = U} {E = PlanError} (Err e) d
same_error f e d is bad = cc

-- what went well is no error
pub no_error : {T : Type 0} {x : T} {P : Type 0} (d : PlanError) → IsErrOf {T = T} {E = PlanError} (Ok x) d → P
no_error d bad = let no : ⊥ = cc in absurd no

-- no memory isn't no space
pub other_error : {T P : Type 0} (f : PlanError) → f ≡ NoMemory → IsErrOf {T = T} {E = PlanError} (Err f) NoSpace → P
other_error f is bad = let no : ⊥ = cc in absurd no

-- two steps take what each takes
pub takes_both : {U : Type 0} (n m k : ℕ) (a b c : Draft) (r : Result U PlanError) → n + m ≤ k → TakesAtMost n a b → OnOk r (TakesAtMost m b c) → OnOk r (TakesAtMost k a c)
takes_both n m k a b c (Ok y) le first then = omega (arith, le, first, then)
takes_both n m k a b c (Err e) le first then = tt

module _ {n : ℕ} {a b : Draft} where
  pub takes_ok : {T U : Type 0} {x : T} {y : U} → Takes n a b (Ok x) → Takes n a b (Ok y)
  takes_ok step = record { grows = step.grows; others = step.others; takes = step.takes; lacks = λ bad. no_error NoSpace bad; shortage = tt }

  -- a step that failed
  pub takes_err : {T U : Type 0} {e : PlanError} (q : Result U PlanError) → IsErrAnd q (λ f. f ≡ e) → Takes {T = T} n a b (Err e) → Takes n a b q
  takes_err (Ok y) is step = absurd is
  takes_err {e = e} (Err f) is step = record {
    grows = step.grows;
    others = step.others;
    takes = tt;
    lacks = λ bad. step.lacks (same_error f e NoSpace is bad);
    shortage = subst IsShortage (sym is) step.shortage;
  }

  -- behind a step there was no memory
  pub takes_out : {T U : Type 0} {x : T} {k : ℕ} (q : Result U PlanError) → IsErrAnd q (λ f. f ≡ NoMemory) → Takes n a b (Ok x) → Takes k a b q
  takes_out (Ok y) is step = absurd is
  takes_out (Err f) is step = record {
    grows = step.grows;
    others = step.others;
    takes = tt;
    lacks = λ bad. other_error f is bad;
    shortage = subst IsShortage (sym is) tt;
  }

  pub takes_of : {T : Type 0} {r : Result T PlanError} → Places n a b r → Takes n a b r
  takes_of step = record { grows = step.grows; others = step.others; takes = step.takes; lacks = step.lacks; shortage = step.shortage }

  pub places_of : {T : Type 0} {r : Result T PlanError} → b.map.parts.items ≡ a.map.parts.items → Takes n a b r → Places n a b r
  places_of same step = record { grows = step.grows; parts = same; others = step.others; takes = step.takes; lacks = step.lacks; shortage = step.shortage }

  pub places_ok : {T U : Type 0} {x : T} {y : U} → Places n a b (Ok x) → Places n a b (Ok y)
  places_ok step = places_of step.parts (takes_ok (takes_of step))

  pub places_err : {T U : Type 0} {e : PlanError} (q : Result U PlanError) → IsErrAnd q (λ f. f ≡ e) → Places {T = T} n a b (Err e) → Places n a b q
  places_err q is step = places_of step.parts (takes_err q is (takes_of step))

pub places_out : {T U : Type 0} {n k : ℕ} {a b : Draft} {x : T} (q : Result U PlanError) → IsErrAnd q (λ f. f ≡ NoMemory) → Places n a b (Ok x) → Places k a b q
places_out q is step = places_of step.parts (takes_out q is (takes_of step))

-- nothing is done
pub places_none : {T : Type 0} {n : ℕ} {y : T} (d : Draft) → Places n d d (Ok y)
places_none d = record { grows = grows_none d; parts = refl; others = λ p is. is; takes = omega arith; lacks = λ bad. no_error NoSpace bad; shortage = tt }

-- two steps
pub takes_then : {T U : Type 0} {n m k : ℕ} {a b c : Draft} {x : T} {r : Result U PlanError} → Takes n a b (Ok x) → Takes m b c r → n + m ≤ k → Takes k a c r
takes_then {n = n} {m = m} {k = k} {a = a} {b = b} {c = c} {r = r} first then le = record {
  grows = grows_twice a b c first.grows then.grows;
  others = λ p is. then.others p (first.others p is);
  takes = takes_both n m k a b c r le first.takes then.takes;
  lacks = λ bad. (let few = then.lacks bad in omega (arith, le, few, first.takes));
  shortage = then.shortage;
}

pub places_then : {T U : Type 0} {n m k : ℕ} {a b c : Draft} {x : T} {r : Result U PlanError} → Places n a b (Ok x) → Places m b c r → n + m ≤ k → Places k a c r
places_then first then le = places_of (then.parts ∙ first.parts) (takes_then (takes_of first) (takes_of then) le)

-- where marks alone change, nothing is taken
pub marks_take : {T : Type 0} {a b : Draft} {r : Result T PlanError} → Marks a b r → Takes 0 a b r
marks_take {a = a} {b = b} {r = r} step = record {
  grows = step.grows;
  others = step.others;
  takes = elim r as (λ q. OnOk q (TakesAtMost 0 a b)) [
    | Ok y ↦ (let same = same_left a b step.grows step.next in omega (arith, same))
    | Err e ↦ tt
  ];
  lacks = λ bad. absurd (step.why bad);
  shortage = step.shortage;
}

pub keeps_take : {T : Type 0} {y : T} {a b : Draft} → Keeps a b → Takes 0 a b (Ok y)
keeps_take {a = a} {b = b} step = record {
  grows = step.grows;
  others = step.others;
  takes = (let same = same_left a b step.grows step.next in omega (arith, same));
  lacks = λ bad. no_error NoSpace bad;
  shortage = tt;
}

pub keeps_none : (d : Draft) → Keeps d d
keeps_none d = record { grows = grows_none d; next = refl; blocks = refl; others = λ p is. is }

pub keeps_then : {a b c : Draft} → Keeps a b → Keeps b c → Keeps a c
keeps_then {a = a} {b = b} {c = c} first then = record {
  grows = grows_twice a b c first.grows then.grows;
  next = then.next ∙ first.next;
  blocks = then.blocks ∙ first.blocks;
  others = λ p is. then.others p (first.others p is);
}

pub marks_keep : {T : Type 0} {a b : Draft} {r : Result T PlanError} → Marks a b r → Keeps a b
marks_keep step = record { grows = step.grows; next = step.next; blocks = step.blocks; others = step.others }

pub marks_ok : {T : Type 0} {y : T} {a b : Draft} → Keeps a b → Marks a b (Ok y)
marks_ok step = record { grows = step.grows; next = step.next; blocks = step.blocks; others = step.others; why = λ bad. no_error NoSpace bad; shortage = tt }

pub marks_err : {T U : Type 0} {a b c : Draft} {e : PlanError} (q : Result U PlanError) → IsErrAnd q (λ f. f ≡ e) → Keeps a b → Marks {T = T} b c (Err e) → Marks a c q
marks_err (Ok y) is first then = absurd is
marks_err {e = e} (Err f) is first then =
    let both = keeps_then first (marks_keep then) in
    record {
      grows = both.grows;
      next = both.next;
      blocks = both.blocks;
      others = both.others;
      why = λ bad. then.why (same_error f e NoSpace is bad);
      shortage = subst IsShortage (sym is) then.shortage;
    }

-- ---- indirect blocks over groups

-- one group more is counted
pub group_more : {T U : Type 0} {a b c : Draft} {x : T} {r : Result U PlanError} (w : ℕ → ℕ) (j : ℕ) → Places (sum_below w j) a b (Ok x) → Places 1 b c r → (w j ≡ 0 → Places 0 b c r)
    → Places (sum_below w (j + 1)) a c r
group_more w j so_far one none = elim (cases_eq (w j) 0) [
  | inl is ↦ places_then so_far (none is) (omega (arith, is, one_more w j))
  | inr some ↦ places_then so_far one (omega (arith, some, one_more w j))
]

pub takes_more : {U : Type 0} (n k : ℕ) (a b : Draft) (r : Result U PlanError) → n ≤ k → OnOk r (TakesAtMost n a b) → OnOk r (TakesAtMost k a b)
takes_more n k a b (Ok y) le most = omega (arith, le, most)
takes_more n k a b (Err e) le most = tt

-- what is taken for the first groups is no more than what is taken for all
pub places_rise : {T : Type 0} {n k : ℕ} {a b : Draft} {r : Result T PlanError} → Places n a b r → n ≤ k → Places k a b r
places_rise {n = n} {k = k} {a = a} {b = b} {r = r} step le = record {
  grows = step.grows;
  parts = step.parts;
  others = step.others;
  takes = takes_more n k a b r le step.takes;
  lacks = λ bad. (let few = step.lacks bad in omega (arith, le, few));
  shortage = step.shortage;
}

module _ (count : ℕ) (settled nodes : ℕ → ℕ → Pointer) (a b : Draft) where
  -- each group may count
  all_count : CountsGroups (λ j. 1) count settled nodes
  all_count j lt none = absurd (omega (arith, none))

  each_takes : {T : Type 0} (r : Result T PlanError) → ((w : ℕ → ℕ) → CountsGroups w count settled nodes → Places (sum_below w count) a b r)
      → OnOk r ((w : ℕ → ℕ) → CountsGroups w count settled nodes → TakesAtMost (sum_below w count) a b)
  each_takes (Ok y) each = λ w counts. (each w counts).takes
  each_takes (Err e) each = tt

  one_takes : {T : Type 0} (r : Result T PlanError) (w : ℕ → ℕ) → CountsGroups w count settled nodes
      → OnOk r ((w : ℕ → ℕ) → CountsGroups w count settled nodes → TakesAtMost (sum_below w count) a b) → OnOk r (TakesAtMost (sum_below w count) a b)
  one_takes (Ok y) w counts all = all w counts
  one_takes (Err e) w counts all = tt

module _ {T : Type 0} {count : ℕ} {settled nodes : ℕ → ℕ → Pointer} {a b : Draft} {r : Result T PlanError} where
  pub over_of : ((w : ℕ → ℕ) → CountsGroups w count settled nodes → Places (sum_below w count) a b r) → PlacesOver count settled nodes a b r
  over_of each =
      let any = each (λ j. 1) (all_count count settled nodes a b) in
      record {
        grows = any.grows;
        parts = any.parts;
        others = any.others;
        takes = each_takes count settled nodes a b r each;
        lacks = λ bad w counts. (each w counts).lacks bad;
        shortage = any.shortage;
      }

  pub over_each : PlacesOver count settled nodes a b r → (w : ℕ → ℕ) → CountsGroups w count settled nodes → Places (sum_below w count) a b r
  over_each step w counts = record {
    grows = step.grows;
    parts = step.parts;
    others = step.others;
    takes = one_takes count settled nodes a b r w counts step.takes;
    lacks = λ bad. step.lacks bad w counts;
    shortage = step.shortage;
  }

-- ---- bytes at places that are reserved

-- a place is given out, and bytes are planned there
pub stores_then : {T : Type 0} {a b c : Draft} {place : ℕ} {r : Result T PlanError} → Places 1 a b (Ok place) → WasTaken a b place → Puts b c r
    → ((p : ℕ) → p ≢ place → IsReserved b p → IsReserved c p) → Places 1 a c r
stores_then {a = a} {b = b} {c = c} {r = r} step taken puts others = record {
  grows = grows_twice a b c step.grows puts.grows;
  parts = ap (λ (m : BlockMap). m.parts.items) puts.map ∙ step.parts;
  others = λ p is. others p (λ same. (let low = is.below in omega (arith, low, same, taken.from))) (step.others p is);
  takes = elim r as (λ q. OnOk q (TakesAtMost 1 a c)) [
    | Ok y ↦ (let same = ap left puts.map in omega (arith, same, step.takes))
    | Err e ↦ tt
  ];
  lacks = λ bad. absurd (puts.why bad);
  shortage = puts.shortage;
}

pub puts_then : {T U : Type 0} {a b c : Draft} {x : T} {r : Result U PlanError} → Puts a b (Ok x) → Puts b c r → Puts a c r
puts_then {a = a} {b = b} {c = c} first then = record {
  grows = grows_twice a b c first.grows then.grows;
  map = then.map ∙ first.map;
  why = then.why;
  shortage = then.shortage;
}

pub puts_err : {T U : Type 0} {a b : Draft} {e : PlanError} (q : Result U PlanError) → IsErrAnd q (λ f. f ≡ e) → Puts {T = T} a b (Err e) → Puts a b q
puts_err (Ok y) is step = absurd is
puts_err {e = e} (Err f) is step = record {
  grows = step.grows;
  map = step.map;
  why = λ bad. step.why (same_error f e NoSpace is bad);
  shortage = subst IsShortage (sym is) step.shortage;
}

-- after a step, with places that were given out for it
pub puts_take : {T U : Type 0} {n : ℕ} {a b c : Draft} {x : T} {r : Result U PlanError} → Takes n a b (Ok x) → Puts b c r → ((p : ℕ) → IsReserved a p → IsReserved c p) → Takes n a c r
puts_take {n = n} {a = a} {b = b} {c = c} {r = r} step puts others = record {
  grows = grows_twice a b c step.grows puts.grows;
  others = others;
  takes = elim r as (λ q. OnOk q (TakesAtMost n a c)) [
    | Ok y ↦ (let same = ap left puts.map in omega (arith, same, step.takes))
    | Err e ↦ tt
  ];
  lacks = λ bad. absurd (puts.why bad);
  shortage = puts.shortage;
}
