use Rattle.std.proofs.Common.{◌≡◌, ◌≢◌, ◌∙◌, ◌<◌, ℕ, inl, inr, None, Some, length, slice_index_or, slice_set, ap, sym, subst, refl, arith, List, length-set}
use Rattle.std.specs.Prelude.{Option}
use Rattle.std.proofs.lemmas.Bool.{cases_lt}
use Rattle.std.proofs.lemmas.List.{get_or-set_other, get_or-set_same, get_or_default}
use Rattle.images.specs.BlockMap.{HasBit}
use Rattle.checker.specs.declared.nodes.Shared.{Shared}
use Rattle.checker.specs.declared.nodes.TheConstants.{PLANES}
use Rattle.checker.proofs.NodeLaws.{AddsAt, adds_more, adds_none, adds_set, some_none, some_same}
use Rattle.checker.proofs.nodes.add_shared.Goals as goal
use Rattle.checker.proofs.nodes.add_shared.Goals.{then-bits-k-eq1, in-Some, in-None, else-bits-k-eq1}

written : {A : Type 0} {k : ℕ} (old new : List (Option Shared)) (v : Option Shared) → new ≡ slice_set old k v → k < length old → A → length old ≡ PLANES
    → (length new ≡ PLANES) × ((j : ℕ) → j ≢ k → slice_index_or new j None ≡ slice_index_or old j None) × A
written {k = k} old new v set within a long = (
  ap (λ (xs : List (Option Shared)). length xs) set ∙ (length-set old k v ∙ long),
  (λ j ne. ap (λ (xs : List (Option Shared)). slice_index_or xs j None) set ∙ get_or-set_other old k j v None ne),
  a,
)

pub loop-k-preserved : goal.loop-k-preserved
loop-k-preserved c =
    let k = c.loop-k.k in
    let old = c.loop-k.of in
    let new = c.if-bits-k-eq1.of in
    let before = c.loop-k.invariant in
    let within : k < length old = omega (arith, before.length_is, c.loop-k-test.true) in
    let step : (length new ≡ PLANES) × ((j : ℕ) → j ≢ k → slice_index_or new j None ≡ slice_index_or old j None) × AddsAt c.args.bits c.args.shared k old new =
    elim c.if-bits-k-eq1.branch [
      | then-bits-k-eq1 w ↦ elim w.match-of-k.branch [
        | in-Some v ↦
            let bit : HasBit k c.args.bits = omega (arith, w.if-bits-k-eq1.true) in
            let set : new ≡ slice_set old k (Some v.in-Some.first) = w.of-is ∙ ap (λ (x : Option Shared). slice_set old k x) v.of-is in
            let there : slice_index_or old k None ≡ Some v.in-Some.first = get_or_default old k None _ within ∙ v.in-Some.is in
            written old new (Some v.in-Some.first) set within (adds_set c.args.bits k c.args.shared old new (Some v.in-Some.first) bit
            (ap (λ (xs : List (Option Shared)). slice_index_or xs k None) set ∙ get_or-set_same old k (Some v.in-Some.first) None within)
            (λ t was. ap Some (some_same (slice_index_or old k None) v.in-Some.first t there was)) (λ none. some_none (slice_index_or old k None) v.in-Some.first none there)) before.length_is
        | in-None v ↦
            let bit : HasBit k c.args.bits = omega (arith, w.if-bits-k-eq1.true) in
            let set : new ≡ slice_set old k (Some c.args.shared) = w.of-is ∙ ap (λ (x : Option Shared). slice_set old k x) v.of-is in
            let there : slice_index_or old k None ≡ None = get_or_default old k None _ within ∙ v.in-None.is in
            written old new (Some c.args.shared) set within (adds_set c.args.bits k c.args.shared old new (Some c.args.shared) bit
            (ap (λ (xs : List (Option Shared)). slice_index_or xs k None) set ∙ get_or-set_same old k (Some c.args.shared) None within)
            (λ t was. some_none (slice_index_or old k None) t there was) (λ none. refl)) before.length_is
      ]
      | else-bits-k-eq1 w ↦
          let without : HasBit k c.args.bits → ⊥ = λ bit. absurd (omega (arith, bit, w.if-bits-k-eq1.false)) in
          let same : new ≡ old = w.of-is in (
            ap (λ (xs : List (Option Shared)). length xs) same ∙ before.length_is,
            (λ j ne. ap (λ (xs : List (Option Shared)). slice_index_or xs j None) same),
            subst (AddsAt c.args.bits c.args.shared k old) (sym same) (adds_none c.args.bits k c.args.shared old without),
          )
    ] in
    let more = adds_more c.args.bits k c.args.shared c.args.of.now old new before.below before.above step.1 step.2 in
    record { length_is = step.0; below = more.0; above = more.1 }

pub returns-clause-kept : goal.returns-clause-kept
returns-clause-kept c k s is = elim (cases_lt k c.loop-k.k) [
  | inl lt ↦ (c.loop-k.invariant.below k lt).kept s is
  | inr ge ↦ c.loop-k.invariant.above k ge ∙ is
]

pub returns-clause-these : goal.returns-clause-these
returns-clause-these c k low bit none = (c.loop-k.invariant.below k (omega (arith, low, c.loop-k-test.false))).these bit none

pub returns-clause-others : goal.returns-clause-others
returns-clause-others c k other = elim (cases_lt k c.loop-k.k) [
  | inl lt ↦ (c.loop-k.invariant.below k lt).others other
  | inr ge ↦ c.loop-k.invariant.above k ge
]
