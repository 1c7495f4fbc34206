use Rattle.std.proofs.Common.{rules, ◌≡◌, inl, inr, ◌+◌, ◌*◌, subst, arith}
use Rattle.std.proofs.lemmas.Bool.{cases_eq, cases_lt}
use Rattle.layout.specs.Trees.{fan_out}
use Rattle.layout.specs.declared.pointer.Pointer.TheVariants.{Hole}
use Rattle.blocktree.specs.PlaceMaps.{place_at}
use Rattle.placement.specs.Nodes.{most_groups}
use Rattle.placement.proofs.settled.is_full.Goals as goal

pub loop-next-init : goal.loop-next-init
loop-next-init c = record { high = omega arith; full = λ j lt. absurd (omega (arith, lt)) }

pub loop-next-preserved : goal.loop-next-preserved
loop-next-preserved c =
    let found = c.in-Some.ensures.found in
    let n = c.in-Some.node in
    record {
      high = omega (arith, found.1);
      full = λ j lt holes. elim (cases_lt j c.loop-next.next) [
        | inl before ↦ c.loop-next.invariant.full j before holes
        | inr late ↦ elim (cases_eq j n.index) [
          | inr other ↦ c.in-Some.ensures.before j late (omega (arith, lt, other))
          | inl is ↦ absurd (let yes = c.is_empty.ensures.1 (λ i small. subst (λ k. place_at c.args.below.now (fan_out c.args.layout * k + i) ≡ Hole) is (holes i small)) in let no = c.if-is_empty.false in search (rules, yes, no))
        ]
      ];
    }

pub returns-then-is_empty-clause-empty : goal.returns-then-is_empty-clause-empty
returns-then-is_empty-clause-empty c = λ no. (c.in-Some.node.index, c.in-Some.node.place, c.in-Some.ensures.found.2, c.is_empty.ensures.0 c.if-is_empty.true)

pub returns-clause-full : goal.returns-clause-full
returns-clause-full c = λ yes j holes. elim (cases_lt j c.loop-next.next) [
  | inl before ↦ c.loop-next.invariant.full j before holes
  | inr late ↦ elim (cases_lt j (most_groups c.args.layout)) [
    | inl low ↦ c.in_default.ensures.none j late (omega (arith, low, c.most_groups-end.ensures))
    | inr high ↦ c.requires.end j high
  ]
]
