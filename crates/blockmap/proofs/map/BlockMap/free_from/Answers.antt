use Rattle.std.proofs.Common.{◌/◌, inl, inr, arith}
use Rattle.std.proofs.lemmas.Bool.{cases_lt}
use Rattle.blockmap.proofs.MapLemmas.{free_there, none_before}
use Rattle.blockmap.proofs.map.BlockMap.free_from.Goals as goal

pub returns-then-found-self-clause-found : goal.returns-then-found-self-clause-found
returns-then-found-self-clause-found c =
    let found = c.in-Some.ensures.found in
    let from = c.loop-at.invariant.from in (
      omega (arith, from, found.0),
      c.if-found-self.true,
      free_there c.args.self.now.parts.items (c.loop-at.at / 1024) c.in-Some.i c.index.result.now found.1 (omega (arith, c.loop-at-test.true, c.args.self.now.covers)) c.index.ensures found.2,
    )

pub returns-then-found-self-clause-least : goal.returns-then-found-self-clause-least
returns-then-found-self-clause-least c k low high free = elim (cases_lt k c.loop-at.at) [
  | inl before ↦ c.loop-at.invariant.none k low before free
  | inr here ↦ none_before c.args.self.now.parts.items c.loop-at.at c.in-Some.i k c.index.result.now (omega (arith, c.loop-at-test.true, c.args.self.now.covers)) c.index.ensures c.in-Some.ensures.least (omega (arith, c.in-Some.ensures.found.1)) here high free
]

pub returns-else-found-self-clause-none : goal.returns-else-found-self-clause-none
returns-else-found-self-clause-none c k low high free = elim (cases_lt k c.loop-at.at) [
  | inl before ↦ c.loop-at.invariant.none k low before free
  | inr here ↦ none_before c.args.self.now.parts.items c.loop-at.at c.in-Some.i k c.index.result.now (omega (arith, c.loop-at-test.true, c.args.self.now.covers)) c.index.ensures c.in-Some.ensures.least (omega (arith, c.in-Some.ensures.found.1)) here (omega (arith, high, c.if-found-self.false)) free
]

pub loop-at-preserved : goal.loop-at-preserved
loop-at-preserved c = record {
  from = omega (arith, c.loop-at.invariant.from);
  none = λ k low high free. elim (cases_lt k c.loop-at.at) [
    | inl before ↦ c.loop-at.invariant.none k low before free
    | inr here ↦ none_before c.args.self.now.parts.items c.loop-at.at 1024 k c.index.result.now (omega (arith, c.loop-at-test.true, c.args.self.now.covers)) c.index.ensures c.in_default.ensures.none (omega arith) here (omega (arith, high)) free
  ];
}
