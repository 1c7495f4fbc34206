use Rattle.std.proofs.Common.{◌≢◌, ◌∙◌, inl, inr, ◌<◌, ◌/◌, length, sym, subst, arith}
use Rattle.std.proofs.lemmas.Bool.{cases_eq, false≢true}
use Rattle.std.proofs.lemmas.List.{get_or_default}
use Rattle.layout.specs.Maps.{IsTaken}
use Rattle.inofile.proofs.BitLaws.{taken_here, taken_others, freed_here, freed_others, with_bit}
use Rattle.inofile.proofs.numbers.Numbers.set.Goals as goal

pub returns-then-taken-clause-here : goal.returns-then-taken-clause-here
returns-then-taken-clause-here c =
    let bytes = c.args.self.now.bytes.items in
    let within : c.args.number / 8 < length bytes = omega (arith, c.args.self.now.size, c.args.self.now.bytes.ok.0) in
    let is = c.index_mut.ensures.value ∙ get_or_default bytes (c.args.number / 8) c.index_mut.result.now 0 within in
    ((λ so. c.if-taken.true), (λ so. taken_here bytes c.args.number c.index_mut.result.now within is))

pub returns-then-taken-clause-others : goal.returns-then-taken-clause-others
returns-then-taken-clause-others c =
    let bytes = c.args.self.now.bytes.items in
    let within : c.args.number / 8 < length bytes = omega (arith, c.args.self.now.size, c.args.self.now.bytes.ok.0) in
    let is = c.index_mut.ensures.value ∙ get_or_default bytes (c.args.number / 8) c.index_mut.result.now 0 within in
    taken_others bytes c.args.number c.index_mut.result.now within is

pub returns-else-taken-clause-here : goal.returns-else-taken-clause-here
returns-else-taken-clause-here c =
    let bytes = c.args.self.now.bytes.items in
    let within : c.args.number / 8 < length bytes = omega (arith, c.args.self.now.size, c.args.self.now.bytes.ok.0) in
    let value = c.index_mut-else-taken.result.now in
    let is = c.index_mut-else-taken.ensures.value ∙ get_or_default bytes (c.args.number / 8) value 0 within in
    ((λ so. absurd (freed_here bytes c.args.number value within is so)), (λ so. absurd (false≢true (sym c.if-taken.false ∙ so))))

pub returns-else-taken-clause-others : goal.returns-else-taken-clause-others
returns-else-taken-clause-others c =
    let bytes = c.args.self.now.bytes.items in
    let within : c.args.number / 8 < length bytes = omega (arith, c.args.self.now.size, c.args.self.now.bytes.ok.0) in
    let value = c.index_mut-else-taken.result.now in
    let is = c.index_mut-else-taken.ensures.value ∙ get_or_default bytes (c.args.number / 8) value 0 within in
    freed_others bytes c.args.number value within is

pub invariant_of-self-clause-full : goal.invariant_of-self-clause-full
invariant_of-self-clause-full c = λ k low below.
    let bytes = c.args.self.now.bytes.items in
    let within : c.args.number / 8 < length bytes = omega (arith, c.args.self.now.size, c.args.self.now.bytes.ok.0) in
    let value = c.index_mut.result.now in
    let is = c.index_mut.ensures.value ∙ get_or_default bytes (c.args.number / 8) value 0 within in
    elim (cases_eq k c.args.number) [
      | inl here ↦ subst (IsTaken (with_bit bytes c.args.number value within is)) (sym here) (taken_here bytes c.args.number value within is)
      | inr else ↦ (taken_others bytes c.args.number value within is k else).1 (c.args.self.now.full k low below)
    ]

pub invariant_of-self-else-taken-clause-full : goal.invariant_of-self-else-taken-clause-full
invariant_of-self-else-taken-clause-full c = λ k low below.
    let bytes = c.args.self.now.bytes.items in
    let within : c.args.number / 8 < length bytes = omega (arith, c.args.self.now.size, c.args.self.now.bytes.ok.0) in
    let value = c.index_mut-else-taken.result.now in
    let is = c.index_mut-else-taken.ensures.value ∙ get_or_default bytes (c.args.number / 8) value 0 within in
    let before : k < c.args.self.now.least = omega (arith, below, c.min-self.ensures) in
    let else : k ≢ c.args.number = λ e. omega (arith, below, c.min-self.ensures, e) in
    (freed_others bytes c.args.number value within is k else).1 (c.args.self.now.full k low before)
