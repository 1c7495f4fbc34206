use Rattle.std.proofs.Common.{◌≡◌, inl, inr, ℕ, List, refl, ap, length, ◌<◌, ◌∙◌, arith, rules}
use Rattle.layout.specs.declared.pointer.Pointer.{Pointer}
use Rattle.layout.specs.declared.pointer.Pointer.TheVariants.{Hole, Block}
use Rattle.layout.specs.Maps.{indirect_pointer}
use Rattle.conspoint.specs.Groups.{pointer_at}
use Rattle.conspoint.specs.Groups.IsGroup.{spells}
use Rattle.conspoint.specs.Space.{StoresNone}
use Rattle.conspoint.proofs.GroupLemmas.{follows_moved, follows_none}
use Rattle.conspoint.proofs.group.place_group.Goals as goal

pub returns-clause-group : goal.returns-clause-group
returns-clause-group c e has =
    let there = c.in_ok-place.ensures.stored e has ∙ c.in_ok-copy_of.ensures in
    let size : length c.spell.new.bytes ≡ 4096 = c.spell.ensures.size in
    let found = c.in-Some.ensures.found in
    let low : c.in-Some.field-0 < 1024 = omega (arith, found.0, c.requires.new) in
    spells c.in_ok-place.place refl (ap (λ (xs : List ℕ). length xs) there ∙ size)
    (λ i lt. ap (λ (xs : List ℕ). indirect_pointer xs i) there ∙ c.spell.ensures.spelled i lt)
    (c.in-Some.field-0, low, found.1)

-- a node moved, and a node is no hole
stores : (old new : List Pointer) (k : ℕ) → k < 1024 → (pointer_at new k ≡ Hole → ⊥) → (((i : ℕ) → i < length new → pointer_at new i ≡ pointer_at old i) → ⊥) → length new ≡ 1024
    → StoresNone (pointer_at old) (pointer_at new) → ⊥
stores old new k low some moved count none = elim none [
  | inl same ↦ moved (λ i lt. same i (omega (arith, lt, count)))
  | inr holes ↦ some (holes k low)
]

pub returns-clause-none : goal.returns-clause-none
returns-clause-none c = λ none.
    let found = c.in-Some.ensures.found in
    absurd (stores c.args.old.now c.args.new.now c.in-Some.field-0 (omega (arith, found.0, c.requires.new)) found.1
    (λ same. let is = c.same_pointers.ensures.1 same in let not = c.if-same_pointers.false in search (rules, is, not)) c.requires.new none)

pub returns-in_err-place-clause-none : goal.returns-in_err-place-clause-none
returns-in_err-place-clause-none c = λ none.
    let found = c.in-Some.ensures.found in
    absurd (stores c.args.old.now c.args.new.now c.in-Some.field-0 (omega (arith, found.0, c.requires.new)) found.1
    (λ same. let is = c.same_pointers.ensures.1 same in let not = c.if-same_pointers.false in search (rules, is, not)) c.requires.new none)

-- some node is no hole
some_block : (new : List Pointer) (k : ℕ) → k < length new → length new ≡ 1024 → (pointer_at new k ≡ Hole → ⊥) → ((i : ℕ) → i < 1024 → pointer_at new i ≡ Hole) → ⊥
some_block new k low count some all = some (all k (omega (arith, low, count)))

pub returns-in_default-clause-follows : goal.returns-in_default-clause-follows
returns-in_default-clause-follows c =
    follows_none c.args.settled Hole (pointer_at c.args.old.now) (pointer_at c.args.new.now) refl (λ i lt. c.in_default.ensures.none i (omega (arith, lt, c.requires.new)))

pub returns-then-same_pointers-clause-follows : goal.returns-then-same_pointers-clause-follows
returns-then-same_pointers-clause-follows c =
    let found = c.in-Some.ensures.found in
    follows_moved c.args.settled c.args.settled (pointer_at c.args.old.now) (pointer_at c.args.new.now)
    (some_block c.args.new.now c.in-Some.field-0 found.0 c.requires.new found.1) (λ all. refl)

pub returns-clause-follows : goal.returns-clause-follows
returns-clause-follows c =
    let found = c.in-Some.ensures.found in
    follows_moved c.args.settled (Block c.in_ok-place.place) (pointer_at c.args.old.now) (pointer_at c.args.new.now)
    (some_block c.args.new.now c.in-Some.field-0 found.0 c.requires.new found.1)
    (λ all. absurd (let is = c.same_pointers.ensures.1 (λ i lt. all i (omega (arith, lt, c.requires.new))) in let not = c.if-same_pointers.false in search (rules, is, not)))
