-- The writes of planned blocks, and of the root.
use Rattle.std.proofs.Common.{◌≡◌, ◌≢◌, ◌⊎◌, inl, inr, ℕ, ◌+◌, ◌-◌, ◌*◌, ◌<◌, ◌≤◌, List, length, take, drop, get_or, refl, ap, sym, subst, ◌∙◌, arith, ◌&&◌, leb, ltb, true, false}
use Rattle.std.proofs.lemmas.Bool.{cases_eq}
use Rattle.std.proofs.lemmas.Bool.Decides.{nat_tests}
use Rattle.std.proofs.Math.Path.{fun_ext}
use Rattle.std.proofs.lemmas.List.{take_all, get_or_default, get_or-take, length-take}
use Rattle.std.proofs.lemmas.List.Elements.{All-more}
use Rattle.station.specs.Images.{Images, Sector, sector_with, part_of, disk_with, SectorsWritten, SomeSectorsWritten}
use Rattle.station.specs.Moments.{Meaning, Goes}
use Rattle.station.proofs.Moments.{goes_twice}
use Rattle.buffers.specs.Disks.{IsBlock}
use Rattle.conspoint.specs.declared.plan.PlannedBlock.{PlannedBlock}
use Rattle.conspoint.specs.Plans.{Planned, AreApart, IsSlot, IsPlanned}
use Rattle.conspoint.specs.Cuts.{StaysOutside, HoldsBlocks, HasNewRoot, HasRootOrLost}
use Rattle.layout.proofs.PointerLaws.{same_block}
use Rattle.buffers.proofs.DiskLaws.{block_written, block_elsewhere}

-- THE BLOCKS

pub stays_same : (blocks : List PlannedBlock) (c : Images) → StaysOutside blocks c c
stays_same blocks c = record { nvram = refl; disk = λ n outside. refl }

pub stays_twice : (blocks : List PlannedBlock) (a b c : Images) → StaysOutside blocks a b → StaysOutside blocks b c → StaysOutside blocks a c
stays_twice blocks a b c first second = record {
  nvram = second.nvram ∙ first.nvram;
  disk = λ n outside. second.disk n outside ∙ first.disk n outside;
}

-- more writes of blocks of one plan
pub goes_stays_on : (blocks same : List PlannedBlock) (old mid new : Meaning) → same ≡ blocks → Goes (StaysOutside blocks) old mid → Goes (StaysOutside same) mid new → Goes (StaysOutside blocks) old new
goes_stays_on blocks same old mid new is first second =
    goes_twice old mid new (StaysOutside blocks) (StaysOutside blocks) (StaysOutside blocks) first (subst (λ (xs : List PlannedBlock). Goes (StaysOutside xs) mid new) is second) (λ a b stays. stays) (stays_twice blocks)

-- one more block is written
pub more_holds : (blocks : List PlannedBlock) (at : ℕ) (b : PlannedBlock) (old new : Images) → AreApart blocks → at < length blocks → b ≡ get_or blocks at b → length b.bytes ≡ 4096
    → SectorsWritten (8 * b.place) b.bytes old new → HoldsBlocks (take at blocks) old.disk → HoldsBlocks (take (at + 1) blocks) new.disk
more_holds blocks at b old new apart lt is size writes holds =
    let now : new.disk ≡ disk_with (8 * b.place) b.bytes old.disk = ap (λ (c : Images). c.disk) writes in
    subst (λ (disk : ℕ → Sector). HoldsBlocks (take (at + 1) blocks) disk) (sym now)
    (All-more (λ (x : PlannedBlock). IsBlock (disk_with (8 * b.place) b.bytes old.disk) x.place x.bytes) blocks at b lt
    (λ k d small.
    let size_is = length-take at blocks in
    let below : k < at = omega arith in
    let same : get_or (take at blocks) k d ≡ get_or blocks k d = get_or-take at blocks k d below in
    let other : (get_or (take at blocks) k d).place ≡ b.place → ⊥ = λ e.
    apart k at b below lt (ap (λ (x : PlannedBlock). x.place) (get_or_default blocks k b d (omega arith) ∙ sym same) ∙ e ∙ ap (λ (x : PlannedBlock). x.place) is) in
    block_elsewhere old.disk b.place (get_or (take at blocks) k d).place b.bytes (get_or (take at blocks) k d).bytes size other (holds k d small))
    (subst (λ (x : PlannedBlock). IsBlock (disk_with (8 * b.place) b.bytes old.disk) x.place x.bytes) is (block_written old.disk b.place b.bytes size)))

-- THE ROOT

pub slot_low : {slot : ℕ} → IsSlot slot → slot < 16
slot_low (inl e) = omega arith
slot_low (inr e) = omega arith

-- a planned block lies apart from the slots
blocks_stay : (p : Planned) (old new : ℕ → Sector) → IsPlanned p → ((n : ℕ) → n ≢ p.slot → new n ≡ old n) → HoldsBlocks p.blocks old → HoldsBlocks p.blocks new
blocks_stay p old new is same holds k d lt =
    let b = get_or p.blocks k d in
    let far : 2 ≤ b.place = is.blocks.behind k d lt in
    let low : p.slot < 16 = slot_low is.slot in
    holds k d lt ∙ sym (same_block old new b.place (λ i small. same (8 * b.place + i) (omega arith)))

-- the root stands there
new_root : (p : Planned) (old new : Images) → IsPlanned p → HoldsBlocks p.blocks old.disk → new.nvram ≡ old.nvram → ((n : ℕ) → n ≢ p.slot → new.disk n ≡ old.disk n)
    → new.disk p.slot ≡ part_of p.slot p.root p.slot → HasNewRoot p old new
new_root p old new is holds nvram others root = record {
  nvram = nvram;
  disk = λ n outside differ. others n differ;
  blocks = blocks_stay p old.disk new.disk is others holds;
  root = now;
}
  where
    whole_part : (slot : ℕ) (root : List ℕ) → length root ≡ 512 → part_of slot root slot ≡ sector_with root
    whole_part slot root size =
        let off : 512 * (slot - slot) ≡ 0 = omega arith in
        ap (λ k. sector_with (take 512 (drop k root))) off ∙ ap sector_with (take_all 512 root (omega arith))

    now : new.disk p.slot ≡ sector_with p.root
    now = root ∙ whole_part p.slot p.root is.root

-- a write of the root that may not have been done
pub root_may : (p : Planned) (old new : Images) → IsPlanned p → HoldsBlocks p.blocks old.disk → SomeSectorsWritten p.slot p.root old new → (new ≡ old) ⊎ HasRootOrLost p old new
root_may p old new is holds some =
    let size = is.root in
    let others : (n : ℕ) → n ≢ p.slot → new.disk n ≡ old.disk n = λ n differ. elim (some.disk n) [
      | inl same ↦ same
      | inr reached ↦ (let from = reached.0.0 in let to = reached.0.1 in absurd (omega arith))
    ] in
    elim (some.disk p.slot) [
      | inl same ↦ inl (λ i. record {
        disk = fun_ext {f = new.disk} {g = old.disk} (λ n. elim (cases_eq n p.slot) [
          | inl e ↦ subst (λ x. new.disk x ≡ old.disk x) (sym e) same
          | inr differ ↦ others n differ
        ]) i;
        nvram = some.nvram i;
      })
      | inr reached ↦ inr (elim reached.1 [
        | inl there ↦ inl (new_root p old new is holds some.nvram others there)
        | inr lost ↦ inr record { nvram = some.nvram; disk = λ n outside differ. others n differ; lost = lost }
      ])
    ]

-- a write of the root that is done
pub root_written : (p : Planned) (old new : Images) → IsPlanned p → HoldsBlocks p.blocks old.disk → SectorsWritten p.slot p.root old new → HasNewRoot p old new
root_written p old new is holds writes =
    let size = is.root in
    let now : new.disk ≡ disk_with p.slot p.root old.disk = ap (λ (c : Images). c.disk) writes in
    new_root p old new is holds (ap (λ (c : Images). c.nvram) writes)
    (λ n differ. ap (λ (d : ℕ → Sector). d n) now ∙ rw (off n p.slot (length p.root) size differ) refl)
    (ap (λ (d : ℕ → Sector). d p.slot) now ∙ rw (on p.slot (length p.root) size) refl)
  where
    off : (n slot size : ℕ) → size ≡ 512 → n ≢ slot → leb slot n && ltb (512 * (n - slot)) size ≡ false
    off n slot size is differ = grind (arith, nat_tests)

    on : (slot size : ℕ) → size ≡ 512 → leb slot slot && ltb (512 * (slot - slot)) size ≡ true
    on slot size is = grind (arith, nat_tests)
