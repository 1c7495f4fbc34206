-- What blocks read as while a point is under way.
use Rattle.std.proofs.Common.{◌≡◌, ◌≢◌, inl, inr, ℕ, ◌+◌, ◌*◌, ◌/◌, ◌<◌, ◌≤◌, List, [], ◌∷◌, take, All, eqb, Option, Some, None, Result, OnOk, Ok, Err, refl, ap, sym, subst, ◌∙◌, arith}
use Rattle.std.proofs.Math.Path.{fun_ext}
use Rattle.std.proofs.lemmas.Bool.{cases_eq, cases_lt, cond-true, cond-false, eq-eqb, ne_eqb}
use Rattle.std.proofs.lemmas.List.Elements.{All-contains, All-head, All-tail, All-take}
use Rattle.std.specs.Prelude.{IfNone}
use Rattle.station.specs.Images.{Images, Sector}
use Rattle.station.specs.Moments.{Meaning, EachCut, Goes, HasSizes, IsSameStation, IsSector, MayLeave, Shows}
use Rattle.layout.specs.Places.{blocks_of}
use Rattle.buffers.specs.Disks.{IsBlock, ShowsDisk, disk_with_block, disk_with_sector}
use Rattle.buffers.specs.declared.block.Block.{Block}
use Rattle.buffers.specs.declared.block_cache.BlockCache.{BlockCache}
use Rattle.conspoint.specs.Cuts.{HasNewRoot, HoldsBlocks, HoldsWritten, StaysOutside, disk_so_far, disk_with_blocks}
use Rattle.conspoint.specs.Finished.{IsAbsent, disk_after}
use Rattle.conspoint.specs.Plans.{FitsDisk, IsPlanned, IsSlot, Planned}
use Rattle.conspoint.specs.declared.plan.PlannedBlock.{PlannedBlock}
use Rattle.overlay.specs.Indexes.{IsAt}
use Rattle.overlay.specs.Overlays.{HoldsSoFar, ShowsOver, planned_disk}
use Rattle.overlay.specs.declared.pending.PendingPoint.{PendingPoint}

-- What the station does beside its disk doesn't change what blocks read as, where what is kept goes on showing that.
pub over_still : (m n : Meaning) (a b : BlockCache) (pending : Option PendingPoint) (disk : ℕ → List ℕ) → n.seen.disk ≡ m.seen.disk
    → ((d : ℕ → List ℕ) → ShowsDisk m a d → ShowsDisk n b d) → ShowsOver m a pending disk → ShowsOver n b pending disk
over_still m n a b pending disk same still shows = record {
  below = subst (λ (d : ℕ → Sector). ShowsDisk n b (blocks_of d)) (sym same) (still (blocks_of m.seen.disk) shows.below);
  written = subst (HoldsSoFar pending) (sym same) shows.written;
  is = shows.is ∙ ap (λ (d : ℕ → Sector). blocks_of (planned_disk pending d)) (sym same);
}

-- a planned block is there
pub at_present : (blocks : List PlannedBlock) (place : ℕ) (block : Block) → IsAt blocks place block → IsAbsent blocks place → ⊥
at_present blocks place block at absent = All-contains (λ b. b.place ≢ place) blocks (record { place = place; bytes = block }) absent at refl

-- a plan of which nothing is written
pub pending_over : (m : Meaning) (kept : BlockCache) (old : Option PendingPoint) (pending : PendingPoint) (disk : ℕ → List ℕ) → pending.plan.written ≡ 0
    → ShowsOver m kept old disk → ShowsOver m kept (Some pending) (blocks_of (disk_after pending.plan m.seen.disk))
pending_over m kept old pending disk none shows = record {
  below = shows.below;
  written = subst (λ (n : ℕ). HoldsBlocks (take n pending.plan.blocks) m.seen.disk) (sym none) (λ i d lt. absurd (omega (arith, lt)));
  is = refl;
}

-- blocks that stand on a disk change nothing there
stand : (blocks : List PlannedBlock) (disk : ℕ → List ℕ) → All (λ b. b.bytes ≡ disk b.place) blocks → disk_with_blocks blocks disk ≡ disk
unfolding disk_with_blocks
stand [] disk all = refl
stand (b ∷ blocks) disk all =
    ap (disk_with_blocks blocks) (fun_ext {f = disk_with_block b.place b.bytes disk} {g = disk} (λ n. elim (cases_eq n b.place) [
      | inl is ↦ cond-true (eqb n b.place) b.bytes (disk n) (eq-eqb n b.place is) ∙ All-head (λ x. x.bytes ≡ disk x.place) b blocks all ∙ ap disk (sym is)
      | inr other ↦ cond-false (eqb n b.place) b.bytes (disk n) (ne_eqb n b.place other)
    ]))
    ∙ stand blocks disk (All-tail (λ x. x.bytes ≡ disk x.place) b blocks all)

-- a disk that is shown is the one that is seen, if it is behind the end of that
shown_is : (m : Meaning) (kept : BlockCache) (disk : ℕ → List ℕ) → ((b : ℕ) → m.sectors < 8 * b + 8 → disk b ≡ blocks_of m.seen.disk b)
    → ShowsDisk m kept disk → ShowsDisk m kept (blocks_of m.seen.disk)
shown_is m kept disk past shows =
    subst (ShowsDisk m kept) (fun_ext {f = disk} {g = blocks_of m.seen.disk} (λ b. elim (cases_lt m.sectors (8 * b + 8)) [
      | inl behind ↦ past b behind
      | inr within ↦ shows.reads b within
    ])) shows

-- there no block is planned
absent_past : (sectors b : ℕ) (p : Planned) → FitsDisk sectors p → sectors < 8 * b + 8 → IsAbsent p.blocks b
absent_past sectors b p fits past k d lt is = let low = fits.blocks k d lt in absurd (omega (arith, is, low, past))

slot_beside : {slot b : ℕ} → IsSlot slot → 2 ≤ b → b ≢ slot / 8
slot_beside (inl is) behind same = absurd (omega (arith, is, behind, same))
slot_beside (inr is) behind same = absurd (omega (arith, is, behind, same))

-- What is below the blocks of a point, where other blocks of the disk that it leaves are as they were: that is given.
module _ (others : (p : Planned) (disk : ℕ → Sector) (b : ℕ) → IsPlanned p → 2 ≤ b → IsAbsent p.blocks b → blocks_of (disk_after p disk) b ≡ blocks_of disk b) where
  -- a place that isn't planned reads as below
  pub elsewhere : (m : Meaning) (kept : BlockCache) (pending : PendingPoint) (place : ℕ) (disk : ℕ → List ℕ) → IsPlanned pending.plan → 2 ≤ place → IsAbsent pending.plan.blocks place
      → ShowsOver m kept (Some pending) disk → disk place ≡ blocks_of m.seen.disk place
  elsewhere m kept pending place disk planned behind absent shows = ap (λ (d : ℕ → List ℕ). d place) shows.is ∙ others pending.plan m.seen.disk place planned behind absent

  -- behind the disk's end two disks read the same that the same disk comes of
  past_same : (p : Planned) (sectors b : ℕ) (d e : ℕ → Sector) → IsPlanned p → FitsDisk sectors p → sectors < 8 * b + 8 → disk_after p e ≡ disk_after p d → blocks_of d b ≡ blocks_of e b
  past_same p sectors b d e planned fits past same =
      let behind : 2 ≤ b = let most = fits.slots in omega (arith, most, past) in
      let absent = absent_past sectors b p fits past in
      sym (others p d b planned behind absent) ∙ sym (ap (λ (x : ℕ → Sector). blocks_of x b) same) ∙ others p e b planned behind absent

  module _ (beside : (blocks : List PlannedBlock) (disk : ℕ → List ℕ) (n : ℕ) → All (λ b. b.place ≢ n) blocks → disk_with_blocks blocks disk n ≡ disk n)
      (m n : Meaning) (a b : BlockCache) (pending : PendingPoint) (disk : ℕ → List ℕ)
      (planned : IsPlanned pending.plan) (fits : FitsDisk m.sectors pending.plan) (same : IsSameStation m n) (shows : ShowsOver m a (Some pending) disk) where
    abbrev p : Planned
    p = pending.plan

    abbrev base : ℕ → List ℕ
    base = blocks_of m.seen.disk

    so_far : ShowsDisk m a (disk_so_far p base)
    so_far = subst (ShowsDisk m a) (sym (stand (take p.written p.blocks) base shows.written)) shows.below

    past_of : (q : ℕ) → n.sectors < 8 * q + 8 → m.sectors < 8 * q + 8
    past_of q past = let size = same.sectors in omega (arith, size, past)

    -- some more of its blocks are written
    pub sliced : {T E : Type 0} (new : PendingPoint) (r : Result T E) → new.plan ≡ record p { written = new.plan.written } → ((old now : Images) → StaysOutside p.blocks old now → disk_after p now.disk ≡ disk_after p old.disk)
        → Goes (StaysOutside p.blocks) m n → (Shows m (HoldsWritten p) → OnOk r (Shows n (HoldsWritten new.plan)))
        → ((d : ℕ → List ℕ) → ShowsDisk m a (disk_so_far p d) → OnOk r (ShowsDisk n b (disk_so_far new.plan d))) → OnOk r (ShowsOver n b (Some new) disk)
    sliced new (Err e) is stays goes writes shown = tt
    sliced new (Ok x) is stays goes writes shown =
        let went = goes shows.below.honest in
        let after = stays m.seen n.seen went.seen in
        record {
          below = shown_is n b (disk_so_far new.plan base) (λ q past.
              ap (λ (x : Planned). disk_so_far x base q) is
              ∙ beside (take new.plan.written p.blocks) base q (All-take (λ x. x.place ≢ q) new.plan.written p.blocks (absent_past m.sectors q p fits (past_of q past)))
              ∙ past_same p m.sectors q m.seen.disk n.seen.disk planned fits (past_of q past) after) (shown base so_far);
          written = writes (λ honest. shows.written) went.honest;
          is = shows.is ∙ ap blocks_of (sym after) ∙ sym (ap (λ (x : Planned). blocks_of (disk_after x n.seen.disk)) is);
        }

    -- its root has come into force
    pub ended : {T E : Type 0} (r : Result T E) → ((new : Images) → ((k : ℕ) → k < m.sectors → IsSector (new.disk k)) → HasNewRoot p m.seen new → new.disk ≡ disk_after p m.seen.disk)
        → (n.is_honest → MayLeave n n.seen) → EachCut n (HasSizes n) → (Shows m (HoldsWritten p) → OnOk r (EachCut n (HasNewRoot p m.seen)))
        → ((d : ℕ → List ℕ) → ShowsDisk m a (disk_so_far p d) → OnOk r (ShowsDisk n b (disk_with_sector n.seen.disk p.slot (disk_with_blocks p.blocks d)))) → OnOk r (ShowsOver n b None disk)
    ended (Err e) one left sized settled shown = tt
    ended (Ok x) one left sized settled shown =
        let honest = same.honest.0 shows.below.honest in
        let sizes = sized honest n.seen (left honest) in
        let is = one n.seen (λ k lt. sizes.sector k (let size = same.sectors in omega (arith, lt, size))) (settled (λ so. shows.written) honest n.seen (left honest)) in
        record {
          below = shown_is n b (disk_with_sector n.seen.disk p.slot (disk_with_blocks p.blocks base)) (λ q past.
              let behind : 2 ≤ q = let most = fits.slots in let far = past_of q past in omega (arith, most, far) in
              let absent = absent_past m.sectors q p fits (past_of q past) in
              cond-false (eqb q (p.slot / 8)) (blocks_of n.seen.disk (p.slot / 8)) (disk_with_blocks p.blocks base q) (ne_eqb q (p.slot / 8) (slot_beside planned.slot behind))
              ∙ beside p.blocks base q absent ∙ sym (others p m.seen.disk q planned behind absent) ∙ sym (ap (λ (x : ℕ → Sector). blocks_of x q) is)) (shown base so_far);
          written = tt;
          is = shows.is ∙ ap blocks_of (sym is);
        }

-- a planned block reads as the disk to come does
pub here : (m : Meaning) (kept : BlockCache) (pending : PendingPoint) (place : ℕ) (block : Block) (disk : ℕ → List ℕ) → HoldsBlocks pending.plan.blocks (disk_after pending.plan m.seen.disk)
    → IsAt pending.plan.blocks place block → ShowsOver m kept (Some pending) disk → block ≡ disk place
here m kept pending place block disk holds at shows =
    All-contains (λ b. IsBlock (disk_after pending.plan m.seen.disk) b.place b.bytes) pending.plan.blocks (record { place = place; bytes = block }) holds at
    ∙ sym (ap (λ (d : ℕ → List ℕ). d place) shows.is)

-- what follows where there is none
pub none_then : {X P Q : Type 0} (r : Option X) → IfNone r P → (P → Q) → IfNone r Q
none_then None p f = f p
none_then (Some x) p f = tt
