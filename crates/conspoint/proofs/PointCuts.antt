-- What a cut leaves while a point is written.
use Rattle.std.proofs.Common.{◌≡◌, ◌⊎◌, inl, inr, ℕ, List, length, take, Result, OnOk, Ok, Err, refl, ap, sym, subst, ◌∙◌, arith}
use Rattle.station.specs.Images.{Images}
use Rattle.station.specs.Moments.{Meaning, MayLeave, EachCut, Shows, After, Goes, LeavesOnly, IsSameStation}
use Rattle.station.proofs.Moments.{started, goes_on, weaker, joined, at_the_end}
use Rattle.std.proofs.Math.Seq.{take-length}
use Rattle.buffers.specs.Disks.{ShowsDisk, disk_with_sector}
use Rattle.buffers.specs.declared.block_cache.BlockCache.{BlockCache}
use Rattle.conspoint.specs.Cuts.{StaysOutside, HasNewRoot, HasRootOrLost, LosesSlot, HoldsWritten, HoldsBlocks, disk_so_far, disk_with_blocks}
use Rattle.conspoint.specs.Plans.{Planned}
use Rattle.conspoint.specs.declared.plan.PlannedBlock.{PlannedBlock}

-- where nothing is written, that stands there
pub none_written : (m : Meaning) (p : Planned) → p.written ≡ 0 → Shows m (HoldsWritten p)
none_written m p none honest =
    subst (λ (n : ℕ). HoldsBlocks (take n p.blocks) m.seen.disk) (sym none) (λ i d lt. absurd (omega (arith, lt)))

pub on_ok : {T E : Type 0} {A B : Type 0} (r : Result T E) → (A → B) → OnOk r A → OnOk r B
on_ok (Ok x) f a = f a
on_ok (Err e) f a = tt

so_far_none : (p : Planned) (disk : ℕ → List ℕ) → p.written ≡ 0 → disk_so_far p disk ≡ disk
unfolding disk_with_blocks
so_far_none p disk none = ap (λ (n : ℕ). disk_with_blocks (take n p.blocks) disk) none

-- the disk that is shown before and after
pub shown_none : (m : Meaning) (kept : BlockCache) (p : Planned) (disk : ℕ → List ℕ) → p.written ≡ 0 → ShowsDisk m kept disk → ShowsDisk m kept (disk_so_far p disk)
shown_none m kept p disk none shows = subst (ShowsDisk m kept) (sym (so_far_none p disk none)) shows

so_far_all : (p q : Planned) (disk : ℕ → List ℕ) → q ≡ record p { written = q.written } → q.written ≡ length p.blocks → disk_so_far q disk ≡ disk_with_blocks p.blocks disk
so_far_all p q disk is all =
    ap (λ (x : Planned). disk_so_far x disk) is ∙ ap (λ (n : ℕ). disk_with_blocks (take n p.blocks) disk) all
    ∙ ap (λ (l : List PlannedBlock). disk_with_blocks l disk) (take-length p.blocks)

pub shown_all : (m : Meaning) (kept : BlockCache) (p q : Planned) (disk : ℕ → List ℕ) → q ≡ record p { written = q.written } → q.written ≡ length p.blocks
    → ShowsDisk m kept (disk_with_sector m.seen.disk q.slot (disk_so_far q disk)) → ShowsDisk m kept (disk_with_sector m.seen.disk p.slot (disk_with_blocks p.blocks disk))
shown_all m kept p q disk is all shows =
    subst (λ (d : ℕ → List ℕ). ShowsDisk m kept (disk_with_sector m.seen.disk p.slot d)) (so_far_all p q disk is all)
    (subst (λ (n : ℕ). ShowsDisk m kept (disk_with_sector m.seen.disk n (disk_so_far q disk))) (ap (λ (x : Planned). x.slot) is) shows)

module _ (old mid : Meaning) (p : Planned) (goes : Goes (StaysOutside p.blocks) old mid) where
  abbrev Cut : Images → Type 0
  Cut c = After (StaysOutside p.blocks) old c ⊎ HasRootOrLost p old.seen c

  -- before the root is written
  pub wrote : LeavesOnly old mid Cut
  wrote =
      goes_on old old mid (StaysOutside p.blocks) Cut
      (started old Cut (λ honest c left. inl (c, left, record { nvram = refl; disk = λ n out. refl }))) goes (λ c after. inl after)

  module _ (q : Planned) (is : q ≡ record p { written = q.written }) where
    from_old : old.is_honest → (c : Images) → HasNewRoot q mid.seen c → HasNewRoot p old.seen c
    from_old honest c has =
        let went = goes honest in
        let here = subst (λ (x : Planned). HasNewRoot x mid.seen c) is has in
        record {
          nvram = here.nvram ∙ went.seen.nvram;
          disk = λ n out other. here.disk n out other ∙ went.seen.disk n out;
          blocks = here.blocks;
          root = here.root;
        }

    lost_from : old.is_honest → (c : Images) → LosesSlot q mid.seen c → LosesSlot p old.seen c
    lost_from honest c loses =
        let went = goes honest in
        let here = subst (λ (x : Planned). LosesSlot x mid.seen c) is loses in
        record { nvram = here.nvram ∙ went.seen.nvram; disk = λ n out other. here.disk n out other ∙ went.seen.disk n out; lost = here.lost }

    -- while it is, and after it
    pub finished : (new : Meaning) → IsSameStation old mid → Shows mid (HoldsWritten q)
        → (Shows mid (HoldsWritten q) → LeavesOnly mid new (λ c. MayLeave mid c ⊎ HasRootOrLost q mid.seen c)) → LeavesOnly old new Cut
    finished new same shown ends honest =
        joined old mid new Cut wrote
        (weaker mid new (λ c. MayLeave mid c ⊎ HasRootOrLost q mid.seen c) Cut (ends shown) (λ c. λ one. elim one [
          | inl left ↦ at_the_end old mid Cut same wrote (goes honest).honest c left
          | inr began ↦ inr (elim began [ inl root ↦ inl (from_old honest c root) | inr loses ↦ inr (lost_from honest c loses) ])
        ])) honest

    pub settled : (new : Meaning) → IsSameStation old mid → IsSameStation mid new → EachCut new (HasNewRoot q mid.seen) → EachCut new (HasNewRoot p old.seen)
    settled new same ends each is_honest c left = from_old (same.honest.1 (ends.honest.1 is_honest)) c (each is_honest c left)
