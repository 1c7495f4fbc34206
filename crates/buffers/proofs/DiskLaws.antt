-- What reading and writing a block do to the disk that is shown.
use Rattle.std.proofs.Common.{Result, Ok, Err, IfOk, ◌≡◌, ◌⊎◌, ℕ, ◌+◌, ◌-◌, ◌*◌, ◌/◌, ◌<◌, ◌≤◌, List, length, take, drop, refl, sym, ◌∙◌, ap, subst, inl, inr, arith, eqb, leb, ltb, ◌&&◌, true, false}
use Rattle.std.proofs.lemmas.Bool.{cases_eq}
use Rattle.std.proofs.lemmas.Bool.Decides.{nat_tests}
use Rattle.station.specs.Images.{Images, Sector, Unchanged}
use Rattle.station.specs.Images as images
use Rattle.station.specs.Moments.{Meaning, IsSameStation, Goes}
use Rattle.layout.specs.Places.{blocks_of}
use Rattle.buffers.specs.Disks.{IsBlock, IsDisk, ShowsDisk, ReadsOn, disk_with_block, disk_with_sector}
use Rattle.buffers.specs.Memory.{Has, Loses}
use Rattle.buffers.specs.declared.block.Block.{Block}
use Rattle.buffers.specs.declared.block_cache.BlockCache.{BlockCache}
use Rattle.layout.proofs.PointerLaws.{same_block}
use Rattle.buffers.proofs.SectorLaws.{sectors_block}

disk_stays : (m n : Meaning) (disk : ℕ → List ℕ) → IsSameStation m n → n.seen ≡ m.seen → IsDisk m disk → IsDisk n disk
disk_stays m n disk same seen is place within =
    subst (λ (i : Images). IsBlock i.disk place (disk place)) (sym seen) (is place (subst (λ (s : ℕ). 8 * place + 8 ≤ s) same.sectors within))

-- a block that is as the disk has it comes into memory
pub kept_more : (m : Meaning) (old new : BlockCache) (place : ℕ) (block : Block) (disk : ℕ → List ℕ) → ((p : ℕ) (b : Block) → Has new p b → ((p ≡ place) × (b ≡ block)) ⊎ Has old p b) → block ≡ disk place
    → ShowsDisk m old disk → ShowsDisk m new disk
kept_more m old new place block disk only is shows = record {
  honest = shows.honest;
  reads = shows.reads;
  kept_is = λ p b has. elim (only p b has) [
    | inl same ↦ same.1 ∙ is ∙ ap disk (sym same.0)
    | inr had ↦ shows.kept_is p b had
  ];
}

-- less is kept, and reads go on
pub read_less : (m n : Meaning) (old new : BlockCache) (disk : ℕ → List ℕ) → ReadsOn m n → Loses old new → ShowsDisk m old disk → ShowsDisk n new disk
read_less m n old new disk reads loses shows =
    let went = reads.goes shows.honest in
    record { honest = went.honest; reads = disk_stays m n disk reads.same went.seen shows.reads; kept_is = λ p b has. shows.kept_is p b (loses p b has) }

-- less is kept
pub kept_less : (m : Meaning) (old new : BlockCache) (disk : ℕ → List ℕ) → Loses old new → ShowsDisk m old disk → ShowsDisk m new disk
kept_less m old new disk loses shows = record { honest = shows.honest; reads = shows.reads; kept_is = λ p b has. shows.kept_is p b (loses p b has) }

-- a block that is read is as the disk has it
pub read_is : {E : Type 0} (m : Meaning) (kept : BlockCache) (place : ℕ) (disk : ℕ → List ℕ) (r : Result Block E) → 8 * place + 8 ≤ m.sectors → (m.is_honest → IfOk r (IsBlock m.seen.disk place))
    → ShowsDisk m kept disk → IfOk r (λ b. b ≡ disk place)
read_is m kept place disk (Ok block) within is shows = is shows.honest ∙ sym (shows.reads place within)
read_is m kept place disk (Err e) within is shows = tt

-- a sector of the block that was written, and one of another block
hit : (place i n : ℕ) → 512 * i < n → leb (8 * place) (8 * place + i) && ltb (512 * (8 * place + i - 8 * place)) n ≡ true
hit place i n lt = grind (arith, nat_tests)

miss : (b place i n : ℕ) → (b ≡ place → ⊥) → n ≡ 4096 → i < 8 → leb (8 * place) (8 * b + i) && ltb (512 * (8 * b + i - 8 * place)) n ≡ false
miss b place i n ne e lt = grind (arith, nat_tests)

-- the block that was written
pub block_written : (sectors : ℕ → Sector) (place : ℕ) (bytes : List ℕ) → length bytes ≡ 4096 → IsBlock (images.disk_with (8 * place) bytes sectors) place bytes
block_written sectors place bytes len = sym (sectors_block (images.disk_with (8 * place) bytes sectors) place bytes len (λ i lt.
    let at : 8 * place + i - 8 * place ≡ i = omega arith in
    rw (hit place i (length bytes) (omega arith)) (ap (λ k. take 512 (drop (512 * k) bytes)) at)))

-- another block
pub block_elsewhere : (sectors : ℕ → Sector) (place b : ℕ) (bytes block : List ℕ) → length bytes ≡ 4096 → (b ≡ place → ⊥) → IsBlock sectors b block → IsBlock (images.disk_with (8 * place) bytes sectors) b block
block_elsewhere sectors place b bytes block len ne is =
    is ∙ sym (same_block sectors (images.disk_with (8 * place) bytes sectors) b (λ i lt. rw (miss b place i (length bytes) ne len lt) refl))

other_block : (disk : ℕ → List ℕ) (place b : ℕ) (bytes : List ℕ) → (b ≡ place → ⊥) → disk b ≡ disk_with_block place bytes disk b
other_block disk place b bytes ne = rw (apart b place ne) refl
  where
    apart : (b place : ℕ) → (b ≡ place → ⊥) → eqb b place ≡ false
    apart b place ne = grind (arith, nat_tests)

this_block : (disk : ℕ → List ℕ) (place b : ℕ) (bytes : List ℕ) → b ≡ place → bytes ≡ disk_with_block place bytes disk b
this_block disk place b bytes e = rw (same b place e) refl
  where
    same : (b place : ℕ) → b ≡ place → eqb b place ≡ true
    same b place e = grind (arith, nat_tests)

-- a block that was stored reads so, and what was kept of it is let go
pub stored : (m n : Meaning) (old new : BlockCache) (place : ℕ) (bytes : List ℕ) (disk : ℕ → List ℕ) → length bytes ≡ 4096 → IsSameStation m n
    → (m.is_honest → n.seen ≡ record { disk = images.disk_with (8 * place) bytes m.seen.disk; nvram = m.seen.nvram })
    → Loses old new → ((b : Block) → Has new place b → ⊥) → ShowsDisk m old disk → ShowsDisk n new (disk_with_block place bytes disk)
stored m n old new place bytes disk len same written loses gone shows = record {
  honest = same.honest.0 shows.honest;
  reads = λ b within. subst (λ (i : Images). IsBlock i.disk b (disk_with_block place bytes disk b)) (sym (written shows.honest)) (elim (cases_eq b place) [
    | inl e ↦
        subst (λ (x : List ℕ). IsBlock (images.disk_with (8 * place) bytes m.seen.disk) b x) (this_block disk place b bytes e)
        (subst (λ (q : ℕ). IsBlock (images.disk_with (8 * place) bytes m.seen.disk) q bytes) (sym e) (block_written m.seen.disk place bytes len))
    | inr ne ↦
        subst (λ (x : List ℕ). IsBlock (images.disk_with (8 * place) bytes m.seen.disk) b x) (other_block disk place b bytes ne)
        (block_elsewhere m.seen.disk place b bytes (disk b) len ne (shows.reads b (subst (λ (s : ℕ). 8 * b + 8 ≤ s) same.sectors within)))
  ]);
  kept_is = λ b block got. elim (cases_eq b place) [
    | inl e ↦ absurd (gone block (subst (λ (p : ℕ). Has new p block) e got))
    | inr ne ↦ shows.kept_is b block (loses b block got) ∙ other_block disk place b bytes ne
  ];
}

-- what the station does beside its disk doesn't change what the disk shows
pub still_shows : (m n : Meaning) (kept : BlockCache) (disk : ℕ → List ℕ) → n.is_honest → n.sectors ≡ m.sectors → n.seen.disk ≡ m.seen.disk → ShowsDisk m kept disk → ShowsDisk n kept disk
still_shows m n kept disk honest sectors same shows = record {
  honest = honest;
  reads = λ place within. subst (λ (d : ℕ → Sector). IsBlock d place (disk place)) (sym same) (shows.reads place (subst (λ (s : ℕ). 8 * place + 8 ≤ s) sectors within));
  kept_is = shows.kept_is;
}

-- another block than that of a sector that was written
block_beside : (sectors : ℕ → Sector) (sector b : ℕ) (bytes : List ℕ) → length bytes ≡ 512 → (b ≡ sector / 8 → ⊥) → blocks_of (images.disk_with sector bytes sectors) b ≡ blocks_of sectors b
block_beside sectors sector b bytes size other = same_block sectors (images.disk_with sector bytes sectors) b (λ i lt. rw (off (8 * b + i) (length bytes) size (λ e. other (omega arith))) refl)
  where
    off : (n size : ℕ) → size ≡ 512 → (n ≡ sector → ⊥) → leb sector n && ltb (512 * (n - sector)) size ≡ false
    off n size is differ = grind (arith, nat_tests)

-- a sector that was written: its block reads as the station has it, and what was kept of that is let go
pub sector_stored : (m n : Meaning) (old new : BlockCache) (sector : ℕ) (bytes : List ℕ) (disk : ℕ → List ℕ) → length bytes ≡ 512 → IsSameStation m n
    → (m.is_honest → n.seen ≡ record { disk = images.disk_with sector bytes m.seen.disk; nvram = m.seen.nvram })
    → Loses old new → ((b : Block) → Has new (sector / 8) b → ⊥) → ShowsDisk m old disk → ShowsDisk n new (disk_with_sector n.seen.disk sector disk)
sector_stored m n old new sector bytes disk size same written loses gone shows =
    let q = sector / 8 in
    let block = blocks_of n.seen.disk q in
    record {
      honest = same.honest.0 shows.honest;
      reads = λ b within. elim (cases_eq b q) [
        | inl e ↦ sym (this_block disk q b block e) ∙ ap (blocks_of n.seen.disk) (sym e)
        | inr ne ↦
            sym (other_block disk q b block ne) ∙ shows.reads b (subst (λ (s : ℕ). 8 * b + 8 ≤ s) same.sectors within)
            ∙ sym (block_beside m.seen.disk sector b bytes size ne) ∙ ap (λ (i : Images). blocks_of i.disk b) (sym (written shows.honest))
      ];
      kept_is = λ b kept got. elim (cases_eq b q) [
        | inl e ↦ absurd (gone kept (subst (λ (p : ℕ). Has new p kept) e got))
        | inr ne ↦ shows.kept_is b kept (loses b kept got) ∙ other_block disk q b block ne
      ];
    }

-- what is shown still is, where reads give the same
pub same_shows : (m n : Meaning) (kept : BlockCache) (disk : ℕ → List ℕ) → IsSameStation m n → Goes Unchanged m n → ShowsDisk m kept disk → ShowsDisk n kept disk
same_shows m n kept disk same goes shows =
    record { honest = same.honest.0 shows.honest; reads = disk_stays m n disk same (goes shows.honest).seen shows.reads; kept_is = shows.kept_is }
