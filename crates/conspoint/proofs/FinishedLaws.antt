-- The disk that a point leaves once it is carried out.
use Rattle.std.proofs.Common.{◌≡◌, ◌≢◌, inl, inr, ℕ, zero, suc, ◌+◌, ◌-◌, ◌*◌, ◌/◌, ◌<◌, ◌≤◌, Bool, true, false, List, [], ◌∷◌, ◌++◌, length, take, drop, get_or, All, if◌then◌else◌, leb, ltb, ◌&&◌, refl, ap, sym, subst, ◌∙◌, arith}
use Rattle.std.proofs.Math.Path.{fun_ext}
use Rattle.std.proofs.Math.Seq.{drop-append-add}
use Rattle.std.proofs.lemmas.Bool.{cases_eq}
use Rattle.std.proofs.lemmas.Bool.Decides.{nat_tests}
use Rattle.std.proofs.lemmas.List.{take_all, take_at}
use Rattle.station.specs.Images.{Images, Sector, disk_with, part_of, reaches}
use Rattle.station.specs.Moments.{IsSector}
use Rattle.layout.specs.Places.{blocks_of}
use Rattle.layout.proofs.PointerLaws.{same_block}
use Rattle.buffers.specs.Disks.{disk_with_block}
use Rattle.buffers.proofs.DiskLaws.{block_written, block_elsewhere}
use Rattle.buffers.proofs.SectorLaws.{whole_sectors}
use Rattle.conspoint.specs.declared.plan.PlannedBlock.{PlannedBlock}
use Rattle.conspoint.specs.Cuts.{HasNewRoot, HoldsBlocks, IsOutside, StaysOutside, disk_with_blocks}
use Rattle.conspoint.specs.Finished.{IsAbsent, disk_after, sectors_with_blocks}
use Rattle.conspoint.specs.Plans.{Planned, FitsDisk, IsPlanned}
use Rattle.conspoint.proofs.DiskBlocks.{beside, has, others, there}
use Rattle.conspoint.proofs.Writes.{slot_low}

abbrev AreSized : List PlannedBlock → Type 0
AreSized blocks = All (λ b. length b.bytes ≡ 4096) blocks

-- ---- one write

-- bytes reach a sector, or the disk is as it was there
reached : (first n : ℕ) (bytes : List ℕ) (d e : ℕ → Sector) → (reaches first bytes n ≡ false → e n ≡ d n) → disk_with first bytes e n ≡ disk_with first bytes d n
reached first n bytes d e same = by_test (reaches first bytes n) same
  where
    by_test : (b : Bool) → (b ≡ false → e n ≡ d n) → (if b then part_of first bytes n else e n) ≡ (if b then part_of first bytes n else d n)
    by_test true same = refl
    by_test false same = same refl

off_block : (place n : ℕ) (bytes : List ℕ) → length bytes ≡ 4096 → reaches (8 * place) bytes n ≡ false → place ≢ n / 8
off_block place n bytes size off is = absurd (on place n (length bytes) size is off)
  where
    on : (place n size : ℕ) → size ≡ 4096 → place ≡ n / 8 → leb (8 * place) n && ltb (512 * (n - 8 * place)) size ≡ false → ⊥
    on place n size is at off = grind (arith, nat_tests)

outside_block : (place n : ℕ) (bytes : List ℕ) (d : ℕ → Sector) → length bytes ≡ 4096 → place ≢ n / 8 → disk_with (8 * place) bytes d n ≡ d n
outside_block place n bytes d size other = rw (off place n (length bytes) size other) refl
  where
    off : (place n size : ℕ) → size ≡ 4096 → place ≢ n / 8 → leb (8 * place) n && ltb (512 * (n - 8 * place)) size ≡ false
    off place n size is other = grind (arith, nat_tests)

within_block : (place n : ℕ) (bytes : List ℕ) (d : ℕ → Sector) → length bytes ≡ 4096 → place ≡ n / 8 → disk_with (8 * place) bytes d n ≡ part_of (8 * place) bytes n
within_block place n bytes d size is = rw (on place n (length bytes) size is) refl
  where
    on : (place n size : ℕ) → size ≡ 4096 → place ≡ n / 8 → leb (8 * place) n && ltb (512 * (n - 8 * place)) size ≡ true
    on place n size is at = grind (arith, nat_tests)

beside_root : (slot n : ℕ) (root : List ℕ) (d : ℕ → Sector) → length root ≡ 512 → n ≢ slot → disk_with slot root d n ≡ d n
beside_root slot n root d size other = rw (off slot n (length root) size other) refl
  where
    off : (slot n size : ℕ) → size ≡ 512 → n ≢ slot → leb slot n && ltb (512 * (n - slot)) size ≡ false
    off slot n size is other = grind (arith, nat_tests)

at_root : (slot : ℕ) (root : List ℕ) (d : ℕ → Sector) → length root ≡ 512 → disk_with slot root d slot ≡ root
at_root slot root d size =
    let off : 512 * (slot - slot) ≡ 0 = omega arith in
    rw (on slot (length root) size) (ap (λ k. take 512 (drop k root)) off ∙ take_all 512 root (omega (arith, size)))
  where
    on : (slot size : ℕ) → size ≡ 512 → leb slot slot && ltb (512 * (slot - slot)) size ≡ true
    on slot size is = grind (arith, nat_tests)

-- ---- all blocks

sizes_rest : (b : PlannedBlock) (blocks : List PlannedBlock) → AreSized (b ∷ blocks) → AreSized blocks
sizes_rest b blocks all k d lt = all (suc k) d (omega (arith, lt))

outside_more : (b : PlannedBlock) (blocks : List PlannedBlock) (n : ℕ) → b.place ≢ n / 8 → IsOutside blocks n → IsOutside (b ∷ blocks) n
outside_more b blocks n other out zero d lt = other
outside_more b blocks n other out (suc k) d lt = out k d (omega (arith, lt))

-- what differs but where they go
same_else : (blocks : List PlannedBlock) (d e : ℕ → Sector) (n : ℕ) → AreSized blocks → (IsOutside blocks n → e n ≡ d n) → sectors_with_blocks blocks e n ≡ sectors_with_blocks blocks d n
unfolding sectors_with_blocks
same_else [] d e n sizes same = same (λ k b lt. absurd (omega (arith, lt)))
same_else (b ∷ blocks) d e n sizes same =
    same_else blocks (disk_with (8 * b.place) b.bytes d) (disk_with (8 * b.place) b.bytes e) n (sizes_rest b blocks sizes)
    (λ out. reached (8 * b.place) n b.bytes d e (λ off. same (outside_more b blocks n (off_block b.place n b.bytes (sizes 0 b (omega arith)) off) out)))

-- each part of a block that can be read is a sector
module _ (sectors : ℕ → Sector) (place : ℕ) (whole : (i : ℕ) → i < 8 → length (sectors (8 * place + i)) ≡ 512) where
  abbrev at : ℕ → Sector
  at i = sectors (8 * place + i)

  past : (i m : ℕ) (ys : List ℕ) → i < 8 → drop (512 + m) (at i ++ ys) ≡ drop m ys
  past i m ys lt = ap (λ k. drop (k + m) (at i ++ ys)) (sym (whole i lt)) ∙ drop-append-add (at i) ys m

  first : (i : ℕ) (ys : List ℕ) → i < 8 → take 512 (at i ++ ys) ≡ at i
  first i ys lt = take_at (at i) ys 512 (whole i lt)

  abbrev rest7 : List ℕ
  rest7 = at 7

  abbrev rest6 : List ℕ
  rest6 = at 6 ++ rest7

  abbrev rest5 : List ℕ
  rest5 = at 5 ++ rest6

  abbrev rest4 : List ℕ
  rest4 = at 4 ++ rest5

  abbrev rest3 : List ℕ
  rest3 = at 3 ++ rest4

  abbrev rest2 : List ℕ
  rest2 = at 2 ++ rest3

  abbrev rest1 : List ℕ
  rest1 = at 1 ++ rest2

  part : (i : ℕ) → i < 8 → take 512 (drop (512 * i) (at 0 ++ rest1)) ≡ at i
  part zero lt = first 0 rest1 lt
  part (suc zero) lt = ap (take 512) (past 0 0 rest1 (omega arith)) ∙ first 1 rest2 (omega arith)
  part (suc (suc zero)) lt = ap (take 512) (past 0 512 rest1 (omega arith) ∙ past 1 0 rest2 (omega arith)) ∙ first 2 rest3 (omega arith)
  part (suc (suc (suc zero))) lt = ap (take 512) (past 0 1024 rest1 (omega arith) ∙ past 1 512 rest2 (omega arith) ∙ past 2 0 rest3 (omega arith)) ∙ first 3 rest4 (omega arith)
  part (suc (suc (suc (suc zero)))) lt = ap (take 512) (past 0 1536 rest1 (omega arith) ∙ past 1 1024 rest2 (omega arith) ∙ past 2 512 rest3 (omega arith) ∙ past 3 0 rest4 (omega arith)) ∙ first 4 rest5 (omega arith)
  part (suc (suc (suc (suc (suc zero))))) lt = ap (take 512) (past 0 2048 rest1 (omega arith) ∙ past 1 1536 rest2 (omega arith) ∙ past 2 1024 rest3 (omega arith) ∙ past 3 512 rest4 (omega arith) ∙ past 4 0 rest5 (omega arith)) ∙ first 5 rest6 (omega arith)
  part (suc (suc (suc (suc (suc (suc zero)))))) lt = ap (take 512) (past 0 2560 rest1 (omega arith) ∙ past 1 2048 rest2 (omega arith) ∙ past 2 1536 rest3 (omega arith) ∙ past 3 1024 rest4 (omega arith) ∙ past 4 512 rest5 (omega arith) ∙ past 5 0 rest6 (omega arith)) ∙ first 6 rest7 (omega arith)
  part (suc (suc (suc (suc (suc (suc (suc zero))))))) lt = ap (take 512) (past 0 3072 rest1 (omega arith) ∙ past 1 2560 rest2 (omega arith) ∙ past 2 2048 rest3 (omega arith) ∙ past 3 1536 rest4 (omega arith) ∙ past 4 1024 rest5 (omega arith) ∙ past 5 512 rest6 (omega arith) ∙ past 6 0 rest7 (omega arith)) ∙ take_all 512 (at 7) (omega (arith, whole 7 (omega arith)))
  part (suc (suc (suc (suc (suc (suc (suc (suc i)))))))) lt = absurd (omega (arith, lt))

  pub parts_are : (i : ℕ) → i < 8 → take 512 (drop (512 * i) (blocks_of sectors place)) ≡ at i
  unfolding blocks_of
  parts_are i lt = ap (λ (x : List ℕ). take 512 (drop (512 * i) (x ++ rest1))) (ap sectors (omega arith)) ∙ part i lt

-- a disk that has the blocks, and is as another one else, has just those sectors
has_sectors : (blocks : List PlannedBlock) (sectors : ℕ) (d e : ℕ → Sector) (n : ℕ) → AreSized blocks → All (λ b. 8 * b.place + 8 ≤ sectors) blocks → ((n : ℕ) → n < sectors → IsSector (e n))
    → HoldsBlocks blocks e → (IsOutside blocks n → e n ≡ d n) → e n ≡ sectors_with_blocks blocks d n
unfolding sectors_with_blocks
has_sectors [] sectors d e n sizes fits are holds same = same (λ k b lt. absurd (omega (arith, lt)))
has_sectors (b ∷ blocks) sectors d e n sizes fits are holds same =
    let size = sizes 0 b (omega arith) in
    has_sectors blocks sectors (disk_with (8 * b.place) b.bytes d) e n (sizes_rest b blocks sizes) (λ k x lt. fits (suc k) x (omega (arith, lt))) are (λ k x lt. holds (suc k) x (omega (arith, lt)))
    (λ out. elim (cases_eq b.place (n / 8)) [
      | inl is ↦ sector_is size is ∙ sym (within_block b.place n b.bytes d size is)
      | inr other ↦ same (outside_more b blocks n other out) ∙ sym (outside_block b.place n b.bytes d size other)
    ])
  where
    sector_is : length b.bytes ≡ 4096 → b.place ≡ n / 8 → e n ≡ part_of (8 * b.place) b.bytes n
    sector_is size is =
        let i = n - 8 * b.place in
        let small : i < 8 = omega (arith, is) in
        let at : 8 * b.place + i ≡ n = omega (arith, is) in
        let there : b.bytes ≡ blocks_of e b.place = holds 0 b (omega arith) in
        let fit = fits 0 b (omega arith) in
        let whole = whole_sectors e b.place (λ k lt. are (8 * b.place + k) (omega (arith, lt, fit))) (ap length (sym there) ∙ size) in
        sym (ap e at) ∙ sym (parts_are e b.place whole i small) ∙ ap (λ (l : List ℕ). take 512 (drop (512 * i) l)) (sym there)

-- and block by block
blocks_are : (blocks : List PlannedBlock) (d : ℕ → Sector) (b : ℕ) → AreSized blocks → blocks_of (sectors_with_blocks blocks d) b ≡ disk_with_blocks blocks (blocks_of d) b
unfolding sectors_with_blocks disk_with_blocks
blocks_are [] d b sizes = refl
blocks_are (x ∷ blocks) d b sizes =
    let size = sizes 0 x (omega arith) in
    blocks_are blocks (disk_with (8 * x.place) x.bytes d) b (sizes_rest x blocks sizes)
    ∙ ap (λ (disk : ℕ → List ℕ). disk_with_blocks blocks disk b) (fun_ext {f = blocks_of (disk_with (8 * x.place) x.bytes d)} {g = disk_with_block x.place x.bytes (blocks_of d)} (λ q. elim (cases_eq x.place q) [
      | inl is ↦ subst (λ k. blocks_of (disk_with (8 * x.place) x.bytes d) k ≡ disk_with_block x.place x.bytes (blocks_of d) k) is
          (sym (block_written d x.place x.bytes size) ∙ sym (there (blocks_of d) x.place x.bytes))
      | inr other ↦ sym (block_elsewhere d x.place q x.bytes (blocks_of d q) size (λ e. other (sym e)) refl) ∙ sym (beside (blocks_of d) x.place q x.bytes other)
    ]))

outside_all : (blocks : List PlannedBlock) (d : ℕ → Sector) (n : ℕ) → AreSized blocks → IsOutside blocks n → sectors_with_blocks blocks d n ≡ d n
unfolding sectors_with_blocks
outside_all [] d n sizes out = refl
outside_all (b ∷ blocks) d n sizes out =
    outside_all blocks (disk_with (8 * b.place) b.bytes d) n (sizes_rest b blocks sizes) (λ k x lt. out (suc k) x (omega (arith, lt)))
    ∙ outside_block b.place n b.bytes d (sizes 0 b (omega arith)) (out 0 b (omega arith))

-- ---- the law

module _ (p : Planned) (planned : IsPlanned p) where
  root_apart : (d : ℕ → Sector) (b : ℕ) → 2 ≤ b → blocks_of (disk_after p d) b ≡ disk_with_blocks p.blocks (blocks_of d) b
  root_apart d b behind =
      let low = slot_low planned.slot in
      same_block (sectors_with_blocks p.blocks d) (disk_after p d) b (λ i small. beside_root p.slot (8 * b + i) p.root (sectors_with_blocks p.blocks d) planned.root (omega (arith, low, behind)))
      ∙ blocks_are p.blocks d b planned.blocks.sizes

  pub is : (old : Images) → HasNewRoot p old (record { disk = disk_after p old.disk; nvram = old.nvram })
  is old = record {
    nvram = refl;
    disk = λ n out differ. beside_root p.slot n p.root (sectors_with_blocks p.blocks old.disk) planned.root differ ∙ outside_all p.blocks old.disk n planned.blocks.sizes out;
    blocks = λ k d lt. sym (root_apart old.disk (get_or p.blocks k d).place (planned.blocks.behind k d lt) ∙ has p.blocks (blocks_of old.disk) planned.blocks.apart k d lt);
    root = at_root p.slot p.root (sectors_with_blocks p.blocks old.disk) planned.root;
  }

  pub one : (sectors : ℕ) (old new : Images) → FitsDisk sectors p → ((n : ℕ) → n < sectors → IsSector (new.disk n)) → HasNewRoot p old new → new.disk ≡ disk_after p old.disk
  one sectors old new fits are has_root = fun_ext {f = new.disk} {g = disk_after p old.disk} (λ n. elim (cases_eq n p.slot) [
    | inl same ↦
        ap new.disk same ∙ has_root.root ∙ sym (ap (disk_after p old.disk) same ∙ at_root p.slot p.root (sectors_with_blocks p.blocks old.disk) planned.root)
    | inr differ ↦
        has_sectors p.blocks sectors old.disk new.disk n planned.blocks.sizes fits.blocks are has_root.blocks (λ out. has_root.disk n out differ)
        ∙ sym (beside_root p.slot n p.root (sectors_with_blocks p.blocks old.disk) planned.root differ)
  ])

  pub stays : (old new : Images) → StaysOutside p.blocks old new → disk_after p new.disk ≡ disk_after p old.disk
  stays old new stay = fun_ext {f = disk_after p new.disk} {g = disk_after p old.disk} (λ n.
      reached p.slot n p.root (sectors_with_blocks p.blocks old.disk) (sectors_with_blocks p.blocks new.disk)
      (λ off. same_else p.blocks old.disk new.disk n planned.blocks.sizes (λ out. stay.disk n out)))

  pub others_stay : (disk : ℕ → Sector) (b : ℕ) → 2 ≤ b → IsAbsent p.blocks b → blocks_of (disk_after p disk) b ≡ blocks_of disk b
  others_stay disk b behind absent = root_apart disk b behind ∙ others p.blocks (blocks_of disk) b absent
