-- What a call on two files is to the station that they make.
use Rattle.std.proofs.Common.{◌≡◌, inl, inr, ℕ, ◌+◌, ◌*◌, ◌/◌, ◌%◌, ◌≤◌, List, length, arith, refl, sym, ap, ◌∙◌, subst, Result, Ok, Err}
use Rattle.std.proofs.Math.Path.{fun_ext}
use Rattle.std.specs.Prelude.{OnOk, OnErr, is_ok}
use Rattle.station.specs.Images.{Images, Unchanged, SectorsWritten, SomeSectorsWritten, NvramWritten, NvramPrefixWritten, disk_with, images_of, sectors_of}
use Rattle.station.specs.Moments.{After, Goes, SeenGoes, LeftGoes, IsSameStation, counted_up}
use Rattle.station.specs.Calls.{WriteCall}
use Rattle.station.proofs.DiskLemmas.{cases_reach, sectors_of-write}
use Rattle.file_station.specs.Files.{FilesMeaning, AreSameFiles, LeavesFile, SomeSectorsKept, PrefixKept, FilesGo, HasLengths, file_with, file_of}
use Rattle.file_station.specs.declared.image_files.Part.{Part}
use Rattle.file_station.specs.declared.image_files.Part.TheVariants.{Disk, Nvram}
use Rattle.file_station.specs.Stations.{station_of}

-- STEPS

unchanged : (d e n o : List ℕ) → LeavesFile d e → LeavesFile n o → Unchanged (images_of d n) (images_of e o)
unchanged d e n o disk nvram i = images_of (disk i) (nvram i)

module _ (at first : ℕ) (bytes : List ℕ) (place : at ≡ 512 * first) (whole : length bytes % 512 ≡ 0) where
  with_sectors : (d : List ℕ) (k : ℕ) → at + length bytes ≤ length d → sectors_of (file_with at bytes d) k ≡ disk_with first bytes (sectors_of d) k
  with_sectors d k fits = rw place (sectors_of-write d bytes first k (omega (arith, fits, place)) whole)

  some_sectors : (d e n o : List ℕ) → at + length bytes ≤ length d → SomeSectorsKept at bytes d e → LeavesFile n o → SomeSectorsWritten first bytes (images_of d n) (images_of e o)
  some_sectors d e n o fits some nvram = record {
    nvram = nvram;
    disk = λ k. elim (some k) [
      | inl same ↦ inl same
      | inr made ↦
          let is : sectors_of e k ≡ disk_with first bytes (sectors_of d) k = made ∙ with_sectors d k fits in
          elim (cases_reach first bytes k) [
            | inl within ↦ inr ((within.0, within.1), inl (rw within.2 at is))
            | inr off ↦ inl (rw off.1 at is)
          ]
    ];
  }

  all_sectors : (d e n o : List ℕ) → at + length bytes ≤ length d → e ≡ file_with at bytes d → LeavesFile n o → SectorsWritten first bytes (images_of d n) (images_of e o)
  all_sectors d e n o fits is nvram =
      let disk : sectors_of e ≡ disk_with first bytes (sectors_of d) = fun_ext (λ k. ap (λ f. sectors_of f k) is ∙ with_sectors d k fits) in
      λ i. record { disk = disk i; nvram = nvram i }

some_nvram : (at : ℕ) (bytes d e n o : List ℕ) → LeavesFile d e → PrefixKept at bytes n o → NvramPrefixWritten at bytes (images_of d n) (images_of e o)
some_nvram at bytes d e n o disk some = record { kept = some.kept; within = some.within; writes = λ i. record { disk = sectors_of (disk i); nvram = some.is i } }

-- CALLS

module _ (m m' : FilesMeaning) (lengths : m.is_honest → HasLengths m) where
  goes : (r w r' w' : ℕ) (on_disk on_nvram : List ℕ → List ℕ → Type 0) (step : Images → Images → Type 0) → FilesGo on_disk on_nvram m m'
      → ((d e n o : List ℕ) → length d ≡ m.disk.length → length n ≡ m.nvram.length → on_disk d e → on_nvram n o → step (images_of d n) (images_of e o)) → Goes step (station_of m r w) (station_of m' r' w')
  goes r w r' w' on_disk on_nvram step files to honest =
      let went = files honest in
      let long = lengths honest in
      record {
        honest = went.honest;
        later = went.later;
        kept = λ t c early. (
          λ left. (left.0, left.1, (went.disk.kept t left.0 early).0 left.2, (went.nvram.kept t left.1 early).0 left.3, left.4),
          λ left. (left.0, left.1, (went.disk.kept t left.0 early).1 left.2, (went.nvram.kept t left.1 early).1 left.3, left.4),
        );
        added = λ t c late soon left.
            let d = went.disk.added t left.0 late soon left.2 in
            let n = went.nvram.added t left.1 late soon left.3 in
            after c left.0 left.1 left.4 d n;
        now = λ c left. after c left.0 left.1 left.4 (went.disk.now left.0 left.2) (went.nvram.now left.1 left.3);
        seen = to m.disk.seen m'.disk.seen m.nvram.seen m'.nvram.seen (long.disk m.disk.seen long.disk_seen) (long.nvram m.nvram.seen long.nvram_seen) went.disk.seen went.nvram.seen;
      }
    where
      after : (c : Images) (e o : List ℕ) → c ≡ images_of e o → ((d : List ℕ) × m.disk.left_at m.moment d × on_disk d e) → ((n : List ℕ) × m.nvram.left_at m.moment n × on_nvram n o) → After step (station_of m r w) c
      after c e o is (d, left_d, step_d) (n, left_n, step_n) = (
        images_of d n,
        (d, n, left_d, left_n, refl),
        subst (step (images_of d n)) (sym is) (to d e n o ((lengths honest).disk d left_d) ((lengths honest).nvram n left_n) step_d step_n),
      )

  same : (r w r' w' : ℕ) → AreSameFiles m m' → IsSameStation (station_of m r w) (station_of m' r' w')
  same r w r' w' files = record { sectors = ap (λ (n : ℕ). n / 512) files.disk; nvram_bytes = files.nvram; honest = files.honest }

  -- a write to the disk's file
  module _ (at first : ℕ) (bytes : List ℕ) (place : at ≡ 512 * first) (whole : length bytes % 512 ≡ 0) (fits : at + length bytes ≤ m.disk.length)
      (files : AreSameFiles m m') (go : FilesGo (SomeSectorsKept at bytes) LeavesFile m m') where
    pub writes_sectors : {T E : Type 0} (r w w' : ℕ) (result : Result T E) → OnOk result (w' ≡ w) → OnErr result (w' ≡ counted_up w)
        → WriteCall (SomeSectorsWritten first bytes) (station_of m r w) (station_of m' r w') result
    writes_sectors r w w' result ok err = record {
      same = same r w r w' files;
      counts = record { reads = refl; ok = ok; err = err };
      goes = goes r w r w' (SomeSectorsKept at bytes) LeavesFile (SomeSectorsWritten first bytes) go
          (λ d e n o long _ some keeps. some_sectors at first bytes place whole d e n o (omega (arith, long, fits)) some keeps);
    }

    pub wrote_sectors : (r w r' w' : ℕ) → (m.is_honest → m'.disk.seen ≡ file_with at bytes m.disk.seen)
        → SeenGoes (SectorsWritten first bytes) (station_of m r w) (station_of m' r' w')
    wrote_sectors r w r' w' written honest =
        let long = (lengths honest).disk m.disk.seen (lengths honest).disk_seen in
        all_sectors at first bytes place whole m.disk.seen m'.disk.seen m.nvram.seen m'.nvram.seen (omega (arith, long, fits)) (written honest) (go honest).nvram.seen

  -- a write to the NVRAM's file
  module _ (start at : ℕ) (bytes : List ℕ) (place : start ≡ at) (files : AreSameFiles m m') (go : FilesGo LeavesFile (PrefixKept start bytes) m m') where
    pub writes_nvram : {T E : Type 0} (r w w' : ℕ) (result : Result T E) → OnOk result (w' ≡ w) → OnErr result (w' ≡ counted_up w)
        → WriteCall (NvramPrefixWritten at bytes) (station_of m r w) (station_of m' r w') result
    writes_nvram r w w' result ok err = record {
      same = same r w r w' files;
      counts = record { reads = refl; ok = ok; err = err };
      goes = goes r w r w' LeavesFile (PrefixKept start bytes) (NvramPrefixWritten at bytes) go (λ d e n o _ _ keeps some. some_nvram at bytes d e n o keeps (rw place at some));
    }

    -- which was settled: each of the two files is left independently of the other
    pub left_nvram : (r w r' w' : ℕ) → (m.is_honest → (f : List ℕ) → m'.nvram.left_at m'.moment f → f ≡ file_with start bytes m.nvram.seen)
        → LeftGoes (NvramWritten at bytes) (station_of m r w) (station_of m' r' w')
    left_nvram r w r' w' settled honest' c left =
        let honest = files.honest.1 honest' in
        let disk = (go honest).disk.now left.0 left.2 in
        let nvram : left.1 ≡ file_with at bytes m.nvram.seen = rw place at (settled honest left.1 left.3) in (
          images_of disk.0 m.nvram.seen,
          (disk.0, m.nvram.seen, disk.1, (lengths honest).nvram_seen, refl),
          left.4 ∙ (λ i. record { disk = sectors_of (disk.2 i); nvram = nvram i }),
        )

-- what a trait's laws say of a file, of both
pub both_lengths : (m : FilesMeaning) → ((part : Part) (f : List ℕ) → m.is_honest → (file_of m part).left_at m.moment f → length f ≡ (file_of m part).length)
    → ((part : Part) → m.is_honest → (file_of m part).left_at m.moment (file_of m part).seen) → m.is_honest → HasLengths m
both_lengths m lengths seen honest = record {
  disk = λ f left. lengths Disk f honest left;
  nvram = λ f left. lengths Nvram f honest left;
  disk_seen = seen Disk honest;
  nvram_seen = seen Nvram honest;
}

-- what is true where the files answered Ok
pub on_same : {T E U F : Type 0} (done : Result T E) (result : Result U F) (P Q : Type 0) → is_ok result ≡ is_ok done → (P → Q) → OnOk done P → OnOk result Q
on_same (Ok x) (Ok y) P Q same to p = to p
on_same (Ok x) (Err e) P Q same to p = tt
on_same (Err e) (Ok y) P Q same to p = cc
on_same (Err e) (Err f) P Q same to p = tt
