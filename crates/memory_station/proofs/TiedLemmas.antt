-- The arrays of a station in memory stand for the device after each call.
use Rattle.std.proofs.Common.{◌≡◌, ℕ, ◌/◌, ◌%◌, Bool, true, false, List, [], ◌∷◌, ◌++◌, length, take, refl, ap, sym, subst, ◌∙◌, append-nil, inl}
use Rattle.std.specs.Global.{Vec}
use Rattle.std.specs.Prelude.{if◌then◌else◌}
use Rattle.station.specs.Images.{Sector, part_of, reaches, disk_with, nvram_with}
use Rattle.memory_station.specs.Disk.{sectors_with}
use Rattle.memory_station.specs.Device.{Device, fresh, after, after_all, IsOneOf, MayBeLeft}
use Rattle.memory_station.specs.Tied.{IsTied}
use Rattle.memory_station.specs.Unsynced.{parts_of, written_to}
use Rattle.memory_station.specs.declared.history.Call.{Call}
use Rattle.memory_station.specs.declared.history.Call.TheVariants.{Read, Write, NvWrite, Sync}
use Rattle.memory_station.specs.declared.history.SectorWrite.{SectorWrite}
use Rattle.memory_station.specs.declared.cut_outcome.CutOutcome.{CutOutcome}
use Rattle.memory_station.proofs.KeptLemmas.{written_to-append, written_to-write, kept_value-left}
use Rattle.memory_station.specs.DeviceLaws.{SeenIsHeld}
use Rattle.memory_station.proofs.DeviceLemmas.{after_all-push}

module _ (d : Device) (disk : ℕ → Sector) (nvram : List ℕ) (st : ℕ → Sector) (un : List SectorWrite) (keep : CutOutcome) where
  pub tied-read : (is_cut : Bool) → IsTied d disk nvram st un is_cut keep → IsTied (after d Read) disk nvram st un is_cut keep
  unfolding after
  tied-read is_cut tied = tied

  -- the values that a write adds
  held-write : (first : ℕ) (v : Vec ℕ) (done : Bool) → length v.items % 512 ≡ 0 → IsTied d disk nvram st un false keep → (n : ℕ) → (after d (Write first v done)).held n ≡ st n ∷ written_to n (un ++ parts_of first v.items (length v.items / 512))
  unfolding after
  held-write first v done whole tied n = rw (tied.held n, written_to-append n un (parts_of first v.items (length v.items / 512)), written_to-write first v.items n whole) (
      elim (reaches first v.items n) as (λ b. (if b then st n ∷ written_to n un ++ part_of first v.items n ∷ [] else st n ∷ written_to n un) ≡ st n ∷ (written_to n un ++ (if b then part_of first v.items n ∷ [] else []))) [
        | true ↦ refl
        | false ↦ ap (λ xs. st n ∷ xs) (sym (append-nil (written_to n un)))
      ])

  pub tied-write : (first : ℕ) (v : Vec ℕ) (now : ℕ → Sector) → ((n : ℕ) → now n ≡ disk_with first v.items disk n) → length v.items % 512 ≡ 0 → IsTied d disk nvram st un false keep → IsTied (after d (Write first v true)) now nvram st (un ++ parts_of first v.items (length v.items / 512)) false keep
  unfolding after
  tied-write first v now put whole tied = record {
    seen = λ e n. put n ∙ ap (λ x. if reaches first v.items n then part_of first v.items n else x) (tied.seen e n);
    left = λ e. cc;
    held = held-write first v true whole tied;
    nvram_is = tied.nvram_is;
  }

  pub tied-write_failed : (first : ℕ) (v : Vec ℕ) → length v.items % 512 ≡ 0 → IsTied d disk nvram st un false keep → IsTied (after d (Write first v false)) disk nvram st (un ++ parts_of first v.items (length v.items / 512)) false keep
  unfolding after
  tied-write_failed first v whole tied = record {
    seen = tied.seen;
    left = λ e. cc;
    held = held-write first v false whole tied;
    nvram_is = tied.nvram_is;
  }

  pub tied-nv_write : (at : ℕ) (v : Vec ℕ) (kept : ℕ) (is_cut : Bool) → IsTied d disk nvram st un is_cut keep → IsTied (after d (NvWrite at v kept)) disk (nvram_with at (take kept v.items) nvram) st un is_cut keep
  unfolding after
  tied-nv_write at v kept is_cut tied = record {
    seen = tied.seen;
    left = tied.left;
    held = tied.held;
    nvram_is = ap (nvram_with at (take kept v.items)) tied.nvram_is;
  }

  pub tied-sync : (now : ℕ → Sector) → ((n : ℕ) → now n ≡ disk n) → IsTied d disk nvram st un false keep → IsTied (after d (Sync true)) disk nvram now [] false keep
  unfolding after written_to
  tied-sync now same tied = record {
    seen = tied.seen;
    left = λ e. cc;
    held = λ n. ap (λ x. x ∷ []) (sym (same n ∙ tied.seen refl n));
    nvram_is = tied.nvram_is;
  }

  pub tied-sync_failed : IsTied d disk nvram st un false keep → IsTied (after d (Sync false)) disk nvram st un false keep
  unfolding after
  tied-sync_failed tied = tied

  -- before a cut and after one, the disk and the NVRAM are images that a cut may leave
  pub tied-may_be_left : (is_cut : Bool) → SeenIsHeld d → IsTied d disk nvram st un is_cut keep → MayBeLeft d record { disk = disk; nvram = nvram }
  tied-may_be_left false seen tied = record {
    disk = λ n. inl (subst (λ x. IsOneOf x (d.held n)) (sym (tied.seen refl n)) (seen n));
    nvram = sym tied.nvram_is;
  }
  tied-may_be_left true seen tied = record {
    disk = λ n. rw (tied.left refl n, tied.held n) (kept_value-left keep un n (st n));
    nvram = sym tied.nvram_is;
  }

pub tied-load : (bytes nvram bad first_disk first_nvram first_bad : List ℕ) (disk st : ℕ → Sector) (calls : List Call) (un : List SectorWrite) (keep : CutOutcome) → first_disk ≡ bytes → first_nvram ≡ nvram → first_bad ≡ bad → ((n : ℕ) → disk n ≡ sectors_with bytes bad n) → ((n : ℕ) → st n ≡ sectors_with bytes bad n) → calls ≡ [] → un ≡ []
    → IsTied (after_all (fresh first_disk first_nvram first_bad) calls) disk nvram st un false keep
unfolding after_all written_to
tied-load bytes nvram bad first_disk first_nvram first_bad disk st calls un keep b n l d s c u = rw (b, n, l, c, u) record {
  seen = λ _ m. d m;
  left = λ e. cc;
  held = λ m. ap (λ x. x ∷ []) (sym (s m));
  nvram_is = refl;
}

-- after one call more, which the list has
module _ (first : Device) (calls calls' : List Call) (disk : ℕ → Sector) (nvram : List ℕ) (st : ℕ → Sector) (un : List SectorWrite) (is_cut : Bool) (keep : CutOutcome) (tied : IsTied (after_all first calls) disk nvram st un is_cut keep) where
  pub tied_with-read : (added : Bool) → calls' ≡ (if added then calls ++ Read ∷ [] else calls) → IsTied (after_all first calls') disk nvram st un is_cut keep
  tied_with-read false e = rw e tied
  tied_with-read true e = rw (e, after_all-push first calls Read) (tied-read (after_all first calls) disk nvram st un keep is_cut tied)

  pub tied_with-write : (at : ℕ) (v : Vec ℕ) (bytes : List ℕ) (disk' : ℕ → Sector) (un' : List SectorWrite) (done : Bool) → calls' ≡ calls ++ Write at v done ∷ [] → v.items ≡ bytes → un' ≡ un ++ parts_of at bytes (length bytes / 512) → is_cut ≡ false → done ≡ true → ((n : ℕ) → disk' n ≡ disk_with at bytes disk n) → length bytes % 512 ≡ 0 → IsTied (after_all first calls') disk' nvram st un' is_cut keep
  tied_with-write at v bytes disk' un' done e is parts power was put whole = rw (e, after_all-push first calls (Write at v done), parts, power, was, ← is)
      (tied-write (after_all first calls) disk nvram st un keep at v disk' (rw is put) (rw is whole) (rw power at tied))

  pub tied_with-write_failed : (at : ℕ) (v : Vec ℕ) (bytes : List ℕ) (un' : List SectorWrite) (done : Bool) → calls' ≡ calls ++ Write at v done ∷ [] → v.items ≡ bytes → un' ≡ un ++ parts_of at bytes (length bytes / 512) → is_cut ≡ false → done ≡ false → length bytes % 512 ≡ 0 → IsTied (after_all first calls') disk nvram st un' is_cut keep
  tied_with-write_failed at v bytes un' done e is parts power was whole = rw (e, after_all-push first calls (Write at v done), parts, power, was, ← is)
      (tied-write_failed (after_all first calls) disk nvram st un keep at v (rw is whole) (rw power at tied))

  pub tied_with-nv_write : (at : ℕ) (v : Vec ℕ) (kept : ℕ) (bytes nvram' : List ℕ) → calls' ≡ calls ++ NvWrite at v kept ∷ [] → v.items ≡ bytes → nvram' ≡ nvram_with at (take kept bytes) nvram → IsTied (after_all first calls') disk nvram' st un is_cut keep
  tied_with-nv_write at v kept bytes nvram' e is put = rw (e, after_all-push first calls (NvWrite at v kept), put, ← is)
      (tied-nv_write (after_all first calls) disk nvram st un keep at v kept is_cut tied)

  pub tied_with-sync : (st' : ℕ → Sector) (un' : List SectorWrite) (done : Bool) → calls' ≡ calls ++ Sync done ∷ [] → is_cut ≡ false → done ≡ true → ((n : ℕ) → st' n ≡ disk n) → un' ≡ [] → IsTied (after_all first calls') disk nvram st' un' is_cut keep
  tied_with-sync st' un' done e power was same none = rw (e, after_all-push first calls (Sync done), power, was, none)
      (tied-sync (after_all first calls) disk nvram st un keep st' same (rw power at tied))

  pub tied_with-sync_failed : (done : Bool) → calls' ≡ calls ++ Sync done ∷ [] → is_cut ≡ false → done ≡ false → IsTied (after_all first calls') disk nvram st un is_cut keep
  tied_with-sync_failed done e power was = rw (e, after_all-push first calls (Sync done), power, was)
      (tied-sync_failed (after_all first calls) disk nvram st un keep (rw power at tied))
