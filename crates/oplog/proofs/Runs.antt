-- Runs of NVRAM writes: what stands at any moment of them, and what stands after them.
use Rattle.std.proofs.Common.{ℕ, zero, suc, ◌≤◌, List, [], ◌∷◌, length, take, sym, ap, ◌∙◌, subst, Result}
use Rattle.station.specs.Images.{Images, Sector, NvramWritten, NvramPrefixWritten, nvram_with}
use Rattle.station.specs.Moments.{Meaning, EachCut, LeftGoes, LeavesOnly, KeepsDisk}
use Rattle.station.specs.Calls.{WriteCall}
use Rattle.station.proofs.Moments.{started, each_weaker, keeps_disk, keeps_disk_weaker, nvram_goes_on, nvram_left}
use Rattle.oplog.specs.LogEnd.{ReadsDisk}
use Rattle.oplog.proofs.Records.{none_written}

-- Where Q holds of an NVRAM, these bytes are written at this place: P holds while they are, and R after it.
pub record Step (P Q R : List ℕ → Type 0) (at : ℕ) (bytes : List ℕ) : Type 0 where
  pub while : (n : List ℕ) (k : ℕ) → k ≤ length bytes → Q n → P (nvram_with at (take k bytes) n)
  pub after : (n : List ℕ) → Q n → R (nvram_with at bytes n)

-- a byte is written or it isn't
pub one_byte : (P Q R : List ℕ → Type 0) (at byte : ℕ) → ((n : List ℕ) → Q n → P n) → ((n : List ℕ) → R n → P n) → ((n : List ℕ) → Q n → R (nvram_with at (byte ∷ []) n)) → Step P Q R at (byte ∷ [])
one_byte P Q R at byte before later to = record { while = some; after = to }
  where
    some : (n : List ℕ) (k : ℕ) → k ≤ 1 → Q n → P (nvram_with at (take k (byte ∷ [])) n)
    some n zero le q = subst P (sym (none_written at n)) (before n q)
    some n (suc zero) le q = later (nvram_with at (byte ∷ []) n) (to n q)
    some n (suc (suc k)) le q = later (nvram_with at (byte ∷ []) n) (to n q)

-- so far P held at any moment, and now Q holds, on a disk of before
pub record Run (P Q : List ℕ → Type 0) (old now : Meaning) : Type 0 where
  pub any_moment : LeavesOnly old now (KeepsDisk old P)
  pub at_the_end : EachCut now (KeepsDisk old Q)

pub begun : (P Q : List ℕ → Type 0) (m : Meaning) → ((n : List ℕ) → Q n → P n) → EachCut m (λ c. Q c.nvram) → Run P Q m m
begun P Q m to each =
    let now = keeps_disk m Q each in
    record { any_moment = started m (KeepsDisk m P) (each_weaker m (KeepsDisk m Q) (KeepsDisk m P) now (keeps_disk_weaker m Q P to)); at_the_end = now }

module _ {P Q R : List ℕ → Type 0} {at : ℕ} {bytes : List ℕ} {old mid new : Meaning} {T E : Type 0} {result : Result T E} (run : Run P Q old mid) (step : Step P Q R at bytes) (call : WriteCall (NvramPrefixWritten at bytes) mid new result) where
  -- while one more write goes on
  pub writing : LeavesOnly old new (KeepsDisk old P)
  writing = nvram_goes_on old mid new at bytes Q P run.at_the_end run.any_moment call.goes step.while

  -- once it is done
  pub written : LeftGoes (NvramWritten at bytes) mid new → Run P R old new
  written left = record { any_moment = writing; at_the_end = nvram_left old mid new at bytes Q R run.at_the_end call.same left step.after }

-- an NVRAM write changes nothing of the disk
pub disk_stays : {at : ℕ} {bytes : List ℕ} {old new : Meaning} {T E : Type 0} {result : Result T E} → WriteCall (NvramPrefixWritten at bytes) old new result
    → (disk : ℕ → Sector) → ReadsDisk old disk → ReadsDisk new disk
disk_stays call disk (honest, is) =
    let went = call.goes honest in
    (went.honest, ap (λ (i : Images). i.disk) went.seen.writes ∙ is)
