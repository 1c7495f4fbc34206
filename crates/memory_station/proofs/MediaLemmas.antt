-- Facts on what changes in the media of a station in memory.
use Rattle.std.proofs.Common.{◌≡◌, ◌∙◌, ℕ, zero, suc, Bool, true, false, ◌+◌, ◌*◌, ◌/◌, ◌≤◌, List, [], ◌∷◌, ◌++◌, length, take, drop, refl, ap, arith, length-take, length-drop, length-append}
use Rattle.std.specs.Prelude.{All, if◌then◌else◌}
use Rattle.std.specs.Global.{Vec}
use Rattle.std.proofs.lemmas.List.Sums.{fold-append}
use Rattle.std.proofs.lemmas.List.Elements.{All-nil, All-push}
use Rattle.memory_station.specs.declared.history.Call.{Call}
use Rattle.memory_station.specs.declared.media.Media.{Media}
use Rattle.memory_station.specs.Media.{HasCalls, Same, AddsWrite, AddsNvWrite}
use Rattle.memory_station.specs.Unsynced.{parts_of, IsInRange, unsynced_after, unsynced_writes}
use Rattle.memory_station.specs.declared.history.Call.TheVariants.{Read, Write, NvWrite, Sync}
use Rattle.memory_station.specs.declared.history.SectorWrite.{SectorWrite}

-- a step that adds no call after one
pub same_after : (old mid new : Media) (list : List Call) → HasCalls old mid list → Same mid new → HasCalls old new list
same_after old mid new list has same = record {
  sectors = same.sectors ∙ has.sectors;
  nvram_bytes = same.nvram_bytes ∙ has.nvram_bytes;
  disk = same.disk ∙ has.disk;
  nvram = same.nvram ∙ has.nvram;
  bad = same.bad ∙ has.bad;
  calls = same.calls ∙ has.calls;
}

-- the parts of a write in range are whole sectors in range
pub parts_of-in_range : (size first : ℕ) (bytes : List ℕ) (k : ℕ) → 512 * k ≤ length bytes → 512 * first + 512 * k ≤ size → All (IsInRange size) (parts_of first bytes k)
parts_of-in_range size first bytes zero le fits = All-nil (IsInRange size)
parts_of-in_range size first bytes (suc k) le fits =
    All-push (IsInRange size) (parts_of first bytes k) record { sector = first + k; bytes = take 512 (drop (512 * k) bytes) }
    (parts_of-in_range size first bytes k (omega arith) (omega arith))
    (omega arith, simp (length-take, length-drop) (omega arith))

-- how many parts a write adds
pub length-parts_of : (first : ℕ) (bytes : List ℕ) (k : ℕ) → length (parts_of first bytes k) ≡ k
length-parts_of first bytes zero = refl
length-parts_of first bytes (suc k) = omega (arith, length-append (parts_of first bytes k) (record { sector = first + k; bytes = take 512 (drop (512 * k) bytes) } ∷ []), length-parts_of first bytes k)

pub count-parts_of : (un un' : List SectorWrite) (first : ℕ) (bytes : List ℕ) → un' ≡ un ++ parts_of first bytes (length bytes / 512) → length un' ≡ length un + length bytes / 512
count-parts_of un un' first bytes parts = rw parts (length-append un (parts_of first bytes (length bytes / 512)) ∙ ap (λ k. length un + k) (length-parts_of first bytes (length bytes / 512)))

-- a write of this kind, and then no call
pub write_after : (old mid new : Media) (first : ℕ) (bytes : List ℕ) (done was : Bool) → AddsWrite old mid first bytes was → was ≡ done → Same mid new → AddsWrite old new first bytes done
write_after old mid new first bytes done was adds e same = (adds.0, adds.1, same_after old mid new _ (rw e at adds.2) same)

-- an NVRAM write that keeps so many bytes, and then no call
pub nv_write_after : (old mid new : Media) (at : ℕ) (bytes : List ℕ) (kept was : ℕ) → AddsNvWrite old mid at bytes was → was ≡ kept → Same mid new → AddsNvWrite old new at bytes kept
nv_write_after old mid new at bytes kept was adds e same = (adds.0, adds.1, same_after old mid new _ (rw e at adds.2) same)

-- the unsynced sector writes after one call more, which the list has
unsynced-push : (calls : List Call) (call : Call) → unsynced_writes (calls ++ call ∷ []) ≡ unsynced_after (unsynced_writes calls) call
unfolding unsynced_writes
unsynced-push calls call = fold-append unsynced_after [] calls (call ∷ [])

module _ (calls calls' : List Call) (un : List SectorWrite) (listed : un ≡ unsynced_writes calls) where
  pub listed-read : (added : Bool) → calls' ≡ (if added then calls ++ Read ∷ [] else calls) → un ≡ unsynced_writes calls'
  unfolding unsynced_after
  listed-read false e = rw e listed
  listed-read true e = rw (e, unsynced-push calls Read) listed

  pub listed-nv_write : (at : ℕ) (v : Vec ℕ) (kept : ℕ) → calls' ≡ calls ++ NvWrite at v kept ∷ [] → un ≡ unsynced_writes calls'
  unfolding unsynced_after
  listed-nv_write at v kept e = rw (e, unsynced-push calls (NvWrite at v kept)) listed

  pub listed-write : (first : ℕ) (v : Vec ℕ) (bytes : List ℕ) (done : Bool) (un' : List SectorWrite) → calls' ≡ calls ++ Write first v done ∷ [] → v.items ≡ bytes → un' ≡ un ++ parts_of first bytes (length bytes / 512) → un' ≡ unsynced_writes calls'
  unfolding unsynced_after
  listed-write first v bytes done un' e is parts = rw (e, unsynced-push calls (Write first v done), parts, listed, ← is) refl

  pub listed-sync : (done : Bool) (un' : List SectorWrite) → calls' ≡ calls ++ Sync done ∷ [] → done ≡ true → un' ≡ [] → un' ≡ unsynced_writes calls'
  unfolding unsynced_after
  listed-sync done un' e was none = rw (e, unsynced-push calls (Sync done), was) none

  pub listed-sync_failed : (done : Bool) → calls' ≡ calls ++ Sync done ∷ [] → done ≡ false → un ≡ unsynced_writes calls'
  unfolding unsynced_after
  listed-sync_failed done e was = rw (e, unsynced-push calls (Sync done), was) listed
