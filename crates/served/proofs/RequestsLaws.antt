-- How answers to requests come about.
use Rattle.std.proofs.Common.{◌≢◌, ℕ, Bool, refl}
use Rattle.file_system.specs.declared.file_system.FileSystem.{Ghosts}
use Rattle.fuse.specs.Operation.{operation_of}
use Rattle.fuse.specs.declared.forgets.Forgets.{Forgets}
use Rattle.fuse.specs.declared.operation.Operation.{Operation}
use Rattle.fuse.specs.declared.operation.Operation.TheVariants as asked
use Rattle.served.specs.Known.{Known}
use Rattle.served.specs.Finding.{finds}
use Rattle.served.specs.Requests.{answers, of_found}
use Rattle.served.specs.Setting.{Told, looks, told}
use Rattle.served.specs.Turns.{Came, Turn, ◌▹◌}
use Rattle.served.specs.declared.answer.Answer.{Answer}
use Rattle.served.specs.declared.marks.Asker.{Asker}
use Rattle.served.proofs.TurnLaws.{came_gives, came_then}

module _ {S : Type 0} (G : Ghosts S) where
  -- an answer that changes nothing that the server knows
  pub came_looks : (old new : S) (k : Known) (turn : Turn Answer) (a : Answer) → Came G old new turn a → Came G old new (looks k turn) (a, k)
  came_looks old new k turn a came = came_then G old new new turn (told k) a (a, k) came (came_gives G new (a, k))

  -- what is asked of what a node leads to
  pub answers_else : (old : S) (new : S) (k : Known) (by : Asker) (node : ℕ) (r : Told) (op : Operation) → ((major : ℕ) (minor : ℕ) (max_readahead : ℕ) (flags : ℕ) → op ≢ asked.Init major minor max_readahead flags)
      → (op ≢ asked.Destroy)
      → ((unique : ℕ) → op ≢ asked.Interrupt unique)
      → (op ≢ asked.Retrieved)
      → ((lookups : ℕ) → op ≢ asked.Forget lookups)
      → ((forgets : Forgets) → op ≢ asked.BatchForget forgets)
      → (op ≢ asked.StatFileSystem)
      → ((flags : ℕ) (open_flags : ℕ) → op ≢ asked.OpenDirectory flags open_flags)
      → ((handle : ℕ) → op ≢ asked.ReleaseDirectory handle)
      → ((handle : ℕ) (data_only : Bool) → op ≢ asked.Sync handle data_only)
      → ((handle : ℕ) (data_only : Bool) → op ≢ asked.SyncDirectory handle data_only)
      → ((handle : ℕ) → op ≢ asked.Flush handle)
      → ((mask : ℕ) → op ≢ asked.Access mask)
      → ((opcode : ℕ) → op ≢ asked.Other opcode) → Came G old new (finds node ▹ of_found k by node (operation_of op)) r → Came G old new (answers k by node (operation_of op)) r
  unfolding answers
  answers_else old new k by node r (asked.Init major1 minor1 max_readahead1 flags1) no_Init no_Destroy no_Interrupt no_Retrieved no_Forget no_BatchForget no_StatFileSystem no_OpenDirectory no_ReleaseDirectory no_Sync no_SyncDirectory no_Flush no_Access no_Other came = absurd (no_Init major1 minor1 max_readahead1 flags1 refl)
  answers_else old new k by node r asked.Destroy no_Init no_Destroy no_Interrupt no_Retrieved no_Forget no_BatchForget no_StatFileSystem no_OpenDirectory no_ReleaseDirectory no_Sync no_SyncDirectory no_Flush no_Access no_Other came = absurd (no_Destroy refl)
  answers_else old new k by node r (asked.Interrupt unique1) no_Init no_Destroy no_Interrupt no_Retrieved no_Forget no_BatchForget no_StatFileSystem no_OpenDirectory no_ReleaseDirectory no_Sync no_SyncDirectory no_Flush no_Access no_Other came = absurd (no_Interrupt unique1 refl)
  answers_else old new k by node r asked.Retrieved no_Init no_Destroy no_Interrupt no_Retrieved no_Forget no_BatchForget no_StatFileSystem no_OpenDirectory no_ReleaseDirectory no_Sync no_SyncDirectory no_Flush no_Access no_Other came = absurd (no_Retrieved refl)
  answers_else old new k by node r (asked.Forget lookups1) no_Init no_Destroy no_Interrupt no_Retrieved no_Forget no_BatchForget no_StatFileSystem no_OpenDirectory no_ReleaseDirectory no_Sync no_SyncDirectory no_Flush no_Access no_Other came = absurd (no_Forget lookups1 refl)
  answers_else old new k by node r (asked.BatchForget forgets1) no_Init no_Destroy no_Interrupt no_Retrieved no_Forget no_BatchForget no_StatFileSystem no_OpenDirectory no_ReleaseDirectory no_Sync no_SyncDirectory no_Flush no_Access no_Other came = absurd (no_BatchForget forgets1 refl)
  answers_else old new k by node r asked.StatFileSystem no_Init no_Destroy no_Interrupt no_Retrieved no_Forget no_BatchForget no_StatFileSystem no_OpenDirectory no_ReleaseDirectory no_Sync no_SyncDirectory no_Flush no_Access no_Other came = absurd (no_StatFileSystem refl)
  answers_else old new k by node r (asked.OpenDirectory flags1 open_flags1) no_Init no_Destroy no_Interrupt no_Retrieved no_Forget no_BatchForget no_StatFileSystem no_OpenDirectory no_ReleaseDirectory no_Sync no_SyncDirectory no_Flush no_Access no_Other came = absurd (no_OpenDirectory flags1 open_flags1 refl)
  answers_else old new k by node r (asked.ReleaseDirectory handle1) no_Init no_Destroy no_Interrupt no_Retrieved no_Forget no_BatchForget no_StatFileSystem no_OpenDirectory no_ReleaseDirectory no_Sync no_SyncDirectory no_Flush no_Access no_Other came = absurd (no_ReleaseDirectory handle1 refl)
  answers_else old new k by node r (asked.Sync handle1 data_only1) no_Init no_Destroy no_Interrupt no_Retrieved no_Forget no_BatchForget no_StatFileSystem no_OpenDirectory no_ReleaseDirectory no_Sync no_SyncDirectory no_Flush no_Access no_Other came = absurd (no_Sync handle1 data_only1 refl)
  answers_else old new k by node r (asked.SyncDirectory handle1 data_only1) no_Init no_Destroy no_Interrupt no_Retrieved no_Forget no_BatchForget no_StatFileSystem no_OpenDirectory no_ReleaseDirectory no_Sync no_SyncDirectory no_Flush no_Access no_Other came = absurd (no_SyncDirectory handle1 data_only1 refl)
  answers_else old new k by node r (asked.Flush handle1) no_Init no_Destroy no_Interrupt no_Retrieved no_Forget no_BatchForget no_StatFileSystem no_OpenDirectory no_ReleaseDirectory no_Sync no_SyncDirectory no_Flush no_Access no_Other came = absurd (no_Flush handle1 refl)
  answers_else old new k by node r (asked.Access mask1) no_Init no_Destroy no_Interrupt no_Retrieved no_Forget no_BatchForget no_StatFileSystem no_OpenDirectory no_ReleaseDirectory no_Sync no_SyncDirectory no_Flush no_Access no_Other came = absurd (no_Access mask1 refl)
  answers_else old new k by node r (asked.Other opcode1) no_Init no_Destroy no_Interrupt no_Retrieved no_Forget no_BatchForget no_StatFileSystem no_OpenDirectory no_ReleaseDirectory no_Sync no_SyncDirectory no_Flush no_Access no_Other came = absurd (no_Other opcode1 refl)
  answers_else old new k by node r op no_Init no_Destroy no_Interrupt no_Retrieved no_Forget no_BatchForget no_StatFileSystem no_OpenDirectory no_ReleaseDirectory no_Sync no_SyncDirectory no_Flush no_Access no_Other came = came
