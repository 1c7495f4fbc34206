-- A plan that is being made: what is said of it holds on every disk that has the blocks planned so
-- far. Such facts last, as the plan only grows.
use Rattle.std.specs.Prelude.{ℕ, ◌≡◌, ◌≢◌, ◌<◌, ◌≤◌, List, All}
use Rattle.layout.specs.Places.{Blocks}
use Rattle.blockmap.specs.Maps.{IsFree, KeepsSettled}
use Rattle.conspoint.specs.declared.plan.PlannedBlock.{PlannedBlock}
use Rattle.conspoint.specs.declared.draft.Draft.{Draft}
use Rattle.conspoint.specs.declared.error.PlanError.{PlanError}
use Rattle.conspoint.specs.declared.error.PlanError.TheVariants.{NoMemory, Device, NoSpace, Damaged}

-- a disk has these blocks
abbrev pub HasAll : Blocks → List PlannedBlock → Type 0
HasAll e blocks = All (λ b. e b.place ≡ b.bytes) blocks

-- this holds of every disk that has the blocks planned so far
abbrev pub OnEach : Draft → (Blocks → Type 0) → Type 0
OnEach d P = (e : Blocks) → HasAll e d.blocks.items → P e

-- a block that was given out between two drafts; so the blocks of one file lie between two numbers
pub record WasTaken (old new : Draft) (b : ℕ) : Type 0 where
  pub from : old.map.next ≤ b
  pub to : b < new.map.next
  pub within : b < old.map.count
  pub free : IsFree old.map.parts.items b

-- the same draft with more blocks
pub record Grows (old new : Draft) : Type 0 where
  pub settled : KeepsSettled old.map.parts.items new.map.parts.items
  pub count : new.map.count ≡ old.map.count
  pub next : old.map.next ≤ new.map.next
  pub has : (e : Blocks) → HasAll e new.blocks.items → HasAll e old.blocks.items

-- a block that was given out, and has no bytes yet
pub record IsReserved (d : Draft) (place : ℕ) : Type 0 where
  pub low : 2 ≤ place
  pub below : place < d.map.next
  pub within : place < d.map.count
  pub free : IsFree d.map.parts.items place
  pub empty : All (λ b. b.place ≢ place) d.blocks.items

-- no memory, or no space: nothing else hinders a step of a plan that reads nothing
abbrev pub IsShortage : PlanError → Type 0
IsShortage NoMemory = Unit {0}
IsShortage NoSpace = Unit {0}
IsShortage Device = ⊥
IsShortage Damaged = ⊥
