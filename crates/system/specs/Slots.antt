-- The two slots of the disk, and which of them has the newest root.
use Rattle.std.specs.Prelude.{ℕ, ◌==◌, if◌then◌else◌}
use Rattle.layout.specs.declared.TheConstants.{SLOT_A, SLOT_B}
pub use Rattle.loading.specs.Slots.{IsNewestAt}

-- the sector of the slot that isn't this one
abbrev pub other_slot : ℕ → ℕ
other_slot slot = if slot == SLOT_A then SLOT_B else SLOT_A
