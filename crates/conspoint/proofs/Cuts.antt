-- What a cut leaves, read block by block.
use Rattle.std.proofs.Common.{◌≡◌, ◌≢◌, ℕ, ◌+◌, ◌*◌, ◌<◌, ◌≤◌, List, get_or, refl, sym, ◌∙◌, arith, All}
use Rattle.station.specs.Images.{Images, Sector}
use Rattle.layout.proofs.PointerLaws.{same_block}
use Rattle.buffers.specs.Disks.{IsBlock}
use Rattle.conspoint.specs.declared.plan.PlannedBlock.{PlannedBlock}
use Rattle.conspoint.specs.Plans.{Planned, IsSlot, FitsDisk}
use Rattle.conspoint.specs.Cuts.{IsOutside, StaysOutside, HasNewRoot, ReadsAs}
use Rattle.conspoint.proofs.Writes.{slot_low}

-- a block's bytes on two disks that have the same in its sectors
same_bytes : (old new : ℕ → Sector) (b : ℕ) (x y : List ℕ) → ((i : ℕ) → i < 8 → new (8 * b + i) ≡ old (8 * b + i)) → IsBlock old b x → IsBlock new b y → y ≡ x
same_bytes old new b x y same was is = is ∙ same_block old new b same ∙ sym was

-- the sectors of a block that isn't planned
outside : (blocks : List PlannedBlock) (b i : ℕ) → All (λ x. x.place ≢ b) blocks → i < 8 → IsOutside blocks (8 * b + i)
outside blocks b i apart small k d lt at = apart k d lt (omega arith)

pub before : (sectors : ℕ) (blocks : List PlannedBlock) (old new : Images) (d e : ℕ → List ℕ) (b : ℕ) → ReadsAs sectors old d → ReadsAs sectors new e → StaysOutside blocks old new
    → 8 * b + 8 ≤ sectors → All (λ x. x.place ≢ b) blocks → e b ≡ d b
before sectors blocks old new d e b was is stays within apart =
    same_bytes old.disk new.disk b (d b) (e b) (λ i small. stays.disk (8 * b + i) (outside blocks b i apart small)) (was b within) (is b within)

pub after : (sectors : ℕ) (p : Planned) (old new : Images) (d e : ℕ → List ℕ) (b : ℕ) → ReadsAs sectors old d → ReadsAs sectors new e → HasNewRoot p old new → IsSlot p.slot
    → 2 ≤ b → 8 * b + 8 ≤ sectors → All (λ x. x.place ≢ b) p.blocks → e b ≡ d b
after sectors p old new d e b was is has slot behind within apart =
    let low : p.slot < 16 = slot_low slot in
    same_bytes old.disk new.disk b (d b) (e b) (λ i small. has.disk (8 * b + i) (outside p.blocks b i apart small) (omega arith)) (was b within) (is b within)

pub planned : (sectors : ℕ) (p : Planned) (old new : Images) (e : ℕ → List ℕ) → ReadsAs sectors new e → HasNewRoot p old new → FitsDisk sectors p → All (λ x. e x.place ≡ x.bytes) p.blocks
planned sectors p old new e is has fits k d lt =
    let b = get_or p.blocks k d in
    same_bytes new.disk new.disk b.place b.bytes (e b.place) (λ i small. refl) (has.blocks k d lt) (is b.place (fits.blocks k d lt))
