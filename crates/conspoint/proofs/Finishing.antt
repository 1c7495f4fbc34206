-- What a cut leaves while a point is finished: the blocks are settled, the root is written, and it is settled.
use Rattle.std.proofs.Common.{◌≡◌, ◌⊎◌, inl, inr, List, length, arith, sym, subst}
use Rattle.std.proofs.lemmas.List.{take_all}
use Rattle.station.specs.Images.{Images, Unchanged, SectorsWritten, SomeSectorsWritten}
use Rattle.station.specs.Moments.{Meaning, MayLeave, Goes, EachCut, LeavesJust, LeavesOnly, Shows, SeenGoes, IsSameStation}
use Rattle.station.proofs.Moments.{started, goes_on_from, goes_on_unchanged}
use Rattle.conspoint.specs.declared.plan.PlannedBlock.{PlannedBlock}
use Rattle.conspoint.specs.Plans.{Planned, IsPlanned}
use Rattle.conspoint.specs.Cuts.{HoldsBlocks, HoldsWritten, HasNewRoot, HasRootOrLost}
use Rattle.conspoint.proofs.Writes.{root_may, root_written}

-- all blocks are written
abbrev pub HasBlocks : Planned → Meaning → Type 0
HasBlocks p m = Shows m (λ c. HoldsBlocks p.blocks c.disk)

-- what one might have left before, or the new root, or its sector lost
abbrev pub OldOrNew : Planned → Meaning → Images → Type 0
OldOrNew p m c = MayLeave m c ⊎ HasRootOrLost p m.seen c

-- up to the first sync
pub before_root : (p : Planned) (m0 m1 : Meaning) → Goes Unchanged m0 m1 → LeavesOnly m0 m1 (OldOrNew p m0)
before_root p m0 m1 goes = goes_on_unchanged m0 m0 m1 (OldOrNew p m0) (started m0 (OldOrNew p m0) (λ honest c left. inl left)) goes

-- at any moment of the root's write
pub at_root : (p : Planned) (m0 m1 m2 : Meaning) → IsPlanned p → HasBlocks p m0 → (m0.is_honest → MayLeave m0 m0.seen) → Goes Unchanged m0 m1 → LeavesJust m1 m0.seen
    → Goes (SomeSectorsWritten p.slot p.root) m1 m2 → LeavesOnly m0 m2 (OldOrNew p m0)
at_root p m0 m1 m2 is holds seen goes just write honest =
    goes_on_from m0 m1 m2 (SomeSectorsWritten p.slot p.root) (λ c. c ≡ m0.seen) (OldOrNew p m0) (before_root p m0 m1 goes) just write
    (λ c d same some. elim (root_may p m0.seen c is (holds honest) (subst (λ (x : Images). SomeSectorsWritten p.slot p.root x c) same some)) [
      | inl as_before ↦ inl (subst (MayLeave m0) (sym as_before) (seen honest))
      | inr new ↦ inr new
    ]) honest

-- once that is settled
pub root_settled : (p : Planned) (m0 m1 m2 m3 : Meaning) → IsPlanned p → HasBlocks p m0 → Goes Unchanged m0 m1 → SeenGoes (SectorsWritten p.slot p.root) m1 m2 → LeavesJust m3 m2.seen
    → IsSameStation m0 m1 → IsSameStation m0 m3 → EachCut m3 (HasNewRoot p m0.seen)
root_settled p m0 m1 m2 m3 is holds goes write just same1 same3 honest3 c left =
    let honest = same3.honest.1 honest3 in
    let as_before : m1.seen ≡ m0.seen = (goes honest).seen in
    let writes = subst (λ (x : Images). SectorsWritten p.slot p.root x m2.seen) as_before (write (same1.honest.0 honest)) in
    subst (HasNewRoot p m0.seen) (sym (just honest3 c left)) (root_written p m0.seen m2.seen is (holds honest) writes)

-- all that are written are all
pub all_written : (p : Planned) (m : Meaning) → p.written ≡ length p.blocks → Shows m (HoldsWritten p) → HasBlocks p m
all_written p m all holds honest = subst (λ (xs : List PlannedBlock). HoldsBlocks xs m.seen.disk) (take_all p.written p.blocks (omega (arith, all))) (holds honest)
