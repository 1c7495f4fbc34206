-- What a cut leaves of a point under way, and how it goes on.
use Rattle.std.proofs.Common.{◌≡◌, ◌⊎◌, inl, inr, ℕ, ◌+◌, ◌*◌, ◌<◌, ◌≤◌, ◌^◌, List, All, append-nil, Option, refl, ap, sym, subst, ◌∙◌, arith}
use Rattle.station.specs.Images.{Images, Sector}
use Rattle.station.specs.Moments.{Meaning, MayLeave, EachCut, After, Goes, IsSameStation, IsSector, LeavesJust, LeavesOnly}
use Rattle.station.proofs.Moments.{goes_on, started, weaker}
use Rattle.layout.specs.Limits.{Sizes}
use Rattle.layout.specs.Log.{LogHolds}
use Rattle.layout.specs.Places.{blocks_of}
use Rattle.layout.specs.Root.{root_bytes}
use Rattle.layout.specs.declared.root.Root.{Root}
use Rattle.model.specs.Paths.{Name}
use Rattle.layout.specs.Record.{IsChange}
use Rattle.model.specs.Records.{Replays, count_orphans, pledged_for}
use Rattle.layout.specs.StateLimits.{fixed_of, limits_of}
use Rattle.model.specs.States.{State}
use Rattle.model.specs.Trees.{Description, Tree}
use Rattle.model.specs.Volumes.{Volume}
use Rattle.images.specs.Cuts as points
use Rattle.images.specs.Room.{free_under}
use Rattle.images.specs.Roots.{whole}
use Rattle.images.specs.SnapshotSteps.{unchanged}
use Rattle.images.specs.States.{Opens}
use Rattle.oplog.specs.LogEnd.{LogEnd, StandsAt, all_bodies}
use Rattle.conspoint.specs.Cuts.{HasNewRoot, HasRootOrLost, LosesSlot, StaysOutside}
use Rattle.conspoint.specs.Finished.{disk_after}
use Rattle.conspoint.specs.Plans.{Planned, FitsDisk, IsPlanned}
use Rattle.conspoint.specs.Writes.{writes_of}
use Rattle.system.specs.Images.{Base, IsLeft, IsUnder, Lasts, OpensTo}
use Rattle.system.specs.Laws.{CutLaws, RootLaws}
use Rattle.system.specs.Plans.{IsPlannedOver}
use Rattle.system.specs.UnderWay.{Way, IsUnderWay, WayLaws, all_older, base_to_come, newest_of, way_at}
use Rattle.system.proofs.PointLaws.{outside}
use Rattle.system.proofs.SettledLaws.{none_replayed}
use Rattle.system.proofs.SystemLaws.{AreOf, found_of, one_opens, reads_open}

-- a plan of which so much is written, where the epoch that its root covers is said otherwise
abbrev planned_at : {disk : ℕ → Sector} {root new : Root} {slot epoch : ℕ} {p : Planned} {v : Volume} → (n other : ℕ) → epoch ≡ other
    → IsPlannedOver unchanged disk root slot epoch p new v → IsPlannedOver unchanged disk root slot other (record p { written = n }) new v
planned_at n other same planned = record {
  bytes = planned.bytes;
  other = planned.other;
  covers = planned.covers ∙ same;
  fits = record { slots = planned.fits.slots; blocks = planned.fits.blocks };
  point = planned.point;
  room = planned.room;
}

module _ {settled : Base} {snapshots : List (Name × Tree)} {pledged : ℕ} {running : Volume} (lasts : Lasts settled snapshots pledged running) where
  -- ---- it begins

  -- what lasts once the log goes on in the next epoch
  abbrev pub lasts_older : Lasts settled snapshots pledged running
  lasts_older = record {
    newest = lasts.newest;
    holds = lasts.holds;
    bodies = all_older lasts.bodies;
    replayed = record {
      changes = lasts.replayed.changes;
      are = lasts.replayed.are;
      spelled = append-nil (all_bodies lasts.bodies) ∙ lasts.replayed.spelled;
      last = lasts.replayed.last;
      replays = lasts.replayed.replays;
      extends = lasts.replayed.extends;
    };
    pledges = lasts.pledges;
    reserved = lasts.reserved;
  }

  module _ (m : Meaning) {log : LogEnd} (left : EachCut m (IsLeft settled.root log lasts.bodies settled.disk)) where
    pub left_older : (next : LogEnd) → ((nvram : List ℕ) → StandsAt log settled.root.generation lasts.bodies nvram → StandsAt next settled.root.generation (all_older lasts.bodies) nvram)
        → EachCut m (IsLeft settled.root next (all_older lasts.bodies) settled.disk)
    left_older next newer honest c here =
        let is = left honest c here in
        record { same = is.same; log_stands = newer c.nvram is.log_stands }

    -- A point is planned over the disk that is read and the running volume: it is under way, with no record since.
    pub begins : (next : LogEnd) (slot : ℕ) (plan : Planned) (root : Root) (then : ℕ) → m.seen.disk ≡ settled.disk → log.epoch ≡ settled.root.generation + 1 → next.epoch ≡ settled.root.generation + 2
        → (planned : IsPlannedOver unchanged settled.disk settled.root slot log.epoch plan root running)
        → then ≡ 4 * count_orphans settled.root.geometry.inodes running → planned.room.spent + then ≤ pledged → IsUnderWay m next lasts_older (record { plan = plan; root = root; volume = running; pledged = then })
    begins next slot plan root then read first second planned pledges saves = record {
      slot = slot;
      planned = planned_at plan.written (settled.root.generation + 1) first planned;
      epoch = second;
      stays = record { nvram = refl; disk = λ n out. ap (λ (d : ℕ → Sector). d n) read };
      since = none_replayed (limits_of settled.root.geometry) running;
      pledges = omega (arith, pledges);
      saves = saves;
    }

-- ---- it goes on

module _ (laws : CutLaws) {m : Meaning} {log : LogEnd} {settled : Base} {snapshots : List (Name × Tree)} {pledged : ℕ} {running : Volume} {lasts : Lasts settled snapshots pledged running}
    (left : EachCut m (IsLeft settled.root log lasts.bodies settled.disk)) {w : Way} (way : IsUnderWay m log lasts w) where
  -- ---- a slice

  -- what a cut leaves after it is what one left before it, but for planned blocks
  after_slice : m.is_honest → (c : Images) → After (StaysOutside w.plan.blocks) m c → IsLeft settled.root log lasts.bodies settled.disk c
  after_slice honest c after =
      let d = after.0 in
      let before = left honest d after.1 in
      record {
        same = λ n some. laws.unfinished w.plan.blocks d c after.2 n (outside settled.root settled.disk (writes_of w.plan.blocks) n way.planned.point.free some) ∙ before.same n some;
        log_stands = subst (StandsAt log settled.root.generation lasts.bodies) (sym after.2.nvram) before.log_stands;
      }

  -- blocks of the plan are written, and nothing else is done
  module _ (honest : m.is_honest) (now : Meaning) (goes : Goes (StaysOutside w.plan.blocks) m now) where
    pub slice_left : EachCut now (IsLeft settled.root log lasts.bodies settled.disk)
    slice_left honest_now c here = after_slice honest c ((goes honest).now c here)

    pub slices_keep : (n : ℕ) → IsUnderWay now log lasts (way_at n w)
    slices_keep n = record {
      slot = way.slot;
      planned = planned_at n (settled.root.generation + 1) refl way.planned;
      epoch = way.epoch;
      stays = record { nvram = refl; disk = λ n out. (goes honest).seen.disk n out ∙ way.stays.disk n out };
      since = way.since;
      pledges = way.pledges;
      saves = way.saves;
    }

    pub slices_open : {table : ℕ → Option Description} {s : State} → AreOf settled.root.geometry m log running table snapshots s → LeavesOnly m now (OpensTo m s)
    slices_open {s = s} are =
        goes_on m m now (StaysOutside w.plan.blocks) (OpensTo m s) (started m (OpensTo m s) (λ honest c here. one_opens laws lasts are c (left honest c here))) goes
        (λ c after. one_opens laws lasts are c (after_slice honest c after))

  -- ---- the root to come

  module _ (roots : RootLaws) (ways : WayLaws) (honest : m.is_honest) (here : MayLeave m m.seen) {table : ℕ → Option Description} {s : State}
      (are : AreOf settled.root.geometry m log running table snapshots s) where
    -- the images of before, with the log as it is now
    abbrev was : Images
    was = record m.seen { disk = settled.disk }

    pub stands : StandsAt log settled.root.generation lasts.bodies m.seen.nvram
    stands = (left honest m.seen here).log_stands

    abbrev opens : Opens m.sectors settled.disk m.seen.nvram s
    opens = reads_open laws lasts are m.seen.nvram stands.holds

    small : settled.root.generation < 2 ^ 62
    small = elim lasts.newest [
      | inl a ↦ omega (arith, a.0.root.head.last)
      | inr b ↦ omega (arith, b.0.root.head.last)
    ]

    -- under the new root the log holds the newest epoch
    log_then : StandsAt log w.root.generation (newest_of lasts.bodies) m.seen.nvram
    log_then =
        subst (λ (g : ℕ). StandsAt log g (newest_of lasts.bodies) m.seen.nvram) (sym way.planned.covers)
        (ways.older log settled.root.generation lasts.bodies m.seen.nvram small way.epoch stands)

    -- images with the new root, as those of before with all blocks written
    rooted : (c : Images) → HasNewRoot w.plan m.seen c → HasNewRoot w.plan was c
    rooted c has = record { nvram = has.nvram; disk = λ n out differ. has.disk n out differ ∙ way.stays.disk n out; blocks = has.blocks; root = has.root }

    rootless : (c : Images) → LosesSlot w.plan m.seen c → LosesSlot w.plan was c
    rootless c loses = record { nvram = loses.nvram; disk = λ n out differ. loses.disk n out differ ∙ way.stays.disk n out; lost = loses.lost }

    with_root : (c : Images) → HasNewRoot w.plan was c → points.HasRootWritten (writes_of w.plan.blocks) w.plan.slot (root_bytes w.root) settled.disk c.disk
    with_root c has = subst (λ (bytes : List ℕ). points.HasRootWritten (writes_of w.plan.blocks) w.plan.slot bytes settled.disk c.disk) way.planned.bytes (laws.finished w.plan was c has)

    -- what stays pledged is free under the old root, beside what the point takes
    pub enough : pledged_for (limits_of settled.root.geometry) w.volume way.since.changes + fixed_of settled.root.geometry.blocks + way.planned.room.spent
        ≤ free_under (whole (blocks_of settled.disk) settled.root).active settled.root.geometry.blocks
    enough = omega (arith, way.saves, way.pledges, lasts.pledges, lasts.reserved)

    new_opens : (c : Images) → HasNewRoot w.plan m.seen c → OpensTo m s c
    new_opens c has = record {
      opens = subst (λ (nvram : List ℕ). Opens m.sectors c.disk nvram s) (sym has.nvram)
          (laws.opens m.sectors settled.disk c.disk m.seen.nvram s (writes_of w.plan.blocks) w.plan.slot w.root w.volume unchanged way.since.changes way.since.last opens way.planned.point
          (with_root c (rooted c has))
          (record {
            are = subst (λ (g : Sizes). All (IsChange (limits_of g).has_attributes) way.since.changes) (sym way.planned.point.geometry) way.since.are;
            log = subst (LogHolds w.root.geometry.half w.root.generation m.seen.nvram) way.since.spelled
                (subst (λ (h : ℕ). LogHolds h w.root.generation m.seen.nvram lasts.bodies.newest) (are.half ∙ ap (λ (g : Sizes). g.half) (sym way.planned.point.geometry)) log_then.holds);
          })
          way.since.replays
          s (found_of laws are way.since.last way.since.extends) way.planned.room.spent way.planned.room.leaves enough).opens;
    }

    lost_opens : (c : Images) → LosesSlot w.plan m.seen c → OpensTo m s c
    lost_opens c loses = record {
      opens = subst (λ (nvram : List ℕ). Opens m.sectors c.disk nvram s) (sym loses.nvram)
          (laws.without_slot m.sectors settled.disk c.disk m.seen.nvram s (writes_of w.plan.blocks) w.plan.slot opens way.planned.point.free way.planned.point.slot (laws.lost w.plan was c (rootless c loses))).opens;
    }

    -- while its blocks are written and then its root: before that a cut leaves the old root with the records of both epochs, and then the
    -- new one with those of the newest, or still the old one where the sector of the new one is lost
    pub points_open : (now : Meaning) → LeavesOnly m now (λ c. After (StaysOutside w.plan.blocks) m c ⊎ HasRootOrLost w.plan m.seen c) → LeavesOnly m now (OpensTo m s)
    points_open now leaves =
        weaker m now (λ c. After (StaysOutside w.plan.blocks) m c ⊎ HasRootOrLost w.plan m.seen c) (OpensTo m s) leaves (λ c one. elim one [
          | inl after ↦ one_opens laws lasts are c (after_slice honest c after)
          | inr began ↦ elim began [ inl has ↦ new_opens c has | inr loses ↦ lost_opens c loses ]
        ])

    module _ (is : IsPlanned w.plan) where
      abbrev then : Base
      then = base_to_come w settled

      pub written : points.HasRootWritten (writes_of w.plan.blocks) w.plan.slot (root_bytes w.root) settled.disk then.disk
      written = with_root (record was { disk = then.disk }) (ways.is w.plan was is)

      pub under_to_come : IsUnder w.plan.slot w.root w.volume snapshots then.disk
      under_to_come = record {
        newest = record {
          is_slot = is.slot;
          there = record { root = way.planned.point.root; spelled = written.root_is };
          newest = roots.newest m.sectors settled.disk then.disk m.seen.nvram s (writes_of w.plan.blocks) w.plan.slot w.root w.volume unchanged opens way.planned.point written;
        };
        holds = roots.holds m.sectors settled.disk then.disk m.seen.nvram s (writes_of w.plan.blocks) w.plan.slot w.root w.volume unchanged opens way.planned.point written;
      }

      -- once the point is finished the records of the newest epoch last
      abbrev pub lasts_to_come : Lasts then snapshots w.pledged running
      lasts_to_come = record {
        newest = under_to_come.newest.newest;
        holds = under_to_come.holds;
        bodies = newest_of lasts.bodies;
        replayed = record {
          changes = way.since.changes;
          are = subst (λ (g : Sizes). All (IsChange (limits_of g).has_attributes) way.since.changes) (sym way.planned.point.geometry) way.since.are;
          spelled = way.since.spelled;
          last = way.since.last;
          replays = subst (λ (g : Sizes). Replays (limits_of g) w.volume way.since.changes way.since.last) (sym way.planned.point.geometry) way.since.replays;
          extends = way.since.extends;
        };
        pledges = way.pledges ∙ ap (λ (g : Sizes). pledged_for (limits_of g) w.volume way.since.changes) (sym way.planned.point.geometry);
        reserved = subst (λ (g : Sizes). pledged_for (limits_of g) w.volume way.since.changes + fixed_of g.blocks ≤ free_under (whole (blocks_of then.disk) w.root).active g.blocks) (sym way.planned.point.geometry)
            (omega (arith, enough, roots.free m.sectors settled.disk then.disk m.seen.nvram s (writes_of w.plan.blocks) w.plan.slot w.root w.volume unchanged way.planned.room.spent opens way.planned.point written way.planned.room.leaves));
      }

      -- so its disk is the same, whatever of it is written now
      pub same_to_come : disk_after w.plan m.seen.disk ≡ then.disk
      same_to_come = ways.stays w.plan was m.seen is way.stays

      -- ---- the end

      module _ (now : Meaning) (same : IsSameStation m now) (has : HasNewRoot w.plan m.seen now.seen) (sized : (n : ℕ) → n < now.sectors → IsSector (now.seen.disk n)) where
        pub disk_is : now.seen.disk ≡ then.disk
        disk_is = ways.one now.sectors w.plan was now.seen is (subst (λ (n : ℕ). FitsDisk n w.plan) (sym (same.sectors ∙ are.sectors)) way.planned.fits) sized (rooted now.seen has)

        pub ends_left : LeavesJust now now.seen → EachCut now (IsLeft w.root log (newest_of lasts.bodies) then.disk)
        ends_left just honest c left =
            let as_now = just honest c left in
            record {
              same = λ n some. ap (λ (i : Images). i.disk n) as_now ∙ ap (λ (d : ℕ → Sector). d n) disk_is;
              log_stands = subst (StandsAt log w.root.generation (newest_of lasts.bodies)) (sym (ap (λ (i : Images). i.nvram) as_now ∙ has.nvram)) log_then;
            }
