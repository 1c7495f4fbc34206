-- Which of the records before stand beside the root behind what writes no NVRAM.
use Rattle.std.proofs.Common.{◌≡◌, inl, inr, ℕ, ◌+◌, ◌<◌, ◌^◌, ◌++◌, List, [], Option, ap, subst, sym, arith}
use Rattle.station.specs.Images.{Sector}
use Rattle.station.specs.Moments.{MayLeave}
use Rattle.station.specs.declared.station.Station.{Ghosts}
use Rattle.layout.specs.Log.{LogHolds}
use Rattle.layout.specs.Opens.{IsNewest}
use Rattle.layout.specs.declared.TheConstants.{SLOT_A, SLOT_B}
use Rattle.layout.specs.declared.root.Root.{Root}
use Rattle.layout.proofs.OpenLaws.{log_once, newest_once}
use Rattle.model.specs.States.{State}
use Rattle.model.specs.Trees.{Description}
use Rattle.oplog.specs.LogEnd.{StandsAt, all_bodies}
use Rattle.system.specs.Counting.{LogsNothing}
use Rattle.system.specs.Systems.{AreLeft, HasState, meaning_of}
use Rattle.system.specs.UnderWay.{WayLaws}
use Rattle.system.specs.declared.system.System.{System}

module _ {S : Type 0} {G : Ghosts S} (old new : System S G) {table : ℕ → Option Description} {s : State} (serves : HasState old table s) (stays : HasState new table s) where
  -- over one disk the newest root is one
  pub same_generation : stays.settled.disk ≡ serves.settled.disk → stays.settled.root.generation ≡ serves.settled.root.generation
  same_generation disk =
      ap (λ (r : Root). r.generation)
      (newest_once (serves.settled.disk SLOT_A) (serves.settled.disk SLOT_B) stays.settled.root serves.settled.root
      (subst (λ (d : ℕ → Sector). IsNewest stays.settled.root (d SLOT_A) (d SLOT_B)) disk stays.lasts.newest) serves.lasts.newest)

  module _ (quiet : LogsNothing (meaning_of old) (meaning_of new)) (seen : (meaning_of new).is_honest → MayLeave (meaning_of new) (meaning_of new).seen) (half : new.log.half ≡ old.log.half) where
    abbrev nvram : List ℕ
    nvram = (meaning_of new).seen.nvram

    before_stands : StandsAt old.log serves.settled.root.generation serves.lasts.bodies nvram
    before_stands =
        let n = meaning_of new in
        let told = quiet serves.honest in
        let one = told.each n.seen (n.moment, told.later, omega arith, seen stays.honest) in
        subst (StandsAt old.log serves.settled.root.generation serves.lasts.bodies) (sym one.2) (serves.left serves.honest one.0 one.1).log_stands

    behind_holds : (g : ℕ) → stays.settled.root.generation ≡ g → LogHolds old.log.half g nvram (all_bodies stays.lasts.bodies)
    behind_holds g is =
        let stands = (stays.left stays.honest (meaning_of new).seen (seen stays.honest)).log_stands in
        subst (λ (h : ℕ). LogHolds h g nvram (all_bodies stays.lasts.bodies)) half
        (subst (λ (n : ℕ). LogHolds new.log.half n nvram (all_bodies stays.lasts.bodies)) is stands.holds)

    -- the root is of the same generation
    pub same_rest : stays.settled.root.generation ≡ serves.settled.root.generation → AreLeft (all_bodies serves.lasts.bodies) (all_bodies stays.lasts.bodies)
    same_rest is =
        let g = serves.settled.root.generation in
        ([], log_once old.log.half g nvram (all_bodies serves.lasts.bodies) (all_bodies stays.lasts.bodies) before_stands.holds (behind_holds g is))

    -- it is of the next one, and covers the records of its epoch
    pub next_rest : WayLaws → old.log.epoch ≡ serves.settled.root.generation + 2 → stays.settled.root.generation ≡ serves.settled.root.generation + 1
        → AreLeft (all_bodies serves.lasts.bodies) (all_bodies stays.lasts.bodies)
    next_rest ways epoch is =
        let g = serves.settled.root.generation in
        let bodies = serves.lasts.bodies in
        let small : g < 2 ^ 62 = elim serves.lasts.newest [
          | inl a ↦ omega (arith, a.0.root.head.last)
          | inr b ↦ omega (arith, b.0.root.head.last)
        ] in
        let then = ways.older old.log g bodies nvram small epoch before_stands in (
          bodies.older,
          ap (λ (l : List (List ℕ)). bodies.older ++ l) (log_once old.log.half (g + 1) nvram bodies.newest (all_bodies stays.lasts.bodies) then.holds (behind_holds (g + 1) is)),
        )
