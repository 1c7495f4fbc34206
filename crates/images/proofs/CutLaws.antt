-- What a cut may leave of a consistency point.
use Rattle.layout.specs.StateLimits.{limits_of}
use Rattle.model.specs.Records.{Change, Replays, pledged_for}
use Rattle.layout.specs.StateLimits.{fixed_of}
use Rattle.std.specs.Prelude.{slice_index}
use Rattle.std.proofs.Common.{[], ◌≡◌, ◌≢◌, ◌⊎◌, inl, inr, ℕ, ◌+◌, ◌*◌, ◌/◌, ◌<◌, ◌≤◌, List, All, refl, ap, sym, subst, ◌∙◌, arith}
use Rattle.layout.specs.Limits.{Sizes}
use Rattle.layout.specs.Opens.{HoldsRoot, IsNewest}
use Rattle.layout.specs.Places.{blocks_of}
use Rattle.layout.specs.Root.{IsRoot, root_bytes, head_bytes}
use Rattle.layout.specs.declared.TheConstants.{SLOT_A, SLOT_B}
use Rattle.layout.specs.declared.root.Root.{Root}
use Rattle.model.specs.States.{Forgets, State}
use Rattle.model.specs.Volumes.{Volume}
use Rattle.images.specs.Nodes.{Agrees}
use Rattle.images.specs.Roots.{whole, Needs}
use Rattle.images.specs.BlockMap.{entry, roots}
use Rattle.images.specs.SnapshotSteps.{SnapshotStep, base_plane, base_tree, kept_after}
use Rattle.images.specs.States.{Holds, LogHoldsChanges, Opens, OpensBy, HasReserve, state_of}
use Rattle.images.specs.Cuts.{Write, IsOutsideWrites, StaysOutsideWrites, AreFree, HasRootWritten, IsOtherSlot, IsPointWith, LeavesFree, LosesSlot}
use Rattle.images.specs.Room.{free_under}
use Rattle.images.proofs.PointLaws.{free_is_free}
use Rattle.images.proofs.StateLaws.{newest_is_root}
use Rattle.images.proofs.FreeLaws.{open_alike}
use Rattle.images.proofs.Frames.{whole_same}
use Rattle.images.proofs.BaseLaws.{step_base, step_plane, step_sound}
use Rattle.images.proofs.StepLaws.{step_holds}
use Rattle.images.proofs.BehindLaws.{needed_behind}
use Rattle.images.proofs.RoomLaws.{keeps_own}
use Rattle.images.proofs.NewRootLaws.{newest_first, newest_second}
use Rattle.layout.proofs.PointerLaws.{same_block}
use Rattle.images.proofs.EmptyLaws.{no_bit}

-- ---- before the root

outside_free : (r : Root) (d : ℕ → List ℕ) (writes : List Write) (n : ℕ) → AreFree r d writes → entry (whole (blocks_of d) r).active (n / 8) ≢ 0 → IsOutsideWrites writes n
outside_free r d writes n free some = λ k w lt same. some (ap (entry (whole (blocks_of d) r).active) (sym same) ∙ free k w lt)

pub open_as_before : (sectors : ℕ) (d e : ℕ → List ℕ) (nvram : List ℕ) (s : State) (writes : List Write) → (o : Opens sectors d nvram s) → AreFree o.root d writes → StaysOutsideWrites writes d e
    → OpensBy sectors e nvram s o.changes
open_as_before sectors d e nvram s writes o free stays =
    open_alike sectors d e nvram s o (λ n some. stays n (outside_free o.root d writes n free some))

-- ---- with the root

low_slot : (r : Root) (d : ℕ → List ℕ) (sector : ℕ) → (sector ≡ SLOT_B) × HoldsRoot (d SLOT_A) r ⊎ (sector ≡ SLOT_A) × HoldsRoot (d SLOT_B) r → sector < 16
low_slot r d sector (inl b) = omega (arith, b.0)
low_slot r d sector (inr a) = omega (arith, a.0)

-- what a point leaves of the disk but for its blocks and its slot
module _ (sectors : ℕ) (d e : ℕ → List ℕ) (nvram : List ℕ) (s : State) (writes : List Write) (sector : ℕ) (o : Opens sectors d nvram s) (free : AreFree o.root d writes) (slot : IsOtherSlot o.root d sector)
    (others : (n : ℕ) → IsOutsideWrites writes n → n ≢ sector → e n ≡ d n) where
  old_root : IsRoot o.root
  old_root = newest_is_root o.root (d SLOT_A) (d SLOT_B) o.newest

  needed_stay : Agrees (Needs o.root (whole (blocks_of d) o.root)) (blocks_of d) (blocks_of e)
  needed_stay b needs = same_block d e b (λ i lt.
      let behind = (needed_behind (blocks_of d) o.root old_root o.holds.sound b needs).0 in
      let low = low_slot o.root d sector slot in
      let block : (8 * b + i) / 8 ≡ b = omega arith in
      others (8 * b + i)
      (λ k w within same. free_is_free (blocks_of d) o.root b old_root o.holds.sound.exact
      (ap (entry (whole (blocks_of d) o.root).active) (sym block ∙ sym same) ∙ free k w within) needs)
      (λ same. absurd (omega (arith, same))))

  -- the two slots are in no block that is written
  slot_stays : (n : ℕ) → n / 8 < 2 → n ≢ sector → e n ≡ d n
  slot_stays n low other = others n (outside_free o.root d writes n free (λ none. no_bit 31 _ none ((o.holds.sound.exact.system (n / 8)).1 (roots low)))) other

-- ---- without the slot

no_root : (r : Root) (bytes : List ℕ) → bytes ≡ [] → (other : Root) → HoldsRoot bytes other → (other.generation < r.generation) × (other.geometry ≡ r.geometry)
unfolding head_bytes
no_root r bytes none other it =
    let first : 0 ≡ 87 = ap (λ (l : List ℕ). slice_index l 0) (sym none ∙ it.spelled) in
    absurd (omega (arith, first))

pub open_without_slot : (sectors : ℕ) (d e : ℕ → List ℕ) (nvram : List ℕ) (s : State) (writes : List Write) (sector : ℕ) → (o : Opens sectors d nvram s) → AreFree o.root d writes → IsOtherSlot o.root d sector
    → LosesSlot writes sector d e → OpensBy sectors e nvram s o.changes
open_without_slot sectors d e nvram s writes sector o free slot loses =
    let r = o.root in
    let whole_is : whole (blocks_of e) r ≡ whole (blocks_of d) r = whole_same (blocks_of d) (blocks_of e) r (needed_stay sectors d e nvram s writes sector o free slot loses.others) in
    let stays = slot_stays sectors d e nvram s writes sector o free slot loses.others in
    record {
      opens = record {
        root = r;
        newest = elim slot [
          | inl b ↦
              let there : e SLOT_A ≡ d SLOT_A = stays SLOT_A (omega arith) (λ same. absurd (omega (arith, same, b.0))) in
              inl (subst (λ x. HoldsRoot x r) (sym there) b.1, no_root r (e SLOT_B) (ap e (sym b.0) ∙ loses.lost))
          | inr a ↦
              let there : e SLOT_B ≡ d SLOT_B = stays SLOT_B (omega arith) (λ same. absurd (omega (arith, same, a.0))) in
              inr (subst (λ x. HoldsRoot x r) (sym there) a.1, no_root r (e SLOT_A) (ap e (sym a.0) ∙ loses.lost))
        ];
        size = o.size;
        first = o.first;
        snapshots = o.snapshots;
        holds = subst (λ w. Holds r w o.first o.snapshots) (sym whole_is) o.holds;
        changes = o.changes;
        log = o.log;
        room = subst (λ w. HasReserve r w o.first o.changes) (sym whole_is) o.room;
        last = o.last;
        replays = o.replays;
        state = o.state;
      };
      these = refl;
    }

-- ---- with the new root

module _ (sectors : ℕ) (d e : ℕ → List ℕ) (nvram : List ℕ) (s : State) (writes : List Write) (sector : ℕ) (new : Root) (v : Volume) (step : SnapshotStep) (o : Opens sectors d nvram s) (point : IsPointWith step o.root d writes sector new v) (has : HasRootWritten writes sector (root_bytes new) d e) where
  pub needs_stay : Agrees (Needs o.root (whole (blocks_of d) o.root)) (blocks_of d) (blocks_of e)
  needs_stay = needed_stay sectors d e nvram s writes sector o point.free point.slot has.others

  pub written : All (λ w. blocks_of e w.place ≡ w.bytes) writes
  written = has.holds

  pub new_holds : Holds new (whole (blocks_of e) new) v (kept_after step o.first o.snapshots)
  new_holds =
      let plans = point.plans (blocks_of e) written needs_stay in
      let is_root = old_root sectors d e nvram s writes sector o point.free point.slot has.others in
      let base = step_base (blocks_of d) o.root step o.holds.sound point.possible in
      let old = step_sound (blocks_of d) o.root step o.holds.sound point.possible in
      step_holds (blocks_of d) (blocks_of e) o.root new point.files o.first v o.snapshots is_root o.holds needs_stay step plans.plan plans.sound
      (keeps_own (blocks_of d) (blocks_of e) o.root new (base_tree step (whole (blocks_of d) o.root)) (base_plane step) point.files is_root point.root o.holds.sound base needs_stay
      plans.plan old (step_plane step o.root (whole (blocks_of d) o.root) point.possible) plans.sound plans.own)
      point.later point.version point.objects point.volume point.possible point.snapshots (point.head (blocks_of e) written)

  pub new_newest : IsNewest new (e SLOT_A) (e SLOT_B)
  new_newest = elim point.slot [
    | inl b ↦
        let root_is : e SLOT_B ≡ root_bytes new = ap e (sym b.0) ∙ has.root_is in
        let stays : e SLOT_A ≡ d SLOT_A = slot_stays sectors d e nvram s writes sector o point.free point.slot has.others SLOT_A (omega arith) (λ same. absurd (omega (arith, same, b.0))) in
        subst (λ x. IsNewest new x (e SLOT_B)) (sym stays) (subst (IsNewest new (d SLOT_A)) (sym root_is)
        (newest_second o.root new (d SLOT_A) b.1 point.root point.later point.geometry))
    | inr a ↦
        let root_is : e SLOT_A ≡ root_bytes new = ap e (sym a.0) ∙ has.root_is in
        let stays : e SLOT_B ≡ d SLOT_B = slot_stays sectors d e nvram s writes sector o point.free point.slot has.others SLOT_B (omega arith) (λ same. absurd (omega (arith, same, a.0))) in
        subst (λ x. IsNewest new x (e SLOT_B)) (sym root_is) (subst (IsNewest new (root_bytes new)) (sym stays)
        (newest_first o.root new (d SLOT_B) a.1 point.root point.later point.geometry))
  ]

  pub new_opens : (rest : List Change) (last : Volume) → LogHoldsChanges new nvram rest → Replays (limits_of o.root.geometry) v rest last
      → (t : State) → Forgets t (state_of (limits_of o.root.geometry) last (kept_after step o.first o.snapshots)) → (spent : ℕ) → LeavesFree spent o.root (blocks_of d) writes new
      → pledged_for (limits_of o.root.geometry) v rest + fixed_of o.root.geometry.blocks + spent ≤ free_under (whole (blocks_of d) o.root).active o.root.geometry.blocks
      → OpensBy sectors e nvram t rest
  new_opens rest last log replays t forgets spent leaves enough = record {
    opens = record {
      root = new;
      newest = new_newest;
      size = o.size ∙ ap (λ (g : Sizes). 8 * g.blocks) (sym point.geometry);
      first = v;
      snapshots = kept_after step o.first o.snapshots;
      holds = new_holds;
      changes = rest;
      log = log;
      room =
          let left = leaves (blocks_of e) written needs_stay in
          subst (λ (g : Sizes). pledged_for (limits_of g) v rest + fixed_of g.blocks ≤ free_under (whole (blocks_of e) new).active g.blocks) (sym point.geometry) (omega (arith, left, enough));
      last = last;
      replays = subst (λ (g : Sizes). Replays (limits_of g) v rest last) (sym point.geometry) replays;
      state = subst (λ (g : Sizes). Forgets t (state_of (limits_of g) last (kept_after step o.first o.snapshots))) (sym point.geometry) forgets;
    };
    these = refl;
  }
