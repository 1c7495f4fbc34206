-- The tests of `snap take`, and where a new snapshot goes.
use Rattle.std.proofs.Common.{◌≡◌, inl, inr, ℕ, suc, ◌+◌, ◌<◌, ◌≤◌, true, false, Bool, List, length, Option, Some, None, refl, ap, sym, subst, ◌∙◌, arith}
use Rattle.std.specs.Prelude.{◌≢◌, ◌==◌, ◌||◌, is_some, nat_le, nat_lt, not, slice_index_or}
use Rattle.std.specs.List.{list_any}
use Rattle.std.proofs.lemmas.Bool.{cases_eq, cases_lt, eq-eqb, le-leb, lt-leb}
use Rattle.layout.specs.Places.{Blocks}
use Rattle.layout.specs.Root.{IsRoot}
use Rattle.layout.specs.SnapRoot.{Snapshot}
use Rattle.layout.specs.declared.pointer.Pointer.TheVariants.{Hole}
use Rattle.layout.specs.declared.root.Root.{Root}
use Rattle.layout.specs.declared.version.TheConstants.{SNAPSHOT_SLOTS}
use Rattle.model.specs.Paths.{Name, first_refusal}
use Rattle.model.specs.States.{State}
use Rattle.model.specs.Steps.{frozen, is_bad_name, is_name_byte, take_tests}
use Rattle.model.specs.Trees.{Tree}
use Rattle.model.specs.Volumes.{Volume}
use Rattle.model.specs.declared.errno.Errno.TheVariants.{SNAPFULL}
use Rattle.images.specs.Roots.{slot, whole}
use Rattle.images.specs.Snapshots.{AreSnapshots, HasSnapshot}
use Rattle.images.specs.SnapshotSteps.{IsSlotNumber}
use Rattle.images.specs.States.{Holds}
use Rattle.snapshots.specs.Found.{FindsSnapshot, SpellsSnapshot, named}
use Rattle.snapshots.specs.Taken.{HasNewestOrder, MayTake}
use Rattle.snapshots.specs.declared.finding.FoundSnapshot.{FoundSnapshot}
use Rattle.snapshots.specs.declared.taking.Taking.{Taking}
use Rattle.snapshots.proofs.CountLaws.{none_free, room_left}
use Rattle.snapshots.proofs.NamedLaws.{one_named}
use Rattle.snapshots.proofs.SlotLaws.{has, in_slot, one_snapshot, spells}

pub passes : (s : State) (name : Name) (pairs : List (Name × Tree)) → s.limits.snapshots ≡ SNAPSHOT_SLOTS → s.snapshots ≡ pairs → is_bad_name name ≡ false → named name pairs ≡ None → length pairs < SNAPSHOT_SLOTS
    → first_refusal (take_tests s name) ≡ None
passes s name pairs most same good none few =
    let absent : frozen s name ≡ None = ap (named name) same ∙ none in
    let room : nat_le s.limits.snapshots (length s.snapshots) ≡ false = ap (λ (n : ℕ). nat_le n (length s.snapshots)) most ∙ ap (λ (ps : List (Name × Tree)). nat_le SNAPSHOT_SLOTS (length ps)) same ∙ lt-leb _ _ few in
    rw (good, absent, room) refl

pub full : (s : State) (name : Name) (pairs : List (Name × Tree)) → s.limits.snapshots ≡ SNAPSHOT_SLOTS → s.snapshots ≡ pairs → is_bad_name name ≡ false → named name pairs ≡ None → SNAPSHOT_SLOTS ≤ length pairs
    → first_refusal (take_tests s name) ≡ Some SNAPFULL
full s name pairs most same good none many =
    let absent : frozen s name ≡ None = ap (named name) same ∙ none in
    let room : nat_le s.limits.snapshots (length s.snapshots) ≡ true = ap (λ (n : ℕ). nat_le n (length s.snapshots)) most ∙ ap (λ (ps : List (Name × Tree)). nat_le SNAPSHOT_SLOTS (length ps)) same ∙ le-leb SNAPSHOT_SLOTS (length pairs) many in
    rw (good, absent, room) refl

pub not_found : (disk : Blocks) (r : Root) (name : Name) (pairs : List (Name × Tree)) (found : Option FoundSnapshot) → is_some found ≡ false → FindsSnapshot r disk name pairs found → named name pairs ≡ None
not_found disk r name pairs None is finds = finds
not_found disk r name pairs (Some f) is finds = absurd (cc)

either_false : (a b : Bool) → (a || b) ≡ false → (a ≡ false) × (b ≡ false)
either_false true b is = absurd (cc)
either_false false b is = (refl, is)

-- a good name is neither empty nor too long
pub good_length : (name : Name) → is_bad_name name ≡ false → (1 ≤ length name) × (length name ≤ 63)
good_length name good =
    let first = either_false (length name == 0 || nat_lt 63 (length name)) (list_any (λ b. not (is_name_byte b)) name) good in
    let second = either_false (length name == 0) (nat_lt 63 (length name)) first.0 in (
      elim (cases_eq (length name) 0) [
        | inl none ↦ (let told : (length name == 0) ≡ true = eq-eqb (length name) 0 none in absurd (let both : true ≡ false = sym told ∙ second.0 in cc))
        | inr some ↦ omega arith
      ],
      elim (cases_lt 63 (length name)) [
        | inr le ↦ le
        | inl long ↦ (let told : nat_lt 63 (length name) ≡ true = le-leb 64 (length name) (omega arith) in absurd (let both : true ≡ false = sym told ∙ second.1 in cc))
      ],
    )

module _ (disk : Blocks) (r : Root) (root : IsRoot r) (name : Name) (v : Volume) (pairs : List (Name × Tree)) (holds : Holds r (whole disk r) v pairs) where
  are : AreSnapshots r (whole disk r)
  are = holds.sound.snapshots

  low_order : (last : ℕ) → HasNewestOrder disk r SNAPSHOT_SLOTS last → last ≤ r.generation
  low_order last newest = elim newest.found [
    | inl none ↦ omega (arith, none)
    | inr (j, s, lt, spelled, is) ↦
        let here : HasSnapshot r (whole disk r) (suc j) s = has disk r (suc j) (slice_index_or r.snapshots j Hole) s refl spelled in
        let each = are.each (suc j) here.block here.there in
        let one : each.0 ≡ s = one_snapshot disk r (suc j) each.0 s each.1 here in
        let low : s.order ≤ r.generation = subst (λ (x : Snapshot). x.order ≤ r.generation) one each.2.order in
        omega (arith, low, is)
  ]

  pub may_take : (t : Taking) (last : ℕ) → IsSlotNumber t.slot → slot r t.slot ≡ Hole → ((k : ℕ) → 1 ≤ k → k < t.slot → slot r k ≢ Hole) → is_bad_name name ≡ false → named name pairs ≡ None → HasNewestOrder disk r SNAPSHOT_SLOTS last → t.order ≡ last + 1
      → MayTake disk r name t
  may_take t last number free least good none newest order =
      let size = good_length name good in
      let low = low_order last newest in
      record {
        slot_is = number;
        free = free;
        least = least;
        next = (last, newest, order);
        some = size.0;
        short = size.1;
        names = λ k s has same. (let both : None ≡ Some (name, (one_named disk r name v pairs holds k s has same).tree) = sym none ∙ (one_named disk r name v pairs holds k s has same).listed in absurd (cc));
        orders = λ k s there.
            let at = in_slot r k there.block there.there in
            let most = newest.most at.0 s (omega (arith, at.2, root.slots)) (subst (λ i. SpellsSnapshot r.geometry.layout disk (slot r i) s) at.1 (spells disk r k s there)) in
            omega (arith, most, order);
        first = omega (arith, order);
        order = omega (arith, low, order);
      }

  pub has_room : (k : ℕ) → IsSlotNumber k → slot r k ≡ Hole → length pairs < SNAPSHOT_SLOTS
  has_room k number free = room_left disk r root are pairs k holds.kept number.first number.last free

  pub no_room : ((k : ℕ) → 1 ≤ k → k ≤ SNAPSHOT_SLOTS → slot r k ≡ Hole → ⊥) → SNAPSHOT_SLOTS ≤ length pairs
  no_room none = none_free disk r root are pairs holds.kept none
