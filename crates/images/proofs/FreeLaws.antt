-- Blocks that are free are no matter: disks that differ in them alone open to the same states.
use Rattle.std.proofs.Common.{◌≡◌, ℕ, ◌+◌, ◌*◌, ◌/◌, ◌<◌, List, refl, sym, subst, arith}
use Rattle.layout.specs.Opens.{IsNewest}
use Rattle.layout.specs.Places.{blocks_of}
use Rattle.layout.specs.Root.{IsRoot}
use Rattle.layout.specs.declared.TheConstants.{SLOT_A, SLOT_B}
use Rattle.layout.specs.declared.root.Root.{Root}
use Rattle.model.specs.States.{State}
use Rattle.images.specs.Nodes.{Agrees}
use Rattle.images.specs.Roots.{whole, Needs}
use Rattle.images.specs.BlockMap.{entry, IsExact, roots}
use Rattle.images.specs.States.{Holds, Opens, OpensBy, SameButFree, HasReserve}
use Rattle.images.proofs.Frames.{whole_same}
use Rattle.images.proofs.PointLaws.{free_is_free}
use Rattle.images.proofs.StateLaws.{newest_is_root}
use Rattle.layout.proofs.PointerLaws.{same_block}
use Rattle.images.proofs.EmptyLaws.{no_bit}

-- what a root needs stands in sectors that aren't free
needs_same : (d e : ℕ → List ℕ) (r : Root) → IsRoot r → IsExact r (whole (blocks_of d) r) → SameButFree r d e → Agrees (Needs r (whole (blocks_of d) r)) (blocks_of d) (blocks_of e)
needs_same d e r root exact same b needs = same_block d e b (λ i lt.
    same (8 * b + i) (λ free.
    let block : (8 * b + i) / 8 ≡ b = omega arith in
    free_is_free (blocks_of d) r b root exact (subst (λ n. entry (whole (blocks_of d) r).active n ≡ 0) block free) needs))

-- and so do the two slots
slot_same : (d e : ℕ → List ℕ) (r : Root) (n : ℕ) → IsExact r (whole (blocks_of d) r) → SameButFree r d e → n / 8 < 2 → e n ≡ d n
slot_same d e r n exact same low = same n (λ free. no_bit 31 _ free ((exact.system (n / 8)).1 (roots low)))

pub open_alike : (sectors : ℕ) (d e : ℕ → List ℕ) (nvram : List ℕ) (s : State) → (o : Opens sectors d nvram s) → SameButFree o.root d e → OpensBy sectors e nvram s o.changes
open_alike sectors d e nvram s o same =
    let r = o.root in
    let is_root = newest_is_root r (d SLOT_A) (d SLOT_B) o.newest in
    let exact = o.holds.sound.exact in
    let whole_is : whole (blocks_of e) r ≡ whole (blocks_of d) r = whole_same (blocks_of d) (blocks_of e) r (needs_same d e r is_root exact same) in
    let a : e SLOT_A ≡ d SLOT_A = slot_same d e r SLOT_A exact same (omega arith) in
    let b : e SLOT_B ≡ d SLOT_B = slot_same d e r SLOT_B exact same (omega arith) in
    record {
      opens = record {
        root = r;
        newest = subst (λ x. IsNewest r x (e SLOT_B)) (sym a) (subst (IsNewest r (d SLOT_A)) (sym b) o.newest);
        size = o.size;
        first = o.first;
        snapshots = o.snapshots;
        holds = subst (λ w. Holds r w o.first o.snapshots) (sym whole_is) o.holds;
        changes = o.changes;
        log = o.log;
        room = subst (λ w. HasReserve r w o.first o.changes) (sym whole_is) o.room;
        last = o.last;
        replays = o.replays;
        state = o.state;
      };
      these = refl;
    }
