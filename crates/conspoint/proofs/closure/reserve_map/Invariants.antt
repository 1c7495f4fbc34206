use Rattle.std.proofs.Common.{◌≡◌, ℕ, ◌+◌, ◌-◌, ◌≤◌, length}
use Rattle.conspoint.specs.Drafts.{Grows, IsReserved, WasTaken}
use Rattle.blockmap.specs.Maps.{entry_at}
use Rattle.conspoint.specs.Closures.{IsClosedOver}
use Rattle.layout.specs.declared.pointer.Pointer.TheVariants.{Block}
use Rattle.conspoint.specs.Groups.{pointer_at}
use Rattle.blockmap.specs.Space.{left}
use Rattle.conspoint.proofs.SpaceLemmas.{holes}
use Rattle.conspoint.proofs.closure.reserve_map.Given as goal

abbrev pub invariant-loop-k : goal.invariant-loop-k
invariant-loop-k l = record {
  grows : Grows l.fn.draft l.draft;
  takes : left l.fn.draft.map + holes l.places ≤ left l.draft.map + length l.places;
  size : length l.places ≡ length l.fn.places;
  entries : (b : ℕ) → entry_at l.draft.map.parts.items b ≡ entry_at l.fn.draft.map.parts.items b;
  others : (p : ℕ) → IsReserved l.fn.draft p → IsReserved l.draft p;
  taken : (k b : ℕ) → pointer_at l.places k ≡ Block b → WasTaken l.fn.draft l.draft b;
  closed : IsClosedOver l.draft l.settled l.places;
}

abbrev pub decreases-loop-k : goal.decreases-loop-k
decreases-loop-k l = l.draft.map.count - l.draft.map.next
