use Rattle.std.proofs.Common.{◌≡◌, ◌≢◌, ℕ, ◌<◌, Ok}
use Rattle.layout.specs.declared.pointer.Pointer.TheVariants.{Block}
use Rattle.conspoint.specs.Drafts.{OnEach, IsReserved}
use Rattle.conspoint.specs.Groups.{pointer_at}
use Rattle.conspoint.specs.MapFiles.{StoresPart}
use Rattle.conspoint.specs.Steps.{Puts}
use Rattle.conspoint.proofs.map_file.store_map.Given as goal

abbrev pub invariant-loop-k : goal.invariant-loop-k
invariant-loop-k l = record {
  step : Puts {T = Unit {0}} l.fn.draft l.draft (Ok tt);
  stored : OnEach l.draft (λ e. (k b : ℕ) → k < l.k → pointer_at l.places k ≡ Block b → StoresPart l.fn.draft.map.parts.items k (e b));
  others : (p : ℕ) → IsReserved l.fn.draft p → ((k : ℕ) → k < l.k → pointer_at l.places k ≢ Block p) → IsReserved l.draft p;
}
