-- A root without snapshots.
use Rattle.std.proofs.Common.{◌≡◌, ℕ, []}
use Rattle.layout.specs.declared.pointer.Pointer.TheVariants.{Hole}
use Rattle.layout.specs.declared.root.Root.{Root}
use Rattle.images.specs.Roots.{Whole, slot}
use Rattle.images.specs.Snapshots.{AreKept, AreSnapshots}
use Rattle.layout.proofs.PointerLaws.{no_block}

pub no_snapshots : (r : Root) (w : Whole) → ((k : ℕ) → slot r k ≡ Hole) → AreSnapshots r w
no_snapshots r w slots = record {
  each = λ k block there. absurd (no_block (slot r k) block (slots k) there);
  names = λ k l s q one two same. absurd (no_block (slot r k) one.block (slots k) one.there);
  orders = λ k l s q one two same. absurd (no_block (slot r k) one.block (slots k) one.there);
}

pub none_kept : (r : Root) (w : Whole) → ((k : ℕ) → slot r k ≡ Hole) → AreKept r w []
none_kept r w slots = λ k s has. absurd (no_block (slot r k) has.block (slots k) has.there)
