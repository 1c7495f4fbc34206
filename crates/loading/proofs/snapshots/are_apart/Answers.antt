use Rattle.std.proofs.Common.{◌↔◌, List, ℕ, subst, sym}
use Rattle.std.specs.Prelude.{IsTrue}
use Rattle.layout.specs.declared.pointer.Pointer.{Pointer}
use Rattle.layout.specs.declared.pointer.Pointer.TheVariants.{Block}
use Rattle.loading.specs.Snapshots.{AreOfTwoSnapshots, AreApartAt}
use Rattle.loading.proofs.snapshots.are_apart.Goals as goal

pub returns-clause-apart : goal.returns-clause-apart
returns-clause-apart g c = λ disk shows.
    let layout = c.args.geometry.layout in
    let told = c.differ.result in
    let shown = c.in_ok-make_resident-2.ensures.same disk (c.in_ok-make_resident.ensures.same disk shows) in
    let blocks = subst (λ (x : List ℕ). IsTrue told ↔ AreOfTwoSnapshots layout x (disk c.in-Block-b.b)) (c.bytes.ensures disk shown)
    (subst (λ (x : List ℕ). IsTrue told ↔ AreOfTwoSnapshots layout c.bytes.result.now x) (c.bytes-2.ensures disk shown) c.differ.ensures) in
    subst (λ (p : Pointer). IsTrue told ↔ AreApartAt layout disk p c.args.b) (sym c.in-Block.is)
    (subst (λ (p : Pointer). IsTrue told ↔ AreApartAt layout disk (Block c.in-Block.a) p) (sym c.in-Block-b.is) blocks)
