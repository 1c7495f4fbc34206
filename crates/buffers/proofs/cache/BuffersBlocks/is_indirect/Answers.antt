use Rattle.std.proofs.Common.{◌≡◌, ◌↔◌, ℕ, List, Option, Some, None, refl, sym, inl, subst}
use Rattle.std.specs.Prelude.{IsSome, IsTrue}
use Rattle.std.specs.Ordering.{nat_cmp}
use Rattle.std.specs.BTreeMap.{get}
use Rattle.layout.specs.Maps.{IsIndirectBlock}
use Rattle.buffers.specs.Disks.{numbered_blocks}
use Rattle.buffers.specs.declared.block.Block.{Block}
use Rattle.buffers.proofs.DiskLaws.{kept_less}
use Rattle.buffers.proofs.cache.BuffersBlocks.is_indirect.Goals as goal

-- what is told of the block that is there
told : (P : Block → Type 0) (bytes : List ℕ) (found : Option Block) → IsSome found → ((b : Block) → found ≡ Some b → P b) → ((b : Block) → found ≡ Some b → b ≡ bytes) → P bytes
told P bytes None there each is = cc
told P bytes (Some b) there each is = subst P (is b refl) (each b refl)

pub returns-clause-is : goal.returns-clause-is
returns-clause-is g c = λ disk shows.
    let blocks = numbered_blocks (g.S.Station.meaning c.args.self.now.station).sectors in
    told (λ b. IsTrue c.is_indirect.result ↔ IsIndirectBlock c.args.layout blocks c.args.used b) (disk c.args.place) (get nat_cmp c.args.self.now.kept.held c.args.place) c.requires
    (λ b got. subst (λ (n : ℕ). IsTrue c.is_indirect.result ↔ IsIndirectBlock c.args.layout n c.args.used b) c.count-blocks.ensures
    (c.is_indirect.ensures.is b (subst (λ (p : ℕ). get nat_cmp c.args.self.now.kept.held p ≡ Some b) (sym c.get.ensures) got)))
    (λ b got. shows.kept_is c.args.place b (inl got))

pub returns-clause-same : goal.returns-clause-same
returns-clause-same g c = λ disk shows.
    kept_less (g.S.Station.meaning c.args.self.now.station) c.args.self.now.kept c.is_indirect.new.self disk c.is_indirect.ensures.loses shows
