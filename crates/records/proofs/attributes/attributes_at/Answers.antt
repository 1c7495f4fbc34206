use Rattle.std.proofs.Common.{◌≡◌, ℕ, Option, ap, sym, subst, ◌∙◌}
use Rattle.std.specs.Prelude.{unwrap_or}
use Rattle.layout.specs.Inode.{FitsKind}
use Rattle.layout.specs.Limits.{Sizes}
use Rattle.layout.specs.declared.kind.Kind.{Kind}
use Rattle.layout.specs.declared.kind.Kind.TheVariants as kinds
use Rattle.model.specs.Attributes.{no_attributes}
use Rattle.model.specs.Volumes.{Node, attributes_of}
use Rattle.images.specs.Contents.{Content}
use Rattle.inofile.specs.Objects.{IsObjectKind}
use Rattle.inofile.specs.Settled.{content_of_object}
use Rattle.inofile.proofs.DetailLaws.{HasSizeOf, by_size}
use Rattle.records.specs.Attributes.{HasLinkMode}
use Rattle.records.proofs.Looking.{brought, fails, tells}
use Rattle.records.proofs.attributes.attributes_at.Goals as goal

-- the object that a content stands for has its attributes
same_attributes : (k : Kind) (inodes : ℕ) (c : Content) (o : Option Node) → IsObjectKind k → HasSizeOf k inodes c o → c.attributes ≡ unwrap_or (attributes_of o) no_attributes
same_attributes kinds.Free inodes c o kind stands = absurd kind
same_attributes kinds.File inodes c o kind stands = ap (λ (x : Option Node). unwrap_or (attributes_of x) no_attributes) (sym stands.2)
same_attributes kinds.Directory inodes c o kind stands = ap (λ (x : Option Node). unwrap_or (attributes_of x) no_attributes) (sym stands.2)
same_attributes kinds.Link inodes c o kind stands = ap (λ (x : Option Node). unwrap_or (attributes_of x) no_attributes) (sym stands.2)
same_attributes kinds.InodeFile inodes c o kind stands = absurd kind
same_attributes kinds.InodeMap inodes c o kind stands = absurd kind
same_attributes kinds.BlockMap inodes c o kind stands = absurd kind

-- and a link's mode
link_mode : (k : Kind) (s : Sizes) (inodes : ℕ) (c : Content) (o : Option Node) → IsObjectKind k → FitsKind k s c.attributes c.links c.size → HasSizeOf k inodes c o → HasLinkMode o
link_mode kinds.Free s inodes c o kind fits stands = absurd kind
link_mode kinds.File s inodes c o kind fits stands = subst HasLinkMode (sym stands.2) tt
link_mode kinds.Directory s inodes c o kind fits stands = subst HasLinkMode (sym stands.2) tt
link_mode kinds.Link s inodes c o kind fits stands = subst HasLinkMode (sym stands.2) fits.0
link_mode kinds.InodeFile s inodes c o kind fits stands = absurd kind
link_mode kinds.InodeMap s inodes c o kind fits stands = absurd kind
link_mode kinds.BlockMap s inodes c o kind fits stands = absurd kind

pub returns-in_err-load : goal.returns-in_err-load
returns-in_err-load g c = fails c.from_residual.result c.from_residual.ensures.1 (brought c.in_err-load.ensures)

pub returns-in-Some : goal.returns-in-Some
returns-in-Some g c = tells (brought c.in_ok-load.ensures) (λ detail disk settled v now any.
    let object = c.in-Some.object.now in
    let s = c.load.new.inodes.geometry in
    let content = content_of_object disk object in
    let o = c.in-Some.ensures.stands detail _ disk settled v now.volume in
    let sized = by_size detail object.status.kind s.inodes content (v c.args.number) o.stands in (
      same_attributes object.status.kind s.inodes content (v c.args.number) o.kind sized,
      link_mode object.status.kind s s.inodes content (v c.args.number) o.kind (o.fits s) sized,
    ))

pub returns-in-None : goal.returns-in-None
returns-in-None g c = tells (brought c.in_ok-load.ensures) (λ detail disk settled v now any.
    let none = c.in-None.ensures.stands_for_none detail _ disk settled v now.volume in (
      c.none.ensures ∙ ap (λ (x : Option Node). unwrap_or (attributes_of x) no_attributes) (sym none),
      subst HasLinkMode (sym none) tt,
    ))
