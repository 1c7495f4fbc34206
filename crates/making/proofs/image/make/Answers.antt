use Rattle.std.proofs.Common.{◌≡◌, ℕ, ◌*◌, length, ap, sym, subst, ◌∙◌}
use Rattle.layout.specs.StateLimits.{limits_of}
use Rattle.model.specs.States.{empty}
use Rattle.layout.specs.Limits.{Sizes, sizes}
use Rattle.layout.specs.Version.{layout_of}
use Rattle.layout.specs.declared.trees.Layout.{Layout}
use Rattle.layout.specs.declared.version.TheConstants.{VERSION}
use Rattle.making.specs.Images.{HoldsMade, OpensAlone, new_sizes}
use Rattle.making.proofs.MadeLemmas.{made, opens}
use Rattle.making.proofs.image.make.Goals as goal

-- the sizes are those of an image that is made
sizes_are : (layout : Layout) (g : Sizes) (blocks inodes half : ℕ) → g ≡ sizes layout blocks inodes half → layout ≡ layout_of VERSION → g ≡ new_sizes blocks inodes half
sizes_are layout g blocks inodes half is same = is ∙ ap (λ (l : Layout). sizes l blocks inodes half) same

pub returns-in-Ok-write_image-clause-made : goal.returns-in-Ok-write_image-clause-made
returns-in-Ok-write_image-clause-made g c honest images left =
    let s = c.in-Some.geometry in
    let written = c.in-Ok-write_image.ensures.written (c.in-Ok-write_image.ensures.same.honest.1 honest) honest images left in
    subst (λ (t : Sizes). HoldsMade t images) (sizes_are c.layout_of.result s c.args.blocks c.args.inodes c.args.half c.in-Some.ensures.value c.layout_of.ensures)
    (made s c.in-Ok.point.plan c.in-Ok.point.root c.in-Ok.ensures.point images written)

pub returns-in-Ok-write_image-clause-opens : goal.returns-in-Ok-write_image-clause-opens
returns-in-Ok-write_image-clause-opens g c honest images left =
    let s = c.in-Some.geometry in
    let new = c.in-Ok-write_image.station in
    let m = g.S.Station.meaning new in
    let same = c.in-Ok-write_image.ensures.same in
    let written = c.in-Ok-write_image.ensures.written (same.honest.1 honest) honest images left in
    let sectors : m.sectors ≡ 8 * s.blocks =
    same.sectors ∙ sym c.sectors.ensures ∙ c.if-sectors.false ∙ c.sectors-2.ensures.value in
    let sized = g.met.S.Station.sized new honest images left in
    let size : length images.nvram ≡ 2 * s.half =
    sized.nvram ∙ same.nvram_bytes ∙ sym c.nv_bytes.ensures ∙ c.if-nv_bytes-nvram_bytes.false ∙ c.nvram_bytes.ensures.value in
    subst (λ (t : Sizes). OpensAlone m (empty (limits_of t)) images) (sizes_are c.layout_of.result s c.args.blocks c.args.inodes c.args.half c.in-Some.ensures.value c.layout_of.ensures)
    (opens s c.in-Ok.point.plan c.in-Ok.point.root c.in-Ok.ensures.point images written m.sectors sectors size c.first_images_open_to_the_empty_state.ensures)
