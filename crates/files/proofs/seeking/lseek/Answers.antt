use Rattle.std.proofs.Common.{◌≡◌, ◌+ℤ◌, pos, ℕ, ℤ, w64, Some, Ok, sym, subst, ◌∙◌}
use Rattle.std.proofs.lemmas.Int.{to_z-of_z}
use Rattle.descriptors.specs.Tables.{open_at}
use Rattle.files.specs.Seeking.{IsPlace}
use Rattle.files.proofs.OpenLaws.{moved_numbers, moved_tree}
use Rattle.files.proofs.SeekLaws.{seek_moved}
use Rattle.files.proofs.seeking.lseek.Goals as goal

pub returns : goal.returns
returns c =
    let table = c.args.table.now in
    let f = c.in-Some.file in
    let place = c.in_ok-place.place in
    let some : open_at table c.args.fd ≡ Some f = sym c.get.ensures.file ∙ c.in-Some.is in
    let back = subst (λ (z : ℤ). IsPlace (pos c.base_of-base.result +ℤ z) (Ok place)) (to_z-of_z w64 c.args.offset c.ranges.offset) c.in_ok-place.ensures.place in
    record {
      answers = λ v fits.
          let base = c.base_of-base.ensures.base table v (fits.files c.args.fd f some) in
          seek_moved table v c.args.fd c.args.whence c.args.offset f place _ some (subst (λ (b : ℕ). IsPlace (pos b +ℤ c.args.offset) (Ok place)) base back)
          (moved_tree table c.set_offset.new.self v c.args.fd place f (c.set_offset.ensures.table f some));
      fits = c.set_offset.ensures.fits;
      mounted = c.set_offset.ensures.mounted;
      numbers = λ inodes has. moved_numbers inodes table c.set_offset.new.self c.args.fd place f some (λ d. c.set_offset.ensures.files d f some) has;
      own = tt;
      refused = tt;
    }
