use Rattle.std.proofs.Common.{◌≡◌, ◌≤◌, Some, refl, sym, subst, ◌∙◌, arith}
use Rattle.model.specs.Volumes.{IsMounted, Volume}
use Rattle.inofile.specs.Room.{memory_room}
use Rattle.inofile.specs.Volumes.{IsVolumeOf}
use Rattle.descriptors.specs.Tables.{open_at, table_of}
use Rattle.files.proofs.CloseLaws.{close_done, close_mounted, close_refused, freed_numbers, none_swept, one_swept}
use Rattle.files.proofs.closing.close.Goals as goal

pub drop_unused-requires : goal.drop_unused-requires
drop_unused-requires c = λ none. c.requires c.in-Some.file (sym c.get.ensures.file ∙ c.in-Some.is) none

pub returns-in_default : goal.returns-in_default
returns-in_default c =
    let table = c.args.table.now in
    let none = sym c.get.ensures.file ∙ c.in_default.is in
    record {
      geometry = refl;
      answers = λ limits v volume mounted. close_refused table v mounted c.args.fd none;
      volume = λ count disk settled v stands mounted fits. subst (λ (w : Volume). IsVolumeOf count disk settled c.args.inodes.now w) (none_swept table v mounted) stands;
      room = λ base count disk settled v stands mounted fits. subst (λ (w : Volume). memory_room base c.args.inodes.now w ≤ memory_room base c.args.inodes.now v) (none_swept table v mounted) (omega arith);
      mounted = λ v mounted. subst (λ (w : Volume). IsMounted w (table_of table)) (none_swept table v mounted) mounted;
      fits = λ v fits. c.tables_follow_volumes.ensures.swept v fits;
      numbers = λ n has. has;
      own = refl;
      refused = refl;
      stays = refl;
    }

pub returns : goal.returns
returns c =
    let some : open_at c.args.table.now c.args.fd ≡ Some c.in-Some.file = sym c.get.ensures.file ∙ c.in-Some.is in
    record {
      geometry = c.drop_unused.ensures.geometry;
      answers = λ limits v volume mounted. close_done c.args.table.now c.close.new.self c.args.fd c.close.ensures.table v limits c.in-Some.file volume some;
      volume = λ count disk settled v stands mounted fits.
          subst (λ (w : Volume). IsVolumeOf count disk settled c.drop_unused.new.inodes w) (one_swept c.args.table.now c.close.new.self c.args.fd c.close.ensures.table v c.in-Some.file some mounted)
          (c.drop_unused.ensures.volume count disk settled v stands (fits.files c.args.fd c.in-Some.file some));
      room = λ base count disk settled v stands mounted fits.
          subst (λ (w : Volume). memory_room base c.drop_unused.new.inodes w ≤ memory_room base c.args.inodes.now v)
          (one_swept c.args.table.now c.close.new.self c.args.fd c.close.ensures.table v c.in-Some.file some mounted)
          (c.drop_unused.ensures.room base count disk settled v stands (fits.files c.args.fd c.in-Some.file some));
      mounted = λ v mounted. close_mounted c.args.table.now c.close.new.self c.args.fd c.close.ensures.table v mounted;
      fits = λ v fits. c.tables_follow_volumes-2.ensures.swept v (c.close.ensures.fits v fits);
      numbers = λ n has. freed_numbers n c.args.table.now c.close.new.self c.args.fd c.close.ensures.files has;
      own = tt;
      refused = tt;
      stays = tt;
    }
