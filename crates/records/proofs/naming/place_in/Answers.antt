use Rattle.std.proofs.Common.{rules, ◌+◌, ◌≤◌, false, arith, sym, subst}
use Rattle.inode.specs.declared.file.File.{File}
use Rattle.dirs.specs.Edits.{HasEditedNames}
use Rattle.dirs.specs.Room.{piece_count}
use Rattle.dirs.specs.declared.edit.Edit.{Edit}
use Rattle.records.specs.Entering.{HasPlace}
use Rattle.records.specs.declared.naming.NameEdit.TheVariants as edits
use Rattle.records.proofs.EnterLaws.{full_has_no_place}
use Rattle.records.proofs.NamingLaws.{edit_follows, none_gone}
use Rattle.records.proofs.naming.place_in.Goals as goal

pub returns-in-Ok-true : goal.returns-in-Ok-true
returns-in-Ok-true g c = record {
  reads = search rules;
  same = search rules;
  fits = search rules;
  pieces = omega (arith, c.prepare_add.ensures.pieces);
  edited = λ disk names shows had.
      let room = c.in-Ok-true.ensures.room disk names shows had.1 had.0 (search rules) in
      let gone = none_gone c.args.entry.now.name.now names (c.in-Ok-true.ensures.missing disk names shows had.1 had.0 (search rules)) in (
        subst (HasPlace c.args.limits) (sym gone) (record { count = room.0; counts = room.1; room = room.2 }),
        c.in-Ok-true.ensures.added disk names shows had.1 had.0 (search rules),
        c.in-Ok-true.ensures.knows disk shows had.1,
      );
  damaged = search rules;
}

pub returns-in-Ok-false : goal.returns-in-Ok-false
returns-in-Ok-false g c =
    let still = c.in-Ok-false.ensures.same (search rules) in
    let edit = c.prepare_add.new.self in
    let mid = c.prepare_add.new.file in
    edit_follows {more = edits.Replace c.args.entry.now} {x = false} (search rules) (search rules) c.replace_in.ensures
    (subst (λ (e : Edit). piece_count edit + 2 ≤ piece_count e + 2) still.0 (omega arith)) (λ names. names)
    (λ disk names shows had. (
      subst (λ (e : Edit). HasEditedNames c.args.limits.inodes disk mid e names) (sym still.0)
          (subst (λ (f : File). HasEditedNames c.args.limits.inodes disk f c.args.edit names) (sym still.1) had.0),
      c.in-Ok-false.ensures.knows disk shows had.1,
    ))
    (λ disk names shows had o is. is)

pub returns-in-Err-DirFull : goal.returns-in-Err-DirFull
returns-in-Err-DirFull g c = record {
  reads = search rules;
  same = search rules;
  fits = search rules;
  pieces = tt;
  edited = λ disk names shows had place.
      let full = c.in-Err-DirFull.ensures.full disk names shows had.1 had.0 (search rules) in
      full_has_no_place c.args.limits names full.1 full.2 full.3 (subst (HasPlace c.args.limits) (none_gone c.args.entry.now.name.now names full.0) place);
  damaged = search rules;
}

pub returns : goal.returns
returns g c = record {
  reads = search rules;
  same = search rules;
  fits = search rules;
  pieces = tt;
  edited = search rules;
  damaged = λ disk names shows is had sound. c.in-Err-Damaged.ensures.damaged disk shows (search rules) (λ i below. sound i) (λ i below. (had.0.entries i, had.0.holds i below));
}
