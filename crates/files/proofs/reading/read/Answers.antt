use Rattle.std.proofs.Common.{◌≡◌, ◌+◌, ℕ, List, length, min, Some, ap, subst, ◌∙◌}
use Rattle.paths.proofs.Looks.{looks_ok}
use Rattle.descriptors.specs.Files.{description_of, figures_of}
use Rattle.descriptors.specs.Tables.{put_open, table_of}
use Rattle.files.proofs.OpenLaws.{moved_numbers}
use Rattle.files.proofs.Preparing.{not_moved, passes, refused_at_once, sees}
use Rattle.descriptors.proofs.FitLemmas.{figured_file}
use Rattle.files.proofs.ReadLaws.{read_done, read_refused}
use Rattle.files.proofs.reading.read.Goals as goal

pub returns-in_err-file : goal.returns-in_err-file
returns-in_err-file g c =
    let errno = c.in_err-file.field-0.0 in
    not_moved (refused_at_once errno c.from_residual.result c.from_residual.ensures.1 c.in_err-file.ensures.own (λ disk settled v stands volume mounted fits.
    read_refused c.args.table.now v c.args.fd c.args.count errno c.in_err-file.ensures.passes))

pub returns-in_err-text : goal.returns-in_err-text
returns-in_err-text g c =
    let f = c.in_ok-file.file in
    not_moved (passes _ c.from_residual-in_err-text.result c.from_residual-in_err-text.ensures.1 (sees c.in_err-text.ensures (λ disk settled v stands volume mounted fits r reads. reads))
    (λ disk settled v stands volume mounted fits e none. absurd (none (figured_file (v f.number) (figures_of f) (fits.files c.args.fd f c.in_ok-file.ensures.passes.0)))))

pub returns : goal.returns
returns g c =
    let table = c.args.table.now in
    let new = c.set_offset.new.self in
    let fd = c.args.fd in
    let f = c.in_ok-file.file in
    let opened = c.in_ok-file.ensures.passes in
    record {
      looks = looks_ok c.in_ok-text.ensures.looks;
      own = tt;
      answers = λ disk settled v stands volume mounted fits.
          let reads = c.in_ok-text.ensures.tells disk settled v stands (figured_file (v f.number) (figures_of f) (fits.files fd f opened.0)) in
          let place = c.place_behind.ensures ∙ ap (λ (b : List ℕ). min (f.offset + length b) 9223372036854775807) c.as_bytes.ensures in
          let moved = subst (λ (p : ℕ). table_of new ≡ put_open fd (Some (record (description_of f) { offset = p })) (table_of table)) place (c.set_offset.ensures.table f opened.0) in
          read_done table v fd c.args.count new f c.in_ok-text.text opened c.in_ok-file.ensures.within fits reads moved;
      fits = c.set_offset.ensures.fits;
      mounted = c.set_offset.ensures.mounted;
      numbers = λ n has. moved_numbers n table new fd c.place_behind.result f opened.0 (λ d. c.set_offset.ensures.files d f opened.0) has;
      refused = tt;
      damaged = λ disk settled v stands bad. cc;
    }
