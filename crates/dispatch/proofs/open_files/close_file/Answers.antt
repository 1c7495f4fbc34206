use Rattle.std.proofs.Common.{◌∙◌, Err, ap, refl, subst, sym}
use Rattle.layout.specs.Limits.{Sizes}
use Rattle.model.specs.declared.command.Command.TheVariants as command
use Rattle.model.specs.declared.reply.Reply.TheVariants.{Done, Refused}
use Rattle.overlay.specs.declared.overlay.Overlay.{Overlay}
use Rattle.records.specs.Opened.{HasNumbers}
use Rattle.system.proofs.LookedLaws.{reads_nothing}
use Rattle.dispatch.proofs.CloseLaws.{close_leads, close_sure, orphans_not_sure}
use Rattle.dispatch.proofs.LookedLaws.{never_damaged, on_open}
use Rattle.dispatch.proofs.ServingLaws.{answered, damaged_too, done_is_no_fault, done_is_no_want, own_refusal, own_want, reads_err, reads_ok, unread}
use Rattle.dispatch.proofs.ShowingLaws.{stands_looked, still_shown, views_same}
use Rattle.dispatch.proofs.open_files.close_file.Goals as goal

pub returns-in-Ok-close : goal.returns-in-Ok-close
returns-in-Ok-close g c =
    let f = c.args.system.now in
    let fd = c.args.fd in
    let told = c.in-Ok.ensures in
    answered {G = g.S.Station} f _ (command.Close fd) refl (views_same {G = g.S.Station} f refl) Done (
      λ s shown. close_sure {G = g.S.Station} c.named_files_have_paths.ensures f s shown fd _ (on_open {G = g.S.Station} f shown told.still),
      λ is. (ap (λ (b : Overlay g.row.S.Denot g.S.Station). b.buffers.station) (told.linked is).0, done_is_no_want),
    )
    (reads_ok told.looks.reads) tt done_is_no_fault
    (λ s shown. close_leads {G = g.S.Station} c.records_lead_on.ensures f _ shown fd Done refl told.looks c.in-Ok-close.ensures refl)

pub returns-in-Err-close : goal.returns-in-Err-close
returns-in-Err-close g c =
    let f = c.args.system.now in
    let fd = c.args.fd in
    let errno = c.in-Err-close.errno in
    let told = c.in-Ok.ensures in
    let own = c.in-Err-close.ensures.own in
    answered {G = g.S.Station} f _ (command.Close fd) refl (views_same {G = g.S.Station} f refl) (Refused errno) (
      λ s shown. close_sure {G = g.S.Station} c.named_files_have_paths.ensures f s shown fd _ (on_open {G = g.S.Station} f shown told.still),
      λ is. (ap (λ (b : Overlay g.row.S.Denot g.S.Station). b.buffers.station) (told.linked is).0, own_want {T = Unit {0}} (Err errno) errno refl own),
    )
    (reads_ok told.looks.reads) tt (own_refusal {T = Unit {0}} (Err errno) errno refl own)
    (λ s shown. close_leads {G = g.S.Station} c.records_lead_on.ensures f _ shown fd (Refused errno) refl told.looks c.in-Err-close.ensures refl)

pub returns-in-Err : goal.returns-in-Err
returns-in-Err g c =
    let f = c.args.system.now in
    let told = c.in-Err.ensures in
    unread {G = g.S.Station} f _ (command.Close c.args.fd) refl (views_same {G = g.S.Station} f refl) c.in-Err.error
    (λ s shown. orphans_not_sure {G = g.S.Station} c.named_files_have_paths.ensures f s shown c.args.fd (on_open {G = g.S.Station} f shown told.sure), λ is. (told.linked is).1) (reads_err told.looks.reads)
    (λ s shown. still_shown {G = g.S.Station} f _ shown (stands_looked {G = g.S.Station} f shown told.looks) refl refl (λ v fits. fits))
    (λ s shown. damaged_too c.in-Err.error (never_damaged {G = g.S.Station} f shown told.damaged))

pub invariant_of-system : goal.invariant_of-system
invariant_of-system g c =
    let f = c.args.system.now in
    let looks = c.prepare_close.ensures.looks in
    let reads = looks.reads.reads f.blocks (reads_nothing g.S.Station f.blocks) in
    let geometry = c.close.ensures.geometry ∙ looks.geometry in
    record {
      sectors = reads.below.same.sectors ∙ f.sectors;
      nvram = reads.below.same.nvram_bytes ∙ f.nvram;
      half = f.half;
      sizes = geometry ∙ f.sizes;
      count = f.count;
      counted = f.counted;
      few = f.few;
      numbers = subst (λ (s : Sizes). HasNumbers s.inodes c.close.new.table) (sym geometry) (c.close.ensures.numbers f.inodes.geometry.inodes f.numbers);
      is_root = f.is_root;
    }

pub invariant_of-system-in-Err-prepare_close : goal.invariant_of-system-in-Err-prepare_close
invariant_of-system-in-Err-prepare_close g c =
    let f = c.args.system.now in
    let looks = c.prepare_close.ensures.looks in
    let reads = looks.reads.reads f.blocks (reads_nothing g.S.Station f.blocks) in
    record {
      sectors = reads.below.same.sectors ∙ f.sectors;
      nvram = reads.below.same.nvram_bytes ∙ f.nvram;
      half = f.half;
      sizes = looks.geometry ∙ f.sizes;
      count = f.count;
      counted = f.counted;
      few = f.few;
      numbers = subst (λ (s : Sizes). HasNumbers s.inodes f.files) (sym looks.geometry) f.numbers;
      is_root = f.is_root;
    }
