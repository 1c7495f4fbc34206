use Rattle.std.proofs.Common.{◌≡◌, ◌⊎◌, ◌∙◌, Bool, Ok, Err, Result, ap, inr, subst, sym}
use Rattle.std.specs.Prelude.{IfOk, IsFalse, IsTrue, MatchResult, OnOk}
use Rattle.std.proofs.lemmas.Bool.{false≢true}
use Rattle.std.proofs.lemmas.Result.{IfOk-weaker, MatchResult-weaker}
use Rattle.station.specs.Moments.{Meaning}
use Rattle.layout.specs.Places.{blocks_of}
use Rattle.model.specs.Replies.{IsReplyTo}
use Rattle.model.specs.declared.errno.Errno.{Errno}
use Rattle.model.specs.declared.errno.Errno.TheVariants.{EIO, FAILED}
use Rattle.model.specs.declared.reply.Reply.{Reply}
use Rattle.model.specs.declared.reply.Reply.TheVariants.{Refused}
use Rattle.model.specs.Volumes.{Volume}
use Rattle.buffers.specs.Disks.{ReadsOn}
use Rattle.oplog.specs.Batches.{FitsHalf}
use Rattle.oplog.specs.LogEnd.{LogEnd}
use Rattle.overlay.specs.declared.overlay.Overlay.{Overlay}
use Rattle.system.specs.Systems.{Parts, disk_of, system_parts}
use Rattle.system.specs.declared.error.WaitError.{WaitError}
use Rattle.dispatch.specs.Preparing.{IsPreparedAt}
use Rattle.dispatch.specs.Serving.{IsAccepted, TellsNoFault}
use Rattle.dispatch.proofs.AnsweringLaws.{waits_none}
use Rattle.dispatch.proofs.LookedLaws.{ahead_shows, reads_on}
use Rattle.dispatch.proofs.OpenFileLaws.{changing_not_sure}
use Rattle.dispatch.proofs.PreparedLaws.{prepared_at, prepared_parts, prepared_still_ahead, refused_on}
use Rattle.dispatch.proofs.WaitingLaws.{done_from, same_free}
use Rattle.dispatch.proofs.waiting.change_waiting.Goals as goal

-- whatever came of it
on_ok : {T E : Type 0} (r : Result T E) {P : Type 0} → P → OnOk r P
on_ok (Ok x) p = p
on_ok (Err e) p = tt

either_not : {T E : Type 0} (P : Type 0) (r : Result T E) {Q : Type 0} → ¬ Q → MatchResult r (λ _. P ⊎ ¬ Q) (λ _. ¬ Q)
either_not P (Ok x) not = inr not
either_not P (Err e) not = not

-- an accepted reply is no refusal
no_refusal : (r : Result Reply WaitError) (given : Reply) → IfOk r (λ reply. reply ≡ given) → IsAccepted given → (errno : Errno) → r ≡ Ok (Refused errno) → ⊥
no_refusal (Ok reply) given is accepted errno same = accepted errno (let e : given ≡ Refused errno = cc in e)
no_refusal (Err e) given is accepted errno same = cc

not_both : {X : Type 0} {b : Bool} → IsFalse b → IsTrue b → X
not_both not is = absurd (false≢true (sym not ∙ is))

pub returns-in-Ok : goal.returns-in-Ok
returns-in-Ok g c =
    let f = c.args.system.now in
    let call = c.args.call.now in
    let mid = c.prepare.new.system in
    let new = c.carry_out_waiting.new.system in
    let p = c.in-Ok.prepared in
    let prepares = c.in-Ok.ensures in
    let looks = prepares.prepares.looks in
    let parts = prepares.parts in
    let within = prepares.prepares.within in
    let did = c.carry_out_waiting.ensures in
    let r = c.carry_out_waiting.result in
    let reads = reads_on {G = g.S.Station} looks.reads in
    let same : g.S.Station.meaning mid.blocks.buffers.station ≡ g.S.Station.meaning new.blocks.buffers.station = ap (λ (b : Overlay g.row.S.Denot g.S.Station). g.S.Station.meaning b.buffers.station) (sym did.blocks) in
    let log : mid.log ≡ f.log = ap (λ (k : Parts). k.log) parts in
    let view : new.view ≡ mid.view = ap (λ (k : Parts). k.view) did.parts in
    let said : new.session ≡ mid.session = ap (λ (k : Parts). k.session) did.parts in
    let not_sure = changing_not_sure {G = g.S.Station} f call c.requires in
    record {
      reads = subst (λ (m : Meaning). ReadsOn (g.S.Station.meaning f.blocks.buffers.station) m) same reads.below;
      counted = on_ok r (ap (λ (m : Meaning). m.failed_reads) (sym same) ∙ looks.reads.counted);
      fault = λ is. absurd (did.own.0 is);
      parts = did.parts ∙ (λ i. record (prepared_parts {G = g.S.Station} f mid call prepares i) {
        kept = (sym did.blocks i).buffers.kept;
        pending = (sym did.blocks i).pending;
        inodes = new.inodes;
        view = sym view i;
        files = new.files;
        session = sym said i;
      });
      pending = ap (λ (b : Overlay g.row.S.Denot g.S.Station). b.pending) did.blocks ∙ reads.pending;
      no_fault = IfOk-weaker r _ _ (λ reply is. subst TellsNoFault (sym is) (within.accepted EIO, within.accepted FAILED)) did.reply;
      kind = IfOk-weaker r _ _ (λ reply is. subst (IsReplyTo call) (sym is) within.kind) did.reply;
      looks = λ looking. not_both c.requires looking;
      own = λ looking. not_both c.requires looking;
      refused = λ errno is. absurd (no_refusal r p.reply did.reply within.accepted errno is);
      kept = did.kept;
      half = λ fits. did.half (subst (λ (l : LogEnd). FitsHalf l c.args.waiting.now.batch) (sym log) fits);
      at = λ s kept ahead.
          let on = prepared_still_ahead {G = g.S.Station} f mid call prepares ahead in
          let prepared = prepared_at {G = g.S.Station} f mid call p prepares (ahead_shows ahead) in
          MatchResult-weaker r (did.at call s kept on.still (subst (λ (w : Volume). IsPreparedAt (system_parts {G = g.S.Station} mid) (blocks_of (disk_of {G = g.S.Station} mid)) w call p) (sym on.volume) prepared))
          (done_from {G = g.S.Station} f mid new c.args.waiting.now c.carry_out_waiting.new.waiting s kept call (ap (λ (k : Parts). k.pledged) parts) (ap (λ (k : Parts). k.root) parts)
          (same_free {G = g.S.Station} f mid ahead on)) (λ e same. same);
      sure = λ s kept ahead. either_not _ r (not_sure.0 s (ahead_shows ahead));
      at_once = λ is. absurd (not_sure.1 is);
      damaged = λ s kept ahead is. did.own.1 is;
    }

pub returns-in-Err : goal.returns-in-Err
returns-in-Err g c =
    let f = c.args.system.now in
    let call = c.args.call.now in
    rw (c.waited.ensures, c.answer.ensures)
    (waits_none {G = g.S.Station} c.args.waiting.now _ (refused_on {G = g.S.Station} f c.prepare.new.system call (changing_not_sure {G = g.S.Station} f call c.requires) c.in-Err.failure c.in-Err.ensures))
