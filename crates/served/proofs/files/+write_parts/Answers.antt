use Rattle.std.proofs.Common.{◌≡◌, ◌+◌, ◌^◌, ℕ, length, take, drop, nat_lt, false, Some, Ok, Err, to_z, of_z, w64, refl, sym, ap, subst, ◌∙◌, arith}
use Rattle.std.proofs.lemmas.List.{drop_min, take_min}
use Rattle.model.specs.declared.command.Command.{Command}
use Rattle.model.specs.declared.errno.Errno.TheVariants as errno
use Rattle.model.specs.declared.limits.TheConstants.{TRANSFER_BYTES}
use Rattle.model.specs.declared.reply.Reply.TheVariants as reply
use Rattle.served.proofs.FilesLaws.{passed, writes_all, writes_end, writes_far, writes_part, writes_refused}
use Rattle.served.proofs.TurnLaws.{came_as}
use Rattle.served.proofs.files.+write_parts.Goals as goal
use Rattle.served.proofs.files.+write_parts.Goals.{then-parts-eq0-via-then-parts-eq0, then-parts-eq0-via-else-parts-eq0+then-is_empty}
use Rattle.served.specs.Files.{IsOffset, wrote_before, writes}
use Rattle.served.specs.Turns.{Came, asks}

pub returns-then-parts-eq0 : goal.returns-then-parts-eq0
returns-then-parts-eq0 g t c =
    let a = c.args in
    elim c.then-parts-eq0.branch [
      | then-parts-eq0-via-then-parts-eq0 w ↦ writes_end g.F.FileSystem a.fd a.offset a.files.now a.bytes.now a.parts a.done w.if-parts-eq0.true
      | then-parts-eq0-via-else-parts-eq0+then-is_empty w ↦ writes_all g.F.FileSystem a.fd a.offset a.files.now a.bytes.now a.parts a.done (sym w.is_empty.ensures ∙ w.if-is_empty.true)
    ]

pub returns-in_default : goal.returns-in_default
returns-in_default g t c =
    let a = c.args in
    let far : nat_lt (a.offset + a.done) (2 ^ 63) ≡ false = subst (λ (n : ℕ). nat_lt (a.offset + n) (2 ^ 63) ≡ false) c.from.ensures c.in_default.ensures in
    came_as g.F.FileSystem a.files.now a.files.now (writes a.fd a.offset a.bytes.now a.parts a.done) (wrote_before a.done errno.EFBIG) c.refused_behind.result c.refused_behind.ensures
    (writes_far g.F.FileSystem a.fd a.offset a.files.now a.bytes.now a.parts a.done (omega (arith, c.if-parts-eq0.false)) (sym c.is_empty.ensures ∙ c.if-is_empty.false) far)

pub returns-in-Ok : goal.returns-in-Ok
returns-in-Ok g t c =
    let a = c.args in
    let part = c.split_at.result.0.now in
    let at = to_z w64 (of_z w64 c.in-Some.at) in
    let low : IsOffset (a.offset + a.done) (Some at) =
    passed (a.offset + a.done) c.in-Some.at (subst (λ (n : ℕ). IsOffset (a.offset + n) (Some c.in-Some.at)) c.from.ensures c.in-Some.ensures) in
    let so : part ≡ take TRANSFER_BYTES a.bytes.now = c.split_at.ensures.front ∙ (ap (λ (k : ℕ). take k a.bytes.now) c.min.ensures ∙ take_min TRANSFER_BYTES a.bytes.now) in
    let rests : c.split_at.result.1.now ≡ drop TRANSFER_BYTES a.bytes.now = c.split_at.ensures.back ∙ (ap (λ (k : ℕ). drop k a.bytes.now) c.min.ensures ∙ drop_min TRANSFER_BYTES a.bytes.now) in
    writes_part g.F.FileSystem a.fd a.offset a.files.now c.ask_wrote.new.files c.write_parts.new.files a.bytes.now a.parts a.done at part c.split_at.result.1.now (a.done + length part)
    c.in-Ok.field-0 c.write_parts.result (omega (arith, c.if-parts-eq0.false)) (sym c.is_empty.ensures ∙ c.if-is_empty.false) low so rests refl
    (subst (λ (k : Command). Came g.F.FileSystem a.files.now c.ask_wrote.new.files (asks reply.Wrote k) (Ok c.in-Ok.field-0)) c.pwrite.ensures c.in-Ok.ensures) c.write_parts.ensures

pub returns-in-Err : goal.returns-in-Err
returns-in-Err g t c =
    let a = c.args in
    let part = c.split_at.result.0.now in
    let at = to_z w64 (of_z w64 c.in-Some.at) in
    let low : IsOffset (a.offset + a.done) (Some at) =
    passed (a.offset + a.done) c.in-Some.at (subst (λ (n : ℕ). IsOffset (a.offset + n) (Some c.in-Some.at)) c.from.ensures c.in-Some.ensures) in
    let so : part ≡ take TRANSFER_BYTES a.bytes.now = c.split_at.ensures.front ∙ (ap (λ (k : ℕ). take k a.bytes.now) c.min.ensures ∙ take_min TRANSFER_BYTES a.bytes.now) in
    came_as g.F.FileSystem a.files.now c.ask_wrote.new.files (writes a.fd a.offset a.bytes.now a.parts a.done) (wrote_before a.done c.in-Err.errno) c.refused_behind-in-Err.result c.refused_behind-in-Err.ensures
    (writes_refused g.F.FileSystem a.fd a.offset a.files.now c.ask_wrote.new.files a.bytes.now a.parts a.done at part c.in-Err.errno (omega (arith, c.if-parts-eq0.false))
    (sym c.is_empty.ensures ∙ c.if-is_empty.false) low so
    (subst (λ (k : Command). Came g.F.FileSystem a.files.now c.ask_wrote.new.files (asks reply.Wrote k) (Err c.in-Err.errno)) c.pwrite.ensures c.in-Err.ensures))
