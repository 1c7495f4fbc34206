use Rattle.std.proofs.Common.{Bool, true, false, [], ℕ, List, Option, inl, inr, sym, subst, ◌∙◌}
use Rattle.std.proofs.lemmas.Fn.{says_at}
use Rattle.std.specs.Fn.{FnReturnsAt}
use Rattle.std.specs.Io.KnownBytes.{prepend_known}
use Rattle.session.specs.Talks.{EndsTalking}
use Rattle.session.proofs.ReadingLemmas.{known_none}
use Rattle.session.proofs.TalkingLemmas.{ends_at_first, ends_by, ends_done, ends_refused, ends_unread, talking_more, talking_none, IsTalking}
use Rattle.session.specs.declared.status.Status.TheVariants.{NoMemory}
use Rattle.session.proofs.in_batches.answer_lines.Goals as goal

pub returns-then-was_cut-clause-ends : goal.returns-then-was_cut-clause-ends
returns-then-was_cut-clause-ends g c answered =
    let files = c.args.files.now in
    let cut = λ (b : Bool). FnReturnsAt g.C.Fn c.args.was_cut.now files.fs.system.blocks.buffers.station b in
    ends_at_first c.args.manners files (g.R.Read.remaining c.args.input.now.inner) (g.O.Write.contents c.args.out.now.inner) _ cut c.show_cut.result answered
    (subst (λ s. FnReturnsAt g.C.Fn c.args.was_cut.now s true) c.station.ensures (says_at g.C.Fn c.was_cut.ensures c.if-was_cut.true)) c.show_cut.ensures.shows

pub loop-init : goal.loop-init
loop-init g c =
    let files = c.args.files.now in
    let r = g.R.Read.remaining c.args.input.now.inner in
    let out = g.O.Write.contents c.args.out.now.inner in
    record {
      talking = λ answered. subst (λ (l : List ℕ). IsTalking {G = g.S.Station} c.args.manners files (prepend_known [] r) out files out (prepend_known l r) c.new-kept.result) (sym c.new-pending.ensures.items)
          (talking_none c.args.manners files (prepend_known [] r) out c.new-kept.result answered c.new-kept.ensures);
      quiet = c.prompt.ensures;
    }

pub returns-in-Ok-None-clause-ends : goal.returns-in-Ok-None-clause-ends
returns-in-Ok-None-clause-ends g c answered =
    let first = c.args.files.now in
    let new = c.end.new.files in
    let cut = λ (b : Bool). FnReturnsAt g.C.Fn c.args.was_cut.now new.fs.system.blocks.buffers.station b in
    let r = g.R.Read.remaining c.args.input.now.inner in
    let out = g.O.Write.contents c.args.out.now.inner in
    let end = rw c.in-Ok-None.field-0-is at c.in-Ok-None.ensures.line in
    let so_far = c.loop.invariant.talking answered in
    subst (λ (k : Option (List ℕ)). EndsTalking {G = g.S.Station} c.args.manners first new cut k out (g.O.Write.contents c.end.new.out.inner) c.end.result) (known_none r)
    (ends_done c.args.manners first (prepend_known [] r) out c.loop.files _ _ c.loop.kept so_far new _ cut c.end.result end c.end.ensures.emptied
    (c.end.ensures.settles c.args.manners.durability first out so_far.dialog false so_far.under_way))

pub returns-in-Err-clause-ends : goal.returns-in-Err-clause-ends
returns-in-Err-clause-ends g c answered =
    let first = c.args.files.now in
    let cut = λ (b : Bool). FnReturnsAt g.C.Fn c.args.was_cut.now c.loop.files.fs.system.blocks.buffers.station b in
    let r = g.R.Read.remaining c.args.input.now.inner in
    let out = g.O.Write.contents c.args.out.now.inner in
    subst (λ (k : Option (List ℕ)). EndsTalking {G = g.S.Station} c.args.manners first c.loop.files cut k out (g.O.Write.contents c.loop.out.inner) c.in-Err.status) (known_none r)
    (ends_unread c.args.manners first (prepend_known [] r) out c.loop.files _ _ c.loop.kept (c.loop.invariant.talking answered) cut c.in-Err.status c.in-Err.ensures.line)

pub returns-then-ends_run_at-clause-ends : goal.returns-then-ends_run_at-clause-ends
returns-then-ends_run_at-clause-ends g c answered =
    let first = c.args.files.now in
    let d = c.args.manners.durability in
    let last = c.end-then-ends_run_at.new.files in
    let cut = λ (b : Bool). FnReturnsAt g.C.Fn c.args.was_cut.now last.fs.system.blocks.buffers.station b in
    let r = g.R.Read.remaining c.args.input.now.inner in
    let out = g.O.Write.contents c.args.out.now.inner in
    let read = rw c.in-Ok-Some.field-0-is at c.in-Ok-Some.ensures.line in
    let so_far = c.loop.invariant.talking answered in
    let on = c.in-Ok.ensures.goes_on first out so_far.dialog read.0 so_far.under_way read.2 in
    subst (λ (k : Option (List ℕ)). EndsTalking {G = g.S.Station} c.args.manners first last cut k out (g.O.Write.contents c.end-then-ends_run_at.new.out.inner) c.end-then-ends_run_at.result) (known_none r)
    (ends_refused c.args.manners first (prepend_known [] r) out c.loop.files _ _ c.loop.kept so_far _ read.0 read.1 c.answer_line.new.files _ c.answer_line.new.kept c.in-Ok.is_refused on last _ cut c.end-then-ends_run_at.result
    (sym c.ends_run_at.ensures ∙ c.if-ends_run_at.true) c.end-then-ends_run_at.ensures.emptied
    (c.end-then-ends_run_at.ensures.settles d first out _ false on.under_way))

pub returns-in-Err-answer_line-clause-ends : goal.returns-in-Err-answer_line-clause-ends
returns-in-Err-answer_line-clause-ends g c answered =
    let first = c.args.files.now in
    let new = c.answer_line.new.files in
    let cut = λ (b : Bool). FnReturnsAt g.C.Fn c.args.was_cut.now new.fs.system.blocks.buffers.station b in
    let r = g.R.Read.remaining c.args.input.now.inner in
    let out = g.O.Write.contents c.args.out.now.inner in
    let read = rw c.in-Ok-Some.field-0-is at c.in-Ok-Some.ensures.line in
    let so_far = c.loop.invariant.talking answered in
    subst (λ (k : Option (List ℕ)). EndsTalking {G = g.S.Station} c.args.manners first new cut k out (g.O.Write.contents c.answer_line.new.out.inner) c.in-Err-answer_line.status) (known_none r)
    (ends_by c.args.manners first (prepend_known [] r) out c.loop.files _ _ c.loop.kept so_far _ read.0 read.1 new _ cut c.in-Err-answer_line.status
    (c.in-Err-answer_line.ensures.goes_on first out so_far.dialog read.0 so_far.under_way read.2))

pub loop-preserved : goal.loop-preserved
loop-preserved g c =
    let first = c.args.files.now in
    let r = g.R.Read.remaining c.args.input.now.inner in
    let out = g.O.Write.contents c.args.out.now.inner in
    let read = rw c.in-Ok-Some.field-0-is at c.in-Ok-Some.ensures.line in
    record {
      talking = λ answered.
          let so_far = c.loop.invariant.talking answered in
          talking_more c.args.manners first (prepend_known [] r) out c.loop.files _ _ c.loop.kept so_far _ read.0 read.1 c.answer_line.new.files _ c.answer_line.new.kept c.in-Ok.is_refused
          (c.in-Ok.ensures.goes_on first out so_far.dialog read.0 so_far.under_way read.2) (sym c.ends_run_at.ensures ∙ c.if-ends_run_at.false);
      quiet = λ off. c.prompt-in-loop.ensures off ∙ c.loop.invariant.quiet off;
    }

pub returns-clause-ends : goal.returns-clause-ends
returns-clause-ends g c answered =
    let first = c.args.files.now in
    let cut = λ (b : Bool). FnReturnsAt g.C.Fn c.args.was_cut.now c.loop.files.fs.system.blocks.buffers.station b in
    let r = g.R.Read.remaining c.args.input.now.inner in
    let out = g.O.Write.contents c.args.out.now.inner in
    subst (λ (k : Option (List ℕ)). EndsTalking {G = g.S.Station} c.args.manners first c.loop.files cut k out (g.O.Write.contents c.loop.out.inner) NoMemory) (known_none r)
    (ends_unread c.args.manners first (prepend_known [] r) out c.loop.files _ _ c.loop.kept (c.loop.invariant.talking answered) cut NoMemory tt)
