use Rattle.std.proofs.Common.{Bool, true, false, [], ℕ, List, Option, sym, subst, ◌∙◌}
use Rattle.std.proofs.lemmas.Fn.{says_at}
use Rattle.std.specs.Fn.{FnReturnsAt}
use Rattle.std.specs.Io.KnownBytes.{prepend_known}
use Rattle.session.specs.Shells.{EndsListening}
use Rattle.session.proofs.AnswerLemmas.{done_none}
use Rattle.session.proofs.ReadingLemmas.{known_none}
use Rattle.session.proofs.ShellLemmas.{ends_all, ends_at_first, ends_unread, ends_unsaid, listening_more, listening_none, IsListening}
use Rattle.session.specs.declared.status.Status.TheVariants.{Done, NoMemory}
use Rattle.session.proofs.line_by_line.answer_lines.Goals as goal

pub returns-then-was_cut-clause-ends : goal.returns-then-was_cut-clause-ends
returns-then-was_cut-clause-ends g c =
    let fs = c.args.fs.now in
    let cut = λ (b : Bool). FnReturnsAt g.C.Fn c.args.was_cut.now fs.system.blocks.buffers.station b in
    ends_at_first fs _ _ _ cut c.show_cut.result (done_none fs c.begins.ensures)
    (subst (λ s. FnReturnsAt g.C.Fn c.args.was_cut.now s true) c.station.ensures (says_at g.C.Fn c.was_cut.ensures c.if-was_cut.true)) c.show_cut.ensures.shows

pub loop-init : goal.loop-init
loop-init g c =
    let fs = c.args.fs.now in
    let cut = λ (b : Bool). FnReturnsAt g.C.Fn c.args.was_cut.now fs.system.blocks.buffers.station b in
    let r = g.R.Read.remaining c.args.input.now.inner in
    let out = g.O.Write.contents c.args.out.now.inner in
    let going = subst (λ s. FnReturnsAt g.C.Fn c.args.was_cut.now s false) c.station.ensures (says_at g.C.Fn c.was_cut.ensures c.if-was_cut.false) in
    record {
      listening = subst (λ (l : List ℕ). IsListening {G = g.S.Station} fs fs (prepend_known [] r) (prepend_known l r) out out cut) (sym c.new-pending.ensures.items)
          (listening_none fs (prepend_known [] r) out cut (done_none fs c.begins.ensures) going);
      quiet = c.prompt.ensures;
    }

pub returns-in-Err-clause-ends : goal.returns-in-Err-clause-ends
returns-in-Err-clause-ends g c =
    let cut = λ (b : Bool). FnReturnsAt g.C.Fn c.args.was_cut.now c.loop.fs.system.blocks.buffers.station b in
    let r = g.R.Read.remaining c.args.input.now.inner in
    subst (λ (k : Option (List ℕ)). EndsListening {G = g.S.Station} c.args.fs.now c.loop.fs cut k (g.O.Write.contents c.args.out.now.inner) (g.O.Write.contents c.loop.out.inner) c.in-Err.status) (known_none r)
    (ends_unread c.args.fs.now c.loop.fs (prepend_known [] r) _ _ _ cut c.in-Err.status c.loop.invariant.listening c.in-Err.ensures.line)

pub returns-in-Err-answer_heard-clause-ends : goal.returns-in-Err-answer_heard-clause-ends
returns-in-Err-answer_heard-clause-ends g c =
    let before = λ (b : Bool). FnReturnsAt g.C.Fn c.args.was_cut.now c.loop.fs.system.blocks.buffers.station b in
    let now = λ (b : Bool). FnReturnsAt g.C.Fn c.args.was_cut.now c.answer_heard.new.fs.system.blocks.buffers.station b in
    let r = g.R.Read.remaining c.args.input.now.inner in
    let status = c.in-Err-answer_heard.status in
    let read = rw c.in-Ok-Some.field-0-is at c.in-Ok-Some.ensures.line in
    subst (λ (k : Option (List ℕ)). EndsListening {G = g.S.Station} c.args.fs.now c.answer_heard.new.fs now k (g.O.Write.contents c.args.out.now.inner) (g.O.Write.contents c.answer_heard.new.out.inner) status) (known_none r)
    (ends_unsaid c.args.fs.now c.loop.fs c.answer_heard.new.fs (prepend_known [] r) _ _ _ _ read.0 before now status c.loop.invariant.listening (c.in-Err-answer_heard.ensures.answers read.0 read.2))

pub loop-preserved : goal.loop-preserved
loop-preserved g c =
    let before = λ (b : Bool). FnReturnsAt g.C.Fn c.args.was_cut.now c.loop.fs.system.blocks.buffers.station b in
    let now = λ (b : Bool). FnReturnsAt g.C.Fn c.args.was_cut.now c.answer_heard.new.fs.system.blocks.buffers.station b in
    let r = g.R.Read.remaining c.args.input.now.inner in
    let read = rw c.in-Ok-Some.field-0-is at c.in-Ok-Some.ensures.line in
    record {
      listening = listening_more c.args.fs.now c.loop.fs c.answer_heard.new.fs (prepend_known [] r) _ _ _ _ _ read.0 before now c.loop.invariant.listening read.1 (c.in_default.ensures.answers read.0 read.2);
      quiet = λ off. c.prompt-in-loop.ensures off ∙ c.loop.invariant.quiet off;
    }

pub returns-clause-ends : goal.returns-clause-ends
returns-clause-ends g c =
    let cut = λ (b : Bool). FnReturnsAt g.C.Fn c.args.was_cut.now c.loop.fs.system.blocks.buffers.station b in
    let r = g.R.Read.remaining c.args.input.now.inner in
    subst (λ (k : Option (List ℕ)). EndsListening {G = g.S.Station} c.args.fs.now c.loop.fs cut k (g.O.Write.contents c.args.out.now.inner) (g.O.Write.contents c.loop.out.inner) NoMemory) (known_none r)
    (ends_unread c.args.fs.now c.loop.fs (prepend_known [] r) _ _ _ cut NoMemory c.loop.invariant.listening tt)

pub returns-in-Ok-None-clause-ends : goal.returns-in-Ok-None-clause-ends
returns-in-Ok-None-clause-ends g c =
    let cut = λ (b : Bool). FnReturnsAt g.C.Fn c.args.was_cut.now c.loop.fs.system.blocks.buffers.station b in
    let r = g.R.Read.remaining c.args.input.now.inner in
    let end = rw c.in-Ok-None.field-0-is at c.in-Ok-None.ensures.line in
    subst (λ (k : Option (List ℕ)). EndsListening {G = g.S.Station} c.args.fs.now c.loop.fs cut k (g.O.Write.contents c.args.out.now.inner) (g.O.Write.contents c.loop.out.inner) Done) (known_none r)
    (ends_all c.args.fs.now c.loop.fs (prepend_known [] r) _ _ _ cut c.loop.invariant.listening end)
