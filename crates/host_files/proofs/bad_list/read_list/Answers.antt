use Rattle.std.proofs.Common.{rules, refl}
use Rattle.host_files.proofs.BadListLemmas.{ended, fed}
use Rattle.host_files.specs.BadList.{list_text}
use Rattle.host_files.proofs.bad_list.read_list.Goals as goal
use Rattle.host_files.proofs.bad_list.read_list.Goals.{then-byte-eq-LINE_FEED+in_ok-end_line, else-byte-eq-LINE_FEED+in_ok-push}

pub loop-byte-preserved : goal.loop-byte-preserved
loop-byte-preserved c = elim c.if-byte-eq-LINE_FEED.branch [
  | then-byte-eq-LINE_FEED+in_ok-end_line w ↦ rw (w.list-is, w.word-is, w.clear.ensures.items) (
    w.in_ok-end_line.ensures.list,
    ended w.deref.result.now c.args.text.now c.loop-byte.list.items w.end_line.new.list.items c.args.sectors c.loop-byte.byte-index _ (search rules) refl (search rules) w.in_ok-end_line.ensures
        (rw w.deref.ensures.value c.loop-byte.invariant.1),
  )
  | else-byte-eq-LINE_FEED+in_ok-push w ↦ rw (w.list-is, w.word-is) (
    c.loop-byte.invariant.0,
    fed (list_text c.loop-byte.list.items) c.loop-byte.word.items c.args.text.now w.push.new.self.items c.loop-byte.byte-index _ (search rules) refl w.in_ok-push.ensures.items c.loop-byte.invariant.1,
  )
]
